-- How many units fit into the 140 octets of user data (3GPP TS 23.040 9.2.3.24).
use Rattle.std.specs.Prelude.{ℕ}
use Rattle.sms_alphabet.specs.declared.coded.Coding.{Coding}
use Rattle.sms_alphabet.specs.declared.coded.Coding.TheVariants.{Gsm, Ucs2}
use Rattle.sms_segment.specs.declared.place.Reference.{Reference}
use Rattle.sms_segment.specs.declared.place.Reference.TheVariants.{Short, Long}

-- the most units of a text that is sent whole
abbrev pub single_limit : Coding → ℕ
single_limit Gsm = 160
single_limit Ucs2 = 70

-- the most units of a part, by the kind of reference that its header has
abbrev pub part_limit : Reference → Coding → ℕ
part_limit (Short number) Gsm = 153
part_limit (Short number) Ucs2 = 67
part_limit (Long number) Gsm = 152
part_limit (Long number) Ucs2 = 66
