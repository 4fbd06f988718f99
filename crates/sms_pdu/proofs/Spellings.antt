-- Laws about the spellings of PDUs.
use Rattle.std.proofs.Common.{◌≡◌, ◌≤◌, ◌++◌, length, sym, ◌∙◌, arith}
use Rattle.std.proofs.lemmas.List.{length-append, nil_from_length}
use Rattle.sms_pdu.specs.Laws.{OneSpelling, OneReading, NoPrefix, SpellingIsFrame}
use Rattle.sms_pdu.proofs.Parameters.{ok_is}
use Rattle.sms_pdu.proofs.Fronts.{announced-append}
use Rattle.sms_pdu.proofs.Wholes.{reading_again, spelled_heads}
use Rattle.sms_pdu.proofs.Writings.{one_text}

pub one_spelling : OneSpelling
one_spelling p lawful = (lawful.0, lawful.1, λ others s. one_text p others lawful.0 s lawful.1)

pub one_reading : OneReading
one_reading octets p q s t = ok_is p q (sym (reading_again p octets s) ∙ reading_again q octets t)

pub no_prefix : NoPrefix
no_prefix p q octets more s t =
    let h = spelled_heads p octets s in
    let k = spelled_heads q (octets ++ more) t in
    let begun : 4 ≤ length octets = omega (arith, h.long) in
    let same : length (octets ++ more) ≡ length octets = sym k.len ∙ announced-append octets more begun ∙ h.len in
    nil_from_length more (omega (arith, same, length-append octets more))

pub spelling_is_frame : SpellingIsFrame
spelling_is_frame p octets s =
    let h = spelled_heads p octets s in
    record { good = record { least = h.long; most = s.most }; announces = h.len }
