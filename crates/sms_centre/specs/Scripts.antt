-- Scripts: what is done with submit_sm k.
use Rattle.std.specs.Prelude.{ℕ, ◌-◌, min, List, length, slice_index_or}
use Rattle.sms_centre.specs.declared.treatment.Treatment.{Treatment}
use Rattle.sms_centre.specs.declared.treatment.Treatment.TheVariants.{Silent}

-- the status of the answer to a bind, and the treatments
pub record Plan : Type 0 where
  pub bind_status : ℕ
  pub treatments : List Treatment

-- submit_sm are counted from 1; past the end the last one stands
abbrev pub treatment : Plan → ℕ → Treatment
treatment p k = slice_index_or p.treatments (min (k - 1) (length p.treatments - 1)) Silent
