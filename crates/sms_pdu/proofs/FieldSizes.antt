-- The lengths of the fields of a table, one after the other.
use Rattle.std.proofs.Common.{◌≡◌, ℕ, ◌+◌, List, [], ◌∷◌, Result, Ok, Err, refl}
use Rattle.std.specs.Result.{IsErrAnd}
use Rattle.sms_pdu.specs.declared.error.PduError.{PduError}
use Rattle.sms_pdu.specs.declared.body.Sm.{Sm}
use Rattle.sms_pdu.specs.Layout.{Row, Value, Values, sm_fields}
use Rattle.sms_pdu.specs.Grammar.{sm_values}
use Rattle.sms_pdu.specs.Size.{value_size, values_size, tail_size, sm_size}

-- with these values the length comes to this one
pub record Measures (rows : List Row) (values : Values rows) (before size : ℕ) : Type 0 where
  pub told : values_size rows values before ≡ Ok size

-- a value of these has this fault, and no value before it
pub record Misfits (rows : List Row) (values : Values rows) (before : ℕ) (e : PduError) : Type 0 where
  pub told : values_size rows values before ≡ Err e

pub no_more : {size : ℕ} → Measures [] tt size size
no_more = record { told = refl }

pub and_measures : {row : Row} {rows : List Row} {value : Value row.kind} {others : Values rows} {before more size : ℕ} → Ok more ≡ value_size row.field row.kind value → Measures rows others (before + more) size → Measures (row ∷ rows) (value, others) before size
and_measures first others = record { told = rw (← first) others.told }

pub here_misfits : {row : Row} {rows : List Row} {value : Value row.kind} {others : Values rows} {before : ℕ} {e : PduError} → Err e ≡ value_size row.field row.kind value → Misfits (row ∷ rows) (value, others) before e
here_misfits first = record { told = rw (← first) refl }

pub and_misfits : {row : Row} {rows : List Row} {value : Value row.kind} {others : Values rows} {before more : ℕ} {e : PduError} → Ok more ≡ value_size row.field row.kind value → Misfits rows others (before + more) e → Misfits (row ∷ rows) (value, others) before e
and_misfits first others = record { told = rw (← first) others.told }

-- ---- a message: its fields, and its parameters

pub sm_misfits : (sm : Sm) (r : Result ℕ PduError) {e : PduError} → IsErrAnd r (λ fault. fault ≡ e) → Misfits sm_fields (sm_values sm) 16 e → r ≡ sm_size sm
unfolding sm_size
sm_misfits sm (Ok n) same fault = absurd same
sm_misfits sm (Err told) same fault = rw (same, fault.told) refl

pub sm_measures : (sm : Sm) {r : Result ℕ PduError} {size : ℕ} → Measures sm_fields (sm_values sm) 16 size → r ≡ tail_size size sm.params → r ≡ sm_size sm
unfolding sm_size
sm_measures sm fields tail = rw fields.told tail
