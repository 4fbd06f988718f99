-- What was told, and what was returned of it.
use Rattle.std.proofs.Common.{◌≡◌, Result, Ok, Err, refl, ◌∙◌}
use Rattle.std.specs.Result.{IfOk, IfErr, IsErrAnd}
use Rattle.sms_pdu.specs.declared.error.PduError.{PduError}
use Rattle.sms_pdu.specs.declared.error.PduError.TheVariants as errors
use Rattle.sms_pdu.specs.Reading.{Gives, GivesBut}

-- a fault that was told
pub refused : {X Y : Type 0} (takes : Y → Type 0) (view : X → Y) (e : PduError) (told : Result Y PduError) → told ≡ Err e → GivesBut takes view (Err e) told
refused takes view e told h = rw h refl

-- a value for which memory was wanting
pub missing : {X Y : Type 0} (takes : Y → Type 0) (view : X → Y) (e : PduError) (told : Result Y PduError) (y : Y) → e ≡ errors.OutOfMemory → told ≡ Ok y → takes y → GivesBut takes view (Err e) told
missing takes view e told y out h t = rw h (out, t)

-- ---- of a value that was told

pub only_memory : {X Y : Type 0} (view : X → Y) (r : Result X PduError) (y : Y) → Gives view r (Ok y) → IfErr r (λ e. e ≡ errors.OutOfMemory)
only_memory view (Ok x) y gives = tt
only_memory view (Err e) y gives = gives.0

-- ---- of a fault that was handed on

pub no_value : {X : Type 0} (P : X → Type 0) (Q : PduError → Type 0) (r : Result X PduError) → IsErrAnd r Q → IfOk r P
no_value P Q (Ok x) is = absurd is
no_value P Q (Err e) is = tt

pub same_fault : {X : Type 0} (r : Result X PduError) (e f : PduError) → IsErrAnd r (λ fault. fault ≡ e) → e ≡ f → IfErr r (λ fault. fault ≡ f)
same_fault (Ok x) e f is same = absurd is
same_fault (Err fault) e f is same = is ∙ same

pub fault_is : {X : Type 0} (r : Result X PduError) (e f : PduError) → IsErrAnd r (λ fault. fault ≡ e) → e ≡ f → r ≡ Err f
fault_is (Ok x) e f is same = absurd is
fault_is (Err fault) e f is same = rw (is, same) refl
