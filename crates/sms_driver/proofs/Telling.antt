-- What holds of a fault holds of it when it is returned.
use Rattle.std.proofs.Common.{◌≡◌, Result, Ok, Err, IfErr}
use Rattle.std.specs.Result.{IsErrAnd}

pub told_so : {T E : Type 0} (r : Result T E) (e : E) (P : E → Type 0) → IsErrAnd r (λ f. f ≡ e) → P e → IfErr r P
told_so (Ok x) e P h p = tt
told_so (Err f) e P h p = rw h p
