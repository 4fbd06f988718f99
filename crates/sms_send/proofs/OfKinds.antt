-- What is done, with the kind of the ledger of which it is.
use Rattle.std.proofs.Common.{Result, Ok, Err, IfOk}
use Rattle.std.specs.Prelude.{OnOk}

pub with_kind : {A E : Type 0} (r : Result A E) (Q : Type 0) (P : A → Type 0) → OnOk r Q → IfOk r P → IfOk r (λ a. Q × P a)
with_kind (Ok a) Q P q p = (q, p)
with_kind (Err e) Q P q p = tt

pub on_any : {A E Q : Type 0} (r : Result A E) → Q → OnOk r Q
on_any (Ok a) q = q
on_any (Err e) q = tt
