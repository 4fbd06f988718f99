use Rattle.std.proofs.Common.{refl, subst, sym, ℕ, List, None, Result, IfOk, Vec, Global}
use Rattle.std.specs.Prelude.{MatchOption}
use Rattle.sms_send.specs.Headed.{HaveParts, IsNoWholeRun, SplitsWritten}
use Rattle.sms_send.specs.declared.faults.fault.Fault.{Fault}
use Rattle.sms_send.proofs.files.run_files.parts_in.Goals as goal

pub returns-in-Ok-clause-parts : goal.returns-in-Ok-clause-parts
returns-in-Ok-clause-parts c =
    let parts = subst (λ (text : List ℕ). IfOk c.run_parts.result (λ parts. MatchOption parts (IsNoWholeRun text) (HaveParts text))) c.as_slice.ensures.value c.run_parts.ensures.parts in
    subst (λ (written : Result (Vec ℕ Global) Fault). IfOk c.run_parts.result (SplitsWritten written)) (sym c.in-Ok.is) parts

pub returns-in-Err-clause-parts : goal.returns-in-Err-clause-parts
returns-in-Err-clause-parts c = subst (λ (written : Result (Vec ℕ Global) Fault). SplitsWritten written None) (sym c.in-Err.is) refl
