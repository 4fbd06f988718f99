use Rattle.std.proofs.Common.{inr, refl, subst, List, ℕ, Some}
use Rattle.sms_send.proofs.files.opened.octets_of.Goals as goal

pub returns-in-Some-clause-refused : goal.returns-in-Some-clause-refused
returns-in-Some-clause-refused g c = inr (inr (
  (c.in-Some.error, c.in-Err-Failed.kind, refl),
  (_, subst (λ (n : List ℕ). g.R.InputFiles.finds c.args.rt.now n (Some (g.R.InputFile.Read.remaining c.in-Ok.file))) c.as_str.ensures.value c.in-Ok.ensures.found),
))
