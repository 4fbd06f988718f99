use Rattle.std.proofs.Common.{◌≡◌, ◌∙◌, ◌-◌, ◌<◌, ◌≤◌, Some, sym, ap, get_or, length, arith, rules}
use Rattle.std.specs.Prelude.{slice_get}
use Rattle.std.proofs.lemmas.Option.{slice_get-get_or}
use Rattle.sms_journal.proofs.InDoubt.{doubted_nowhere, doubted_there, nothing_at}
use Rattle.sms_journal.proofs.decisions.said.doubted.Goals as goal

pub returns-in-Some : goal.returns-in-Some
returns-in-Some c =
    let ends = c.args.ends.now in
    let m = c.args.message in
    let e = c.in-Some.end.now in
    let low : m < length ends = search rules in
    let got : e ≡ get_or ends m e = search rules in
    let at : slice_get ends m ≡ Some e = slice_get-get_or ends m e low ∙ ap Some (sym got) in
    let place : c.from.result ≡ c.args.part - 1 = search rules in
    doubted_there ends m c.args.part c.from.result (omega (arith, c.if-part-eq0.false)) e c.cost_at.result at place c.cost_at.ensures

pub returns-in-None : goal.returns-in-None
returns-in-None c =
    let high : length c.args.ends.now ≤ c.args.message = search rules in
    doubted_nowhere c.args.ends.now c.args.message c.args.part 0 (omega (arith, c.if-part-eq0.false)) (nothing_at c.args.ends.now c.args.message high)
