use Rattle.std.proofs.Common.{◌≡◌, ◌+◌, ◌++◌, ◌∷◌, ℕ, List, [], Some, None, subst, sym, take, rules}
use Rattle.sms_journal.specs.OfLedger.{HaveNames, ledger_name}
use Rattle.sms_journal.proofs.Lists.{zip_more}
use Rattle.sms_journal.proofs.Takings.{lacks_name}
use Rattle.sms_journal.proofs.of_ledger.takings.ledger_names.Goals as goal

pub loop-opening-preserved : goal.loop-opening-preserved
loop-opening-preserved c =
    let openings = c.args.openings.now in
    let k = c.loop-opening.opening-index in
    let grows : c.push.new.list.items ≡ c.loop-opening.names.items ++ c.in-Some.name ∷ [] = search rules in
    subst (λ (names : List (List ℕ)). HaveNames (take (k + 1) openings) names) (sym grows)
    (zip_more (λ opening name. ledger_name opening ≡ Some name) openings c.loop-opening.names.items k c.opening-item.result c.in-Some.name c.loop-opening-test.true c.opening-item.is c.loop-opening.invariant (search rules))

pub returns-in_default : goal.returns-in_default
returns-in_default c = λ names have.
    let none : ledger_name c.opening-item.result ≡ None = search rules in
    lacks_name c.args.openings.now c.loop-opening.opening-index c.opening-item.result c.loop-opening-test.true c.opening-item.is none names have
