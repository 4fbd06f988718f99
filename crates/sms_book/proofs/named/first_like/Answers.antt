use Rattle.std.proofs.Common.{◌≡◌, sym, ◌∙◌, rules}
use Rattle.sms_book.proofs.Names.{one_name, other_names}
use Rattle.sms_book.proofs.named.first_like.Goals as goal

pub returns-then-eq-clause-found : goal.returns-then-eq-clause-found
returns-then-eq-clause-found g c =
    let same : c.name.result.now ≡ c.name-in-loop-first.result.now = search rules in (
      one_name g.T.Named.name c.args.items.now c.loop-first.first c.args.second c.index-items-first.result c.index-items-second.result (search rules) c.requires c.index-items-first.is c.index-items-second.is (sym c.name.ensures ∙ same ∙ c.name-in-loop-first.ensures),
      c.loop-first.invariant,
    )

pub loop-first-preserved : goal.loop-first-preserved
loop-first-preserved g c =
    let differ : c.name.result.now ≡ c.name-in-loop-first.result.now → ⊥ = search rules in
    other_names g.T.Named.name c.args.items.now c.loop-first.first c.args.second c.index-items-first.result c.index-items-second.result (search rules) c.requires c.index-items-first.is c.index-items-second.is
    (λ same. differ (c.name.ensures ∙ same ∙ sym c.name-in-loop-first.ensures)) c.loop-first.invariant
