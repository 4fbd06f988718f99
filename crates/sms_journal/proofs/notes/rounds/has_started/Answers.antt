use Rattle.std.proofs.Common.{rules, ◌≡◌, ◌∙◌, ap, ℕ, List, [], ◌∷◌, length, inl, inr, refl, sym, subst, true, false, arith}
use Rattle.std.proofs.lemmas.Bool.{eq-eqb, eqb-true}
use Rattle.sms_journal.specs.Lawful.{AreStarted}
use Rattle.sms_journal.proofs.notes.rounds.has_started.Goals as goal

empty_of : {X : Type 0} (xs : List X) → length xs ≡ 0 → xs ≡ []
empty_of [] e = refl
empty_of (x ∷ xs) e = absurd (omega (arith, e))

pub returns-then-all_started : goal.returns-then-all_started
returns-then-all_started c = λ has.
    let yes : c.all_started.result ≡ true = search rules in (
      (λ is. inl (subst (λ (given : List ℕ). AreStarted given c.args.round.now) c.as_slice-indexes.ensures.value ((c.all_started.ensures c.args.round.now has).0 yes))),
      (λ h. refl),
    )

pub returns-then-going-le1 : goal.returns-then-going-le1
returns-then-going-le1 c = λ has. (
  (λ yes. absurd (cc)),
  (λ h. elim h [
    | inl all ↦
        let all = subst (λ (given : List ℕ). AreStarted given c.args.round.now) (sym c.as_slice-indexes.ensures.value) all in
        let yes : c.all_started.result ≡ true = (c.all_started.ensures c.args.round.now has).1 all in
        let no : c.all_started.result ≡ false = search rules in
        absurd (cc)
    | inr more ↦ absurd (let low = more.0 in omega (arith, low, c.if-going-le1.true))
  ]),
)

pub returns : goal.returns
returns c = λ has. (
  (λ yes. inr (omega (arith, c.if-going-le1.false), empty_of c.args.round.now (eqb-true (length c.args.round.now) 0 (sym c.is_empty.ensures ∙ yes)))),
  (λ h. elim h [
    | inl all ↦
        let all = subst (λ (given : List ℕ). AreStarted given c.args.round.now) (sym c.as_slice-indexes.ensures.value) all in
        let yes : c.all_started.result ≡ true = (c.all_started.ensures c.args.round.now has).1 all in
        let no : c.all_started.result ≡ false = search rules in
        absurd (cc)
    | inr more ↦ c.is_empty.ensures ∙ eq-eqb (length c.args.round.now) 0 (ap length more.1)
  ]),
)
