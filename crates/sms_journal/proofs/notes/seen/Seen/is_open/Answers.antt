use Rattle.std.proofs.Common.{◌≡◌, ℕ, Some, None, refl, sym, ap, ◌∙◌, true, false}
use Rattle.std.specs.Prelude.{Option}
use Rattle.std.specs.Option.{is_some}
use Rattle.std.proofs.lemmas.Bool.{eqb-true, eq-eqb}
use Rattle.sms_journal.specs.DenseMap.{value_in}
use Rattle.sms_journal.specs.RunSize.{bind_of}
use Rattle.sms_journal.proofs.notes.seen.Seen.is_open.Goals as goal

none_of : {X : Type 0} (o : Option X) → is_some o ≡ false → o ≡ None
none_of None e = refl
none_of (Some x) e = absurd (cc)

-- it has a fate
pub returns-then-is_some : goal.returns-then-is_some
returns-then-is_some c = λ rs ms notes sees. (
  (λ yes. absurd (cc)),
  (λ open_request.
      let is : c.get_in.result ≡ None = c.get_in.ensures ∙ ap (λ (k : ℕ). value_in c.args.self.now.fates c.args.worker k) c.from-number.ensures ∙ sees.fates c.args.worker c.args.number ∙ open_request.open_yet in
      let none : is_some c.get_in.result ≡ false = ap is_some is in
      let some : is_some c.get_in.result ≡ true = sym c.is_some.ensures ∙ c.if-is_some.true in
      absurd (cc)),
)

pub returns-in-Some : goal.returns-in-Some
returns-in-Some c = λ rs ms notes sees.
    let worker = c.args.worker in
    let number = c.args.number in
    let none : is_some c.get_in.result ≡ false = sym c.is_some.ensures ∙ c.if-is_some.false in
    let value : value_in c.args.self.now.users (bind_of c.args.size worker) number ≡ Some c.in-Some.user =
    ap (λ (b : ℕ). value_in c.args.self.now.users b number) (sym c.bind_of.ensures) ∙ ap (λ (k : ℕ). value_in c.args.self.now.users c.bind_of.result k) (sym c.from-number.ensures) ∙ sym c.get_in-2.ensures ∙ c.in-Some.is in (
      (λ yes. record {
        sent = (sees.sent worker number).1 (value ∙ ap Some (eqb-true c.in-Some.user worker yes));
        open_yet = sym (sees.fates worker number) ∙ ap (λ (k : ℕ). value_in c.args.self.now.fates worker k) (sym c.from-number.ensures) ∙ sym c.get_in.ensures ∙ none_of c.get_in.result none;
      }),
      (λ open_request.
          let used : Some c.in-Some.user ≡ Some worker = sym value ∙ (sees.sent worker number).0 open_request.sent in
          let same : c.in-Some.user ≡ worker = cc in
          eq-eqb c.in-Some.user worker same),
    )

-- nobody used its number
pub returns-in-None : goal.returns-in-None
returns-in-None c = λ rs ms notes sees. (
  (λ yes. absurd (cc)),
  (λ open_request.
      let value : value_in c.args.self.now.users (bind_of c.args.size c.args.worker) c.args.number ≡ None =
      ap (λ (b : ℕ). value_in c.args.self.now.users b c.args.number) (sym c.bind_of.ensures) ∙ ap (λ (k : ℕ). value_in c.args.self.now.users c.bind_of.result k) (sym c.from-number.ensures) ∙ sym c.get_in-2.ensures ∙ c.in-None.is in
      let used = (sees.sent c.args.worker c.args.number).0 open_request.sent in
      absurd (cc)),
)
