use Rattle.std.proofs.Common.{◌≡◌, ℕ, Some, None, refl, sym, ap, ◌∙◌, Bool, true, false}
use Rattle.std.specs.Prelude.{Option, not}
use Rattle.std.specs.Option.{is_some}
use Rattle.sms_journal.specs.DenseMap.{value_in}
use Rattle.sms_journal.specs.Lawful.{user_of}
use Rattle.sms_journal.specs.RunSize.{bind_of}
use Rattle.sms_journal.proofs.notes.seen.Seen.is_unused.Goals as goal

is_none : (b : Bool) (o p : Option ℕ) → is_some o ≡ not b → o ≡ p → (b ≡ true → p ≡ None) × (p ≡ None → b ≡ true)
is_none true None p e f = ((λ yes. sym f), (λ none. refl))
is_none false None p e f = absurd (cc)
is_none true (Some user) p e f = absurd (cc)
is_none false (Some user) p e f = ((λ yes. absurd (cc)), (λ none. let same : Some user ≡ None = f ∙ none in absurd (cc)))

pub returns : goal.returns
returns c = λ rs ms notes sees.
    let users = c.args.self.now.users in
    let number = c.args.request.number in
    let bind = bind_of c.args.size c.args.request.worker in
    let value : c.get_in.result ≡ user_of c.args.size notes bind number =
    c.get_in.ensures ∙ ap (λ (b : ℕ). value_in users b c.from.result) c.bind_of-bind.ensures ∙ ap (λ (k : ℕ). value_in users bind k) c.from.ensures ∙ sees.users bind number in
    is_none c.is_none.result c.get_in.result (user_of c.args.size notes bind number) c.is_none.ensures value
