use Rattle.std.proofs.Common.{◌≡◌, ◌∷◌, ◌+◌, sym, subst, take, List, ℕ}
use Rattle.sms_inbox.specs.Words.{words}
use Rattle.sms_inbox.proofs.Splits.{cut_at, one_word}
use Rattle.sms_inbox.proofs.Feeds.{all_behind}
use Rattle.sms_inbox.proofs.words.cut_word.Goals as goal

pub returns-then-at-text-clause-words : goal.returns-then-at-text-clause-words
returns-then-at-text-clause-words c =
    let text = c.args.text.now in
    let at = c.blank_at-at.result in
    subst (λ (rest : List ℕ). words text ≡ take at text ∷ words rest) (sym (all_behind text (at + 1))) (cut_at text at c.blank_at-at.ensures.place c.if-at-text.true)

pub returns-else-at-text-clause-words : goal.returns-else-at-text-clause-words
returns-else-at-text-clause-words c = one_word c.args.text.now (rw c.blank_at-at.ensures.place at c.if-at-text.false)
