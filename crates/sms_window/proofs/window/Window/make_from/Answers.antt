use Rattle.std.proofs.Common.{◌≡◌, ℕ, ◌-◌, ◌^◌, [], ◌∷◌, sym, ap, ◌∙◌, subst, arith}
use Rattle.sms_window.proofs.Ends.{opens}
use Rattle.std.specs.Prelude.{List}
use Rattle.std.proofs.lemmas.Nat.Bits.{ones_shl}
use Rattle.atomic_table.specs.Table.{opening}
use Rattle.sms_window.specs.declared.view.Opening.{Opening}
use Rattle.sms_window.specs.Rule.{IsWindow, keeper}
use Rattle.sms_window.proofs.window.Window.make_from.Goals.{then-limit-eq-MOST_SLOTS, else-limit-eq-MOST_SLOTS}
use Rattle.sms_window.proofs.window.Window.make_from.Goals as goal

pub of_words-requires : goal.of_words-requires
of_words-requires c =
    let o : Opening = record { limit = c.args.limit; first = c.args.first } in
    let held : c.if-limit-eq-MOST_SLOTS.held ≡ 2 ^ 64 - 2 ^ c.args.limit = elim c.if-limit-eq-MOST_SLOTS.branch [
      | then-limit-eq-MOST_SLOTS w ↦ w.held-is ∙ ap (λ (n : ℕ). 2 ^ 64 - 2 ^ n) (sym w.if-limit-eq-MOST_SLOTS.true)
      | else-limit-eq-MOST_SLOTS w ↦ w.held-is ∙ ones_shl 64 c.args.limit (omega arith)
    ] in
    subst (λ (ws : List ℕ). IsWindow {S = Unit {0}} o (opening ws [] (keeper o))) (λ i. sym held i ∷ sym c.from.ensures i ∷ []) (opens o (omega arith) (omega arith) (omega arith))
