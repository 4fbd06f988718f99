-- Why messages and their parts were not sent, message by message.
use Rattle.std.proofs.Common.{◌≡◌, ℕ, ◌<◌, Bool, List, length, inl, inr, sym, ◌∙◌, subst}
use Rattle.std.specs.Prelude.{IsTrue}
use Rattle.sms_message.specs.declared.message.Message.{Message}
use Rattle.sms_message.specs.declared.rules.Rules.{Rules}
use Rattle.sms_message.specs.Results.{AreEnds}
use Rattle.sms_worker.specs.Reasons.{HasReason, HaveReasons, LackedMemory, ReasonState}
use Rattle.sms_worker.specs.ReasonsOf.{AllHaveReasons}
use Rattle.sms_worker.specs.Types.{MessageEnd}
use Rattle.sms_worker.proofs.EndLemmas.{get_low, get_there, segment_in}

pub all_have : (rules : Rules) (accounts most : ℕ) (ms : List Message) (es : List MessageEnd) (closed : Bool) (cause : Type 0) (r : ReasonState) → AreEnds rules accounts ms es → length es ≡ length ms → (IsTrue closed → cause) → HaveReasons most ms closed r es
    → AllHaveReasons most cause r es
all_have rules accounts most ms es closed cause r shape long means h k e at =
    let low : k < length ms = subst (λ n. k < n) long (get_low es k e at) in
    let got = get_there ms k low in
    let m = got.0 in
    let there = got.1 in
    let index = (shape.each k m e there at).0 in
    record {
      parts = λ p s part is. elim (h.parts k p m s there (segment_in es k p e at ∙ part) is) [
        | inl on ↦ inl (means on)
        | inr has ↦ inr (subst (λ n. HasReason r n p) (sym index) has)
      ];
      memory = λ is. subst (LackedMemory r) (sym index) (h.messages k m e there at is);
    }
