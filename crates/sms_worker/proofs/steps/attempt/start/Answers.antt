use Rattle.std.proofs.Common.{◌≡◌, ℕ, ◌+◌, ◌≤◌, List, [], ◌∷◌, sym, ap, ◌∙◌, subst, arith, refl, rules}
use Rattle.sms_segment.specs.declared.part.Part.{Part}
use Rattle.sms_message.specs.declared.message.Message.{Message}
use Rattle.sms_message.specs.declared.rules.Rules.{Rules}
use Rattle.sms_window.specs.declared.view.View.{View}
use Rattle.sms_window.specs.declared.outcome.Claim.TheVariants.{Got}
use Rattle.sms_window.specs.Drawing.{HasDrawn}
use Rattle.sms_window.specs.OpenSlots.{IsOpen}
use Rattle.sms_window.specs.Outcome.{GotSlot}
use Rattle.sms_window.specs.Outcome.{FreedSlot}
use Rattle.sms_window.proofs.Drawing.{claims_draw_none, draws_add_up, draws_none, releases_draw_none}
use Rattle.sms_window.proofs.OpenSlots.{one_more}
use Rattle.sms_worker.specs.Types.{Attempt}
use Rattle.sms_worker.specs.declared.steps.attempt.NoFrame.{NoFrame}
use Rattle.sms_worker.specs.declared.steps.attempt.NoFrame.TheVariants.{Later, Never}
use Rattle.sms_worker.specs.declared.steps.attempt.TrySend.{TrySend}
use Rattle.sms_worker.specs.declared.steps.attempt.TrySend.TheVariants.{Retry, GiveUp}
use Rattle.sms_worker.specs.declared.steps.give_up.GiveUpReason.{GiveUpReason}
use Rattle.sms_worker.specs.declared.steps.give_up.GiveUpReason.TheVariants as reason
use Rattle.sms_worker.specs.declared.steps.retry_later.NoNumber.{NoNumber}
use Rattle.sms_worker.specs.declared.steps.retry_later.RetryLater.TheVariants.{Numbers}
use Rattle.sms_worker.specs.Keeps.{slots_of}
use Rattle.sms_worker.specs.Limits.{most_draws}
use Rattle.sms_worker.specs.Steps.{IsReason, Tries, number_unsent}
use Rattle.sms_worker.proofs.Changes.{slots-append}
use Rattle.sms_worker.proofs.Handing.{hands_none, hands_one}
use Rattle.sms_worker.proofs.steps.attempt.start.Goals as goal

-- what draws did after a claim and before a release, they did for the seat xs it was before both
drawn_over : (v u w x : View) (slot : ℕ) (drawn : List ℕ) → GotSlot v slot u → HasDrawn u drawn w → FreedSlot w slot x → HasDrawn v drawn x
drawn_over v u w x slot drawn got drew freed = releases_draw_none v w x drawn slot (draws_add_up v u w [] drawn (claims_draw_none v v u [] (Got slot) (draws_none v) got) drew) freed

reason_over : (v u w x : View) (slot : ℕ) (why : GiveUpReason) → GotSlot v slot u → IsReason why u w → FreedSlot w slot x → IsReason why v x
reason_over v u w x slot (reason.Kept lack) got h freed = absurd h
reason_over v u w x slot (reason.Done left) got h freed = absurd h
reason_over v u w x slot (reason.Numbers all) got h freed = (drawn_over v u w x slot [] got h.0 freed, ap (λ (y : View). y.seen) freed.after ∙ h.1)
reason_over v u w x slot (reason.Memory lack) got h freed = drawn_over v u w x slot (lack.number ∷ []) got h freed
reason_over v u w x slot (reason.Gate lack) got h freed = drawn_over v u w x slot (lack.number ∷ []) got h freed
reason_over v u w x slot (reason.Line lack) got h freed = drawn_over v u w x slot (number_unsent lack ∷ []) got h freed

-- no frame was made, and the slot is released
not_sent_tries : (sending : Rules) (m : Message) (part : Part) (v u w x : View) (slot : ℕ) (xs ys : List Attempt) (why : NoFrame) (t : TrySend) → GotSlot v slot u → FreedSlot w slot x → ys ≡ xs
    → ((lacks : NoNumber) → why ≡ Later lacks → HasDrawn u [] w × (u.seen + most_draws ≤ w.seen)) → ((r : GiveUpReason) → why ≡ Never r → IsReason r u w)
    → ((lacks : NoNumber) → why ≡ Later lacks → t ≡ Retry (Numbers lacks)) → ((r : GiveUpReason) → why ≡ Never r → t ≡ GiveUp r) → Tries sending m part v xs t x ys
not_sent_tries sending m part v u w x slot xs ys (Later lacks) t got freed same later never is_later is_never =
    let drew = later lacks refl in
    let back : v.seen + most_draws ≤ x.seen = (let b = drew.1 in let was = ap (λ (y : View). y.seen) got.after in let now = ap (λ (y : View). y.seen) freed.after in omega arith) in
    subst (λ t. Tries sending m part v xs t x ys) (sym (is_later lacks refl)) ((drawn_over v u w x slot [] got drew.0 freed, back), same)
not_sent_tries sending m part v u w x slot xs ys (Never r) t got freed same later never is_later is_never =
    subst (λ t. Tries sending m part v xs t x ys) (sym (is_never r refl)) (reason_over v u w x slot r got (never r refl) freed, same)

pub returns-in-Ok-write_frame-clause-open : goal.returns-in-Ok-write_frame-clause-open
returns-in-Ok-write_frame-clause-open g c base o =
    let got = c.in-Ok.ensures.got in
    let more = one_more base c.args.seat.now.view.slots c.next_frame.new.seat.view.slots c.in-Ok.slot (slots_of c.args.opened.now.items) o got.now.0 got.claim.1.free (c.next_frame.ensures.slots ∙ ap (λ (v : View). v.slots) got.after) in
    subst (λ (l : List ℕ). IsOpen base l c.next_frame.new.seat.view.slots) (sym (ap slots_of c.push_reserved-in-Ok-write_frame.ensures.items ∙ slots-append c.args.opened.now.items _)) more

pub returns-in-Err-next_frame-clause-tried : goal.returns-in-Err-next_frame-clause-tried
returns-in-Err-next_frame-clause-tried g c part content =
    not_sent_tries c.args.context.now.rules.now c.args.message.now part c.args.seat.now.view c.claim.new.seat.view c.next_frame.new.seat.view c.release.new.seat.view c.in-Ok.slot c.args.attempts.now.items c.next_frame.new.attempts.items c.in-Err-next_frame.none c.not_sent.result
    c.in-Ok.ensures.got c.release.ensures.freed c.next_frame.ensures.unchanged (λ lacks e. c.next_frame.ensures.later lacks (search rules)) (λ r e. c.next_frame.ensures.never r (search rules)) c.not_sent.ensures.later c.not_sent.ensures.never

pub write_frame-requires-clause-request : goal.write_frame-requires-clause-request
write_frame-requires-clause-request g c = c.in-Ok-next_frame.ensures.request

pub returns-in-Ok-write_frame-clause-handed : goal.returns-in-Ok-write_frame-clause-handed
returns-in-Ok-write_frame-clause-handed g c = hands_one _ _ _ _ _ _ c.next_frame.ensures.unchanged c.push_reserved.ensures.items c.in-Ok-write_frame.ensures.handed

pub returns-in-Err-next_frame-clause-handed : goal.returns-in-Err-next_frame-clause-handed
returns-in-Err-next_frame-clause-handed g c = hands_none _ _ _ _ c.next_frame.ensures.unchanged refl

pub returns-in-Err-write_frame-clause-handed : goal.returns-in-Err-write_frame-clause-handed
returns-in-Err-write_frame-clause-handed g c = hands_none _ _ _ _ c.next_frame.ensures.unchanged c.in-Err-write_frame.ensures.unsent.1
