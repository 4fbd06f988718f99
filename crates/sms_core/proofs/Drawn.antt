-- A Post that is done draws the next number, and nothing else does.
use Rattle.std.proofs.Common.{◌≡◌, ℕ, ◌+◌, List, [], ◌∷◌, ◌++◌, refl, sym, ap, ◌∙◌, append_assoc, eq-eqb, ne_eqb}
use Rattle.std.proofs.lemmas.List.{get_or-set_same, append-nil}
use Rattle.sms_core.specs.declared.event.Event.TheVariants.{TopUp, Reserve, Claim, Post, Respond, Settle, Expire, Discard, Release}
use Rattle.sms_core.specs.declared.event.Step.TheVariants.{Done, Ignored}
use Rattle.sms_core.specs.declared.mark.Mark.TheVariants.{Empty, Open}
use Rattle.sms_core.specs.Histories.{Moment, number_in, given_by, given_to, numbers_given, numbers_given_to}
use Rattle.sms_core.specs.State.{State, mark_of}
use Rattle.sms_core.specs.StepLaws.{PostDraws, OnlyPostDraws}
use Rattle.sms_core.proofs.Drawing.{settle_next, expire_next}
use Rattle.sms_core.proofs.Sound.{held_inside, sound}
use Rattle.sms_core.proofs.Done.{claim_done, post_done, release_done}

given_more : (ms : List Moment) (m : Moment) → numbers_given (ms ++ m ∷ []) ≡ numbers_given ms ++ given_by m.event m.answer m.after
given_more [] m = append-nil (given_by m.event m.answer m.after)
given_more (n ∷ ms) m =
    ap (λ (l : List ℕ). given_by n.event n.answer n.after ++ l) (given_more ms m) ∙ sym (append_assoc (given_by n.event n.answer n.after) (numbers_given ms) (given_by m.event m.answer m.after))

given_to_more : (worker : ℕ) (ms : List Moment) (m : Moment) → numbers_given_to worker (ms ++ m ∷ []) ≡ numbers_given_to worker ms ++ given_to worker m.event m.answer m.after
given_to_more worker [] m = append-nil (given_to worker m.event m.answer m.after)
given_to_more worker (n ∷ ms) m =
    ap (λ (l : List ℕ). given_to worker n.event n.answer n.after ++ l) (given_to_more worker ms m)
    ∙ sym (append_assoc (given_to worker n.event n.answer n.after) (numbers_given_to worker ms) (given_to worker m.event m.answer m.after))

pub post_draws : PostDraws
post_draws ms old new worker slot request h s =
    let done = post_done old new worker slot request s in
    let inside = held_inside old worker slot (sound ms old h) done.held in
    let mark : mark_of new slot ≡ Open request old.next = ap (λ (w : State). mark_of w slot) s.1 ∙ get_or-set_same old.marks slot (Open request old.next) Empty inside in
    let number : number_in (mark_of new slot) ≡ old.next ∷ [] = ap number_in mark in
    let next : new.next ≡ old.next + 1 = ap (λ (w : State). w.next) s.1 in
    let m : Moment = record { before = old; event = Post worker slot request; answer = Done; after = new } in
    record {
      all = (given_more ms m ∙ ap (λ (l : List ℕ). numbers_given ms ++ l) number, next);
      own = (given_to_more worker ms m ∙ ap (λ (l : List ℕ). numbers_given_to worker ms ++ l) (rw (eq-eqb worker worker refl) number), next);
      others = λ other ne. given_to_more other ms m ∙ (rw (ne_eqb worker other (λ e. ne (sym e))) (append-nil (numbers_given_to other ms)));
      lawful = done.lawful;
    }

pub only_post_draws : OnlyPostDraws
only_post_draws old new event (Ignored cause) s other = ap (λ (w : State). w.next) s.1
only_post_draws old new (TopUp account amount) Done s other = ap (λ (w : State). w.next) s.1
only_post_draws old new (Reserve request account cost) Done s other = ap (λ (w : State). w.next) s.1
only_post_draws old new (Claim worker slot) Done s other = ap (λ (w : State). w.next) (claim_done old new worker slot s).after
only_post_draws old new (Post worker slot request) Done s other = absurd (other worker slot request refl refl)
only_post_draws old new (Respond number status nack) Done s other = ap (λ (w : State). w.next) s.1.after
only_post_draws old new (Settle worker slot) Done s other = settle_next (mark_of old slot) old new slot s.1
only_post_draws old new (Expire worker slot) Done s other = expire_next (mark_of old slot) old new slot s.1
only_post_draws old new (Discard request) Done s other = ap (λ (w : State). w.next) s.1
only_post_draws old new (Release worker slot) Done s other = ap (λ (w : State). w.next) (release_done old new worker slot s).after
