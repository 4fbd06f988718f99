-- What a step does to the marks.
use Rattle.std.proofs.Common.{◌≡◌, ℕ, zero, suc, ◌<◌, List, [], ◌∷◌, length, set, get_or, Option, Some, refl, sym, ap, ◌∙◌, arith, eq-eqb}
use Rattle.std.proofs.lemmas.List.{get_or-set_same, get_or-set_other}
use Rattle.std.proofs.lemmas.Option.{slice_get_within, get_or_from_slice_get}
use Rattle.sms_core.specs.declared.mark.Mark.{Mark}
use Rattle.sms_core.specs.declared.mark.Mark.TheVariants.{Empty, Open, Replied}
use Rattle.sms_core.specs.CoreLaws.{MovesMark, PostOpens, RespondReplies, SettleEmpties, ExpireEmpties}
use Rattle.sms_core.specs.Marks.{replied, settled, expired, opened}
use Rattle.sms_core.specs.State.{State, mark_of}
use Rattle.sms_core.specs.Steps.{Settles, Expires}
use Rattle.sms_core.proofs.Sound.{held_inside, sound}
use Rattle.sms_core.proofs.Done.{post_done}

-- where the marks are those before with one set
sets_mark : (old new : State) (slot : ℕ) (m : Mark) (change : Mark → Option Mark) → slot < length old.marks → new.marks ≡ set old.marks slot m → change (mark_of old slot) ≡ Some m → MovesMark old slot change new
sets_mark old new slot m change inside e told =
    let now : mark_of new slot ≡ m = ap (λ (l : List Mark). get_or l slot Empty) e ∙ get_or-set_same old.marks slot m Empty inside in
    (told ∙ ap Some (sym now), λ other ne. ap (λ (l : List Mark). get_or l other Empty) e ∙ get_or-set_other old.marks slot other m Empty ne)

-- a mark that isn't empty lies in the table
marked_inside : (ms : List Mark) (slot : ℕ) → (get_or ms slot Empty ≡ Empty → ⊥) → slot < length ms
marked_inside [] slot never = absurd (never refl)
marked_inside (m ∷ ms) zero never = omega arith
marked_inside (m ∷ ms) (suc slot) never = let rest = marked_inside ms slot never in omega arith

pub post_opens : PostOpens
post_opens ms old new worker slot request h s =
    let done = post_done old new worker slot request s in
    let inside = held_inside old worker slot (sound ms old h) done.held in
    sets_mark old new slot (Open request old.next) (opened request old.next) inside (ap (λ (w : State). w.marks) s.1) (ap (opened request old.next) done.empty)

pub respond_replies : RespondReplies
respond_replies old new number status nack s =
    let slot : ℕ = s.1.slot in
    let request : ℕ = s.1.request in
    let there : mark_of old slot ≡ Open request number = get_or_from_slice_get old.marks slot (Open request number) Empty s.1.waits in
    let told : replied number status nack (Open request number) ≡ Some (Replied request number status nack) = rw (eq-eqb number number refl) refl in (
      slot,
      sets_mark old new slot (Replied request number status nack) (replied number status nack) (slice_get_within old.marks slot (Open request number) s.1.waits) (ap (λ (w : State). w.marks) s.1.after)
          (ap (replied number status nack) there ∙ told),
    )

settle_moves : (m : Mark) (old new : State) (slot : ℕ) → mark_of old slot ≡ m → Settles old slot m new → MovesMark old slot settled new
settle_moves Empty old new slot e s = absurd s
settle_moves (Open r n) old new slot e s = absurd s
settle_moves (Replied r n status nack) old new slot e s =
    let inside = marked_inside old.marks slot (λ z. let both : Replied r n status nack ≡ Empty = sym e ∙ z in absurd (cc)) in
    sets_mark old new slot Empty settled inside (ap (λ (w : State). w.marks) s) (ap settled e)

expire_moves : (m : Mark) (old new : State) (slot : ℕ) → mark_of old slot ≡ m → Expires old slot m new → MovesMark old slot expired new
expire_moves Empty old new slot e s = absurd s
expire_moves (Open r n) old new slot e s =
    let inside = marked_inside old.marks slot (λ z. let both : Open r n ≡ Empty = sym e ∙ z in absurd (cc)) in
    sets_mark old new slot Empty expired inside (ap (λ (w : State). w.marks) s) (ap expired e)
expire_moves (Replied r n status nack) old new slot e s = absurd s

pub settle_empties : SettleEmpties
settle_empties old new worker slot s = settle_moves (mark_of old slot) old new slot refl s.1

pub expire_empties : ExpireEmpties
expire_empties old new worker slot s = expire_moves (mark_of old slot) old new slot refl s.1
