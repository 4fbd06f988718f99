-- Charges of lawful journals.
use Rattle.std.proofs.Common.{◌≡◌, ℕ, zero, suc, ◌+◌, ◌<◌, List, [], ◌∷◌, ◌++◌, length, take, Some, None, refl, sym, ap, ◌∙◌, subst, Bool, true, false, arith}
use Rattle.std.specs.Prelude.{Option, slice_get, flat_map, if◌then◌else◌, ◌==◌, ◌&&◌}
use Rattle.std.proofs.lemmas.Bool.{eqb-true}
use Rattle.std.proofs.lemmas.List.{take-append-le}
use Rattle.std.proofs.lemmas.Option.{slice_get_within}
use Rattle.sms_core.specs.Replies.{AreRetried}
use Rattle.sms_pdu.specs.declared.reply.Reply.{Reply}
use Rattle.sms_message.specs.declared.message.Message.{Message}
use Rattle.sms_message.specs.declared.rules.Rules.{Rules}
use Rattle.sms_message.specs.declared.ends.MessageRefusal.{MessageRefusal}
use Rattle.sms_journal.specs.declared.notes.note.RequestId.{RequestId}
use Rattle.sms_journal.specs.declared.notes.note.Note.{Note}
use Rattle.sms_journal.specs.declared.notes.note.Note.TheVariants.{Begun, Sent, Unsent, Heard, Refused, End, Round}
use Rattle.sms_message.specs.declared.ends.SegmentEnd.{SegmentEnd}
use Rattle.sms_message.specs.declared.ends.Attempt.{Attempt}
use Rattle.sms_message.specs.declared.ends.MessageResult.{MessageResult}
use Rattle.sms_message.specs.declared.ends.MessageResult.TheVariants as result
use Rattle.sms_journal.specs.Recovered.{AreRecoveredSegments, IsRecoveredRefusal, IsRecoveredResult, answers_of, fate_in, fate_of, start_in, start_of, attempts_with, attempts_in, attempts_of}
use Rattle.sms_journal.specs.declared.notes.run_size.RunSize.{RunSize}
use Rattle.sms_journal.specs.Sums.{parts_in}
use Rattle.sms_journal.specs.Lawful.{IsJournal, IsRetried, MayFollow, indexes_of}
use Rattle.sms_journal.specs.Laws.{ChargesStayCharges, FrontsAreLawful, HasChargedPart}
use Rattle.sms_journal.proofs.Charges.{charges_stay}
use Rattle.sms_journal.proofs.Firsts.{first_of_front}
use Rattle.sms_journal.proofs.Pieces.{first_append, from}

both : (a b : Bool) → (a && b) ≡ true → (a ≡ true) × (b ≡ true)
both true b e = (refl, e)
both false b e = absurd (cc)

module _ {X Y : Type 0} where
  -- an element of a list that is as long
  pub as_long : (xs : List X) (ys : List Y) (p : ℕ) (x : X) → length ys ≡ length xs → slice_get xs p ≡ Some x → (y : Y) × (slice_get ys p ≡ Some y)
  as_long [] ys p x long e = absurd (cc)
  as_long (x' ∷ xs) [] p x long e = absurd (omega (arith, long))
  as_long (x' ∷ xs) (y ∷ ys) zero x long e = (y, refl)
  as_long (x' ∷ xs) (y ∷ ys) (suc p) x long e = as_long xs ys p x (omega (arith, long)) e

module _ {X : Type 0} where
  got_front : (xs : List X) (j k : ℕ) (x : X) → j < k → slice_get xs j ≡ Some x → slice_get (take k xs) j ≡ Some x
  got_front [] j k x low e = absurd (cc)
  got_front (y ∷ ys) j zero x low e = absurd (omega (arith, low))
  got_front (y ∷ ys) zero (suc k) x low e = e
  got_front (y ∷ ys) (suc j) (suc k) x low e = got_front ys j k x (omega (arith, low)) e

  got_whole : (xs ys : List X) (k : ℕ) (x : X) → slice_get xs k ≡ Some x → slice_get (xs ++ ys) k ≡ Some x
  got_whole [] ys k x e = absurd (cc)
  got_whole (y ∷ xs) ys zero x e = e
  got_whole (y ∷ xs) ys (suc k) x e = got_whole xs ys k x e

-- ---- the front of a lawful journal

pub front_lawful : FrontsAreLawful
front_lawful rules size ms notes later all k n at =
    subst (λ (l : List Note). MayFollow rules size ms (indexes_of ms) l n) (take-append-le k notes later (omega (arith, slice_get_within notes k n at))) (all k n (got_whole notes later k n at))

-- ---- each request for a part but its last was answered by a retry status

over_front : (notes : List Note) (k worker number : ℕ) → IsRetried (fate_of (take k notes) worker number) → IsRetried (fate_of notes worker number)
over_front notes k worker number h = here (fate_of (take k notes) worker number) refl h
  where
    here : (o : Option (Option Reply)) → fate_of (take k notes) worker number ≡ o → IsRetried o → IsRetried (fate_of notes worker number)
    here None e over = absurd over
    here (Some f) e over = subst IsRetried (sym (first_of_front (fate_in worker number) notes k f e)) over

earlier_over : (rules : Rules) (size : RunSize) (ms : List Message) (notes : List Note) (m p : ℕ) → IsJournal rules size ms notes → (j k : ℕ) (a b : RequestId) → j < k
    → slice_get notes j ≡ Some (Sent a m p) → slice_get notes k ≡ Some (Sent b m p) → IsRetried (fate_of notes a.worker a.number)
earlier_over rules size ms notes m p all j k a b low first second =
    over_front notes k a.worker a.number ((all k (Sent b m p) second).follows.again.retried j a (got_front notes j k (Sent a m p) low first))

-- the note of each attempt for a part
sent_of : (notes : List Note) (m p : ℕ) (n : Note) (k : ℕ) (t : Attempt (Unit {0})) → slice_get (attempts_in notes m p n) k ≡ Some t → (request : RequestId) × (n ≡ Sent request m p)
sent_of notes m p (Begun i) k t e = absurd (cc)
sent_of notes m p (Sent request i q) k t e = here (i == m && (q == p)) refl e
  where
    here : (b : Bool) → (i == m && (q == p)) ≡ b → slice_get (if b then attempts_with request.number (fate_of notes request.worker request.number) else []) k ≡ Some t → (other : RequestId) × (Sent request i q ≡ Sent other m p)
    here true is at = let h = both (i == m) (q == p) is in (request, (λ j. Sent request (eqb-true i m h.0 j) (eqb-true q p h.1 j)))
    here false is at = absurd (cc)
sent_of notes m p (Unsent request) k t e = absurd (cc)
sent_of notes m p (Heard by reply) k t e = absurd (cc)
sent_of notes m p (Refused i r) k t e = absurd (cc)
sent_of notes m p (End s) k t e = absurd (cc)
sent_of notes m p (Round number binds workers) k t e = absurd (cc)

-- one request before others
retried_step : (number : ℕ) (o : Option (Option Reply)) (rest : List (Attempt (Unit {0}))) → AreRetried (answers_of rest) → ((y : Attempt (Unit {0})) (ys : List (Attempt (Unit {0}))) → rest ≡ y ∷ ys → IsRetried o) → AreRetried (answers_of (attempts_with number o ++ rest))
retried_step number None [] all over = tt
retried_step number None (y ∷ ys) all over = absurd (over y ys refl)
retried_step number (Some None) rest all over = all
retried_step number (Some (Some r)) [] all over = tt
retried_step number (Some (Some r)) (y ∷ ys) all over = (record { reply = record { status = r.status; nack = r.nack }; came = refl; retries = over y ys refl }, all)

all_retried : (notes : List Note) (m p : ℕ) (ns : List Note) → ((j k : ℕ) (a b : RequestId) → j < k → slice_get ns j ≡ Some (Sent a m p) → slice_get ns k ≡ Some (Sent b m p) → IsRetried (fate_of notes a.worker a.number))
    → AreRetried (answers_of (flat_map (attempts_in notes m p) ns))
all_retried notes m p [] over = tt
all_retried notes m p (n ∷ ns) over = step n refl (all_retried notes m p ns (λ j k a b low. over (suc j) (suc k) a b (omega (arith, low))))
  where
    later : (request : RequestId) → n ≡ Sent request m p → (y : Attempt (Unit {0})) (ys : List (Attempt (Unit {0}))) → flat_map (attempts_in notes m p) ns ≡ y ∷ ys → IsRetried (fate_of notes request.worker request.number)
    later request is y ys rest =
        let first : slice_get (flat_map (attempts_in notes m p) ns) 0 ≡ Some y = ap (λ (l : List (Attempt (Unit {0}))). slice_get l 0) rest in
        let f = from (attempts_in notes m p) ns 0 y first in
        let s = sent_of notes m p f.note f.within y f.is in
        over 0 (suc f.place) request s.0 (omega arith) (ap Some is) (f.there ∙ ap Some s.1)

    step : (x : Note) → n ≡ x → AreRetried (answers_of (flat_map (attempts_in notes m p) ns)) → AreRetried (answers_of (attempts_in notes m p x ++ flat_map (attempts_in notes m p) ns))
    step (Begun i) is all = all
    step (Sent request i q) is all = here (i == m && (q == p)) refl
      where
        here : (b : Bool) → (i == m && (q == p)) ≡ b → AreRetried (answers_of ((if b then attempts_with request.number (fate_of notes request.worker request.number) else []) ++ flat_map (attempts_in notes m p) ns))
        here true e =
            let h = both (i == m) (q == p) e in
            retried_step request.number (fate_of notes request.worker request.number) (flat_map (attempts_in notes m p) ns) all (later request (is ∙ (λ j. Sent request (eqb-true i m h.0 j) (eqb-true q p h.1 j))))
        here false e = all
    step (Unsent request) is all = all
    step (Heard by reply) is all = all
    step (Refused i r) is all = all
    step (End s) is all = all
    step (Round number binds workers) is all = all

pub journal_retried : (rules : Rules) (size : RunSize) (ms : List Message) (notes : List Note) (m p : ℕ) → IsJournal rules size ms notes → AreRetried (answers_of (attempts_of notes m p))
journal_retried rules size ms notes m p all = all_retried notes m p notes (earlier_over rules size ms notes m p all)

-- ---- charges

part_stays : (rules : Rules) (size : RunSize) (ms : List Message) (notes later : List Note) (m : Message) (p : ℕ) (xs ys : List (SegmentEnd (Unit {0}))) → IsJournal rules size ms (notes ++ later)
    → AreRecoveredSegments rules notes m xs → AreRecoveredSegments rules (notes ++ later) m ys → HasChargedPart xs p → HasChargedPart ys p
part_stays rules size ms notes later m p xs ys lawful h g charged =
    let found = as_long xs ys p charged.part (g.count ∙ sym h.count) charged.there in
    let before = h.each p charged.part charged.there in
    let after = g.each p found.0 found.1 in
    let retried = subst (λ (l : List (Attempt (Unit {0}))). AreRetried (answers_of l)) (sym after.attempts) (journal_retried rules size ms (notes ++ later) m.index (p + 1) lawful) in
    record { part = found.0; there = found.1; charged = charges_stay rules notes later m (p + 1) charged.part found.0 before after retried charged.charged }

still_begun : (rules : Rules) (notes later : List Note) (m : Message) (xs : List (SegmentEnd (Unit {0}))) (r : MessageRefusal) → AreRecoveredSegments rules notes m xs → IsRecoveredRefusal rules m (start_of (notes ++ later) m.index) r → ⊥
still_begun rules notes later m xs r h g =
    let begun : start_of (notes ++ later) m.index ≡ Some None = first_append (start_in m.index) notes later None h.begun in
    let long : IsRecoveredRefusal rules m (Some None) r = subst (λ (o : Option (Option MessageRefusal)). IsRecoveredRefusal rules m o r) begun g in
    h.short long.0

result_stays : (rules : Rules) (size : RunSize) (ms : List Message) (notes later : List Note) (m : Message) (p : ℕ) (r s : MessageResult (Unit {0})) → IsJournal rules size ms (notes ++ later)
    → IsRecoveredResult rules notes m r → IsRecoveredResult rules (notes ++ later) m s → HasChargedPart (parts_in r) p → HasChargedPart (parts_in s) p
result_stays rules size ms notes later m p (result.Sent xs) (result.Sent ys) lawful h g charged = part_stays rules size ms notes later m p xs ys lawful h g charged
result_stays rules size ms notes later m p (result.Sent xs) (result.Refused why) lawful h g charged = absurd (still_begun rules notes later m xs why h g)
result_stays rules size ms notes later m p (result.Refused why) s lawful h g charged = let none = charged.there in absurd (cc)

pub charges_stay_charges : ChargesStayCharges
charges_stay_charges rules size ms notes later m e f p lawful h g charged = result_stays rules size ms notes later m p e.result f.result lawful h.result g.result charged
