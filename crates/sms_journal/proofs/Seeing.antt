-- What is kept of notes, with one more.
use Rattle.std.proofs.Common.{◌≡◌, ℕ, ◌+◌, ◌-◌, List, [], ◌∷◌, ◌++◌, length, Some, None, inl, inr, refl, sym, ap, ◌∙◌, subst, Bool, true, false, true≢false, arith}
use Rattle.std.specs.Prelude.{◌↔◌, Option, IsSome, take, if◌then◌else◌, ◌==◌, ◌&&◌, nat_eq}
use Rattle.std.specs.HashMap.{get}
use Rattle.std.proofs.Common.{append-nil, length-append}
use Rattle.std.proofs.lemmas.Bool.{eqb-true, eqb-false, eq-eqb}
use Rattle.std.proofs.lemmas.Grind.{flat_map-append}
use Rattle.sms_pdu.specs.declared.reply.Reply.{Reply}
use Rattle.sms_message.specs.declared.message.Message.{Message}
use Rattle.sms_message.specs.declared.rules.Rules.{Rules}
use Rattle.sms_message.specs.declared.ends.MessageRefusal.{MessageRefusal}
use Rattle.sms_journal.specs.declared.notes.note.RequestId.{RequestId}
use Rattle.sms_journal.specs.declared.notes.note.Note.{Note}
use Rattle.sms_journal.specs.declared.notes.note.Note.TheVariants.{Begun, Sent, Unsent, Heard, Refused, End, Round}
use Rattle.sms_journal.specs.declared.notes.seen.Seen.{Seen}
use Rattle.sms_journal.specs.DenseMap.{value_at, value_in}
use Rattle.sms_journal.specs.Recovered.{or_else, fate_in, fate_of, first_in, start_in, start_of}
use Rattle.sms_journal.specs.RunSize.{bind_of}
use Rattle.sms_journal.specs.declared.notes.seen.Tries.{Tries}
use Rattle.sms_journal.specs.declared.notes.run_size.RunSize.{RunSize}
use Rattle.sms_journal.specs.Lawful.{Follows, HasParts, IsAbove, IsRetried, IsRound, MayFollow, MayTry, end_in, requests_in, requests_of, sent_in, user_in, user_of}
use Rattle.sms_journal.specs.Seen.{AreTries, IsCounted, IsCountFor, IsKept, IsGreatest, IsLast, IsLatest, Sees, count_in, latest_in, left_by, tries_in}
use Rattle.sms_files.proofs.Lists.{got_of_append}
use Rattle.sms_journal.proofs.Firsts.{first_snoc}
use Rattle.sms_journal.proofs.Lists.{got_before, got_last, take_before, take_within}

both : (a b : Bool) → (a && b) ≡ true → (a ≡ true) × (b ≡ true)
both true b e = (refl, e)
both false b e = absurd (cc)

equal : (i m : ℕ) → i ≡ m → (q p : ℕ) → q ≡ p → (i == m && (q == p)) ≡ true
equal i m x q p y = ap (λ b. b && (q == p)) (eq-eqb i m x) ∙ eq-eqb q p y

-- ---- the latest number

latest_same : (notes : List Note) (n : Note) (w : ℕ) (o : Option ℕ) → ((request : RequestId) (m p : ℕ) → n ≡ Sent request m p → request.worker ≡ w → ⊥) → IsLatest notes w o → IsLatest (notes ++ n ∷ []) w o
latest_same notes n w None new h = λ k request m p there its. elim (got_of_append notes n k (Sent request m p) there) [
  | inl before ↦ h k request m p before its
  | inr last ↦ new request m p (sym last.1) its
]
latest_same notes n w (Some number) new h = record {
  place = h.place;
  request = h.request;
  message = h.message;
  part = h.part;
  there = got_before notes n h.place (Sent h.request h.message h.part) h.there;
  its = h.its;
  is = h.is;
  greatest = λ k other m p there its. elim (got_of_append notes n k (Sent other m p) there) [
    | inl before ↦ h.greatest k other m p before its
    | inr last ↦ absurd (new other m p (sym last.1) its)
  ];
}

latest_new : (notes : List Note) (request : RequestId) (m p w : ℕ) → IsAbove notes request → request.worker ≡ w → IsGreatest (notes ++ Sent request m p ∷ []) w request.number
latest_new notes request m p w above its = record {
  place = length notes;
  request = request;
  message = m;
  part = p;
  there = got_last notes (Sent request m p);
  its = its;
  is = refl;
  greatest = λ k other i q there same. elim (got_of_append notes (Sent request m p) k (Sent other i q) there) [
    | inl before ↦ let low = above k other i q before (same ∙ sym its) in omega (arith, low)
    | inr last ↦ let e : other ≡ request = let f = last.1 in cc in let g : other.number ≡ request.number = ap (λ (c : RequestId). c.number) e in omega (arith, g)
  ];
}

latest_more : (notes : List Note) (n : Note) (w : ℕ) (o : Option ℕ) → ((request : RequestId) (m p : ℕ) → n ≡ Sent request m p → IsAbove notes request) → IsLatest notes w o → IsLatest (notes ++ n ∷ []) w (latest_in w n o)
latest_more notes (Begun i) w o above h = latest_same notes (Begun i) w o (λ request m p e. absurd (cc)) h
latest_more notes (Sent request i q) w o above h = here (request.worker == w) refl
  where
    here : (b : Bool) → (request.worker == w) ≡ b → IsLatest (notes ++ Sent request i q ∷ []) w (if b then Some request.number else o)
    here true e = latest_new notes request i q w (above request i q refl) (eqb-true request.worker w e)
    here false e = latest_same notes (Sent request i q) w o (λ other m p f its. eqb-false request.worker w e (let same : request ≡ other = cc in ap (λ (c : RequestId). c.worker) same ∙ its)) h
latest_more notes (Unsent request) w o above h = latest_same notes (Unsent request) w o (λ other m p e. absurd (cc)) h
latest_more notes (Heard by reply) w o above h = latest_same notes (Heard by reply) w o (λ request m p e. absurd (cc)) h
latest_more notes (Refused i r) w o above h = latest_same notes (Refused i r) w o (λ request m p e. absurd (cc)) h
latest_more notes (End s) w o above h = latest_same notes (End s) w o (λ request m p e. absurd (cc)) h
latest_more notes (Round number binds workers) w o above h = latest_same notes (Round number binds workers) w o (λ request m p e. absurd (cc)) h

-- ---- the requests for a part

retried_more : (notes : List Note) (n : Note) (request : RequestId) → IsRetried (fate_of notes request.worker request.number) → IsRetried (fate_of (notes ++ n ∷ []) request.worker request.number)
retried_more notes n request h = subst IsRetried (sym (first_snoc (fate_in request.worker request.number) notes n)) (stays (fate_of notes request.worker request.number) (fate_in request.worker request.number n) h)
  where
    stays : (o x : Option (Option Reply)) → IsRetried o → IsRetried (or_else o x)
    stays None x h = absurd h
    stays (Some f) x h = h

-- with one more note
requests_more : (notes : List Note) (n : Note) (m p : ℕ) → requests_of (notes ++ n ∷ []) m p ≡ requests_of notes m p ++ requests_in m p n
requests_more notes n m p = flat_map-append (requests_in m p) notes (n ∷ []) ∙ ap (λ l. requests_of notes m p ++ l) (append-nil (requests_in m p n))

no_request : (n : Note) (m p : ℕ) → ((request : RequestId) → n ≡ Sent request m p → ⊥) → requests_in m p n ≡ []
no_request (Begun i) m p new = refl
no_request (Sent request i q) m p new = here (i == m && (q == p)) refl
  where
    here : (b : Bool) → (i == m && (q == p)) ≡ b → (if b then request ∷ [] else []) ≡ []
    here true e = let h = both (i == m) (q == p) e in absurd (new request (λ j. Sent request (eqb-true i m h.0 j) (eqb-true q p h.1 j)))
    here false e = refl
no_request (Unsent request) m p new = refl
no_request (Heard by reply) m p new = refl
no_request (Refused i r) m p new = refl
no_request (End s) m p new = refl
no_request (Round number binds workers) m p new = refl

same_requests : (notes : List Note) (n : Note) (m p : ℕ) → ((request : RequestId) → n ≡ Sent request m p → ⊥) → requests_of (notes ++ n ∷ []) m p ≡ requests_of notes m p
same_requests notes n m p new = requests_more notes n m p ∙ ap (λ l. requests_of notes m p ++ l) (no_request n m p new) ∙ append-nil (requests_of notes m p)

one_more : (notes : List Note) (request : RequestId) (m p : ℕ) → length (requests_of (notes ++ Sent request m p ∷ []) m p) ≡ length (requests_of notes m p) + 1
one_more notes request m p =
    ap length (requests_more notes (Sent request m p) m p ∙ ap (λ b. requests_of notes m p ++ (if b then request ∷ [] else [])) (equal m m refl p p refl)) ∙ length-append (requests_of notes m p) (request ∷ [])

last_same : (notes : List Note) (n : Note) (m p : ℕ) (request : RequestId) → ((other : RequestId) → n ≡ Sent other m p → ⊥) → IsLast notes m p request → IsLast (notes ++ n ∷ []) m p request
last_same notes n m p request new h = record {
  place = h.place;
  there = got_before notes n h.place (Sent request m p) h.there;
  others = λ k other there. elim (got_of_append notes n k (Sent other m p) there) [
    | inl before ↦ elim (h.others k other before) [ inl same ↦ inl same | inr over ↦ inr (retried_more notes n other over) ]
    | inr last ↦ absurd (new other (sym last.1))
  ];
}

tries_same : (rules : Rules) (notes : List Note) (n : Note) (m p : ℕ) (o : Option Tries) → ((request : RequestId) → n ≡ Sent request m p → ⊥) → AreTries rules notes m p o → AreTries rules (notes ++ n ∷ []) m p o
tries_same rules notes n m p None new h = record {
  none = same_requests notes n m p new ∙ h.none;
  nowhere = λ k request there. elim (got_of_append notes n k (Sent request m p) there) [
    | inl before ↦ h.nowhere k request before
    | inr last ↦ new request (sym last.1)
  ];
}
tries_same rules notes n m p (Some tries) new h = (last_same notes n m p tries.last new h.0, subst (λ (l : List RequestId). tries.left ≡ rules.policy.attempts - length l) (sym (same_requests notes n m p new)) h.1)

last_new : (rules : Rules) (notes : List Note) (request : RequestId) (m p : ℕ) → MayTry rules notes m p → IsLast (notes ++ Sent request m p ∷ []) m p request
last_new rules notes request m p may = record {
  place = length notes;
  there = got_last notes (Sent request m p);
  others = λ k other there. elim (got_of_append notes (Sent request m p) k (Sent other m p) there) [
    | inl before ↦ inr (retried_more notes (Sent request m p) other (may.retried k other before))
    | inr last ↦ inl (let f = last.1 in cc)
  ];
}

-- how often the part may be sent is one less
left_is : (rules : Rules) (notes : List Note) (m p : ℕ) (o : Option Tries) → AreTries rules notes m p o → left_by rules.policy.attempts o ≡ rules.policy.attempts - length (requests_of notes m p)
left_is rules notes m p None h = let none : length (requests_of notes m p) ≡ 0 = ap length h.none in omega (arith, none)
left_is rules notes m p (Some tries) h = h.1

left_more : (rules : Rules) (notes : List Note) (request : RequestId) (m p : ℕ) (o : Option Tries) → AreTries rules notes m p o
    → left_by rules.policy.attempts o - 1 ≡ rules.policy.attempts - length (requests_of (notes ++ Sent request m p ∷ []) m p)
left_more rules notes request m p o h = let is = left_is rules notes m p o h in let more = one_more notes request m p in omega (arith, is, more)

tries_new : (rules : Rules) (notes : List Note) (request : RequestId) (m p : ℕ) (o : Option Tries) → MayTry rules notes m p → AreTries rules notes m p o
    → AreTries rules (notes ++ Sent request m p ∷ []) m p (Some (record { last = request; left = left_by rules.policy.attempts o - 1 }))
tries_new rules notes request m p o may h = (last_new rules notes request m p may, left_more rules notes request m p o h)

tries_more : (rules : Rules) (notes : List Note) (n : Note) (m p : ℕ) (o : Option Tries) → ((request : RequestId) (i q : ℕ) → n ≡ Sent request i q → MayTry rules notes i q) → AreTries rules notes m p o
    → AreTries rules (notes ++ n ∷ []) m p (tries_in rules.policy.attempts m p n o)
tries_more rules notes (Begun i) m p o again h = tries_same rules notes (Begun i) m p o (λ request e. absurd (cc)) h
tries_more rules notes (Sent request i q) m p o again h = here (q == p && (i == m)) refl
  where
    new : Option Tries
    new = Some (record { last = request; left = left_by rules.policy.attempts o - 1 })

    here : (b : Bool) → (q == p && (i == m)) ≡ b → AreTries rules (notes ++ Sent request i q ∷ []) m p (if b then new else o)
    here true e =
        let f = both (q == p) (i == m) e in
        let x = eqb-true i m f.1 in
        let y = eqb-true q p f.0 in
        let may = subst (λ (j : ℕ). MayTry rules notes j p) x (subst (λ (j : ℕ). MayTry rules notes i j) y (again request i q refl)) in
        subst (λ (j : ℕ). AreTries rules (notes ++ Sent request j q ∷ []) m p new) (sym x) (subst (λ (j : ℕ). AreTries rules (notes ++ Sent request m j ∷ []) m p new) (sym y) (tries_new rules notes request m p o may h))
    here false e = tries_same rules notes (Sent request i q) m p o (λ other f. let x : i ≡ m = cc in let y : q ≡ p = cc in true≢false (sym (equal q p y i m x) ∙ e)) h
tries_more rules notes (Unsent request) m p o again h = tries_same rules notes (Unsent request) m p o (λ request e. absurd (cc)) h
tries_more rules notes (Heard by reply) m p o again h = tries_same rules notes (Heard by reply) m p o (λ request e. absurd (cc)) h
tries_more rules notes (Refused i r) m p o again h = tries_same rules notes (Refused i r) m p o (λ request e. absurd (cc)) h
tries_more rules notes (End s) m p o again h = tries_same rules notes (End s) m p o (λ request e. absurd (cc)) h
tries_more rules notes (Round number binds workers) m p o again h = tries_same rules notes (Round number binds workers) m p o (λ request e. absurd (cc)) h

-- ---- how many parts a message has

none_first : (o : Option (Option MessageRefusal)) → or_else o None ≡ Some None → o ≡ Some None
none_first None e = absurd (cc)
none_first (Some x) e = e

refused_first : (o : Option (Option MessageRefusal)) (r : MessageRefusal) → or_else o (Some (Some r)) ≡ Some None → o ≡ Some None
refused_first None r e = absurd (cc)
refused_first (Some x) r e = e

counted_more : (rules : Rules) (size : RunSize) (ms : List Message) (n : Note) (count i : ℕ) (start : Option (Option MessageRefusal)) (o : Option ℕ) → IsCountFor rules size ms n count
    → (start ≡ Some None → IsCounted rules size ms i o) → or_else start (start_in i n) ≡ Some None → IsCounted rules size ms i (count_in count i n o)
counted_more rules size ms (Begun j) count i start o counts h = here (j == i) refl
  where
    here : (b : Bool) → (j == i) ≡ b → or_else start (if b then Some None else None) ≡ Some None → IsCounted rules size ms i (if b then Some count else o)
    here true e begun = subst (λ (k : ℕ). HasParts rules size ms k count) (eqb-true j i e) counts
    here false e begun = h (none_first start begun)
counted_more rules size ms (Sent request j p) count i start o counts h = λ begun. h (none_first start begun)
counted_more rules size ms (Unsent request) count i start o counts h = λ begun. h (none_first start begun)
counted_more rules size ms (Heard by reply) count i start o counts h = λ begun. h (none_first start begun)
counted_more rules size ms (Refused j r) count i start o counts h = here (j == i)
  where
    here : (b : Bool) → or_else start (if b then Some (Some r) else None) ≡ Some None → IsCounted rules size ms i o
    here true begun = h (refused_first start r begun)
    here false begun = h (none_first start begun)
counted_more rules size ms (End s) count i start o counts h = λ begun. h (none_first start begun)
counted_more rules size ms (Round number binds workers) count i start o counts h = λ begun. h (none_first start begun)

-- ---- what is a request's

none_more : (s : Option Note) (u : Option ℕ) (w : ℕ) → IsSome s ↔ (u ≡ Some w) → IsSome (or_else s None) ↔ (or_else u None ≡ Some w)
none_more None None w h = h
none_more None (Some x) w h = h
none_more (Some n) None w h = h
none_more (Some n) (Some x) w h = h

some_before : (s : Option Note) → IsSome (or_else s None) → IsSome s
some_before None h = h
some_before (Some n) h = h

some_since : (s : Option Note) (n : Note) → IsSome (or_else s (Some n))
some_since None n = refl
some_since (Some m) n = refl

-- a number that nobody at the bind used, by its worker and by another
sent_new : (s : Option Note) (u : Option ℕ) (n : Note) (w x : ℕ) → u ≡ None → x ≡ w → IsSome (or_else s (Some n)) ↔ (or_else u (Some x) ≡ Some w)
sent_new s u n w x unused same = ((λ yes. ap (λ o. or_else o (Some x)) unused ∙ ap Some same), (λ is. some_since s n))

sent_by_another : (s : Option Note) (u : Option ℕ) (w x : ℕ) → u ≡ None → (x ≡ w → ⊥) → IsSome s ↔ (u ≡ Some w) → IsSome (or_else s None) ↔ (or_else u (Some x) ≡ Some w)
sent_by_another s u w x unused other h = (
  (λ yes. let is : u ≡ Some w = h.0 (some_before s yes) in absurd (cc)),
  (λ is. let e : or_else None (Some x) ≡ Some w = ap (λ o. or_else o (Some x)) (sym unused) ∙ is in let same : x ≡ w = cc in absurd (other same)),
)

sent_more : (size : RunSize) (n : Note) (w k : ℕ) (s : Option Note) (u : Option ℕ) → ((request : RequestId) (m p : ℕ) → n ≡ Sent request m p → bind_of size request.worker ≡ bind_of size w → request.number ≡ k → u ≡ None)
    → IsSome s ↔ (u ≡ Some w) → IsSome (or_else s (sent_in w k n)) ↔ (or_else u (user_in size (bind_of size w) k n) ≡ Some w)
sent_more size (Begun i) w k s u new h = none_more s u w h
sent_more size (Sent request i p) w k s u new h = here (request.worker == w) (request.number == k) (bind_of size request.worker == bind_of size w) refl refl refl
  where
    unused : (request.number == k) ≡ true → (bind_of size request.worker == bind_of size w) ≡ true → u ≡ None
    unused number bind = new request i p refl (eqb-true (bind_of size request.worker) (bind_of size w) bind) (eqb-true request.number k number)

    here : (a b c : Bool) → (request.worker == w) ≡ a → (request.number == k) ≡ b → (bind_of size request.worker == bind_of size w) ≡ c
        → IsSome (or_else s (if a && b then Some (Sent request i p) else None)) ↔ (or_else u (if c && b then Some request.worker else None) ≡ Some w)
    here true true true e f g = sent_new s u (Sent request i p) w request.worker (unused f g) (eqb-true request.worker w e)
    here true true false e f g = absurd (eqb-false (bind_of size request.worker) (bind_of size w) g (ap (bind_of size) (eqb-true request.worker w e)))
    here false true true e f g = sent_by_another s u w request.worker (unused f g) (eqb-false request.worker w e) h
    here false true false e f g = none_more s u w h
    here true false true e f g = none_more s u w h
    here true false false e f g = none_more s u w h
    here false false true e f g = none_more s u w h
    here false false false e f g = none_more s u w h
sent_more size (Unsent request) w k s u new h = none_more s u w h
sent_more size (Heard by reply) w k s u new h = none_more s u w h
sent_more size (Refused i r) w k s u new h = none_more s u w h
sent_more size (End status) w k s u new h = none_more s u w h
sent_more size (Round number binds workers) w k s u new h = none_more s u w h

-- ---- all of it

unused_of : (rules : Rules) (size : RunSize) (ms : List Message) (given : List ℕ) (notes : List Note) (n : Note) → Follows rules size ms given notes n → (request : RequestId) (m p : ℕ) → n ≡ Sent request m p
    → user_of size notes (bind_of size request.worker) request.number ≡ None
unused_of rules size ms given notes n may request m p e = (subst (Follows rules size ms given notes) e may).number.unused

above_of : (rules : Rules) (size : RunSize) (ms : List Message) (given : List ℕ) (notes : List Note) (n : Note) → Follows rules size ms given notes n → (request : RequestId) (m p : ℕ) → n ≡ Sent request m p → IsAbove notes request
above_of rules size ms given notes n may request m p e = (subst (Follows rules size ms given notes) e may).number.above

again_of : (rules : Rules) (size : RunSize) (ms : List Message) (given : List ℕ) (notes : List Note) (n : Note) → Follows rules size ms given notes n → (request : RequestId) (m p : ℕ) → n ≡ Sent request m p → MayTry rules notes m p
again_of rules size ms given notes n may request m p e = (subst (Follows rules size ms given notes) e may).again

pub sees_more : (rules : Rules) (size : RunSize) (ms : List Message) (given : List ℕ) (notes : List Note) (n : Note) (count : ℕ) (old new : Seen) → IsKept rules size n count old new → Sees rules size ms notes old
    → MayFollow rules size ms given notes n → IsCountFor rules size ms n count → Sees rules size ms (notes ++ n ∷ []) new
sees_more rules size ms given notes n count old new kept sees may counts = record {
  starts = λ i. kept.starts i ∙ ap (λ o. or_else o (start_in i n)) (sees.starts i) ∙ sym (first_snoc (start_in i) notes n);
  counts = λ i begun. subst (IsCounted rules size ms i) (sym (kept.counts i))
      (counted_more rules size ms n count i (start_of notes i) (value_at old.counts i) counts (sees.counts i) (sym (first_snoc (start_in i) notes n) ∙ begun));
  sent = λ w k.
      let unused = λ (request : RequestId) (m p : ℕ) (e : n ≡ Sent request m p) (bind : bind_of size request.worker ≡ bind_of size w) (number : request.number ≡ k).
      sees.users (bind_of size w) k ∙ ap (λ b. user_of size notes b k) (sym bind) ∙ ap (λ j. user_of size notes (bind_of size request.worker) j) (sym number) ∙ unused_of rules size ms given notes n may.follows request m p e in
      subst (λ (s : Option Note). IsSome s ↔ (value_in new.users (bind_of size w) k ≡ Some w)) (sym (first_snoc (sent_in w k) notes n))
      (subst (λ (u : Option ℕ). IsSome (or_else (first_in (sent_in w k) notes) (sent_in w k n)) ↔ (u ≡ Some w)) (sym (kept.users (bind_of size w) k))
      (sent_more size n w k (first_in (sent_in w k) notes) (value_in old.users (bind_of size w) k) unused (sees.sent w k)));
  fates = λ w k. kept.fates w k ∙ ap (λ o. or_else o (fate_in w k n)) (sees.fates w k) ∙ sym (first_snoc (fate_in w k) notes n);
  latest = λ w. subst (IsLatest (notes ++ n ∷ []) w) (sym (kept.latest w)) (latest_more notes n w (get nat_eq old.latest w) (above_of rules size ms given notes n may.follows) (sees.latest w));
  users = λ b k. kept.users b k ∙ ap (λ o. or_else o (user_in size b k n)) (sees.users b k) ∙ sym (first_snoc (user_in size b k) notes n);
  tries = λ m p. subst (AreTries rules (notes ++ n ∷ []) m p) (sym (kept.tries m p)) (tries_more rules notes n m p (value_in old.tries p m) (again_of rules size ms given notes n may.follows) (sees.tries m p));
  end = kept.end ∙ ap (λ o. or_else o (end_in n)) sees.end ∙ sym (first_snoc end_in notes n);
}

pub round_more : (rules : Rules) (size : RunSize) (ms : List Message) (given : List ℕ) (notes : List Note) (n : Note) → IsRound rules size ms given notes → MayFollow rules size ms given notes n → IsRound rules size ms given (notes ++ n ∷ [])
round_more rules size ms given notes n all may k x there = elim (got_of_append notes n k x there) [
  | inl before ↦ subst (λ (l : List Note). MayFollow rules size ms given l x) (sym (take_within notes n k x before)) (all k x before)
  | inr last ↦
      subst (λ (j : ℕ). MayFollow rules size ms given (take j (notes ++ n ∷ [])) x) (sym last.0)
      (subst (λ (l : List Note). MayFollow rules size ms given l x) (sym (take_before notes n)) (subst (MayFollow rules size ms given notes) (sym last.1) may))
]
