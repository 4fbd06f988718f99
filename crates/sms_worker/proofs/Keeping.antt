-- Each step of a run keeps what a run keeps.
use Rattle.std.proofs.Common.{◌≡◌, ℕ, suc, ◌<◌, ◌≤◌, List, [], ◌∷◌, ◌++◌, length, map, take, drop, append_assoc, append-nil, length-append, Some, None, inl, inr, refl, sym, ap, ◌∙◌, subst, arith}
use Rattle.std.specs.Prelude.{◌⊎◌, Option, option_map, slice_get}
use Rattle.std.specs.List.{AllByRecursion}
use Rattle.sms_pdu.specs.declared.reply.Reply.{Reply}
use Rattle.sms_segment.specs.declared.part.Part.{Part}
use Rattle.std.proofs.lemmas.Option.{slice_get-map}
use Rattle.sms_message.specs.declared.user_data.UserData.{UserData}
use Rattle.sms_message.specs.UserData.{user_data}
use Rattle.sms_session.specs.declared.policy.Decision.{Decision}
use Rattle.sms_window.specs.SeatState.{SeatState}
use Rattle.sms_window.specs.declared.view.View.{View}
use Rattle.sms_window.specs.Outcome.{FreedSlot}
use Rattle.sms_window.specs.OpenSlots.{IsOpen}
use Rattle.sms_window.proofs.OpenSlots.{one_less_at, none_more}
use Rattle.sms_window.proofs.Drawing.{draws_none, releases_draw_none}
use Rattle.sms_book.specs.Shares.{Share}
use Rattle.sms_book.specs.Portions.{amounts_at}
use Rattle.sms_message.specs.declared.message.Message.{Message}
use Rattle.sms_message.specs.declared.rules.Rules.{Rules}
use Rattle.sms_worker.specs.declared.state.open.Open.{Open}
use Rattle.sms_message.specs.declared.ends.Outcome.{Outcome}
use Rattle.sms_message.specs.declared.ends.Outcome.TheVariants.{Unanswered}
use Rattle.sms_worker.specs.Types.{Attempt, SegmentEnd, MessageEnd}
use Rattle.sms_core.specs.Rows.{reserved_of, charged_of, returned_of}
use Rattle.sms_message.specs.Ends.{segment_at, put, credit, uses}
use Rattle.sms_worker.specs.Start.{Start}
use Rattle.sms_message.specs.Submits.{SpellsSubmit, message_parts}
use Rattle.sms_worker.specs.Told.{IsSubmit, IsAnswered, HeardSince, IsTold, ArePending, Drew, Grew}
use Rattle.sms_message.specs.Results.{IsSettled, IsWaiting, AreEnds}
use Rattle.sms_worker.specs.Keeps.{Keeps, slots_of}
use Rattle.sms_worker.specs.Steps.{GivesUp, Answers, with_outcome, outcome_after, number_unsent, settled_to, Tries}
use Rattle.sms_worker.specs.declared.steps.attempt.TrySend.{TrySend}
use Rattle.sms_worker.specs.declared.steps.attempt.TrySend.TheVariants.{Sent, Retry, GiveUp}
use Rattle.sms_worker.specs.declared.steps.give_up.GiveUpReason.TheVariants.{Done, Gate, Kept, Line, Memory, Numbers}
use Rattle.sms_worker.proofs.Changes.{told_put, ends_put, drew_same, drew_sent, drew_unused, grew_same, grew_settled, credit_held, known_account, length-settled, number-settled}
use Rattle.sms_worker.proofs.Tries.{all_snoc, all_front, all_map, sent_state}
use Rattle.sms_worker.proofs.EndLemmas.{get_more, get_last, total_none}

-- one segment end changed, and with it the seat and the share
pub keeps_put : (start : Start) (ms : List Message) (es : List MessageEnd) (pending : List (List UserData)) (os os' : List Open) (seat seat' : SeatState) (share share' : Share) (replies : List Reply) (k p : ℕ) (m : Message) (s s' : SegmentEnd)
    → Keeps start ms es pending os seat share replies → slice_get ms k ≡ Some m → segment_at es k p ≡ Some s → IsTold start.rules (length start.received) replies m p s' → seat'.window ≡ seat.window → share'.number ≡ share.number
    → length share'.amounts ≡ length share.amounts → IsOpen start.seat.view.slots (slots_of os') seat'.view.slots → Drew start.seat.view seat'.view start.messages (put es k p s')
    → Grew start.share.amounts share'.amounts start.messages (put es k p s') → length pending ≡ length (put es k p s') → Keeps start ms (put es k p s') pending os' seat' share' replies
keeps_put start ms es pending os os' seat seat' share share' replies k p m s s' keeps there at told window number accounts slots numbers money long = record {
  messages = keeps.messages;
  window = window ∙ keeps.window;
  number = number ∙ keeps.number;
  accounts = accounts ∙ keeps.accounts;
  replies_more = keeps.replies_more;
  slots = slots;
  numbers = numbers;
  shape = ends_put start.rules (length start.share.amounts) start.messages es k p s' keeps.shape;
  ends = told_put start.rules (length start.received) replies start.messages es k p m s' keeps.ends (ap (λ l. slice_get l k) (sym keeps.messages) ∙ there) told;
  money = money;
  pending_kept = keeps.pending_kept;
  pending_long = long;
}

pub told_there : (start : Start) (ms : List Message) (es : List MessageEnd) (pending : List (List UserData)) (os : List Open) (seat : SeatState) (share : Share) (replies : List Reply) (k p : ℕ) (m : Message) (s : SegmentEnd)
    → Keeps start ms es pending os seat share replies → slice_get ms k ≡ Some m → segment_at es k p ≡ Some s → IsTold start.rules (length start.received) replies m p s
told_there start ms es pending os seat share replies k p m s keeps there at = keeps.ends k p m s (ap (λ l. slice_get l k) (sym keeps.messages) ∙ there) at

-- the account of a message that has segments is one of the share's
pub known_there : (start : Start) (ms : List Message) (es : List MessageEnd) (pending : List (List UserData)) (os : List Open) (seat : SeatState) (share : Share) (replies : List Reply) (k p : ℕ) (m : Message) (s : SegmentEnd)
    → Keeps start ms es pending os seat share replies → slice_get ms k ≡ Some m → segment_at es k p ≡ Some s → (a : ℕ) → m.account ≡ Some a → a < length share.amounts
known_there start ms es pending os seat share replies k p m s keeps there at a acc =
    subst (λ n. a < n) (sym keeps.accounts) (known_account start.rules (length start.share.amounts) start.messages es k p a m s keeps.shape (ap (λ l. slice_get l k) (sym keeps.messages) ∙ there) at acc)

-- the credits of a segment that isn't settled are in the share
pub fits_there : (start : Start) (ms : List Message) (es : List MessageEnd) (pending : List (List UserData)) (os : List Open) (seat : SeatState) (share : Share) (replies : List Reply) (k p : ℕ) (m : Message) (s : SegmentEnd)
    → Keeps start ms es pending os seat share replies → slice_get ms k ≡ Some m → segment_at es k p ≡ Some s → s.outcome ≡ Unanswered → (a : ℕ) → m.account ≡ Some a → (0 < s.cost) × (s.cost ≤ (amounts_at share.amounts a).reserved)
fits_there start ms es pending os seat share replies k p m s keeps there at is a acc =
    let t = told_there start ms es pending os seat share replies k p m s keeps there at in
    (t.some, credit_held start.share.amounts share.amounts start.messages es k p a m s keeps.money (ap (λ l. slice_get l k) (sym keeps.messages) ∙ there) at is acc)

-- a segment end changed, its attempts' numbers stayed, and its credits moved as its outcome says
pub keeps_settled : (start : Start) (ms : List Message) (es : List MessageEnd) (pending : List (List UserData)) (os : List Open) (seat : SeatState) (share : Share) (replies : List Reply) (k p : ℕ) (m : Message) (s s' : SegmentEnd) (o : Outcome)
    → Keeps start ms es pending os seat share replies → slice_get ms k ≡ Some m → segment_at es k p ≡ Some s → IsTold start.rules (length start.received) replies m p s' → s.outcome ≡ Unanswered → s'.outcome ≡ o → s'.cost ≡ s.cost
    → map (λ (y : Attempt). y.number) s'.attempts ≡ map (λ (y : Attempt). y.number) s.attempts → length pending ≡ length (put es k p s')
    → Keeps start ms (put es k p s') pending os seat (settled_to o m.account s.cost share) replies
keeps_settled start ms es pending os seat share replies k p m s s' o keeps there at told is is' c numbers long =
    let there' : slice_get start.messages k ≡ Some m = ap (λ l. slice_get l k) (sym keeps.messages) ∙ there in
    keeps_put start ms es pending os os seat seat share (settled_to o m.account s.cost share) replies k p m s s' keeps there at told refl (number-settled o m.account s.cost share) (length-settled o m.account s.cost share) keeps.slots
    (drew_same start.seat.view seat.view start.messages es k p m s s' keeps.numbers there' at numbers)
    (grew_settled start.rules start.share.amounts share start.messages es k p m s s' o (subst (λ n. AreEnds start.rules n start.messages es) (sym keeps.accounts) keeps.shape) keeps.money there' at is is' c) long

-- a waiting segment was given up
pub keeps_given : (start : Start) (ms : List Message) (es es' : List MessageEnd) (pending : List (List UserData)) (os : List Open) (seat : SeatState) (share share' : Share) (replies : List Reply) (k p : ℕ) (m : Message) (s s' : SegmentEnd)
    → Keeps start ms es pending os seat share replies → slice_get ms k ≡ Some m → segment_at es k p ≡ Some s → IsWaiting start.rules.policy.attempts s → GivesUp s s' → share' ≡ settled_to s'.outcome m.account s.cost share → es' ≡ put es k p s'
    → length es' ≡ length es → Keeps start ms es' pending os seat share' replies
keeps_given start ms es es' pending os seat share share' replies k p m s s' keeps there at waits up moved is long =
    let t = told_there start ms es pending os seat share replies k p m s keeps there at in
    let told : IsTold start.rules (length start.received) replies m p s' = record {
      cost = up.cost ∙ t.cost;
      some = subst (λ n. 0 < n) (sym up.cost) t.some;
      sent = subst (AllByRecursion (IsSubmit start.rules m p)) (sym up.attempts) t.sent;
      answered = subst (AllByRecursion (IsAnswered (length start.received) replies)) (sym up.attempts) t.answered;
      state = inl (up.state start.rules.policy.attempts waits);
    } in
    let done = keeps_settled start ms es pending os seat share replies k p m s s' s'.outcome keeps there at told waits.outcome refl up.cost (ap (map (λ (y : Attempt). y.number)) up.attempts) (keeps.pending_long ∙ sym long ∙ ap length is) in
    subst (λ l. Keeps start ms l pending os seat share' replies) (sym is) (subst (λ (x : Share). Keeps start ms (put es k p s') pending os seat x replies) (sym moved) done)

numbers_heard : (front : List Attempt) (last last' : Attempt) → last'.number ≡ last.number → map (λ (y : Attempt). y.number) (front ++ last' ∷ []) ≡ map (λ (y : Attempt). y.number) (front ++ last ∷ [])
numbers_heard [] last last' e = ap (λ n. n ∷ []) e
numbers_heard (x ∷ front) last last' e = ap (λ l. x.number ∷ l) (numbers_heard front last last' e)

-- an answer was recorded, and decided
pub keeps_answered : (start : Start) (ms : List Message) (es es' : List MessageEnd) (pending : List (List UserData)) (os : List Open) (seat : SeatState) (share share' : Share) (replies : List Reply) (k p : ℕ) (m : Message) (s s1 s' : SegmentEnd) (r : Reply) (d : Decision)
    → Keeps start ms es pending os seat share replies → slice_get ms k ≡ Some m → segment_at es k p ≡ Some s → HeardSince (length start.received) replies r → Answers start.rules.policy.attempts s r d s1 → s' ≡ with_outcome (outcome_after d) s1
    → share' ≡ settled_to (outcome_after d) m.account s.cost share → es' ≡ put es k p s' → length es' ≡ length es → Keeps start ms es' pending os seat share' replies
keeps_answered start ms es es' pending os seat share share' replies k p m s s1 s' r d keeps there at new a same moved is long =
    let t = told_there start ms es pending os seat share replies k p m s keeps there at in
    let h = a.hears in
    let last' : Attempt = record h.last { reply = Some r } in
    let after : s' ≡ with_outcome (outcome_after d) (record s { attempts = h.front ++ last' ∷ [] }) = same ∙ ap (with_outcome (outcome_after d)) h.after in
    let sent = all_front (IsSubmit start.rules m p) h.front h.last (subst (AllByRecursion (IsSubmit start.rules m p)) h.before t.sent) in
    let answered = all_front (IsAnswered (length start.received) replies) h.front h.last (subst (AllByRecursion (IsAnswered (length start.received) replies)) h.before t.answered) in
    let mine : IsAnswered (length start.received) replies last' = λ r' e. let eq : r ≡ r' = cc in subst (λ (x : Reply). (x.number ≡ h.last.number) × HeardSince (length start.received) replies x) eq (h.number, new) in
    let told : IsTold start.rules (length start.received) replies m p s' = subst (IsTold start.rules (length start.received) replies m p) (sym after) (record {
      cost = t.cost;
      some = t.some;
      sent = all_snoc (IsSubmit start.rules m p) h.front last' sent.0 sent.1;
      answered = all_snoc (IsAnswered (length start.received) replies) h.front last' answered.0 mine;
      state = subst (λ (x : SegmentEnd). IsSettled start.rules.policy.attempts x ⊎ IsWaiting start.rules.policy.attempts x) (sym same ∙ after) a.state;
    }) in
    let done = keeps_settled start ms es pending os seat share replies k p m s s' (outcome_after d) keeps there at told h.open_yet (ap (λ (x : SegmentEnd). x.outcome) after) (ap (λ (x : SegmentEnd). x.cost) after)
    (ap (λ (x : SegmentEnd). map (λ (y : Attempt). y.number) x.attempts) after ∙ numbers_heard h.front h.last last' refl ∙ ap (map (λ (y : Attempt). y.number)) (sym h.before)) (keeps.pending_long ∙ sym long ∙ ap length is) in
    subst (λ l. Keeps start ms l pending os seat share' replies) (sym is) (subst (λ (x : Share). Keeps start ms (put es k p s') pending os seat x replies) (sym moved) done)

-- nothing changed but the ends' list, which is equal
pub keeps_same : (start : Start) (ms : List Message) (es es' : List MessageEnd) (pending : List (List UserData)) (os : List Open) (seat : SeatState) (share : Share) (replies : List Reply) → Keeps start ms es pending os seat share replies → es' ≡ es
    → Keeps start ms es' pending os seat share replies
keeps_same start ms es es' pending os seat share replies keeps e = subst (λ l. Keeps start ms l pending os seat share replies) (sym e) keeps

-- the parts that are kept changed
pub keeps_pending : (start : Start) (ms : List Message) (es : List MessageEnd) (pending pending' : List (List UserData)) (os : List Open) (seat : SeatState) (share : Share) (replies : List Reply) → Keeps start ms es pending os seat share replies
    → ArePending start.rules start.messages pending' → length pending' ≡ length pending → Keeps start ms es pending' os seat share replies
keeps_pending start ms es pending pending' os seat share replies keeps all long = record {
  messages = keeps.messages;
  window = keeps.window;
  number = keeps.number;
  accounts = keeps.accounts;
  replies_more = keeps.replies_more;
  slots = keeps.slots;
  numbers = keeps.numbers;
  shape = keeps.shape;
  ends = keeps.ends;
  money = keeps.money;
  pending_kept = all;
  pending_long = long ∙ keeps.pending_long;
}

-- a part whose user data it is
pub record HasPart (parts : List Part) (p : ℕ) (kept : UserData) : Type 0 where
  pub part : Part
  pub there : slice_get parts p ≡ Some part
  pub content : kept ≡ user_data part

part_of : (parts : List Part) (p : ℕ) (kept : UserData) (found : Option Part) → slice_get parts p ≡ found → option_map user_data found ≡ Some kept → HasPart parts p kept
part_of parts p kept None e is = absurd (cc)
part_of parts p kept (Some part) e is = record { part = part; there = e; content = cc }

-- what is kept at a place is of the part there
pub part_there : (rules : Rules) (ms : List Message) (pending : List (List UserData)) (k p : ℕ) (m : Message) (all : List UserData) (kept : UserData) → ArePending rules ms pending → slice_get ms k ≡ Some m → slice_get pending k ≡ Some all → slice_get all p ≡ Some kept
    → HasPart (message_parts rules m) p kept
part_there rules ms pending k p m all kept are there at got = elim (are k m all there at) [
  | inl none_kept ↦ (let e : slice_get [] p ≡ Some kept = ap (λ l. slice_get l p) (sym none_kept) ∙ got in absurd (cc))
  | inr same ↦ part_of (message_parts rules m) p kept (slice_get (message_parts rules m) p) refl (sym (slice_get-map user_data (message_parts rules m) p) ∙ ap (λ l. slice_get l p) (sym same) ∙ got)
]

-- a try to send
pub keeps_tried : (start : Start) (rules : Rules) (ms : List Message) (es es' : List MessageEnd) (pending : List (List UserData)) (os os' : List Open) (seat seat' : SeatState) (share : Share) (replies : List Reply) (k p : ℕ) (m : Message) (part : Part) (s s' : SegmentEnd) (tried : TrySend)
    → Keeps start ms es pending os seat share replies → rules ≡ start.rules → slice_get ms k ≡ Some m → slice_get (message_parts start.rules m) p ≡ Some part → segment_at es k p ≡ Some s → IsWaiting start.rules.policy.attempts s
    → Tries rules m part seat.view s.attempts tried seat'.view s'.attempts → s'.cost ≡ s.cost → s'.outcome ≡ s.outcome → seat'.window ≡ seat.window → IsOpen start.seat.view.slots (slots_of os') seat'.view.slots
    → es' ≡ put es k p s' → length es' ≡ length es → Keeps start ms es' pending os' seat' share replies
keeps_tried start rules ms es es' pending os os' seat seat' share replies k p m part s s' tried keeps same there here at waits tries cost outcome window slots is long =
    subst (λ l. Keeps start ms l pending os' seat' share replies) (sym is)
    (keeps_put start ms es pending os os' seat seat' share share replies k p m s s' keeps there at (told tried tries) window refl refl slots (numbers tried tries)
    (grew_same start.share.amounts share.amounts start.messages es k p m s s' keeps.money there' at cost outcome) (keeps.pending_long ∙ sym long ∙ ap length is))
  where
    there' : slice_get start.messages k ≡ Some m
    there' = ap (λ l. slice_get l k) (sym keeps.messages) ∙ there

    old : IsTold start.rules (length start.received) replies m p s
    old = told_there start ms es pending os seat share replies k p m s keeps there at

    unsent : s'.attempts ≡ s.attempts → IsTold start.rules (length start.received) replies m p s'
    unsent e = subst (IsTold start.rules (length start.received) replies m p) {x = s} {y = s'} (λ i. record { cost = sym cost i; attempts = sym e i; outcome = sym outcome i }) old

    told : (t : TrySend) → Tries rules m part seat.view s.attempts t seat'.view s'.attempts → IsTold start.rules (length start.received) replies m p s'
    told (Sent n) (drawn, (octets, after, spells)) =
        let a : Attempt = record { number = n; sent = octets; reply = None } in
        record {
          cost = cost ∙ old.cost;
          some = subst (λ n. 0 < n) (sym cost) old.some;
          sent = subst (AllByRecursion (IsSubmit start.rules m p)) (sym after) (all_snoc (IsSubmit start.rules m p) s.attempts a old.sent (part, here, subst (λ (x : Rules). SpellsSubmit x m part n octets) same spells));
          answered = subst (AllByRecursion (IsAnswered (length start.received) replies)) (sym after) (all_snoc (IsAnswered (length start.received) replies) s.attempts a old.answered (λ r eq. absurd (cc)));
          state = inl (sent_state start.rules.policy.attempts s s' a waits after refl outcome);
        }
    told (Retry held) h = unsent h.1
    told (GiveUp why) h = unsent h.1

    like : s'.attempts ≡ s.attempts → Drew start.seat.view seat.view start.messages (put es k p s')
    like e = drew_same start.seat.view seat.view start.messages es k p m s s' keeps.numbers there' at (ap (map (λ (y : Attempt). y.number)) e)

    numbers : (t : TrySend) → Tries rules m part seat.view s.attempts t seat'.view s'.attempts → Drew start.seat.view seat'.view start.messages (put es k p s')
    numbers (Sent n) (drawn, (octets, after, spells)) = drew_sent start.seat.view seat.view seat'.view start.messages es k p m s s' (record { number = n; sent = octets; reply = None }) keeps.numbers drawn there' at after
    numbers (Retry held) h = drew_unused start.seat.view seat.view seat'.view [] start.messages (put es k p s') (like h.1) h.0.0
    numbers (GiveUp (Kept lack)) h = absurd h.0
    numbers (GiveUp (Done left)) h = absurd h.0
    numbers (GiveUp (Numbers all)) h = drew_unused start.seat.view seat.view seat'.view [] start.messages (put es k p s') (like h.1) h.0.0
    numbers (GiveUp (Memory lack)) h = drew_unused start.seat.view seat.view seat'.view (lack.number ∷ []) start.messages (put es k p s') (like h.1) h.0
    numbers (GiveUp (Gate lack)) h = drew_unused start.seat.view seat.view seat'.view (lack.number ∷ []) start.messages (put es k p s') (like h.1) h.0
    numbers (GiveUp (Line lack)) h = drew_unused start.seat.view seat.view seat'.view (number_unsent lack ∷ []) start.messages (put es k p s') (like h.1) h.0

-- a slot was released
pub keeps_closed : (start : Start) (ms : List Message) (es : List MessageEnd) (pending : List (List UserData)) (os : List Open) (seat seat' : SeatState) (share : Share) (replies : List Reply) (i : ℕ) (o : Open) → Keeps start ms es pending os seat share replies
    → slice_get os i ≡ Some o → seat'.window ≡ seat.window → FreedSlot seat.view o.slot seat'.view → Keeps start ms es pending (take i os ++ drop (suc i) os) seat' share replies
keeps_closed start ms es pending os seat seat' share replies i o keeps at window freed =
    let less = one_less_at (λ (x : Open). x.slot) start.seat.view.slots seat.view.slots os i o keeps.slots at in
    let slots = ap (λ (v : View). v.slots) freed.after in
    record {
      messages = keeps.messages;
      window = window ∙ keeps.window;
      number = keeps.number;
      accounts = keeps.accounts;
      replies_more = keeps.replies_more;
      slots = subst (IsOpen start.seat.view.slots (slots_of (take i os ++ drop (suc i) os))) (sym slots) less.rest;
      numbers = drew_unused start.seat.view seat.view seat'.view [] start.messages es keeps.numbers (releases_draw_none seat.view seat.view seat'.view [] o.slot (draws_none seat.view) freed);
      shape = keeps.shape;
      ends = keeps.ends;
      money = keeps.money;
      pending_kept = keeps.pending_kept;
      pending_long = keeps.pending_long;
    }

-- one reply more was replies
pub keeps_heard : (start : Start) (ms : List Message) (es : List MessageEnd) (pending : List (List UserData)) (os : List Open) (seat : SeatState) (share : Share) (replies replies' : List Reply) (r : Reply) → Keeps start ms es pending os seat share replies
    → replies' ≡ replies ++ r ∷ [] → Keeps start ms es pending os seat share replies'
keeps_heard start ms es pending os seat share replies replies' r keeps e = record {
  messages = keeps.messages;
  window = keeps.window;
  number = keeps.number;
  accounts = keeps.accounts;
  replies_more = (keeps.replies_more.0 ++ r ∷ [], e ∙ ap (λ l. l ++ r ∷ []) keeps.replies_more.1 ∙ append_assoc start.received keeps.replies_more.0 (r ∷ []));
  slots = keeps.slots;
  numbers = keeps.numbers;
  shape = keeps.shape;
  ends = λ k p m s there at.
      let t = keeps.ends k p m s there at in
      record {
        cost = t.cost;
        some = t.some;
        sent = t.sent;
        answered = all_map (IsAnswered (length start.received) replies) (IsAnswered (length start.received) replies') (λ a h x is. let g = h x is in (g.0, record { place = g.1.place; since = g.1.since; there = ap (λ l. slice_get l g.1.place) e ∙ get_more replies r g.1.place x g.1.there })) s.attempts t.answered;
        state = t.state;
      };
  money = keeps.money;
  pending_kept = keeps.pending_kept;
  pending_long = keeps.pending_long;
}

-- it stands behind those that were received before
pub heard_now : (start : Start) (ms : List Message) (es : List MessageEnd) (pending : List (List UserData)) (os : List Open) (seat : SeatState) (share : Share) (replies replies' : List Reply) (r : Reply) → Keeps start ms es pending os seat share replies
    → replies' ≡ replies ++ r ∷ [] → HeardSince (length start.received) replies' r
heard_now start ms es pending os seat share replies replies' r keeps e =
    let long = ap length keeps.replies_more.1 ∙ length-append start.received keeps.replies_more.0 in
    record { place = length replies; since = omega arith; there = ap (λ l. slice_get l (length replies)) e ∙ get_last replies r }

-- a call begins
pub keeps_opening : (start : Start) (ms : List Message) (es : List MessageEnd) (pending : List (List UserData)) (os : List Open) (seat : SeatState) (share : Share) (replies : List Reply) → ms ≡ start.messages → seat ≡ start.seat
    → share ≡ start.share → replies ≡ start.received → es ≡ [] → pending ≡ [] → os ≡ [] → Keeps start ms es pending os seat share replies
keeps_opening start ms es pending os seat share replies messages seats shares received no_ends no_pending no_open =
    subst (λ l. Keeps start ms l pending os seat share replies) (sym no_ends) (subst (λ l. Keeps start ms [] l os seat share replies) (sym no_pending) (subst (λ l. Keeps start ms [] [] l seat share replies) (sym no_open) (record {
      messages = messages;
      window = ap (λ (x : SeatState). x.window) seats;
      number = ap (λ (x : Share). x.number) shares;
      accounts = ap (λ (x : Share). length x.amounts) shares;
      replies_more = ([], received ∙ sym (append-nil start.received));
      slots = subst (λ (x : SeatState). IsOpen start.seat.view.slots [] x.view.slots) (sym seats) (none_more start.seat.view.slots);
      numbers = subst (λ (x : SeatState). Drew start.seat.view x.view start.messages []) (sym seats) (record { drawn = []; has = draws_none start.seat.view; used = λ n. let z = total_none (λ m s. uses n s) start.messages in omega arith });
      shape = record { within = omega arith; each = λ k m e there at. absurd (cc) };
      ends = λ k p m s there at. absurd (cc);
      money = λ i.
          let r = total_none (λ m s. credit reserved_of i m.account s) start.messages in
          let h = total_none (λ m s. credit charged_of i m.account s) start.messages in
          let t = total_none (λ m s. credit returned_of i m.account s) start.messages in
          let ar = ap (λ (x : Share). (amounts_at x.amounts i).reserved) shares in
          let ah = ap (λ (x : Share). (amounts_at x.amounts i).charged) shares in
          let at = ap (λ (x : Share). (amounts_at x.amounts i).returned) shares in
          (omega arith, omega arith, omega arith);
      pending_kept = λ k m content there at. absurd (cc);
      pending_long = refl;
    })))
