-- Each step of a run keeps the order in which segments are sent for the first time.
use Rattle.std.proofs.Common.{◌≡◌, ℕ, zero, suc, ◌+◌, ◌==◌, ◌<◌, ◌≤◌, Bool, true, false, List, [], ◌∷◌, ◌++◌, length, length-append, take, drop, Some, None, inl, inr, refl, sym, ap, ◌∙◌, subst, arith, ne_eqb}
use Rattle.std.specs.Prelude.{◌-◌, ◌⊎◌, ◌↔◌, ◌&&◌, IfSome, Option, is_none, option_and_then, slice_get, nat_le, if◌then◌else◌}
use Rattle.std.specs.List.{list_all}
use mathlib.Core.Logic.{dite}
use native.Mathlib.Decide.{ℕ_discrete}
use Rattle.sms_core.specs.Numbers.{times, AllBelow}
use Rattle.sms_window.specs.declared.view.View.{View}
use Rattle.sms_window.specs.Drawing.{HasDrawn}
use Rattle.sms_pdu.specs.declared.reply.Reply.{Reply}
use Rattle.sms_segment.specs.declared.part.Part.{Part}
use Rattle.sms_session.specs.declared.policy.Decision.{Decision}
use Rattle.sms_worker.specs.declared.steps.attempt.TrySend.{TrySend}
use Rattle.sms_worker.specs.declared.steps.attempt.TrySend.TheVariants.{Sent, Retry, GiveUp}
use Rattle.sms_worker.specs.Types.{Attempt, SegmentEnd, MessageEnd}
use Rattle.sms_message.specs.declared.message.Message.{Message}
use Rattle.sms_worker.specs.declared.state.open.Open.{Open}
use Rattle.sms_worker.specs.declared.state.open.SegmentPlace.{SegmentPlace}
use Rattle.sms_worker.specs.declared.state.queue.Queue.{Queue}
use Rattle.sms_message.specs.declared.rules.Rules.{Rules}
use Rattle.sms_worker.specs.declared.steps.starting.Source.{Source}
use Rattle.sms_worker.specs.declared.steps.starting.Source.TheVariants as sources
use Rattle.sms_worker.specs.declared.state.pending.PendingPart.{PendingPart}
use Rattle.sms_worker.specs.declared.state.pending.Link.{Link}
use Rattle.sms_worker.specs.Apart.{IsAttempt}
use Rattle.sms_worker.specs.Begins.{ready}
use Rattle.sms_message.specs.Ends.{segment_at, segments_in, put, uses}
use Rattle.sms_worker.specs.Queues.{first_in}
use Rattle.sms_worker.specs.Rising.{AreSent, HasTurn, InOrder, IsNext, LeadsToSent, WasSent}
use Rattle.sms_worker.specs.Steps.{Answers, Opens, Tries}
use Rattle.sms_worker.specs.PendingState.{PendingState, changed, pending_at, link_of, no_link, no_pending, settled_one}
use Rattle.sms_worker.specs.Told.{Drew}
use Rattle.sms_worker.proofs.Apartness.{once_at, put_elsewhere}
use Rattle.sms_worker.proofs.Beginnings.{got_ready}
use Rattle.sms_worker.proofs.EndLemmas.{end_at, get_low, get_there, got_of_append, got_of_more, got_of_put, length-put, part_at_most, put_there}

-- the second segment end was sent for the first time with the first one's number, and only if that was
pub record SameFirst (s s' : SegmentEnd) : Type 0 where
  pub back : (a : Attempt) → slice_get s'.attempts 0 ≡ Some a → (b : Attempt) × (slice_get s.attempts 0 ≡ Some b) × (b.number ≡ a.number)
  pub on : (b : Attempt) → slice_get s.attempts 0 ≡ Some b → (a : Attempt) × (slice_get s'.attempts 0 ≡ Some a)

same_attempts : (s s' : SegmentEnd) → s'.attempts ≡ s.attempts → SameFirst s s'
same_attempts s s' e = record {
  back = λ a is. (a, sym (ap (λ l. slice_get l 0) e) ∙ is, refl);
  on = λ b is. (b, ap (λ l. slice_get l 0) e ∙ is);
}

module _ (es : List MessageEnd) (k p : ℕ) (s s' : SegmentEnd) (at : segment_at es k p ≡ Some s) where
  -- what was sent before, where the changed one has its first attempt still
  still_sent : ((b : Attempt) → slice_get s.attempts 0 ≡ Some b → (a : Attempt) × (slice_get s'.attempts 0 ≡ Some a)) → (place : SegmentPlace) → WasSent es place → WasSent (put es k p s') place
  still_sent on place (a, is) = dite (ℕ_discrete k place.message)
      (λ ek. dite (ℕ_discrete p place.part)
      (λ ep.
      let here : segment_at es k p ≡ Some is.segment = ap (λ x. segment_at es x p) ek ∙ ap (segment_at es place.message) ep ∙ is.there in
      let same : s ≡ is.segment = cc in
      let (b, first) = on a (ap (λ (x : SegmentEnd). slice_get x.attempts 0) same ∙ is.has) in
      (b, record { segment = s'; there = ap (λ x. segment_at (put es k p s') x place.part) (sym ek) ∙ ap (segment_at (put es k p s') k) (sym ep) ∙ put_there es k p s s' at; has = first }))
      (λ np. (a, record { segment = is.segment; there = put_elsewhere es k p place.message place.part s' is.segment (inr (ek, np)) is.there; has = is.has })))
      (λ nk. (a, record { segment = is.segment; there = put_elsewhere es k p place.message place.part s' is.segment (inl nk) is.there; has = is.has }))

  was_first : SameFirst s s' → (j q : ℕ) (a : Attempt) → IsAttempt (put es k p s') j q 0 a → (b : Attempt) × IsAttempt es j q 0 b × (b.number ≡ a.number)
  was_first f j q a is = elim (got_of_put es k p s' j q is.segment is.there) [
    | inl h ↦ (let (message, part, end) = h in
        let (b, first, same) = f.back a (ap (λ (x : SegmentEnd). slice_get x.attempts 0) (sym end) ∙ is.has) in
        (b, record { segment = s; there = ap (λ x. segment_at es x q) message ∙ ap (segment_at es k) part ∙ at; has = first }, same))
    | inr h ↦ (a, record { segment = is.segment; there = h; has = is.has }, refl)
  ]

  -- one segment end changed, and its first attempt stayed
  pub order_put : (next : ℕ) (os : List Open) (qs : List Queue) (pending : List PendingState) → SameFirst s s' → InOrder es next os qs pending → InOrder (put es k p s') next os qs pending
  order_put next os qs pending f o = record {
    rise = λ i m j q a b before x y.
        let (a', x', ea) = was_first f i m a x in
        let (b', y', eb) = was_first f j q b y in
        let lt = o.rise i m j q a' b' before x' y' in
        omega arith;
    behind = λ j q a x last. let (a', x', ea) = was_first f j q a x in o.behind j q a' x' (last ∙ length-put es k p s');
    heads = λ j place is. still_sent f.on place (o.heads j place is);
    links = λ from place is. still_sent f.on place (o.links from place is);
    opens = λ j x is. still_sent f.on x.place (o.opens j x is);
  }

  -- the segment was sent for the first time, in its turn
  module _ (new : Attempt) (none_yet : s.attempts ≡ []) (one : s'.attempts ≡ new ∷ []) (highest : (j q : ℕ) (a : Attempt) → IsAttempt es j q 0 a → a.number < new.number) where
    no_first : (b : Attempt) → slice_get s.attempts 0 ≡ Some b → (a : Attempt) × (slice_get s'.attempts 0 ≡ Some a)
    no_first b is = let z : None ≡ Some b = sym (ap (λ l. slice_get l 0) none_yet) ∙ is in absurd (cc)

    is_new : (j q : ℕ) (a : Attempt) → IsAttempt (put es k p s') j q 0 a → ((j ≡ k) × (q ≡ p) × (a ≡ new)) ⊎ IsAttempt es j q 0 a
    is_new j q a is = elim (got_of_put es k p s' j q is.segment is.there) [
      | inl h ↦ (let (message, part, end) = h in
          let first : Some new ≡ Some a = sym (ap (λ l. slice_get l 0) one) ∙ ap (λ (x : SegmentEnd). slice_get x.attempts 0) (sym end) ∙ is.has in
          inl (message, part, cc))
      | inr h ↦ inr (record { segment = is.segment; there = h; has = is.has })
    ]

    low_message : (j q : ℕ) (a : Attempt) → IsAttempt es j q 0 a → j < length es
    low_message j q a is = let e = end_at es j q is.segment is.there in get_low es j e.0 e.1

    first_sent : (next : ℕ) (os : List Open) (qs : List Queue) (pending : List PendingState) → length es ≡ k + 1 → p ≡ next → InOrder es next os qs pending → InOrder (put es k p s') next os qs pending
    first_sent next os qs pending last part o = record {
      rise = λ i m j q a b before x y. elim (is_new i m a x) [
        | inl h ↦ (let (hi, hm, ha) = h in elim (is_new j q b y) [
          | inl g ↦ (let (gj, gq, gb) = g in absurd (elim before [ inl lt ↦ omega arith | inr le ↦ (let lt = le.1 in omega arith) ]))
          | inr g ↦ (let low = low_message j q b g in absurd (elim before [ inl lt ↦ omega arith | inr le ↦ (let e = le.0 in let lt = le.1 in let few = o.behind j q b g (omega arith) in omega arith) ]))
        ])
        | inr h ↦ elim (is_new j q b y) [
          | inl g ↦ (let (gj, gq, gb) = g in let lt = highest i m a h in let n = ap (λ (c : Attempt). c.number) gb in omega arith)
          | inr g ↦ o.rise i m j q a b before h g
        ]
      ];
      behind = λ j q a x there. elim (is_new j q a x) [
        | inl h ↦ (let (hj, hq, ha) = h in omega arith)
        | inr h ↦ o.behind j q a h (there ∙ length-put es k p s')
      ];
      heads = λ j place is. still_sent no_first place (o.heads j place is);
      links = λ from place is. still_sent no_first place (o.links from place is);
      opens = λ j x is. still_sent no_first x.place (o.opens j x is);
    }

-- one attempt more behind others
again : (s s' : SegmentEnd) (x : Attempt) (xs : List Attempt) (new : Attempt) → s.attempts ≡ x ∷ xs → s'.attempts ≡ s.attempts ++ new ∷ [] → SameFirst s s'
again s s' x xs new e more =
    let old : slice_get s.attempts 0 ≡ Some x = ap (λ l. slice_get l 0) e in
    let now : slice_get s'.attempts 0 ≡ Some x = ap (λ l. slice_get l 0) (more ∙ ap (λ l. l ++ new ∷ []) e) in
    record {
      back = λ a is. (x, old, (let same : x ≡ a = cc in ap (λ (y : Attempt). y.number) same));
      on = λ b is. (x, now);
    }

-- each number that was drawn is lower than what the seat has seen
passed : (b : Bool) (m : ℕ) → b ≡ false → 1 ≤ (if b then 1 else 0) + m → 1 ≤ m
passed true m e h = absurd (cc)
passed false m e h = omega arith

low_in : (n top : ℕ) (xs : List ℕ) → AllBelow top xs → 1 ≤ times n xs → n < top
low_in n top [] b h = absurd (omega arith)
low_in n top (x ∷ xs) b h = dite (ℕ_discrete x n)
    (λ e. let lt = b.0 in omega arith)
    (λ ne. low_in n top xs b.1 (passed (x == n) (times n xs) (ne_eqb x n ne) h))

pub seen_past : (before now : View) (ms : List Message) (es : List MessageEnd) → length es ≤ length ms → Drew before now ms es → (j q : ℕ) (a : Attempt) → IsAttempt es j q 0 a → a.number < now.seen
seen_past before now ms es long d j q a is =
    let e = end_at es j q is.segment is.there in
    let low = get_low es j e.0 e.1 in
    let m = get_there ms j (omega arith) in
    let n = a.number in
    let most = part_at_most (λ m s. uses n s) ms es j q m.0 is.segment (record is.segment { attempts = [] }) m.1 is.there refl in
    let once = once_at n is.segment.attempts 0 a is.has refl in
    let used = d.used n in
    low_in n now.seen d.drawn d.has.below (omega arith)

-- other requests are open
pub order_open : (es : List MessageEnd) (next : ℕ) (os os' : List Open) (qs : List Queue) (pending : List PendingState) → AreSent es os' → InOrder es next os qs pending → InOrder es next os' qs pending
order_open es next os os' qs pending opens o = record { rise = o.rise; behind = o.behind; heads = o.heads; links = o.links; opens = opens }

-- a segment that has an attempt was sent
pub sent_now : (es es' : List MessageEnd) (place : SegmentPlace) (s s' : SegmentEnd) (front : List Attempt) (last : Attempt) → segment_at es place.message place.part ≡ Some s → es' ≡ put es place.message place.part s' → s'.attempts ≡ front ++ last ∷ [] → WasSent es' place
sent_now es es' place s s' front last at is attempts = found front attempts
  where
    there : segment_at es' place.message place.part ≡ Some s'
    there = ap (λ l. segment_at l place.message place.part) is ∙ put_there es place.message place.part s s' at

    found : (xs : List Attempt) → s'.attempts ≡ xs ++ last ∷ [] → WasSent es' place
    found [] e = (last, record { segment = s'; there = there; has = ap (λ l. slice_get l 0) e })
    found (x ∷ xs) e = (x, record { segment = s'; there = there; has = ap (λ l. slice_get l 0) e })

-- a try to send a segment whose turn it is
pub order_tried : (rules : Rules) (m : Message) (part : Part) (before now after : View) (ms : List Message) (es es' : List MessageEnd) (place : SegmentPlace) (s s' : SegmentEnd) (tried : TrySend) (next : ℕ) (os os' : List Open) (qs : List Queue) (pending : List PendingState)
    → length es ≤ length ms → Drew before now ms es → segment_at es place.message place.part ≡ Some s → Tries rules m part now s.attempts tried after s'.attempts → HasTurn es next place → Opens tried place os os'
    → es' ≡ put es place.message place.part s' → InOrder es next os qs pending → InOrder es' next os' qs pending
order_tried rules m part before now after ms es es' place s s' tried next os os' qs pending long d at tries turn opened is o = subst (λ l. InOrder l next os' qs pending) (sym is) (done tried tries opened)
  where
    k : ℕ
    k = place.message

    p : ℕ
    p = place.part

    sent : (n : ℕ) (octets : List ℕ) → HasDrawn now (n ∷ []) after → s'.attempts ≡ s.attempts ++ record { number = n; sent = octets; reply = None } ∷ [] → (xs : List Attempt) → s.attempts ≡ xs → InOrder (put es k p s') next os qs pending
    sent n octets drawn more [] e =
        let new : Attempt = record { number = n; sent = octets; reply = None } in
        elim turn [
          | inl was ↦ (let (a, first) = was in
              let there = first.there in
              let same : s ≡ first.segment = cc in
              let z : None ≡ Some a = sym (ap (λ l. slice_get l 0) e) ∙ ap (λ (x : SegmentEnd). slice_get x.attempts 0) same ∙ first.has in
              absurd (cc))
          | inr last ↦ first_sent es k p s s' at new e (more ∙ ap (λ l. l ++ new ∷ []) e) (λ j q a x. let lt = seen_past before now ms es long d j q a x in let from = drawn.from.0 in omega arith) next os qs pending last.last last.part o
        ]
    sent n octets drawn more (x ∷ xs) e = order_put es k p s s' at next os qs pending (again s s' x xs (record { number = n; sent = octets; reply = None }) e more) o

    -- those that were open before, and the one that was sent
    one_more : (n : ℕ) (octets : List ℕ) → s'.attempts ≡ s.attempts ++ record { number = n; sent = octets; reply = None } ∷ [] → (o' : Open) → os' ≡ os ++ o' ∷ [] → o'.place ≡ place → AreSent (put es k p s') os → AreSent (put es k p s') os'
    one_more n octets more o' added its before i x there = elim (got_of_append os o' i x (ap (λ l. slice_get l i) (sym added) ∙ there)) [
      | inl h ↦ before i x h
      | inr h ↦ subst (WasSent (put es k p s')) (sym its ∙ ap (λ (y : Open). y.place) (sym h.1)) (sent_now es (put es k p s') place s s' s.attempts (record { number = n; sent = octets; reply = None }) at refl more)
    ]

    done : (t : TrySend) → Tries rules m part now s.attempts t after s'.attempts → Opens t place os os' → InOrder (put es k p s') next os' qs pending
    done (Sent n) (drawn, (octets, more, spells)) (o', added, numbered, its) =
        let now_sent = sent n octets drawn more s.attempts refl in
        order_open (put es k p s') next os os' qs pending (one_more n octets more o' added its now_sent.opens) now_sent
    done (Retry held) h same = subst (λ l. InOrder (put es k p s') next l qs pending) (sym same) (order_put es k p s s' at next os qs pending (same_attempts s s' h.1) o)
    done (GiveUp why) h same = subst (λ l. InOrder (put es k p s') next l qs pending) (sym same) (order_put es k p s s' at next os qs pending (same_attempts s s' h.1) o)

-- one segment end changed as its attempts stayed, and the list is this one
pub order_kept : (es es' : List MessageEnd) (k p : ℕ) (s s' : SegmentEnd) (next : ℕ) (os : List Open) (qs : List Queue) (pending : List PendingState) → segment_at es k p ≡ Some s → s'.attempts ≡ s.attempts → es' ≡ put es k p s' → InOrder es next os qs pending → InOrder es' next os qs pending
order_kept es es' k p s s' next os qs pending at same is o = subst (λ l. InOrder l next os qs pending) (sym is) (order_put es k p s s' at next os qs pending (same_attempts s s' same) o)

heard_first : (front : List Attempt) (last last' : Attempt) (s s' : SegmentEnd) → last'.number ≡ last.number → s.attempts ≡ front ++ last ∷ [] → s'.attempts ≡ front ++ last' ∷ [] → SameFirst s s'
heard_first [] last last' s s' same e e' =
    let old : slice_get s.attempts 0 ≡ Some last = ap (λ l. slice_get l 0) e in
    let now : slice_get s'.attempts 0 ≡ Some last' = ap (λ l. slice_get l 0) e' in
    record {
      back = λ a is. (last, old, (let is' : last' ≡ a = cc in sym same ∙ ap (λ (y : Attempt). y.number) is'));
      on = λ b is. (last', now);
    }
heard_first (x ∷ front) last last' s s' same e e' =
    let old : slice_get s.attempts 0 ≡ Some x = ap (λ l. slice_get l 0) e in
    let now : slice_get s'.attempts 0 ≡ Some x = ap (λ l. slice_get l 0) e' in
    record {
      back = λ a is. (x, old, (let is' : x ≡ a = cc in ap (λ (y : Attempt). y.number) is'));
      on = λ b is. (x, now);
    }

-- the last attempt got its answer
pub order_heard : (most : ℕ) (es es' : List MessageEnd) (k p : ℕ) (s s1 s' : SegmentEnd) (r : Reply) (d : Decision) (next : ℕ) (os : List Open) (qs : List Queue) (pending : List PendingState) → segment_at es k p ≡ Some s → Answers most s r d s1 → s'.attempts ≡ s1.attempts → es' ≡ put es k p s'
    → InOrder es next os qs pending → InOrder es' next os qs pending
order_heard most es es' k p s s1 s' r d next os qs pending at a same is o =
    let h = a.hears in
    let after = same ∙ ap (λ (x : SegmentEnd). x.attempts) h.after in
    subst (λ l. InOrder l next os qs pending) (sym is) (order_put es k p s s' at next os qs pending (heard_first h.front h.last (record h.last { reply = Some r }) s s' refl h.before after) o)

-- no segment waits in the queues
both_true : (a b : Bool) → (a && b) ≡ true → (a ≡ true) × (b ≡ true)
both_true true b e = (refl, e)
both_true false b e = absurd (cc)

empty_first : (o : Option SegmentPlace) → is_none o ≡ true → o ≡ None
empty_first None e = refl
empty_first (Some place) e = absurd (cc)

none_first : (qs : List Queue) → list_all (λ q. is_none q.first && is_none q.last) qs ≡ true → (k : ℕ) → first_in qs k ≡ None
none_first [] all k = refl
none_first (q ∷ qs) all zero = empty_first q.first (both_true (is_none q.first) (is_none q.last) (both_true (is_none q.first && is_none q.last) (list_all (λ q. is_none q.first && is_none q.last) qs) all).0).0
none_first (q ∷ qs) all (suc k) = none_first qs (both_true (is_none q.first && is_none q.last) (list_all (λ q. is_none q.first && is_none q.last) qs) all).1 k

-- a call begins
pub order_opening : (es : List MessageEnd) (next : ℕ) (os : List Open) (qs : List Queue) (pending : List PendingState) → es ≡ [] → pending ≡ [] → os ≡ [] → list_all (λ q. is_none q.first && is_none q.last) qs ≡ true → InOrder es next os qs pending
order_opening es next os qs pending no_ends no_pending none_open none_waits = subst (λ l. InOrder l next os qs pending) (sym no_ends) (subst (InOrder [] next os qs) (sym no_pending) (record {
  rise = λ i m j q a b before x y. let z = x.there in absurd (cc);
  behind = λ k p a x last. let z = x.there in absurd (cc);
  heads = λ k place is. let z = none_first qs none_waits k in absurd (cc);
  links = λ from place is. absurd (cc);
  opens = λ k x is. (let e : slice_get [] k ≡ Some x = ap (λ l. slice_get l k) (sym none_open) ∙ is in absurd (cc));
}))

-- the next part is a later one
pub order_on : (es : List MessageEnd) (next next' : ℕ) (os : List Open) (qs : List Queue) (pending : List PendingState) → next ≤ next' → InOrder es next os qs pending → InOrder es next' os qs pending
order_on es next next' os qs pending later o = record {
  rise = o.rise;
  behind = λ k p a is last. let few = o.behind k p a is last in omega arith;
  heads = o.heads;
  links = o.links;
  opens = o.opens;
}

-- the queues and links name no other segments than before, but one that was sent
pub order_named : (es : List MessageEnd) (next : ℕ) (os : List Open) (qs qs' : List Queue) (pending pending' : List PendingState) → ((k : ℕ) (place : SegmentPlace) → first_in qs' k ≡ Some place → WasSent es place) → LeadsToSent es pending' → InOrder es next os qs pending → InOrder es next os qs' pending'
order_named es next os qs qs' pending pending' heads links o = record { rise = o.rise; behind = o.behind; heads = heads; links = links; opens = o.opens }

-- a message was begun
more_at : (es : List MessageEnd) (e : MessageEnd) (k p : ℕ) (s : SegmentEnd) → segment_at es k p ≡ Some s → segment_at (es ++ e ∷ []) k p ≡ Some s
more_at [] e k p s at = absurd (cc)
more_at (x ∷ es) e zero p s at = at
more_at (x ∷ es) e (suc k) p s at = more_at es e k p s at

linked_more : (pending : List PendingState) (t : PendingState) (from : SegmentPlace) (place : SegmentPlace) → ((q : ℕ) → link_of (slice_get t.parts q) ≡ no_link) → (link_of (pending_at (pending ++ t ∷ []) from)).next ≡ Some place → (link_of (pending_at pending from)).next ≡ Some place
linked_more pending t from place none_led is = found pending from.message is
  where
    at : Option PendingState → Option PendingPart
    at o = option_and_then (λ (x : PendingState). slice_get x.parts from.part) o

    found : (xs : List PendingState) (k : ℕ) → (link_of (at (slice_get (xs ++ t ∷ []) k))).next ≡ Some place → (link_of (at (slice_get xs k))).next ≡ Some place
    found [] zero is = let z : None ≡ Some place = sym (ap (λ (l : Link). l.next) (none_led from.part)) ∙ is in absurd (cc)
    found [] (suc k) is = is
    found (x ∷ xs) zero is = is
    found (x ∷ xs) (suc k) is = found xs k is

module _ (es : List MessageEnd) (e : MessageEnd) (pending : List PendingState) (t : PendingState) (cost count : ℕ) (segments : segments_in e.result ≡ ready cost count) where
  of_old : (k p : ℕ) (a : Attempt) → IsAttempt (es ++ e ∷ []) k p 0 a → IsAttempt es k p 0 a
  of_old k p a is = elim (got_of_more es e k p is.segment is.there) [
    | inl h ↦ record { segment = is.segment; there = h; has = is.has }
    | inr h ↦ (let same = got_ready cost count p is.segment (ap (λ l. slice_get l p) (sym segments) ∙ h.1) in
        let z : None ≡ Some a = ap (λ (x : SegmentEnd). slice_get x.attempts 0) (sym same) ∙ is.has in
        absurd (cc))
  ]

  sent_more : (place : SegmentPlace) → WasSent es place → WasSent (es ++ e ∷ []) place
  sent_more place (a, is) = (a, record { segment = is.segment; there = more_at es e place.message place.part is.segment is.there; has = is.has })

  pub order_begun : (next : ℕ) (os : List Open) (qs : List Queue) → ((q : ℕ) → link_of (slice_get t.parts q) ≡ no_link) → InOrder es next os qs pending → InOrder (es ++ e ∷ []) 0 os qs (pending ++ t ∷ [])
  order_begun next os qs none_led o = record {
    rise = λ i m j q a b before x y. o.rise i m j q a b before (of_old i m a x) (of_old j q b y);
    behind = λ k p a x last.
        let was = of_old k p a x in
        let f = end_at es k p was.segment was.there in
        let low = get_low es k f.0 f.1 in
        let long = length-append es (e ∷ []) in
        absurd (omega arith);
    heads = λ k place is. sent_more place (o.heads k place is);
    links = λ from place is. sent_more place (o.links from place (linked_more pending t from place none_led is));
    opens = λ k x is. sent_more x.place (o.opens k x is);
  }

-- the parts of a message are given back
settled_link : (t : PendingState) (q : ℕ) (place : SegmentPlace) → (link_of (slice_get (settled_one t).parts q)).next ≡ Some place → (link_of (slice_get t.parts q)).next ≡ Some place
settled_link t q place = elim (nat_le t.unsettled 1) as (λ b. (link_of (slice_get (if b then no_pending else record t { unsettled = t.unsettled - 1 }).parts q)).next ≡ Some place → (link_of (slice_get t.parts q)).next ≡ Some place) [
  | true ↦ (λ is. absurd (cc))
  | false ↦ (λ is. is)
]

settled_links : (pending : List PendingState) (k : ℕ) (from place : SegmentPlace) → (link_of (pending_at (changed settled_one pending k) from)).next ≡ Some place → (link_of (pending_at pending from)).next ≡ Some place
settled_links pending k from place is = found pending k from.message is
  where
    at : Option PendingState → Option PendingPart
    at o = option_and_then (λ (x : PendingState). slice_get x.parts from.part) o

    found : (xs : List PendingState) (n j : ℕ) → (link_of (at (slice_get (changed settled_one xs n) j))).next ≡ Some place → (link_of (at (slice_get xs j))).next ≡ Some place
    found [] n j is = is
    found (x ∷ xs) zero zero is = settled_link x from.part place is
    found (x ∷ xs) zero (suc j) is = is
    found (x ∷ xs) (suc n) zero is = is
    found (x ∷ xs) (suc n) (suc j) is = found xs n j is

pub order_settled : (es : List MessageEnd) (next : ℕ) (os : List Open) (qs : List Queue) (pending : List PendingState) (k : ℕ) → InOrder es next os qs pending → InOrder es next os qs (changed settled_one pending k)
order_settled es next os qs pending k o = order_named es next os qs qs pending (changed settled_one pending k) o.heads (λ from place is. o.links from place (settled_links pending k from place is)) o

-- a segment that was sent is linked behind the last of its queue
pub order_pushed : (es : List MessageEnd) (next : ℕ) (os : List Open) (qs qs' : List Queue) (pending pending' : List PendingState) (place : SegmentPlace) → WasSent es place
    → ((k : ℕ) (named : SegmentPlace) → first_in qs' k ≡ Some named → (named ≡ place) ⊎ (first_in qs k ≡ Some named))
    → ((from named : SegmentPlace) → (link_of (pending_at pending' from)).next ≡ Some named → (named ≡ place) ⊎ ((link_of (pending_at pending from)).next ≡ Some named))
    → InOrder es next os qs pending → InOrder es next os qs' pending'
order_pushed es next os qs qs' pending pending' place sent heads links o =
    order_named es next os qs qs' pending pending'
    (λ k named is. elim (heads k named is) [ inl e ↦ subst (WasSent es) (sym e) sent | inr h ↦ o.heads k named h ])
    (λ from named is. elim (links from named is) [ inl e ↦ subst (WasSent es) (sym e) sent | inr h ↦ o.links from named h ])
    o

-- the first of a queue is taken
pub order_popped : (es : List MessageEnd) (next : ℕ) (os : List Open) (qs qs' : List Queue) (pending seen : List PendingState) → seen ≡ pending
    → ((k : ℕ) (named : SegmentPlace) → first_in qs' k ≡ Some named → (first_in qs k ≡ Some named) ⊎ ((from : SegmentPlace) × ((link_of (pending_at seen from)).next ≡ Some named)))
    → InOrder es next os qs pending → InOrder es next os qs' pending
order_popped es next os qs qs' pending seen same heads o =
    order_named es next os qs qs' pending pending (λ k named is. elim (heads k named is) [ inl h ↦ o.heads k named h | inr h ↦ subst (LeadsToSent es) (sym same) o.links h.0 named h.1 ]) o.links o

-- a request is open no more
left_of : (os : List Open) (i j : ℕ) (x : Open) → slice_get (take i os ++ drop (suc i) os) j ≡ Some x → (n : ℕ) × (slice_get os n ≡ Some x)
left_of [] zero j x is = absurd (cc)
left_of [] (suc i) j x is = absurd (cc)
left_of (o ∷ os) zero j x is = (suc j, is)
left_of (o ∷ os) (suc i) zero x is = (0, is)
left_of (o ∷ os) (suc i) (suc j) x is = let (n, at) = left_of os i j x is in (suc n, at)

pub order_closed : (es : List MessageEnd) (next : ℕ) (os : List Open) (qs : List Queue) (pending : List PendingState) (i : ℕ) → InOrder es next os qs pending → InOrder es next (take i os ++ drop (suc i) os) qs pending
order_closed es next os qs pending i o = order_open es next os (take i os ++ drop (suc i) os) qs pending (λ j x is. let (n, at) = left_of os i j x is in o.opens n x at) o

-- where a segment to send was found, its turn has come
pub first_turn : (es : List MessageEnd) (next : ℕ) (retry : Option (SegmentPlace × ℕ)) (fresh : Option SegmentPlace) (found : Option (SegmentPlace × Source)) → IfSome retry (λ r. WasSent es r.0) → IfSome fresh (IsNext es next)
    → IfSome retry (λ r. found ≡ Some (r.0, sources.Queue r.1)) → (retry ≡ None → IfSome fresh (λ p. found ≡ Some (p, sources.Next))) → ((found ≡ None) ↔ ((retry ≡ None) × (fresh ≡ None))) → IfSome found (λ r. HasTurn es next r.0)
first_turn es next (Some r) fresh found sent next_is one other none_left = subst (λ x. IfSome x (λ r. HasTurn es next r.0)) (sym one) (inl sent)
first_turn es next None (Some p) found sent next_is one other none_left = subst (λ x. IfSome x (λ r. HasTurn es next r.0)) (sym (other refl)) (inr next_is)
first_turn es next None None found sent next_is one other none_left = subst (λ x. IfSome x (λ r. HasTurn es next r.0)) (sym (none_left.1 (refl, refl))) tt
