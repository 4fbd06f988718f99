-- What one step of a turn does to what is left to be sent, from what its calls promise.
use Rattle.std.proofs.Common.{◌≡◌, ℕ, suc, ◌+◌, ◌-◌, ◌≤◌, Bool, true, List, [], ◌∷◌, ◌++◌, length, Some, None, inl, inr, refl, sym, ap, ◌∙◌, subst, arith}
use Rattle.std.specs.Prelude.{◌^◌, IfSome, IsTrue, Option, min}
use Rattle.sms_window.specs.declared.view.View.{View}
use Rattle.sms_pdu.specs.declared.reply.Reply.{Reply}
use Rattle.sms_segment.specs.declared.part.Part.{Part}
use Rattle.sms_session.specs.declared.policy.Decision.{Decision}
use Rattle.sms_session.specs.Decisions.{decided}
use Rattle.sms_worker.specs.declared.steps.attempt.TrySend.{TrySend}
use Rattle.sms_worker.specs.declared.steps.attempt.TrySend.TheVariants.{Sent, Retry, GiveUp}
use Rattle.sms_worker.specs.declared.steps.give_up.GiveUpReason.{GiveUpReason}
use Rattle.sms_worker.specs.declared.steps.give_up.GiveUpReason.TheVariants.{Done, Gate, Kept, Line, Memory, Numbers}
use Rattle.sms_worker.specs.Types.{MessageEnd, SegmentEnd}
use Rattle.sms_worker.specs.declared.steps.retry_later.RetryLater.{RetryLater}
use Rattle.sms_message.specs.declared.message.Message.{Message}
use Rattle.sms_worker.specs.declared.state.open.Open.{Open}
use Rattle.sms_worker.specs.declared.state.open.SegmentPlace.{SegmentPlace}
use Rattle.sms_worker.specs.declared.state.queue.Queue.{Queue as QueueIn}
use Rattle.sms_message.specs.declared.rules.Rules.{Rules}
use Rattle.sms_worker.specs.declared.steps.starting.Idle.{Idle}
use Rattle.sms_worker.specs.declared.steps.starting.Idle.TheVariants.{Closed, AllBegun, Waits}
use Rattle.sms_worker.specs.declared.steps.starting.Source.{Source}
use Rattle.sms_worker.specs.declared.steps.starting.Source.TheVariants.{Queue, Next}
use Rattle.sms_worker.specs.declared.steps.starting.Started.{Started}
use Rattle.sms_worker.specs.declared.steps.starting.Started.TheVariants.{One, Nothing}
use Rattle.sms_message.specs.Ends.{put, segment_at}
use Rattle.sms_worker.specs.Queues.{IsFirstDue, IsTaken, NoneIsDue, WaitsLast}
use Rattle.sms_worker.specs.Rising.{HasNext, IsNext, IsThere}
use Rattle.sms_worker.specs.RunState.{RunState}
use Rattle.sms_worker.specs.Start.{Start}
use Rattle.sms_worker.specs.Steps.{IsReason, Opens, Tries}
use Rattle.sms_worker.specs.Sweeps.{SweptAt}
use Rattle.sms_worker.specs.PendingState.{LeavesPending, PendingState}
use Rattle.sms_worker.specs.Turns.{AreSteps, IsGivenUp, IsOver, IsStep, IsTried, IsTry, IsTurn, Starts, are_some, most_starts}
use Rattle.sms_worker.proofs.EndLemmas.{put_same}
use Rattle.sms_worker.proofs.Sweeping.{swept_none, swept_settled}

pub both : {X : Type 0} (P Q : X → Type 0) (o : Option X) → IfSome o P → IfSome o Q → IfSome o (λ x. P x × Q x)
both P Q None p q = tt
both P Q (Some x) p q = (p, q)

-- a try, from what it did to the segment's attempts and to the open requests
module _ (rules : Rules) (m : Message) (part : Part) (v w : View) (a b : RunState) (seen : a ≡ b) (es : List MessageEnd) (os : List Open) (place : SegmentPlace) (s s' : SegmentEnd) (at : segment_at a.ends place.message place.part ≡ Some s) (is : es ≡ put a.ends place.message place.part s') (cost : s'.cost ≡ s.cost) (outcome : s'.outcome ≡ s.outcome) where
  as_before : s'.attempts ≡ s.attempts → es ≡ a.ends
  as_before same =
      let unchanged : s' ≡ s = λ i. record { cost = cost i; attempts = same i; outcome = outcome i } in
      is ∙ ap (put a.ends place.message place.part) unchanged ∙ put_same a.ends place.message place.part s at

  -- one that was tried was denied for a reason that was had
  denied_for : (why : GiveUpReason) → IsReason why v w → IsGivenUp why place a
  denied_for (Kept lack) h = absurd h
  denied_for (Done left) h = absurd h
  denied_for (Numbers all) h = tt
  denied_for (Memory lack) h = tt
  denied_for (Gate lack) h = tt
  denied_for (Line lack) h = tt

  by_try : (t : TrySend) → Tries rules m part v s.attempts t w s'.attempts → Opens t place a.opened os → IsTry t place a (record a { ends = es; opened = os })
  by_try (Sent n) (drawn, (octets, more, spells)) (o, added, number, its) =
      let now : s' ≡ record s { attempts = s.attempts ++ record { number = n; sent = octets; reply = None } ∷ [] } = λ i. record { cost = cost i; attempts = more i; outcome = outcome i } in
      (record { segment = s; was = at; octets = octets; now = is ∙ ap (put a.ends place.message place.part) now }, (o, number, its, ap (λ l. record a { ends = es; opened = l }) added))
  by_try (Retry held) h same = ap (λ l. record a { ends = l; opened = os }) (as_before h.1) ∙ ap (λ l. record a { opened = l }) same
  by_try (GiveUp why) h same = (ap (λ l. record a { ends = l; opened = os }) (as_before h.1) ∙ ap (λ l. record a { opened = l }) same, denied_for why h.0)

  pub tried_so : (t : TrySend) → Tries rules m part v s.attempts t w s'.attempts → Opens t place a.opened os → IsTry t place b (record a { ends = es; opened = os })
  tried_so t tries opened = subst (λ x. IsTry t place x (record a { ends = es; opened = os })) seen (by_try t tries opened)

pub as_it_was : (a b : RunState) → a ≡ b → (es : List MessageEnd) → es ≡ a.ends → record a { ends = es } ≡ b
as_it_was a b seen es same = ap (λ l. record a { ends = l }) same ∙ seen

-- the segment is as it was where it wasn't sent
pub not_sent : (t : TrySend) (held : RetryLater) (place : SegmentPlace) (old new : RunState) → IsTry t place old new → t ≡ Retry held → new ≡ old
not_sent t held place old new h is = subst (λ x. IsTry x place old new) is h

-- what was to be sent is there still
pub still_there : (t : TrySend) (place : SegmentPlace) (old new : RunState) → IsTry t place old new → (new.queues ≡ old.queues) × (new.pending ≡ old.pending) × (new.next ≡ old.next)
still_there (Sent n) place old new (sent, (o, number, its, is)) = (ap (λ (x : RunState). x.queues) is, ap (λ (x : RunState). x.pending) is, ap (λ (x : RunState). x.next) is)
still_there (Retry held) place old new is = (ap (λ (x : RunState). x.queues) is, ap (λ (x : RunState). x.pending) is, ap (λ (x : RunState). x.next) is)
still_there (GiveUp why) place old new (is, over) = (ap (λ (x : RunState). x.queues) is, ap (λ (x : RunState). x.pending) is, ap (λ (x : RunState). x.next) is)

pub sent_so : (most n : ℕ) (t : TrySend) (place : SegmentPlace) (old new : RunState) → IsTry t place old new → t ≡ Sent n → IsTried most place old.ends new.ends
sent_so most n t place old new h is = inl (n, (subst (λ x. IsTry x place old new) is h).0)

pub given_so : (most : ℕ) (t : TrySend) (why : GiveUpReason) (place : SegmentPlace) (old new : RunState) (es : List MessageEnd) → IsTry t place old new → t ≡ GiveUp why → SweptAt most place.message place.part new.ends es → IsTried most place old.ends es
given_so most t why place old new es h is swept =
    let same : new ≡ old = (subst (λ x. IsTry x place old new) is h).0 in
    inr (subst (λ (x : RunState). SweptAt most place.message place.part x.ends es) same swept)

-- one of which nothing was to be sent was left as it was
pub over_so : (most : ℕ) (place : SegmentPlace) (old new : RunState) → new ≡ old → IsOver most place old.ends → IsTried most place old.ends new.ends
over_so most place old new same over = inr (subst (λ (x : RunState). SweptAt most place.message place.part old.ends x.ends) (sym same) (left over))
  where
    left : IsOver most place old.ends → SweptAt most place.message place.part old.ends old.ends
    left (inl none) = swept_none most place.message place.part old.ends none
    left (inr (s, at, settled)) = swept_settled most place.message place.part old.ends s at settled

-- a segment was found, tried, and taken from where it was found
module _ (start : Start) (now : ℕ) (a b c d e : RunState) (place : SegmentPlace) (look : b ≡ record a { closed = b.closed }) (left : (c.queues ≡ b.queues) × (c.pending ≡ b.pending) × (c.next ≡ b.next)) (kept : d.pending ≡ c.pending) (ended : (e.queues ≡ d.queues) × (e.next ≡ d.next)) (dropped : LeavesPending place.message d.pending e.pending) (tried : IsTried start.rules.policy.attempts place b.ends e.ends) where
  queues_are : c.queues ≡ a.queues
  queues_are = left.0 ∙ ap (λ (x : RunState). x.queues) look

  pending_are : c.pending ≡ a.pending
  pending_are = left.1 ∙ ap (λ (x : RunState). x.pending) look

  next_is : c.next ≡ a.next
  next_is = left.2 ∙ ap (λ (x : RunState). x.next) look

  pending_then : LeavesPending place.message a.pending e.pending
  pending_then = subst (λ l. LeavesPending place.message l e.pending) (kept ∙ pending_are) dropped

  tried_then : IsTried start.rules.policy.attempts place a.ends e.ends
  tried_then = subst (λ (x : RunState). IsTried start.rules.policy.attempts place x.ends e.ends) look tried

  retry_step : (k : ℕ) → IsFirstDue b.pending b.queues now place k → (d.next ≡ c.next) × IsTaken c.pending k c.queues d.queues → IsStep start now One a e
  retry_step k due (same, taken) = inl (record {
    place = place;
    queue = k;
    due = subst (λ (x : RunState). IsFirstDue x.pending x.queues now place k) look due;
    taken = subst (λ l. IsTaken a.pending k a.queues l) (sym ended.0) (subst (λ l. IsTaken a.pending k l d.queues) queues_are (subst (λ l. IsTaken l k c.queues d.queues) pending_are taken));
    next = ended.1 ∙ same ∙ next_is;
    pending = pending_then;
    tried = tried_then;
  })

  next_step : NoneIsDue b.pending b.queues now × (IsNext b.ends b.next place × IsThere b.ends place) → (d.next ≡ min (c.next + 1) (2 ^ 64 - 1)) × (d.queues ≡ c.queues) → IsStep start now One a e
  next_step (quiet, (is, there)) (more, same) = inr (inl (record {
    quiet = subst (λ (x : RunState). NoneIsDue x.pending x.queues now) look quiet;
    place = place;
    is = subst (λ (x : RunState). IsNext x.ends x.next place) look is;
    there = subst (λ (x : RunState). IsThere x.ends place) look there;
    queues = ended.0 ∙ same ∙ queues_are;
    next = ended.1 ∙ more ∙ ap (λ n. min (n + 1) (2 ^ 64 - 1)) next_is;
    pending = pending_then;
    tried = tried_then;
  }))

  pub stepped : (source : Source) → ((k : ℕ) → source ≡ Queue k → IsFirstDue b.pending b.queues now place k) → (source ≡ Next → NoneIsDue b.pending b.queues now × (IsNext b.ends b.next place × IsThere b.ends place))
      → ((k : ℕ) → source ≡ Queue k → (d.next ≡ c.next) × IsTaken c.pending k c.queues d.queues) → (source ≡ Next → (d.next ≡ min (c.next + 1) (2 ^ 64 - 1)) × (d.queues ≡ c.queues)) → IsStep start now One a e
  stepped (Queue k) due fresh taken more = retry_step k (due k refl) (taken k refl)
  stepped Next due fresh taken more = next_step (fresh refl) (more refl)

-- nothing was found, and a message was begun
pub begun_step : (start : Start) (now : ℕ) (a b c : RunState) → b ≡ record a { closed = b.closed } → NoneIsDue b.pending b.queues now × (HasNext b.ends b.next → ⊥) → (c.queues ≡ b.queues) × (c.next ≡ 0) → length c.ends ≡ length b.ends + 1 → IsStep start now One a c
begun_step start now a b c look (quiet, all) (same, first) more = inr (inr (record {
  quiet = subst (λ (x : RunState). NoneIsDue x.pending x.queues now) look quiet;
  all = subst (λ (x : RunState). HasNext x.ends x.next → ⊥) look all;
  queues = same ∙ ap (λ (x : RunState). x.queues) look;
  next = first;
  more = more ∙ ap (λ (x : RunState). length x.ends + 1) look;
}))

-- a segment's turn, as the line was looked at in between
pub turn_there : (now : ℕ) (a b : RunState) (place : SegmentPlace) → b ≡ record a { closed = b.closed } → (source : Source) → ((k : ℕ) → source ≡ Queue k → IsFirstDue b.pending b.queues now place k) → (source ≡ Next → NoneIsDue b.pending b.queues now × (IsNext b.ends b.next place × IsThere b.ends place)) → IsTurn now a place
turn_there now a b place look (Queue k) due fresh = inl (k, subst (λ (x : RunState). IsFirstDue x.pending x.queues now place k) look (due k refl))
turn_there now a b place look Next due fresh =
    let f = fresh refl in
    inr (subst (λ (x : RunState). NoneIsDue x.pending x.queues now) look f.0, subst (λ (x : RunState). IsNext x.ends x.next place) look f.1.0, subst (λ (x : RunState). IsThere x.ends place) look f.1.1)

-- nothing was started
same_but : (a b c : RunState) → b ≡ record a { closed = b.closed } → c ≡ b → c ≡ record a { closed = c.closed }
same_but a b c look same = same ∙ look ∙ ap (λ (x : RunState). record a { closed = x.closed }) (sym same)

pub none_begun : (start : Start) (now : ℕ) (a b c : RunState) → b ≡ record a { closed = b.closed } → NoneIsDue b.pending b.queues now × (HasNext b.ends b.next → ⊥) → c ≡ b → length c.ends ≡ length start.messages → IsStep start now (Nothing AllBegun) a c
none_begun start now a b c look (quiet, all) same long =
    (same_but a b c look same, (subst (λ (x : RunState). NoneIsDue x.pending x.queues now) look quiet, subst (λ (x : RunState). HasNext x.ends x.next → ⊥) look all, subst (λ (x : RunState). length x.ends ≡ length start.messages) (same ∙ look) long))

pub seen_closed : (start : Start) (now : ℕ) (a b : RunState) (place : SegmentPlace) → b ≡ record a { closed = b.closed } → IsTrue b.closed → IsTurn now a place → IsStep start now (Nothing Closed) a b
seen_closed start now a b place look closed turn = (look, (closed, (place, turn)))

pub waits_step : (start : Start) (now : ℕ) (a b c : RunState) (place : SegmentPlace) (held : RetryLater) → b ≡ record a { closed = b.closed } → c ≡ b → IsTurn now a place → IsStep start now (Nothing (Waits held)) a c
waits_step start now a b c place held look same turn = (same_but a b c look same, (place, turn))

-- what was decided, by the rules of the call
pub so_decided : (reply : Reply) (d : Decision) (n count : ℕ) (rules start : Rules) → rules ≡ start → d ≡ decided reply n rules.policy.attempts rules.policy.base_ms → count ≡ n → d ≡ decided reply count start.policy.attempts start.policy.base_ms
so_decided reply d n count rules start same is long =
    subst (λ (x : Rules). d ≡ decided reply count x.policy.attempts x.policy.base_ms) same (is ∙ ap (λ k. decided reply k rules.policy.attempts rules.policy.base_ms) (sym long))

-- a segment waits last, by what the state is as others see it
pub waits_at : (inside old : RunState) → inside ≡ old → (k : ℕ) (place : SegmentPlace) (due due' : ℕ) (pending : List PendingState) (qs : List QueueIn) → due ≡ due' → WaitsLast inside.pending inside.queues k (record { place = place; due_ms = due }) pending qs
    → WaitsLast old.pending old.queues k (record { place = place; due_ms = due' }) pending qs
waits_at inside old seen k place due due' pending qs times waits =
    subst (λ n. WaitsLast old.pending old.queues k (record { place = place; due_ms = n }) pending qs) times
    (subst (λ (x : RunState). WaitsLast x.pending x.queues k (record { place = place; due_ms = due }) pending qs) seen waits)

-- all that was started so far
pub one_more : (start : Start) (now n : ℕ) (a b c : RunState) (did : Started) → AreSteps start now n a b → IsStep start now did b c → did ≡ One → AreSteps start now (n + 1) a c
one_more start now n a b c did steps step is =
    let next : suc n ≡ n + 1 = omega arith in
    subst (λ k. AreSteps start now k a c) next (b, steps, subst (λ x. IsStep start now x b c) is step)

pub some_then : (n : ℕ) → true ≡ are_some (n + 1)
some_then n =
    let next : suc n ≡ n + 1 = omega arith in
    subst (λ k. true ≡ are_some k) next refl

pub no_more : (start : Start) (now n : ℕ) (any : Bool) (a b c : RunState) (did : Started) (why : Idle) → AreSteps start now n a b → any ≡ are_some n → IsStep start now did b c → did ≡ Nothing why → Starts start any a c
no_more start now n any a b c did why steps some step is = record { now = now; count = n; last = b; steps = steps; rest = inl (why, subst (λ x. IsStep start now x b c) is step); some = some }

pub all_open : (start : Start) (now n : ℕ) (any : Bool) (a b : RunState) → AreSteps start now n a b → any ≡ are_some n → start.rules.depth ≤ length b.opened → Starts start any a b
all_open start now n any a b steps some full = record { now = now; count = n; last = b; steps = steps; rest = inr (refl, inl full); some = some }

pub turn_full : (start : Start) (now n : ℕ) (any : Bool) (a b : RunState) → AreSteps start now n a b → any ≡ are_some n → n ≡ most_starts → Starts start any a b
turn_full start now n any a b steps some most = record { now = now; count = n; last = b; steps = steps; rest = inr (refl, inr most); some = some }
