-- What holds of every world that a run can reach.
use Rattle.std.proofs.Common.{◌≡◌, ◌≢◌, ℕ, zero, suc, ◌+◌, ◌-◌, ◌<◌, ◌≤◌, ◌==◌, ◌&&◌, nat_lt, Bool, true, false, List, [], ◌∷◌, ◌++◌, map, length, set, get_or, Some, None, refl, sym, ap, ◌∙◌, subst, arith, eq-eqb, ne_eqb}
use Rattle.std.specs.Prelude.{if◌then◌else◌, replicate, slice_get}
use mathlib.Core.Logic.{dite}
use native.Mathlib.Decide.{ℕ_discrete, dec_lt}
use Rattle.std.proofs.lemmas.List.{length-set, length-replicate, get_or-set_same, get_or-set_other}
use Rattle.std.proofs.lemmas.Option.{slice_get_within, get_or_from_slice_get}
use Rattle.sms_core.specs.declared.event.Event.{Event}
use Rattle.sms_core.specs.declared.event.Event.TheVariants.{TopUp, Reserve, Claim, Post, Respond, Settle, Expire, Discard, Release}
use Rattle.sms_core.specs.declared.event.Step.{Step}
use Rattle.sms_core.specs.declared.event.Step.TheVariants.{Done, Ignored}
use Rattle.sms_core.specs.declared.mark.Mark.{Mark}
use Rattle.sms_core.specs.declared.mark.Mark.TheVariants.{Empty, Open, Replied}
use Rattle.sms_core.specs.declared.request.Phase.{Phase}
use Rattle.sms_core.specs.declared.request.Phase.TheVariants.{Ready, Charged, Refused, Unanswered, Unsent, Open as Waiting}
use Rattle.sms_core.specs.declared.request.Request.{Request}
use Rattle.sms_core.specs.declared.request.RequestState.{RequestState}
use Rattle.sms_core.specs.Holds.{is_slot, holders_of, Claims, Releases}
use Rattle.sms_core.specs.Replies.{is_charge, is_retry}
use Rattle.sms_core.specs.Rows.{reserved_of, charged_of, over}
use Rattle.sms_core.specs.State.{State, AreLimits, new_world, topped_of, entry_of, find_request, request_of, changed, mark_of, times_held}
use Rattle.sms_core.specs.Steps.{Steps, Settles, Expires, reserved_request, posted, with_phase, phase_after, discarded}
use Rattle.sms_core.specs.Histories.{Moment, FromStart}
use Rattle.sms_core.proofs.Named.{find_changed, find_unchanged, find_after, find_beside, AreNamedApart, apart_changed, apart_more, share, over_more, no_more_committed}
use Rattle.sms_core.proofs.Runs.{kept_by_runs}
use Rattle.sms_core.proofs.Spoken.{is_name, this_name, other_name, speaks, spoken, spoken_set, spoken_clear, spoken_none, is_waiting, waiting, IsThatWaits, request_waiting}
use Rattle.sms_core.proofs.Workers.{own_at_most, other_slot}
use Rattle.sms_core.proofs.Done.{top_up_done, reserve_done, claim_done, post_done, discard_done, release_done}

pub record IsSound (w : State) : Type 0 where
  -- the window lies within the table of marks
  pub small : w.limit ≤ 64
  pub wide : length w.marks ≡ 64
  -- no slot beyond the window is held, and one that nobody has is empty
  pub within : (slot : ℕ) → w.limit ≤ slot → holders_of slot w.holds ≡ 0
  pub idle : (slot : ℕ) → holders_of slot w.holds ≡ 0 → mark_of w slot ≡ Empty
  pub named : AreNamedApart w.requests
  -- one mark speaks of each request that waits, and none of another
  pub waits : (id : ℕ) → spoken id w.marks ≡ waiting (request_of w id)
  -- no account has more set aside and spent than it was topped up with
  pub funded : (account : ℕ) → over reserved_of account (map entry_of w.requests) + over charged_of account (map entry_of w.requests) ≤ topped_of w account

pub sound_start : (accounts limit attempts : ℕ) → AreLimits accounts limit attempts → IsSound (new_world accounts limit attempts)
sound_start accounts limit attempts l = record {
  small = l.few_slots;
  wide = length-replicate 64 Empty;
  within = λ slot beyond. refl;
  idle = λ slot free. none_set slot 64;
  named = tt;
  waits = λ id. spoken_none id 64;
  funded = λ account. omega arith;
}
  where
    none_set : (slot n : ℕ) → get_or (replicate n Empty) slot Empty ≡ Empty
    none_set slot zero = refl
    none_set zero (suc n) = refl
    none_set (suc slot) (suc n) = none_set slot n

-- an empty mark more
cleared : (ms : List Mark) (slot k : ℕ) → get_or ms k Empty ≡ Empty → get_or (set ms slot Empty) k Empty ≡ Empty
cleared [] slot k e = e
cleared (m ∷ ms) zero zero e = refl
cleared (m ∷ ms) zero (suc k) e = e
cleared (m ∷ ms) (suc slot) zero e = e
cleared (m ∷ ms) (suc slot) (suc k) e = cleared ms slot k e

sound_top_up : (old : State) (account amount : ℕ) → account < length old.topped → IsSound old → IsSound record old { topped = set old.topped account (topped_of old account + amount) }
sound_top_up old account amount inside i = record {
  small = i.small;
  wide = i.wide;
  within = i.within;
  idle = i.idle;
  named = i.named;
  waits = i.waits;
  funded = λ a. let f = i.funded a in dite (ℕ_discrete a account)
      (λ is.
      let n : ℕ = topped_of old account + amount in
      let new : get_or (set old.topped account n) a 0 ≡ n = ap (λ (k : ℕ). get_or (set old.topped account n) k 0) is ∙ get_or-set_same old.topped account n 0 inside in
      let was : get_or old.topped a 0 ≡ get_or old.topped account 0 = ap (λ (k : ℕ). get_or old.topped k 0) is in
      omega arith)
      (λ ne. let new = get_or-set_other old.topped account a (topped_of old account + amount) 0 ne in omega arith);
}

sound_reserve : (old : State) (request account cost : ℕ) → request_of old request ≡ None
    → cost ≤ topped_of old account - over reserved_of account (map entry_of old.requests) - over charged_of account (map entry_of old.requests)
    → IsSound old → IsSound record old { requests = old.requests ++ reserved_request request account cost ∷ [] }
sound_reserve old request account cost none free i = record {
  small = i.small;
  wide = i.wide;
  within = i.within;
  idle = i.idle;
  named = apart_more old.requests (reserved_request request account cost) none i.named;
  waits = λ id. i.waits id ∙ sym (still id);
  funded = λ a.
      let x : Request = reserved_request request account cost in
      let r = over_more reserved_of a old.requests x in
      let c = over_more charged_of a old.requests x in
      let f = i.funded a in
      dite (ℕ_discrete account a)
      (λ is.
      let sr : share reserved_of a x.state ≡ cost = rw (eq-eqb account a is) refl in
      let sc : share charged_of a x.state ≡ 0 = rw (eq-eqb account a is) refl in
      let enough : cost ≤ topped_of old a - over reserved_of a (map entry_of old.requests) - over charged_of a (map entry_of old.requests) =
      subst (λ (k : ℕ). cost ≤ topped_of old k - over reserved_of k (map entry_of old.requests) - over charged_of k (map entry_of old.requests)) is free in
      omega arith)
      (λ ne.
      let sr : share reserved_of a x.state ≡ 0 = rw (ne_eqb account a ne) refl in
      let sc : share charged_of a x.state ≡ 0 = rw (ne_eqb account a ne) refl in
      omega arith);
}
  where
    still : (id : ℕ) → waiting (find_request id (old.requests ++ reserved_request request account cost ∷ [])) ≡ waiting (request_of old id)
    still id = dite (ℕ_discrete request id)
        (λ is.
        let x : Request = reserved_request request account cost in
        let gone : request_of old id ≡ None = ap (λ (k : ℕ). find_request k old.requests) (sym is) ∙ none in
        let there : find_request id (x ∷ []) ≡ Some x.state = rw (eq-eqb request id is) refl in
        ap waiting (find_after id old.requests (x ∷ []) gone ∙ there) ∙ sym (ap waiting gone))
        (λ ne. ap waiting (find_beside id old.requests (reserved_request request account cost) ne))

sound_claim : (old : State) (worker slot : ℕ) (holds : List (ℕ × ℕ)) → slot < old.limit → Claims old.holds worker slot holds → IsSound old
    → IsSound record old { holds = holds; marks = set old.marks slot Empty }
sound_claim old worker slot holds inside c i = record {
  small = i.small;
  wide = length-set old.marks slot Empty ∙ i.wide;
  within = λ k beyond. let e = c.1 (is_slot k) in let z = other_slot worker k slot (λ h. absurd (omega arith)) in let n = i.within k beyond in omega arith;
  idle = λ k free. let e = c.1 (is_slot k) in let n : holders_of k old.holds ≡ 0 = omega arith in cleared old.marks slot k (i.idle k n);
  named = i.named;
  waits = λ id.
      let e = spoken_clear id old.marks slot in
      let none : speaks id (get_or old.marks slot Empty) ≡ 0 = ap (speaks id) (i.idle slot c.0) in
      let w = i.waits id in
      omega arith;
  funded = i.funded;
}

sound_release : (old : State) (worker slot : ℕ) (holds : List (ℕ × ℕ)) → Releases old.holds worker slot holds → mark_of old slot ≡ Empty → IsSound old
    → IsSound record old { holds = holds }
sound_release old worker slot holds r empty i = record {
  small = i.small;
  wide = i.wide;
  within = λ k beyond. let e = r (is_slot k) in let n = i.within k beyond in omega arith;
  idle = λ k free. let e = r (is_slot k) in dite (ℕ_discrete slot k)
      (λ is. subst (λ (j : ℕ). mark_of old j ≡ Empty) is empty)
      (λ ne. let z = other_slot worker k slot ne in i.idle k (omega arith));
  named = i.named;
  waits = i.waits;
  funded = i.funded;
}

-- a slot that somebody has lies in the table
pub held_inside : (old : State) (worker slot : ℕ) → IsSound old → 1 ≤ times_held worker slot old.holds → slot < length old.marks
held_inside old worker slot i held = dite (dec_lt slot old.limit)
    (λ lt. let s = i.small in let l = i.wide in omega arith)
    (λ ge. let n = i.within slot (omega arith) in let o = own_at_most worker slot old.holds in absurd (omega arith))

sound_post : (old : State) (worker slot request : ℕ) (s : RequestState) → 1 ≤ times_held worker slot old.holds → mark_of old slot ≡ Empty
    → request_of old request ≡ Some s → s.phase ≡ Ready → IsSound old
    → IsSound record old { marks = set old.marks slot (Open request old.next); requests = changed request posted old.requests; next = old.next + 1 }
sound_post old worker slot request s held empty known ready i = record {
  small = i.small;
  wide = length-set old.marks slot (Open request old.next) ∙ i.wide;
  within = i.within;
  idle = λ k free.
      let o = own_at_most worker slot old.holds in
      let ne : k ≢ slot = λ is. let z : holders_of slot old.holds ≡ 0 = ap (λ (j : ℕ). holders_of j old.holds) (sym is) ∙ free in absurd (omega arith) in
      get_or-set_other old.marks slot k (Open request old.next) Empty ne ∙ i.idle k free;
  named = apart_changed request posted old.requests i.named;
  waits = λ id.
      let e = spoken_set id old.marks slot (Open request old.next) (held_inside old worker slot i held) in
      let none : speaks id (get_or old.marks slot Empty) ≡ 0 = ap (speaks id) empty in
      let w = i.waits id in
      dite (ℕ_discrete request id)
      (λ is.
      let one = this_name id request is in
      let at : request_of old id ≡ Some s = ap (λ (k : ℕ). find_request k old.requests) (sym is) ∙ known in
      let was : waiting (request_of old id) ≡ 0 = ap waiting at ∙ ap is_waiting ready in
      let new : waiting (find_request id (changed request posted old.requests)) ≡ 1 = ap (λ (k : ℕ). waiting (find_request k (changed request posted old.requests))) (sym is) ∙ ap waiting (find_changed request posted old.requests s known) in
      omega arith)
      (λ ne.
      let silent = other_name id request ne in
      let new : waiting (find_request id (changed request posted old.requests)) ≡ waiting (request_of old id) = ap waiting (find_unchanged request id posted old.requests (λ h. ne (sym h))) in
      omega arith);
  funded = λ a.
      let f = i.funded a in
      let m = no_more_committed a request posted old.requests s (s.attempts + 1) Waiting i.named known refl (ap (λ (p : Phase). reserved_of p s.cost) ready) in
      omega arith;
}

sound_respond : (old : State) (slot request number status : ℕ) (nack : Bool) → slice_get old.marks slot ≡ Some (Open request number) → IsSound old
    → IsSound record old { marks = set old.marks slot (Replied request number status nack) }
sound_respond old slot request number status nack there i = record {
  small = i.small;
  wide = length-set old.marks slot (Replied request number status nack) ∙ i.wide;
  within = i.within;
  idle = λ k free.
      let ne : k ≢ slot = λ is. let z : Open request number ≡ Empty = sym mark ∙ ap (λ (j : ℕ). mark_of old j) (sym is) ∙ i.idle k free in absurd (cc) in
      get_or-set_other old.marks slot k (Replied request number status nack) Empty ne ∙ i.idle k free;
  named = i.named;
  waits = λ id.
      let e = spoken_set id old.marks slot (Replied request number status nack) (slice_get_within old.marks slot (Open request number) there) in
      let was : speaks id (get_or old.marks slot Empty) ≡ is_name id request = ap (speaks id) mark in
      let w = i.waits id in
      omega arith;
  funded = i.funded;
}
  where
    mark : mark_of old slot ≡ Open request number
    mark = get_or_from_slice_get old.marks slot (Open request number) Empty there

-- the request of a mark waits
pub mark_waits : (old : State) (slot request : ℕ) → IsSound old → speaks request (mark_of old slot) ≡ 1 → IsThatWaits (request_of old request)
mark_waits old slot request i one =
    let e = spoken_clear request old.marks slot in
    let w = i.waits request in
    request_waiting (request_of old request) (omega arith)

-- the mark of a waiting request is emptied, and the request no longer waits
sound_close : (old : State) (slot request : ℕ) (phase : RequestState → Phase) → ((s : RequestState) → is_waiting (phase s) ≡ 0)
    → ((id : ℕ) → speaks id (mark_of old slot) ≡ is_name id request) → IsSound old
    → IsSound record old { marks = set old.marks slot Empty; requests = changed request (λ s. with_phase (phase s) s) old.requests }
sound_close old slot request phase ends mark i =
    let f : RequestState → RequestState = λ s. with_phase (phase s) s in
    let waits_now = mark_waits old slot request i (mark request ∙ this_name request request refl) in
    let s : RequestState = waits_now.state in
    let known : request_of old request ≡ Some s = waits_now.known in
    let full : reserved_of s.phase s.cost ≡ s.cost = ap (λ (p : Phase). reserved_of p s.cost) waits_now.waits in
    record {
      small = i.small;
      wide = length-set old.marks slot Empty ∙ i.wide;
      within = i.within;
      idle = λ k free. cleared old.marks slot k (i.idle k free);
      named = apart_changed request f old.requests i.named;
      waits = λ id.
          let e = spoken_clear id old.marks slot in
          let m = mark id in
          let w = i.waits id in
          dite (ℕ_discrete request id)
          (λ is.
          let one = this_name id request is in
          let at : request_of old id ≡ Some s = ap (λ (k : ℕ). find_request k old.requests) (sym is) ∙ known in
          let was : waiting (request_of old id) ≡ 1 = ap waiting at ∙ ap is_waiting waits_now.waits in
          let new : waiting (find_request id (changed request f old.requests)) ≡ 0 =
          ap (λ (k : ℕ). waiting (find_request k (changed request f old.requests))) (sym is) ∙ ap waiting (find_changed request f old.requests s known) ∙ ends s in
          omega arith)
          (λ ne.
          let none = other_name id request ne in
          let new : waiting (find_request id (changed request f old.requests)) ≡ waiting (request_of old id) = ap waiting (find_unchanged request id f old.requests (λ h. ne (sym h))) in
          omega arith);
      funded = λ a.
          let g = i.funded a in
          let less = no_more_committed a request f old.requests s s.attempts (phase s) i.named known refl full in
          omega arith;
    }

sound_discard : (old : State) (request : ℕ) (s : RequestState) → request_of old request ≡ Some s → s.phase ≡ Ready → IsSound old
    → IsSound record old { requests = changed request discarded old.requests }
sound_discard old request s known ready i = record {
  small = i.small;
  wide = i.wide;
  within = i.within;
  idle = i.idle;
  named = apart_changed request discarded old.requests i.named;
  waits = λ id. i.waits id ∙ sym (still id);
  funded = λ a.
      let f = i.funded a in
      let m = no_more_committed a request discarded old.requests s s.attempts (if s.attempts == 0 then Unsent else Refused) i.named known refl (ap (λ (p : Phase). reserved_of p s.cost) ready) in
      omega arith;
}
  where
    done : (b : Bool) → is_waiting (if b then Unsent else Refused) ≡ 0
    done true = refl
    done false = refl

    still : (id : ℕ) → waiting (find_request id (changed request discarded old.requests)) ≡ waiting (request_of old id)
    still id = dite (ℕ_discrete request id)
        (λ is.
        let at : request_of old id ≡ Some s = ap (λ (k : ℕ). find_request k old.requests) (sym is) ∙ known in
        let was : waiting (request_of old id) ≡ 0 = ap waiting at ∙ ap is_waiting ready in
        ap (λ (k : ℕ). waiting (find_request k (changed request discarded old.requests))) (sym is) ∙ ap waiting (find_changed request discarded old.requests s known) ∙ done (s.attempts == 0) ∙ sym was)
        (λ ne. ap waiting (find_unchanged request id discarded old.requests (λ h. ne (sym h))))

after_reply : (charge retry : Bool) → is_waiting (if charge then Charged else if retry then Ready else Refused) ≡ 0
after_reply true retry = refl
after_reply false true = refl
after_reply false false = refl

sound_settle : (m : Mark) (old new : State) (slot : ℕ) → mark_of old slot ≡ m → Settles old slot m new → IsSound old → IsSound new
sound_settle Empty old new slot e s i = absurd s
sound_settle (Open r n) old new slot e s i = absurd s
sound_settle (Replied r n status nack) old new slot e s i = subst IsSound (sym s)
    (sound_close old slot r (λ t. phase_after old.attempts status nack t.attempts) (λ t. after_reply (is_charge status nack) (is_retry status nack && nat_lt t.attempts old.attempts)) (λ id. ap (speaks id) e) i)

sound_expire : (m : Mark) (old new : State) (slot : ℕ) → mark_of old slot ≡ m → Expires old slot m new → IsSound old → IsSound new
sound_expire Empty old new slot e s i = absurd s
sound_expire (Open r n) old new slot e s i = subst IsSound (sym s) (sound_close old slot r (λ t. Unanswered) (λ t. refl) (λ id. ap (speaks id) e) i)
sound_expire (Replied r n status nack) old new slot e s i = absurd s

pub sound_step : (event : Event) (answer : Step) (old new : State) → Steps old event answer new → IsSound old → IsSound new
sound_step event (Ignored cause) old new s i = subst IsSound (sym s.1) i
sound_step (TopUp account amount) Done old new s i =
    subst IsSound (sym s.1) (sound_top_up old account amount (top_up_done old new account amount s).account_there i)
sound_step (Reserve request account cost) Done old new s i =
    let done = reserve_done old new request account cost s in
    subst IsSound (sym s.1) (sound_reserve old request account cost done.unknown done.enough i)
sound_step (Claim worker slot) Done old new s i =
    let done = claim_done old new worker slot s in
    subst IsSound (sym done.after) (sound_claim old worker slot new.holds done.inside done.claims i)
sound_step (Post worker slot request) Done old new s i =
    let done = post_done old new worker slot request s in
    let r = done.ready in
    subst IsSound (sym s.1) (sound_post old worker slot request r.state done.held done.empty r.known r.ready i)
sound_step (Respond number status nack) Done old new s i = subst IsSound (sym s.1.after) (sound_respond old s.1.slot s.1.request number status nack s.1.waits i)
sound_step (Settle worker slot) Done old new s i = sound_settle (mark_of old slot) old new slot refl s.1 i
sound_step (Expire worker slot) Done old new s i = sound_expire (mark_of old slot) old new slot refl s.1 i
sound_step (Discard request) Done old new s i =
    let r = (discard_done old new request s).ready in
    subst IsSound (sym s.1) (sound_discard old request r.state r.known r.ready i)
sound_step (Release worker slot) Done old new s i =
    let done = release_done old new worker slot s in
    subst IsSound (sym done.after) (sound_release old worker slot new.holds done.releases done.empty i)

pub sound : (ms : List Moment) (w : State) → FromStart ms w → IsSound w
sound ms w h = kept_by_runs IsSound sound_step ms (new_world h.accounts h.limit h.attempts) w h.history (sound_start h.accounts h.limit h.attempts h.limits)
