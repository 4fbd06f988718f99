-- What the marks and the charges of a world rest on in its run so far.
use Rattle.std.proofs.Common.{◌≡◌, ℕ, zero, suc, ◌+◌, ◌<◌, ◌==◌, ◌&&◌, Bool, true, false, List, [], ◌∷◌, ◌++◌, length, set, get_or, Some, None, refl, sym, ap, ◌∙◌, subst, inl, inr, ⊎_elim}
use Rattle.std.specs.Prelude.{if◌then◌else◌, nat_lt, replicate, slice_get}
use mathlib.Core.Logic.{◌⊎◌, dite}
use native.Mathlib.Decide.{ℕ_discrete}
use Rattle.std.proofs.lemmas.Bool.{eqb-true, true≢false}
use Rattle.std.proofs.lemmas.List.{get_or-set_same}
use Rattle.std.proofs.lemmas.Option.{slice_get_within, get_or_from_slice_get}
use Rattle.sms_core.specs.declared.event.Event.{Event}
use Rattle.sms_core.specs.declared.event.Event.TheVariants.{Post, Respond}
use Rattle.sms_core.specs.declared.event.Step.{Step}
use Rattle.sms_core.specs.declared.event.Step.TheVariants.{Done}
use Rattle.sms_core.specs.declared.mark.Mark.{Mark}
use Rattle.sms_core.specs.declared.mark.Mark.TheVariants.{Empty, Open, Replied}
use Rattle.sms_core.specs.declared.request.Phase.TheVariants.{Ready, Charged, Refused, Unanswered, Unsent}
use Rattle.sms_core.specs.declared.request.Request.{Request}
use Rattle.sms_core.specs.declared.request.RequestState.{RequestState}
use Rattle.sms_core.specs.Replies.{is_charge, is_retry}
use Rattle.sms_core.specs.State.{State, new_world, find_request, request_of, changed, mark_of}
use Rattle.sms_core.specs.Steps.{Settles, Expires, reserved_request, posted, with_phase, answered, discarded}
use Rattle.sms_core.specs.Histories.{Moment, PostedAt, AcceptedAt, RestsOn}
use Rattle.sms_core.proofs.Named.{find_changed, find_unchanged, find_beside, find_after, find_head}
use Rattle.sms_core.proofs.Sound.{IsSound, mark_waits}
use Rattle.sms_core.proofs.Spoken.{speaks, this_name}

-- a place of the past stays where it is
at_before : (ms more : List Moment) (place : ℕ) (m : Moment) → slice_get ms place ≡ Some m → slice_get (ms ++ more) place ≡ Some m
at_before [] more place m e = absurd (cc)
at_before (x ∷ ms) more zero m e = e
at_before (x ∷ ms) more (suc place) m e = at_before ms more place m e

at_last : (ms : List Moment) (m : Moment) → slice_get (ms ++ m ∷ []) (length ms) ≡ Some m
at_last [] m = refl
at_last (x ∷ ms) m = at_last ms m

abbrev pub Posted : List Moment → ℕ → ℕ → Type 0
Posted past request number = (place : ℕ) × PostedAt past place request number

abbrev pub Rests : List Moment → ℕ → Type 0
Rests past request = (place : ℕ) × RestsOn past request place

posted_before : (past more : List Moment) (place request number : ℕ) → PostedAt past place request number → PostedAt (past ++ more) place request number
posted_before past more place request number p = record {
  moment = p.moment;
  worker = p.worker;
  slot = p.slot;
  there = at_before past more place p.moment p.there;
  event = p.event;
  done = p.done;
  mark = p.mark;
}

accepted_before : (past more : List Moment) (place number : ℕ) → AcceptedAt past place number → AcceptedAt (past ++ more) place number
accepted_before past more place number a = record {
  moment = a.moment;
  there = at_before past more place a.moment a.there;
  event = a.event;
  done = a.done;
}

posted_later : (past more : List Moment) (request number : ℕ) → Posted past request number → Posted (past ++ more) request number
posted_later past more request number p = (p.0, posted_before past more p.0 request number p.1)

rests_later : (past more : List Moment) (request : ℕ) → Rests past request → Rests (past ++ more) request
rests_later past more request r =
    let on = r.1 in (
      r.0,
      record {
        earlier = on.earlier;
        number = on.number;
        before = on.before;
        posted = posted_before past more on.earlier request on.number on.posted;
        accepted = accepted_before past more r.0 on.number on.accepted;
      },
    )

-- each open mark was posted, each accepting answer in a mark and each charge has its answer
pub record IsBacked (past : List Moment) (w : State) : Type 0 where
  pub posts : (slot request number : ℕ) → mark_of w slot ≡ Open request number → Posted past request number
  pub replies : (slot request number status : ℕ) (nack : Bool) → mark_of w slot ≡ Replied request number status nack → is_charge status nack ≡ true → Rests past request
  pub charges : (request : ℕ) (r : RequestState) → request_of w request ≡ Some r → r.phase ≡ Charged → Rests past request

pub backed_later : (past more : List Moment) (w : State) → IsBacked past w → IsBacked (past ++ more) w
backed_later past more w b = record {
  posts = λ slot request number e. posted_later past more request number (b.posts slot request number e);
  replies = λ slot request number status nack e accepts. rests_later past more request (b.replies slot request number status nack e accepts);
  charges = λ request r e p. rests_later past more request (b.charges request r e p);
}

no_mark : (slot n : ℕ) → get_or (replicate n Empty) slot Empty ≡ Empty
no_mark slot zero = refl
no_mark zero (suc n) = refl
no_mark (suc slot) (suc n) = no_mark slot n

pub backed_start : (accounts limit attempts : ℕ) → IsBacked [] (new_world accounts limit attempts)
backed_start accounts limit attempts = record {
  posts = λ slot request number e. let none : Empty ≡ Open request number = sym (no_mark slot 64) ∙ e in absurd (cc);
  replies = λ slot request number status nack e accepts. let none : Empty ≡ Replied request number status nack = sym (no_mark slot 64) ∙ e in absurd (cc);
  charges = λ request r e p. absurd (cc);
}

-- where a mark is after one was set
mark_set : (ms : List Mark) (slot k : ℕ) (new m : Mark) → get_or (set ms slot new) k Empty ≡ m → (new ≡ m) ⊎ (get_or ms k Empty ≡ m)
mark_set [] slot k new m e = inr e
mark_set (x ∷ ms) zero zero new m e = inl e
mark_set (x ∷ ms) zero (suc k) new m e = inr e
mark_set (x ∷ ms) (suc slot) zero new m e = inr e
mark_set (x ∷ ms) (suc slot) (suc k) new m e = mark_set ms slot k new m e

-- a mark is emptied: no mark is new
clear_posts : (past : List Moment) (old : State) (slot : ℕ) → IsBacked past old → (k request number : ℕ) → get_or (set old.marks slot Empty) k Empty ≡ Open request number → Posted past request number
clear_posts past old slot b k request number e = ⊎_elim
    (λ (h : Empty ≡ Open request number). absurd (cc))
    (λ (h : get_or old.marks k Empty ≡ Open request number). b.posts k request number h)
    (mark_set old.marks slot k Empty (Open request number) e)

clear_replies : (past : List Moment) (old : State) (slot : ℕ) → IsBacked past old → (k request number status : ℕ) (nack : Bool) → get_or (set old.marks slot Empty) k Empty ≡ Replied request number status nack
    → is_charge status nack ≡ true → Rests past request
clear_replies past old slot b k request number status nack e accepts = ⊎_elim
    (λ (h : Empty ≡ Replied request number status nack). absurd (cc))
    (λ (h : get_or old.marks k Empty ≡ Replied request number status nack). b.replies k request number status nack h accepts)
    (mark_set old.marks slot k Empty (Replied request number status nack) e)

-- one request is changed: it is charged only where its charge rests on an answer
change_charges : (past : List Moment) (old : State) (id : ℕ) (f : RequestState → RequestState) (s : RequestState) → IsBacked past old → request_of old id ≡ Some s
    → ((f s).phase ≡ Charged → Rests past id) → (request : ℕ) (r : RequestState) → find_request request (changed id f old.requests) ≡ Some r → r.phase ≡ Charged → Rests past request
change_charges past old id f s b known new request r e charged = dite (ℕ_discrete request id)
    (λ is.
    let both : Some (f s) ≡ Some r = sym (find_changed id f old.requests s known) ∙ ap (λ (k : ℕ). find_request k (changed id f old.requests)) (sym is) ∙ e in
    let same : f s ≡ r = cc in
    subst (Rests past) (sym is) (new (ap (λ (x : RequestState). x.phase) same ∙ charged)))
    (λ ne. b.charges request r (sym (find_unchanged id request f old.requests ne) ∙ e) charged)

pub backed_reserve : (past : List Moment) (old : State) (id account cost : ℕ) → request_of old id ≡ None → IsBacked past old
    → IsBacked past record old { requests = old.requests ++ reserved_request id account cost ∷ [] }
backed_reserve past old id account cost none b = record {
  posts = b.posts;
  replies = b.replies;
  charges = λ request r e charged.
      let x : Request = reserved_request id account cost in
      dite (ℕ_discrete id request)
      (λ is.
      let gone : request_of old request ≡ None = ap (λ (k : ℕ). find_request k old.requests) (sym is) ∙ none in
      let both : Some x.state ≡ Some r = sym (find_head request x [] is) ∙ sym (find_after request old.requests (x ∷ []) gone) ∙ e in
      let same : x.state ≡ r = cc in
      let ready : Ready ≡ Charged = ap (λ (t : RequestState). t.phase) same ∙ charged in
      absurd (cc))
      (λ ne. b.charges request r (sym (find_beside request old.requests x ne) ∙ e) charged);
}

pub backed_claim : (past : List Moment) (old : State) (holds : List (ℕ × ℕ)) (slot : ℕ) → IsBacked past old → IsBacked past record old { holds = holds; marks = set old.marks slot Empty }
backed_claim past old holds slot b = record {
  posts = clear_posts past old slot b;
  replies = clear_replies past old slot b;
  charges = b.charges;
}

-- the moment of a step
abbrev pub moment : State → Event → Step → State → Moment
moment before event answer after = record { before = before; event = event; answer = answer; after = after }

pub backed_post : (past : List Moment) (before old : State) (worker slot request : ℕ) (s : RequestState) → slot < length old.marks → request_of old request ≡ Some s → IsBacked past old →
    let new : State = record old { marks = set old.marks slot (Open request old.next); requests = changed request posted old.requests; next = old.next + 1 } in
    IsBacked (past ++ moment before (Post worker slot request) Done new ∷ []) new
backed_post past before old worker slot request s inside known b =
    let new : State = record old { marks = set old.marks slot (Open request old.next); requests = changed request posted old.requests; next = old.next + 1 } in
    let m : Moment = moment before (Post worker slot request) Done new in
    let later = backed_later past (m ∷ []) old b in
    let here : PostedAt (past ++ m ∷ []) (length past) request old.next =
    record { moment = m; worker = worker; slot = slot; there = at_last past m; event = refl; done = refl; mark = get_or-set_same old.marks slot (Open request old.next) Empty inside } in
    record {
      posts = λ k other number e. ⊎_elim
          (λ (h : Open request old.next ≡ Open other number).
          let r : request ≡ other = cc in
          let n : old.next ≡ number = cc in
          (length past, subst (λ (i : ℕ). PostedAt (past ++ m ∷ []) (length past) i number) r (subst (λ (i : ℕ). PostedAt (past ++ m ∷ []) (length past) request i) n here)))
          (λ (h : get_or old.marks k Empty ≡ Open other number). later.posts k other number h)
          (mark_set old.marks slot k (Open request old.next) (Open other number) e);
      replies = λ k other number status nack e accepts. ⊎_elim
          (λ (h : Open request old.next ≡ Replied other number status nack). absurd (cc))
          (λ (h : get_or old.marks k Empty ≡ Replied other number status nack). later.replies k other number status nack h accepts)
          (mark_set old.marks slot k (Open request old.next) (Replied other number status nack) e);
      charges = change_charges (past ++ m ∷ []) old request posted s later known (λ h. absurd (cc));
    }

-- what an accepting answer says
charge_means : (status : ℕ) (nack : Bool) → is_charge status nack ≡ true → (status ≡ 0) × (nack ≡ false)
charge_means status true e = absurd (true≢false (sym e))
charge_means status false e = (eqb-true status 0 e, refl)

pub backed_respond : (past : List Moment) (before old : State) (slot request number status : ℕ) (nack : Bool) → slice_get old.marks slot ≡ Some (Open request number) → IsBacked past old →
    let new : State = record old { marks = set old.marks slot (Replied request number status nack) } in
    IsBacked (past ++ moment before (Respond number status nack) Done new ∷ []) new
backed_respond past before old slot request number status nack there b =
    let new : State = record old { marks = set old.marks slot (Replied request number status nack) } in
    let m : Moment = moment before (Respond number status nack) Done new in
    let later = backed_later past (m ∷ []) old b in
    let post = b.posts slot request number (get_or_from_slice_get old.marks slot (Open request number) Empty there) in
    let rests : is_charge status nack ≡ true → Rests (past ++ m ∷ []) request = λ accepts.
    let is = charge_means status nack accepts in
    let event : Respond number status nack ≡ Respond number 0 false = λ i. Respond number (is.0 i) (is.1 i) in (
      length past,
      record {
        earlier = post.0;
        number = number;
        before = slice_get_within past post.0 post.1.moment post.1.there;
        posted = posted_before past (m ∷ []) post.0 request number post.1;
        accepted = record { moment = m; there = at_last past m; event = event; done = refl };
      },
    ) in
    record {
      posts = λ k other n e. ⊎_elim
          (λ (h : Replied request number status nack ≡ Open other n). absurd (cc))
          (λ (h : get_or old.marks k Empty ≡ Open other n). later.posts k other n h)
          (mark_set old.marks slot k (Replied request number status nack) (Open other n) e);
      replies = λ k other n code kind e accepts. ⊎_elim
          (λ (h : Replied request number status nack ≡ Replied other n code kind).
          let r : request ≡ other = cc in
          let c : status ≡ code = cc in
          let t : nack ≡ kind = cc in
          subst (Rests (past ++ m ∷ [])) r (rests ((λ i. is_charge (c i) (t i)) ∙ accepts)))
          (λ (h : get_or old.marks k Empty ≡ Replied other n code kind). later.replies k other n code kind h accepts)
          (mark_set old.marks slot k (Replied request number status nack) (Replied other n code kind) e);
      charges = later.charges;
    }

-- the mark of a waiting request is emptied
backed_close : (past : List Moment) (old : State) (slot request : ℕ) (f : RequestState → RequestState) → speaks request (mark_of old slot) ≡ 1
    → ((s : RequestState) → (f s).phase ≡ Charged → Rests past request) → IsSound old → IsBacked past old
    → IsBacked past record old { marks = set old.marks slot Empty; requests = changed request f old.requests }
backed_close past old slot request f one new i b =
    let s = mark_waits old slot request i one in
    record {
      posts = clear_posts past old slot b;
      replies = clear_replies past old slot b;
      charges = change_charges past old request f s.state b s.known (new s.state);
    }

charged_after : (charge retry : Bool) → (if charge then Charged else if retry then Ready else Refused) ≡ Charged → charge ≡ true
charged_after true retry e = refl
charged_after false true e = absurd (cc)
charged_after false false e = absurd (cc)

pub backed_settle : (m : Mark) (past : List Moment) (old new : State) (slot : ℕ) → mark_of old slot ≡ m → Settles old slot m new → IsSound old → IsBacked past old → IsBacked past new
backed_settle Empty past old new slot e s i b = absurd s
backed_settle (Open r n) past old new slot e s i b = absurd s
backed_settle (Replied r n status nack) past old new slot e s i b = subst (IsBacked past) (sym s)
    (backed_close past old slot r (answered old.attempts status nack) (ap (speaks r) e ∙ this_name r r refl)
    (λ t h. b.replies slot r n status nack e (charged_after (is_charge status nack) (is_retry status nack && nat_lt t.attempts old.attempts) h)) i b)

pub backed_expire : (m : Mark) (past : List Moment) (old new : State) (slot : ℕ) → mark_of old slot ≡ m → Expires old slot m new → IsSound old → IsBacked past old → IsBacked past new
backed_expire Empty past old new slot e s i b = absurd s
backed_expire (Open r n) past old new slot e s i b = subst (IsBacked past) (sym s)
    (backed_close past old slot r (with_phase Unanswered) (ap (speaks r) e ∙ this_name r r refl) (λ t h. absurd (cc)) i b)
backed_expire (Replied r n status nack) past old new slot e s i b = absurd s

not_charged : (b : Bool) → (if b then Unsent else Refused) ≡ Charged → ⊥
not_charged true e = absurd (cc)
not_charged false e = absurd (cc)

pub backed_discard : (past : List Moment) (old : State) (request : ℕ) (s : RequestState) → request_of old request ≡ Some s → IsBacked past old → IsBacked past record old { requests = changed request discarded old.requests }
backed_discard past old request s known b = record {
  posts = b.posts;
  replies = b.replies;
  charges = change_charges past old request discarded s b known (λ h. absurd (not_charged (s.attempts == 0) h));
}
