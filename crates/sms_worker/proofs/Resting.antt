-- The charges of a bind's workers rest on different frames of what its reader read.
use Rattle.std.proofs.Common.{◌≡◌, ◌==◌, ◌<◌, ◌≤◌, ◌+◌, ◌++◌, ℕ, zero, suc, Bool, true, false, if◌then◌else◌, List, [], ◌∷◌, length, map, get_or, Option, None, Some, refl, sym, ap, ◌∙◌, subst, arith, eqb-true, true≢false}
use Rattle.std.specs.Prelude.{slice_get, take, drop, nat_lt, option_map}
use Rattle.std.specs.List.{AllZip, filter_map, cons_option}
use Rattle.std.specs.declared.alloc.Global.{Global}
use Rattle.std.proofs.lemmas.Option.{slice_get-map, slice_get_within, get_or_from_slice_get}
use mathlib.Core.List.{IsPrefix}
use Rattle.rtrb.specs.declared.AnyItems.{AnyItems}
use Rattle.rtrb.specs.declared.producer.Producer.{Producer}
use Rattle.rtrb.specs.declared.consumer.Consumer.{Consumer}
use Rattle.rtrb.specs.Ring.{sent, received}
use Rattle.sms_core.specs.Statuses.{no_error}
use Rattle.sms_pdu.specs.declared.command.Command.TheVariants.{SubmitSmResp, GenericNack}
use Rattle.sms_pdu.specs.declared.reply.Reply.{Reply}
use Rattle.sms_pdu.specs.Command.{id_of}
use Rattle.sms_pdu.specs.Header.{number_at}
use Rattle.sms_pdu.specs.Reply.{answers, id_text, reply_by, reply_in, reply_with}
use Rattle.sms_slot.specs.Rings.{went_to}
use Rattle.sms_slot.proofs.Rings.{handed-at}
use Rattle.sms_bind.specs.Deeds.{log}
use Rattle.sms_message.specs.declared.message.Message.{Message}
use Rattle.sms_message.specs.declared.rules.Rules.{Rules}
use Rattle.sms_worker.specs.Types.{MessageEnd, SegmentEnd}
use Rattle.sms_message.specs.declared.ends.Outcome.TheVariants.{Charged}
use Rattle.sms_worker.specs.Apart.{IsAttempt, PlacesApart}
use Rattle.sms_worker.specs.EndOf.{IsEndOf}
use Rattle.sms_message.specs.Ends.{segment_at}
use Rattle.sms_worker.specs.Laws.{HasCharge}
use Rattle.sms_worker.specs.Rests.{Accepts, Charge, ChargesRestOnFrames, HasReceived, RestOn}
use Rattle.sms_worker.specs.Told.{AllTold}
use Rattle.sms_worker.proofs.Charges.{charges_are_answered}
use Rattle.sms_worker.proofs.EndLemmas.{end_at}

-- lists

-- the k-th of what went to a ring stands in the log, behind k others that went there
record Entry {X : Type 0} (entries : List (X × Option ℕ)) (w k : ℕ) (x : X) : Type 0 where
  place : ℕ
  there : slice_get entries place ≡ Some (x, Some w)
  rank : length (went_to w (take place entries)) ≡ k

module _ {X : Type 0} (w : ℕ) where
  took : (y : X) (p : ℕ) (es : List (X × Option ℕ)) (k : ℕ) (x : X) → (p == w) ≡ true → ((j : ℕ) → slice_get (went_to w es) j ≡ Some x → Entry es w j x) → slice_get (y ∷ went_to w es) k ≡ Some x → Entry ((y, Some p) ∷ es) w k x
  took y p es zero x same later at =
      let e : y ≡ x = cc in
      let q : p ≡ w = eqb-true p w same in
      record { place = 0; there = λ i. Some (e i, Some (q i)); rank = refl }
  took y p es (suc k) x same later at =
      let e = later k at in
      record { place = suc e.place; there = e.there; rank = ap (λ b. length (if b then y ∷ went_to w (take e.place es) else went_to w (take e.place es))) same ∙ ap suc e.rank }

  passed : (y : X) (p : ℕ) (es : List (X × Option ℕ)) (k : ℕ) (x : X) → (p == w) ≡ false → Entry es w k x → Entry ((y, Some p) ∷ es) w k x
  passed y p es k x other e = record { place = suc e.place; there = e.there; rank = ap (λ b. length (if b then y ∷ went_to w (take e.place es) else went_to w (take e.place es))) other ∙ e.rank }

  entry_of : (es : List (X × Option ℕ)) (k : ℕ) (x : X) → slice_get (went_to w es) k ≡ Some x → Entry es w k x
  entry_of [] k x at = absurd (cc)
  entry_of ((y, None) ∷ es) k x at = let e = entry_of es k x at in record { place = suc e.place; there = e.there; rank = e.rank }
  entry_of ((y, Some p) ∷ es) k x at =
      elim (p == w) as (λ b. p == w ≡ b → slice_get (if b then y ∷ went_to w es else went_to w es) k ≡ Some x → Entry ((y, Some p) ∷ es) w k x) [
        | true ↦ λ same here. took y p es k x same (λ j. entry_of es j x) here
        | false ↦ λ other here. passed y p es k x other (entry_of es k x here)
      ] refl at

-- the k-th of what f gives is given by an item behind those that gave k
record Source {X Y : Type 0} (f : X → Option Y) (xs : List X) (k : ℕ) (y : Y) : Type 0 where
  place : ℕ
  item : X
  there : slice_get xs place ≡ Some item
  gives : f item ≡ Some y
  rank : length (filter_map f (take place xs)) ≡ k

module _ {X Y : Type 0} (f : X → Option Y) where
  later : (x : X) (xs : List X) (o : Option Y) (j k : ℕ) (y : Y) → f x ≡ o → (s : Source f xs j y) → length (cons_option o (filter_map f (take s.place xs))) ≡ k → Source f (x ∷ xs) k y
  later x xs o j k y e s long = record { place = suc s.place; item = s.item; there = s.there; gives = s.gives; rank = ap (λ p. length (cons_option p (filter_map f (take s.place xs)))) e ∙ long }

  source_at : (x : X) (xs : List X) (z : Y) (k : ℕ) (y : Y) → f x ≡ Some z → ((j : ℕ) → slice_get (filter_map f xs) j ≡ Some y → Source f xs j y) → slice_get (z ∷ filter_map f xs) k ≡ Some y → Source f (x ∷ xs) k y
  source_at x xs z zero y e more at = let same : z ≡ y = cc in record { place = 0; item = x; there = refl; gives = e ∙ ap Some same; rank = refl }
  source_at x xs z (suc k) y e more at = let s = more k at in later x xs (Some z) k (suc k) y e s (ap suc s.rank)

  source_of : (xs : List X) (k : ℕ) (y : Y) → slice_get (filter_map f xs) k ≡ Some y → Source f xs k y
  source_of [] k y at = absurd (cc)
  source_of (x ∷ xs) k y at =
      elim (f x) as (λ o. f x ≡ o → slice_get (cons_option o (filter_map f xs)) k ≡ Some y → Source f (x ∷ xs) k y) [
        | None ↦ λ e here. let s = source_of xs k y here in later x xs None k k y e s s.rank
        | Some z ↦ λ e here. source_at x xs z k y e (λ j. source_of xs j y) here
      ] refl at

module _ {X : Type 0} where
  -- what stands in a beginning stands in the whole
  onward : (xs ys : List X) (k : ℕ) (x : X) → slice_get xs k ≡ Some x → slice_get (xs ++ ys) k ≡ Some x
  onward [] ys k x at = absurd (cc)
  onward (y ∷ xs) ys zero x at = at
  onward (y ∷ xs) ys (suc k) x at = onward xs ys k x at

  in_whole : (xs ys : List X) (k : ℕ) (x : X) → IsPrefix xs ys → slice_get xs k ≡ Some x → slice_get ys k ≡ Some x
  in_whole xs ys k x p at = ap (λ l. slice_get l k) (sym p.1) ∙ onward xs p.0 k x at

  -- what stands behind the first list stands in the second
  behind : (xs ys : List X) (j : ℕ) (x : X) → length xs ≤ j → slice_get (xs ++ ys) j ≡ Some x → (i : ℕ) × (j ≡ length xs + i) × (slice_get ys i ≡ Some x)
  behind [] ys j x low at = (j, omega arith, at)
  behind (y ∷ xs) ys zero x low at = absurd (omega arith)
  behind (y ∷ xs) ys (suc j) x low at = let (i, e, h) = behind xs ys j x (omega arith) at in (i, omega arith, h)

in_some : {X : Type 0} (x y : X) → Some x ≡ Some y → x ≡ y
in_some x y e = cc

zip_at : {A B : Type 0} (R : A → B → Type 0) (xs : List A) (ys : List B) (k : ℕ) (y : B) → AllZip R xs ys → slice_get ys k ≡ Some y → (x : A) × (slice_get xs k ≡ Some x) × R x y
zip_at R [] [] k y a at = absurd (cc)
zip_at R [] (z ∷ ys) k y a at = absurd a
zip_at R (x ∷ xs) [] k y a at = absurd a
zip_at R (x ∷ xs) (z ∷ ys) zero y a at = let e : z ≡ y = cc in (x, refl, subst (R x) e a.0)
zip_at R (x ∷ xs) (z ∷ ys) (suc k) y a at = zip_at R xs ys k y a.1 at

map_at : {A B : Type 0} (f : A → B) (xs : List A) (k : ℕ) (x : A) (d : B) → slice_get xs k ≡ Some x → get_or (map f xs) k d ≡ f x
map_at f xs k x d at = get_or_from_slice_get (map f xs) k (f x) d (slice_get-map f xs k ∙ ap (option_map f) at)

-- one frame

in_long : (short : Bool) (o : Option Reply) (r : Reply) → (if short then None else o) ≡ Some r → o ≡ Some r
in_long true o r e = absurd (cc)
in_long false o r e = e

by_command : (response nack : Bool) (p q r : Reply) → (if response then Some p else (if nack then Some q else None)) ≡ Some r → q.nack ≡ true → r.nack ≡ false → (response ≡ true) × (p ≡ r)
by_command true nack p q r e is plain = (refl, (cc))
by_command false true p q r e is plain = let same : q ≡ r = cc in absurd (true≢false (sym is ∙ ap (λ (x : Reply). x.nack) same ∙ plain))
by_command false false p q r e is plain = absurd (cc)

accepts : (frame : List ℕ) (r : Reply) (number : ℕ) → reply_in frame ≡ Some r → r.nack ≡ false → r.status ≡ no_error → r.number ≡ number → Accepts number frame
accepts frame r number is response status numbered =
    let long = in_long (nat_lt (length frame) 16) (reply_by (number_at 4 frame) frame) r is in
    let k = by_command (number_at 4 frame == id_of SubmitSmResp) (number_at 4 frame == id_of GenericNack) (reply_with false (id_text (drop 16 frame)) frame) (reply_with true [] frame) r long refl response in
    record {
      response = eqb-true (number_at 4 frame) (id_of SubmitSmResp) k.0;
      status = ap (λ (x : Reply). x.status) k.1 ∙ status;
      numbered = ap (λ (x : Reply). x.number) k.1 ∙ numbered;
    }

-- one worker: what it received is a beginning of what its ring had sent and of what went there then, each charge has its answer behind
-- the first of these, and no place of what it received answers two attempts
record Hears (old went replies : List Reply) (ends : List MessageEnd) : Type 0 where
  beginning : IsPrefix replies (old ++ went)
  charges : (k p : ℕ) (s : SegmentEnd) → segment_at ends k p ≡ Some s → s.outcome ≡ Charged → HasCharge (length old) replies s
  apart : PlacesApart replies ends

hears_of : (rules : Rules) (accounts before : ℕ) (messages : List Message) (ends : List MessageEnd) (old went replies : List Reply) → before ≡ length old → IsPrefix replies (old ++ went)
    → AllZip (IsEndOf rules accounts) messages ends → AllTold rules before replies messages ends → PlacesApart replies ends → Hears old went replies ends
hears_of rules accounts before messages ends old went replies long prefix each told places = record { beginning = prefix; charges = charge; apart = places }
  where
    charge : (k p : ℕ) (s : SegmentEnd) → segment_at ends k p ≡ Some s → s.outcome ≡ Charged → HasCharge (length old) replies s
    charge k p s there charged =
        let e = end_at ends k p s there in
        let m = zip_at (IsEndOf rules accounts) messages ends k e.0 each e.1 in
        let settled = (m.2.segments p s e.2).settled in
        subst (λ n. HasCharge n replies s) long (charges_are_answered rules before replies m.0 p s (told k p m.0 s m.1 there) settled charged)

-- all workers of a bind, over the log of its reader and the frames that it worked
module _ (entries : List (Reply × Option ℕ)) (frames : List (List ℕ)) (are : map (λ e. e.0) entries ≡ answers frames) (old replies : List (List Reply)) (ess : List (List MessageEnd))
    (all : (w : ℕ) (es : List MessageEnd) → slice_get ess w ≡ Some es → Hears (get_or old w []) (went_to w entries) (get_or replies w []) es) where
  hears : (x : Charge ess) → Hears (get_or old x.worker []) (went_to x.worker entries) (get_or replies x.worker []) x.ends
  hears x = all x.worker x.ends x.theirs

  charge : (x : Charge ess) → HasCharge (length (get_or old x.worker [])) (get_or replies x.worker []) x.segment
  charge x = (hears x).charges x.message x.part x.segment x.there x.charged

  went : (x : Charge ess) → (i : ℕ) × ((charge x).came.place ≡ length (get_or old x.worker []) + i) × (slice_get (went_to x.worker entries) i ≡ Some (charge x).reply)
  went x =
      let c = (charge x).came in
      behind (get_or old x.worker []) (went_to x.worker entries) c.place (charge x).reply c.since
      (in_whole (get_or replies x.worker []) (get_or old x.worker [] ++ went_to x.worker entries) c.place (charge x).reply (hears x).beginning c.there)

  entry : (x : Charge ess) → Entry entries x.worker (went x).0 (charge x).reply
  entry x = entry_of x.worker entries (went x).0 (charge x).reply (went x).2

  source : (x : Charge ess) → Source reply_in frames (entry x).place (charge x).reply
  source x = source_of reply_in frames (entry x).place (charge x).reply (ap (λ l. slice_get l (entry x).place) (sym are) ∙ slice_get-map (λ e. e.0) entries (entry x).place ∙ ap (option_map (λ e. e.0)) (entry x).there)

  are_apart : (x y : Charge ess) → (source x).place ≡ (source y).place → (x.worker ≡ y.worker) × (x.message ≡ y.message) × (x.part ≡ y.part)
  are_apart x y one_frame =
      let a = entry x in
      let b = entry y in
      let c = charge x in
      let d = charge y in
      let e : a.place ≡ b.place = sym (source x).rank ∙ ap (λ p. length (filter_map reply_in (take p frames))) one_frame ∙ (source y).rank in
      let same : Some (c.reply, Some x.worker) ≡ Some (d.reply, Some y.worker) = sym a.there ∙ ap (slice_get entries) e ∙ b.there in
      let both = in_some (c.reply, Some x.worker) (d.reply, Some y.worker) same in
      let w : x.worker ≡ y.worker = in_some x.worker y.worker (ap (λ (p : Reply × Option ℕ). p.1) both) in
      let rank : (went x).0 ≡ (went y).0 = sym a.rank ∙ (λ i. length (went_to (w i) (take (e i) entries))) ∙ b.rank in
      let place : c.came.place ≡ d.came.place = (went x).1 ∙ (λ i. length (get_or old (w i) []) + rank i) ∙ sym (went y).1 in
      let es : x.ends ≡ y.ends = in_some x.ends y.ends (sym x.theirs ∙ ap (slice_get ess) w ∙ y.theirs) in
      let mine : IsAttempt x.ends x.message x.part c.place c.attempt = record { segment = x.segment; there = x.there; has = c.is } in
      let yours : IsAttempt y.ends y.message y.part d.place d.attempt = record { segment = y.segment; there = y.there; has = d.is } in
      let theirs : IsAttempt x.ends y.message y.part d.place d.attempt = subst (λ (l : List MessageEnd). IsAttempt l y.message y.part d.place d.attempt) (sym es) yours in
      let at : slice_get (get_or replies x.worker []) c.came.place ≡ Some d.reply = (λ i. slice_get (get_or replies (w i) []) (place i)) ∙ d.came.there in
      let one = (hears x).apart x.message x.part c.place y.message y.part d.place c.came.place c.attempt d.attempt c.reply d.reply mine theirs c.answered d.answered c.came.there at in
      (w, one.0, one.1)

  rest_on : RestOn frames ess
  rest_on = record {
    place = λ x. (source x).place;
    accepted = λ x. let s = source x in let c = charge x in (s.item, s.there, record { place = c.place; last = c.attempt; is = c.is; no_later = c.last; accepts = accepts s.item c.reply c.attempt.number s.gives c.response c.status c.number });
    apart = are_apart;
  }

-- and so among more frames
rest_in : (frames more : List (List ℕ)) (ess : List (List MessageEnd)) → RestOn frames ess → RestOn (frames ++ more) ess
rest_in frames more ess r = record { place = r.place; accepted = λ x. let a = r.accepted x in (a.0, onward frames more (r.place x) a.0 a.1, a.2); apart = r.apart }

-- over the rings of a bind
pub charges_rest : (producers : List (Producer Reply Global AnyItems)) (consumers : List (Consumer Reply Global AnyItems)) → AllZip HasReceived producers consumers → ChargesRestOnFrames producers consumers
charges_rest producers consumers met rings keeps state begun before after held end ess h all = record {
  got = h.got;
  consumed = h.consumed;
  frames = h.worked ++ h.others;
  rest = h.rest;
  divided = h.divided;
  rests = rest_in h.worked h.others ess (rest_on (log h.deeds) h.worked h.are (map sent rings) (map received consumers) ess take_replies);
}
  where
    take_replies : (w : ℕ) (es : List MessageEnd) → slice_get ess w ≡ Some es → Hears (get_or (map sent rings) w []) (went_to w (log h.deeds)) (get_or (map received consumers) w []) es
    take_replies w es at =
        let k = all w es at in
        let m = zip_at HasReceived producers consumers w k.consumer met k.back in
        let before_all = map_at sent rings w k.ring [] k.its in
        let low : w < length (map sent rings) = slice_get_within (map sent rings) w (sent k.ring) (slice_get-map sent rings w ∙ ap (option_map sent) k.its) in
        let after_all : sent m.0 ≡ get_or (map sent rings) w [] ++ went_to w (log h.deeds) = sym (map_at sent producers w m.0 [] m.1) ∙ ap (λ l. get_or l w []) h.hands ∙ handed-at (map sent rings) (log h.deeds) w low in
        let prefix : IsPrefix (received k.consumer) (get_or (map sent rings) w [] ++ went_to w (log h.deeds)) = subst (λ (l : List Reply). IsPrefix (received k.consumer) l) after_all m.2 in
        subst (λ (l : List Reply). Hears (get_or (map sent rings) w []) (went_to w (log h.deeds)) l es) (sym (map_at received consumers w k.consumer [] k.back))
        (hears_of k.rules k.accounts (length (received k.begun)) k.messages es (get_or (map sent rings) w []) (went_to w (log h.deeds)) (received k.consumer)
        (ap length (sym k.drained ∙ sym before_all)) prefix k.each k.answers k.places)
