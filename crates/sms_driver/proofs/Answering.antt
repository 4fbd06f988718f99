-- The answers of a bind's workers stand at different places of what its reader handed on.
use Rattle.std.proofs.Common.{Bool, ◌≡◌, ◌==◌, ◌<◌, ◌≤◌, ◌+◌, ◌++◌, append_assoc, ℕ, zero, suc, true, false, if◌then◌else◌, List, [], ◌∷◌, length, map, get_or, Option, None, Some, refl, sym, ap, ◌∙◌, subst, arith, eqb-true}
use Rattle.std.specs.Prelude.{slice_get, take, option_map}
use Rattle.std.proofs.lemmas.Option.{slice_get-map}
use Rattle.std.specs.List.{AllByRecursion, AllZip, concat}
use mathlib.Core.List.{IsPrefix}
use Rattle.std.proofs.KnownBytes.{Consumes-trans}
use Rattle.std.specs.declared.alloc.Global.{Global}
use Rattle.rtrb.specs.declared.AnyItems.{AnyItems}
use Rattle.rtrb.specs.declared.producer.Producer.{Producer}
use Rattle.rtrb.specs.declared.consumer.Consumer.{Consumer}
use Rattle.rtrb.specs.Ring.{sent, received}
use Rattle.sms_pdu.specs.declared.reply.Reply.{Reply}
use Rattle.sms_pdu.specs.declared.command.Mode.{Mode}
use Rattle.sms_pdu.specs.Frame.{Division}
use Rattle.sms_pdu.specs.Reply.{answers}
use Rattle.sms_pdu.proofs.Divisions.{answers_join, frame_before}
use Rattle.sms_session.specs.declared.session.State.{State}
use Rattle.sms_slot.specs.Rings.{went_to}
use Rattle.sms_slot.proofs.Rings.{handed-at, length-handed}
use Rattle.sms_bind.specs.Deeds.{log}
use Rattle.sms_pdu.specs.Devices.{device}
use Rattle.sms_bind.specs.Ends.{HandsOn}
use Rattle.sms_bind.specs.Held.{Held}
use Rattle.sms_bind.specs.declared.ending.ReaderEnd.{ReaderEnd}
use Rattle.sms_worker.specs.Apart.{IsAttempt, PlacesApart}
use Rattle.sms_worker.specs.EndOf.{IsEndOf}
use Rattle.sms_worker.specs.Told.{HeardSince, AllTold, IsAnswered}
use Rattle.sms_worker.specs.Types.{Attempt, MessageEnd}
use Rattle.sms_book.specs.Name.{BookId}
use Rattle.sms_message.specs.declared.message.Message.{Message}
use Rattle.sms_message.specs.declared.rules.Rules.{Rules}
use Rattle.sms_worker.specs.declared.entry.work.WorkerEnd.{WorkerEnd}
use Rattle.sms_worker.proofs.Tries.{all_at}
use Rattle.sms_worker.proofs.EndLemmas.{get_there, get_low, end_at}
use Rattle.sms_worker.specs.ReadyState.{ReadyState}
use Rattle.sms_driver.specs.Answered.{Answered, RestOn, Hears, IsHeard}
use Rattle.sms_driver.specs.Reads.{Reading, HasRead, IsOpened}
use Rattle.sms_worker.specs.Rests.{HasReceived}
use Rattle.sms_driver.specs.Worked.{IsWorkOf}

-- the k-th answer of a ring stands in the log, after k others of that ring
pub record Entry {X : Type 0} (log : List (X × Option ℕ)) (w k : ℕ) (x : X) : Type 0 where
  pub place : ℕ
  pub there : slice_get log place ≡ Some (x, Some w)
  pub rank : length (went_to w (take place log)) ≡ k

module _ {X : Type 0} (w : ℕ) where
  took : (y : X) (p : ℕ) (es : List (X × Option ℕ)) (k : ℕ) (x : X) → (p == w) ≡ true → ((j : ℕ) → slice_get (went_to w es) j ≡ Some x → Entry es w j x) → slice_get (y ∷ went_to w es) k ≡ Some x → Entry ((y, Some p) ∷ es) w k x
  took y p es zero x same later at =
      let e : y ≡ x = cc in
      let q : p ≡ w = eqb-true p w same in
      record { place = 0; there = λ i. Some (e i, Some (q i)); rank = refl }
  took y p es (suc k) x same later at =
      let e = later k at in
      record { place = suc e.place; there = e.there; rank = ap (λ b. length (if b then y ∷ went_to w (take e.place es) else went_to w (take e.place es))) same ∙ ap suc e.rank }

  passed : (y : X) (p : ℕ) (es : List (X × Option ℕ)) (k : ℕ) (x : X) → (p == w) ≡ false → Entry es w k x → Entry ((y, Some p) ∷ es) w k x
  passed y p es k x other e = record { place = suc e.place; there = e.there; rank = ap (λ b. length (if b then y ∷ went_to w (take e.place es) else went_to w (take e.place es))) other ∙ e.rank }

  pub entry_of : (log : List (X × Option ℕ)) (k : ℕ) (x : X) → slice_get (went_to w log) k ≡ Some x → Entry log w k x
  entry_of [] k x at = absurd (cc)
  entry_of ((y, None) ∷ es) k x at = let e = entry_of es k x at in record { place = suc e.place; there = e.there; rank = e.rank }
  entry_of ((y, Some p) ∷ es) k x at =
      elim (p == w) as (λ b. p == w ≡ b → slice_get (if b then y ∷ went_to w es else went_to w es) k ≡ Some x → Entry ((y, Some p) ∷ es) w k x) [
        | true ↦ λ same here. took y p es k x same (λ j. entry_of es j x) here
        | false ↦ λ other here. passed y p es k x other (entry_of es k x here)
      ] refl at

-- what stands in a beginning stands in the whole
pub onward : {X : Type 0} (rs t : List X) (k : ℕ) (x : X) → slice_get rs k ≡ Some x → slice_get (rs ++ t) k ≡ Some x
onward [] t k x at = absurd (cc)
onward (y ∷ rs) t zero x at = at
onward (y ∷ rs) t (suc k) x at = onward rs t k x at

pub in_whole : {X : Type 0} (rs xs : List X) (k : ℕ) (x : X) → IsPrefix rs xs → slice_get rs k ≡ Some x → slice_get xs k ≡ Some x
in_whole rs xs k x p at = ap (λ l. slice_get l k) (sym p.1) ∙ onward rs p.0 k x at

-- what each worker received is a beginning of what was pushed into its ring, and the worker received it
abbrev AllHear : List (Reply × Option ℕ) → List (List Reply) → List (List MessageEnd) → Type 0
AllHear log heard ess = (w : ℕ) (es : List MessageEnd) → slice_get ess w ≡ Some es → IsPrefix (get_or heard w []) (went_to w log) × Hears (get_or heard w []) es

module _ (log : List (Reply × Option ℕ)) (heard : List (List Reply)) (ess : List (List MessageEnd)) (all : AllHear log heard ess) where
  hears : (a : Answered ess) → Hears (get_or heard a.worker []) a.ends
  hears a = (all a.worker a.ends a.theirs).1

  since : (a : Answered ess) → HeardSince 0 (get_or heard a.worker []) a.reply
  since a = ((hears a).answered a.message a.part a.attempt a.one a.reply a.is a.has).1

  entry : (a : Answered ess) → Entry log a.worker (since a).place a.reply
  entry a = entry_of a.worker log (since a).place a.reply (in_whole (get_or heard a.worker []) (went_to a.worker log) (since a).place a.reply (all a.worker a.ends a.theirs).0 (since a).there)

  are_apart : (a b : Answered ess) → (entry a).place ≡ (entry b).place → (a.worker ≡ b.worker) × (a.message ≡ b.message) × (a.part ≡ b.part) × (a.attempt ≡ b.attempt)
  are_apart a b e =
      let x = entry a in
      let y = entry b in
      let same : Some (a.reply, Some a.worker) ≡ Some (b.reply, Some b.worker) = sym x.there ∙ ap (slice_get log) e ∙ y.there in
      let both : (a.reply, Some a.worker) ≡ (b.reply, Some b.worker) = cc in
      let ring : Some a.worker ≡ Some b.worker = ap (λ (p : Reply × Option ℕ). p.1) both in
      let w : a.worker ≡ b.worker = cc in
      let rank : (since a).place ≡ (since b).place = sym x.rank ∙ (λ i. length (went_to (w i) (take (e i) log))) ∙ y.rank in
      let owner : Some a.ends ≡ Some b.ends = sym a.theirs ∙ ap (slice_get ess) w ∙ b.theirs in
      let es : a.ends ≡ b.ends = cc in
      let is : IsAttempt a.ends b.message b.part b.attempt b.one = subst (λ (l : List MessageEnd). IsAttempt l b.message b.part b.attempt b.one) (sym es) b.is in
      let at : slice_get (get_or heard a.worker []) (since a).place ≡ Some b.reply = (λ i. slice_get (get_or heard (w i) []) (rank i)) ∙ (since b).there in
      let one = (hears a).apart a.message a.part a.attempt b.message b.part b.attempt (since a).place a.one b.one a.reply b.reply a.is is a.has b.has (since a).there at in
      (w, one.0, one.1, one.2)

  pub rest_on : RestOn (map (λ e. e.0) log) ess
  rest_on = record {
    place = λ a. (entry a).place;
    there = λ a. slice_get-map (λ e. e.0) log (entry a).place ∙ ap (option_map (λ e. e.0)) (entry a).there;
    number = λ a. ((hears a).answered a.message a.part a.attempt a.one a.reply a.is a.has).0;
    apart = are_apart;
  }

-- and in a longer list
pub rest_in : (xs ys : List Reply) (ess : List (List MessageEnd)) → IsPrefix xs ys → RestOn xs ess → RestOn ys ess
rest_in xs ys ess p r = record { place = r.place; there = λ a. in_whole xs ys (r.place a) a.reply p (r.there a); number = r.number; apart = r.apart }

-- what each worker received is a beginning of what its ring has sent, and the worker received it
abbrev AllHearOf : List (List Reply) → List (List Reply) → List (List MessageEnd) → Type 0
AllHearOf sent heard ess = (w : ℕ) (es : List MessageEnd) → slice_get ess w ≡ Some es → (w < length sent) × IsPrefix (get_or heard w []) (get_or sent w []) × Hears (get_or heard w []) es

-- what a reader promises: where its rings were new, the attempts rest on the answers of the frames that were worked, and so on
-- those of all whole frames that came
pub bind_rests : (keeps : Bool) (state : State) (begun : List ℕ) (before after : Option (List ℕ)) (old new : List (List Reply)) (held : Held) (end : ReaderEnd) (h : HandsOn keeps state begun before after old new held end)
    (heard : List (List Reply)) (ess : List (List MessageEnd)) → ((w : ℕ) → get_or old w [] ≡ []) → AllHearOf new heard ess → RestOn (answers (h.worked ++ h.others)) ess
bind_rests keeps state begun before after old new held end h heard ess none all =
    let entries = log h.deeds in
    let hear : AllHear entries heard ess = λ w es at.
    let x = all w es at in
    let low : w < length old = let n = x.0 in let m = ap length h.hands in let l = length-handed old entries in omega arith in
    let sent : get_or new w [] ≡ went_to w entries = ap (λ l. get_or l w []) h.hands ∙ handed-at old entries w low ∙ ap (λ l. l ++ went_to w entries) (none w) in
    (subst (λ (l : List Reply). IsPrefix (get_or heard w []) l) sent x.1, x.2)
    in
    rest_in (map (λ e. e.0) entries) (answers (h.worked ++ h.others)) ess h.prefix (rest_on entries heard ess hear)

-- what a worker promises of its replies, from an empty ring on
pub hears_of : (rules : Rules) (before : ℕ) (received : List Reply) (ms : List Message) (es : List MessageEnd) → length es ≤ length ms → AllTold rules before received ms es → PlacesApart received es → Hears received es
hears_of rules before received ms es long told places = record { answered = one; apart = places }
  where
    one : (k p i : ℕ) (a : Attempt) (r : Reply) → IsAttempt es k p i a → a.reply ≡ Some r → (r.number ≡ a.number) × HeardSince 0 received r
    one k p i a r here is =
        let e = end_at es k p here.segment here.there in
        let low = get_low es k e.0 e.1 in
        let m = get_there ms k (omega arith) in
        let t = told k p m.0 here.segment m.1 here.there in
        let x = all_at (IsAnswered before received) here.segment.attempts i a t.answered here.has r is in
        (x.0, record { place = x.1.place; since = omega arith; there = x.1.there })

abbrev Producers : Type 0
Producers = List (Producer Reply Global AnyItems)

abbrev Consumers : Type 0
Consumers = List (Consumer Reply Global AnyItems)

-- ring by ring and worker by worker
all_hear : (ps : Producers) (cs : Consumers) (ess : List (List MessageEnd)) → AllZip HasReceived ps cs → AllZip (λ c es. Hears (received c) es) cs ess → AllHearOf (map sent ps) (map received cs) ess
all_hear [] [] [] r h w es at = absurd (cc)
all_hear [] [] (fs ∷ ess) r h w es at = absurd h
all_hear [] (c ∷ cs) ess r h w es at = absurd r
all_hear (p ∷ ps) [] ess r h w es at = absurd r
all_hear (p ∷ ps) (c ∷ cs) [] r h w es at = absurd h
all_hear (p ∷ ps) (c ∷ cs) (fs ∷ ess) r h zero es at =
    let e : fs ≡ es = cc in
    (omega arith, r.0, subst (λ (l : List MessageEnd). Hears (received c) l) e h.0)
all_hear (p ∷ ps) (c ∷ cs) (fs ∷ ess) r h (suc w) es at = let x = all_hear ps cs ess r.1 h.1 w es at in let low = x.0 in (omega arith, x.1, x.2)

none_sent : (rings : Producers) → AllByRecursion (λ p. sent p ≡ []) rings → (w : ℕ) → get_or (map sent rings) w [] ≡ []
none_sent [] a w = refl
none_sent (p ∷ rings) a zero = a.0
none_sent (p ∷ rings) a (suc w) = none_sent rings a.1 w

-- what stands behind other answers
behind : {X : Type 0} (ys xs : List X) (k : ℕ) → slice_get (ys ++ xs) (length ys + k) ≡ slice_get xs k
behind [] xs k = let e : 0 + k ≡ k = omega arith in ap (slice_get xs) e
behind (y ∷ ys) xs k = let e : suc (length ys) + k ≡ suc (length ys + k) = omega arith in ap (slice_get (y ∷ (ys ++ xs))) e ∙ behind ys xs k

rest_behind : (ys xs : List Reply) (ess : List (List MessageEnd)) → RestOn xs ess → RestOn (ys ++ xs) ess
rest_behind ys xs ess r = record {
  place = λ a. length ys + r.place a;
  there = λ a. behind ys xs (r.place a) ∙ r.there a;
  number = r.number;
  apart = λ a b e. r.apart a b (omega (arith, e));
}

-- of one bind: it was opened, new rings came to its reader, which handed on what it read
pub bind_is_heard : {Rd : Type 0} (turns : ℕ) (remaining : Rd → Option (List ℕ)) (mode : Mode) (told : Option (List ℕ)) (given : Reading Rd) (end : ReaderEnd) (cs : Consumers) (ess : List (List MessageEnd)) → IsOpened mode told (remaining (device given.reader)) given.bound
    → AllByRecursion (λ p. sent p ≡ []) given.rings → HasRead turns remaining given end → AllZip HasReceived end.producers.items cs → AllZip (λ c es. Hears (received c) es) cs ess → IsHeard told ess
bind_is_heard turns remaining mode told given end cs ess opened new read meet hear =
    let h = read.hands in
    let first : List ℕ = opened.bounds.0 in
    let d = opened.bounds.1 in
    let frames = h.worked ++ h.others in
    let begun = concat given.bound.frames ++ given.bound.framer in
    let whole : opened.octets ++ h.got ≡ first ++ (begun ++ h.got) =
    ap (λ l. l ++ h.got) (d.whole ∙ append_assoc first (concat given.bound.frames) given.bound.framer) ∙ append_assoc first begun h.got
    in
    let divided = frame_before first (begun ++ h.got) frames h.rest d.each.0 h.divided in
    let rests = bind_rests read.keeps given.bound.session begun (remaining (device given.reader)) read.left (map sent given.rings) (map sent end.producers.items) read.held end h (map received cs) ess (none_sent given.rings new) (all_hear end.producers.items cs ess meet hear) in
    record {
      left = read.left;
      octets = opened.octets ++ h.got;
      read = Consumes-trans told (remaining (device given.reader)) read.left opened.octets h.got opened.read h.consumed;
      replies = answers (first ∷ []) ++ answers frames;
      are = record { frames = first ∷ frames; rest = h.rest; divided = subst (λ (x : List ℕ). Division x (first ∷ frames) h.rest) (sym whole) divided; are = sym (answers_join (first ∷ []) frames) };
      rests = rest_behind (answers (first ∷ [])) (answers frames) ess rests;
    }

pub ends_within : (rules : Rules) (accounts : ℕ) (ms : List Message) (es : List MessageEnd) → AllZip (IsEndOf rules accounts) ms es → length es ≤ length ms
ends_within rules accounts [] [] z = omega arith
ends_within rules accounts [] (e ∷ es) z = absurd z
ends_within rules accounts (m ∷ ms) [] z = absurd z
ends_within rules accounts (m ∷ ms) (e ∷ es) z = let x = ends_within rules accounts ms es z.1 in omega arith

-- so of all workers
pub all_hears : {N : Type 0} (book : BookId) (rules : Rules) (js : List (ReadyState N)) (ds : List (WorkerEnd N)) → AllZip (IsWorkOf book rules) js ds → AllByRecursion (λ d. Hears (received d.consumer) d.ends.items) ds
all_hears book rules [] [] z = tt
all_hears book rules [] (d ∷ ds) z = absurd z
all_hears book rules (j ∷ js) [] z = absurd z
all_hears book rules (j ∷ js) (d ∷ ds) z =
    let p = z.0 in
    (hears_of rules _ (received d.consumer) j.messages d.ends.items (ends_within rules _ j.messages d.ends.items p.worked.ends) p.answers p.places, all_hears book rules js ds z.1)
