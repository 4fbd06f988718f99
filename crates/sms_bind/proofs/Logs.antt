-- The outcomes of frames: their log, their counts, and what follows them.
use Rattle.std.proofs.Common.{◌≡◌, ◌≢◌, ◌⊎◌, inl, inr, ℕ, ◌+◌, ◌≤◌, Bool, List, [], ◌∷◌, ◌++◌, length, map, Option, None, refl, sym, ap, ◌∙◌, subst, arith, append_assoc, append-nil, length-append}
use Rattle.std.specs.List.{AllByRecursion, cons_option}
use Rattle.std.proofs.lemmas.List.{map-append}
use Rattle.sms_pdu.specs.declared.reply.Reply.{Reply}
use Rattle.sms_pdu.specs.Frame.{IsFrame}
use Rattle.sms_pdu.specs.Header.{header_at_front}
use Rattle.sms_pdu.specs.Reply.{reply_in, answers}
use Rattle.sms_session.specs.declared.session.Action.{Action}
use Rattle.sms_session.specs.declared.session.Action.TheVariants as action
use Rattle.sms_session.specs.declared.session.State.{State}
use Rattle.sms_session.specs.declared.session.State.TheVariants.{BoundTx, BoundTrx, Closed as StateClosed}
use Rattle.sms_session.specs.Session.{on_table, IsBound}
use Rattle.sms_slot.specs.declared.row.Delivery.TheVariants.{Found, Overrun, Unknown}
use Rattle.sms_slot.specs.Rings.{count_handed}
use Rattle.sms_slot.proofs.Rings.{count_handed-append}
use Rattle.sms_bind.specs.declared.outcome.FrameOutcome.{FrameOutcome}
use Rattle.sms_bind.specs.declared.outcome.FrameOutcome.TheVariants.{Answer, Replied, Noted, Closed}
use Rattle.sms_bind.specs.declared.outcome.Written.TheVariants.{Sent, NoMemory, Broken}
use Rattle.sms_bind.specs.declared.counts.Counts.{Counts}
use Rattle.sms_bind.specs.Held.{Held}
use Rattle.sms_bind.specs.Deeds.{Does, SuitAll, FollowAll, TakeRoomAll, one_if, Reaches, cause_after, state_after, broken_at, entry, log, tally, tallies, counted, of_answer, of_response, is_note, overruns, misses, delivers, nacks, is_silent, is_broken}
use Rattle.sms_bind.proofs.Tables.{no_reply}

abbrev first : Reply × Option ℕ → Reply
first e = e.0

-- ---- one list of outcomes after another

pub log-append : (ds es : List FrameOutcome) → log (ds ++ es) ≡ log ds ++ log es
log-append [] es = refl
log-append (d ∷ ds) es = ap (λ l. entry d ++ l) (log-append ds es) ∙ sym (append_assoc (entry d) (log ds) (log es))

pub tallies-append : (c : Counts) (ds es : List FrameOutcome) → tallies c (ds ++ es) ≡ tallies (tallies c ds) es
tallies-append c [] es = refl
tallies-append c (d ∷ ds) es = tallies-append (tally c d) ds es

pub counted-append : (p : FrameOutcome → Bool) (ds es : List FrameOutcome) → counted p (ds ++ es) ≡ counted p ds + counted p es
counted-append p [] es = omega arith
counted-append p (d ∷ ds) es = omega (arith, counted-append p ds es)

pub follow-append : (ds es : List FrameOutcome) (a b c : Held) → FollowAll ds a b → FollowAll es b c → FollowAll (ds ++ es) a c
follow-append [] es a b c p q = subst (λ (h : Held). FollowAll es h c) p q
follow-append (d ∷ ds) es a b c (next, one, rest) q = (next, one, follow-append ds es next b c rest q)

pub state-append : (s : State) (fs gs : List (List ℕ)) → state_after s (fs ++ gs) ≡ state_after (state_after s fs) gs
state-append s [] gs = refl
state-append s (f ∷ fs) gs = state-append (on_table s (header_at_front f)).1 fs gs

-- ---- why the reader ends after an outcome

ends_by : (s t : State) → (t ≡ s) ⊎ (t ≡ StateClosed) → (d : FrameOutcome) → cause_after d t ≡ cause_after Noted t → Reaches (cause_after d t) s t × (broken_at (cause_after d t) ≡ 0)
ends_by s BoundTx (inl e) d k = rw k (e, refl)
ends_by s BoundTx (inr e) d k = absurd cc
ends_by s BoundTrx (inl e) d k = rw k (e, refl)
ends_by s BoundTrx (inr e) d k = absurd cc
ends_by s StateClosed h d k = rw k (refl, refl)

abbrev pub breaks : FrameOutcome → Bool
breaks d = of_response (λ response written. is_broken written) d

-- the next state is the same, or closed; the cause for which the reader ends says so
pub reached : (s t : State) (d : FrameOutcome) → (t ≡ s) ⊎ (t ≡ StateClosed) → Reaches (cause_after d t) s t
reached s t (Answer reply delivery) h = (ends_by s t h (Answer reply delivery) refl).0
reached s t (Replied response (Sent octets)) h = (ends_by s t h (Replied response (Sent octets)) refl).0
reached s t (Replied response (NoMemory lack)) h = (ends_by s t h (Replied response (NoMemory lack)) refl).0
reached s t (Replied response (Broken lack)) h = tt
reached s t Noted h = (ends_by s t h Noted refl).0
reached s t Closed h = (ends_by s t h Closed refl).0

pub broke : (s t : State) (d : FrameOutcome) → (t ≡ s) ⊎ (t ≡ StateClosed) → counted (of_response (λ response written. is_broken written)) (d ∷ []) ≡ broken_at (cause_after d t)
broke s t (Answer reply delivery) h = sym (ends_by s t h (Answer reply delivery) refl).1
broke s t (Replied response (Sent octets)) h = sym (ends_by s t h (Replied response (Sent octets)) refl).1
broke s t (Replied response (NoMemory lack)) h = sym (ends_by s t h (Replied response (NoMemory lack)) refl).1
broke s t (Replied response (Broken lack)) h = refl
broke s t Noted h = sym (ends_by s t h Noted refl).1
broke s t Closed h = sym (ends_by s t h Closed refl).1

-- ---- an outcome after which the reader goes on

up_by : (t : State) → cause_after Noted t ≡ None → IsBound t
up_by BoundTx e = λ k. absurd cc
up_by BoundTrx e = λ k. absurd cc
up_by StateClosed e = absurd cc

-- the session is bound after it
pub bound_after : (d : FrameOutcome) (t : State) → cause_after d t ≡ None → IsBound t
bound_after (Answer reply delivery) t e = up_by t e
bound_after (Replied response (Sent octets)) t e = up_by t e
bound_after (Replied response (NoMemory lack)) t e = up_by t e
bound_after (Replied response (Broken lack)) t e = absurd cc
bound_after Noted t e = up_by t e
bound_after Closed t e = up_by t e

none_by : (t : State) → IsBound t → cause_after Noted t ≡ None
none_by BoundTx up = refl
none_by BoundTrx up = refl
none_by StateClosed up = absurd (up refl)

-- while the session is bound, any outcome that doesn't break the wire
ends_nothing : (d : FrameOutcome) (t : State) → IsBound t → one_if (breaks d) ≡ 0 → cause_after d t ≡ None
ends_nothing (Answer reply delivery) t up e = none_by t up
ends_nothing (Replied response (Sent octets)) t up e = none_by t up
ends_nothing (Replied response (NoMemory lack)) t up e = none_by t up
ends_nothing (Replied response (Broken lack)) t up e = absurd (omega (arith, e))
ends_nothing Noted t up e = none_by t up
ends_nothing Closed t up e = none_by t up

nothing_here : (d : FrameOutcome) (t : State) (fs : List (List ℕ)) → (fs ≢ [] → cause_after d t ≡ None) → IsBound (state_after t fs) → one_if (breaks d) ≡ 0 → cause_after d t ≡ None
nothing_here d t [] on up e = ends_nothing d t up e
nothing_here d t (f ∷ fs) on up e = on (λ k. absurd cc)

-- frames after which the session is bound and the wire sound, and the frames after them
pub suits-append : (k : Bool) (s : State) (fs gs : List (List ℕ)) (ds es : List FrameOutcome) → SuitAll k s fs ds → IsBound (state_after s fs) → counted breaks ds ≡ 0 → SuitAll k (state_after s fs) gs es → SuitAll k s (fs ++ gs) (ds ++ es)
suits-append k s [] gs [] es p up none q = q
suits-append k s [] gs (d ∷ ds) es p up none q = absurd p
suits-append k s (f ∷ fs) gs [] es p up none q = absurd p
suits-append k s (f ∷ fs) gs (d ∷ ds) es (suits, on, later) up none q =
    let t = state_after s (f ∷ []) in
    let here : one_if (breaks d) ≡ 0 = omega (arith, none) in
    let there : counted breaks ds ≡ 0 = omega (arith, none) in
    (suits, (λ more. nothing_here d t fs on up here), suits-append k t fs gs ds es later up there q)

pub take-append : (ds es : List FrameOutcome) (a b c : List ℕ) → TakeRoomAll ds a b → TakeRoomAll es b c → TakeRoomAll (ds ++ es) a c
take-append [] es a b c p q = subst (λ l. TakeRoomAll es l c) p q
take-append (d ∷ ds) es a b c (next, one, rest) q = (next, one, take-append ds es next b c rest q)

-- ---- the log has the frames' answers

entry_by : (k : Bool) (a : Action) (f : List ℕ) (d : FrameOutcome) (rest : List Reply) → (a ≢ action.Answer → reply_in f ≡ None) → Does k a f d → map first (entry d) ++ rest ≡ cons_option (reply_in f) rest
entry_by k action.Answer f d rest other (reply, delivery, is, deed) = rw (deed, is) refl
entry_by k (action.Reply response) f d rest other a = let (written, deed, how) = a.responded in rw (deed, other (λ e. absurd cc)) refl
entry_by k (action.ReplyClose response) f d rest other a = let (written, deed, how) = a.responded in rw (deed, other (λ e. absurd cc)) refl
entry_by k action.Note f d rest other does = rw (does, other (λ e. absurd cc)) refl
entry_by k action.Close f d rest other does = rw (does, other (λ e. absurd cc)) refl
entry_by k action.Drop f d rest other does = rw (does, other (λ e. absurd cc)) refl

pub log_answers : (k : Bool) (s : State) (fs : List (List ℕ)) (ds : List FrameOutcome) → (fs ≢ [] → IsBound s) → AllByRecursion IsFrame fs → SuitAll k s fs ds → map first (log ds) ≡ answers fs
log_answers k s [] [] up each all = refl
log_answers k s [] (d ∷ ds) up each all = absurd all
log_answers k s (f ∷ fs) [] up each all = absurd all
log_answers k s (f ∷ fs) (d ∷ ds) up each (suits, on, later) =
    let long : 16 ≤ length f = each.0.good.least in
    let t = state_after s (f ∷ []) in
    map-append first (entry d) (log ds)
    ∙ ap (λ l. map first (entry d) ++ l) (log_answers k t fs ds (λ more. bound_after d t (on more)) each.1 later)
    ∙ entry_by k (on_table s (header_at_front f)).0 f d (answers fs) (no_reply s f (up (λ e. absurd cc)) long) suits

-- ---- the counts

-- what a list of outcomes adds to each count
pub record Adds (ds : List FrameOutcome) (old new : Counts) : Type 0 where
  pub answered : new.answered ≡ old.answered + count_handed (log ds)
  pub unknown : new.unknown ≡ old.unknown + counted (of_answer misses) ds
  pub overrun : new.overrun ≡ old.overrun + counted (of_answer overruns) ds
  pub all : new.answered + new.unknown + new.overrun ≡ old.answered + old.unknown + old.overrun + length (log ds)
  pub delivered : new.delivered ≡ old.delivered + counted (of_response (λ response written. delivers response)) ds
  pub noted : new.noted ≡ old.noted + counted is_note ds
  pub nacked : new.nacked ≡ old.nacked + counted (of_response nacks) ds
  pub unreplied : new.unreplied ≡ old.unreplied + counted (of_response (λ response written. is_silent written)) ds

none_added : (c : Counts) → Adds [] c c
none_added c = record { answered = omega arith; unknown = omega arith; overrun = omega arith; all = omega arith; delivered = omega arith; noted = omega arith; nacked = omega arith; unreplied = omega arith }

one_added : (c : Counts) (d : FrameOutcome) → Adds (d ∷ []) c (tally c d)
one_added c (Answer reply (Found slot worker)) = record { answered = omega arith; unknown = omega arith; overrun = omega arith; all = omega arith; delivered = omega arith; noted = omega arith; nacked = omega arith; unreplied = omega arith }
one_added c (Answer reply (Overrun slot worker)) = record { answered = omega arith; unknown = omega arith; overrun = omega arith; all = omega arith; delivered = omega arith; noted = omega arith; nacked = omega arith; unreplied = omega arith }
one_added c (Answer reply Unknown) = record { answered = omega arith; unknown = omega arith; overrun = omega arith; all = omega arith; delivered = omega arith; noted = omega arith; nacked = omega arith; unreplied = omega arith }
one_added c (Replied response (Sent octets)) = record { answered = omega arith; unknown = omega arith; overrun = omega arith; all = omega arith; delivered = omega arith; noted = omega arith; nacked = omega arith; unreplied = omega arith }
one_added c (Replied response (NoMemory lack)) = record { answered = omega arith; unknown = omega arith; overrun = omega arith; all = omega arith; delivered = omega arith; noted = omega arith; nacked = omega arith; unreplied = omega arith }
one_added c (Replied response (Broken lack)) = record { answered = omega arith; unknown = omega arith; overrun = omega arith; all = omega arith; delivered = omega arith; noted = omega arith; nacked = omega arith; unreplied = omega arith }
one_added c Noted = record { answered = omega arith; unknown = omega arith; overrun = omega arith; all = omega arith; delivered = omega arith; noted = omega arith; nacked = omega arith; unreplied = omega arith }
one_added c Closed = record { answered = omega arith; unknown = omega arith; overrun = omega arith; all = omega arith; delivered = omega arith; noted = omega arith; nacked = omega arith; unreplied = omega arith }

pub tallies_add : (c : Counts) (ds : List FrameOutcome) → Adds ds c (tallies c ds)
tallies_add c [] = none_added c
tallies_add c (d ∷ ds) =
    let one = one_added c d in
    let more = tallies_add (tally c d) ds in
    let joins : (p : FrameOutcome → Bool) → counted p (d ∷ ds) ≡ counted p (d ∷ []) + counted p ds = λ p. counted-append p (d ∷ []) ds in
    let entries : entry d ++ [] ≡ entry d = append-nil (entry d) in
    let single : length (log (d ∷ [])) ≡ length (entry d) = ap length entries in
    let taken : count_handed (log (d ∷ [])) ≡ count_handed (entry d) = ap count_handed entries in
    let both : length (log (d ∷ ds)) ≡ length (entry d) + length (log ds) = length-append (entry d) (log ds) in
    let handed : count_handed (log (d ∷ ds)) ≡ count_handed (entry d) + count_handed (log ds) = count_handed-append (entry d) (log ds) in
    record {
      answered = omega (arith, one.answered, more.answered, handed, taken);
      unknown = omega (arith, one.unknown, more.unknown, joins (of_answer misses));
      overrun = omega (arith, one.overrun, more.overrun, joins (of_answer overruns));
      all = omega (arith, one.all, more.all, both, single);
      delivered = omega (arith, one.delivered, more.delivered, joins (of_response (λ response written. delivers response)));
      noted = omega (arith, one.noted, more.noted, joins is_note);
      nacked = omega (arith, one.nacked, more.nacked, joins (of_response nacks));
      unreplied = omega (arith, one.unreplied, more.unreplied, joins (of_response (λ response written. is_silent written)));
    }
