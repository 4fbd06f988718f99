-- Frames that were handled one after another.
use Rattle.std.proofs.Common.{◌≡◌, ◌≢◌, ◌⊎◌, ℕ, ◌+◌, ◌-◌, ◌^◌, ◌<◌, Bool, true, false, min, List, [], ◌∷◌, ◌++◌, inl, inr, get_or, length, map, drop, Option, Some, None, refl, sym, ap, ◌∙◌, subst, arith, append-nil}
use Rattle.std.specs.Prelude.{if◌then◌else◌}
use Rattle.std.specs.List.{concat}
use Rattle.std.specs.declared.io.ErrorKind.{ErrorKind}
use Rattle.sms_pdu.specs.Faults.{Counts, failures_after}
use Rattle.sms_pdu.specs.Turn.{gives_nothing}
use Rattle.std.proofs.lemmas.List.{drop_more}
use Rattle.rtrb.specs.Ring.{sent, SameProducer}
use Rattle.rtrb.specs.declared.producer.Producer.{Producer}
use Rattle.sms_session.specs.declared.session.State.{State}
use Rattle.sms_session.specs.Session.{IsBound}
use Rattle.sms_slot.specs.Rings.{handed}
use Rattle.sms_slot.proofs.Rings.{AllZip-trans, same_rings, handed-append}
use Rattle.sms_bind.specs.declared.reader_state.ReaderState.{ReaderState}
use Rattle.std.specs.Io.KnownBytes.{Keeps}
use Rattle.std.proofs.KnownBytes.{Consumes-nil}
use Rattle.sms_pdu.specs.Frame.{IsRest, IsBad}
use Rattle.sms_pdu.specs.Streams.{Stretch, Went, Leaves, Reads, going, complete, early}
use Rattle.sms_pdu.proofs.Streams.{went_none, went_more, reads_none, consumes_nothing}
use Rattle.sms_bind.specs.declared.ending.ReaderCause.{ReaderCause}
use Rattle.sms_bind.specs.declared.ending.ReaderCause.TheVariants as cause
use Rattle.sms_bind.specs.Deeds.{SuitAll, Reaches, state_after, stretch_of, broken_at, log, tallies, of_response, is_broken}
use Rattle.sms_bind.specs.Held.{Held}
use Rattle.sms_bind.specs.Follows.{Follows}
use Rattle.sms_bind.specs.ReaderStates.{Handled}
use Rattle.sms_bind.proofs.Logs.{log-append, tallies-append, counted-append, follow-append, take-append, suits-append, state-append}

pub handled_none : (s : State) (a : ReaderState) → Handled s None a a []
handled_none s a = record { deeds = []; each = tt; keeps = refl; reaches = refl; breaks = refl; rings = same_rings a.producers.items; sends = refl; room = refl; counts = refl; follows = refl }

-- nothing was handled, and the reader ends
pub handled_nothing : (s : State) (end : Option ReaderCause) (a : ReaderState) → Reaches end s s → broken_at end ≡ 0 → Handled s end a a []
handled_nothing s end a reaches quiet = record { deeds = []; each = tt; keeps = refl; reaches = reaches; breaks = sym quiet; rings = same_rings a.producers.items; sends = refl; room = refl; counts = refl; follows = refl }

-- a ring that stayed the same twice
same_on : {T A P : Type 0} (x y z : Producer T A P) → SameProducer x y → SameProducer y z → SameProducer x z
same_on x y z ((a, b, c, d), e) ((f, g, h, i), j) = ((f ∙ a, g ∙ b, h ∙ c, i ∙ d), j ∙ e)

pub handled_more : (s : State) → IsBound s → (end : Option ReaderCause) (a b c : ReaderState) (fs gs : List (List ℕ)) → Handled s None a b fs → Handled s end b c gs → Handled s end a c (fs ++ gs)
handled_more s up end a b c fs gs p q =
    let same : state_after s (fs ++ gs) ≡ state_after s gs = state-append s fs gs ∙ ap (λ (t : State). state_after t gs) p.reaches in
    let breaks = counted-append (of_response (λ response written. is_broken written)) p.deeds q.deeds in
    record {
      deeds = p.deeds ++ q.deeds;
      each = suits-append a.keeps s fs gs p.deeds q.deeds p.each (subst IsBound (sym p.reaches) up) p.breaks (subst (λ t. SuitAll a.keeps t gs q.deeds) (sym p.reaches) (subst (λ k. SuitAll k s gs q.deeds) p.keeps q.each));
      keeps = q.keeps ∙ p.keeps;
      reaches = subst (Reaches end s) (sym same) q.reaches;
      breaks = omega (arith, breaks, p.breaks, q.breaks);
      rings = AllZip-trans SameProducer same_on a.producers.items b.producers.items c.producers.items p.rings q.rings;
      sends = q.sends ∙ ap (λ ls. handed ls (log q.deeds)) p.sends ∙ sym (handed-append (map sent a.producers.items) (log p.deeds) (log q.deeds)) ∙ ap (handed (map sent a.producers.items)) (sym (log-append p.deeds q.deeds));
      room = take-append p.deeds q.deeds _ _ _ p.room q.room;
      counts = q.counts ∙ ap (λ k. tallies k q.deeds) p.counts ∙ sym (tallies-append a.counts p.deeds q.deeds);
      follows = follow-append p.deeds q.deeds a.follower b.follower c.follower p.follows q.follows;
    }

-- the reader ends after it
pub handled_ends : (s : State) (end : Option ReaderCause) (a b : ReaderState) (fs : List (List ℕ)) → Reaches end s s → broken_at end ≡ 0 → Handled s None a b fs → Handled s end a b fs
handled_ends s end a b fs reaches quiet p =
    record {
      deeds = p.deeds;
      each = p.each;
      keeps = p.keeps;
      reaches = subst (Reaches end s) (sym p.reaches) reaches;
      breaks = p.breaks ∙ sym quiet;
      rings = p.rings;
      sends = p.sends;
      room = p.room;
      counts = p.counts;
      follows = p.follows;
    }

-- ---- a list of frames

-- the frames from a place on
pub frames_from : (fs : List (List ℕ)) (i : ℕ) (f : List ℕ) → i < length fs → f ≡ get_or fs i f → concat (drop i fs) ≡ f ++ concat (drop (i + 1) fs)
frames_from fs i f low is = ap concat (drop_more fs i f low ∙ ap (λ (x : List ℕ). x ∷ drop (i + 1) fs) (sym is))

-- ---- the seat

pub follows_same : (h : Held) → Follows h h
follows_same h = record { window = refl; began = refl; most = refl }

pub follows_on : (a b c : Held) → Follows a b → Follows b c → Follows a c
follows_on a b c p q = record { window = q.window ∙ p.window; began = q.began ∙ p.began; most = q.most ∙ p.most }

-- what is left where the reader ended doesn't depend on what is held
pub leaves_end : (end : ReaderCause) (left held kept : List ℕ) → Leaves (stretch_of (Some end)) left held → Leaves (stretch_of (Some end)) left kept
leaves_end cause.Ended left held kept h = h
leaves_end cause.Unbound left held kept h = h
leaves_end cause.Lost left held kept h = h
leaves_end cause.ReadFault left held kept h = h
leaves_end cause.WriteFault left held kept h = h
leaves_end (cause.Stopped seen) left held kept h = h
leaves_end cause.Turns left held kept h = h
leaves_end cause.OutOfMemory left held kept h = h
leaves_end cause.Unstarted left held kept h = h
leaves_end cause.Silent left held kept h = h

-- octets that were not read yet stand after the others
went_beside : (P : List (List ℕ) → Type 0) (stream left more : List ℕ) → Went P stream left → Went P (stream ++ more) (left ++ more)
went_beside P stream left more w =
    let same : (fs gs : List (List ℕ)) → P fs → gs ≡ [] → P (fs ++ gs) = λ fs gs p e. subst (λ l. P (fs ++ l)) (sym e) (subst P (sym (append-nil fs)) p) in
    went_more P (λ gs. gs ≡ []) P stream left more (left ++ more) w (went_none (λ gs. gs ≡ []) (left ++ more) refl) same

-- the reader ended while it handled what had been read before
pub reads_early : (P : List (List ℕ) → Type 0) (begun left more kept : List ℕ) (r : Option (List ℕ)) (s : Stretch) → Went P begun left → s ≡ early → Reads P (begun ++ more) r r s kept
reads_early P begun left more kept r s w is =
    record {
      got = [];
      consumed = Consumes-nil r;
      left = left ++ more;
      went = subst (λ l. Went P l (left ++ more)) (sym (append-nil (begun ++ more))) (went_beside P begun left more w);
      leaves = subst (λ x. Leaves x (left ++ more) kept) (sym is) tt;
    }

-- or it handled all of it
pub reads_begun : (P : List (List ℕ) → Type 0) (begun left more : List ℕ) (r : Option (List ℕ)) → Went P begun left → left ≡ [] → IsRest more → Reads P (begun ++ more) r r going more
reads_begun P begun left more r w none rest =
    record {
      got = [];
      consumed = Consumes-nil r;
      left = more;
      went = subst (λ l. Went P l more) (sym (append-nil (begun ++ more))) (subst (λ l. Went P (begun ++ more) (l ++ more)) none (went_beside P begun left more w));
      leaves = (rest, refl);
    }

-- ---- a read that failed

-- it changes nothing, and the reader goes on or not
pub reads_failed : (s : State) (a : ReaderState) (end : Option ReaderCause) (held : List ℕ) (r t : Option (List ℕ)) → (end ≡ None) ⊎ (end ≡ Some cause.ReadFault) ⊎ (end ≡ Some cause.Silent) → Keeps r t → IsRest held → ¬ IsBad held
    → Reads (Handled s end a a) held r t (stretch_of end) held
reads_failed s a end held r t (inl e) kept rest good =
    subst (λ (x : Option ReaderCause). Reads (Handled s x a a) held r t (stretch_of x) held) (sym e) (reads_none (Handled s None a a) held held r t going (handled_none s a) (consumes_nothing r t kept) (rest, refl))
reads_failed s a end held r t (inr (inl e)) kept rest good =
    subst (λ (x : Option ReaderCause). Reads (Handled s x a a) held r t (stretch_of x) held) (sym e)
    (reads_none (Handled s (Some cause.ReadFault) a a) held held r t complete (handled_nothing s (Some cause.ReadFault) a refl refl) (consumes_nothing r t kept) (rest, good))
reads_failed s a end held r t (inr (inr e)) kept rest good =
    subst (λ (x : Option ReaderCause). Reads (Handled s x a a) held r t (stretch_of x) held) (sym e)
    (reads_none (Handled s (Some cause.Silent) a a) held held r t complete (handled_nothing s (Some cause.Silent) a refl refl) (consumes_nothing r t kept) (rest, good))

-- and it ends for no other cause
pub fails_not : (end : Option ReaderCause) (other : ReaderCause) → (end ≡ None) ⊎ (end ≡ Some cause.ReadFault) ⊎ (end ≡ Some cause.Silent) → ¬ (other ≡ cause.ReadFault) → ¬ (other ≡ cause.Silent) → end ≢ Some other
fails_not end other (inl e) read quiet is = absurd cc
fails_not end other (inr (inl e)) read quiet is = read cc
fails_not end other (inr (inr e)) read quiet is = quiet cc

-- it counts as a failure where it ends the reader for that cause
pub failed_counts : (kind : ErrorKind) (end : Option ReaderCause) (old new : ℕ) → new ≡ failures_after kind old → (gives_nothing kind ≡ true → (end ≡ None) ⊎ (end ≡ Some cause.Silent)) → (gives_nothing kind ≡ false → end ≡ Some cause.ReadFault)
    → (end ≡ Some cause.ReadFault → Counts old new) × (¬ (end ≡ Some cause.ReadFault) → new ≡ old)
failed_counts kind end old new is again fault = by_case (gives_nothing kind) is again fault
  where
    never : (end ≡ None) ⊎ (end ≡ Some cause.Silent) → end ≡ Some cause.ReadFault → ⊥
    never (inl e) f = absurd cc
    never (inr e) f = absurd cc

    by_case : (b : Bool) → new ≡ (if b then old else min (old + 1) (2 ^ 64 - 1)) → (b ≡ true → (end ≡ None) ⊎ (end ≡ Some cause.Silent)) → (b ≡ false → end ≡ Some cause.ReadFault)
        → (end ≡ Some cause.ReadFault → Counts old new) × (¬ (end ≡ Some cause.ReadFault) → new ≡ old)
    by_case true is again fault = (λ e. absurd (never (again refl) e), λ other. is)
    by_case false is again fault = (λ e. is, λ other. absurd (other (fault refl)))
