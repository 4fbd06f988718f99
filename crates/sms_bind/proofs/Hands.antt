-- What was handled of a stream, as the contract of the reader says it.
use Rattle.std.proofs.Common.{◌≡◌, ◌≢◌, ◌↔◌, ℕ, Bool, List, [], ◌++◌, inr, map, Option, Some, refl, sym, ap, ◌∙◌, subst, arith}
use Rattle.std.proofs.KnownBytes.{Consumes-nil}
use Rattle.rtrb.specs.Ring.{sent, known_free}
use Rattle.sms_pdu.specs.declared.reply.Reply.{Reply}
use Rattle.sms_pdu.specs.Frame.{IsRest, IsBad}
use Rattle.sms_pdu.specs.Reply.{answers}
use Rattle.sms_pdu.specs.Streams.{Stretch, Reads, Leaves, going, complete, lost, early}
use Rattle.sms_pdu.proofs.Divisions.{each_divided, answers_join}
use Rattle.sms_pdu.proofs.Streams.{rest_divided, division_after}
use Rattle.sms_session.specs.declared.session.State.{State}
use Rattle.sms_session.specs.Session.{IsBound}
use Rattle.sms_bind.specs.declared.reader_state.ReaderState.{ReaderState}
use Rattle.sms_bind.specs.declared.outcome.FrameOutcome.{FrameOutcome}
use Rattle.sms_bind.specs.declared.counts.Counts.{Counts}
use Rattle.sms_bind.specs.declared.ending.ReaderCause.{ReaderCause}
use Rattle.sms_bind.specs.declared.ending.ReaderCause.TheVariants as cause
use Rattle.sms_bind.specs.declared.ending.ReaderEnd.{ReaderEnd}
use Rattle.sms_bind.specs.Held.{Held}
use Rattle.sms_bind.specs.Deeds.{Reaches, stretch_of, broken_at, no_counts, tallies}
use Rattle.sms_bind.specs.ReaderStates.{Handled}
use Rattle.sms_bind.specs.Ends.{HandsOn, LeavesRoom, Tells}
use Rattle.sms_bind.proofs.Logs.{log_answers, tallies_add}

-- all whole frames were handled, unless the reading ended early
rest_left : (s : Stretch) (left held : List ℕ) → s ≢ early → Leaves s left held → IsRest left
rest_left going left held late h = h.0
rest_left complete left held late h = h.0
rest_left lost left held late h = inr (inr h)
rest_left early left held late h = absurd (late refl)

-- and a bad length is left iff the reader ended for it
lost_where : (end : ReaderCause) (left held : List ℕ) → stretch_of (Some end) ≢ early → Leaves (stretch_of (Some end)) left held → (end ≡ cause.Lost) ↔ IsBad left
lost_where cause.Ended left held late h = (λ e. absurd cc, λ bad. absurd (h.1 bad))
lost_where cause.Unbound left held late h = absurd (late refl)
lost_where cause.Lost left held late h = (λ e. h, λ bad. refl)
lost_where cause.ReadFault left held late h = (λ e. absurd cc, λ bad. absurd (h.1 bad))
lost_where cause.WriteFault left held late h = absurd (late refl)
lost_where (cause.Stopped seen) left held late h = (λ e. absurd cc, λ bad. absurd (h.1 bad))
lost_where cause.Turns left held late h = (λ e. absurd cc, λ bad. absurd (h.1 bad))
lost_where cause.OutOfMemory left held late h = absurd (late refl)
lost_where cause.Unstarted left held late h = absurd (late refl)
lost_where cause.Silent left held late h = (λ e. absurd cc, λ bad. absurd (h.1 bad))

-- the counts that began at 0
tells : (ds : List FrameOutcome) (c : Counts) (end : ReaderEnd) → c ≡ tallies no_counts ds
    → end.answered ≡ c.answered → end.unknown ≡ c.unknown → end.overrun ≡ c.overrun → end.delivered ≡ c.delivered → end.noted ≡ c.noted → end.nacked ≡ c.nacked → end.unreplied ≡ c.unreplied
    → Tells ds end
tells ds c end is e1 e2 e3 e4 e5 e6 e7 =
    let t = tallies_add no_counts ds in
    let k1 = ap (λ (x : Counts). x.answered) is in
    let k2 = ap (λ (x : Counts). x.unknown) is in
    let k3 = ap (λ (x : Counts). x.overrun) is in
    let k4 = ap (λ (x : Counts). x.delivered) is in
    let k5 = ap (λ (x : Counts). x.noted) is in
    let k6 = ap (λ (x : Counts). x.nacked) is in
    let k7 = ap (λ (x : Counts). x.unreplied) is in
    record {
      answered = omega (arith, t.answered, e1, k1);
      unknown = omega (arith, t.unknown, e2, k2);
      overrun = omega (arith, t.overrun, e3, k3);
      all = omega (arith, t.all, e1, e2, e3, k1, k2, k3);
      delivered = omega (arith, t.delivered, e4, k4);
      noted = omega (arith, t.noted, e5, k5);
      nacked = omega (arith, t.nacked, e6, k6);
      unreplied = omega (arith, t.unreplied, e7, k7);
    }

-- the end that is put together of what the reader_state holds
abbrev pub end_of : ReaderState → ℕ → ReaderCause → ReaderEnd
end_of d errors cause = record { answered = d.counts.answered; unknown = d.counts.unknown; overrun = d.counts.overrun; delivered = d.counts.delivered; noted = d.counts.noted; nacked = d.counts.nacked; unreplied = d.counts.unreplied; errors = errors; cause = cause; producers = d.producers; seat = d.follower.now }

pub hands_on : (s : State) (a b : ReaderState) (begun kept : List ℕ) (r t : Option (List ℕ)) (errors : ℕ) (end : ReaderCause) → IsBound s → a.counts ≡ no_counts
    → Reads (Handled s (Some end) a b) begun r t (stretch_of (Some end)) kept
    → HandsOn a.keeps s begun r t (map sent a.producers.items) (map sent b.producers.items) a.follower (end_of b errors end)
hands_on s a b begun kept r t errors end up none p =
    let w = p.went in
    let d = each_divided p.left in
    let left = λ (late : stretch_of (Some end) ≢ early). rest_divided p.left d.frames d.rest (rest_left (stretch_of (Some end)) p.left kept late p.leaves) d.divided in
    let ds = w.done.deeds in
    let same = log_answers a.keeps s w.frames ds (λ more. up) w.each w.done.each in
    record {
      got = p.got;
      consumed = p.consumed;
      worked = w.frames;
      others = d.frames;
      rest = d.rest;
      divided = division_after (begun ++ p.got) p.left w.frames d.frames d.rest w.whole w.each d.divided;
      whole = λ late. (left late).0;
      lost = λ late. subst (λ l. (end ≡ cause.Lost) ↔ IsBad l) (sym (left late).1) (lost_where end p.left kept late p.leaves);
      deeds = ds;
      each = w.done.each;
      reaches = w.done.reaches;
      breaks = w.done.breaks;
      are = same;
      prefix = (answers d.frames, ap (λ l. l ++ answers d.frames) same ∙ sym (answers_join w.frames d.frames));
      hands = w.done.sends;
      counts = tells ds b.counts (end_of b errors end) (w.done.counts ∙ ap (λ (k : Counts). tallies k ds) none) refl refl refl refl refl refl refl;
      last = b.follower;
      follows = w.done.follows;
      seat = refl;
    }

-- and the room of the rings
pub leaves_room : (s : State) (a b : ReaderState) (begun kept : List ℕ) (r t : Option (List ℕ)) (errors : ℕ) (end : ReaderCause) → a.counts ≡ no_counts
    → Reads (Handled s (Some end) a b) begun r t (stretch_of (Some end)) kept
    → LeavesRoom (map sent a.producers.items) (map sent b.producers.items) (map known_free a.producers.items) (map known_free b.producers.items) (end_of b errors end)
leaves_room s a b begun kept r t errors end none p =
    let w = p.went.done in
    record {
      deeds = w.deeds;
      hands = w.sends;
      counts = tells w.deeds b.counts (end_of b errors end) (w.counts ∙ ap (λ (k : Counts). tallies k w.deeds) none) refl refl refl refl refl refl refl;
      room = w.room;
    }

-- nothing was read or handled
pub hands_none : (k : Bool) (s : State) (begun : List ℕ) (r : Option (List ℕ)) (rings : List (List Reply)) (held : Held) (end : ReaderEnd) → end.cause ≡ cause.OutOfMemory
    → end.answered ≡ 0 → end.unknown ≡ 0 → end.overrun ≡ 0 → end.delivered ≡ 0 → end.noted ≡ 0 → end.nacked ≡ 0 → end.unreplied ≡ 0 → end.seat ≡ held.now
    → HandsOn k s begun r r rings rings held end
hands_none k s begun r rings held end is e1 e2 e3 e4 e5 e6 e7 seat =
    let d = each_divided (begun ++ []) in
    record {
      got = [];
      consumed = Consumes-nil r;
      worked = [];
      others = d.frames;
      rest = d.rest;
      divided = d.divided;
      whole = λ late. absurd (late (ap (λ x. stretch_of (Some x)) is));
      lost = λ late. absurd (late (ap (λ x. stretch_of (Some x)) is));
      deeds = [];
      each = tt;
      reaches = subst (λ x. Reaches (Some x) s s) (sym is) refl;
      breaks = sym (ap (λ x. broken_at (Some x)) is);
      are = refl;
      prefix = (answers d.frames, refl);
      hands = refl;
      counts = tells [] no_counts end refl e1 e2 e3 e4 e5 e6 e7;
      last = held;
      follows = refl;
      seat = seat;
    }

pub leaves_room_none : (rings : List (List Reply)) (room : List ℕ) (end : ReaderEnd)
    → end.answered ≡ 0 → end.unknown ≡ 0 → end.overrun ≡ 0 → end.delivered ≡ 0 → end.noted ≡ 0 → end.nacked ≡ 0 → end.unreplied ≡ 0
    → LeavesRoom rings rings room room end
leaves_room_none rings room end e1 e2 e3 e4 e5 e6 e7 = record { deeds = []; hands = refl; counts = tells [] no_counts end refl e1 e2 e3 e4 e5 e6 e7; room = refl }
