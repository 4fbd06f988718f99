use Rattle.std.proofs.Common.{sym, ◌≡◌, ◌-◌, [], Option, None, Some, refl, ap, ◌∙◌, subst, rules, arith}
use Rattle.std.proofs.KnownBytes.{Consumes-nil}
use Rattle.sms_pdu.specs.Devices.{device, faults_of}
use Rattle.sms_pdu.specs.Streams.{Reads, going, complete, early}
use Rattle.sms_pdu.proofs.Streams.{short_rest, reads_none, reads_more, reads_ends, reads_ended, reads_rest}
use Rattle.sms_pdu.proofs.Turns.{turned_none, turned_begins, turned_more, turned_last, turned_stops, turned_all, counted_later, counted_once}
use Rattle.sms_bind.specs.declared.ending.ReaderCause.{ReaderCause}
use Rattle.sms_bind.specs.declared.ending.ReaderCause.TheVariants.{OutOfMemory, Stopped, Turns}
use Rattle.sms_bind.specs.Deeds.{stretch_of}
use Rattle.sms_bind.specs.ReaderStates.{Handled}
use Rattle.sms_bind.proofs.Handling.{handled_none, handled_nothing, handled_more, handled_ends, leaves_end, follows_same, follows_on}
use Rattle.sms_session.specs.Session.{IsBound}
use Rattle.sms_bind.specs.Turns.{TookTurns}
use Rattle.sms_bind.proofs.Turning.{stops_before, took_more, took_none}
use Rattle.sms_bind.proofs.reader_state.ReaderState.read_turns.Goals as goal

pub returns-in_default-clause-reads : goal.returns-in_default-clause-reads
returns-in_default-clause-reads g c =
    let r = g.R.Read.remaining (device c.args.reader.now) in
    let a = c.args.self.now in
    let s = a.session in
    reads_none (Handled s (Some OutOfMemory) a a) c.args.held.items [] r r early (handled_nothing s (Some OutOfMemory) a refl refl) (Consumes-nil r) tt

pub loop-turn-init : goal.loop-turn-init
loop-turn-init g c =
    let r = g.R.Read.remaining (device c.args.reader.now) in
    let a = c.args.self.now in
    let held = c.args.held.items in
    record {
      follows = follows_same a.follower;
      same = refl;
      within = c.requires.reading.ready.within;
      keeps = refl;
      reads = reads_none (Handled a.session None a a) held held r r going (handled_none a.session a) (Consumes-nil r) (c.requires.reading.rest, refl);
      turned = turned_begins _ _;
      took = λ room. took_none _ _;
      faults = omega arith;
      failures = refl;
      piece = search rules;
      good = c.requires.reading.good;
      room = (let h = short_rest held c.requires.reading.rest c.requires.reading.good in omega (arith, h));
    }

pub returns-in-Some-clause-reads : goal.returns-in-Some-clause-reads
returns-in-Some-clause-reads g c =
    let r = g.R.Read.remaining (device c.args.reader.now) in
    let t = g.R.Read.remaining (device c.loop-turn.reader) in
    let a = c.args.self.now in
    let b = c.loop-turn.self in
    let s = a.session in
    let held = c.loop-turn.held.items in
    let i = c.loop-turn.invariant in
    reads_ends (Handled s None a b) (Handled s (Some (Stopped c.in-Some.seen)) a b) c.args.held.items held [] r t complete i.reads (λ fs w. handled_ends s (Some (Stopped c.in-Some.seen)) a b fs refl refl w)
    (reads_rest (Handled s None a b) c.args.held.items held r t i.reads, i.good)

pub returns-clause-reads : goal.returns-clause-reads
returns-clause-reads g c =
    let r = g.R.Read.remaining (device c.args.reader.now) in
    let t = g.R.Read.remaining (device c.loop-turn.reader) in
    let a = c.args.self.now in
    let b = c.loop-turn.self in
    let s = a.session in
    let held = c.loop-turn.held.items in
    let i = c.loop-turn.invariant in
    reads_ends (Handled s None a b) (Handled s (Some Turns) a b) c.args.held.items held [] r t complete i.reads (λ fs w. handled_ends s (Some Turns) a b fs refl refl w)
    (reads_rest (Handled s None a b) c.args.held.items held r t i.reads, i.good)

pub returns-in-Some-turn-clause-reads : goal.returns-in-Some-turn-clause-reads
returns-in-Some-turn-clause-reads g c =
    let r = g.R.Read.remaining (device c.args.reader.now) in
    let t = g.R.Read.remaining (device c.loop-turn.reader) in
    let u = g.R.Read.remaining (device c.turn.new.reader) in
    let i = c.loop-turn.invariant in
    let a = c.args.self.now in
    let b = c.loop-turn.self in
    let d = c.turn.new.self in
    let s = a.session in
    let begun = c.args.held.items in
    let held = c.loop-turn.held.items in
    let kept = c.turn.new.held.items in
    let end : Option ReaderCause = Some c.in-Some-turn.cause in
    let one = subst (λ x. Reads (Handled x end b d) held t u (stretch_of end) kept) i.same c.in-Some-turn.ensures.reads in
    reads_ended (Handled s end a d) begun kept [] r u (stretch_of end)
    (reads_more (Handled s None a b) (Handled s end b d) (Handled s end a d) begun held kept r t u (stretch_of end) i.reads one (λ fs gs p q. handled_more s c.requires.reading.ready.bound end a b d fs gs p q))
    (λ left. leaves_end c.in-Some-turn.cause left kept [])

pub loop-turn-preserved : goal.loop-turn-preserved
loop-turn-preserved g c =
    let r = g.R.Read.remaining (device c.args.reader.now) in
    let t = g.R.Read.remaining (device c.loop-turn.reader) in
    let u = g.R.Read.remaining (device c.turn.new.reader) in
    let i = c.loop-turn.invariant in
    let a = c.args.self.now in
    let b = c.loop-turn.self in
    let d = c.turn.new.self in
    let s = a.session in
    let begun = c.args.held.items in
    let held = c.loop-turn.held.items in
    let kept = c.turn.new.held.items in
    let one = subst (λ x. Reads (Handled x None b d) held t u going kept) i.same c.in_default-turn.ensures.reads in
    record {
      follows = follows_on a.follower b.follower d.follower i.follows c.turn.ensures.follows;
      same = (c.in_default-turn.ensures.going refl).session ∙ i.same;
      within = c.turn.ensures.same.0;
      keeps = c.turn.ensures.same.2 ∙ i.keeps;
      reads = reads_more (Handled s None a b) (Handled s None b d) (Handled s None a d) begun held kept r t u going i.reads one (λ fs gs p q. handled_more s c.requires.reading.ready.bound None a b d fs gs p q);
      turned = turned_more c.loop-turn._turn _ _ _ _ _ _ _ c.in_default-turn.ensures.read.grows i.turned c.in_default-turn.ensures.read.turned refl;
      took = took_more c.loop-turn._turn _ _ _ _ _ _ i.faults c.in_default-turn.ensures.read.grows i.took (λ room. c.in_default-turn.ensures.read.took room refl);
      faults = (let f = c.in_default-turn.ensures.read.grows in let h = i.faults in omega (arith, f, h));
      failures = c.in_default-turn.ensures.read.no_failure (λ e. absurd cc) ∙ i.failures;
      piece = c.turn.ensures.same.1;
      good = (c.in_default-turn.ensures.going refl).good;
      room = (let n = (c.in_default-turn.ensures.going refl).room in let m = i.room in omega (arith, n, m));
    }

pub turn-requires-clause-reading : goal.turn-requires-clause-reading
turn-requires-clause-reading g c =
    let i = c.loop-turn.invariant in
    record {
      ready = record { bound = subst IsBound (sym i.same) c.requires.reading.ready.bound; within = i.within; keeps = i.keeps ∙ c.requires.reading.ready.keeps ∙ sym i.reads.went.done.keeps };
      rest = reads_rest (Handled c.args.self.now.session None c.args.self.now c.loop-turn.self) c.args.held.items c.loop-turn.held.items (g.R.Read.remaining (device c.args.reader.now)) (g.R.Read.remaining (device c.loop-turn.reader)) i.reads;
      good = i.good;
    }

-- no memory for the piece: no turn was taken
pub returns-in_default-clause-read : goal.returns-in_default-clause-read
returns-in_default-clause-read g c = record {
  turned = turned_none _ _ _ _ (λ e. absurd cc);
  took = λ room e. absurd cc;
  errors_counted = refl;
  grows = omega arith;
  stopped = λ seen e. absurd cc;
  end = λ e. absurd cc;
  fault = λ e. absurd cc;
  failed = λ e. absurd cc;
  no_failure = λ other. refl;
}

pub returns-in-Some-clause-read : goal.returns-in-Some-clause-read
returns-in-Some-clause-read g c =
    let i = c.loop-turn.invariant in
    record {
      turned = turned_stops c.loop-turn._turn _ _ _ _ _ _ (search rules) (λ e. absurd cc) i.turned;
      took = λ room e. absurd cc;
      errors_counted = refl;
      grows = i.faults;
      stopped = λ seen e. stops_before c.loop-turn._turn _ _ _ _ _ (search rules) i.turned;
      end = λ e. absurd cc;
      fault = λ e. absurd cc;
      failed = λ e. absurd cc;
      no_failure = λ other. i.failures;
    }

pub returns-in-Some-turn-clause-read : goal.returns-in-Some-turn-clause-read
returns-in-Some-turn-clause-read g c =
    let i = c.loop-turn.invariant in
    let q = c.in-Some-turn.ensures.read in
    record {
      turned = turned_last c.loop-turn._turn _ _ _ _ _ _ _ _ _ (search rules) i.turned q.turned (λ e. c.in-Some-turn.ensures.cause.1 (ap (λ x. Some x) e));
      took = λ room e. absurd (c.in-Some-turn.ensures.cause.1 (ap (λ x. Some x) e));
      errors_counted = refl;
      grows = (let h = i.faults in let k = q.grows in omega (arith, h, k));
      stopped = λ seen e. absurd (c.in-Some-turn.ensures.cause.0 seen (ap (λ x. Some x) e));
      end = λ e. q.end (ap (λ x. Some x) e);
      fault = λ e. counted_later (faults_of c.args.reader.now) (faults_of c.loop-turn.reader) (faults_of c.turn.new.reader) i.faults q.grows (q.fault (ap (λ x. Some x) e));
      failed = λ e. counted_once _ _ _ i.failures (q.failed (ap (λ x. Some x) e));
      no_failure = λ other. q.no_failure (λ e. other cc) ∙ i.failures;
    }

-- the turns were used up
pub returns-clause-read : goal.returns-clause-read
returns-clause-read g c =
    let i = c.loop-turn.invariant in
    record {
      turned = turned_all c.loop-turn._turn _ _ _ _ _ _ (search rules) i.turned;
      took = λ room e.
          let all : c.loop-turn._turn ≡ c.args.turns = search rules in
          subst (λ n. TookTurns n (faults_of c.loop-turn.reader - faults_of c.args.reader.now) (g.R.Read.remaining (device c.args.reader.now)) (g.R.Read.remaining (device c.loop-turn.reader))) all
          (i.took (omega (arith, all, room)));
      errors_counted = refl;
      grows = i.faults;
      stopped = λ seen e. absurd cc;
      end = λ e. absurd cc;
      fault = λ e. absurd cc;
      failed = λ e. absurd cc;
      no_failure = λ other. i.failures;
    }

pub returns-in-Some-turn-clause-silent : goal.returns-in-Some-turn-clause-silent
returns-in-Some-turn-clause-silent g c = λ e. c.in-Some-turn.ensures.watched.silent (ap (λ x. Some x) e)
