use Rattle.std.proofs.Common.{◌≡◌, [], None, Some, refl, ap, ◌∙◌, rules, arith, inl}
use Rattle.std.proofs.KnownBytes.{Consumes-nil}
use Rattle.sms_pdu.specs.Devices.{device}
use Rattle.sms_pdu.specs.Frame.{IsRest}
use Rattle.sms_pdu.specs.Streams.{early, going}
use Rattle.sms_pdu.proofs.Streams.{reads_none, reads_more, reads_rest}
use Rattle.sms_pdu.proofs.Turns.{turned_none, turned_begins, turned_more, turned_last, turned_all, counted_once}
use Rattle.sms_centre.specs.declared.serving.Stop.TheVariants.{OutOfMemory}
use Rattle.sms_centre.specs.Stops.{Written, stretch_of}
use Rattle.sms_centre.proofs.Talks.{written_none, written_more, none_good, reads_turns}
use Rattle.sms_centre.proofs.centre.Centre.serve_turns.Goals as goal

pub returns-in_default-clause-served : goal.returns-in_default-clause-served
returns-in_default-clause-served g c =
    let p = c.args.self.now in
    let w = g.W.Write.contents (device c.args.writer.now) in
    let r = g.R.Read.remaining (device c.args.reader.now) in
    ([], reads_none (Written p p (Some OutOfMemory) w w) [] [] r r early (written_none p (Some OutOfMemory) w refl refl) (Consumes-nil r) tt)

pub loop-turn-init : goal.loop-turn-init
loop-turn-init g c =
    let p = c.args.self.now in
    let w = g.W.Write.contents (device c.args.writer.now) in
    let r = g.R.Read.remaining (device c.args.reader.now) in
    let none : c.in-Ok.buffers.held.items ≡ [] = search rules in
    let short : IsRest [] = inl (omega arith) in
    record {
      reads = reads_none (Written p p None w w) [] c.in-Ok.buffers.held.items r r going (written_none p None w refl refl) (Consumes-nil r) (short, none);
      good = none_good c.in-Ok.buffers.held.items none;
      turned = turned_begins _ _;
      faults = omega arith;
      failures = refl;
      wrote = refl;
      piece = search rules;
    }

pub serve_turn-requires-clause-rest : goal.serve_turn-requires-clause-rest
serve_turn-requires-clause-rest g c =
    reads_rest (Written c.args.self.now c.loop-turn.self None (g.W.Write.contents (device c.args.writer.now)) (g.W.Write.contents (device c.loop-turn.writer))) [] c.loop-turn.buffers.held.items (g.R.Read.remaining (device c.args.reader.now)) (g.R.Read.remaining (device c.loop-turn.reader)) c.loop-turn.invariant.reads

pub returns-in-Some-clause-served : goal.returns-in-Some-clause-served
returns-in-Some-clause-served g c =
    let p = c.args.self.now in
    let q = c.loop-turn.self in
    let z = c.serve_turn.new.self in
    let u = g.W.Write.contents (device c.args.writer.now) in
    let v = g.W.Write.contents (device c.loop-turn.writer) in
    let w = g.W.Write.contents (device c.serve_turn.new.writer) in
    let r = g.R.Read.remaining (device c.args.reader.now) in
    let s = g.R.Read.remaining (device c.loop-turn.reader) in
    let t = g.R.Read.remaining (device c.serve_turn.new.reader) in
    let why = Some c.in-Some.stop in
    let kept = c.serve_turn.new.buffers.held.items in
    (kept, reads_more (Written p q None u v) (Written q z why v w) (Written p z why u w) [] c.loop-turn.buffers.held.items kept r s t (stretch_of why) c.loop-turn.invariant.reads c.in-Some.ensures.reads (written_more p q z why u v w))

pub loop-turn-preserved : goal.loop-turn-preserved
loop-turn-preserved g c =
    let p = c.args.self.now in
    let q = c.loop-turn.self in
    let z = c.serve_turn.new.self in
    let u = g.W.Write.contents (device c.args.writer.now) in
    let v = g.W.Write.contents (device c.loop-turn.writer) in
    let w = g.W.Write.contents (device c.serve_turn.new.writer) in
    let r = g.R.Read.remaining (device c.args.reader.now) in
    let s = g.R.Read.remaining (device c.loop-turn.reader) in
    let t = g.R.Read.remaining (device c.serve_turn.new.reader) in
    let kept = c.serve_turn.new.buffers.held.items in
    record {
      reads = reads_more (Written p q None u v) (Written q z None v w) (Written p z None u w) [] c.loop-turn.buffers.held.items kept r s t going c.loop-turn.invariant.reads c.in_default-serve_turn.ensures.reads (written_more p q z None u v w);
      good = c.in_default-serve_turn.ensures.good refl;
      turned = turned_more c.loop-turn._turn _ _ _ _ _ _ _ c.serve_turn.ensures.read.grows c.loop-turn.invariant.turned c.in_default-serve_turn.ensures.read.turned refl;
      faults = (let f = c.serve_turn.ensures.read.grows in let h = c.loop-turn.invariant.faults in omega (arith, f, h));
      failures = c.in_default-serve_turn.ensures.read.quiet (λ e. absurd cc) ∙ c.loop-turn.invariant.failures;
      wrote = c.in_default-serve_turn.ensures.wrote.quiet (λ e. absurd cc) ∙ c.loop-turn.invariant.wrote;
      piece = c.serve_turn.ensures.piece;
    }

pub returns-clause-served : goal.returns-clause-served
returns-clause-served g c =
    let held = c.loop-turn.buffers.held.items in
    (held, reads_turns c.args.self.now c.loop-turn.self (g.R.Read.remaining (device c.args.reader.now)) (g.R.Read.remaining (device c.loop-turn.reader)) (g.W.Write.contents (device c.args.writer.now)) (g.W.Write.contents (device c.loop-turn.writer)) held c.loop-turn.invariant.reads c.loop-turn.invariant.good)

pub returns-in_default-clause-read : goal.returns-in_default-clause-read
returns-in_default-clause-read g c = record {
  turned = turned_none _ _ _ _ (λ e. absurd cc);
  grows = omega arith;
  end = λ e. absurd cc;
  failed = λ e. absurd cc;
  quiet = λ other. refl;
}

pub returns-in-Some-clause-read : goal.returns-in-Some-clause-read
returns-in-Some-clause-read g c =
    let read = c.in-Some.ensures.read in
    let up = c.serve_turn.ensures.read.grows in
    let before = c.loop-turn.invariant.faults in
    record {
      turned = turned_last c.loop-turn._turn _ _ _ _ _ _ _ _ _ (search rules) c.loop-turn.invariant.turned c.serve_turn.ensures.read.turned (λ e. c.in-Some.ensures.turns (ap (λ x. Some x) e));
      grows = omega (arith, up, before);
      end = λ e. read.end (ap (λ x. Some x) e);
      failed = λ e. counted_once _ _ _ c.loop-turn.invariant.failures (read.failed (ap (λ x. Some x) e));
      quiet = λ other. read.quiet (λ e. other cc) ∙ c.loop-turn.invariant.failures;
    }

pub returns-clause-read : goal.returns-clause-read
returns-clause-read g c = record {
  turned = turned_all c.loop-turn._turn _ _ _ _ _ _ (search rules) c.loop-turn.invariant.turned;
  grows = c.loop-turn.invariant.faults;
  end = λ e. absurd cc;
  failed = λ e. absurd cc;
  quiet = λ other. c.loop-turn.invariant.failures;
}

pub returns-in_default-clause-wrote : goal.returns-in_default-clause-wrote
returns-in_default-clause-wrote g c = record { failed = λ e. absurd cc; quiet = λ other. refl }

pub returns-in-Some-clause-wrote : goal.returns-in-Some-clause-wrote
returns-in-Some-clause-wrote g c = record {
  failed = λ e. counted_once _ _ _ c.loop-turn.invariant.wrote (c.in-Some.ensures.wrote.failed (ap (λ x. Some x) e));
  quiet = λ other. c.in-Some.ensures.wrote.quiet (λ e. other cc) ∙ c.loop-turn.invariant.wrote;
}

pub returns-clause-wrote : goal.returns-clause-wrote
returns-clause-wrote g c = record { failed = λ e. absurd cc; quiet = λ other. c.loop-turn.invariant.wrote }
