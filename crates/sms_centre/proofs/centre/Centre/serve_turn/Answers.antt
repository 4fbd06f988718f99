use Rattle.std.proofs.Common.{◌++◌, take, Some, refl, rules}
use Rattle.sms_pdu.specs.Devices.{device}
use Rattle.sms_pdu.specs.Streams.{early}
use Rattle.sms_pdu.proofs.Streams.{reads_once, went_none}
use Rattle.sms_pdu.proofs.Turns.{not_spent, not_failed, turned_ends, turned_read, turned_fault}
use Rattle.sms_centre.specs.declared.serving.Stop.TheVariants.{Ended, ReadFault, WriteFault, Turns, OutOfMemory}
use Rattle.sms_centre.specs.Stops.{Written}
use Rattle.sms_centre.proofs.Talks.{written_none, reads_failed}
use Rattle.sms_centre.proofs.centre.Centre.serve_turn.Goals as goal

pub returns-then-is_err-clause-reads : goal.returns-then-is_err-clause-reads
returns-then-is_err-clause-reads g c =
    let p = c.args.self.now in
    let w = g.W.Write.contents (device c.args.writer.now) in
    let held = c.args.buffers.now.held.items in
    let piece = take c.in-Ok.n c.read.new.buf in
    reads_once (Written p p (Some OutOfMemory) w w) held piece (held ++ piece) c.extend_from_slice.new.self.items _ _ early c.in-Ok.ensures.bytes.0 (went_none (Written p p (Some OutOfMemory) w w) (held ++ piece) (written_none p (Some OutOfMemory) w refl refl)) tt

pub returns-in-Err-clause-reads : goal.returns-in-Err-clause-reads
returns-in-Err-clause-reads g c =
    reads_failed c.args.self.now c.fault_of.result c.args.buffers.now.held.items _ _ _ c.fault_of.ensures.one c.in-Err.ensures.bytes c.requires.rest c.requires.good

pub returns-in-Err-clause-turns : goal.returns-in-Err-clause-turns
returns-in-Err-clause-turns g c = not_failed c.fault_of.result ReadFault Turns c.fault_of.ensures.one (λ e. absurd cc)

pub returns-in-Ok-eq0-clause-read : goal.returns-in-Ok-eq0-clause-read
returns-in-Ok-eq0-clause-read g c = record {
  turned = turned_ends _ _ _ (take c.in-Ok-eq0.field-0 c.read.new.buf) _ _ (search rules) (λ e. absurd cc) c.in-Ok-eq0.ensures.bytes.0;
  grows = c.read.ensures.grows;
  end = search rules;
  failed = λ e. absurd cc;
  quiet = search rules;
}

pub returns-then-is_err-clause-read : goal.returns-then-is_err-clause-read
returns-then-is_err-clause-read g c = record {
  turned = turned_ends _ _ _ (take c.in-Ok.n c.read.new.buf) _ _ (search rules) (λ e. absurd cc) c.in-Ok.ensures.bytes.0;
  grows = c.read.ensures.grows;
  end = λ e. absurd cc;
  failed = λ e. absurd cc;
  quiet = search rules;
}

pub returns-else-is_err-clause-read : goal.returns-else-is_err-clause-read
returns-else-is_err-clause-read g c = record {
  turned = turned_read _ _ _ (take c.in-Ok.n c.read.new.buf) _ _ (search rules) (search rules) (search rules) c.in-Ok.ensures.bytes.0;
  grows = c.read.ensures.grows;
  end = λ e. absurd (c.answer_held.ensures.cause.0 e);
  failed = λ e. absurd (c.answer_held.ensures.cause.1 e);
  quiet = search rules;
}

pub returns-in-Err-clause-read : goal.returns-in-Err-clause-read
returns-in-Err-clause-read g c = record {
  turned = turned_fault _ _ _ _ _ c.in-Err.ensures.counted c.read.ensures.grows c.in-Err.ensures.bytes;
  grows = c.read.ensures.grows;
  end = λ e. absurd (not_failed c.fault_of.result ReadFault Ended c.fault_of.ensures.one (λ e. absurd cc) e);
  failed = search rules;
  quiet = search rules;
}

pub returns-in-Err-clause-wrote : goal.returns-in-Err-clause-wrote
returns-in-Err-clause-wrote g c = record {
  failed = λ e. absurd (not_failed c.fault_of.result ReadFault WriteFault c.fault_of.ensures.one (λ e. absurd cc) e);
  quiet = λ other. refl;
}

pub returns-then-is_err-clause-spent : goal.returns-then-is_err-clause-spent
returns-then-is_err-clause-spent g c = λ spent. absurd (not_spent _ _ (take c.in-Ok.n c.read.new.buf) (search rules) c.in-Ok.ensures.bytes.0 spent)

pub returns-else-is_err-clause-spent : goal.returns-else-is_err-clause-spent
returns-else-is_err-clause-spent g c = λ spent. absurd (not_spent _ _ (take c.in-Ok.n c.read.new.buf) (search rules) c.in-Ok.ensures.bytes.0 spent)
