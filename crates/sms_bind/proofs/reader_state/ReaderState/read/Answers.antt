use Rattle.std.proofs.Common.{◌++◌, ◌∙◌, [], Option, None, Some, refl, sym, ap, subst, rules, arith}
use Rattle.std.specs.List.{concat}
use Rattle.sms_pdu.specs.Devices.{device}
use Rattle.sms_pdu.specs.Frame.{IsBad}
use Rattle.sms_pdu.specs.Streams.{Reads, lost}
use Rattle.sms_bind.specs.declared.ending.ReaderCause.{ReaderCause}
use Rattle.sms_bind.specs.declared.ending.ReaderCause.TheVariants.{Ended, Lost, ReadFault, Silent, Stopped, Turns}
use Rattle.sms_session.specs.Session.{IsBound}
use Rattle.sms_bind.specs.Deeds.{stretch_of}
use Rattle.sms_bind.specs.ReaderStates.{Handled}
use Rattle.sms_bind.proofs.Handling.{handled_more, handled_ends, reads_early, reads_begun}
use Rattle.sms_pdu.proofs.Streams.{reads_ends, reads_more}
use Rattle.sms_pdu.proofs.Turns.{turned_none}
use Rattle.sms_bind.proofs.Turning.{not_early}
use Rattle.sms_bind.proofs.reader_state.ReaderState.read.Goals as goal

pub returns-in-Some-clause-reads : goal.returns-in-Some-clause-reads
returns-in-Some-clause-reads g c =
    let (left, went, whole) = c.in-Some.ensures.handled in
    let a = c.args.self.now in
    let end : Option ReaderCause = Some c.in-Some.cause in
    reads_early (Handled a.session end a c.handle_all.new.self) (concat c.args.frames.now) left c.args.rest.items [] (g.R.Read.remaining (device c.args.reader.now)) (stretch_of end) went c.in-Some.ensures.stretch

pub returns-then-is_bad-clause-reads : goal.returns-then-is_bad-clause-reads
returns-then-is_bad-clause-reads g c =
    let (left, went, whole) = c.in_default.ensures.handled in
    let a = c.args.self.now in
    let b = c.handle_all.new.self in
    let s = a.session in
    let before = concat c.args.frames.now in
    let rest = c.args.rest.items in
    let bad : IsBad rest = search rules in
    let r = g.R.Read.remaining (device c.args.reader.now) in
    reads_ends (Handled s None a b) (Handled s (Some Lost) a b) (before ++ rest) rest [] r r lost (reads_begun (Handled s None a b) before left rest r went (whole refl) c.requires.rest) (λ fs x. handled_ends s (Some Lost) a b fs refl refl x) bad

pub returns-clause-reads : goal.returns-clause-reads
returns-clause-reads g c =
    let (left, went, whole) = c.in_default.ensures.handled in
    let a = c.args.self.now in
    let b = c.handle_all.new.self in
    let d = c.read_turns.new.self in
    let s = a.session in
    let before = concat c.args.frames.now in
    let rest = c.args.rest.items in
    let end : Option ReaderCause = Some c.read_turns.result in
    let r = g.R.Read.remaining (device c.args.reader.now) in
    let u = g.R.Read.remaining (device c.read_turns.new.reader) in
    let one = subst (λ x. Reads (Handled x end b d) rest r u (stretch_of end) []) (c.in_default.ensures.going refl) c.read_turns.ensures.reads in
    reads_more (Handled s None a b) (Handled s end b d) (Handled s end a d) (before ++ rest) rest [] r r u (stretch_of end) (reads_begun (Handled s None a b) before left rest r went (whole refl) c.requires.rest) one (λ fs gs p q. handled_more s c.requires.ready.bound end a b d fs gs p q)

pub returns-in-Some-clause-not_out_of_memory : goal.returns-in-Some-clause-not_out_of_memory
returns-in-Some-clause-not_out_of_memory g c = λ bad e. c.in-Some.ensures.not_out_of_memory (ap (λ x. Some x) e)

pub read_turns-requires-clause-reading : goal.read_turns-requires-clause-reading
read_turns-requires-clause-reading g c = record {
  ready = record { bound = subst IsBound (sym (c.in_default.ensures.going refl)) c.requires.ready.bound; within = c.handle_all.ensures.within; keeps = c.handle_all.ensures.same.0 ∙ c.requires.ready.keeps ∙ sym (let (left, went, whole) = c.in_default.ensures.handled in went.done.keeps) };
  rest = c.requires.rest;
  good = search rules;
}

-- no turn was taken
pub returns-in-Some-clause-read : goal.returns-in-Some-clause-read
returns-in-Some-clause-read g c =
    let late = c.in-Some.ensures.stretch in
    record {
      turned = turned_none _ _ _ _ (not_early c.in-Some.cause Turns late refl);
      took = λ room e. absurd (not_early c.in-Some.cause Turns late refl e);
      errors_counted = refl;
      grows = omega arith;
      stopped = λ seen e. absurd (not_early c.in-Some.cause (Stopped seen) late refl e);
      end = λ e. absurd (not_early c.in-Some.cause Ended late refl e);
      fault = λ e. absurd (not_early c.in-Some.cause ReadFault late refl e);
      failed = λ e. absurd (not_early c.in-Some.cause ReadFault late refl e);
      no_failure = λ other. refl;
    }

pub returns-then-is_bad-clause-read : goal.returns-then-is_bad-clause-read
returns-then-is_bad-clause-read g c = record {
  turned = turned_none _ _ _ _ (λ e. absurd cc);
  took = λ room e. absurd cc;
  errors_counted = refl;
  grows = omega arith;
  stopped = λ seen e. absurd cc;
  end = λ e. absurd cc;
  fault = λ e. absurd cc;
  failed = λ e. absurd cc;
  no_failure = λ other. refl;
}

pub returns-clause-read : goal.returns-clause-read
returns-clause-read g c = c.read_turns.ensures.read

pub returns-in-Some-clause-silent : goal.returns-in-Some-clause-silent
returns-in-Some-clause-silent g c = λ e. absurd (not_early c.in-Some.cause Silent c.in-Some.ensures.stretch refl e)
