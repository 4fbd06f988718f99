use Rattle.std.proofs.Common.{◌≡◌, ◌∙◌, ◌++◌, ℕ, take, Some, refl, subst, rules, arith}
use Rattle.std.specs.Io.KnownBytes.{Consumes}
use Rattle.sms_pdu.specs.Devices.{device}
use Rattle.sms_pdu.specs.Streams.{complete, early}
use Rattle.sms_pdu.proofs.Streams.{reads_none, reads_once, went_none}
use Rattle.sms_pdu.proofs.Turns.{not_spent, turned_ends, turned_read, turned_fault}
use Rattle.sms_bind.specs.declared.ending.ReaderCause.TheVariants.{Ended, OutOfMemory, Stopped, Turns}
use Rattle.sms_bind.specs.ReaderStates.{Handled}
use Rattle.sms_bind.proofs.Turning.{took_fault, took_read}
use Rattle.std.specs.IoError.{error_kind}
use Rattle.sms_bind.proofs.Handling.{failed_counts, fails_not, handled_nothing, reads_failed}
use Rattle.sms_bind.proofs.reader_state.ReaderState.turn.Goals as goal

pub returns-then-is_err-clause-reads : goal.returns-then-is_err-clause-reads
returns-then-is_err-clause-reads g c =
    let a = c.args.self.now in
    let s = a.session in
    let held = c.args.held.now.items in
    let piece = take c.in-Ok.n c.read.new.buf in
    let P = Handled s (Some OutOfMemory) a a in
    reads_once P held piece (held ++ piece) c.extend_from_slice.new.self.items _ _ early c.in-Ok.ensures.bytes.0 (went_none P (held ++ piece) (handled_nothing s (Some OutOfMemory) a refl refl)) tt

pub returns-in-Ok-eq0-clause-reads : goal.returns-in-Ok-eq0-clause-reads
returns-in-Ok-eq0-clause-reads g c =
    let a = c.args.self.now in
    let s = a.session in
    let held = c.args.held.now.items in
    let r = g.R.Read.remaining (device c.args.reader.now) in
    let t = g.R.Read.remaining (device c.read.new.self) in
    let zero : c.in-Ok-eq0.field-0 ≡ 0 = omega (arith, c.in-Ok-eq0.field-0-is) in
    let none : Consumes r t (take 0 c.read.new.buf) = subst (λ (n : ℕ). Consumes r t (take n c.read.new.buf)) zero c.in-Ok-eq0.ensures.bytes.0 in
    reads_none (Handled s (Some Ended) a a) held held r t complete (handled_nothing s (Some Ended) a refl refl) none (c.requires.reading.rest, c.requires.reading.good)

pub returns-in-Err-clause-reads : goal.returns-in-Err-clause-reads
returns-in-Err-clause-reads g c =
    reads_failed c.args.self.now.session c.args.self.now c.failed.result c.args.held.now.items _ _ c.failed.ensures.one c.in-Err.ensures.bytes c.requires.reading.rest c.requires.reading.good

pub returns-in-Err-clause-cause : goal.returns-in-Err-clause-cause
returns-in-Err-clause-cause g c = (λ seen. fails_not c.failed.result (Stopped seen) c.failed.ensures.one (λ e. absurd cc) (λ e. absurd cc), fails_not c.failed.result Turns c.failed.ensures.one (λ e. absurd cc) (λ e. absurd cc))

pub returns-then-is_err-clause-ended_input : goal.returns-then-is_err-clause-ended_input
returns-then-is_err-clause-ended_input g c = λ spent quiet. absurd (not_spent _ _ (take c.in-Ok.n c.read.new.buf) (search rules) c.in-Ok.ensures.bytes.0 spent)

pub returns-else-is_err-clause-ended_input : goal.returns-else-is_err-clause-ended_input
returns-else-is_err-clause-ended_input g c = λ spent quiet. absurd (not_spent _ _ (take c.in-Ok.n c.read.new.buf) (search rules) c.in-Ok.ensures.bytes.0 spent)

pub returns-then-is_err-clause-read : goal.returns-then-is_err-clause-read
returns-then-is_err-clause-read g c = record {
  turned = turned_ends _ _ _ (take c.in-Ok.n c.read.new.buf) _ _ (search rules) (λ e. absurd cc) c.in-Ok.ensures.bytes.0;
  took = λ room e. absurd cc;
  errors_counted = refl;
  grows = c.read.ensures.grows;
  stopped = λ seen e. absurd cc;
  end = λ e. absurd cc;
  fault = λ e. absurd cc;
  failed = λ e. absurd cc;
  no_failure = search rules;
}

pub returns-else-is_err-clause-read : goal.returns-else-is_err-clause-read
returns-else-is_err-clause-read g c = record {
  turned = turned_read _ _ _ (take c.in-Ok.n c.read.new.buf) _ _ (search rules) (search rules) (search rules) c.in-Ok.ensures.bytes.0;
  took = λ room e. took_read _ _ _ _ (take c.in-Ok.n c.read.new.buf) (search rules) (search rules) (search rules) c.in-Ok.ensures.bytes.0;
  errors_counted = refl;
  grows = c.read.ensures.grows;
  stopped = search rules;
  end = search rules;
  fault = search rules;
  failed = search rules;
  no_failure = search rules;
}

pub returns-in-Ok-eq0-clause-read : goal.returns-in-Ok-eq0-clause-read
returns-in-Ok-eq0-clause-read g c = record {
  turned = turned_ends _ _ _ (take c.in-Ok-eq0.field-0 c.read.new.buf) _ _ (search rules) (λ e. absurd cc) c.in-Ok-eq0.ensures.bytes.0;
  took = λ room e. absurd cc;
  errors_counted = refl;
  grows = c.read.ensures.grows;
  stopped = λ seen e. absurd cc;
  end = search rules;
  fault = λ e. absurd cc;
  failed = λ e. absurd cc;
  no_failure = search rules;
}

pub returns-in-Err-clause-read : goal.returns-in-Err-clause-read
returns-in-Err-clause-read g c =
    let counts = failed_counts (error_kind c.in-Err.e) c.failed.result _ _ c.in-Err.ensures.failures c.failed.ensures.again c.failed.ensures.fault in record {
      turned = turned_fault _ _ _ _ _ c.in-Err.ensures.counted c.read.ensures.grows c.in-Err.ensures.bytes;
      took = λ room e. took_fault _ _ _ _ room c.in-Err.ensures.faults c.in-Err.ensures.bytes;
      errors_counted = refl;
      grows = c.read.ensures.grows;
      stopped = λ seen e. absurd (fails_not c.failed.result (Stopped seen) c.failed.ensures.one (λ e. absurd cc) (λ e. absurd cc) e);
      end = λ e. absurd (fails_not c.failed.result Ended c.failed.ensures.one (λ e. absurd cc) (λ e. absurd cc) e);
      fault = λ e. c.in-Err.ensures.counted;
      failed = counts.0;
      no_failure = counts.1;
    }

pub returns-then-is_err-clause-going : goal.returns-then-is_err-clause-going
returns-then-is_err-clause-going g c = λ e. absurd cc

pub returns-else-is_err-clause-going : goal.returns-else-is_err-clause-going
returns-else-is_err-clause-going g c = λ e. record {
  session = (c.handle_held.ensures.going e).1;
  good = (c.handle_held.ensures.going e).0;
  room = search rules;
}

pub returns-in-Ok-eq0-clause-going : goal.returns-in-Ok-eq0-clause-going
returns-in-Ok-eq0-clause-going g c = λ e. absurd cc

pub returns-in-Err-clause-going : goal.returns-in-Err-clause-going
returns-in-Err-clause-going g c = λ e. record { session = refl; good = c.requires.reading.good; room = omega arith }

pub handle_held-requires-clause-ready : goal.handle_held-requires-clause-ready
handle_held-requires-clause-ready g c = record {
  bound = c.requires.reading.ready.bound;
  within = c.requires.reading.ready.within;
  keeps = c.heard.ensures.same.0 ∙ c.requires.reading.ready.keeps;
}

-- ---- the watch

pub returns-then-is_err-clause-watched : goal.returns-then-is_err-clause-watched
returns-then-is_err-clause-watched g c = record {
  heard = λ same other full. absurd (full refl);
  quiet = λ more. absurd (let same = c.in-Ok.ensures.faults in omega (arith, more, same));
  silent = λ e. absurd cc;
}

pub returns-else-is_err-clause-watched : goal.returns-else-is_err-clause-watched
returns-else-is_err-clause-watched g c = record {
  heard = λ same other full. (c.heard.ensures.watch.0, c.handle_held.ensures.same.1 ∙ c.heard.ensures.watch.1);
  quiet = λ more. absurd (let same = c.in-Ok.ensures.faults in omega (arith, more, same));
  silent = λ e. absurd (c.handle_held.ensures.cause.5 e);
}

pub returns-in-Ok-eq0-clause-watched : goal.returns-in-Ok-eq0-clause-watched
returns-in-Ok-eq0-clause-watched g c = record {
  heard = λ same other full. absurd (other refl);
  quiet = λ more. absurd (let same = c.in-Ok-eq0.ensures.faults in omega (arith, more, same));
  silent = λ e. absurd cc;
}

pub returns-in-Err-clause-watched : goal.returns-in-Err-clause-watched
returns-in-Err-clause-watched g c = record {
  heard = λ same other full. absurd (same c.in-Err.ensures.counted);
  quiet = λ other. c.failed.ensures.quiet;
  silent = c.failed.ensures.silent;
}
