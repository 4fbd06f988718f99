use Rattle.std.proofs.Common.{rules, ◌≡◌, ◌≤◌, ℕ, [], Err, ap, length, subst, arith}
use Rattle.sms_journal.specs.declared.error.JournalError.{JournalError}
use Rattle.sms_journal.specs.declared.error.JournalError.TheVariants.{BadNote}
use Rattle.sms_journal.specs.Going.{AreOfOneRound, between}
use Rattle.sms_journal.proofs.Rounds.{none_between}
use Rattle.sms_journal.proofs.notes.run_check.check_front.Goals as goal

pub loop-place-init : goal.loop-place-init
loop-place-init c =
    let first : c.in_ok-going.going.from ≤ 0 = (c.in_ok-going.ensures c.args.rules.now []).within in
    let zero : 0 ≡ c.in_ok-going.going.from = omega (arith, first) in
    record {
      low = first;
      current = c.in_ok-going.ensures c.args.rules.now c.args.notes.now;
      one = subst (λ (k : ℕ). AreOfOneRound (between k 0 c.args.notes.now)) zero (none_between c.args.notes.now 0);
    }

pub returns-in_err-going-2-clause-faulty : goal.returns-in_err-going-2-clause-faulty
returns-in_err-going-2-clause-faulty c = λ k is.
    let same : c.in_err-going-2.field-0.0 ≡ BadNote k = search rules in
    c.in_err-going-2.ensures.faulty k (ap (λ (e : JournalError). Err e) same) c.args.size c.loop-place.invariant.current

pub check_open-requires-clause-one : goal.check_open-requires-clause-one
check_open-requires-clause-one c =
    let whole : c.loop-place.place ≡ length c.args.notes.now = omega arith in
    subst (λ (k : ℕ). AreOfOneRound (between c.loop-place.going.from k c.args.notes.now)) whole c.loop-place.invariant.one

pub returns-in-Ok-clause-last : goal.returns-in-Ok-clause-last
returns-in-Ok-clause-last c =
    let whole : c.loop-place.place ≡ length c.args.notes.now = omega arith in
    record {
      within = c.loop-place.invariant.current.within;
      one = subst (λ (k : ℕ). AreOfOneRound (between c.loop-place.going.from k c.args.notes.now)) whole c.loop-place.invariant.one;
      end = c.in-Ok.ensures.end;
      goes = c.in-Ok.ensures.open;
    }

pub returns-in-Ok-clause-current : goal.returns-in-Ok-clause-current
returns-in-Ok-clause-current c = c.loop-place.invariant.current

pub returns-in-Err-clause-faulty : goal.returns-in-Err-clause-faulty
returns-in-Err-clause-faulty c = λ k is.
    let same : c.in-Err.error ≡ BadNote k = search rules in
    c.in-Err.ensures.faulty k (ap (λ (e : JournalError). Err e) same) c.args.size c.loop-place.invariant.current
