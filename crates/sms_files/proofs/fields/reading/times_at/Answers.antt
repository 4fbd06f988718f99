use Rattle.sms_files.proofs.Keys.{tells_first, tells_later, none_later, no_fault}
use Rattle.sms_files.proofs.Runs.{told_so}
use Rattle.sms_files.proofs.fields.reading.times_at.Goals as goal

pub returns-in_err-schedule-clause-refused : goal.returns-in_err-schedule-clause-refused
returns-in_err-schedule-clause-refused c = told_so c.from_residual.result _ _ c.from_residual.ensures.1 (tells_first _ _ _ _ c.in_err-schedule.ensures.refused)

pub returns-in_err-validity-clause-refused : goal.returns-in_err-validity-clause-refused
returns-in_err-validity-clause-refused c = told_so c.from_residual-in_err-validity.result _ _ c.from_residual-in_err-validity.ensures.1 (tells_later _ _ _ _ (no_fault _ _ _ c.in_ok-schedule.ensures.time) (tells_first _ _ _ _ c.in_err-validity.ensures.refused))

pub returns-in_err-seconds-clause-refused : goal.returns-in_err-seconds-clause-refused
returns-in_err-seconds-clause-refused c = told_so c.from_residual-in_err-seconds.result _ _ c.from_residual-in_err-seconds.ensures.1 (tells_later _ _ _ _ (no_fault _ _ _ c.in_ok-schedule.ensures.time) (tells_later _ _ _ _ (no_fault _ _ _ c.in_ok-validity.ensures.time) c.in_err-seconds.ensures.refused))

pub returns-in-Ok-clause-faultless : goal.returns-in-Ok-clause-faultless
returns-in-Ok-clause-faultless c = none_later _ _ (no_fault _ _ _ c.in_ok-schedule.ensures.time) (none_later _ _ (no_fault _ _ _ c.in_ok-validity.ensures.time) (no_fault _ _ _ c.in_ok-seconds.ensures.seconds))

pub returns-in-Ok-clause-says : goal.returns-in-Ok-clause-says
returns-in-Ok-clause-says c = record {
  schedule = c.in_ok-schedule.ensures.time;
  text = c.in_ok-validity.validity;
  text_is = c.in_ok-validity.ensures.time;
  seconds = c.in_ok-seconds.seconds;
  seconds_is = c.in_ok-seconds.ensures.seconds;
  validity = c.in-Ok.ensures.validity;
}
