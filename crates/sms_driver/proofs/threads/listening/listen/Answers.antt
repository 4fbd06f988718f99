use Rattle.sms_driver.specs.StartGates.{command_of}
use Rattle.sms_driver.proofs.Reading.{not_leave}
use Rattle.sms_driver.proofs.threads.listening.listen.Goals as goal

pub returns-in-Go : goal.returns-in-Go
returns-in-Go g c = record {
  at = c.wait-started.ensures.at;
  on_go = λ e. (c.read_task-value.ensures.window, c.read_task-value.ensures.read.0);
  on_leave = λ e. absurd (not_leave (command_of c.wait-started.result) c.in-Go.ensures.command e);
}
