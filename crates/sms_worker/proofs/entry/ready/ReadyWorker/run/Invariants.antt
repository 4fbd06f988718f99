use Rattle.sms_worker.specs.Worked.{start_of}
use Rattle.sms_worker.proofs.entry.ready.ReadyWorker.run.Given as goal

abbrev pub ghosts-work : goal.ghosts-work
ghosts-work g a = record { start = start_of a.context.now.rules.now a.ready.worker a.ready.messages a.mark.now }
