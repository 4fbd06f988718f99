use Rattle.std.proofs.Common.{length, ap, sym, ◌∙◌}
use Rattle.sms_driver.proofs.Sums.{length-opening}
use Rattle.sms_driver.proofs.run.prepare_threads.Goals as goal

pub make_tasks-made-requires-clause-shares : goal.make_tasks-made-requires-clause-shares
make_tasks-made-requires-clause-shares g c = ap length c.requires.job.shares ∙ length-opening g.N.BookName.book.accounts g.N.BookName.book.workers ∙ c.requires.count

pub make_tasks-made-requires-clause-batches : goal.make_tasks-made-requires-clause-batches
make_tasks-made-requires-clause-batches g c = c.requires.job.batches ∙ sym (ap length c.requires.job.shares ∙ length-opening g.N.BookName.book.accounts g.N.BookName.book.workers)

pub make_tasks-made-requires-clause-requests : goal.make_tasks-made-requires-clause-requests
make_tasks-made-requires-clause-requests g c = c.requires.job.requests ∙ sym (ap length c.requires.job.shares ∙ length-opening g.N.BookName.book.accounts g.N.BookName.book.workers)
