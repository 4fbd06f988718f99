use Rattle.sms_book.proofs.Moves.{begins}
use Rattle.sms_book.proofs.blank.make_blank.Goals as goal

pub of_words-requires : goal.of_words-requires
of_words-requires c = begins c.args.credits.items c.args.workers
