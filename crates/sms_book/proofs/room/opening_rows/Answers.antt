use Rattle.sms_book.specs.Openings.{opening_row}
use Rattle.sms_book.proofs.Pushes.{all_pushed}
use Rattle.sms_book.proofs.room.opening_rows.Goals as goal

pub returns : goal.returns
returns c = all_pushed opening_row c.args.credits.now c.loop-topped.topped-index _ c.loop-topped-test.false c.loop-topped.invariant.0
