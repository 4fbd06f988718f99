use Rattle.sms_core.proofs.Moved.{post_opens, respond_replies, settle_empties, expire_empties}
use Rattle.sms_core.proofs.laws.marks_move_as_told.Goals as goal

pub returns-clause-opens : goal.returns-clause-opens
returns-clause-opens c = post_opens

pub returns-clause-replies : goal.returns-clause-replies
returns-clause-replies c = respond_replies

pub returns-clause-settles : goal.returns-clause-settles
returns-clause-settles c = settle_empties

pub returns-clause-expires : goal.returns-clause-expires
returns-clause-expires c = expire_empties
