use Rattle.std.proofs.Common.{◌∙◌, ap, sym}
use Rattle.std.proofs.lemmas.Option.{slice_get-get_or, slice_get_within}
use Rattle.sms_ledger.proofs.Places.{found_at}
use Rattle.sms_ledger.proofs.Stakes.{standing}
use Rattle.sms_ledger.proofs.booking.stakes.stand_at.Goals as goal

pub returns : goal.returns
returns c =
    let f = found_at c.args.of.now.run c.args.of.now.account c.args.taken.now c.args.place c.requires in
    ap standing f.found ∙ ap standing (sym f.got ∙ slice_get-get_or c.args.taken.now c.args.place c.index-taken-place.result (slice_get_within c.args.taken.now c.args.place f.stake f.got))
