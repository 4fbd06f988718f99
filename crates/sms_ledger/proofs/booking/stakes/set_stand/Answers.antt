use Rattle.std.proofs.Common.{◌≡◌, ◌∙◌, Some, ap, sym}
use Rattle.std.specs.Prelude.{slice_set}
use Rattle.std.proofs.lemmas.Option.{slice_get-get_or, slice_get_within}
use Rattle.sms_ledger.specs.declared.entry.Stake.{Stake}
use Rattle.sms_ledger.proofs.Places.{found_at}
use Rattle.sms_ledger.proofs.booking.stakes.set_stand.Goals as goal

pub returns : goal.returns
returns c =
    let items = c.args.taken.now.items in
    let f = found_at c.args.of.now.run c.args.of.now.account items c.args.place c.requires in
    let x = c.index_mut-stake.result.now in
    let e : Some f.stake ≡ Some x = sym f.got ∙ slice_get-get_or items c.args.place x (slice_get_within items c.args.place f.stake f.got) ∙ ap Some (sym c.index_mut-stake.ensures.value) in
    let same : f.stake ≡ x = cc in
    ap (λ (y : Stake). slice_set items c.args.place (record y { stand = c.args.stand })) (sym same) ∙ sym (f.changed c.args.stand)
