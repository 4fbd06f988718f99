use Rattle.std.proofs.Common.{rules, ◌≡◌, ◌++◌, ◌∷◌, [], Some}
use Rattle.sms_journal.proofs.DenseMaps.{appended}
use Rattle.sms_journal.proofs.notes.dense_map.append_listed.Goals as goal

pub returns : goal.returns
returns g c = λ q.
    let more : c.push.new.list.items ≡ c.lengthen.new.near.items ++ Some c.args.value ∷ [] = search rules in
    appended c.args.near.now.items c.lengthen.new.near.items c.push.new.list.items c.args.place q c.args.value c.in_ok-lengthen.ensures.same c.in_ok-lengthen.ensures.long more
