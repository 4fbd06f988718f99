use Rattle.std.proofs.Common.{refl, false}
use Rattle.sms_bind.proofs.ReadBinds.{read_by}
use Rattle.sms_bind.proofs.reads.PlainReadsBind.read_bind.Goals as goal

pub returns : goal.returns
returns g c =
    let end = c.read_loop-end.ensures in
    read_by (λ p. g.R.Read.remaining p.input) false false c.args.turns c.args.self c.args.begin c.read_loop-end.result.0 c.new-reader.result c.read_loop-end.new.reader c.new-reader.ensures.inner c.new-reader.ensures.faults refl end.rings end.answers end.window end.read
