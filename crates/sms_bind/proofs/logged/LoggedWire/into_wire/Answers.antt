use Rattle.std.proofs.Common.{ap, subst}
use Rattle.sms_bind.specs.Logs.{Logged, Wrote}
use Rattle.sms_bind.specs.Wires.{writer, is_broken}
use Rattle.sms_bind.proofs.logged.LoggedWire.into_wire.Goals as goal

pub returns-clause-wire : goal.returns-clause-wire
returns-clause-wire g c = ap (λ (l : Logged _). l.wire) c.self.view_is

pub returns-clause-wrote : goal.returns-clause-wrote
returns-clause-wrote g c =
    subst (λ (l : Logged _). Wrote (is_broken l.wire) l.first (g.W.Write.contents (writer l.wire)) l.log) c.self.view_is c.self.invariant.wrote
