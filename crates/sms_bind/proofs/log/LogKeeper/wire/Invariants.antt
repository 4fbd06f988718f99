use Rattle.sms_bind.specs.Wires.{writer}
use Rattle.sms_bind.proofs.log.LogKeeper.wire.Given as goal

abbrev pub ghosts-begin : goal.ghosts-begin
ghosts-begin g a = record { first = g.W.Write.contents (writer a.wire.now) }
