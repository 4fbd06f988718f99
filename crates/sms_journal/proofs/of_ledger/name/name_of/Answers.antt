use Rattle.std.proofs.Common.{◌≡◌, ◌∙◌, None, sym, arith, rules}
use Rattle.sms_ledger.specs.Names.{run_said}
use Rattle.sms_journal.specs.Text.{hex_text}
use Rattle.sms_journal.proofs.DigestTexts.{none_some}
use Rattle.sms_journal.proofs.RunNames.{name_found}
use Rattle.sms_journal.proofs.of_ledger.name.name_of.Goals as goal

pub unreachable-requires : goal.unreachable-requires
unreachable-requires c =
    let octets = c.args.octets.now in
    let none : run_said (hex_text octets) ≡ None = search rules in
    none_some (hex_text octets) (sym none ∙ name_found octets c.requires (λ i. omega (arith, c.type_inv.octets i)))
