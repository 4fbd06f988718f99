use Rattle.std.proofs.Common.{rules}
use Rattle.sms_ledger.specs.Names.{IsName}
use Rattle.sms_ledger.proofs.NameFields.{low_name}
use Rattle.sms_ledger.proofs.name.Name.read.Goals as goal

pub ascii_text-requires : goal.ascii_text-requires
ascii_text-requires c = let is : IsName c.args.octets.now = search rules in low_name c.args.octets.now is
