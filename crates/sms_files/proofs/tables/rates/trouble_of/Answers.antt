use Rattle.std.proofs.Common.{arith}
use Rattle.sms_files.proofs.tables.rates.trouble_of.Goals as goal

pub overflow_add-result : goal.overflow_add-result
overflow_add-result c = let low = c.requires c.in-Duplicate.first c.in-Duplicate.second c.in-Duplicate.is in omega (arith, low)
