use Rattle.sms_alphabet.proofs.Lookups.{plain_ranges}
use Rattle.sms_alphabet.proofs.alphabet.is_plain.Goals as goal

pub returns : goal.returns
returns c = plain_ranges c.args.octet c.ranges.octet.fits
