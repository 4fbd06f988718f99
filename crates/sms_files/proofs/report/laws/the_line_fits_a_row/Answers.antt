use Rattle.sms_files.proofs.WayLines.{line_fits}
use Rattle.sms_files.proofs.report.laws.the_line_fits_a_row.Goals as goal

pub returns : goal.returns
returns c = line_fits
