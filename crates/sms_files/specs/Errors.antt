-- What contracts see of the errors that an output answered.
use Rattle.std.specs.Prelude.{ℕ}
use Rattle.sms_files.specs.declared.report.unwritten.Errors.{Errors}

-- how many there were
abbrev pub errors_of : Errors → ℕ
errors_of errors = errors.count
