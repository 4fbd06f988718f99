use Rattle.std.proofs.Common.{Some}
use Rattle.sms_book.specs.Name.{as_sealed}
use Rattle.sms_driver.proofs.driver.drive_all.Given as goal

abbrev pub ghosts-run-N-BookName : goal.ghosts-run-N-BookName
ghosts-run-N-BookName g a = record { book = as_sealed a.blank.book }

abbrev pub ghosts-run-N-LogName : goal.ghosts-run-N-LogName
ghosts-run-N-LogName g a = record { log = a.log; settings = Some a.settings.now.bind_settings.settings }
