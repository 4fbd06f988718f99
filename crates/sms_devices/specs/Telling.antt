-- What is written of a run on standard error.
use Rattle.std.specs.Prelude.{ℕ, Bool, List, [], ◌∷◌, ◌++◌, if◌then◌else◌}
use Rattle.sms_devices.specs.declared.terminal.notices.Notice.{Notice}
use Rattle.sms_devices.specs.declared.terminal.notices.Notice.TheVariants as notice
use Rattle.sms_files.specs.Summary.{done_text}
use Rattle.sms_files.specs.Tally.{way_text}
use Rattle.sms_devices.specs.declared.terminal.progress.Telling.{Telling}
use Rattle.sms_devices.specs.declared.terminal.progress.Telling.TheVariants.{Nothing, End, Way}

-- a quiet run writes nothing, a terminal gets the progress and the end, and everything else only the end
abbrev pub telling_of : Bool → Bool → Telling
telling_of quiet terminal = if quiet then Nothing else (if terminal then Way else End)

-- what a terminal gets: a carriage return before a line over another one, and ESC [ K to clear what is after it
abbrev pub notice_text : Notice → List ℕ
notice_text (notice.Way line) = 13 ∷ way_text line ++ (27 ∷ 91 ∷ 75 ∷ [])
notice_text notice.Clear = 13 ∷ 27 ∷ 91 ∷ 75 ∷ []
notice_text (notice.End line) = done_text line ++ (10 ∷ [])
