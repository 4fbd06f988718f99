use Rattle.std.proofs.Common.{◌≡◌, ◌*◌, ◌≤◌, drop, length}
use Rattle.sms_files.specs.Parameters.{hex_octets}
use Rattle.sms_files.proofs.ParameterTexts.{behind}
use Rattle.sms_files.proofs.fields.parameters.octets_of.Given as goal

abbrev pub invariant-loop-place : goal.invariant-loop-place
invariant-loop-place l = record { so_far : hex_octets l.digits ≡ behind l.octets.items (hex_octets (drop (2 * l.place) l.digits)); low : 2 * l.place ≤ length l.digits }
