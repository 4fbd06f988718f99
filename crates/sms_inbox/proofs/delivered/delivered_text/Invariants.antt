use Rattle.std.proofs.Common.{◌≡◌, ◌++◌, drop}
use Rattle.std.specs.Prelude.{flat_map, string_bytes}
use Rattle.sms_inbox.specs.Delivered.{delivered_text, row_of}
use Rattle.sms_inbox.proofs.delivered.delivered_text.Given as goal

abbrev pub invariant-loop-part : goal.invariant-loop-part
invariant-loop-part g l = string_bytes l.text ++ flat_map (row_of (g.T.WritesTime.time_text l.times) l.ids l.records) (drop l.part-index l.parts) ≡ delivered_text (g.T.WritesTime.time_text l.times) l.ids l.records l.parts
