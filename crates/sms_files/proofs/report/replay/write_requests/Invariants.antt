use Rattle.std.proofs.Common.{◌≡◌, ◌++◌, drop}
use Rattle.std.specs.Prelude.{flat_map, string_bytes}
use Rattle.sms_files.specs.ReplayText.{request_line}
use Rattle.sms_files.proofs.report.replay.write_requests.Given as goal

abbrev pub invariant-loop-request : goal.invariant-loop-request
invariant-loop-request l =
    string_bytes l.text ++ flat_map request_line (drop l.request-index l.requests) ≡ string_bytes l.initial.text ++ flat_map request_line l.requests
