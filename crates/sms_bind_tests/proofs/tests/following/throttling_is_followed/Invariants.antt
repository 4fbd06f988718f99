use Rattle.std.proofs.Common.{None}
use Rattle.sms_bind_tests.proofs.tests.following.throttling_is_followed.Given as goal

abbrev pub ghosts-want_held : goal.ghosts-want_held
ghosts-want_held g a = record { log = a.log; settings = None }
