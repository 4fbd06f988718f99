-- The parser takes the command line's description, and its matches are exact there.
use Rattle.std.proofs.Common.{◌≡◌, refl, true}
use Rattle.clap.specs.Words.{is_simple, is_simple_and_free}
use Rattle.clap.proofs.OnLiterals.{clap_on_literals}
use Rattle.sms_send.specs.CommandLine.{command_line}

pub line-simple : is_simple command_line ≡ true
unfolding clap_on_literals
line-simple = refl

pub line-free : is_simple_and_free command_line ≡ true
unfolding clap_on_literals
line-free = refl
