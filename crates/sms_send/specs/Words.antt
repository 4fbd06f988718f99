-- Words of the command line: the subcommand of a name, the file of a name, and whether details are asked for.
use Rattle.std.specs.Prelude.{◌||◌, Bool, false, List, [], ◌∷◌, Option, Some, None, String, codes, if◌then◌else◌}
use Rattle.std.specs.Str.{bytes_eq}
use Rattle.std.specs.String.{string_bytes}
use Rattle.clap.specs.Words.{Text}
use Rattle.sms_send.specs.declared.args.job.Subcommand.{Subcommand}
use Rattle.sms_send.specs.declared.args.job.Subcommand.TheVariants as sub

-- `-` names standard input, which is no file
abbrev pub file_named : Text → Option Text
file_named name = if bytes_eq name (codes "-") then None else Some name

-- the file of a job
abbrev pub bytes_of : {A : Type 0} → Option (String A) → Option Text
bytes_of None = None
bytes_of (Some name) = Some (string_bytes name)

-- the subcommand of a name
abbrev pub subcommand_named : Text → Option Subcommand
subcommand_named name =
    if bytes_eq name (codes "replay") then Some sub.Replay
    else (if bytes_eq name (codes "plan") then Some sub.Plan
    else (if bytes_eq name (codes "quote") then Some sub.Quote
    else (if bytes_eq name (codes "loop") then Some sub.Loop
    else (if bytes_eq name (codes "send") then Some sub.Send
    else (if bytes_eq name (codes "resume") then Some sub.Resume
    else (if bytes_eq name (codes "stop") then Some sub.Stop
    else (if bytes_eq name (codes "recover") then Some sub.Recover
    else (if bytes_eq name (codes "rest") then Some sub.Rest
    else (if bytes_eq name (codes "bill") then Some sub.Bill
    else (if bytes_eq name (codes "doubtful") then Some sub.Doubtful
    else (if bytes_eq name (codes "audit") then Some sub.Audit
    else (if bytes_eq name (codes "topup") then Some sub.TopUp
    else (if bytes_eq name (codes "balance") then Some sub.Balance
    else (if bytes_eq name (codes "settle") then Some sub.Settle
    else (if bytes_eq name (codes "decide") then Some sub.Decide
    else (if bytes_eq name (codes "delivered") then Some sub.Delivered else None))))))))))))))))

-- one of the arguments asks for the detail lines of a fault, also where they are refused
abbrev pub asks_for_more : List Text → Bool
asks_for_more [] = false
asks_for_more (word ∷ words) = bytes_eq word (codes "--verbose") || asks_for_more words
