-- What a sending ends with.
use Rattle.std.specs.Prelude.{◌*◌, ◌++◌, ℕ, List, [], Option, Some, map}
use Rattle.std.specs.List.{AllZip}
use Rattle.sms_message.specs.declared.message.Message.{Message}
use Rattle.sms_bind.specs.Frames.{requests, AreSame}
use Rattle.sms_worker.specs.Credit.{IsCovered}
use Rattle.sms_worker.specs.EndOf.{IsEndOf}
use Rattle.sms_worker.specs.Frames.{frames_in}
use Rattle.sms_driver.specs.Answered.{AreHeard}
use Rattle.sms_driver.specs.BindEnds.{AreBinds}
use Rattle.sms_driver.specs.Closings.{AreExplained, AreReasoned}
use Rattle.sms_driver.specs.Deals.{dealt}
use Rattle.sms_driver.specs.Ended.{HaveEnded}
use Rattle.sms_driver.specs.Handed.{AreWritten}
use Rattle.sms_driver.specs.Numbered.{AreBelow, AreNumbered}
use Rattle.sms_driver.specs.Rings.{flat}
use Rattle.sms_driver.specs.Unbinds.{handed_in}
use Rattle.sms_driver.specs.Statements.{AreRows}
use Rattle.sms_driver.specs.declared.ending.Sending.{Sending}
use Rattle.sms_driver.specs.declared.settings.RunSettings.{RunSettings}

-- a sending of these messages by these settings, from a book with this many accounts, whose opening credits are these; `told` gives the octets
-- that are read of each bind, where they are known
pub record Sent (settings : RunSettings) (told : ℕ → Option (List ℕ)) (accounts : ℕ) (credits : List ℕ) (messages : List Message) (sending : Sending) : Type 0 where
  -- each message has an end by the rules, in order
  pub ends : AllZip (IsEndOf settings.rules accounts) messages sending.ends.items
  -- and was begun only where its account was opened with what all of its parts cost
  pub covered : AllZip (IsCovered credits settings.rules) messages sending.ends.items
  -- bind by bind, each answered attempt of its workers rests on an answer of its own that was read of the bind
  pub heard : AreHeard told settings.binds settings.workers (dealt (settings.binds * settings.workers) 0 sending.ends.items)
  -- the cause and the counts of each bind's reader are those of what was read of the bind
  pub readers : HaveEnded settings.bind_settings settings.rules.turns told sending.binds.items
  -- no two attempts of the workers of one bind have one sequence_number
  pub numbers : AreNumbered settings.binds settings.workers (dealt (settings.binds * settings.workers) 0 sending.ends.items)
  -- their numbers are below the number that the bind's window would have given next
  pub below : AreBelow settings.workers sending.binds.items (dealt (settings.binds * settings.workers) 0 sending.ends.items)
  -- a message was refused as bind-closed only if its bind's end says why
  pub explained : AreExplained settings.workers sending.binds.items (dealt (settings.binds * settings.workers) 0 sending.ends.items)
  -- a part was given up only if its worker's reasons say why, or its bind's end; and a message is refused for lack of memory only if its worker's say so
  pub reasons : AreReasoned settings.rules.policy.attempts settings.workers sending.binds.items sending.reasons.items (dealt (settings.binds * settings.workers) 0 sending.ends.items)
  -- the requests that the wires of the binds were given are the frames of all attempts and the unbinds, each as often
  pub handed : AreSame (requests sending.log.given) (flat (map frames_in (dealt (settings.binds * settings.workers) 0 sending.ends.items)) ++ flat (map (λ b. handed_in b.unbind_result) sending.binds.items))
  -- those frames stand wire by wire, one wire for each bind: what was written of it since, right behind a bind by the settings, are its frames, whole
  -- and in order, but for the last of them where the wire broke
  pub written : AreWritten (Some settings.bind_settings.settings) settings.binds [] sending.log.given
  -- the statement has a row for each account, with the sums over the messages' ends
  pub rows : AreRows credits messages sending.ends.items sending.statement
  -- each bind was made and ended, and had its workers
  pub binds : AreBinds settings.binds settings.workers sending.binds.items
