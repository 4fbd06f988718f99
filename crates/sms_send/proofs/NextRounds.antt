-- What is sent of what the rounds before left is the next round.
use Rattle.std.proofs.Common.{◌≡◌, ℕ, List, length, subst, sym, ap, ◌∙◌}
use Rattle.std.proofs.lemmas.List.{length-map}
use Rattle.std.specs.Prelude.{Some, Result, Ok, Err, IfOk, string_bytes}
use Rattle.std.specs.List.{AllZip}
use Rattle.sms_book.specs.Openings.{credits_of, names_of}
use Rattle.sms_book.specs.declared.opening.Opening.{Opening}
use Rattle.sms_message.specs.declared.message.Message.{Message}
use Rattle.sms_driver.specs.declared.ending.Sending.{Sending}
use Rattle.sms_driver.specs.declared.fault.SendFault.{SendFault}
use Rattle.sms_driver.specs.declared.settings.RunSettings.{RunSettings}
use Rattle.sms_files.specs.Inputs.{Told}
use Rattle.sms_journal.specs.Left.{SaysSame, free_in, left_in}
use Rattle.sms_send.specs.Rounds.{IsNextRound, IsSentFrom}

-- as many accounts as there are names
as_many : (free openings : List Opening) → names_of free ≡ names_of openings → length free ≡ length openings
as_many free openings names =
    sym (length-map free (λ (o : Opening). string_bytes o.name)) ∙ ap length names ∙ length-map openings (λ (o : Opening). string_bytes o.name)

pub next_of_left : (told : ℕ → Told) (settings : RunSettings) (openings free : List Opening) (ms given : List Message) (came : Sending) (result : Result Sending SendFault)
    → names_of free ≡ names_of openings → credits_of free ≡ free_in came.statement → AllZip SaysSame (left_in ms came.ends.items) given
    → IfOk result (IsSentFrom told settings (length free) (credits_of free) given) → IfOk result (IsNextRound told settings openings ms (Some came))
next_of_left told settings openings free ms given came (Ok sending) names credits same sent = (
  given,
  same,
  subst (λ (n : ℕ). IsSentFrom told settings n (free_in came.statement) given sending) (as_many free openings names)
      (subst (λ (l : List ℕ). IsSentFrom told settings (length free) l given sending) credits sent),
)
next_of_left told settings openings free ms given came (Err fault) names credits same sent = tt
