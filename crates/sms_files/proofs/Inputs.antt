-- Files that were read as accounts or as messages have no fault.
use Rattle.std.proofs.Common.{◌≡◌, inr, subst, sym, ℕ, List, [], ◌∷◌, Option, Some, None, IfSome, Result, Ok, Err, IfOk, IfErr}
use Rattle.sms_book.specs.declared.opening.Opening.{Opening}
use Rattle.sms_message.specs.declared.message.Message.{Message}
use Rattle.sms_files.specs.Accounts.{AreAccounts, accounts_fault}
use Rattle.sms_files.specs.Fields.{Field, Record, records_of}
use Rattle.sms_files.specs.ConfigFaults.{IsConfig}
use Rattle.sms_files.specs.Inputs.{Told, HasAccounts, HasFiles, HasMessages, IsFaultOfFiles, IsInput, TellsInput}
use Rattle.sms_files.specs.Messages.{messages_fault}
use Rattle.sms_files.specs.MessageRows.{AreMessages}
use Rattle.sms_files.specs.declared.config.Config.{Config}
use Rattle.sms_files.specs.declared.fault.InputFault.{InputFault}
use Rattle.sms_files.specs.declared.input.Input.{Input}

accounts_of : (rs : List Record) (os : List Opening) → AreAccounts rs os → accounts_fault rs ≡ None
accounts_of [] os are = absurd are
accounts_of (r ∷ rs) os are = are.0

pub has_accounts : (told : Told) (os : List Opening) → IfSome told (λ bytes. AreAccounts (records_of bytes) os) → HasAccounts told
has_accounts None os are = tt
has_accounts (Some bytes) os are = accounts_of (records_of bytes) os are

messages_of : (names : List Field) (rs : List Record) (ms : List Message) → AreMessages names rs ms → messages_fault rs ≡ None
messages_of names [] ms are = absurd are
messages_of names (r ∷ rs) ms are = are.0

pub has_messages : (names : List Field) (told : Told) (ms : List Message) → IfSome told (λ bytes. AreMessages names (records_of bytes) ms) → HasMessages told
has_messages names None ms are = tt
has_messages names (Some bytes) ms are = messages_of names (records_of bytes) ms are

-- an input with a config of these octets and with these files
with_config : (octets : List ℕ) (config : Config) (accounts messages : Told) (tariff : Option Told) (input : Input)
    → IsConfig octets config → input.config ≡ config → HasFiles accounts messages tariff input → IsInput octets accounts messages tariff input
with_config octets config accounts messages tariff input says same has = record {
  config_says = subst (λ (c : Config). IsConfig octets c) (sym same) says;
  openings = has.openings;
  messages_are = has.messages_are;
  tariff_is = has.tariff_is;
}

pub input_of : (octets : List ℕ) (config : Config) (accounts messages : Told) (tariff : Option Told) (r : Result Input InputFault)
    → IsConfig octets config → IfOk r (λ input. input.config ≡ config) → IfOk r (HasFiles accounts messages tariff) → IfOk r (IsInput octets accounts messages tariff)
input_of octets config accounts messages tariff (Ok input) says same has = with_config octets config accounts messages tariff input says same has
input_of octets config accounts messages tariff (Err fault) says same has = tt

pub is_fault : (octets : List ℕ) (config : Config) (accounts messages : Told) (tariff : Option Told) (r : Result Input InputFault)
    → IsConfig octets config → IfErr r (IsFaultOfFiles accounts messages tariff) → IfErr r (TellsInput octets accounts messages tariff)
is_fault octets config accounts messages tariff (Ok input) says of_files = tt
is_fault octets config accounts messages tariff (Err fault) says of_files = inr ((config, says), of_files)
