-- The plan of a file's records, and of the texts that their messages have.
use Rattle.std.proofs.Common.{◌≡◌, ◌⊎◌, ◌∙◌, inl, inr, sym, refl, ap, ap₂, ℕ, ◌+◌, List, [], ◌∷◌, ◌++◌, length, map, Option, None, Some, IfSome, codes, subst, arith}
use Rattle.std.proofs.lemmas.Slice.Zip.{AllZip-long}
use Rattle.std.specs.List.{AllZip}
use Rattle.sms_segment.specs.declared.place.Reference.{Reference}
use Rattle.sms_files.specs.Fields.{Record, records_of}
use Rattle.sms_files.specs.Messages.{AreTexts, HasText, messages_fault, text_of}
use Rattle.sms_files.specs.PlanText.{message_lines, message_plan, plan_of, text_line, text_lines}
use Rattle.sms_files.specs.Inputs.{Told}
use Rattle.sms_files.specs.declared.fault.InputFault.TheVariants as input
use Rattle.sms_files.specs.declared.fault.Source.TheVariants.{Messages}
use Rattle.sms_files.specs.declared.tables.messages.MessageText.{MessageText}
use Rattle.sms_send.specs.Opened.{OfFile}
use Rattle.sms_send.specs.Plans.{FailsPlan}
use Rattle.sms_send.specs.Runs.{IsUnreadable}
use Rattle.sms_send.specs.declared.faults.fault.Fault.{Fault}
use Rattle.sms_send.specs.declared.faults.fault.Fault.TheVariants.{OutOfMemory}

-- the texts of the records are those of the messages
lines-are : (reference : Reference) (index : ℕ) (rs : List Record) (ms : List MessageText) → AllZip HasText rs ms → text_lines reference index (map text_of rs) ≡ message_lines reference index ms
lines-are reference index [] [] h = refl
lines-are reference index [] (m ∷ ms) h = absurd h
lines-are reference index (r ∷ rs) [] h = absurd h
lines-are reference index (r ∷ rs) (m ∷ ms) h =
    ap₂ (λ (text : List ℕ) (more : List ℕ). text_line reference index text ++ more) (sym h.0) (lines-are reference (index + 1) rs ms h.1)

plan-is : (reference : Reference) (rs : List Record) (ms : List MessageText) → AreTexts rs ms → plan_of reference rs ≡ message_plan reference ms
plan-is reference [] ms h = absurd h
plan-is reference (r ∷ rs) ms h = ap (λ (lines : List ℕ). codes "message,coding,units,parts,sizes\n" ++ lines) (lines-are reference 0 rs ms h.1)

-- a text that is the plan of the messages is that of the records
pub plan-is-written : (reference : Reference) (o : Option (List ℕ)) (ms : List MessageText) (text : List ℕ) → IfSome o (λ bytes. AreTexts (records_of bytes) ms) → text ≡ message_plan reference ms
    → IfSome o (λ bytes. text ≡ plan_of reference (records_of bytes))
plan-is-written reference None ms text are e = tt
plan-is-written reference (Some bytes) ms text are e = e ∙ sym (plan-is reference (records_of bytes) ms are)

-- what holds of a text that is the plan holds of the plan
pub of-plan : (P : List ℕ → Type 0) (reference : Reference) (o : Option (List ℕ)) (text octets : List ℕ) → IfSome o (λ bytes. text ≡ plan_of reference (records_of bytes)) → octets ≡ text
    → P octets → IfSome o (λ bytes. P (plan_of reference (records_of bytes)))
of-plan P reference None text octets is e h = tt
of-plan P reference (Some bytes) text octets is e h = subst P (e ∙ is) h

-- no record of such a file is faulty
file-good : (rs : List Record) (ms : List MessageText) → AreTexts rs ms → messages_fault rs ≡ None
file-good [] ms h = absurd h
file-good (r ∷ rs) ms h = h.0

pub no-fault : (o : Option (List ℕ)) (ms : List MessageText) → IfSome o (λ bytes. AreTexts (records_of bytes) ms) → IfSome o (λ bytes. messages_fault (records_of bytes) ≡ None)
no-fault None ms h = tt
no-fault (Some bytes) ms h = file-good (records_of bytes) ms h

-- after the header it has one record for each message
counted : (rs : List Record) (ms : List MessageText) → AreTexts rs ms → length rs ≡ length ms + 1
counted [] ms h = absurd h
counted (r ∷ rs) ms h = omega (arith, AllZip-long HasText rs ms h.1)

pub one-record-each : (o : Option (List ℕ)) (ms : List MessageText) (count : ℕ) → count ≡ length ms → IfSome o (λ bytes. AreTexts (records_of bytes) ms) → IfSome o (λ bytes. count + 1 ≡ length (records_of bytes))
one-record-each None ms count is h = tt
one-record-each (Some bytes) ms count is h = ap (λ (n : ℕ). n + 1) is ∙ sym (counted (records_of bytes) ms h)

-- a file that is found and can't be read to its end, or memory for it, is a fault of a plan of it
pub unread-plan : (finds : List ℕ → Option Told → Type 0) (name : List ℕ) (told : Told) (fault : Fault) → finds name (Some told) → (fault ≡ OutOfMemory) ⊎ IsUnreadable Messages fault → OfFile finds name (λ bytes. FailsPlan (records_of bytes) fault)
unread-plan finds name None fault found tells = (None, found, tt)
unread-plan finds name (Some bytes) fault found (inl is) = (Some bytes, found, inl (input.OutOfMemory tt, inl (inr refl), is))
unread-plan finds name (Some bytes) fault found (inr (error, is)) = (Some bytes, found, inl (input.Unreadable Messages error, inl (inl (error, refl)), is))
