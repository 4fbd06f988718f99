-- What is true of the charges of a run of several rounds, in the words of SMPP.
use Rattle.std.specs.Prelude.{◌≡◌, ◌⊎◌, ◌<◌, ℕ, List, [], ◌∷◌, Option}
use mathlib.Core.Logic.{inl, inr}
use Rattle.sms_worker.specs.Types.{MessageEnd, SegmentEnd}
use Rattle.sms_files.specs.Inputs.{Told}
use Rattle.sms_files.specs.declared.input.Input.{Input}
use Rattle.sms_send.specs.Laws.{AreApart, ChargedPart, WereRead}
use Rattle.sms_send.specs.Rounds.{IsResumed, IsRun, Round}
use Rattle.sms_send.specs.declared.args.send_args.Again.{Again}
use Rattle.sms_journal.specs.declared.recovery.resuming.JournaledRun.{JournaledRun}
use Rattle.sms_send.specs.declared.sending.resumed.Resumed.{Resumed}
use Rattle.sms_send.specs.declared.sending.sender.Ended.{Ended}

-- of a round: each charged part has a place among the answers in what was read of one of the round's binds, and no two parts have one place of one bind
pub record IsRead (tells : ℕ → ℕ → Told) (binds workers : ℕ) (r : Round) : Type 0 where
  pub were : WereRead (tells r.number) binds workers r.sending.ends.items
  pub apart : AreApart (tells r.number) binds workers r.sending.ends.items were

-- of each of these rounds
abbrev pub AreRead : (ℕ → ℕ → Told) → ℕ → ℕ → List Round → Type 0
AreRead tells binds workers [] = Unit {0}
AreRead tells binds workers (r ∷ rounds) = IsRead tells binds workers r × AreRead tells binds workers rounds

-- the segment is that of a charged part of one of the rounds
abbrev pub IsChargedIn : List Round → SegmentEnd → Type 0
IsChargedIn [] s = ⊥
IsChargedIn (r ∷ rounds) s = ((x : ChargedPart r.sending.ends.items) × (x.segment ≡ s)) ⊎ IsChargedIn rounds s

-- where an answer stands: among the answers in what was read of a bind, in the round with this number
pub record AnswerPlace : Type 0 where
  pub round : ℕ
  pub bind : ℕ
  pub place : ℕ

-- the one on which such a part rests
abbrev pub answer_place : (tells : ℕ → ℕ → Told) (binds workers : ℕ) (rounds : List Round) → AreRead tells binds workers rounds → (s : SegmentEnd) → IsChargedIn rounds s → AnswerPlace
answer_place tells binds workers [] read s one = absurd one
answer_place tells binds workers (r ∷ rounds) read s (inl x) = record { round = r.number; bind = read.0.were.bind x.0; place = read.0.were.place x.0 }
answer_place tells binds workers (r ∷ rounds) read s (inr x) = answer_place tells binds workers rounds read.1 s x

-- two such parts rest on one answer: one place among those that were read of one bind in one round
abbrev pub HaveOneAnswer : (tells : ℕ → ℕ → Told) (binds workers : ℕ) (rounds : List Round) → AreRead tells binds workers rounds → (s t : SegmentEnd) → IsChargedIn rounds s → IsChargedIn rounds t → Type 0
HaveOneAnswer tells binds workers rounds read s t one other = answer_place tells binds workers rounds read s one ≡ answer_place tells binds workers rounds read t other

-- each charged part of the run is one of a round's, and no two parts of the run rest on one answer, in whatever rounds they were charged
pub record RestOnAnswers (tells : ℕ → ℕ → Told) (binds workers : ℕ) (rounds : List Round) (es : List MessageEnd) : Type 0 where
  pub read : AreRead tells binds workers rounds
  pub of_round : (x : ChargedPart es) → IsChargedIn rounds x.segment
  pub apart : (x y : ChargedPart es) → HaveOneAnswer tells binds workers rounds read x.segment y.segment (of_round x) (of_round y) → (x.message ≡ y.message) × (x.part ≡ y.part)

-- of whatever a run of rounds sent, over one or more binds, of one or more workers each
abbrev pub EachChargeOfARun : Type 0
EachChargeOfARun = (tells : ℕ → ℕ → Told) (again : Again) (input : Input) (ended : Ended) (run : IsRun tells again input ended) → 0 < input.config.limits.binds → 0 < input.config.limits.workers
    → RestOnAnswers tells run.settings.binds run.settings.workers run.rounds ended.ends.items

-- of whatever the further rounds sent of a run that went on after its journal, whose rounds were before them
abbrev pub EachChargeOfAResumedRun : Type 0
EachChargeOfAResumedRun = (tells : ℕ → ℕ → Told) (again : Option Again) (run : JournaledRun) (resumed : Resumed) (is : IsResumed tells again run resumed) → 0 < run.config.limits.binds → 0 < run.config.limits.workers
    → RestOnAnswers tells is.settings.binds is.settings.workers is.come.0 is.came.ends.items
