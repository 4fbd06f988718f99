-- How a run goes from round to round.
use Rattle.std.proofs.Common.{◌≡◌, ◌⊎◌, inl, inr, ℕ, ◌+◌, ◌<◌, ◌≤◌, true, List, [], ◌∷◌, length, refl, ap, sym, ◌∙◌, subst, arith, true≢false}
use Rattle.std.proofs.lemmas.List.{length-map}
use Rattle.std.specs.Prelude.{Option, Some, None, Result, Ok, Err, IfOk, IfErr, IfSome, OnOk}
use Rattle.std.specs.List.{AllZip}
use Rattle.sms_book.specs.Openings.{credits_of}
use Rattle.sms_book.specs.declared.opening.Opening.{Opening}
use Rattle.sms_message.specs.declared.message.Message.{Message}
use Rattle.sms_worker.specs.EndOf.{IsEndOf}
use Rattle.sms_worker.specs.Types.{MessageEnd}
use Rattle.sms_driver.specs.SendFaults.{IsFaultOfOne}
use Rattle.sms_driver.specs.Sendings.{Sent}
use Rattle.sms_driver.specs.Starts.{TellsStart}
use Rattle.sms_driver.specs.declared.ending.Sending.{Sending}
use Rattle.sms_driver.specs.declared.fault.SendFault.{SendFault}
use Rattle.sms_driver.specs.declared.fault.SendFault.TheVariants as send
use Rattle.sms_driver.specs.declared.settings.RunSettings.{RunSettings}
use Rattle.sms_driver.specs.declared.start_gate.Command.TheVariants.{Go}
use Rattle.sms_driver.specs.declared.start.StartPhase.{StartPhase}
use Rattle.sms_driver.specs.declared.start.StartPhase.TheVariants.{Idle, Released}
use Rattle.sms_journal.proofs.Over.{length_left}
use Rattle.sms_journal.specs.Left.{SaysSame, count_left, free_in, left_in}
use Rattle.sms_send.proofs.RoundSums.{each_of, some_left, zip_length}
use Rattle.sms_send.specs.Rounds.{AreNumbered, AreRounds, ComesAfter, ComesTo, EndsRun, EndsWith, FailsRounds, GoesOnWith, IsNextRound, OfARound, Round, StandsAt, TellsRound, left_by, may_follow, may_mend}
use Rattle.sms_send.specs.declared.faults.fault.Fault.{Fault}

not_both : (begun : StartPhase) → begun ≡ Idle → begun ≡ Released Go → ⊥
not_both begun idle go = absurd (cc)

-- numbers below a number are below a greater one
numbered_below : (low high more : ℕ) (rounds : List Round) → high ≤ more → AreNumbered low high rounds → AreNumbered low more rounds
numbered_below low high more [] less are = tt
numbered_below low high more (r ∷ before) less (above, below, others) = (above, omega arith, others)

module _ (refuses : ℕ → ℕ → Type 0) (tells : ℕ → ℕ → Option (List ℕ)) (settings : RunSettings) (openings : List Opening) (ms : List Message) (earlier : ℕ) where
  abbrev credits : List ℕ
  credits = credits_of openings

  accounts : length openings ≡ length credits
  accounts = sym (length-map openings (λ (o : Opening). o.credits))

  -- the number of the round that follows so many
  abbrev next_number : ℕ → ℕ
  next_number most = earlier + most + 1

  above_all : (most : ℕ) → earlier < earlier + most + 1
  above_all most = omega arith

  below_next : (most : ℕ) → earlier + most + 1 < earlier + (most + 1) + 1
  below_next most = omega arith

  no_later : (most more : ℕ) → most ≤ more → earlier + most + 1 ≤ earlier + more + 1
  no_later most more low = omega arith

  -- the length of what a further round ended with
  later_long : (came sending : Sending) (most : ℕ) → ComesTo tells settings openings ms earlier most came → IsNextRound (tells (next_number most)) settings openings ms (Some came) sending → length sending.ends.items ≡ count_left came.ends.items
  later_long came sending most (rounds, are, numbered) (given, same, sent) =
      zip_length (IsEndOf settings.rules (length openings)) given sending.ends.items sent.ends
      ∙ zip_length SaysSame (left_in ms came.ends.items) given same
      ∙ length_left ms came.ends.items (each_of tells settings credits ms rounds came.ends.items came.statement are).0

  one_more : (rounds : List Round) (r : Round) (came after : Sending) → AreRounds tells settings credits ms rounds came.ends.items came.statement → 0 < count_left came.ends.items
      → AllZip SaysSame (left_in ms came.ends.items) r.messages → Sent settings (tells r.number) (length credits) (free_in came.statement) r.messages r.sending → ComesAfter (Some came) r.sending after
      → AreRounds tells settings credits ms (r ∷ rounds) after.ends.items after.statement
  one_more [] r came after are some same sent comes = absurd are
  one_more (q ∷ before) r came after are some same sent comes = (
    came.ends.items,
    came.statement,
    are,
    record { some = some; same = same; sent = sent; ends_are = comes.0; rows_are = comes.1 },
  )

  abbrev round_of : ℕ → List Message → Sending → Round
  round_of most given sending = record { number = next_number most; messages = given; sending = sending }

  with_sent : (most : ℕ) (begun : StartPhase) (came : Option Sending) (sending after : Sending) → StandsAt tells settings openings ms earlier most begun came → IsNextRound (tells (next_number most)) settings openings ms came sending → ComesAfter came sending after
      → ComesTo tells settings openings ms earlier (most + 1) after
  with_sent most begun None sending after stands (given, same, sent) comes = (
    round_of most given sending ∷ [],
    record {
      same = same;
      sent = subst (λ (n : ℕ). Sent settings (tells (next_number most)) n credits given sending) accounts sent;
      ends_are = ap (λ (s : Sending). s.ends.items) comes;
      rows_are = ap (λ (s : Sending). s.statement) comes;
    },
    (above_all most, below_next most, tt),
  )
  with_sent most begun (Some came) sending after (go, some, (rounds, are, numbered)) (given, same, sent) comes = (
    round_of most given sending ∷ rounds,
    one_more rounds (round_of most given sending) came after are some same (subst (λ (n : ℕ). Sent settings (tells (next_number most)) n (free_in came.statement) given sending) accounts sent) comes,
    (above_all most, below_next most, numbered),
  )

  no_fewer : (most more : ℕ) (came : Sending) → most ≤ more → ComesTo tells settings openings ms earlier most came → ComesTo tells settings openings ms earlier more came
  no_fewer most more came low (rounds, are, numbered) = (rounds, are, numbered_below earlier (next_number most) (next_number more) rounds (no_later most more low) numbered)

  some_after : (most : ℕ) (begun : StartPhase) (came : Option Sending) (sending after : Sending) → StandsAt tells settings openings ms earlier most begun came → IsNextRound (tells (next_number most)) settings openings ms came sending → ComesAfter came sending after
      → 0 < count_left sending.ends.items → 0 < count_left after.ends.items
  some_after most begun None sending after stands next comes some = subst (λ (s : Sending). 0 < count_left s.ends.items) (sym comes) some
  some_after most begun (Some came) sending after (go, left, came_to) next comes some =
      let long = later_long came sending most came_to next in
      subst (λ (l : List MessageEnd). 0 < count_left l) (sym comes.0) (subst (λ (n : ℕ). 0 < n) (sym (some_left came.ends.items sending.ends.items long)) some)

  -- a failed round that another may repair leaves a start as it was

  still_idle : (f : SendFault) (begun : StartPhase) → may_mend f ≡ true → TellsStart begun f → begun ≡ Idle
  still_idle (send.BindFailed bind why) begun mends starts = starts
  still_idle (send.BindRefused bind status) begun mends starts = starts
  still_idle (send.BookRefused why) begun mends starts = starts
  still_idle send.ThreadRefused begun mends starts = absurd (true≢false (sym mends))
  still_idle send.OutOfMemory begun mends starts = absurd (true≢false (sym mends))

  kept_idle : (f : SendFault) (old new : StartPhase) → old ≡ Idle → may_mend f ≡ true → TellsRound old new f → new ≡ Idle
  kept_idle f old new idle mends (inl starts) = still_idle f new mends starts.1
  kept_idle f old new idle mends (inr same) = same.1 ∙ idle

  kept_released : (f : SendFault) (old new : StartPhase) → old ≡ Released Go → TellsRound old new f → new ≡ Released Go
  kept_released f old new go (inl starts) = absurd (not_both old starts.0 go)
  kept_released f old new go (inr same) = same.1 ∙ go

  told_idle : (f : SendFault) (old new : StartPhase) → old ≡ Idle → TellsRound old new f → TellsStart new f
  told_idle f old new idle (inl starts) = starts.1
  told_idle f old new idle (inr same) = absurd (not_both old idle same.0)

  -- a step

  stays : (most : ℕ) (f : SendFault) (old new : StartPhase) (came : Option Sending) → StandsAt tells settings openings ms earlier most old came → may_mend f ≡ true → TellsRound old new f
      → StandsAt tells settings openings ms earlier (most + 1) new came
  stays most f old new None idle mends starts = kept_idle f old new idle mends starts
  stays most f old new (Some came) (go, some, comes) mends starts = (kept_released f old new go starts, some, no_fewer most (most + 1) came (omega arith) comes)

  steps_on : (most : ℕ) (old new : StartPhase) (came next : Option Sending) (sent : Result Sending SendFault) → StandsAt tells settings openings ms earlier most old came
      → IfOk sent (IsNextRound (tells (earlier + most + 1)) settings openings ms came) → OnOk sent (new ≡ Released Go) → IfErr sent (TellsRound old new) → may_follow sent ≡ true → 0 < left_by (length ms) came sent → GoesOnWith came sent next
      → StandsAt tells settings openings ms earlier (most + 1) new next
  steps_on most old new came None (Ok sending) stands is go starts mends some goes = absurd goes
  steps_on most old new came (Some after) (Ok sending) stands is go starts mends some goes = (go, some_after most old came sending after stands is goes some, with_sent most old came sending after stands is goes)
  steps_on most old new came next (Err f) stands is go starts mends some goes = subst (λ (n : Option Sending). StandsAt tells settings openings ms earlier (most + 1) new n) (sym goes) (stays most f old new came stands mends starts)

  steps_over : (most : ℕ) (old new : StartPhase) (came : Option Sending) (sent : Result Sending SendFault) (ended : Result Sending Fault) → StandsAt tells settings openings ms earlier most old came
      → IfOk sent (IsNextRound (tells (earlier + most + 1)) settings openings ms came) → OnOk sent (new ≡ Released Go) → IfErr sent (TellsRound old new)
      → IfErr sent (IsFaultOfOne (refuses (earlier + most + 1)) (tells (earlier + most + 1)) settings.bind_settings.settings.mode settings.binds) → EndsWith came sent ended
      → EndsRun refuses tells settings openings ms earlier most new ended
  steps_over most old new came (Ok sending) (Ok after) stands is go starts why ends = (go, with_sent most old came sending after stands is ends)
  steps_over most old new came (Ok sending) (Err fault) stands is go starts why ends = absurd ends
  steps_over most old new None (Err f) ended stands is go starts why ends =
      subst (λ (e : Result Sending Fault). EndsRun refuses tells settings openings ms earlier most new e) (sym ends) (f, why, told_idle f old new stands starts, refl)
  steps_over most old new (Some came) (Err f) ended (began, some, comes) is go starts why ends =
      subst (λ (e : Result Sending Fault). EndsRun refuses tells settings openings ms earlier most new e) (sym ends) (kept_released f old new began starts, no_fewer most (most + 1) came (omega arith) comes)

  -- the same by the number of the round
  pub step_on : (most n : ℕ) (old new : StartPhase) (came next : Option Sending) (sent : Result Sending SendFault) → n ≡ next_number most → StandsAt tells settings openings ms earlier most old came
      → IfOk sent (IsNextRound (tells n) settings openings ms came) → OnOk sent (new ≡ Released Go) → IfErr sent (TellsRound old new) → may_follow sent ≡ true → 0 < left_by (length ms) came sent → GoesOnWith came sent next
      → StandsAt tells settings openings ms earlier (most + 1) new next
  step_on most n old new came next sent same stands is go starts mends some goes =
      steps_on most old new came next sent stands (subst (λ (m : ℕ). IfOk sent (IsNextRound (tells m) settings openings ms came)) same is) go starts mends some goes

  pub step_over : (most n : ℕ) (old new : StartPhase) (came : Option Sending) (sent : Result Sending SendFault) (ended : Result Sending Fault) → n ≡ next_number most → StandsAt tells settings openings ms earlier most old came
      → IfOk sent (IsNextRound (tells n) settings openings ms came) → OnOk sent (new ≡ Released Go) → IfErr sent (TellsRound old new)
      → IfErr sent (IsFaultOfOne (refuses n) (tells n) settings.bind_settings.settings.mode settings.binds) → EndsWith came sent ended
      → EndsRun refuses tells settings openings ms earlier most new ended
  step_over most n old new came sent ended same stands is go starts why ends =
      steps_over most old new came sent ended stands (subst (λ (m : ℕ). IfOk sent (IsNextRound (tells m) settings openings ms came)) same is) go starts
      (subst (λ (m : ℕ). IfErr sent (IsFaultOfOne (refuses m) (tells m) settings.bind_settings.settings.mode settings.binds)) same why) ends

  -- the end

  pub started : (most : ℕ) (begun : StartPhase) (ended : Result Sending Fault) → EndsRun refuses tells settings openings ms earlier most begun ended → OnOk ended (begun ≡ Released Go)
  started most begun (Ok came) ends = ends.0
  started most begun (Err fault) ends = tt

  pub came_to : (most more : ℕ) (begun : StartPhase) (ended : Result Sending Fault) → most ≤ more → EndsRun refuses tells settings openings ms earlier most begun ended → IfOk ended (ComesTo tells settings openings ms earlier (more + 1))
  came_to most more begun (Ok came) low (go, comes) = no_fewer (most + 1) (more + 1) came (omega arith) comes
  came_to most more begun (Err fault) low ends = tt

  among : (most more : ℕ) → most ≤ more → earlier + most + 1 ≤ earlier + (more + 1)
  among most more low = omega arith

  pub failed : (most more : ℕ) (begun : StartPhase) (ended : Result Sending Fault) → most ≤ more → EndsRun refuses tells settings openings ms earlier most begun ended
      → IfErr ended (λ fault. OfARound earlier (more + 1) (λ round. FailsRounds (refuses round) (tells round) settings begun fault))
  failed most more begun (Ok came) low ends = tt
  failed most more begun (Err fault) low ends = (next_number most, above_all most, among most more low, ends)

  -- the rows of what a run came to, where it goes on
  pub rows_if : (most : ℕ) (begun : StartPhase) (came : Option Sending) → StandsAt tells settings openings ms earlier most begun came → IfSome came (λ c. length c.statement ≡ length openings)
  rows_if most begun None stands = tt
  rows_if most begun (Some came) (go, some, (rounds, are, numbered)) = (each_of tells settings credits ms rounds came.ends.items came.statement are).1 ∙ sym accounts

  pub may_begin : (most : ℕ) (begun : StartPhase) (came : Option Sending) → StandsAt tells settings openings ms earlier most begun came → (begun ≡ Idle) ⊎ (begun ≡ Released Go)
  may_begin most begun None stands = inl stands
  may_begin most begun (Some came) stands = inr stands.0
