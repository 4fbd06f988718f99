-- What was done by the program's arguments, and why it wasn't.
use Rattle.std.proofs.Common.{◌≡◌, ◌∙◌, inl, inr, sym, subst, ℕ, List, Option, Some, None, Result, Ok, Err, IfErr}
use Rattle.std.specs.Prelude.{IfOk, OnOk, Bool}
use Rattle.clap.specs.Words.{Row, Text}
use Rattle.sms_devices.specs.Centres.{CentreAt}
use Rattle.sms_files.specs.Inputs.{Told}
use Rattle.sms_send.specs.Asked.{AsksForDetails, AsksForJob, FailsAsAsked, LacksJob, OfAsked, WorksAsAsked}
use Rattle.sms_send.specs.CommandLine.{RefusesAs, RefusesMatch, refusals_of, subcommand_in}
use Rattle.sms_send.specs.Faults.{output_failed}
use Rattle.sms_send.specs.Jobs.{Does, FailsJob, IsStatusOf}
use Rattle.sms_send.specs.declared.args.send_args.JournalFile.{JournalFile}
use Rattle.sms_send.specs.declared.faults.fault.Fault.{Fault}
use Rattle.sms_send.specs.declared.args.job.Job.{Job}

-- what holds of a job that arguments ask for holds of one that is asked for
pub of_asked : (has : Option (List Text) → Type 0) (verbose : Bool) (job : Job) (P : Job → Type 0) → AsksForJob has verbose job → P job → OfAsked has P
of_asked has verbose job P asks holds = (asks.words, asks.given, job, asks.is, holds)

pub works_asked : {S : Type 0} (r : Result ℕ Fault) (has : Option (List Text) → Type 0) (verbose : Bool) (job : Job) (standard : S → Told) (finds : List ℕ → Option Told → Type 0) (tells : CentreAt → Bool → ℕ → ℕ → Told) (books : Job → Option (List ℕ) → Option (List ℕ) → ℕ → Type 0) (beside : Job → Type 0)
    (old new : Option (List ℕ)) → AsksForJob has verbose job → IfOk r (IsStatusOf job) → IfOk r (Does standard finds tells books job old new) → OnOk r (beside job) → IfOk r (WorksAsAsked has standard finds tells books beside old new)
works_asked (Ok status) has verbose job standard finds tells books beside old new asks is done warned =
    of_asked has verbose job (λ job. IsStatusOf job status × Does standard finds tells books job old new status × beside job) asks (is, done, warned)
works_asked (Err fault) has verbose job standard finds tells books beside old new asks is done warned = tt

pub fails_asked : {S : Type 0} (r : Result ℕ Fault) (has : Option (List Text) → Type 0) (verbose : Bool) (job : Job) (begins : JournalFile → Fault → Type 0) (refuses holds : List ℕ → Type 0) (unbooked : Job → Option (List ℕ) → Option (List ℕ) → Fault → Type 0) (standard : S → Told) (finds : List ℕ → Option Told → Type 0)
    (tells : CentreAt → Bool → ℕ → ℕ → Told) (old new : Option (List ℕ)) → AsksForJob has verbose job → IfErr r (FailsJob begins refuses holds unbooked standard finds tells job old new) → IfErr r (FailsAsAsked has begins refuses holds unbooked standard finds tells old new)
fails_asked (Ok status) has verbose job begins refuses holds unbooked standard finds tells old new asks fails = tt
fails_asked (Err fault) has verbose job begins refuses holds unbooked standard finds tells old new asks fails =
    inr (of_asked has verbose job (λ job. FailsJob begins refuses holds unbooked standard finds tells job old new fault) asks fails)

pub ok_asked : (r : Result ℕ Fault) (has : Option (List Text) → Type 0) (verbose : Bool) (job : Job) (P : Job → Type 0) → AsksForJob has verbose job → P job → OnOk r (OfAsked has P)
ok_asked (Ok status) has verbose job P asks holds = of_asked has verbose job P asks holds
ok_asked (Err fault) has verbose job P asks holds = tt

pub front_asked : (r : Result ℕ Fault) (has : Option (List Text) → Type 0) (verbose : Bool) (job : Job) (P : Job → Type 0) → AsksForJob has verbose job
    → IfErr r (λ fault. fault ≡ output_failed → P job) → IfErr r (λ fault. fault ≡ output_failed → OfAsked has P)
front_asked (Ok status) has verbose job P asks front = tt
front_asked (Err fault) has verbose job P asks front = λ out. of_asked has verbose job P asks (front out)

pub details_asked : (r : Result ℕ Fault) (has : Option (List Text) → Type 0) (verbose : Bool) (job : Job) → AsksForJob has verbose job → IfErr r (AsksForDetails has verbose)
details_asked (Ok status) has verbose job asks = tt
details_asked (Err fault) has verbose job asks = inr (asks.words, asks.given, asks.details)

-- that there is no job is no fault of an output
met_no_output : (o : Option (Text × List Row)) (fault : Fault) → RefusesMatch o fault → fault ≡ output_failed → ⊥
met_no_output None fault refuses is = absurd refuses
met_no_output (Some found) fault (inl memory) is = let bad = sym memory ∙ is in cc
met_no_output (Some found) fault (inr ((why, words), reason)) is = let bad = sym words ∙ is in cc

pub lacks_no_output : {A : Type 0} (has : Option (List Text) → Type 0) (fault : Fault) → LacksJob has fault → fault ≡ output_failed → A
lacks_no_output has fault (inl (inl memory)) is = let bad = sym memory ∙ is in cc
lacks_no_output has fault (inl (inr ((why, words), none))) is = let bad = sym words ∙ is in cc
lacks_no_output has fault (inr (words, given, inl refuses)) is = absurd (subst (RefusesAs (refusals_of words)) is refuses)
lacks_no_output has fault (inr (words, given, inr (none, refuses))) is = absurd (met_no_output (subcommand_in words) fault refuses is)
