-- The requests of all workers are the frames of their ends.
use Rattle.std.proofs.Common.{◌≡◌, ◌++◌, ℕ, List, [], ◌∷◌, map, refl, ap, ◌∙◌, subst, arith}
use Rattle.std.specs.List.{AllByRecursion, AllZip}
use Rattle.sms_bind.specs.Frames.{weigh, AreSame}
use Rattle.sms_bind.proofs.Weights.{weigh-append}
use Rattle.sms_book.specs.Name.{BookId}
use Rattle.sms_message.specs.declared.rules.Rules.{Rules}
use Rattle.sms_worker.specs.Frames.{frames_in}
use Rattle.sms_worker.specs.ReadyState.{ReadyState}
use Rattle.sms_worker.specs.Types.{MessageEnd}
use Rattle.sms_worker.specs.declared.entry.work.WorkerEnd.{WorkerEnd}
use Rattle.sms_driver.specs.Rings.{flat}
use Rattle.sms_driver.specs.Worked.{IsWorkOf}

-- where no worker had any before, each has the frames of its ends
pub all_handed_on : {N : Type 0} (book : BookId) (rules : Rules) (assignments : List (ReadyState N)) (ds : List (WorkerEnd N)) → AllByRecursion (λ r. r ≡ []) (map (λ a. a.worker.requests) assignments) → AllZip (IsWorkOf book rules) assignments ds
    → AllByRecursion (λ d. AreSame d.requests (frames_in d.ends.items)) ds
all_handed_on book rules [] [] none works = tt
all_handed_on book rules [] (d ∷ ds) none works = absurd works
all_handed_on book rules (a ∷ others) [] none works = absurd works
all_handed_on book rules (a ∷ others) (d ∷ ds) none works = (subst (λ (l : List (List ℕ)). AreSame d.requests (l ++ frames_in d.ends.items)) none.0 works.0.handed, all_handed_on book rules others ds none.1 works.1)

weigh_flat : {N : Type 0} (h : List ℕ → ℕ) (ds : List (WorkerEnd N)) → AllByRecursion (λ d. AreSame d.requests (frames_in d.ends.items)) ds
    → weigh h (flat (map (λ d. d.requests) ds)) ≡ weigh h (flat (map frames_in (map (λ d. d.ends.items) ds)))
weigh_flat h [] each = refl
weigh_flat h (d ∷ ds) each =
    let a = weigh-append h d.requests (flat (map (λ (e : WorkerEnd _). e.requests) ds)) in
    let b = weigh-append h (frames_in d.ends.items) (flat (map frames_in (map (λ (e : WorkerEnd _). e.ends.items) ds))) in
    let c = each.0 h in
    let e = weigh_flat h ds each.1 in
    omega arith

-- so do all together, beside whatever else was given
pub are_handed_on : {N : Type 0} (ds : List (WorkerEnd N)) (given others : List (List ℕ)) (ess : List (List MessageEnd)) → AllByRecursion (λ d. AreSame d.requests (frames_in d.ends.items)) ds → map (λ d. d.ends.items) ds ≡ ess
    → AreSame given (flat (map (λ d. d.requests) ds) ++ others) → AreSame given (flat (map frames_in ess) ++ others)
are_handed_on ds given others ess each same settled h =
    let a = weigh-append h (flat (map (λ (d : WorkerEnd _). d.requests) ds)) others in
    let b = weigh-append h (flat (map frames_in ess)) others in
    let c = weigh_flat h ds each ∙ ap (λ l. weigh h (flat (map frames_in l))) same in
    let d = settled h in
    omega arith
