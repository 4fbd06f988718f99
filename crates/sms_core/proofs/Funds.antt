-- What every account was topped up with, and where it stands.
use Rattle.std.proofs.Common.{◌≡◌, ℕ, zero, suc, ◌+◌, ◌<◌, ◌==◌, List, [], ◌∷◌, length, set, get_or, refl, sym, ap, ◌∙◌, arith, eq-eqb, ne_eqb}
use Rattle.std.specs.Prelude.{if◌then◌else◌, replicate}
use mathlib.Core.Logic.{dite}
use native.Mathlib.Decide.{ℕ_discrete}
use Rattle.std.proofs.lemmas.List.{get_or-set_same, get_or-set_other}
use Rattle.sms_core.specs.declared.event.Event.{Event}
use Rattle.sms_core.specs.declared.event.Event.TheVariants.{TopUp, Reserve, Claim, Post, Respond, Settle, Expire, Discard, Release}
use Rattle.sms_core.specs.declared.event.Cause.{Cause}
use Rattle.sms_core.specs.declared.event.Step.{Step}
use Rattle.sms_core.specs.declared.event.Step.TheVariants.{Done, Ignored}
use Rattle.sms_core.specs.declared.mark.Mark.{Mark}
use Rattle.sms_core.specs.declared.mark.Mark.TheVariants.{Empty, Open, Replied}
use Rattle.sms_core.specs.CoreLaws.{RowsBalance, ToppedIsSum}
use Rattle.sms_core.specs.State.{State, new_world, topped_of, mark_of}
use Rattle.sms_core.specs.Steps.{Steps, Settles, Expires}
use Rattle.sms_core.specs.Histories.{Moment, IsHistory, topped_by, topped_up}
use Rattle.sms_core.proofs.Runs.{first_step, later_steps}
use Rattle.sms_core.proofs.Sound.{sound}
use Rattle.sms_core.proofs.Done.{top_up_done, claim_done, release_done}

same_topped : (account : ℕ) (old new with : State) → new ≡ with → with.topped ≡ old.topped → topped_of new account ≡ topped_of old account + 0
same_topped account old new with e t = let same : get_or new.topped account 0 ≡ get_or old.topped account 0 = ap (λ (l : List ℕ). get_or l account 0) (ap (λ (w : State). w.topped) e ∙ t) in omega arith

settle_topped : (account : ℕ) (m : Mark) (old new : State) (slot : ℕ) → Settles old slot m new → topped_of new account ≡ topped_of old account + 0
settle_topped account Empty old new slot s = absurd s
settle_topped account (Open r n) old new slot s = absurd s
settle_topped account (Replied r n k b) old new slot s = same_topped account old new _ s refl

expire_topped : (account : ℕ) (m : Mark) (old new : State) (slot : ℕ) → Expires old slot m new → topped_of new account ≡ topped_of old account + 0
expire_topped account Empty old new slot s = absurd s
expire_topped account (Open r n) old new slot s = same_topped account old new _ s refl
expire_topped account (Replied r n k b) old new slot s = absurd s

more_topped : (account other amount : ℕ) (topped : List ℕ) → other < length topped
    → get_or (set topped other (get_or topped other 0 + amount)) account 0 ≡ get_or topped account 0 + (if other == account then amount else 0)
more_topped account other amount topped inside = dite (ℕ_discrete other account)
    (λ is.
    let n : ℕ = get_or topped other 0 + amount in
    let new : get_or (set topped other n) account 0 ≡ n = ap (λ (k : ℕ). get_or (set topped other n) k 0) (sym is) ∙ get_or-set_same topped other n 0 inside in
    let was : get_or topped other 0 ≡ get_or topped account 0 = ap (λ (k : ℕ). get_or topped k 0) is in
    rw (eq-eqb other account is) (omega arith))
    (λ ne. let new = get_or-set_other topped other account (get_or topped other 0 + amount) 0 (λ h. ne (sym h)) in rw (ne_eqb other account ne) (omega arith))

ignored_tops : (account : ℕ) (event : Event) (cause : Cause) → topped_by account event (Ignored cause) ≡ 0
ignored_tops account (TopUp other amount) cause = refl
ignored_tops account (Reserve request other cost) cause = refl
ignored_tops account (Claim worker slot) cause = refl
ignored_tops account (Post worker slot request) cause = refl
ignored_tops account (Respond number status nack) cause = refl
ignored_tops account (Settle worker slot) cause = refl
ignored_tops account (Expire worker slot) cause = refl
ignored_tops account (Discard request) cause = refl
ignored_tops account (Release worker slot) cause = refl

topped_step : (account : ℕ) (event : Event) (answer : Step) (old new : State) → Steps old event answer new → topped_of new account ≡ topped_of old account + topped_by account event answer
topped_step account event (Ignored cause) old new s = let none = ignored_tops account event cause in let same = same_topped account old new old s.1 refl in omega arith
topped_step account (TopUp other amount) Done old new s =
    ap (λ (w : State). topped_of w account) s.1 ∙ more_topped account other amount old.topped (top_up_done old new other amount s).account_there
topped_step account (Reserve request other cost) Done old new s = same_topped account old new _ s.1 refl
topped_step account (Claim worker slot) Done old new s = same_topped account old new _ (claim_done old new worker slot s).after refl
topped_step account (Post worker slot request) Done old new s = same_topped account old new _ s.1 refl
topped_step account (Respond number status nack) Done old new s = same_topped account old new _ s.1.after refl
topped_step account (Settle worker slot) Done old new s = settle_topped account (mark_of old slot) old new slot s.1
topped_step account (Expire worker slot) Done old new s = expire_topped account (mark_of old slot) old new slot s.1
topped_step account (Discard request) Done old new s = same_topped account old new _ s.1 refl
topped_step account (Release worker slot) Done old new s = same_topped account old new _ (release_done old new worker slot s).after refl

topped_run : (account : ℕ) (ms : List Moment) (old new : State) → IsHistory old ms new → topped_of new account ≡ topped_of old account + topped_up account ms
topped_run account [] old new h = same_topped account old new old h refl
topped_run account (m ∷ ms) old new h =
    let one = topped_step account m.event m.answer old m.after (first_step m ms old new h) in
    let rest = topped_run account ms m.after new (later_steps m ms old new h) in
    omega arith

nothing : (account n : ℕ) → get_or (replicate {A = ℕ} n 0) account 0 ≡ 0
nothing account zero = refl
nothing zero (suc n) = refl
nothing (suc account) (suc n) = nothing account n

pub topped_is_sum : ToppedIsSum
topped_is_sum ms w account h =
    let run = topped_run account ms (new_world h.accounts h.limit h.attempts) w h.history in
    let start : topped_of (new_world h.accounts h.limit h.attempts) account ≡ 0 = nothing account h.accounts in
    omega arith

pub rows_balance : RowsBalance
rows_balance ms w account h = let f = (sound ms w h).funded account in omega arith
