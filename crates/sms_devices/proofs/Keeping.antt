-- What an inbox keeps of a stream, and how often.
use Rattle.std.proofs.Common.{◌≡◌, ℕ, ◌+◌, ◌≤◌, List, length, subst, arith}
use Rattle.std.specs.Prelude.{IfOk, Option, Result, Ok, Err}
use Rattle.sms_pdu.proofs.Divisions.{one_division}
use Rattle.sms_inbox.specs.Arrivals.{IsPage, deliveries}
use Rattle.sms_inbox.specs.Files.{HasKept, count_of}
use Rattle.sms_inbox.specs.declared.file.Kept.{Kept}
use Rattle.sms_inbox.specs.declared.file.Unkept.{Unkept}
use Rattle.sms_bind.specs.Devices.{KeptOnce}

pub page_once : (time bind : ℕ) (stream page : List ℕ) (count : ℕ) → IsPage time bind stream page count → KeptOnce stream 0 count
page_once time bind stream page count p frames rest d =
    let same = (one_division stream p.frames frames p.rest rest p.divided d).0 in
    let counted = p.counted in
    subst (λ (fs : List (List ℕ)). count ≤ 0 + length (deliveries fs)) same (omega (arith, counted))

pub kept_once : {F : Type 0} (contents : F → Option (List ℕ)) (time bind : ℕ) (stream : List ℕ) (old new : F) (result : Result Kept Unkept) → IfOk result (λ kept. HasKept contents time bind stream (count_of kept) old new)
    → IfOk result (λ kept. KeptOnce stream 0 (count_of kept))
kept_once contents time bind stream old new (Ok kept) has = page_once time bind stream has.page (count_of kept) has.is
kept_once contents time bind stream old new (Err unkept) has = tt

-- nothing was to be kept
pub none_once : (stream : List ℕ) (count : ℕ) → count ≡ 0 → KeptOnce stream 0 count
none_once stream count none frames rest d = omega (arith, none)

-- added to what was kept before
pub more_once : (stream : List ℕ) (old new count : ℕ) → new ≤ old + count → KeptOnce stream 0 count → KeptOnce stream old new
more_once stream old new count least once frames rest d =
    let most = once frames rest d in
    omega (arith, least, most)

pub none_more : (stream : List ℕ) (old : ℕ) → KeptOnce stream old old
none_more stream old frames rest d = omega arith
