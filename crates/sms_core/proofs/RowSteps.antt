-- What a step does to the accounts' rows.
use Rattle.std.proofs.Common.{◌≡◌, ◌≢◌, ℕ, ◌+◌, ◌-◌, ◌<◌, ◌≤◌, ◌==◌, nat_lt, List, Bool, true, false, map, length, set, get_or, Some, None, refl, sym, ap, ◌∙◌, subst, arith, eq-eqb, ne_eqb, length-set}
use Rattle.std.specs.Prelude.{if◌then◌else◌}
use mathlib.Core.Logic.{dite}
use native.Mathlib.Decide.{ℕ_discrete}
use Rattle.std.proofs.lemmas.Bool.{lt-ltb}
use Rattle.std.proofs.lemmas.List.{get_or-set_same, get_or-set_other}
use Rattle.sms_core.specs.declared.event.Event.{Event}
use Rattle.sms_core.specs.declared.event.Event.TheVariants.{TopUp, Reserve, Claim, Post, Respond, Settle, Expire, Discard, Release}
use Rattle.sms_core.specs.declared.event.Step.TheVariants.{Done}
use Rattle.sms_core.specs.declared.request.Phase.{Phase}
use Rattle.sms_core.specs.declared.request.Phase.TheVariants.{Ready, Open, Charged, Refused, Unanswered, Unsent}
use Rattle.sms_core.specs.declared.request.Request.{Request}
use Rattle.sms_core.specs.declared.request.RequestState.{RequestState}
use Rattle.sms_core.specs.declared.row.Row.{Row}
use Rattle.sms_core.specs.Rows.{over, reserved_of, charged_of, returned_of}
use Rattle.sms_core.specs.RowMoves.{row_topped_up, row_reserved, row_given_back, row_after}
use Rattle.sms_core.specs.State.{State, topped_of, row_at, rows, entry_of, request_of, changed, mark_of}
use Rattle.sms_core.specs.Steps.{Steps, reserved_request, posted, answered, with_phase, phase_after, discarded}
use Rattle.sms_core.specs.StepLaws.{MovesRow, SameRows, RowStep, RowsMove}
use Rattle.sms_core.proofs.Accounts.{IsAccounted, accounted}
use Rattle.sms_core.proofs.Named.{share, over_changed, over_more}
use Rattle.sms_core.proofs.RequestSteps.{settled, expired}
use Rattle.sms_core.proofs.Sound.{IsSound, sound}
use Rattle.sms_core.proofs.Done.{top_up_done, reserve_done, claim_done, post_done, discard_done, release_done}

row_equal : (x y : Row) → x.topped ≡ y.topped → x.free ≡ y.free → x.reserved ≡ y.reserved → x.charged ≡ y.charged → x.returned ≡ y.returned → x ≡ y
row_equal x y t f r c b = λ i. record { topped = t i; free = f i; reserved = r i; charged = c i; returned = b i }

-- an account's sum over the requests
abbrev sum : (Phase → ℕ → ℕ) → ℕ → State → ℕ
sum g account w = over g account (map entry_of w.requests)

rows_there : (w : State) (account : ℕ) → account < length w.topped → rows w account ≡ Some (row_at w account)
rows_there w account inside = rw (lt-ltb account (length w.topped) inside) refl

-- a row stays where what it adds up stays
rows_same : (old new : State) (account : ℕ) → length new.topped ≡ length old.topped → topped_of new account ≡ topped_of old account
    → ((g : Phase → ℕ → ℕ) → sum g account new ≡ sum g account old) → rows new account ≡ rows old account
rows_same old new account long topped same =
    let row : row_at new account ≡ row_at old account =
    let r = same reserved_of in let c = same charged_of in
    row_equal (row_at new account) (row_at old account) topped (omega arith) (same reserved_of) (same charged_of) (same returned_of) in
    λ i. if nat_lt account (long i) then Some (row i) else None

all_same : (old new : State) → new.topped ≡ old.topped → new.requests ≡ old.requests → SameRows old new
all_same old new topped requests account =
    rows_same old new account (ap length topped) (ap (λ (l : List ℕ). get_or l account 0) topped) (λ g. ap (λ (l : List Request). over g account (map entry_of l)) requests)

-- what a phase in which the cost is reserved adds
record IsSetAside (p : Phase) (cost : ℕ) : Type 0 where
  reserved : reserved_of p cost ≡ cost
  charged : charged_of p cost ≡ 0
  returned : returned_of p cost ≡ 0

set_aside_ready : (p : Phase) (cost : ℕ) → p ≡ Ready → IsSetAside p cost
set_aside_ready p cost e = subst (λ (q : Phase). IsSetAside q cost) (sym e) record { reserved = refl; charged = refl; returned = refl }

set_aside_open : (p : Phase) (cost : ℕ) → p ≡ Open → IsSetAside p cost
set_aside_open p cost e = subst (λ (q : Phase). IsSetAside q cost) (sym e) record { reserved = refl; charged = refl; returned = refl }

-- the sums of a row before and after a request of it came to a phase
pub record Comes (phase : Phase) (cost : ℕ) (x y : Row) : Type 0 where
  pub small : x.reserved + x.charged ≤ x.topped
  pub was : x.free ≡ x.topped - x.reserved - x.charged
  pub is : y.free ≡ y.topped - y.reserved - y.charged
  pub topped : y.topped ≡ x.topped
  pub reserved : y.reserved + cost ≡ x.reserved + reserved_of phase cost
  pub charged : y.charged ≡ x.charged + charged_of phase cost
  pub returned : y.returned ≡ x.returned + returned_of phase cost

comes : (phase : Phase) (cost : ℕ) (x y : Row) → Comes phase cost x y → y ≡ row_after phase cost x
comes Ready cost x y c = row_equal y x (omega arith) (omega arith) (omega arith) (omega arith) (omega arith)
comes Open cost x y c = row_equal y x (omega arith) (omega arith) (omega arith) (omega arith) (omega arith)
comes Charged cost x y c = row_equal y (row_after Charged cost x) (omega arith) (omega arith) (omega arith) (omega arith) (omega arith)
comes Refused cost x y c = row_equal y (row_after Refused cost x) (omega arith) (omega arith) (omega arith) (omega arith) (omega arith)
comes Unanswered cost x y c = row_equal y x (omega arith) (omega arith) (omega arith) (omega arith) (omega arith)
comes Unsent cost x y c = row_equal y (row_after Unsent cost x) (omega arith) (omega arith) (omega arith) (omega arith) (omega arith)

own_share : (g : Phase → ℕ → ℕ) (s : RequestState) → share g s.account s ≡ g s.phase s.cost
own_share g s = rw (eq-eqb s.account s.account refl) refl

other_share : (g : Phase → ℕ → ℕ) (account : ℕ) (s : RequestState) → account ≢ s.account → share g account s ≡ 0
other_share g account s ne = rw (ne_eqb s.account account (λ e. ne (sym e))) refl

-- a request whose cost is reserved comes to its next phase, and its account's row with it
row_moves : (old new : State) (request : ℕ) (f : RequestState → RequestState) (s : RequestState) (n : ℕ) (phase : Phase) → IsSound old → IsAccounted old
    → request_of old request ≡ Some s → IsSetAside s.phase s.cost → f s ≡ record { account = s.account; cost = s.cost; attempts = n; phase = phase }
    → new.topped ≡ old.topped → new.requests ≡ changed request f old.requests → MovesRow old s.account (row_after phase s.cost) new
row_moves old new request f s n phase i a known aside becomes topped requests =
    let inside : s.account < length old.topped = a request s known in
    let long : length new.topped ≡ length old.topped = ap length topped in
    record {
      row = row_at old s.account;
      before = rows_there old s.account inside;
      after = rows_there new s.account (omega arith) ∙ ap Some (comes phase s.cost (row_at old s.account) (row_at new s.account) record {
        small = i.funded s.account;
        was = refl;
        is = refl;
        topped = ap (λ (l : List ℕ). get_or l s.account 0) topped;
        reserved = let e = moved reserved_of s.account in let o = own reserved_of in let t = later reserved_of in let z = aside.reserved in omega arith;
        charged = let e = moved charged_of s.account in let o = own charged_of in let t = later charged_of in let z = aside.charged in omega arith;
        returned = let e = moved returned_of s.account in let o = own returned_of in let t = later returned_of in let z = aside.returned in omega arith;
      });
      others = λ other ne. rows_same old new other long (ap (λ (l : List ℕ). get_or l other 0) topped) (λ g.
          let e = moved g other in
          let o : share g other s ≡ 0 = other_share g other s ne in
          let t : share g other (f s) ≡ 0 = ap (share g other) becomes ∙ other_share g other next ne in
          omega arith);
    }
  where
    next : RequestState
    next = record { account = s.account; cost = s.cost; attempts = n; phase = phase }

    moved : (g : Phase → ℕ → ℕ) (account : ℕ) → sum g account new + share g account s ≡ sum g account old + share g account (f s)
    moved g account =
        let e : sum g account new ≡ over g account (map entry_of (changed request f old.requests)) = ap (λ (l : List Request). over g account (map entry_of l)) requests in
        let c = over_changed g account request f old.requests s i.named known in
        omega arith

    own : (g : Phase → ℕ → ℕ) → share g s.account s ≡ g s.phase s.cost
    own g = own_share g s

    later : (g : Phase → ℕ → ℕ) → share g s.account (f s) ≡ g phase s.cost
    later g = ap (share g s.account) becomes ∙ own_share g next

top_up_moves : (old new : State) (account amount : ℕ) → IsSound old → Steps old (TopUp account amount) Done new → MovesRow old account (row_topped_up amount) new
top_up_moves old new account amount i s =
    let inside : account < length old.topped = (top_up_done old new account amount s).account_there in
    let n : ℕ = topped_of old account + amount in
    let topped : new.topped ≡ set old.topped account n = ap (λ (w : State). w.topped) s.1 in
    let long : length new.topped ≡ length old.topped = ap length topped ∙ length-set old.topped account n in
    let same : (g : Phase → ℕ → ℕ) (a : ℕ) → sum g a new ≡ sum g a old = λ g a. ap (λ (w : State). sum g a w) s.1 in
    let now : topped_of new account ≡ n = ap (λ (l : List ℕ). get_or l account 0) topped ∙ get_or-set_same old.topped account n 0 inside in
    let f = i.funded account in
    let r = same reserved_of account in
    let c = same charged_of account in
    record {
      row = row_at old account;
      before = rows_there old account inside;
      after = rows_there new account (omega arith) ∙ ap Some (row_equal (row_at new account) (row_topped_up amount (row_at old account)) now (omega arith) r c (same returned_of account));
      others = λ other ne. rows_same old new other long (ap (λ (l : List ℕ). get_or l other 0) topped ∙ get_or-set_other old.topped account other n 0 ne) (λ g. same g other);
    }

reserve_moves : (old new : State) (request account cost : ℕ) → IsSound old → Steps old (Reserve request account cost) Done new → MovesRow old account (row_reserved cost) new
reserve_moves old new request account cost i s =
    let inside : account < length old.topped = (reserve_done old new request account cost s).account_there in
    let topped : new.topped ≡ old.topped = ap (λ (w : State). w.topped) s.1 in
    let long : length new.topped ≡ length old.topped = ap length topped in
    let x : Request = reserved_request request account cost in
    let more : (g : Phase → ℕ → ℕ) (a : ℕ) → sum g a new ≡ sum g a old + share g a x.state = λ g a. ap (λ (w : State). sum g a w) s.1 ∙ over_more g a old.requests x in
    let r = more reserved_of account in
    let c = more charged_of account in
    let b = more returned_of account in
    let ro : share reserved_of account x.state ≡ cost = own_share reserved_of x.state in
    let co : share charged_of account x.state ≡ 0 = own_share charged_of x.state in
    let bo : share returned_of account x.state ≡ 0 = own_share returned_of x.state in
    let t : topped_of new account ≡ topped_of old account = ap (λ (l : List ℕ). get_or l account 0) topped in
    record {
      row = row_at old account;
      before = rows_there old account inside;
      after = rows_there new account (omega arith) ∙ ap Some (row_equal (row_at new account) (row_reserved cost (row_at old account)) t (omega arith) (omega arith) (omega arith) (omega arith));
      others = λ other ne. rows_same old new other long (ap (λ (l : List ℕ). get_or l other 0) topped)
          (λ g. let e = more g other in let o : share g other x.state ≡ 0 = other_share g other x.state ne in omega arith);
    }

-- a request that is sent, or that nobody waits for any more, keeps its credits reserved
still_reserved : (old new : State) (account : ℕ) → MovesRow old account (λ r. r) new → SameRows old new
still_reserved old new account m other = dite (ℕ_discrete other account)
    (λ is. ap (rows new) is ∙ m.after ∙ sym m.before ∙ ap (rows old) (sym is))
    (λ ne. m.others other ne)

unsent_or_refused : (b : Bool) (cost : ℕ) (r : Row) → row_after (if b then Unsent else Refused) cost r ≡ row_given_back cost r
unsent_or_refused true cost r = refl
unsent_or_refused false cost r = refl

with_move : (old new : State) (account : ℕ) (f g : Row → Row) → ((r : Row) → f r ≡ g r) → MovesRow old account f new → MovesRow old account g new
with_move old new account f g e m = record { row = m.row; before = m.before; after = m.after ∙ ap Some (e m.row); others = m.others }

pub row_step : (event : Event) (old new : State) → IsSound old → IsAccounted old → Steps old event Done new → RowStep old event new
row_step (TopUp account amount) old new i a s = top_up_moves old new account amount i s
row_step (Reserve request account cost) old new i a s = reserve_moves old new request account cost i s
row_step (Claim worker slot) old new i a s =
    let after = (claim_done old new worker slot s).after in
    all_same old new (ap (λ (w : State). w.topped) after) (ap (λ (w : State). w.requests) after)
row_step (Post worker slot request) old new i a s =
    let r = (post_done old new worker slot request s).ready in
    still_reserved old new r.state.account
    (row_moves old new request posted r.state (r.state.attempts + 1) Open i a r.known (set_aside_ready r.state.phase r.state.cost r.ready) refl (ap (λ (w : State). w.topped) s.1) (ap (λ (w : State). w.requests) s.1))
row_step (Respond number status nack) old new i a s = all_same old new (ap (λ (w : State). w.topped) s.1.after) (ap (λ (w : State). w.requests) s.1.after)
row_step (Settle worker slot) old new i a s =
    let t = settled (mark_of old slot) old new slot refl s.1 i in
    let r = t.before in (
      r,
      row_moves old new r.request (answered old.attempts r.status r.nack) r.state r.state.attempts (phase_after old.attempts r.status r.nack r.state.attempts) i a r.known
          (set_aside_open r.state.phase r.state.cost r.waits) refl t.topped t.requests,
    )
row_step (Expire worker slot) old new i a s =
    let t = expired (mark_of old slot) old new slot refl s.1 i in
    let r = t.before in
    still_reserved old new r.state.account
    (row_moves old new r.request (with_phase Unanswered) r.state r.state.attempts Unanswered i a r.known (set_aside_open r.state.phase r.state.cost r.waits) refl t.topped t.requests)
row_step (Discard request) old new i a s =
    let r = (discard_done old new request s).ready in
    let phase : Phase = if r.state.attempts == 0 then Unsent else Refused in (
      r,
      with_move old new r.state.account (row_after phase r.state.cost) (row_given_back r.state.cost) (unsent_or_refused (r.state.attempts == 0) r.state.cost)
          (row_moves old new request discarded r.state r.state.attempts phase i a r.known (set_aside_ready r.state.phase r.state.cost r.ready) refl (ap (λ (w : State). w.topped) s.1) (ap (λ (w : State). w.requests) s.1)),
    )
row_step (Release worker slot) old new i a s =
    let after = (release_done old new worker slot s).after in
    all_same old new (ap (λ (w : State). w.topped) after) (ap (λ (w : State). w.requests) after)

pub rows_move : RowsMove
rows_move ms old new event h s = row_step event old new (sound ms old h) (accounted ms old h) s
