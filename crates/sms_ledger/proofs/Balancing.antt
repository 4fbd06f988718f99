-- Each entry that may follow keeps every account balanced.
use Rattle.std.proofs.Common.{◌≡◌, ℕ, ◌+◌, ◌-◌, ◌≤◌, Bool, true, false, List, [], ◌∷◌, ◌++◌, Some, None, refl, sym, ap, ◌∙◌, subst, arith}
use Rattle.std.specs.Prelude.{◌==◌, nat_le, Option, option_map, unwrap_or, if◌then◌else◌}
use Rattle.std.specs.Str.{bytes_eq}
use Rattle.std.proofs.lemmas.List.Sums.{sum_by_push}
use Rattle.std.proofs.lemmas.Bool.{leb-true, eqb-true}
use Rattle.sms_ledger.specs.declared.entry.Row.{Row}
use Rattle.sms_ledger.specs.declared.name.RunAccount.{RunAccount}
use Rattle.sms_ledger.specs.declared.entry.Fate.{Fate}
use Rattle.sms_ledger.specs.declared.entry.Fate.TheVariants.{Delivered, Lost}
use Rattle.sms_ledger.specs.declared.entry.Stand.{Stand}
use Rattle.sms_ledger.specs.declared.entry.Stand.TheVariants.{Out, Back}
use Rattle.sms_ledger.specs.declared.entry.Entry.{Entry}
use Rattle.sms_ledger.specs.declared.entry.Entry.TheVariants.{Paid, Taken, Returned, Decided}
use Rattle.sms_ledger.specs.declared.refusal.Refusal.TheVariants.{NoCredit, Unequal, NoDoubt}
use Rattle.sms_ledger.specs.Books.{State, AreBalanced, AreBooked, IsBalanced, after, after_all, back_refusal, books_of, bring_back, decided_refusal, doubt_of, doubt_refusal, less, moved, no_row, nothing, out_of, over, part, part_name, pay_in, refusal_of, row_at, settle, stand_of, take_out, taken_refusal, with_paid, with_stand}
use Rattle.sms_ledger.specs.Laws.{PrefixesAreLedgers, PrefixesBalance, RunsHoldApart}
use Rattle.sms_ledger.proofs.Stakes.{apart, over_moved, same_text}

-- ---- what is known of an entry that may follow

pub taken_none : (n : ℕ) (o : Option Row) (st : Option Stand) → taken_refusal n o st ≡ None → st ≡ None
taken_none n None st e = absurd (cc)
taken_none n (Some row) None e = refl
taken_none n (Some row) (Some st) e = absurd (cc)

pub taken_free : (n : ℕ) (row : Row) (st : Option Stand) → taken_refusal n (Some row) st ≡ None → n ≤ row.free
taken_free n row (Some st) e = absurd (cc)
taken_free n row None e = here (nat_le n row.free) refl e
  where
    here : (b : Bool) → nat_le n row.free ≡ b → (if b then None else Some NoCredit) ≡ None → n ≤ row.free
    here true is e = leb-true n row.free is
    here false is e = absurd (cc)

pub back_out : (sum : ℕ) (st : Option Stand) → back_refusal sum st ≡ None → st ≡ Some (Out sum)
back_out sum None e = absurd (cc)
back_out sum (Some (Back doubt)) e = absurd (cc)
back_out sum (Some (Out taken)) e = here (sum == taken) refl e
  where
    here : (b : Bool) → (sum == taken) ≡ b → (if b then None else Some Unequal) ≡ None → Some (Out taken) ≡ Some (Out sum)
    here true is e = ap (λ (n : ℕ). Some (Out n)) (sym (eqb-true sum taken is))
    here false is e = absurd (cc)

pub record IsInDoubt (sum : ℕ) (st : Option Stand) : Type 0 where
  pub doubt : ℕ
  pub is : st ≡ Some (Back doubt)
  pub few : sum ≤ doubt

in_doubt : (sum : ℕ) (st : Option Stand) → doubt_refusal sum st ≡ None → IsInDoubt sum st
in_doubt sum None e = absurd (cc)
in_doubt sum (Some (Out taken)) e = absurd (cc)
in_doubt sum (Some (Back doubt)) e = here (nat_le sum doubt) refl e
  where
    here : (b : Bool) → nat_le sum doubt ≡ b → (if b then None else Some NoDoubt) ≡ None → IsInDoubt sum (Some (Back doubt))
    here true is e = record { doubt = doubt; is = refl; few = leb-true sum doubt is }
    here false is e = absurd (cc)

pub decided_doubt : (o : Option Fate) (sum : ℕ) (st : Option Stand) → decided_refusal o sum st ≡ None → IsInDoubt sum st
decided_doubt None sum st e = in_doubt sum st e
decided_doubt (Some fate) sum st e = absurd (cc)

-- ---- one account

paid_step : (a q : List ℕ) (n : ℕ) (s : State) → IsBalanced (row_at q s) q s.stakes → IsBalanced (unwrap_or (with_paid a n s.accounts q) no_row) q s.stakes
paid_step a q n s h = here (bytes_eq a q)
  where
    here : (b : Bool) → IsBalanced (unwrap_or (if b then Some (pay_in n (row_at q s)) else s.accounts q) no_row) q s.stakes
    here true = record { balance = omega (arith, h.balance); outs = h.outs; doubts = h.doubts }
    here false = h

taken_step : (of : RunAccount) (q : List ℕ) (n : ℕ) (s : State) → taken_refusal n (s.accounts of.account) (stand_of of.run of.account s) ≡ None → IsBalanced (row_at q s) q s.stakes
    → IsBalanced (unwrap_or (moved of.account (take_out n) s.accounts q) no_row) q (s.stakes ++ record { of = of; stand = Out n } ∷ [])
taken_step of q n s ok h = here (bytes_eq of.account q) refl (s.accounts q) refl
  where
    outs : over out_of q (s.stakes ++ record { of = of; stand = Out n } ∷ []) ≡ over out_of q s.stakes + (if bytes_eq of.account q then n else 0)
    outs = sum_by_push (part out_of q) s.stakes (record { of = of; stand = Out n })

    doubts : over doubt_of q (s.stakes ++ record { of = of; stand = Out n } ∷ []) ≡ over doubt_of q s.stakes + (if bytes_eq of.account q then 0 else 0)
    doubts = sum_by_push (part doubt_of q) s.stakes (record { of = of; stand = Out n })

    here : (b : Bool) → bytes_eq of.account q ≡ b → (o : Option Row) → s.accounts q ≡ o
        → IsBalanced (unwrap_or (if b then option_map (take_out n) o else o) no_row) q (s.stakes ++ record { of = of; stand = Out n } ∷ [])
    here false e o is =
        let k = subst (λ (p : Option Row). IsBalanced (unwrap_or p no_row) q s.stakes) is h in
        let os = subst (λ (b : Bool). over out_of q (s.stakes ++ record { of = of; stand = Out n } ∷ []) ≡ over out_of q s.stakes + (if b then n else 0)) e outs in
        let ds = subst (λ (b : Bool). over doubt_of q (s.stakes ++ record { of = of; stand = Out n } ∷ []) ≡ over doubt_of q s.stakes + (if b then 0 else 0)) e doubts in
        record { balance = k.balance; outs = omega (arith, k.outs, os); doubts = omega (arith, k.doubts, ds) }
    here true e None is =
        let none : s.accounts of.account ≡ None = ap s.accounts (same_text of.account q e) ∙ is in
        let bad = subst (λ (o : Option Row). taken_refusal n o (stand_of of.run of.account s) ≡ None) none ok in
        absurd (cc)
    here true e (Some row) is =
        let some : s.accounts of.account ≡ Some row = ap s.accounts (same_text of.account q e) ∙ is in
        let few = taken_free n row (stand_of of.run of.account s) (subst (λ (o : Option Row). taken_refusal n o (stand_of of.run of.account s) ≡ None) some ok) in
        let k = subst (λ (p : Option Row). IsBalanced (unwrap_or p no_row) q s.stakes) is h in
        let os = subst (λ (b : Bool). over out_of q (s.stakes ++ record { of = of; stand = Out n } ∷ []) ≡ over out_of q s.stakes + (if b then n else 0)) e outs in
        let ds = subst (λ (b : Bool). over doubt_of q (s.stakes ++ record { of = of; stand = Out n } ∷ []) ≡ over doubt_of q s.stakes + (if b then 0 else 0)) e doubts in
        record { balance = omega (arith, k.balance, few); outs = omega (arith, k.outs, os); doubts = omega (arith, k.doubts, ds) }

-- a row that has what is with runs and what is in doubt, and balances
record IsRow (row : Row) (outs doubts : ℕ) : Type 0 where
  pub balance : row.paid ≡ row.free + row.out + row.doubt + row.spent
  pub outs_are : row.out ≡ outs
  pub doubts_are : row.doubt ≡ doubts

-- what a move of the row has to do where a stake stands otherwise
abbrev Moves : Stand → Stand → (Row → Row) → Type 0
Moves old new move =
    (row : Row) (outs doubts : ℕ) → row.paid ≡ row.free + row.out + row.doubt + row.spent → outs + out_of old ≡ row.out + out_of new → doubts + doubt_of old ≡ row.doubt + doubt_of new → out_of old ≤ row.out
    → doubt_of old ≤ row.doubt → IsRow (move row) outs doubts

stand_step : (run a q : List ℕ) (old new : Stand) (move : Row → Row) (s : State) → stand_of run a s ≡ Some old → Moves old new move → out_of new + doubt_of new ≤ out_of old + doubt_of old
    → IsBalanced (row_at q s) q s.stakes → IsBalanced (unwrap_or (moved a move s.accounts q) no_row) q (with_stand run a new s.stakes)
stand_step run a q old new move s found moves less h = here (bytes_eq a q) refl (s.accounts q) refl
  where
    outs : over out_of q (with_stand run a new s.stakes) + (if bytes_eq a q then out_of old else 0) ≡ over out_of q s.stakes + (if bytes_eq a q then out_of new else 0)
    outs = over_moved out_of q run a old new s.stakes found

    doubts : over doubt_of q (with_stand run a new s.stakes) + (if bytes_eq a q then doubt_of old else 0) ≡ over doubt_of q s.stakes + (if bytes_eq a q then doubt_of new else 0)
    doubts = over_moved doubt_of q run a old new s.stakes found

    outs_cover : over out_of q (with_stand run a (Out 0) s.stakes) + (if bytes_eq a q then out_of old else 0) ≡ over out_of q s.stakes + (if bytes_eq a q then 0 else 0)
    outs_cover = over_moved out_of q run a old (Out 0) s.stakes found

    doubts_cover : over doubt_of q (with_stand run a (Out 0) s.stakes) + (if bytes_eq a q then doubt_of old else 0) ≡ over doubt_of q s.stakes + (if bytes_eq a q then 0 else 0)
    doubts_cover = over_moved doubt_of q run a old (Out 0) s.stakes found

    here : (b : Bool) → bytes_eq a q ≡ b → (o : Option Row) → s.accounts q ≡ o → IsBalanced (unwrap_or (if b then option_map move o else o) no_row) q (with_stand run a new s.stakes)
    here false e o is =
        let k = subst (λ (p : Option Row). IsBalanced (unwrap_or p no_row) q s.stakes) is h in
        let os = subst (λ (b : Bool). over out_of q (with_stand run a new s.stakes) + (if b then out_of old else 0) ≡ over out_of q s.stakes + (if b then out_of new else 0)) e outs in
        let ds = subst (λ (b : Bool). over doubt_of q (with_stand run a new s.stakes) + (if b then doubt_of old else 0) ≡ over doubt_of q s.stakes + (if b then doubt_of new else 0)) e doubts in
        record { balance = k.balance; outs = omega (arith, k.outs, os); doubts = omega (arith, k.doubts, ds) }
    here true e o is =
        let k = subst (λ (p : Option Row). IsBalanced (unwrap_or p no_row) q s.stakes) is h in
        let os = subst (λ (b : Bool). over out_of q (with_stand run a new s.stakes) + (if b then out_of old else 0) ≡ over out_of q s.stakes + (if b then out_of new else 0)) e outs in
        let ds = subst (λ (b : Bool). over doubt_of q (with_stand run a new s.stakes) + (if b then doubt_of old else 0) ≡ over doubt_of q s.stakes + (if b then doubt_of new else 0)) e doubts in
        let oc = subst (λ (b : Bool). over out_of q (with_stand run a (Out 0) s.stakes) + (if b then out_of old else 0) ≡ over out_of q s.stakes + (if b then 0 else 0)) e outs_cover in
        let dc = subst (λ (b : Bool). over doubt_of q (with_stand run a (Out 0) s.stakes) + (if b then doubt_of old else 0) ≡ over doubt_of q s.stakes + (if b then 0 else 0)) e doubts_cover in
        same o k os ds oc dc
      where
        same : (o : Option Row) → IsBalanced (unwrap_or o no_row) q s.stakes → over out_of q (with_stand run a new s.stakes) + out_of old ≡ over out_of q s.stakes + out_of new
            → over doubt_of q (with_stand run a new s.stakes) + doubt_of old ≡ over doubt_of q s.stakes + doubt_of new → over out_of q (with_stand run a (Out 0) s.stakes) + out_of old ≡ over out_of q s.stakes + 0
            → over doubt_of q (with_stand run a (Out 0) s.stakes) + doubt_of old ≡ over doubt_of q s.stakes + 0 → IsBalanced (unwrap_or (option_map move o) no_row) q (with_stand run a new s.stakes)
        same None k os ds oc dc = record { balance = refl; outs = omega (arith, k.outs, k.doubts, os, ds, oc, dc, less); doubts = omega (arith, k.outs, k.doubts, os, ds, oc, dc, less) }
        same (Some row) k os ds oc dc =
            let m =
            moves row (over out_of q (with_stand run a new s.stakes)) (over doubt_of q (with_stand run a new s.stakes)) k.balance (omega (arith, k.outs, os)) (omega (arith, k.doubts, ds)) (omega (arith, k.outs, oc))
            (omega (arith, k.doubts, dc))
            in
            record { balance = m.balance; outs = m.outs_are; doubts = m.doubts_are }

back_moves : (f d c : ℕ) → Moves (Out (f + d + c)) (Back d) (bring_back f d c)
back_moves f d c row outs doubts balance os ds oc dc = record { balance = omega (arith, balance, os, ds, oc, dc); outs_are = omega (arith, os, oc); doubts_are = omega (arith, ds) }

settle_moves : (fate : Fate) (cost doubt : ℕ) → cost ≤ doubt → Moves (Back doubt) (Back (doubt - cost)) (settle fate cost)
settle_moves Delivered cost doubt few row outs doubts balance os ds oc dc = record { balance = omega (arith, balance, os, ds, oc, dc, few); outs_are = omega (arith, os, oc); doubts_are = omega (arith, ds, dc, few) }
settle_moves Lost cost doubt few row outs doubts balance os ds oc dc = record { balance = omega (arith, balance, os, ds, oc, dc, few); outs_are = omega (arith, os, oc); doubts_are = omega (arith, ds, dc, few) }

-- ---- ledgers

pub balanced_after : (e : Entry) (s : State) → refusal_of e s ≡ None → AreBalanced s → AreBalanced (after e s)
balanced_after (Paid p) s ok all q = paid_step p.account q p.credits s (all q)
balanced_after (Taken t) s ok all q = taken_step t.of q t.credits s ok (all q)
balanced_after (Returned b) s ok all q =
    stand_step b.of.run b.of.account q (Out (b.free + b.doubt + b.spent)) (Back b.doubt) (bring_back b.free b.doubt b.spent) s (back_out (b.free + b.doubt + b.spent) (stand_of b.of.run b.of.account s) ok) (back_moves b.free b.doubt b.spent)
    (omega arith) (all q)
balanced_after (Decided d) s ok all q =
    let k = decided_doubt (s.decided (part_name d.of.run d.message d.part)) d.cost (stand_of d.of.run d.of.account s) ok in
    let is : less d.cost (stand_of d.of.run d.of.account s) ≡ Back (k.doubt - d.cost) = ap (less d.cost) k.is in
    subst (λ (x : Stand). IsBalanced (unwrap_or (moved d.of.account (settle d.fate d.cost) s.accounts q) no_row) q (with_stand d.of.run d.of.account x s.stakes)) (sym is)
    (stand_step d.of.run d.of.account q (Back k.doubt) (Back (k.doubt - d.cost)) (settle d.fate d.cost) s k.is (settle_moves d.fate d.cost k.doubt k.few) (omega arith) (all q))

balanced_all : (es : List Entry) (s : State) → AreBooked s es → AreBalanced s → AreBalanced (after_all es s)
balanced_all [] s booked all = all
balanced_all (e ∷ es) s booked all = balanced_all es (after e s) booked.1 (balanced_after e s booked.0 all)

pub booked_front : (es more : List Entry) (s : State) → AreBooked s (es ++ more) → AreBooked s es
booked_front [] more s booked = tt
booked_front (e ∷ es) more s booked = (booked.0, booked_front es more (after e s) booked.1)

pub prefixes_are_ledgers : PrefixesAreLedgers
prefixes_are_ledgers es more booked = booked_front es more nothing booked

pub prefixes_balance : PrefixesBalance
prefixes_balance es more booked = balanced_all es nothing (booked_front es more nothing booked) (λ q. record { balance = refl; outs = refl; doubts = refl })

pub hold_apart : RunsHoldApart
hold_apart es account run other n m booked ne e f =
    let h = balanced_all es nothing booked (λ q. record { balance = refl; outs = refl; doubts = refl }) account in
    let g = apart run other account n m (books_of es).stakes ne e f in
    omega (arith, h.balance, h.outs, g)
