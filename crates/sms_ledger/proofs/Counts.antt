-- What a ledger has once: payments, decisions and accounts.
use Rattle.std.proofs.Common.{◌≡◌, ℕ, ◌+◌, ◌≤◌, Bool, true, false, List, [], ◌∷◌, ◌++◌, Some, None, refl, sym, ap, ◌∙◌, subst, arith, append_assoc}
use Rattle.std.specs.Prelude.{◌&&◌, ◌==◌, nat_le, is_some, Option, option_map, unwrap_or, sum_by, decimal, if◌then◌else◌}
use Rattle.std.specs.Str.{bytes_eq}
use Rattle.std.proofs.lemmas.List.Sums.{sum_by_push, sum_by-cons}
use Rattle.std.proofs.lemmas.Bool.{and_parts, eqb-true, leb-true}
use Rattle.sms_ledger.specs.declared.entry.Row.{Row}
use Rattle.sms_ledger.specs.declared.entry.Deposit.{Deposit}
use Rattle.sms_ledger.specs.declared.entry.Fate.{Fate}
use Rattle.sms_ledger.specs.declared.entry.Fate.TheVariants.{Delivered, Lost}
use Rattle.sms_ledger.specs.declared.entry.Stand.{Stand}
use Rattle.sms_ledger.specs.declared.entry.Entry.{Entry}
use Rattle.sms_ledger.specs.declared.entry.Entry.TheVariants.{Paid, Taken, Returned, Decided}
use Rattle.sms_ledger.specs.declared.refusal.Refusal.TheVariants.{NothingPaid, TooMuch}
use Rattle.sms_ledger.specs.Books.{State, after, books_of, bring_back, decided_refusal, moved, no_row, paid_refusal, part_name, pay_in, payment_in, refusal_of, row_at, settle, stand_of, sum_refusal, take_out, with_opened, with_paid, with_payment}
use Rattle.sms_ledger.specs.Laws.{AccountsAreBounded, AccountsAreListed, PartsAreDecidedOnce, PartsAreNamedApart, PaymentsAreBookedOnce, decisions_on, has_reference, is_account, is_part, paid_by}
use Rattle.sms_ledger.specs.Lines.{IsU64}
use Rattle.sms_ledger.specs.Reading.{behind_field, field_in, u64_in}
use Rattle.sms_ledger.proofs.Fields.{behind_is, comma, field_is, no_end_number, u64_found}
use Rattle.sms_ledger.proofs.NameFields.{no_end_run}
use Rattle.sms_ledger.proofs.Once.{kept}
use Rattle.sms_ledger.proofs.Stakes.{same_text, text_self}

-- whether there is one, as a number
abbrev counted : {A : Type 0} → Option A → ℕ
counted o = if is_some o then 1 else 0

few : {A : Type 0} (o : Option A) (n : ℕ) → n ≡ counted o → n ≤ 1
few None n e = omega (arith, e)
few (Some x) n e = omega (arith, e)

-- a key that had no value has one
added : {A : Type 0} (name q : List ℕ) (x : A) (f : List ℕ → Option A) (k : ℕ) → f name ≡ None → k ≡ counted (f q) → k + (if bytes_eq name q then 1 else 0) ≡ counted (if bytes_eq name q then Some x else f q)
added name q x f k ok h = here (bytes_eq name q) refl
  where
    here : (b : Bool) → bytes_eq name q ≡ b → k + (if b then 1 else 0) ≡ counted (if b then Some x else f q)
    here true is =
        let not_yet : f q ≡ None = ap f (sym (same_text name q is)) ∙ ok in
        let none : k ≡ 0 = h ∙ ap counted not_yet in
        omega (arith, none)
    here false is = omega (arith, h)

-- ---- payments

pub record IsPayment (n : ℕ) (o : Option Deposit) (sum : ℕ) : Type 0 where
  pub first : o ≡ None
  pub fits : sum ≤ 0x100_0000_0000

payment : (n : ℕ) (o : Option Deposit) (sum : ℕ) → paid_refusal n o sum ≡ None → IsPayment n o sum
payment n o sum e = here (n == 0) e
  where
    fit : (b : Bool) → nat_le sum 0x100_0000_0000 ≡ b → (if b then None else Some TooMuch) ≡ None → IsPayment n None sum
    fit true is e = record { first = refl; fits = leb-true sum 0x100_0000_0000 is }
    fit false is e = absurd (cc)

    none : (o : Option Deposit) → sum_refusal o sum ≡ None → IsPayment n o sum
    none None e = fit (nat_le sum 0x100_0000_0000) refl e
    none (Some d) e = absurd (cc)

    here : (b : Bool) → (if b then Some NothingPaid else sum_refusal o sum) ≡ None → IsPayment n o sum
    here true e = absurd (cc)
    here false e = none o e

abbrev PaysOnce : List ℕ → List Entry → State → Type 0
PaysOnce ref hs s = sum_by (paid_by ref) hs ≡ counted (s.payments ref)

payment_step : (ref : List ℕ) (r : Option (List ℕ)) (d : Deposit) (payments : List ℕ → Option Deposit) (k : ℕ) → payment_in r payments ≡ None → k ≡ counted (payments ref) → k + has_reference ref r ≡ counted (with_payment r d payments ref)
payment_step ref None d payments k ok h = omega (arith, h)
payment_step ref (Some r) d payments k ok h = added r ref d payments k ok h

pays_step : (ref : List ℕ) (hs : List Entry) (s : State) (e : Entry) → refusal_of e s ≡ None → PaysOnce ref hs s → PaysOnce ref (hs ++ e ∷ []) (after e s)
pays_step ref hs s (Paid p) ok h =
    sum_by_push (paid_by ref) hs (Paid p)
    ∙ payment_step ref p.reference (record { account = p.account; credits = p.credits }) s.payments (sum_by (paid_by ref) hs) (payment p.credits (payment_in p.reference s.payments) ((row_at p.account s).paid + p.credits) ok).first h
pays_step ref hs s (Taken t) ok h = omega (arith, sum_by_push (paid_by ref) hs (Taken t), h)
pays_step ref hs s (Returned b) ok h = omega (arith, sum_by_push (paid_by ref) hs (Returned b), h)
pays_step ref hs s (Decided d) ok h = omega (arith, sum_by_push (paid_by ref) hs (Decided d), h)

pub payments_once : PaymentsAreBookedOnce
payments_once es ref booked = few ((books_of es).payments ref) (sum_by (paid_by ref) es) (kept (PaysOnce ref) refl (pays_step ref) es booked)

-- ---- parts

named : List ℕ → Entry → ℕ
named name (Paid p) = 0
named name (Taken t) = 0
named name (Returned b) = 0
named name (Decided d) = if bytes_eq (part_name d.of.run d.message d.part) name then 1 else 0

undecided : (o : Option Fate) (n : ℕ) (st : Option Stand) → decided_refusal o n st ≡ None → o ≡ None
undecided None n st e = refl
undecided (Some f) n st e = absurd (cc)

abbrev DecidesOnce : List ℕ → List Entry → State → Type 0
DecidesOnce name hs s = sum_by (named name) hs ≡ counted (s.decided name)

decides_step : (name : List ℕ) (hs : List Entry) (s : State) (e : Entry) → refusal_of e s ≡ None → DecidesOnce name hs s → DecidesOnce name (hs ++ e ∷ []) (after e s)
unfolding named
decides_step name hs s (Paid p) ok h = omega (arith, sum_by_push (named name) hs (Paid p), h)
decides_step name hs s (Taken t) ok h = omega (arith, sum_by_push (named name) hs (Taken t), h)
decides_step name hs s (Returned b) ok h = omega (arith, sum_by_push (named name) hs (Returned b), h)
decides_step name hs s (Decided d) ok h =
    let part = part_name d.of.run d.message d.part in
    sum_by_push (named name) hs (Decided d) ∙ added part name d.fate s.decided (sum_by (named name) hs) (undecided (s.decided part) d.cost (stand_of d.of.run d.of.account s) ok) h

-- the decisions on a part are among those on its name
within : (run : List ℕ) (m p : ℕ) (e : Entry) → decisions_on run m p e ≤ named (part_name run m p) e
unfolding named
within run m p (Paid x) = omega arith
within run m p (Taken t) = omega arith
within run m p (Returned b) = omega arith
within run m p (Decided d) = here (is_part run m p d) refl
  where
    here : (b : Bool) → is_part run m p d ≡ b → (if b then 1 else 0) ≤ (if bytes_eq (part_name d.of.run d.message d.part) (part_name run m p) then 1 else 0)
    here false is = omega arith
    here true is =
        let one = and_parts (bytes_eq run d.of.run) (m == d.message && p == d.part) is in
        let two = and_parts (m == d.message) (p == d.part) one.1 in
        let r : run ≡ d.of.run = same_text run d.of.run one.0 in
        let a : m ≡ d.message = eqb-true m d.message two.0 in
        let b : p ≡ d.part = eqb-true p d.part two.1 in
        let same : part_name d.of.run d.message d.part ≡ part_name run m p = ap (λ (x : List ℕ). part_name x d.message d.part) (sym r) ∙ ap (λ (n : ℕ). part_name run n d.part) (sym a) ∙ ap (part_name run m) (sym b) in
        let eq : bytes_eq (part_name d.of.run d.message d.part) (part_name run m p) ≡ true = ap (λ (x : List ℕ). bytes_eq x (part_name run m p)) same ∙ text_self (part_name run m p) in
        subst (λ (b : Bool). 1 ≤ (if b then 1 else 0)) (sym eq) (omega arith)

all_within : (run : List ℕ) (m p : ℕ) (es : List Entry) → sum_by (decisions_on run m p) es ≤ sum_by (named (part_name run m p)) es
all_within run m p [] = omega arith
all_within run m p (e ∷ es) = omega (arith, sum_by-cons (decisions_on run m p) e es, sum_by-cons (named (part_name run m p)) e es, within run m p e, all_within run m p es)

pub parts_once : PartsAreDecidedOnce
parts_once es run m p booked =
    let name = part_name run m p in
    omega (arith, all_within run m p es, few ((books_of es).decided name) (sum_by (named name) es) (kept (DecidesOnce name) refl (decides_step name) es booked))

part_line : (run : List ℕ) (m p : ℕ) → part_name run m p ++ 10 ∷ [] ≡ run ++ 44 ∷ (decimal m ++ 44 ∷ (decimal p ++ 10 ∷ []))
part_line run m p = regroup run (44 ∷ decimal m) (44 ∷ decimal p) (10 ∷ [])
  where
    regroup : (a b c d : List ℕ) → ((a ++ b) ++ c) ++ d ≡ a ++ (b ++ (c ++ d))
    regroup a b c d = simp append_assoc

pub parts_apart : PartsAreNamedApart
parts_apart run other m n p q hr ho hm hn hp hq e =
    let lp : IsU64 p = omega (arith, hp) in
    let lq : IsU64 q = omega (arith, hq) in
    let P1 = decimal p ++ 10 ∷ [] in
    let Q1 = decimal q ++ 10 ∷ [] in
    let P0 = decimal m ++ 44 ∷ P1 in
    let Q0 = decimal n ++ 44 ∷ Q1 in
    let all : run ++ 44 ∷ P0 ≡ other ++ 44 ∷ Q0 = sym (part_line run m p) ∙ ap (λ (l : List ℕ). l ++ 10 ∷ []) e ∙ part_line other n q in
    let runs : run ≡ other = sym (field_is run 44 P0 (no_end_run run hr) comma) ∙ ap field_in all ∙ field_is other 44 Q0 (no_end_run other ho) comma in
    let rest : P0 ≡ Q0 = sym (behind_is run 44 P0 (no_end_run run hr) comma) ∙ ap behind_field all ∙ behind_is other 44 Q0 (no_end_run other ho) comma in
    let ms : decimal m ≡ decimal n = sym (field_is (decimal m) 44 P1 (no_end_number m hm) comma) ∙ ap field_in rest ∙ field_is (decimal n) 44 Q1 (no_end_number n hn) comma in
    let last : P1 ≡ Q1 = sym (behind_is (decimal m) 44 P1 (no_end_number m hm) comma) ∙ ap behind_field rest ∙ behind_is (decimal n) 44 Q1 (no_end_number n hn) comma in
    let ps : decimal p ≡ decimal q = sym (field_is (decimal p) 10 [] (no_end_number p lp) refl) ∙ ap field_in last ∙ field_is (decimal q) 10 [] (no_end_number q lq) refl in
    (runs, same m n hm hn ms, same p q lp lq ps)
  where
    same : (a b : ℕ) → IsU64 a → IsU64 b → decimal a ≡ decimal b → a ≡ b
    same a b ha hb e = let k : Some a ≡ Some b = sym (u64_found a ha) ∙ ap u64_in e ∙ u64_found b hb in cc

-- ---- accounts

abbrev IsListed : List ℕ → List Entry → State → Type 0
IsListed q hs s = sum_by (is_account q) s.opened ≡ counted (s.accounts q)

opened_step : (name q : List ℕ) (n : ℕ) (accounts : List ℕ → Option Row) (opened : List (List ℕ)) → sum_by (is_account q) opened ≡ counted (accounts q) → sum_by (is_account q) (with_opened name (accounts name) opened) ≡ counted (with_paid name n accounts q)
opened_step name q n accounts opened h = here (accounts name) refl
  where
    same : (b : Bool) → bytes_eq name q ≡ b → (row : Row) → accounts name ≡ Some row → counted (accounts q) ≡ counted (if b then Some (pay_in n (unwrap_or (accounts q) no_row)) else accounts q)
    same true is row has = let some : accounts q ≡ Some row = ap accounts (sym (same_text name q is)) ∙ has in ap counted some
    same false is row has = refl

    here : (o : Option Row) → accounts name ≡ o → sum_by (is_account q) (with_opened name o opened) ≡ counted (with_paid name n accounts q)
    here None none = sum_by_push (is_account q) opened name ∙ added name q (pay_in n (unwrap_or (accounts q) no_row)) accounts (sum_by (is_account q) opened) none h
    here (Some row) has = h ∙ same (bytes_eq name q) refl row has

moved_counted : (name q : List ℕ) (f : Row → Row) (accounts : List ℕ → Option Row) → counted (accounts q) ≡ counted (moved name f accounts q)
moved_counted name q f accounts = here (bytes_eq name q) (accounts q)
  where
    here : (b : Bool) (o : Option Row) → counted o ≡ counted (if b then option_map f o else o)
    here true None = refl
    here true (Some row) = refl
    here false o = refl

listed_step : (q : List ℕ) (hs : List Entry) (s : State) (e : Entry) → refusal_of e s ≡ None → IsListed q hs s → IsListed q (hs ++ e ∷ []) (after e s)
listed_step q hs s (Paid p) ok h = opened_step p.account q p.credits s.accounts s.opened h
listed_step q hs s (Taken t) ok h = h ∙ moved_counted t.of.account q (take_out t.credits) s.accounts
listed_step q hs s (Returned b) ok h = h ∙ moved_counted b.of.account q (bring_back b.free b.doubt b.spent) s.accounts
listed_step q hs s (Decided d) ok h = h ∙ moved_counted d.of.account q (settle d.fate d.cost) s.accounts

pub accounts_listed : AccountsAreListed
accounts_listed es q booked = kept (IsListed q) refl (listed_step q) es booked

-- ---- what is paid in all

abbrev IsBounded : List ℕ → List Entry → State → Type 0
IsBounded q hs s = (row_at q s).paid ≤ 0x100_0000_0000

paid_bound : (name q : List ℕ) (n : ℕ) (accounts : List ℕ → Option Row) → (unwrap_or (accounts name) no_row).paid + n ≤ 0x100_0000_0000 → (unwrap_or (accounts q) no_row).paid ≤ 0x100_0000_0000 → (unwrap_or (with_paid name n accounts q) no_row).paid ≤ 0x100_0000_0000
paid_bound name q n accounts low h = here (bytes_eq name q) refl
  where
    here : (b : Bool) → bytes_eq name q ≡ b → (unwrap_or (if b then Some (pay_in n (unwrap_or (accounts q) no_row)) else accounts q) no_row).paid ≤ 0x100_0000_0000
    here true is = subst (λ (x : List ℕ). (unwrap_or (accounts x) no_row).paid + n ≤ 0x100_0000_0000) (same_text name q is) low
    here false is = h

moved_bound : (name q : List ℕ) (f : Row → Row) (accounts : List ℕ → Option Row) → ((row : Row) → (f row).paid ≡ row.paid) → (unwrap_or (accounts q) no_row).paid ≤ 0x100_0000_0000 → (unwrap_or (moved name f accounts q) no_row).paid ≤ 0x100_0000_0000
moved_bound name q f accounts keeps h = here (bytes_eq name q) (accounts q) h
  where
    here : (b : Bool) (o : Option Row) → (unwrap_or o no_row).paid ≤ 0x100_0000_0000 → (unwrap_or (if b then option_map f o else o) no_row).paid ≤ 0x100_0000_0000
    here true None h = h
    here true (Some row) h = omega (arith, keeps row, h)
    here false o h = h

settle_keeps : (fate : Fate) (n : ℕ) (row : Row) → (settle fate n row).paid ≡ row.paid
settle_keeps Delivered n row = refl
settle_keeps Lost n row = refl

bounded_step : (q : List ℕ) (hs : List Entry) (s : State) (e : Entry) → refusal_of e s ≡ None → IsBounded q hs s → IsBounded q (hs ++ e ∷ []) (after e s)
bounded_step q hs s (Paid p) ok h = paid_bound p.account q p.credits s.accounts (payment p.credits (payment_in p.reference s.payments) ((row_at p.account s).paid + p.credits) ok).fits h
bounded_step q hs s (Taken t) ok h = moved_bound t.of.account q (take_out t.credits) s.accounts (λ row. refl) h
bounded_step q hs s (Returned b) ok h = moved_bound b.of.account q (bring_back b.free b.doubt b.spent) s.accounts (λ row. refl) h
bounded_step q hs s (Decided d) ok h = moved_bound d.of.account q (settle d.fate d.cost) s.accounts (settle_keeps d.fate d.cost) h

pub accounts_bounded : AccountsAreBounded
accounts_bounded es q booked = kept (IsBounded q) (omega arith) (bounded_step q) es booked
