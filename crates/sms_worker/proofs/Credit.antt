-- Messages that are refused for lack of credit, and those that are begun, as a run goes on.
use Rattle.std.proofs.Common.{◌≡◌, ℕ, zero, suc, ◌+◌, ◌<◌, ◌≤◌, List, [], ◌∷◌, ◌++◌, length, Some, None, inl, inr, refl, sym, ap, ◌∙◌, subst, arith}
use Rattle.std.specs.List.{AllZip}
use Rattle.std.proofs.Math.Nat.{min-eq_left, min-eq_right}
use Rattle.std.specs.Prelude.{◌*◌, ◌-◌, ◌^◌, min, false, true, Option, Result, Ok, Err, OnErr, OnOk, slice_get, slice_set}
use Rattle.std.specs.Result.{is_ok}
use mathlib.Core.Logic.{dite}
use native.Mathlib.Decide.{dec_lt}
use Rattle.sms_core.specs.declared.row.Row.{Row}
use Rattle.sms_book.specs.declared.amounts.Amounts.{Amounts}
use Rattle.sms_book.specs.declared.money.Move.{Move}
use Rattle.sms_book.specs.declared.money.Move.TheVariants.{Reserve, Charge, GiveBack}
use Rattle.sms_book.specs.Alone.{IsOfOne, opening_at}
use Rattle.sms_book.specs.Limits.{most_returned}
use Rattle.sms_book.specs.Money.{moved_amounts}
use Rattle.sms_book.specs.Name.{BookId}
use Rattle.sms_book.specs.Portions.{amounts_at, topped_at}
use Rattle.sms_book.specs.Shares.{Share}
use Rattle.sms_message.specs.declared.message.Message.{Message}
use Rattle.sms_message.specs.declared.rules.Rules.{Rules}
use Rattle.sms_message.specs.declared.ends.Outcome.{Outcome}
use Rattle.sms_worker.specs.Types.{SegmentEnd, MessageEnd, MessageResult}
use Rattle.sms_message.specs.declared.ends.MessageRefusal.TheVariants.{NoCredit}
use Rattle.sms_message.specs.declared.ends.MessageResult.TheVariants.{Sent, Refused}
use Rattle.sms_message.specs.declared.user_data.UserData.{UserData}
use Rattle.sms_worker.specs.Begins.{Begins}
use Rattle.sms_worker.specs.Credit.{CreditStands, IsCovered, Lacks, LacksFor, ever, price_of}
use Rattle.sms_message.specs.Ends.{put_in, with_part, put}
use Rattle.sms_worker.specs.Steps.{move_of, moved_to, settled_to}
use Rattle.sms_worker.proofs.EndLemmas.{got_of_append}

-- what a refused reservation tells
pub lacks : (opening n credits : ℕ) (a : Amounts) (r : Row) → IsOfOne opening a r → credits ≤ n → ¬ ((credits ≤ r.free) × (r.returned + r.reserved + credits ≤ most_returned)) → Lacks opening a n
lacks opening n credits a r one low fails =
    let free = one.free in
    let reserved = one.reserved in
    let returned = one.returned in
    dite (dec_lt r.free credits)
    (λ few. inl (omega arith))
    (λ enough. inr (one.small, dite (dec_lt most_returned (r.returned + r.reserved + credits)) (λ much. omega arith) (λ fits. absurd (fails (omega arith, omega arith)))))

-- what is known where a call was refused
pub on_refusal : {T E P : Type 0} (r : Result T E) → is_ok r ≡ false → OnErr r P → P
on_refusal (Ok x) failed known = absurd (cc)
on_refusal (Err e) failed known = known

-- a message whose credits can't be reserved
pub lacks_for : (book : BookId) (rules : Rules) (share : Share) (m : Message) (a n price : ℕ) → m.account ≡ Some a → n * price ≡ price_of rules m → (book.workers ≡ 1 → Lacks (opening_at book a) (amounts_at share.amounts a) (n * price)) → LacksFor book rules share m
lacks_for book rules share m a n price account amount lack alone b is =
    let same : a ≡ b = cc in
    subst (λ c. Lacks (opening_at book c) (amounts_at share.amounts c) (price_of rules m)) same (subst (Lacks (opening_at book a) (amounts_at share.amounts a)) amount (lack alone))

-- what is known where a call was done
pub on_success : {T E P : Type 0} (r : Result T E) → is_ok r ≡ true → OnOk r P → P
on_success (Ok x) done known = known
on_success (Err e) done known = absurd (cc)

-- a product that saturates isn't one within the bound
pub unsaturated : (n credits : ℕ) → credits ≡ min n (2 ^ 64 - 1) → credits ≤ most_returned → credits ≡ n
unsaturated n credits is low =
    dite (dec_lt n (2 ^ 64 - 1))
    (λ few. is ∙ min-eq_left (omega arith))
    (λ many. let top : min n (2 ^ 64 - 1) ≡ 2 ^ 64 - 1 = min-eq_right (omega arith) in absurd (omega arith))

-- a message whose credits were reserved
pub covers_for : (opened : List ℕ) (rules : Rules) (m : Message) (e : MessageEnd) (a n : ℕ) → m.account ≡ Some a → n ≡ price_of rules m → n ≤ topped_at opened a → IsCovered opened rules m e
covers_for opened rules m e a n account amount fits segments b sent is =
    let same : a ≡ b = cc in
    subst (λ c. price_of rules m ≤ topped_at opened c) same (subst (λ k. k ≤ topped_at opened a) amount fits)

-- whichever it is
short_of : (opening n : ℕ) (a : Amounts) → Lacks opening a n → opening < ever a + n
short_of opening n a (inl few) = omega arith
short_of opening n a (inr much) = let small = much.0 in let more = much.1 in omega arith

-- a share that moves credits has at least as many in all
ever_set : (xs : List Amounts) (a i : ℕ) (f : Amounts → Amounts) → ((x : Amounts) → ever x ≤ ever (f x)) → ever (amounts_at xs i) ≤ ever (amounts_at (slice_set xs a (f (amounts_at xs a))) i)
ever_set [] a i f more = omega arith
ever_set (x ∷ xs) zero zero f more = more x
ever_set (x ∷ xs) zero (suc i) f more = omega arith
ever_set (x ∷ xs) (suc a) zero f more = omega arith
ever_set (x ∷ xs) (suc a) (suc i) f more = ever_set xs a i f more

ever_more : (move : Move) (n : ℕ) (x : Amounts) → ever x ≤ ever (moved_amounts move n x)
ever_more Reserve n x = omega arith
ever_more Charge n x = omega arith
ever_more GiveBack n x = omega arith

ever_moved : (acc : Option ℕ) (move : Option Move) (cost : ℕ) (share : Share) (i : ℕ) → ever (amounts_at share.amounts i) ≤ ever (amounts_at (moved_to acc move cost share).amounts i)
ever_moved None move cost share i = omega arith
ever_moved (Some a) None cost share i = omega arith
ever_moved (Some a) (Some move) cost share i = ever_set share.amounts a i (moved_amounts move cost) (ever_more move cost)

-- a message whose result is such was so before one segment was put in its place
record WasSuch (Such : MessageResult → Type 0) (es : List MessageEnd) (k : ℕ) : Type 0 where
  was : MessageEnd
  at : slice_get es k ≡ Some was
  is : Such was.result

was_such : (Such : MessageResult → Type 0) → ((r : MessageResult) (p : ℕ) (s : SegmentEnd) → Such (put_in r p s) → Such r) → (es : List MessageEnd) (m p : ℕ) (s : SegmentEnd) (k : ℕ) (e : MessageEnd) → slice_get (put es m p s) k ≡ Some e → Such e.result → WasSuch Such es k
was_such Such before [] m p s k e at is = absurd (cc)
was_such Such before (x ∷ es) zero p s zero e at is =
    let same : with_part x p s ≡ e = cc in
    record { was = x; at = refl; is = before x.result p s (subst (λ (y : MessageEnd). Such y.result) (sym same) is) }
was_such Such before (x ∷ es) zero p s (suc k) e at is = record { was = e; at = at; is = is }
was_such Such before (x ∷ es) (suc m) p s zero e at is =
    let same : x ≡ e = cc in
    record { was = x; at = refl; is = subst (λ (y : MessageEnd). Such y.result) (sym same) is }
was_such Such before (x ∷ es) (suc m) p s (suc k) e at is = let w = was_such Such before es m p s k e at is in record { was = w.was; at = w.at; is = w.is }

abbrev LacksCredit : MessageResult → Type 0
LacksCredit r = r ≡ Refused NoCredit

abbrev IsBegun : MessageResult → Type 0
IsBegun r = (segments : List SegmentEnd) × (r ≡ Sent segments)

lacked_before : (r : MessageResult) (p : ℕ) (s : SegmentEnd) → LacksCredit (put_in r p s) → LacksCredit r
lacked_before (Sent segments) p s is = absurd (cc)
lacked_before (Refused refusal) p s is = is

begun_before : (r : MessageResult) (p : ℕ) (s : SegmentEnd) → IsBegun (put_in r p s) → IsBegun r
begun_before (Sent segments) p s is = (segments, refl)
begun_before (Refused refusal) p s is = let e = is.1 in absurd (cc)

module _ {book : BookId} {rules : Rules} {ms : List Message} where
  -- one segment end changed, and the share has as much in all or more
  credit_more : (es : List MessageEnd) (share share' : Share) (m p : ℕ) (s : SegmentEnd) → CreditStands book rules ms es share → ((i : ℕ) → ever (amounts_at share.amounts i) ≤ ever (amounts_at share'.amounts i)) → CreditStands book rules ms (put es m p s) share'
  credit_more es share share' m p s c more = record {
    lacking = record {
      each = λ alone k a message e there at is acc.
          let w = was_such LacksCredit lacked_before es m p s k e at is in
          let was = c.lacking.each alone k a message w.was there w.at w.is acc in
          let grown = more a in
          omega arith;
    };
    covered = λ sealed k message e there at segments a is acc.
        let w = was_such IsBegun begun_before es m p s k e at (segments, is) in
        c.covered sealed k message w.was there w.at w.is.0 a w.is.1 acc;
  }

  pub credit_same : {es es' : List MessageEnd} {share : Share} → CreditStands book rules ms es share → es' ≡ es → CreditStands book rules ms es' share
  credit_same {share = share} c same = subst (λ l. CreditStands book rules ms l share) (sym same) c

  pub credit_put : {es es' : List MessageEnd} {share : Share} (m p : ℕ) (s : SegmentEnd) → CreditStands book rules ms es share → es' ≡ put es m p s → CreditStands book rules ms es' share
  credit_put {es = es} {share = share} m p s c same = subst (λ l. CreditStands book rules ms l share) (sym same) (credit_more es share share m p s c (λ i. omega arith))

  pub credit_settled : {es es' : List MessageEnd} {share share' : Share} (m p : ℕ) (s : SegmentEnd) (o : Outcome) (acc : Option ℕ) (cost : ℕ) → CreditStands book rules ms es share → es' ≡ put es m p s → share' ≡ settled_to o acc cost share
      → CreditStands book rules ms es' share'
  credit_settled {es = es} {es' = es'} {share = share} m p s o acc cost c same moved =
      subst (λ (x : Share). CreditStands book rules ms es' x) (sym moved)
      (subst (λ l. CreditStands book rules ms l (settled_to o acc cost share)) (sym same) (credit_more es share (settled_to o acc cost share) m p s c (ever_moved acc (move_of o) cost share)))

  pub credit_none : {es : List MessageEnd} {share : Share} → es ≡ [] → CreditStands book rules ms es share
  credit_none {share = share} no_ends =
      subst (λ l. CreditStands book rules ms l share) (sym no_ends)
      (record { lacking = record { each = λ alone k a message e there at is acc. absurd (cc) }; covered = λ sealed k message e there at segments a is acc. absurd (cc) })

  -- a message was begun
  pub credit_begun : (es : List MessageEnd) (share share' : Share) (m : Message) (content : List UserData) (e : MessageEnd) → CreditStands book rules ms es share → slice_get ms (length es) ≡ Some m → Begins rules m share share' content e
      → (e.result ≡ Refused NoCredit → LacksFor book rules share m) → (book.sealed ≡ true → IsCovered book.opening rules m e) → CreditStands book rules ms (es ++ e ∷ []) share'
  credit_begun es share share' m content e c there b lack cover = record {
    lacking = record {
      each = λ alone k a message d at got is acc.
          let r = b.reserved a in
          let h = b.charged a in
          let t = b.returned a in
          elim (got_of_append es e k d got) [
            | inl x ↦ (let was = c.lacking.each alone k a message d at x is acc in omega arith)
            | inr x ↦ (let at' : slice_get ms (length es) ≡ Some message = ap (slice_get ms) (sym x.0) ∙ at in
                let same : m ≡ message = cc in
                let few = short_of (opening_at book a) (price_of rules m) (amounts_at share.amounts a) (lack (ap (λ (y : MessageEnd). y.result) (sym x.1) ∙ is) alone a (ap (λ (y : Message). y.account) same ∙ acc)) in
                let price : price_of rules m ≡ price_of rules message = ap (price_of rules) same in
                omega arith)
          ];
    };
    covered = λ sealed k message d at got segments a is acc.
        elim (got_of_append es e k d got) [
          | inl x ↦ c.covered sealed k message d at x segments a is acc
          | inr x ↦ (let at' : slice_get ms (length es) ≡ Some message = ap (slice_get ms) (sym x.0) ∙ at in
              let same : m ≡ message = cc in
              subst (λ (y : Message). price_of rules y ≤ topped_at book.opening a) same (cover sealed segments a (ap (λ (y : MessageEnd). y.result) (sym x.1) ∙ is) (ap (λ (y : Message). y.account) same ∙ acc)))
        ];
  }

-- what is so of each message and its end
pub zip_of_each : {A B : Type 0} (P : A → B → Type 0) (xs : List A) (ys : List B) → length ys ≡ length xs → ((k : ℕ) (x : A) (y : B) → slice_get xs k ≡ Some x → slice_get ys k ≡ Some y → P x y) → AllZip P xs ys
zip_of_each P [] [] long each = tt
zip_of_each P [] (y ∷ ys) long each = absurd (omega arith)
zip_of_each P (x ∷ xs) [] long each = absurd (omega arith)
zip_of_each P (x ∷ xs) (y ∷ ys) long each = (each 0 x y refl refl, zip_of_each P xs ys (omega arith) (λ k. each (suc k)))
