-- What a worker's records say after one segment end changed.
use Rattle.std.proofs.Common.{◌≡◌, ◌≢◌, ℕ, ◌+◌, ◌<◌, ◌≤◌, List, [], ◌∷◌, ◌++◌, length, map, Some, None, inl, inr, refl, sym, ap, ◌∙◌, subst, arith, eq-eqb, ne_eqb, length-set, get_or-set_other, get_or-set_same}
use Rattle.std.specs.Prelude.{Option, slice_get, slice_set}
use mathlib.Core.Logic.{dite}
use native.Mathlib.Decide.{ℕ_discrete}
use Rattle.sms_core.specs.declared.request.Phase.{Phase}
use Rattle.sms_core.specs.Numbers.{times}
use Rattle.sms_core.specs.Rows.{reserved_of, charged_of, returned_of}
use Rattle.sms_core.proofs.Numbers.{times_append}
use Rattle.sms_window.specs.declared.view.View.{View}
use Rattle.sms_window.specs.Drawing.{HasDrawn}
use Rattle.sms_window.proofs.Drawing.{draws_add_up}
use Rattle.sms_pdu.specs.declared.reply.Reply.{Reply}
use Rattle.sms_book.specs.declared.amounts.Amounts.{Amounts}
use Rattle.sms_book.specs.Portions.{amounts_at, no_amounts}
use Rattle.sms_book.specs.Shares.{Share}
use Rattle.sms_book.specs.Money.{charged_more, returned_more}
use Rattle.sms_book.specs.declared.money.Move.{Move}
use Rattle.sms_message.specs.declared.message.Message.{Message}
use Rattle.sms_message.specs.declared.rules.Rules.{Rules}
use Rattle.sms_message.specs.declared.ends.Outcome.{Outcome}
use Rattle.sms_message.specs.declared.ends.Outcome.TheVariants.{Charged, Refused, Unanswered, Unsent}
use Rattle.sms_worker.specs.Types.{Attempt, SegmentEnd, MessageEnd, MessageResult}
use Rattle.sms_message.specs.declared.ends.MessageResult.TheVariants.{Sent, Refused as NotSent}
use Rattle.sms_message.specs.Ends.{segments_in, segment_at, put_in, put, total, credit, uses, phase_of}
use Rattle.sms_worker.specs.Told.{IsTold, AllTold, Drew, Grew}
use Rattle.sms_message.specs.Admission.{IsKnown}
use Rattle.sms_message.specs.Results.{IsResultOf, AreEnds}
use Rattle.sms_worker.specs.declared.state.open.Open.{Open}
use Rattle.sms_worker.specs.Keeps.{slots_of}
use Rattle.sms_worker.specs.Steps.{move_of, moved_to, settled_to}
use Rattle.sms_worker.proofs.EndLemmas.{got_of_put, end_of_put, length-put, total_put, total_same, part_at_most, end_at}

pub slots-append : (os : List Open) (o : Open) → slots_of (os ++ o ∷ []) ≡ slots_of os ++ o.slot ∷ []
slots-append [] o = refl
slots-append (x ∷ os) o = ap (λ l. x.slot ∷ l) (slots-append os o)

pub told_put : (rules : Rules) (before : ℕ) (received : List Reply) (ms : List Message) (es : List MessageEnd) (k p : ℕ) (m : Message) (s : SegmentEnd) → AllTold rules before received ms es → slice_get ms k ≡ Some m
    → IsTold rules before received m p s → AllTold rules before received ms (put es k p s)
told_put rules before received ms es k p m s others there mine j q m' s' mj at = elim (got_of_put es k p s j q s' at) [
  | inl h ↦ (let (message, part, end) = h in
      let same : m ≡ m' = cc in
      subst (λ y. IsTold rules before received y q s') same (subst (λ y. IsTold rules before received m q y) (sym end) (subst (λ y. IsTold rules before received m y s) (sym part) mine)))
  | inr h ↦ others j q m' s' mj h
]

result_put : (rules : Rules) (accounts : ℕ) (m : Message) (r : MessageResult) (p : ℕ) (s : SegmentEnd) → IsResultOf rules accounts m r → IsResultOf rules accounts m (put_in r p s)
result_put rules accounts m (Sent ss) p s h = record { known = h.known; addresses = h.addresses; short = h.short; parts = length-set ss p s ∙ h.parts }
result_put rules accounts m (NotSent refusal) p s h = h

pub ends_put : (rules : Rules) (accounts : ℕ) (ms : List Message) (es : List MessageEnd) (k p : ℕ) (s : SegmentEnd) → AreEnds rules accounts ms es → AreEnds rules accounts ms (put es k p s)
ends_put rules accounts ms es k p s a = record {
  within = let l = length-put es k p s in let w = a.within in omega arith;
  each = λ j m z mj at.
      let (end, there, either) = end_of_put es k p s j z at in
      let old = a.each j m end mj there in
      elim either [
        | inl same ↦ subst (λ (y : MessageEnd). (y.index ≡ m.index) × IsResultOf rules accounts m y.result) (sym same) old
        | inr same ↦ subst (λ (y : MessageEnd). (y.index ≡ m.index) × IsResultOf rules accounts m y.result) (sym same) (old.0, result_put rules accounts m end.result p s old.1)
      ];
}

-- numbers
-- what was drawn meanwhile, and no attempt has more of it than that
pub drew_more : (before v w : View) (drawn : List ℕ) (ms : List Message) (es es' : List MessageEnd) → Drew before v ms es → HasDrawn v drawn w
    → ((x : ℕ) → total (λ m s. uses x s) ms es' ≤ total (λ m s. uses x s) ms es + times x drawn) → Drew before w ms es'
drew_more before v w drawn ms es es' d h more = record {
  drawn = d.drawn ++ drawn;
  has = draws_add_up before v w d.drawn drawn d.has h;
  used = λ x. let a = times_append x d.drawn drawn in let u = d.used x in let m = more x in omega arith;
}

-- no attempt got a number
pub drew_unused : (before v w : View) (drawn : List ℕ) (ms : List Message) (es : List MessageEnd) → Drew before v ms es → HasDrawn v drawn w → Drew before w ms es
drew_unused before v w drawn ms es d h = drew_more before v w drawn ms es es d h (λ x. omega arith)

numbers_append : (xs : List Attempt) (a : Attempt) → map (λ (y : Attempt). y.number) (xs ++ a ∷ []) ≡ map (λ (y : Attempt). y.number) xs ++ a.number ∷ []
numbers_append [] a = refl
numbers_append (x ∷ xs) a = ap (λ l. x.number ∷ l) (numbers_append xs a)

uses_append : (x : ℕ) (s s' : SegmentEnd) (a : Attempt) → s'.attempts ≡ s.attempts ++ a ∷ [] → uses x s' ≡ uses x s + times x (a.number ∷ [])
uses_append x s s' a e = ap (λ l. times x (map (λ (y : Attempt). y.number) l)) e ∙ ap (times x) (numbers_append s.attempts a) ∙ times_append x (map (λ (y : Attempt). y.number) s.attempts) (a.number ∷ [])

pub drew_sent : (before v w : View) (ms : List Message) (es : List MessageEnd) (k p : ℕ) (m : Message) (s s' : SegmentEnd) (a : Attempt) → Drew before v ms es
    → HasDrawn v (a.number ∷ []) w → slice_get ms k ≡ Some m → segment_at es k p ≡ Some s → s'.attempts ≡ s.attempts ++ a ∷ [] → Drew before w ms (put es k p s')
drew_sent before v w ms es k p m s s' a d h there at e =
    drew_more before v w (a.number ∷ []) ms es (put es k p s') d h (λ x. let t = total_put (λ m s. uses x s) ms es k p m s s' there at in let u = uses_append x s s' a e in omega arith)

pub drew_same : (before v : View) (ms : List Message) (es : List MessageEnd) (k p : ℕ) (m : Message) (s s' : SegmentEnd) → Drew before v ms es → slice_get ms k ≡ Some m → segment_at es k p ≡ Some s
    → map (λ (y : Attempt). y.number) s'.attempts ≡ map (λ (y : Attempt). y.number) s.attempts → Drew before v ms (put es k p s')
drew_same before v ms es k p m s s' d there at e = record {
  drawn = d.drawn;
  has = d.has;
  used = λ x. let t = total_put (λ m s. uses x s) ms es k p m s s' there at in let u : uses x s' ≡ uses x s = ap (times x) e in let o = d.used x in omega arith;
}

-- credits
credit_like : (f : Phase → ℕ → ℕ) (i : ℕ) (acc : Option ℕ) (s s' : SegmentEnd) → s'.cost ≡ s.cost → s'.outcome ≡ s.outcome → credit f i acc s' ≡ credit f i acc s
credit_like f i None s s' c o = refl
credit_like f i (Some a) s s' c o = dite (ℕ_discrete a i) (λ e. rw (eq-eqb a i e) (λ j. f (phase_of (o j)) (c j))) (λ ne. rw (ne_eqb a i ne) refl)

pub grew_same : (base now : List Amounts) (ms : List Message) (es : List MessageEnd) (k p : ℕ) (m : Message) (s s' : SegmentEnd) → Grew base now ms es → slice_get ms k ≡ Some m → segment_at es k p ≡ Some s → s'.cost ≡ s.cost
    → s'.outcome ≡ s.outcome → Grew base now ms (put es k p s')
grew_same base now ms es k p m s s' g there at c o i =
    let same = λ (f : Phase → ℕ → ℕ). total_put (λ m s. credit f i m.account s) ms es k p m s s' there at in
    let r = same reserved_of in
    let h = same charged_of in
    let t = same returned_of in
    let cr = credit_like reserved_of i m.account s s' c o in
    let ch = credit_like charged_of i m.account s s' c o in
    let ct = credit_like returned_of i m.account s s' c o in
    let g' = g i in
    (omega arith, omega arith, omega arith)

-- one segment end changed that has the same cost and outcome
pub grew_like : (base now : List Amounts) (ms : List Message) (es : List MessageEnd) (k p : ℕ) (s s' : SegmentEnd) → Grew base now ms es → segment_at es k p ≡ Some s → s'.cost ≡ s.cost → s'.outcome ≡ s.outcome → Grew base now ms (put es k p s')
grew_like base now ms es k p s s' g at c o i =
    let same = λ (f : Phase → ℕ → ℕ). total_same (λ m s. credit f i m.account s) ms es k p s s' at (λ m. credit_like f i m.account s s' c o) in
    let r = same reserved_of in
    let h = same charged_of in
    let t = same returned_of in
    let g' = g i in
    (omega arith, omega arith, omega arith)

credit_here : (f : Phase → ℕ → ℕ) (i a : ℕ) (s : SegmentEnd) (o : Outcome) → a ≡ i → s.outcome ≡ o → credit f i (Some a) s ≡ f (phase_of o) s.cost
credit_here f i a s o e is = rw (eq-eqb a i e) (ap (λ y. f (phase_of y) s.cost) is)

credit_away : (f : Phase → ℕ → ℕ) (i a : ℕ) (s : SegmentEnd) → a ≢ i → credit f i (Some a) s ≡ 0
credit_away f i a s ne = rw (ne_eqb a i ne) refl

-- an unsettled segment's cost is reserved in the share
pub credit_held : (base now : List Amounts) (ms : List Message) (es : List MessageEnd) (k p a : ℕ) (m : Message) (s : SegmentEnd) → Grew base now ms es → slice_get ms k ≡ Some m → segment_at es k p ≡ Some s
    → s.outcome ≡ Unanswered → m.account ≡ Some a → s.cost ≤ (amounts_at now a).reserved
credit_held base now ms es k p a m s g there at is acc =
    let paid : SegmentEnd = record s { outcome = Charged } in
    let z : credit reserved_of a m.account paid ≡ 0 = ap (λ y. credit reserved_of a y paid) acc ∙ credit_here reserved_of a a paid Charged refl refl in
    let c : credit reserved_of a m.account s ≡ s.cost = ap (λ y. credit reserved_of a y s) acc ∙ credit_here reserved_of a a s Unanswered refl is in
    let most = part_at_most (λ m s. credit reserved_of a m.account s) ms es k p m s paid there at z in
    let g' = g a in
    omega arith

pub amounts_there : (xs : List Amounts) (a : ℕ) (y : Amounts) → a < length xs → amounts_at (slice_set xs a y) a ≡ y
amounts_there xs a y low = get_or-set_same xs a y no_amounts low

pub amounts_other : (xs : List Amounts) (a i : ℕ) (y : Amounts) → a ≢ i → amounts_at (slice_set xs a y) i ≡ amounts_at xs i
amounts_other xs a i y ne = get_or-set_other xs a i y no_amounts (λ e. ne (sym e))

-- the three amounts of an account, after a segment end and the share changed as told
grew_by : (base now now' : List Amounts) (ms : List Message) (es : List MessageEnd) (k p : ℕ) (m : Message) (s s' : SegmentEnd) → Grew base now ms es → slice_get ms k ≡ Some m → segment_at es k p ≡ Some s
    → ((i : ℕ) → ((amounts_at now' i).reserved + credit reserved_of i m.account s ≡ (amounts_at now i).reserved + credit reserved_of i m.account s')
    × ((amounts_at now' i).charged + credit charged_of i m.account s ≡ (amounts_at now i).charged + credit charged_of i m.account s')
    × ((amounts_at now' i).returned + credit returned_of i m.account s ≡ (amounts_at now i).returned + credit returned_of i m.account s'))
    → Grew base now' ms (put es k p s')
grew_by base now now' ms es k p m s s' g there at moves i =
    let r = total_put (λ m s. credit reserved_of i m.account s) ms es k p m s s' there at in
    let h = total_put (λ m s. credit charged_of i m.account s) ms es k p m s s' there at in
    let t = total_put (λ m s. credit returned_of i m.account s) ms es k p m s s' there at in
    let g' = g i in
    let v = moves i in
    (omega arith, omega arith, omega arith)

-- how a share's account changes
moved_here : (xs : List Amounts) (a : ℕ) (y : Amounts) (i : ℕ) → a < length xs → a ≡ i → amounts_at (slice_set xs a y) i ≡ y
moved_here xs a y i low e = subst (λ j. amounts_at (slice_set xs a y) j ≡ y) e (amounts_there xs a y low)

abbrev SameSums : Amounts → Amounts → ℕ → Option ℕ → SegmentEnd → SegmentEnd → Type 0
SameSums now new i acc s s' = (new.reserved + credit reserved_of i acc s ≡ now.reserved + credit reserved_of i acc s')
    × (new.charged + credit charged_of i acc s ≡ now.charged + credit charged_of i acc s')
    × (new.returned + credit returned_of i acc s ≡ now.returned + credit returned_of i acc s')

-- of another account nothing changes
sums_away : (x : Amounts) (y : Amounts) (i a : ℕ) (s s' : SegmentEnd) → y ≡ x → a ≢ i → SameSums x y i (Some a) s s'
sums_away x y i a s s' e ne =
    let r = credit_away reserved_of i a s ne in
    let r' = credit_away reserved_of i a s' ne in
    let h = credit_away charged_of i a s ne in
    let h' = credit_away charged_of i a s' ne in
    let t = credit_away returned_of i a s ne in
    let t' = credit_away returned_of i a s' ne in
    let er = ap (λ (z : Amounts). z.reserved) e in
    let eh = ap (λ (z : Amounts). z.charged) e in
    let et = ap (λ (z : Amounts). z.returned) e in
    (omega arith, omega arith, omega arith)

-- of its own account
sums_here : (x y : Amounts) (i a : ℕ) (s s' : SegmentEnd) (o o' : Outcome) → a ≡ i → s.outcome ≡ o → s'.outcome ≡ o'
    → y.reserved + reserved_of (phase_of o) s.cost ≡ x.reserved + reserved_of (phase_of o') s'.cost
    → y.charged + charged_of (phase_of o) s.cost ≡ x.charged + charged_of (phase_of o') s'.cost
    → y.returned + returned_of (phase_of o) s.cost ≡ x.returned + returned_of (phase_of o') s'.cost → SameSums x y i (Some a) s s'
sums_here x y i a s s' o o' e is is' er eh et =
    let r = credit_here reserved_of i a s o e is in
    let r' = credit_here reserved_of i a s' o' e is' in
    let h = credit_here charged_of i a s o e is in
    let h' = credit_here charged_of i a s' o' e is' in
    let t = credit_here returned_of i a s o e is in
    let t' = credit_here returned_of i a s' o' e is' in
    (omega arith, omega arith, omega arith)

-- its account's amounts changed to these
sums_by : (now : Share) (i a : ℕ) (s s' : SegmentEnd) (o : Outcome) (y : Amounts) → a < length now.amounts → s.outcome ≡ Unanswered → s'.outcome ≡ o
    → y.reserved + s.cost ≡ (amounts_at now.amounts a).reserved + reserved_of (phase_of o) s'.cost
    → y.charged ≡ (amounts_at now.amounts a).charged + charged_of (phase_of o) s'.cost
    → y.returned ≡ (amounts_at now.amounts a).returned + returned_of (phase_of o) s'.cost
    → SameSums (amounts_at now.amounts i) (amounts_at (slice_set now.amounts a y) i) i (Some a) s s'
sums_by now i a s s' o y low is is' er eh et = dite (ℕ_discrete a i)
    (λ e. let at = moved_here now.amounts a y i low e in
    let x = ap (amounts_at now.amounts) (sym e) in
    let yr = ap (λ (z : Amounts). z.reserved) at in
    let yh = ap (λ (z : Amounts). z.charged) at in
    let yt = ap (λ (z : Amounts). z.returned) at in
    let xr = ap (λ (z : Amounts). z.reserved) x in
    let xh = ap (λ (z : Amounts). z.charged) x in
    let xt = ap (λ (z : Amounts). z.returned) x in
    sums_here _ _ i a s s' Unanswered o e is is' (omega arith) (omega arith) (omega arith))
    (λ ne. sums_away _ _ i a s s' (amounts_other now.amounts a i y ne) ne)

-- the share moved as the outcome says
sums_moved : (now : Share) (i a : ℕ) (s s' : SegmentEnd) (o : Outcome) → a < length now.amounts → s.outcome ≡ Unanswered → s'.outcome ≡ o → s'.cost ≡ s.cost → s.cost ≤ (amounts_at now.amounts a).reserved
    → SameSums (amounts_at now.amounts i) (amounts_at (settled_to o (Some a) s.cost now).amounts i) i (Some a) s s'
sums_moved now i a s s' Charged low is is' c fits = sums_by now i a s s' Charged (charged_more s.cost (amounts_at now.amounts a)) low is is' (omega arith) (omega arith) (omega arith)
sums_moved now i a s s' Refused low is is' c fits = sums_by now i a s s' Refused (returned_more s.cost (amounts_at now.amounts a)) low is is' (omega arith) (omega arith) (omega arith)
sums_moved now i a s s' Unsent low is is' c fits = sums_by now i a s s' Unsent (returned_more s.cost (amounts_at now.amounts a)) low is is' (omega arith) (omega arith) (omega arith)
sums_moved now i a s s' Unanswered low is is' c fits = dite (ℕ_discrete a i)
    (λ e. sums_here _ _ i a s s' Unanswered Unanswered e is is' (omega arith) (omega arith) (omega arith))
    (λ ne. sums_away _ _ i a s s' refl ne)

-- without an account nothing is counted
sums_none : (x : Amounts) (i : ℕ) (s s' : SegmentEnd) → SameSums x x i None s s'
sums_none x i s s' = (refl, refl, refl)

-- the credits of one segment end moved as its outcome says
pub grew_at : (base : List Amounts) (now : Share) (ms : List Message) (es : List MessageEnd) (k p : ℕ) (m : Message) (s s' : SegmentEnd) (o : Outcome) (acc : Option ℕ) → m.account ≡ acc → Grew base now.amounts ms es
    → slice_get ms k ≡ Some m → segment_at es k p ≡ Some s → s.outcome ≡ Unanswered → s'.outcome ≡ o → s'.cost ≡ s.cost → ((a : ℕ) → acc ≡ Some a → a < length now.amounts)
    → Grew base (settled_to o acc s.cost now).amounts ms (put es k p s')
grew_at base now ms es k p m s s' o (Some a) acc g there at is is' c low =
    let fits = credit_held base now.amounts ms es k p a m s g there at is acc in
    grew_by base now.amounts _ ms es k p m s s' g there at (λ i. subst (λ y. SameSums (amounts_at now.amounts i) (amounts_at (settled_to o (Some a) s.cost now).amounts i) i y s s') (sym acc) (sums_moved now i a s s' o (low a refl) is is' c fits))
grew_at base now ms es k p m s s' o None acc g there at is is' c low = grew_by base now.amounts _ ms es k p m s s' g there at (λ i. subst (λ y. SameSums (amounts_at now.amounts i) (amounts_at now.amounts i) i y s s') (sym acc) (sums_none _ i s s'))

-- the account of a message that has segments is one of the book's
pub known_account : (rules : Rules) (accounts : ℕ) (ms : List Message) (es : List MessageEnd) (k p a : ℕ) (m : Message) (s : SegmentEnd) → AreEnds rules accounts ms es → slice_get ms k ≡ Some m → segment_at es k p ≡ Some s → m.account ≡ Some a → a < accounts
known_account rules accounts ms es k p a m s shape there at acc =
    let (end, is_there, part) = end_at es k p s at in
    known end.result part (shape.each k m end there is_there).1
  where
    known : (r : MessageResult) → slice_get (segments_in r) p ≡ Some s → IsResultOf rules accounts m r → a < accounts
    known (Sent ss) at h = subst (IsKnown accounts) acc h.known
    known (NotSent refusal) at h = absurd (cc)

pub grew_settled : (rules : Rules) (base : List Amounts) (now : Share) (ms : List Message) (es : List MessageEnd) (k p : ℕ) (m : Message) (s s' : SegmentEnd) (o : Outcome) → AreEnds rules (length now.amounts) ms es → Grew base now.amounts ms es
    → slice_get ms k ≡ Some m → segment_at es k p ≡ Some s → s.outcome ≡ Unanswered → s'.outcome ≡ o → s'.cost ≡ s.cost
    → Grew base (settled_to o m.account s.cost now).amounts ms (put es k p s')
grew_settled rules base now ms es k p m s s' o shape g there at is is' c =
    grew_at base now ms es k p m s s' o m.account refl g there at is is' c (λ a acc. known_account rules (length now.amounts) ms es k p a m s shape there at acc)

length-moved : (acc : Option ℕ) (move : Option Move) (cost : ℕ) (now : Share) → length (moved_to acc move cost now).amounts ≡ length now.amounts
length-moved None move cost now = refl
length-moved (Some a) None cost now = refl
length-moved (Some a) (Some move) cost now = length-set now.amounts a _

pub length-settled : (o : Outcome) (acc : Option ℕ) (cost : ℕ) (now : Share) → length (settled_to o acc cost now).amounts ≡ length now.amounts
length-settled o acc cost now = length-moved acc (move_of o) cost now

number-moved : (acc : Option ℕ) (move : Option Move) (cost : ℕ) (now : Share) → (moved_to acc move cost now).number ≡ now.number
number-moved None move cost now = refl
number-moved (Some a) None cost now = refl
number-moved (Some a) (Some move) cost now = refl

pub number-settled : (o : Outcome) (acc : Option ℕ) (cost : ℕ) (now : Share) → (settled_to o acc cost now).number ≡ now.number
number-settled o acc cost now = number-moved acc (move_of o) cost now
