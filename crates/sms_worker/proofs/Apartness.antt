-- Different attempts have different numbers, and answers at different places.
use Rattle.std.proofs.Common.{◌≡◌, ◌≢◌, ℕ, zero, suc, ◌+◌, ◌≤◌, List, [], ◌∷◌, length, map, Some, inl, inr, refl, sym, ap, ◌∙◌, arith, eq-eqb}
use Rattle.std.specs.Prelude.{◌⊎◌, slice_get, slice_set}
use mathlib.Core.Logic.{dite}
use native.Mathlib.Decide.{ℕ_discrete}
use Rattle.sms_core.specs.Numbers.{times}
use Rattle.sms_pdu.specs.declared.reply.Reply.{Reply}
use Rattle.sms_window.specs.declared.view.View.{View}
use Rattle.sms_window.proofs.Drawing.{draws_each_once}
use Rattle.sms_message.specs.declared.message.Message.{Message}
use Rattle.sms_message.specs.declared.rules.Rules.{Rules}
use Rattle.sms_worker.specs.Types.{Attempt, SegmentEnd, MessageEnd, MessageResult}
use Rattle.sms_message.specs.declared.ends.MessageResult.TheVariants.{Sent, Refused as NotSent}
use Rattle.sms_worker.specs.Apart.{IsAttempt, NumbersApart, PlacesApart}
use Rattle.sms_message.specs.Ends.{segments_in, segment_at, put_in, put, total, uses}
use Rattle.sms_worker.specs.Told.{IsAnswered, AllTold, Drew}
use Rattle.sms_worker.proofs.Tries.{all_at}
use Rattle.sms_worker.proofs.EndLemmas.{total_put, part_at_most, get_there, get_low, end_at}

counts_once : (x n : ℕ) → x ≡ n → times n (x ∷ []) ≡ 1
counts_once x n e = rw (eq-eqb x n e) (omega arith)

pub once_at : (n : ℕ) (xs : List Attempt) (i : ℕ) (a : Attempt) → slice_get xs i ≡ Some a → a.number ≡ n → 1 ≤ times n (map (λ (y : Attempt). y.number) xs)
once_at n [] i a at e = absurd (cc)
once_at n (x ∷ xs) zero a at e = let same : x ≡ a = cc in let c = counts_once x.number n (ap (λ (y : Attempt). y.number) same ∙ e) in omega arith
once_at n (x ∷ xs) (suc i) a at e = let h = once_at n xs i a at e in omega arith

twice_at : (n : ℕ) (xs : List Attempt) (i j : ℕ) (a b : Attempt) → i ≢ j → slice_get xs i ≡ Some a → slice_get xs j ≡ Some b → a.number ≡ n → b.number ≡ n → 2 ≤ times n (map (λ (y : Attempt). y.number) xs)
twice_at n [] i j a b ne at bt e f = absurd (cc)
twice_at n (x ∷ xs) zero zero a b ne at bt e f = absurd (ne refl)
twice_at n (x ∷ xs) zero (suc j) a b ne at bt e f = let same : x ≡ a = cc in let c = counts_once x.number n (ap (λ (y : Attempt). y.number) same ∙ e) in let h = once_at n xs j b bt f in omega arith
twice_at n (x ∷ xs) (suc i) zero a b ne at bt e f = let same : x ≡ b = cc in let c = counts_once x.number n (ap (λ (y : Attempt). y.number) same ∙ f) in let h = once_at n xs i a at e in omega arith
twice_at n (x ∷ xs) (suc i) (suc j) a b ne at bt e f = let h = twice_at n xs i j a b (λ s. ne (ap suc s)) at bt e f in omega arith

-- a change at another place
set_elsewhere : {X : Type 0} (xs : List X) (p q : ℕ) (x z : X) → p ≢ q → slice_get xs q ≡ Some z → slice_get (slice_set xs p x) q ≡ Some z
set_elsewhere [] p q x z ne at = at
set_elsewhere (y ∷ xs) zero zero x z ne at = absurd (ne refl)
set_elsewhere (y ∷ xs) zero (suc q) x z ne at = at
set_elsewhere (y ∷ xs) (suc p) zero x z ne at = at
set_elsewhere (y ∷ xs) (suc p) (suc q) x z ne at = set_elsewhere xs p q x z (λ s. ne (ap suc s)) at

in_elsewhere : (r : MessageResult) (p q : ℕ) (x z : SegmentEnd) → p ≢ q → slice_get (segments_in r) q ≡ Some z → slice_get (segments_in (put_in r p x)) q ≡ Some z
in_elsewhere (Sent ss) p q x z ne at = set_elsewhere ss p q x z ne at
in_elsewhere (NotSent refusal) p q x z ne at = at

pub put_elsewhere : (es : List MessageEnd) (k p j q : ℕ) (x z : SegmentEnd) → (k ≢ j) ⊎ ((k ≡ j) × (p ≢ q)) → segment_at es j q ≡ Some z → segment_at (put es k p x) j q ≡ Some z
put_elsewhere [] k p j q x z ne at = at
put_elsewhere (e ∷ es) zero p zero q x z ne at = elim ne [ inl n ↦ absurd (n refl) | inr n ↦ in_elsewhere e.result p q x z n.1 at ]
put_elsewhere (e ∷ es) zero p (suc j) q x z ne at = at
put_elsewhere (e ∷ es) (suc k) p zero q x z ne at = at
put_elsewhere (e ∷ es) (suc k) p (suc j) q x z ne at = put_elsewhere es k p j q x z (elim ne [ inl n ↦ inl (λ s. n (ap suc s)) | inr n ↦ inr ((let s = n.0 in omega arith), n.1) ]) at

two_places : (n : ℕ) (ms : List Message) (es : List MessageEnd) (k p j q : ℕ) (s z : SegmentEnd) → length es ≤ length ms → (k ≢ j) ⊎ ((k ≡ j) × (p ≢ q)) → segment_at es k p ≡ Some s → segment_at es j q ≡ Some z
    → uses n s + uses n z ≤ total (λ m s. uses n s) ms es
two_places n ms es k p j q s z long ne at zt =
    let bare : SegmentEnd = record s { attempts = [] } in
    let e = end_at es k p s at in
    let f = end_at es j q z zt in
    let klow = get_low es k e.0 e.1 in
    let jlow = get_low es j f.0 f.1 in
    let m = get_there ms k (omega arith) in
    let m' = get_there ms j (omega arith) in
    let t = total_put (λ m s. uses n s) ms es k p m.0 s bare m.1 at in
    let none_left : uses n bare ≡ 0 = refl in
    let most = part_at_most (λ m s. uses n s) ms (put es k p bare) j q m'.0 z bare m'.1 (put_elsewhere es k p j q bare z ne zt) none_left in
    omega arith

pub numbers_apart : (before after : View) (ms : List Message) (es : List MessageEnd) → length es ≤ length ms → Drew before after ms es → NumbersApart es
numbers_apart before after ms es long d k p i k' p' i' a b here there same =
    dite (ℕ_discrete k k')
    (λ ek. dite (ℕ_discrete p p')
    (λ ep. dite (ℕ_discrete i i')
    (λ ei. (ek, ep, ei))
    (λ ni. absurd (twice ek ep ni)))
    (λ np. absurd (apart (inr (ek, np)))))
    (λ nk. absurd (apart (inl nk)))
  where
    n : ℕ
    n = b.number

    few : total (λ m s. uses n s) ms es ≤ 1
    few = let u = d.used n in let o = draws_each_once before after d.drawn n d.has in omega arith

    apart : (k ≢ k') ⊎ ((k ≡ k') × (p ≢ p')) → ⊥
    apart ne =
        let t = two_places n ms es k p k' p' here.segment there.segment long ne here.there there.there in
        let x = once_at n here.segment.attempts i a here.has same in
        let y = once_at n there.segment.attempts i' b there.has refl in
        let f = few in
        absurd (omega arith)

    twice : k ≡ k' → p ≡ p' → i ≢ i' → ⊥
    twice ek ep ni =
        let at : segment_at es k p ≡ Some there.segment = ap (λ x. segment_at es x p) ek ∙ ap (segment_at es k') ep ∙ there.there in
        let h1 = here.there in
        let one : here.segment ≡ there.segment = cc in
        let mine : slice_get there.segment.attempts i ≡ Some a = ap (λ (s : SegmentEnd). slice_get s.attempts i) (sym one) ∙ here.has in
        let t = twice_at n there.segment.attempts i i' a b ni mine there.has same refl in
        let e = end_at es k p there.segment at in
        let klow = get_low es k e.0 e.1 in
        let m = get_there ms k (omega arith) in
        let most = part_at_most (λ m s. uses n s) ms es k p m.0 there.segment (record there.segment { attempts = [] }) m.1 at refl in
        let f = few in
        absurd (omega arith)

reply_number : (rules : Rules) (before : ℕ) (received : List Reply) (ms : List Message) (es : List MessageEnd) (k p i : ℕ) (a : Attempt) (r : Reply) → length es ≤ length ms → AllTold rules before received ms es → IsAttempt es k p i a → a.reply ≡ Some r
    → r.number ≡ a.number
reply_number rules before received ms es k p i a r long told here is =
    let e = end_at es k p here.segment here.there in
    let low = get_low es k e.0 e.1 in
    let m = get_there ms k (omega arith) in
    let t = told k p m.0 here.segment m.1 here.there in
    (all_at (IsAnswered before received) here.segment.attempts i a t.answered here.has r is).0

pub places_apart : (rules : Rules) (before : ℕ) (received : List Reply) (was after : View) (ms : List Message) (es : List MessageEnd) → length es ≤ length ms → Drew was after ms es → AllTold rules before received ms es → PlacesApart received es
places_apart rules before received was after ms es long d told k p i k' p' i' place a b r r' here there is is' at at' =
    let same : r ≡ r' = cc in
    let x = reply_number rules before received ms es k p i a r long told here is in
    let y = reply_number rules before received ms es k' p' i' b r' long told there is' in
    numbers_apart was after ms es long d k p i k' p' i' a b here there (sym x ∙ ap (λ (z : Reply). z.number) same ∙ y)
