-- Messages that are gone through, of which those that are left are copied.
use Rattle.std.proofs.Common.{◌≡◌, ◌⊎◌, inl, inr, ℕ, zero, suc, ◌+◌, ◌<◌, ◌≤◌, Bool, true, false, List, [], ◌∷◌, ◌++◌, length, refl, ap, sym, ◌∙◌, subst, get_or, take, add-one, append-nil, arith, true≢false}
use Rattle.std.specs.Prelude.{if◌then◌else◌}
use Rattle.std.specs.List.{AllZip}
use Rattle.sms_message.specs.declared.ends.MessageEnd.{MessageEnd}
use Rattle.sms_message.specs.declared.message.Message.{Message}
use Rattle.sms_journal.specs.Left.{SaysSame, is_left, left_in, one}

module _ {A B : Type 0} (R : A → B → Type 0) where
  pub zip_snoc : (xs : List A) (ys : List B) (x : A) (y : B) → AllZip R xs ys → R x y → AllZip R (xs ++ x ∷ []) (ys ++ y ∷ [])
  zip_snoc [] [] x y all here = (here, tt)
  zip_snoc [] (w ∷ ys) x y all here = absurd all
  zip_snoc (z ∷ xs) [] x y all here = absurd all
  zip_snoc (z ∷ xs) (w ∷ ys) x y all here = (all.0, zip_snoc xs ys x y all.1 here)

before_one : (b : Bool) (m n : Message) (ms : List Message) (c : Bool) → (if c then n ∷ (ms ++ one b m) else ms ++ one b m) ≡ (if c then n ∷ ms else ms) ++ one b m
before_one b m n ms true = refl
before_one b m n ms false = refl

first_one : (m : Message) (b : Bool) → (if b then m ∷ [] else []) ≡ [] ++ one b m
first_one m true = refl
first_one m false = refl

module _ {S : Type 0} where
  more : (ms : List Message) (es : List (MessageEnd S)) (k : ℕ) (m : Message) (e : MessageEnd S) → k < length ms → k < length es → m ≡ get_or ms k m → e ≡ get_or es k e
      → left_in (take (suc k) ms) (take (suc k) es) ≡ left_in (take k ms) (take k es) ++ one (is_left e.result) m
  more [] es k m e low less is are = absurd (omega arith)
  more (n ∷ ms) [] k m e low less is are = absurd (omega arith)
  more (n ∷ ms) (o ∷ es) zero m e low less is are =
      first_one n (is_left o.result) ∙ ap (λ b. one b n) (ap (λ (x : MessageEnd S). is_left x.result) (sym are)) ∙ ap (one (is_left e.result)) (sym is)
  more (n ∷ ms) (o ∷ es) (suc k) m e low less is are =
      ap (λ l. if is_left o.result then n ∷ l else l) (more ms es k m e (omega arith) (omega arith) is are)
      ∙ before_one (is_left e.result) m n (left_in (take k ms) (take k es)) (is_left o.result)

  pub left_more : (ms : List Message) (es : List (MessageEnd S)) (k : ℕ) (m : Message) (e : MessageEnd S) → k < length ms → k < length es → m ≡ get_or ms k m → e ≡ get_or es k e
      → left_in (take (k + 1) ms) (take (k + 1) es) ≡ left_in (take k ms) (take k es) ++ one (is_left e.result) m
  left_more ms es k m e low less is are = rw add-one (more ms es k m e low less is are)

  pub left_whole : (ms : List Message) (es : List (MessageEnd S)) (k : ℕ) → (length ms ≤ k) ⊎ (length es ≤ k) → left_in (take k ms) (take k es) ≡ left_in ms es
  left_whole [] es k h = none k
    where
      none : (k : ℕ) → left_in (take k []) (take k es) ≡ []
      none zero = refl
      none (suc k) = refl
  left_whole (m ∷ ms) [] zero h = refl
  left_whole (m ∷ ms) [] (suc k) h = refl
  left_whole (m ∷ ms) (e ∷ es) zero h = absurd (elim h [ inl low ↦ let x : ⊥ = omega arith in x | inr low ↦ let x : ⊥ = omega arith in x ])
  left_whole (m ∷ ms) (e ∷ es) (suc k) h =
      ap (λ l. if is_left e.result then m ∷ l else l) (left_whole ms es k (elim h [ inl low ↦ inl (omega arith) | inr low ↦ inr (omega arith) ]))

pub one_added : (ms copies more : List Message) (m copy : Message) (b : Bool) → b ≡ true → AllZip SaysSame ms copies → SaysSame m copy → more ≡ copies ++ copy ∷ [] → AllZip SaysSame (ms ++ one b m) more
one_added ms copies more m copy true is all same e = subst (λ (l : List Message). AllZip SaysSame (ms ++ m ∷ []) l) (sym e) (zip_snoc SaysSame ms copies m copy all same)
one_added ms copies more m copy false is all same e = absurd (true≢false (sym is))

pub none_added : (ms copies : List Message) (m : Message) (b : Bool) → b ≡ false → AllZip SaysSame ms copies → AllZip SaysSame (ms ++ one b m) copies
none_added ms copies m true is all = absurd (true≢false is)
none_added ms copies m false is all = subst (λ (l : List Message). AllZip SaysSame l copies) (sym (append-nil ms)) all
