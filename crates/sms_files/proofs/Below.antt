-- A text for each number below a bound, one number more.
use Rattle.std.proofs.Common.{◌≡◌, ◌∙◌, sym, refl, ℕ, ◌+◌, List, [], ◌++◌, add-one, append_assoc}
use Rattle.std.proofs.lemmas.List.{append-nil}
use Rattle.sms_files.specs.ReplayText.{each_below}

pub below-none : (f : ℕ → List ℕ) → each_below 0 f ≡ []
unfolding each_below
below-none f = refl

pub below-more : (n : ℕ) (f : ℕ → List ℕ) → each_below (n + 1) f ≡ each_below n f ++ f n
unfolding each_below
below-more n f = rw (add-one n) refl

-- the text of one number more, after what stood before
pub more-text : (text before after line : List ℕ) (n : ℕ) (f : ℕ → List ℕ) → text ≡ before ++ each_below n f → line ≡ f n → after ≡ text ++ line
    → after ≡ before ++ each_below (n + 1) f
more-text text before after line n f h e g = g ∙ rw (h, e, below-more n f) (append_assoc before (each_below n f) (f n))

pub no-text : (text : List ℕ) (f : ℕ → List ℕ) → text ≡ text ++ each_below 0 f
no-text text f = rw (below-none f) (sym (append-nil text))
