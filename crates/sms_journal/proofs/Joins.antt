-- Pieces that are written one after another.
use Rattle.std.proofs.Common.{◌≡◌, ◌∙◌, ℕ, List, ◌++◌, ap, append_assoc}

pub three : (t u v w a b c : List ℕ) → u ≡ t ++ a → v ≡ u ++ b → w ≡ v ++ c → w ≡ t ++ (a ++ (b ++ c))
three t u v w a b c e f g = g ∙ ap (λ (x : List ℕ). x ++ c) (f ∙ ap (λ (x : List ℕ). x ++ b) e) ∙ append_assoc (t ++ a) b c ∙ append_assoc t a (b ++ c)

pub four : (t u v w x a b c d : List ℕ) → u ≡ t ++ a → v ≡ u ++ b → w ≡ v ++ c → x ≡ w ++ d → x ≡ t ++ (a ++ (b ++ (c ++ d)))
four t u v w x a b c d e f g h =
    h ∙ ap (λ (y : List ℕ). y ++ d) (three t u v w a b c e f g) ∙ append_assoc t (a ++ (b ++ c)) d
    ∙ ap (λ (y : List ℕ). t ++ y) (append_assoc a (b ++ c) d ∙ ap (λ (y : List ℕ). a ++ y) (append_assoc b c d))
