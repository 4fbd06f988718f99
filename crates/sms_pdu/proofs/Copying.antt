-- Octets copied one after the other into zeros.
use Rattle.std.proofs.Common.{◌≡◌, ℕ, suc, ◌+◌, ◌-◌, ◌<◌, ◌≤◌, List, [], ◌∷◌, ◌++◌, length, take, get_or, set, replicate, sym, ap, ◌∙◌, append_assoc, add-one, arith}
use Rattle.std.proofs.lemmas.List.{length-take}
use Rattle.std.proofs.Math.Seq.{take-suc, set-append_seam}

-- i octets of the text, then zeros up to n
abbrev pub copied : ℕ → ℕ → List ℕ → List ℕ
copied n i text = take i text ++ replicate (n - i) 0

pub copied-suc : (n i : ℕ) (text : List ℕ) → i < length text → length text ≤ n → set (copied n i text) i (get_or text i 0) ≡ copied n (i + 1) text
copied-suc n i text lt le =
    let x = get_or text i 0 in
    let k : n - i ≡ suc (n - (i + 1)) = omega arith in
    let len : length (take i text) ≡ i = omega (arith, length-take i text) in
    let seam : set (take i text ++ 0 ∷ replicate (n - (i + 1)) 0) (length (take i text)) x ≡ take i text ++ x ∷ replicate (n - (i + 1)) 0 = set-append_seam (take i text) 0 (replicate (n - (i + 1)) 0) x in
    let more : take (i + 1) text ≡ take i text ++ x ∷ [] = rw add-one (take-suc text i 0 lt) in
    rw (k, more, append_assoc) (ap (λ (j : ℕ). set (take i text ++ 0 ∷ replicate (n - (i + 1)) 0) j x) (sym len) ∙ seam)
