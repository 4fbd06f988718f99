-- Octets that leave the front of a queue one after another.
use Rattle.std.proofs.Common.{◌≡◌, ℕ, ◌+◌, ◌<◌, List, [], ◌∷◌, ◌++◌, length, take, drop, set, refl, sym, ap, ◌∙◌, arith, append_assoc}
use Rattle.std.proofs.lemmas.List.{take_more_set, take_all, take_at, drop_at}

-- one more was popped into the list
pub pop_next : (to : List ℕ) (at octet : ℕ) (old new whole : List ℕ) → at < length to → take at to ++ old ≡ whole → old ≡ octet ∷ new → take (at + 1) (set to at octet) ++ new ≡ whole
pop_next to at octet old new whole low joined front =
    ap (λ (l : List ℕ). l ++ new) (take_more_set to at octet low) ∙ append_assoc (take at to) (octet ∷ []) new ∙ ap (λ (l : List ℕ). take at to ++ l) (sym front) ∙ joined

-- all of it was filled
pub popped_front : (to queue whole : List ℕ) (n : ℕ) → n ≡ length to → take n to ++ queue ≡ whole → to ≡ take (length to) whole
popped_front to queue whole n long joined = sym (ap (take (length to)) (sym joined ∙ ap (λ (l : List ℕ). l ++ queue) (take_all n to (omega (arith, long)))) ∙ take_at to queue (length to) refl)

pub popped_rest : (to queue whole : List ℕ) (n : ℕ) → n ≡ length to → take n to ++ queue ≡ whole → queue ≡ drop (length to) whole
popped_rest to queue whole n long joined = sym (ap (drop (length to)) (sym joined ∙ ap (λ (l : List ℕ). l ++ queue) (take_all n to (omega (arith, long)))) ∙ drop_at to queue (length to) refl)
