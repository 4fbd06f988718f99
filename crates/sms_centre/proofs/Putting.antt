-- Pieces that are said and written one after another.
use Rattle.std.proofs.Common.{◌≡◌, ℕ, ◌+◌, ◌<◌, List, [], ◌∷◌, ◌++◌, length, take, get_or, refl, sym, ap, ◌∙◌, subst, append_assoc, append-nil}
use lib.Seq.{take-append-add}
use Rattle.std.specs.List.{AllZip, concat}
use Rattle.std.proofs.lemmas.List.Folds.{concat-append}
use Rattle.std.proofs.lemmas.List.{take_more}
use Rattle.std.proofs.lemmas.List.Concat.{flat_map-append}
use Rattle.sms_core.specs.Statuses.{no_error}
use Rattle.sms_pdu.specs.Writing.{Adds}
use Rattle.sms_centre.specs.declared.kept.Kept.{Kept}
use Rattle.sms_centre.specs.declared.said.Said.{Said}
use Rattle.sms_centre.specs.declared.said.Said.TheVariants as said
use Rattle.sms_centre.specs.Says.{IsSaid, Puts, PutsAll, answer_to, said_of, due}

pub AllZip-append : {A B : Type 0} (R : A → B → Type 0) (xs us : List A) (ys vs : List B) → AllZip R xs ys → AllZip R us vs → AllZip R (xs ++ us) (ys ++ vs)
AllZip-append R [] us [] vs p q = q
AllZip-append R [] us (y ∷ ys) vs p q = absurd p
AllZip-append R (x ∷ xs) us [] vs p q = absurd p
AllZip-append R (x ∷ xs) us (y ∷ ys) vs p q = (p.0, AllZip-append R xs us ys vs p.1 q)

-- behind nothing
pub said_alone : (s : Said) (old new : List ℕ) → old ≡ [] → Puts s old new → IsSaid s new
said_alone s old new none a = subst (IsSaid s) (sym (a.behind ∙ ap (λ (l : List ℕ). l ++ a.octets) none)) a.is

-- the front of what was added
pub cut_behind : (k number n : ℕ) (old new cut : List ℕ) → n ≡ length old → Adds (answer_to k no_error number) old new → cut ≡ take (n + 10) new → Puts (said.CutResp k number) old cut
cut_behind k number n old new cut long a is =
    record {
      octets = take 10 a.octets;
      is = record { all = a.octets; spelled = a.spelled; front = refl };
      behind = is ∙ ap (λ l. take (n + 10) l) a.behind ∙ ap (λ i. take (i + 10) (old ++ a.octets)) long ∙ take-append-add old a.octets 10;
    }

pub none_put : (out : List ℕ) → PutsAll [] out out
none_put out = record { pieces = []; behind = sym (append-nil out); said = tt }

-- one piece more
pub put_more : (ss : List Said) (s : Said) (a b c : List ℕ) → PutsAll ss a b → Puts s b c → PutsAll (ss ++ s ∷ []) a c
put_more ss s a b c p q =
    record {
      pieces = p.pieces ++ q.octets ∷ [];
      behind = q.behind ∙ ap (λ (l : List ℕ). l ++ q.octets) p.behind ∙ append_assoc a (concat p.pieces) q.octets
          ∙ ap (λ (l : List ℕ). a ++ l) (ap (λ (l : List ℕ). concat p.pieces ++ l) (sym (append-nil q.octets)) ∙ sym (concat-append p.pieces (q.octets ∷ [])));
      said = AllZip-append IsSaid ss (s ∷ []) p.pieces (q.octets ∷ []) p.said (q.is, tt);
    }

pub put_next : (ss : List Said) (i : ℕ) (d : Said) (a b c : List ℕ) → i < length ss → PutsAll (take i ss) a b → Puts (get_or ss i d) b c → PutsAll (take (i + 1) ss) a c
put_next ss i d a b c low p x = subst (λ (l : List Said). PutsAll l a c) (sym (take_more ss i d low)) (put_more (take i ss) (get_or ss i d) a b c p x)

-- one piece more by itself
pub said_next : (ss : List Said) (i : ℕ) (d : Said) (old new : List (List ℕ)) (octets : List ℕ) → i < length ss → AllZip IsSaid (take i ss) old → IsSaid (get_or ss i d) octets → new ≡ old ++ octets ∷ [] → AllZip IsSaid (take (i + 1) ss) new
said_next ss i d old new octets low p x e =
    subst (λ (l : List Said). AllZip IsSaid l new) (sym (take_more ss i d low))
    (subst (λ (l : List (List ℕ)). AllZip IsSaid (take i ss ++ get_or ss i d ∷ []) l) (sym e) (AllZip-append IsSaid (take i ss) (get_or ss i d ∷ []) old (octets ∷ []) p (x, tt)))

-- what is due of one more
pub due_more : (k : ℕ) (xs : List Kept) (i : ℕ) (d : Kept) → i < length xs → due k (take (i + 1) xs) ≡ due k (take i xs) ++ said_of k (get_or xs i d)
due_more k xs i d low = ap (due k) (take_more xs i d low) ∙ flat_map-append (said_of k) (take i xs) (get_or xs i d ∷ []) ∙ ap (λ l. due k (take i xs) ++ l) (append-nil (said_of k (get_or xs i d)))

pub due_next : (k : ℕ) (xs : List Kept) (i : ℕ) (x : Kept) (a b c : List Said) → i < length xs → x ≡ get_or xs i x → b ≡ a ++ due k (take i xs) → c ≡ b ++ said_of k x → c ≡ a ++ due k (take (i + 1) xs)
due_next k xs i x a b c low is p q =
    q ∙ ap (λ (l : List Said). l ++ said_of k x) p ∙ append_assoc a (due k (take i xs)) (said_of k x) ∙ ap (λ (l : List Said). a ++ l) (ap (λ (y : Kept). due k (take i xs) ++ said_of k y) is ∙ sym (due_more k xs i x low))
