-- What a journal says of its run: its rounds, and its whole lines.
use Rattle.std.proofs.Common.{◌≡◌, ℕ, ◌+◌, List, [], ◌∷◌, ◌++◌, length, take, Some, inl, inr, refl, sym, ap, ◌∙◌, subst, arith}
use Rattle.std.specs.Prelude.{◌≢◌, slice_get}
use Rattle.std.proofs.lemmas.Option.{slice_get_within}
use Rattle.sms_journal.specs.declared.notes.note.Note.{Note}
use Rattle.sms_journal.specs.declared.notes.note.Note.TheVariants.{Begun, Sent, Unsent, Heard, Refused, End, Round}
use Rattle.sms_journal.specs.Resuming.{AreWhole, number_by}
use Rattle.sms_journal.specs.Rounds.{Going, going_after, going_by}
use Rattle.sms_files.proofs.Lists.{got_of_append}
use Rattle.sms_journal.proofs.Lists.{got_before, got_last, take_snoc}
use Rattle.sms_journal.proofs.Rounds.{after_append}

-- ---- rounds

its_number : (g : Going) (n : Note) → number_by g.number n ≡ (going_by g n).number
its_number g (Begun i) = refl
its_number g (Sent request i p) = refl
its_number g (Unsent request) = refl
its_number g (Heard by reply) = refl
its_number g (Refused i refusal) = refl
its_number g (End status) = refl
its_number g (Round number binds workers) = refl

pub number_more : (g : Going) (notes : List Note) (k number : ℕ) (n : Note) → slice_get notes k ≡ Some n → number ≡ (going_after g (take k notes)).number
    → number_by number n ≡ (going_after g (take (k + 1) notes)).number
number_more g notes k number n there is =
    ap (λ (m : ℕ). number_by m n) is ∙ its_number (going_after g (take k notes)) n
    ∙ sym (ap (λ (l : List Note). (going_after g l).number) (take_snoc notes k n there) ∙ ap (λ (h : Going). h.number) (after_append g (take k notes) (n ∷ [])))

-- ---- whole lines

pub none_whole : AreWhole [] 0
none_whole = record { within = omega arith; last = λ k is. absurd (omega (arith, is)); cut = λ k low at. absurd (cc) }

-- one octet more
module _ (text : List ℕ) (octet : ℕ) where
  long : length (text ++ octet ∷ []) ≡ length text + 1
  long = long_of text
    where
      long_of : (l : List ℕ) → length (l ++ octet ∷ []) ≡ length l + 1
      long_of [] = refl
      long_of (x ∷ l) = let h = long_of l in omega (arith, h)

  whole_feed : (whole : ℕ) → AreWhole text whole → octet ≡ 10 → AreWhole (text ++ octet ∷ []) (length text + 1)
  whole_feed whole h feed = record {
    within = omega (arith, long);
    last = λ k is. let same : length text ≡ k = omega (arith, is) in subst (λ (j : ℕ). slice_get (text ++ octet ∷ []) j ≡ Some 10) same (got_last text octet ∙ ap Some feed);
    cut = λ k low at. let within = slice_get_within (text ++ octet ∷ []) k 10 at in absurd (omega (arith, within, long, low));
  }

  whole_other : (whole : ℕ) → AreWhole text whole → octet ≢ 10 → AreWhole (text ++ octet ∷ []) whole
  whole_other whole h other = record {
    within = let low = h.within in omega (arith, long, low);
    last = λ k is. got_before text octet k 10 (h.last k is);
    cut = λ k low at. elim (got_of_append text octet k 10 at) [ inl before ↦ h.cut k low before | inr here ↦ other (sym here.1) ];
  }

pub whole_more : (text more : List ℕ) (octet whole : ℕ) → more ≡ text ++ octet ∷ [] → AreWhole text whole → octet ≢ 10 → AreWhole more whole
whole_more text more octet whole is h other = subst (λ (l : List ℕ). AreWhole l whole) (sym is) (whole_other text octet whole h other)

pub whole_here : (text more : List ℕ) (octet whole : ℕ) → more ≡ text ++ octet ∷ [] → AreWhole text whole → octet ≡ 10 → AreWhole more (length text + 1)
whole_here text more octet whole is h feed = subst (λ (l : List ℕ). AreWhole l (length text + 1)) (sym is) (whole_feed text octet whole h feed)
