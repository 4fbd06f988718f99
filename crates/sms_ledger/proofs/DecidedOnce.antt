-- Decisions that are booked one after another.
use Rattle.std.specs.Prelude.{if◌then◌else◌}
use Rattle.std.proofs.Common.{◌≡◌, ◌∙◌, ℕ, Bool, true, false, List, [], ◌∷◌, ◌++◌, refl, sym, ap, subst, append-nil, append_assoc}
use Rattle.sms_ledger.specs.declared.entry.Decision.{Decision}
use Rattle.sms_ledger.specs.declared.entry.Entry.{Entry}
use Rattle.sms_ledger.specs.declared.entry.Entry.TheVariants.{Decided}
use Rattle.sms_ledger.specs.declared.refusal.Refusal.{Refusal}
use Rattle.sms_ledger.specs.Books.{IsBooked, IsRefused, State, after}
use Rattle.sms_ledger.specs.Decisions.{is_decided, undecided}
use Rattle.sms_ledger.specs.Posting.{ArePosted, IsStopped}
use Rattle.sms_ledger.specs.Text.{entry_text}
use Rattle.sms_ledger.proofs.Postings.{none_posted, one_posted, stopped}

-- these entries were posted, and those of the decisions that are left come after them
pub record AreDecided (time : ℕ) (all left : List Decision) (old now : State) (text : List ℕ) : Type 0 where
  pub done : List Entry
  pub is : undecided all old ≡ done ++ undecided left now
  pub posted : ArePosted time done old now text

pub none_decided : (time : ℕ) (ds : List Decision) (s : State) → AreDecided time ds ds s s []
none_decided time ds s = record { done = []; is = refl; posted = none_posted time s }

here : (d : Decision) (ds : List Decision) (s : State) (b : Bool) → is_decided d s ≡ b → undecided (d ∷ ds) s ≡ (if b then undecided ds s else Decided d ∷ undecided ds (after (Decided d) s))
here d ds s b e = rw e refl

-- one that is booked so
pub one_known : (time : ℕ) (all left rest : List Decision) (d : Decision) (old now : State) (text : List ℕ) → left ≡ d ∷ rest → is_decided d now ≡ true → AreDecided time all left old now text → AreDecided time all rest old now text
one_known time all left rest d old now text is known so = record {
  done = so.done;
  is = so.is ∙ ap (λ (l : List Decision). so.done ++ undecided l now) is ∙ ap (λ (l : List Entry). so.done ++ l) (here d rest now true known);
  posted = so.posted;
}

-- one that is booked now
pub one_decided : (time : ℕ) (all left rest : List Decision) (d : Decision) (old now new : State) (text line : List ℕ) → left ≡ d ∷ rest → is_decided d now ≡ false → IsBooked (Decided d) now new → line ≡ text ++ entry_text time (Decided d)
    → AreDecided time all left old now text → AreDecided time all rest old new line
one_decided time all left rest d old now new text line is fresh booked writes so = record {
  done = so.done ++ Decided d ∷ [];
  is = so.is ∙ ap (λ (l : List Decision). so.done ++ undecided l now) is ∙ ap (λ (l : List Entry). so.done ++ l) (here d rest now false fresh)
      ∙ ap (λ (s : State). so.done ++ Decided d ∷ undecided rest s) (sym booked.1) ∙ sym (append_assoc so.done (Decided d ∷ []) (undecided rest new));
  posted = one_posted time so.done (Decided d) old now new text line so.posted booked writes;
}

-- one that can't be
pub one_refused : (time : ℕ) (all left rest : List Decision) (d : Decision) (old now new : State) (text : List ℕ) (r : Refusal) → left ≡ d ∷ rest → is_decided d now ≡ false → IsRefused (Decided d) now new r
    → AreDecided time all left old now text → IsStopped (undecided all old) old r
one_refused time all left rest d old now new text r is fresh bad so =
    stopped time (undecided all old) so.done (undecided rest (after (Decided d) now)) (Decided d) old now new text r
    (so.is ∙ ap (λ (l : List Decision). so.done ++ undecided l now) is ∙ ap (λ (l : List Entry). so.done ++ l) (here d rest now false fresh)) so.posted bad

-- all of them
pub all_decided : (time : ℕ) (all left : List Decision) (old now : State) (text : List ℕ) → left ≡ [] → AreDecided time all left old now text → ArePosted time (undecided all old) old now text
all_decided time all left old now text none so =
    let is : undecided all old ≡ so.done = so.is ∙ ap (λ (l : List Decision). so.done ++ undecided l now) none ∙ append-nil so.done in
    subst (λ (es : List Entry). ArePosted time es old now text) (sym is) so.posted
