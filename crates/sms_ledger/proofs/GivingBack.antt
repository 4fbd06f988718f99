-- What a run gives back of distinct accounts.
use Rattle.std.proofs.Common.{◌≡◌, ℕ, ◌+◌, List, [], ◌∷◌, ◌++◌, Some, None, refl, sym, ap, ◌∙◌, subst}
use Rattle.std.specs.Prelude.{◌≢◌, Option}
use Rattle.std.specs.Str.{bytes_eq}
use Rattle.sms_core.specs.declared.row.Row.{Row as RunRow}
use Rattle.sms_ledger.specs.declared.entry.Stand.{Stand}
use Rattle.sms_ledger.specs.declared.entry.Stand.TheVariants.{Out, Back}
use Rattle.sms_ledger.specs.declared.entry.Entry.{Entry}
use Rattle.sms_ledger.specs.declared.entry.Entry.TheVariants.{Returned}
use Rattle.sms_ledger.specs.Books.{AreBooked, State, after, after_all, back_refusal, refusal_of, stand_of}
use Rattle.sms_ledger.specs.Posting.{return_from, return_of, returns_of}
use Rattle.sms_ledger.specs.PostingLaws.{AddUp, AreBack, AreDistinct, IsNoneOf, ReturnsAreBooked, ReturnsBringBack, back_if_out}
use Rattle.sms_ledger.proofs.Causes.{back_fits}
use Rattle.sms_ledger.proofs.Stakes.{changed, changed_other}
use Rattle.sms_ledger.proofs.TakingAll.{and_false, other_text}

-- the entry by which a run's row of an account is booked
abbrev entry_of : List ℕ → List ℕ → RunRow → Entry
entry_of run name row = Returned (record { of = record { run = run; account = name }; free = row.free; doubt = row.reserved; spent = row.charged })

other_stand : (run name q : List ℕ) (row : RunRow) (s : State) → q ≢ name → stand_of run q (after (entry_of run name row) s) ≡ stand_of run q s
other_stand run name q row s ne = changed_other run q run name (Back row.reserved) s.stakes (and_false (bytes_eq run run) (bytes_eq q name) (other_text q name ne))

others_returned : (run name : List ℕ) (row : RunRow) (s : State) (names : List (List ℕ)) (rows : List RunRow) → IsNoneOf name names → returns_of run s names rows ≡ returns_of run (after (entry_of run name row) s) names rows
others_returned run name row s [] rows h = refl
others_returned run name row s (q ∷ names) [] h = refl
others_returned run name row s (q ∷ names) (r ∷ rows) h =
    let t = after (entry_of run name row) s in
    ap (λ (st : Option Stand). return_from run q r st ++ returns_of run s names rows) (sym (other_stand run name q row s (λ e. h.0 (sym e)))) ∙ ap (λ (l : List Entry). return_of run t q r ++ l) (others_returned run name row s names rows h.1)

others_add_up : (run name : List ℕ) (row : RunRow) (s : State) (names : List (List ℕ)) (rows : List RunRow) → IsNoneOf name names → AddUp run s names rows → AddUp run (after (entry_of run name row) s) names rows
others_add_up run name row s [] rows h u = tt
others_add_up run name row s (q ∷ names) [] h u = tt
others_add_up run name row s (q ∷ names) (r ∷ rows) h u = (λ n e. u.0 n (sym (other_stand run name q row s (λ e. h.0 (sym e))) ∙ e), others_add_up run name row s names rows h.1 u.1)

-- a row that adds up may follow
may_follow : (run name : List ℕ) (row : RunRow) (s : State) (n : ℕ) → stand_of run name s ≡ Some (Out n) → row.free + row.reserved + row.charged ≡ n → refusal_of (entry_of run name row) s ≡ None
may_follow run name row s n out sum = ap (back_refusal (row.free + row.reserved + row.charged)) out ∙ back_fits (row.free + row.reserved + row.charged) n sum

pub returns_booked : ReturnsAreBooked
returns_booked s run [] rows d u = tt
returns_booked s run (name ∷ names) [] d u = tt
returns_booked s run (name ∷ names) (row ∷ rows) d u =
    here (stand_of run name s) refl (returns_booked s run names rows d.1 u.1) (returns_booked (after (entry_of run name row) s) run names rows d.1 (others_add_up run name row s names rows d.0 u.1))
  where
    here : (st : Option Stand) → stand_of run name s ≡ st → AreBooked s (returns_of run s names rows) → AreBooked (after (entry_of run name row) s) (returns_of run (after (entry_of run name row) s) names rows)
        → AreBooked s (return_from run name row st ++ returns_of run s names rows)
    here None is now later = now
    here (Some (Back doubt)) is now later = now
    here (Some (Out n)) is now later = (may_follow run name row s n is (u.0 n is), subst (AreBooked (after (entry_of run name row) s)) (sym (others_returned run name row s names rows d.0)) later)

-- what is booked of others leaves one as it stands
stays : (run q : List ℕ) (s : State) (names : List (List ℕ)) (rows : List RunRow) → AreDistinct names → IsNoneOf q names → stand_of run q (after_all (returns_of run s names rows) s) ≡ stand_of run q s
stays run q s [] rows d h = refl
stays run q s (name ∷ names) [] d h = refl
stays run q s (name ∷ names) (row ∷ rows) d h = here (stand_of run name s) (stays run q s names rows d.1 h.1) (stays run q (after (entry_of run name row) s) names rows d.1 h.1)
  where
    here : (st : Option Stand) → stand_of run q (after_all (returns_of run s names rows) s) ≡ stand_of run q s
        → stand_of run q (after_all (returns_of run (after (entry_of run name row) s) names rows) (after (entry_of run name row) s)) ≡ stand_of run q (after (entry_of run name row) s)
        → stand_of run q (after_all (return_from run name row st ++ returns_of run s names rows) s) ≡ stand_of run q s
    here None now later = now
    here (Some (Back doubt)) now later = now
    here (Some (Out n)) now later =
        ap (λ (l : List Entry). stand_of run q (after_all l (after (entry_of run name row) s))) (others_returned run name row s names rows d.0) ∙ later ∙ other_stand run name q row s h.0

same_old : (run name : List ℕ) (row : RunRow) (s new : State) (names : List (List ℕ)) (rows : List RunRow) → IsNoneOf name names → AreBack run (after (entry_of run name row) s) new names rows → AreBack run s new names rows
same_old run name row s new [] rows h a = tt
same_old run name row s new (q ∷ names) [] h a = tt
same_old run name row s new (q ∷ names) (r ∷ rows) h a =
    (a.0 ∙ ap (back_if_out r.reserved) (other_stand run name q row s (λ e. h.0 (sym e))), same_old run name row s new names rows h.1 a.1)

pub returns_bring_back : ReturnsBringBack
returns_bring_back s run [] rows d = tt
returns_bring_back s run (name ∷ names) [] d = tt
returns_bring_back s run (name ∷ names) (row ∷ rows) d =
    here (stand_of run name s) refl (returns_bring_back s run names rows d.1) (returns_bring_back (after (entry_of run name row) s) run names rows d.1)
  where
    here : (st : Option Stand) → stand_of run name s ≡ st → AreBack run s (after_all (returns_of run s names rows) s) names rows
        → AreBack run (after (entry_of run name row) s) (after_all (returns_of run (after (entry_of run name row) s) names rows) (after (entry_of run name row) s)) names rows
        → AreBack run s (after_all (return_from run name row st ++ returns_of run s names rows) s) (name ∷ names) (row ∷ rows)
    here None is now later = (stays run name s names rows d.1 d.0 ∙ is ∙ sym (ap (back_if_out row.reserved) is), now)
    here (Some (Back doubt)) is now later = (stays run name s names rows d.1 d.0 ∙ is ∙ sym (ap (back_if_out row.reserved) is), now)
    here (Some (Out n)) is now later =
        let t = after (entry_of run name row) s in
        subst (λ (l : List Entry). AreBack run s (after_all l t) (name ∷ names) (row ∷ rows)) (sym (others_returned run name row s names rows d.0)) (
          stays run name t names rows d.1 d.0 ∙ changed run name (Out n) (Back row.reserved) s.stakes is ∙ sym (ap (back_if_out row.reserved) is),
          same_old run name row s (after_all (returns_of run t names rows) t) names rows d.0 later,
        )
