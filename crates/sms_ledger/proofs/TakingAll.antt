-- What a run takes of distinct accounts.
use Rattle.std.proofs.Common.{◌≡◌, ℕ, Bool, true, false, List, [], ◌∷◌, ◌++◌, Some, None, refl, sym, ap, ◌∙◌, subst, arith}
use Rattle.std.specs.Prelude.{◌==◌, ◌-◌, ◌&&◌, ◌≢◌, Option, option_map, unwrap_or, if◌then◌else◌}
use Rattle.std.specs.Str.{bytes_eq}
use Rattle.std.proofs.lemmas.List.Concat.{flat_map-cons}
use Rattle.std.proofs.lemmas.Bool.{le-leb, eqb-true}
use Rattle.sms_ledger.specs.declared.entry.Row.{Row}
use Rattle.sms_ledger.specs.declared.entry.Stand.TheVariants.{Out}
use Rattle.sms_ledger.specs.declared.entry.Entry.{Entry}
use Rattle.sms_ledger.specs.declared.entry.Entry.TheVariants.{Taken}
use Rattle.sms_ledger.specs.declared.refusal.Refusal.TheVariants.{NoCredit}
use Rattle.sms_ledger.specs.Books.{AreBooked, State, after, after_all, no_row, refusal_of, row_at, stand_of, take_out, taken_refusal}
use Rattle.sms_ledger.specs.Posting.{taking_from, taking_of, takings_of}
use Rattle.sms_ledger.specs.PostingLaws.{AreDistinct, AreTaken, AreUntaken, IsNoneOf, TakingsAreBooked, TakingsTakeAll, out_if_some}
use Rattle.sms_ledger.proofs.Stakes.{pushed, pushed_other, same_text, text_self}

pub other_text : (a b : List ℕ) → a ≢ b → bytes_eq a b ≡ false
other_text a b ne = here (bytes_eq a b) refl
  where
    here : (x : Bool) → bytes_eq a b ≡ x → x ≡ false
    here true e = absurd (ne (same_text a b e))
    here false e = refl

pub and_false : (a b : Bool) → b ≡ false → (a && b) ≡ false
and_false true b e = e
and_false false b e = refl

-- the entry by which a run takes so much
abbrev entry_of : List ℕ → List ℕ → ℕ → Entry
entry_of run name n = Taken (record { of = record { run = run; account = name }; credits = n })

-- ---- the other accounts stay

other_row : (run name q : List ℕ) (n : ℕ) (s : State) → name ≢ q → (after (entry_of run name n) s).accounts q ≡ s.accounts q
other_row run name q n s ne = ap (λ (b : Bool). if b then option_map (take_out n) (s.accounts q) else s.accounts q) (other_text name q ne)

other_stand : (run name q : List ℕ) (n : ℕ) (s : State) → q ≢ name → stand_of run q (after (entry_of run name n) s) ≡ stand_of run q s
other_stand run name q n s ne = pushed_other run q (record { of = record { run = run; account = name }; stand = Out n }) s.stakes (and_false (bytes_eq run run) (bytes_eq q name) (other_text q name ne))

others_taken : (run name : List ℕ) (n : ℕ) (s : State) (names : List (List ℕ)) → IsNoneOf name names → takings_of run s names ≡ takings_of run (after (entry_of run name n) s) names
others_taken run name n s [] h = refl
others_taken run name n s (q ∷ names) h =
    let e = entry_of run name n in
    flat_map-cons (taking_of run s) q names ∙ ap (λ (l : List Entry). l ++ takings_of run s names) (ap (taking_from run q) (sym (other_row run name q n s h.0)))
    ∙ ap (λ (l : List Entry). taking_of run (after e s) q ++ l) (others_taken run name n s names h.1) ∙ sym (flat_map-cons (taking_of run (after e s)) q names)

others_untaken : (run name : List ℕ) (n : ℕ) (s : State) (names : List (List ℕ)) → IsNoneOf name names → AreUntaken run s names → AreUntaken run (after (entry_of run name n) s) names
others_untaken run name n s [] h u = tt
others_untaken run name n s (q ∷ names) h u = (other_stand run name q n s (λ e. h.0 (sym e)) ∙ u.0, others_untaken run name n s names h.1 u.1)

-- ---- one account, and the rest

-- what is so of one account, once all that a run takes of others is booked
record Stays (run q : List ℕ) (old new : State) : Type 0 where
  pub row : new.accounts q ≡ old.accounts q
  pub stand : stand_of run q new ≡ stand_of run q old

stays : (run q : List ℕ) (s : State) (names : List (List ℕ)) → AreDistinct names → IsNoneOf q names → Stays run q s (after_all (takings_of run s names) s)
stays run q s [] d h = record { row = refl; stand = refl }
stays run q s (name ∷ names) d h =
    subst (λ (l : List Entry). Stays run q s (after_all l s)) (sym (flat_map-cons (taking_of run s) name names)) (here (s.accounts name) (stays run q s names d.1 h.1) (λ (n : ℕ). stays run q (after (entry_of run name n) s) names d.1 h.1))
  where
    turned : name ≢ q
    turned e = h.0 (sym e)

    one : (n : ℕ) → Stays run q (after (entry_of run name n) s) (after_all (takings_of run (after (entry_of run name n) s) names) (after (entry_of run name n) s)) → Stays run q s (after_all (takings_of run s names) (after (entry_of run name n) s))
    one n later =
        let t = after (entry_of run name n) s in
        let k = subst (λ (l : List Entry). Stays run q t (after_all l t)) (sym (others_taken run name n s names d.0)) later in
        record { row = k.row ∙ other_row run name q n s turned; stand = k.stand ∙ other_stand run name q n s h.0 }

    some : (n : ℕ) (b : Bool) → Stays run q s (after_all (takings_of run s names) s)
        → ((n : ℕ) → Stays run q (after (entry_of run name n) s) (after_all (takings_of run (after (entry_of run name n) s) names) (after (entry_of run name n) s))) → Stays run q s (after_all ((if b then [] else entry_of run name n ∷ []) ++ takings_of run s names) s)
    some n true now later = now
    some n false now later = one n (later n)

    here : (o : Option Row) → Stays run q s (after_all (takings_of run s names) s) → ((n : ℕ) → Stays run q (after (entry_of run name n) s) (after_all (takings_of run (after (entry_of run name n) s) names) (after (entry_of run name n) s)))
        → Stays run q s (after_all (taking_from run name o ++ takings_of run s names) s)
    here None now later = now
    here (Some row) now later = some row.free (row.free == 0) now later

-- ---- the account itself

record TakesAll (run name : List ℕ) (n : ℕ) (s : State) : Type 0 where
  pub ok : refusal_of (entry_of run name n) s ≡ None
  pub none : (row_at name (after (entry_of run name n) s)).free ≡ 0
  pub out : stand_of run name (after (entry_of run name n) s) ≡ Some (Out n)

takes_all : (run name : List ℕ) (row : Row) (s : State) → s.accounts name ≡ Some row → stand_of run name s ≡ None → TakesAll run name row.free s
takes_all run name row s has untaken =
    let mine : (bytes_eq run run && bytes_eq name name) ≡ true = ap (λ (b : Bool). b && bytes_eq name name) (text_self run) ∙ text_self name in
    record {
      ok = ap (λ (o : Option Row). taken_refusal row.free o (stand_of run name s)) has ∙ ap (taken_refusal row.free (Some row)) untaken ∙ ap (λ (b : Bool). if b then None else Some NoCredit) (le-leb row.free row.free (omega arith));
      none = ap (λ (b : Bool). (unwrap_or (if b then option_map (take_out row.free) (s.accounts name) else s.accounts name) no_row).free) (text_self name) ∙ ap (λ (o : Option Row). (unwrap_or (option_map (take_out row.free) o) no_row).free) has ∙ left row.free;
      out = pushed run name (record { of = record { run = run; account = name }; stand = Out row.free }) s.stakes untaken mine;
    }
  where
    left : (n : ℕ) → n - n ≡ 0
    left n = omega arith

pub takings_booked : TakingsAreBooked
takings_booked s run [] d u = tt
takings_booked s run (name ∷ names) d u =
    subst (AreBooked s) (sym (flat_map-cons (taking_of run s) name names))
    (here (s.accounts name) refl (takings_booked s run names d.1 u.1) (λ (n : ℕ). takings_booked (after (entry_of run name n) s) run names d.1 (others_untaken run name n s names d.0 u.1)))
  where
    some : (row : Row) (b : Bool) → s.accounts name ≡ Some row → AreBooked s (takings_of run s names) → ((n : ℕ) → AreBooked (after (entry_of run name n) s) (takings_of run (after (entry_of run name n) s) names))
        → AreBooked s ((if b then [] else entry_of run name row.free ∷ []) ++ takings_of run s names)
    some row true has now later = now
    some row false has now later =
        let t = after (entry_of run name row.free) s in
        ((takes_all run name row s has u.0).ok, subst (AreBooked t) (sym (others_taken run name row.free s names d.0)) (later row.free))

    here : (o : Option Row) → s.accounts name ≡ o → AreBooked s (takings_of run s names) → ((n : ℕ) → AreBooked (after (entry_of run name n) s) (takings_of run (after (entry_of run name n) s) names))
        → AreBooked s (taking_from run name o ++ takings_of run s names)
    here None has now later = now
    here (Some row) has now later = some row (row.free == 0) has now later

same_old : (run name : List ℕ) (n : ℕ) (s new : State) (names : List (List ℕ)) → IsNoneOf name names → AreTaken run (after (entry_of run name n) s) new names → AreTaken run s new names
same_old run name n s new [] h a = tt
same_old run name n s new (q ∷ names) h a =
    (a.0 ∙ ap (λ (o : Option Row). out_if_some (unwrap_or o no_row).free) (other_row run name q n s h.0), a.1, same_old run name n s new names h.1 a.2)

pub takings_take_all : TakingsTakeAll
takings_take_all s run [] d u = tt
takings_take_all s run (name ∷ names) d u =
    subst (λ (l : List Entry). AreTaken run s (after_all l s) (name ∷ names)) (sym (flat_map-cons (taking_of run s) name names))
    (here (s.accounts name) refl (takings_take_all s run names d.1 u.1) (λ (n : ℕ). takings_take_all (after (entry_of run name n) s) run names d.1 (others_untaken run name n s names d.0 u.1)))
  where
    -- nothing of it is taken
    nothing : (n : ℕ) → (row_at name s).free ≡ n → n ≡ 0 → AreTaken run s (after_all (takings_of run s names) s) names → AreTaken run s (after_all (takings_of run s names) s) (name ∷ names)
    nothing n is none now =
        let k = stays run name s names d.1 d.0 in
        let free : (row_at name s).free ≡ 0 = is ∙ none in
        (k.stand ∙ u.0 ∙ sym (ap out_if_some free), ap (λ (o : Option Row). (unwrap_or o no_row).free) k.row ∙ free, now)

    taken : (row : Row) → s.accounts name ≡ Some row → (row.free == 0) ≡ false
        → ((n : ℕ) → AreTaken run (after (entry_of run name n) s) (after_all (takings_of run (after (entry_of run name n) s) names) (after (entry_of run name n) s)) names)
        → AreTaken run s (after_all (takings_of run s names) (after (entry_of run name row.free) s)) (name ∷ names)
    taken row has is later =
        let t = after (entry_of run name row.free) s in
        let one = takes_all run name row s has u.0 in
        let rest = others_taken run name row.free s names d.0 in
        let k = stays run name t names d.1 d.0 in
        let free : (row_at name s).free ≡ row.free = ap (λ (o : Option Row). (unwrap_or o no_row).free) has in
        let told : out_if_some (row_at name s).free ≡ Some (Out row.free) = ap out_if_some free ∙ ap (λ (b : Bool). if b then None else Some (Out row.free)) is in
        subst (λ (l : List Entry). AreTaken run s (after_all l t) (name ∷ names)) (sym rest)
        (k.stand ∙ one.out ∙ sym told, ap (λ (o : Option Row). (unwrap_or o no_row).free) k.row ∙ one.none, same_old run name row.free s (after_all (takings_of run t names) t) names d.0 (later row.free))

    some : (row : Row) (b : Bool) → (row.free == 0) ≡ b → s.accounts name ≡ Some row → AreTaken run s (after_all (takings_of run s names) s) names
        → ((n : ℕ) → AreTaken run (after (entry_of run name n) s) (after_all (takings_of run (after (entry_of run name n) s) names) (after (entry_of run name n) s)) names)
        → AreTaken run s (after_all ((if b then [] else entry_of run name row.free ∷ []) ++ takings_of run s names) s) (name ∷ names)
    some row true is has now later = nothing row.free (ap (λ (o : Option Row). (unwrap_or o no_row).free) has) (eqb-true row.free 0 is) now
    some row false is has now later = taken row has is later

    here : (o : Option Row) → s.accounts name ≡ o → AreTaken run s (after_all (takings_of run s names) s) names
        → ((n : ℕ) → AreTaken run (after (entry_of run name n) s) (after_all (takings_of run (after (entry_of run name n) s) names) (after (entry_of run name n) s)) names)
        → AreTaken run s (after_all (taking_from run name o ++ takings_of run s names) s) (name ∷ names)
    here None has now later = nothing 0 (ap (λ (o : Option Row). (unwrap_or o no_row).free) has) refl now
    here (Some row) has now later = some row (row.free == 0) refl has now later
