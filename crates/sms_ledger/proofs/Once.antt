-- What is booked once.
use Rattle.std.proofs.Common.{◌≡◌, ℕ, ◌+◌, ◌-◌, Bool, true, false, List, [], ◌∷◌, ◌++◌, Some, None, refl, sym, ap, ◌∙◌, subst, arith, append_assoc, append-nil}
use Rattle.std.specs.Prelude.{◌&&◌, Option, find, sum_by, if◌then◌else◌}
use Rattle.std.specs.Str.{bytes_eq}
use Rattle.std.proofs.lemmas.List.Sums.{sum_by_push}
use Rattle.std.proofs.lemmas.Bool.{and_parts}
use Rattle.sms_ledger.specs.declared.entry.Taking.{Taking}
use Rattle.sms_ledger.specs.declared.entry.Statement.{Statement}
use Rattle.sms_ledger.specs.declared.entry.Decision.{Decision}
use Rattle.sms_ledger.specs.declared.entry.Stand.{Stand}
use Rattle.sms_ledger.specs.declared.entry.Stand.TheVariants.{Out, Back}
use Rattle.sms_ledger.specs.declared.entry.Entry.{Entry}
use Rattle.sms_ledger.specs.declared.entry.Entry.TheVariants.{Paid, Taken, Returned, Decided}
use Rattle.sms_ledger.specs.Books.{State, AreBooked, IsLedger, after, after_all, books_of, is_of, less, nothing, part_name, refusal_of, stand_of, with_stand}
use Rattle.sms_ledger.specs.Laws.{IsOnce, RunsBringBackOnce, StatementsAreWhole, brought_by, decided_of, doubted_by, returns_of, taken_by, takings}
use Rattle.sms_ledger.proofs.Balancing.{back_out, booked_front, decided_doubt, taken_none}
use Rattle.sms_ledger.proofs.Stakes.{changed, changed_other, pushed, pushed_other, same_text, standing}

-- ---- what each entry that may follow keeps, every ledger has

kept_from : (P : List Entry → State → Type 0) → ((hs : List Entry) (s : State) (e : Entry) → refusal_of e s ≡ None → P hs s → P (hs ++ e ∷ []) (after e s)) → (hs : List Entry) (s : State) (es : List Entry) → AreBooked s es → P hs s
    → P (hs ++ es) (after_all es s)
kept_from P step hs s [] booked h = subst (λ (l : List Entry). P l s) (sym (append-nil hs)) h
kept_from P step hs s (e ∷ es) booked h =
    subst (λ (l : List Entry). P l (after_all es (after e s))) (append_assoc hs (e ∷ []) es) (kept_from P step (hs ++ e ∷ []) (after e s) es booked.1 (step hs s e booked.0 h))

pub kept : (P : List Entry → State → Type 0) → P [] nothing → ((hs : List Entry) (s : State) (e : Entry) → refusal_of e s ≡ None → P hs s → P (hs ++ e ∷ []) (after e s)) → (es : List Entry) → IsLedger es → P es (books_of es)
kept P none step es booked = kept_from P step [] nothing es booked none

-- ---- what runs took

-- what the entries say of a run and an account
record Tells (run account : List ℕ) (es : List Entry) (times taken returned brought doubted decided : ℕ) : Type 0 where
  pub times_are : sum_by (takings run account) es ≡ times
  pub taken_is : sum_by (taken_by run account) es ≡ taken
  pub returned_are : sum_by (returns_of run account) es ≡ returned
  pub brought_is : sum_by (brought_by run account) es ≡ brought
  pub doubted_is : sum_by (doubted_by run account) es ≡ doubted
  pub decided_is : sum_by (decided_of run account) es ≡ decided

record IsBack (run account : List ℕ) (es : List Entry) (left : ℕ) : Type 0 where
  pub taken : ℕ
  pub doubted : ℕ
  pub decided : ℕ
  pub tells : Tells run account es 1 taken 1 taken doubted decided
  pub rest : doubted ≡ decided + left

abbrev Stood : List ℕ → List ℕ → List Entry → Option Stand → Type 0
Stood run account es None = Tells run account es 0 0 0 0 0 0
Stood run account es (Some (Out n)) = Tells run account es 1 n 0 0 0 0
Stood run account es (Some (Back left)) = IsBack run account es left

module _ (run account : List ℕ) (hs : List Entry) (e : Entry) where
  more : (a b c d x y a' b' c' d' x' y' : ℕ) → Tells run account hs a b c d x y → a + takings run account e ≡ a' → b + taken_by run account e ≡ b' → c + returns_of run account e ≡ c' → d + brought_by run account e ≡ d'
      → x + doubted_by run account e ≡ x' → y + decided_of run account e ≡ y' → Tells run account (hs ++ e ∷ []) a' b' c' d' x' y'
  more a b c d x y a' b' c' d' x' y' h ea eb ec ed ex ey = record {
    times_are = sum_by_push (takings run account) hs e ∙ ap (λ (n : ℕ). n + takings run account e) h.times_are ∙ ea;
    taken_is = sum_by_push (taken_by run account) hs e ∙ ap (λ (n : ℕ). n + taken_by run account e) h.taken_is ∙ eb;
    returned_are = sum_by_push (returns_of run account) hs e ∙ ap (λ (n : ℕ). n + returns_of run account e) h.returned_are ∙ ec;
    brought_is = sum_by_push (brought_by run account) hs e ∙ ap (λ (n : ℕ). n + brought_by run account e) h.brought_is ∙ ed;
    doubted_is = sum_by_push (doubted_by run account) hs e ∙ ap (λ (n : ℕ). n + doubted_by run account e) h.doubted_is ∙ ex;
    decided_is = sum_by_push (decided_of run account) hs e ∙ ap (λ (n : ℕ). n + decided_of run account e) h.decided_is ∙ ey;
  }

  -- the entry says nothing of them
  stays : (st : Option Stand) → takings run account e ≡ 0 → taken_by run account e ≡ 0 → returns_of run account e ≡ 0 → brought_by run account e ≡ 0 → doubted_by run account e ≡ 0 → decided_of run account e ≡ 0
      → Stood run account hs st → Stood run account (hs ++ e ∷ []) st
  stays None ea eb ec ed ex ey h = more 0 0 0 0 0 0 0 0 0 0 0 0 h (omega (arith, ea)) (omega (arith, eb)) (omega (arith, ec)) (omega (arith, ed)) (omega (arith, ex)) (omega (arith, ey))
  stays (Some (Out n)) ea eb ec ed ex ey h = more 1 n 0 0 0 0 1 n 0 0 0 0 h (omega (arith, ea)) (omega (arith, eb)) (omega (arith, ec)) (omega (arith, ed)) (omega (arith, ex)) (omega (arith, ey))
  stays (Some (Back left)) ea eb ec ed ex ey h = record {
    taken = h.taken;
    doubted = h.doubted;
    decided = h.decided;
    tells = more 1 h.taken 1 h.taken h.doubted h.decided 1 h.taken 1 h.taken h.doubted h.decided h.tells (omega (arith, ea)) (omega (arith, eb)) (omega (arith, ec)) (omega (arith, ed)) (omega (arith, ex)) (omega (arith, ey));
    rest = h.rest;
  }

-- the test of a pair, as it came out
to : (b c : Bool) (n : ℕ) → b ≡ c → (if b then n else 0) ≡ (if c then n else 0)
to b c n e = ap (λ (x : Bool). if x then n else 0) e

taken_step : (run account : List ℕ) (hs : List Entry) (s : State) (t : Taking) → refusal_of (Taken t) s ≡ None → Stood run account hs (stand_of run account s)
    → Stood run account (hs ++ Taken t ∷ []) (stand_of run account (after (Taken t) s))
taken_step run account hs s t ok h = here (bytes_eq run t.of.run && bytes_eq account t.of.account) refl
  where
    here : (b : Bool) → (bytes_eq run t.of.run && bytes_eq account t.of.account) ≡ b → Stood run account (hs ++ Taken t ∷ []) (stand_of run account (after (Taken t) s))
    here false is =
        subst (Stood run account (hs ++ Taken t ∷ [])) (sym (pushed_other run account (record { of = t.of; stand = Out t.credits }) s.stakes is))
        (stays run account hs (Taken t) (stand_of run account s) (to _ false 1 is) (to _ false t.credits is) refl refl refl refl h)
    here true is =
        let both = and_parts (bytes_eq run t.of.run) (bytes_eq account t.of.account) is in
        let none : stand_of run account s ≡ None = ap (λ (r : List ℕ). stand_of r account s) (same_text run t.of.run both.0) ∙ ap (λ (a : List ℕ). stand_of t.of.run a s) (same_text account t.of.account both.1) ∙ taken_none t.credits (s.accounts t.of.account) (stand_of t.of.run t.of.account s) ok in
        let k = subst (Stood run account hs) none h in
        subst (Stood run account (hs ++ Taken t ∷ [])) (sym (pushed run account (record { of = t.of; stand = Out t.credits }) s.stakes none is))
        (more run account hs (Taken t) 0 0 0 0 0 0 1 t.credits 0 0 0 0 k (omega (arith, to _ true 1 is)) (omega (arith, to _ true t.credits is)) refl refl refl refl)

returned_step : (run account : List ℕ) (hs : List Entry) (s : State) (t : Statement) → refusal_of (Returned t) s ≡ None → Stood run account hs (stand_of run account s)
    → Stood run account (hs ++ Returned t ∷ []) (stand_of run account (after (Returned t) s))
returned_step run account hs s t ok h = here (bytes_eq run t.of.run && bytes_eq account t.of.account) refl
  where
    sum : ℕ
    sum = t.free + t.doubt + t.spent

    here : (b : Bool) → (bytes_eq run t.of.run && bytes_eq account t.of.account) ≡ b → Stood run account (hs ++ Returned t ∷ []) (stand_of run account (after (Returned t) s))
    here false is =
        subst (Stood run account (hs ++ Returned t ∷ [])) (sym (changed_other run account t.of.run t.of.account (Back t.doubt) s.stakes is))
        (stays run account hs (Returned t) (stand_of run account s) refl refl (to _ false 1 is) (to _ false (t.free + t.doubt + t.spent) is) (to _ false t.doubt is) refl h)
    here true is =
        let both = and_parts (bytes_eq run t.of.run) (bytes_eq account t.of.account) is in
        let r = same_text run t.of.run both.0 in
        let a = same_text account t.of.account both.1 in
        let was : stand_of run account s ≡ Some (Out (t.free + t.doubt + t.spent)) = ap (λ (r : List ℕ). stand_of r account s) r ∙ ap (λ (a : List ℕ). stand_of t.of.run a s) a ∙ back_out (t.free + t.doubt + t.spent) (stand_of t.of.run t.of.account s) ok in
        let k = subst (Stood run account hs) was h in
        let now : stand_of run account (after (Returned t) s) ≡ Some (Back t.doubt) =
        ap (λ (r : List ℕ). standing (find (is_of run account) (with_stand r t.of.account (Back t.doubt) s.stakes))) (sym r) ∙ ap (λ (a : List ℕ). standing (find (is_of run account) (with_stand run a (Back t.doubt) s.stakes))) (sym a)
        ∙ changed run account (Out (t.free + t.doubt + t.spent)) (Back t.doubt) s.stakes was
        in
        subst (Stood run account (hs ++ Returned t ∷ [])) (sym now)
        (record {
          taken = t.free + t.doubt + t.spent;
          doubted = t.doubt;
          decided = 0;
          tells = more run account hs (Returned t) 1 (t.free + t.doubt + t.spent) 0 0 0 0 1 (t.free + t.doubt + t.spent) 1 (t.free + t.doubt + t.spent) t.doubt 0 k refl (omega arith) (omega (arith, to _ true 1 is)) (omega (arith, to _ true (t.free + t.doubt + t.spent) is)) (omega (arith, to _ true t.doubt is)) refl;
          rest = omega arith;
        })

decided_step : (run account : List ℕ) (hs : List Entry) (s : State) (t : Decision) → refusal_of (Decided t) s ≡ None → Stood run account hs (stand_of run account s)
    → Stood run account (hs ++ Decided t ∷ []) (stand_of run account (after (Decided t) s))
decided_step run account hs s t ok h = here (bytes_eq run t.of.run && bytes_eq account t.of.account) refl
  where
    new : Stand
    new = less t.cost (stand_of t.of.run t.of.account s)

    here : (b : Bool) → (bytes_eq run t.of.run && bytes_eq account t.of.account) ≡ b → Stood run account (hs ++ Decided t ∷ []) (stand_of run account (after (Decided t) s))
    here false is =
        subst (Stood run account (hs ++ Decided t ∷ [])) (sym (changed_other run account t.of.run t.of.account (less t.cost (stand_of t.of.run t.of.account s)) s.stakes is))
        (stays run account hs (Decided t) (stand_of run account s) refl refl refl refl refl (to _ false t.cost is) h)
    here true is =
        let both = and_parts (bytes_eq run t.of.run) (bytes_eq account t.of.account) is in
        let r = same_text run t.of.run both.0 in
        let a = same_text account t.of.account both.1 in
        let k = decided_doubt (s.decided (part_name t.of.run t.message t.part)) t.cost (stand_of t.of.run t.of.account s) ok in
        let was : stand_of run account s ≡ Some (Back k.doubt) = ap (λ (r : List ℕ). stand_of r account s) r ∙ ap (λ (a : List ℕ). stand_of t.of.run a s) a ∙ k.is in
        let g = subst (Stood run account hs) was h in
        let now : stand_of run account (after (Decided t) s) ≡ Some (Back (k.doubt - t.cost)) =
        ap (λ (x : Stand). standing (find (is_of run account) (with_stand t.of.run t.of.account x s.stakes))) (ap (less t.cost) k.is)
        ∙ ap (λ (r : List ℕ). standing (find (is_of run account) (with_stand r t.of.account (Back (k.doubt - t.cost)) s.stakes))) (sym r)
        ∙ ap (λ (a : List ℕ). standing (find (is_of run account) (with_stand run a (Back (k.doubt - t.cost)) s.stakes))) (sym a)
        ∙ changed run account (Back k.doubt) (Back (k.doubt - t.cost)) s.stakes was
        in
        subst (Stood run account (hs ++ Decided t ∷ [])) (sym now)
        (record {
          taken = g.taken;
          doubted = g.doubted;
          decided = g.decided + t.cost;
          tells = more run account hs (Decided t) 1 g.taken 1 g.taken g.doubted g.decided 1 g.taken 1 g.taken g.doubted (g.decided + t.cost) g.tells refl (omega arith) refl (omega arith) (omega arith) (omega (arith, to _ true t.cost is));
          rest = omega (arith, g.rest, k.few);
        })

stood_step : (run account : List ℕ) (hs : List Entry) (s : State) (e : Entry) → refusal_of e s ≡ None → Stood run account hs (stand_of run account s) → Stood run account (hs ++ e ∷ []) (stand_of run account (after e s))
stood_step run account hs s (Paid p) ok h = stays run account hs (Paid p) (stand_of run account s) refl refl refl refl refl refl h
stood_step run account hs s (Taken t) ok h = taken_step run account hs s t ok h
stood_step run account hs s (Returned t) ok h = returned_step run account hs s t ok h
stood_step run account hs s (Decided t) ok h = decided_step run account hs s t ok h

stood : (run account : List ℕ) (es : List Entry) → IsLedger es → Stood run account es (stand_of run account (books_of es))
stood run account es booked =
    kept (λ (hs : List Entry) (s : State). Stood run account hs (stand_of run account s)) (record { times_are = refl; taken_is = refl; returned_are = refl; brought_is = refl; doubted_is = refl; decided_is = refl }) (stood_step run account) es booked

once_of : (run account : List ℕ) (es : List Entry) (st : Option Stand) → Stood run account es st → IsOnce run account es
once_of run account es None h = record { taken = omega (arith, h.times_are); back = omega (arith, h.returned_are); whole = omega (arith, h.brought_is); decided = omega (arith, h.decided_is) }
once_of run account es (Some (Out n)) h = record { taken = omega (arith, h.times_are); back = omega (arith, h.returned_are); whole = omega (arith, h.brought_is); decided = omega (arith, h.decided_is) }
once_of run account es (Some (Back left)) h = record {
  taken = omega (arith, h.tells.times_are);
  back = omega (arith, h.tells.returned_are, h.tells.times_are);
  whole = omega (arith, h.tells.brought_is, h.tells.taken_is);
  decided = omega (arith, h.tells.decided_is, h.tells.doubted_is, h.rest);
}

pub back_once : RunsBringBackOnce
back_once es run account booked = once_of run account es (stand_of run account (books_of es)) (stood run account es booked)

pub booked_next : (es : List Entry) (e : Entry) (more : List Entry) (s : State) → AreBooked s (es ++ e ∷ more) → refusal_of e (after_all es s) ≡ None
booked_next [] e more s booked = booked.0
booked_next (x ∷ es) e more s booked = booked_next es e more (after x s) booked.1

pub whole : StatementsAreWhole
whole es more b booked =
    let ok = booked_next es (Returned b) more nothing booked in
    let was = back_out (b.free + b.doubt + b.spent) (stand_of b.of.run b.of.account (books_of es)) ok in
    let h = subst (Stood b.of.run b.of.account es) was (stood b.of.run b.of.account es (booked_front es (Returned b ∷ more) nothing booked)) in
    record { once = h.times_are; whole = h.taken_is; first = h.returned_are }
