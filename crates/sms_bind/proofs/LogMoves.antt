-- Each step keeps the rule of the log.
use Rattle.std.proofs.Common.{Option, ◌≡◌, ◌≢◌, ℕ, zero, suc, ◌+◌, ◌<◌, List, [], ◌∷◌, ◌++◌, set, refl, sym, ap, ◌∙◌, subst, ⊎_elim, arith, append-nil}
use mathlib.Core.Option.{some, some-ne-none, some-injective}
use lib.ListN.{get_elem?}
use Rattle.atomic_table.specs.Table.{State, Me, Allows, Splits, Joins, keeps, opening}
use Rattle.atomic_table.proofs.Lists.{at_set, at_snoc, set_again}
use Rattle.sms_bind.specs.declared.log.rule.View.{View}
use Rattle.sms_bind.specs.Frames.{requests, weigh, IsRequest, IsUnclaimed}
use Rattle.sms_bind.specs.LogRule.{total, given_weight, claimed_weight, IsIdle, IsKept, first_seat, joined, spent, dealer, dealt, wire_seat, wire_after, pass_after, noted, IsSettled, Settles}
use Rattle.sms_bind.proofs.Weights.{weigh-append, requests-append, requests-of_unclaimed, requests-of_request, total_set, total_snoc, total_least}

-- what a split has to keep: the parts, and the balance of requests and claims
pub record Cuts (v left right : View) : Type 0 where
  pub parts : left.parts + right.parts ≡ v.parts
  pub balance : (h : List ℕ → ℕ) → given_weight h left + given_weight h right + claimed_weight h v ≡ given_weight h v + claimed_weight h left + claimed_weight h right
  pub idle_left : IsIdle left
  pub idle_right : IsIdle right

pub splits : (id : ℕ) (v left right : View) → Cuts v left right → Splits {S = Unit {0}} IsKept id v left right
splits id v left right cut s kept at =
    let put = set s.views id left in
    record {
      whole = (let e = total_set (λ (u : View). u.parts) s.views id v left at in let t = total_snoc (λ (u : View). u.parts) put right in let p = cut.parts in let w = kept.whole in omega arith);
      claimed = λ h.
          let a = total_set (given_weight h) s.views id v left at in
          let b = total_snoc (given_weight h) put right in
          let c = total_set (claimed_weight h) s.views id v left at in
          let d = total_snoc (claimed_weight h) put right in
          let e = cut.balance h in
          let k = kept.claimed h in
          omega arith;
      idle = λ j u there.
          ⊎_elim
          (λ (was : get_elem? put j ≡ some u).
          ⊎_elim
          (λ (t : (j ≡ id) × (left ≡ u)). subst IsIdle t.1 cut.idle_left)
          (λ (t : (j ≢ id) × (get_elem? s.views j ≡ some u)). kept.idle j u t.1)
          (at_set s.views id j left u was))
          (λ (is : right ≡ u). subst IsIdle is cut.idle_right)
          (at_snoc put right u j there);
    }

nothing : IsIdle spent
nothing _ = (refl, refl)

pub deals : (id : ℕ) (v : View) → 1 < v.parts → Splits {S = Unit {0}} IsKept id v (dealer v) (dealt v)
deals id v more = splits id v (dealer v) (dealt v)
    record {
      parts = omega arith;
      balance = λ h. omega arith;
      idle_left = λ none. absurd (omega arith);
      idle_right = λ none. absurd (omega arith);
    }

pub wire_begins : (id : ℕ) (v : View) (first : Option (List ℕ)) → 1 < v.parts → Splits {S = Unit {0}} IsKept id v (dealer v) (wire_seat first [])
wire_begins id v first more = splits id v (dealer v) (wire_seat first [])
    record {
      parts = omega arith;
      balance = λ h. omega arith;
      idle_left = λ none. absurd (omega arith);
      idle_right = λ none. absurd (omega arith);
    }

pub claims : (id : ℕ) (v : View) (frame : List ℕ) → v.parts ≡ 2 → IsRequest frame → Splits {S = Unit {0}} IsKept id v (wire_after frame v) (pass_after frame v)
claims id v frame two is = splits id v (wire_after frame v) (pass_after frame v)
    record {
      parts = omega arith;
      balance = λ h.
          let a : weigh h (requests (v.given ++ frame ∷ [])) ≡ weigh h (requests v.given) + weigh h (frame ∷ []) = ap (weigh h) (requests-of_request v.given frame is) ∙ weigh-append h (requests v.given) (frame ∷ []) in
          let b = weigh-append h v.claims (frame ∷ []) in
          omega arith;
      idle_left = λ none. absurd (omega arith);
      idle_right = λ none. absurd (omega arith);
    }

pub notes : (id : ℕ) (v : View) (frame : List ℕ) → 0 < v.parts → IsUnclaimed frame → Splits {S = Unit {0}} IsKept id v (noted frame v) spent
notes id v frame some_part is = splits id v (noted frame v) spent
    record {
      parts = omega arith;
      balance = λ h. let a = ap (weigh h) (requests-of_unclaimed v.given frame is) in omega arith;
      idle_left = λ none. absurd (omega arith);
      idle_right = nothing;
    }

pub joins : (id other : ℕ) (v w : View) → 0 < v.parts → Joins {S = Unit {0}} IsKept id v other w (joined v w) spent
joins id other v w some_part s kept at apart there =
    let put = set s.views id (joined v w) in
    record {
      whole = (let a = total_set (λ (u : View). u.parts) s.views id v (joined v w) at in let b = total_set (λ (u : View). u.parts) put other w spent there in let k = kept.whole in omega arith);
      claimed = λ h.
          let a = total_set (given_weight h) s.views id v (joined v w) at in
          let b = total_set (given_weight h) put other w spent there in
          let c = total_set (claimed_weight h) s.views id v (joined v w) at in
          let d = total_set (claimed_weight h) put other w spent there in
          let e : weigh h (requests (v.given ++ w.given)) ≡ weigh h (requests v.given) + weigh h (requests w.given) = ap (weigh h) (requests-append v.given w.given) ∙ weigh-append h (requests v.given) (requests w.given) in
          let f = weigh-append h v.claims w.claims in
          let k = kept.claimed h in
          omega arith;
      idle = λ j u is.
          ⊎_elim
          (λ (t : (j ≡ other) × (spent ≡ u)). subst IsIdle t.1 nothing)
          (λ (t : (j ≢ other) × (get_elem? put j ≡ some u)).
          ⊎_elim
          (λ (t' : (j ≡ id) × (joined v w ≡ u)). subst IsIdle t'.1 (λ none. absurd (omega arith)))
          (λ (t' : (j ≢ id) × (get_elem? s.views j ≡ some u)). kept.idle j u t'.1)
          (at_set s.views id j (joined v w) u t.1))
          (at_set put other j spent u is);
    }

pub begins : IsKept {S = Unit {0}} (opening (0 ∷ []) [] first_seat)
begins = record { whole = omega arith; claimed = λ h. refl; idle = λ id v there. first id v there }
  where
    first : (id : ℕ) (v : View) → get_elem? (first_seat ∷ []) id ≡ some v → IsIdle v
    first zero v there = subst IsIdle (some-injective first_seat v there) (λ none. absurd (omega arith))
    first (suc id) v there = absurd (some-ne-none v (sym there))

-- where one view has all parts, each other view weighs nothing
alone : (f : View → ℕ) (views : List View) (id : ℕ) (v : View) → ((j : ℕ) (u : View) → get_elem? views j ≡ some u → u.parts ≡ 0 → f u ≡ 0) → get_elem? views id ≡ some v
    → total (λ (u : View). u.parts) views ≡ v.parts → total f views ≡ f v
alone f [] id v idle at all = absurd (some-ne-none v (sym at))
alone f (x ∷ xs) zero v idle at all =
    let same = some-injective x v at in
    let p : x.parts ≡ v.parts = ap (λ (u : View). u.parts) same in
    let none = empty xs (λ j u. idle (suc j) u) (omega arith) in
    let q : f x ≡ f v = ap f same in
    omega arith
  where
    empty : (l : List View) → ((j : ℕ) (u : View) → get_elem? l j ≡ some u → u.parts ≡ 0 → f u ≡ 0) → total (λ (u : View). u.parts) l ≡ 0 → total f l ≡ 0
    empty [] idle none = refl
    empty (y ∷ l) idle none = let here = idle 0 y refl (omega arith) in let rest = empty l (λ j u. idle (suc j) u) (omega arith) in omega arith
alone f (x ∷ xs) (suc id) v idle at all =
    let least = total_least (λ (u : View). u.parts) xs id v at in
    let e = least.1 in
    let here = idle 0 x refl (omega arith) in
    let rest = alone f xs id v (λ j u. idle (suc j) u) at (omega arith) in
    omega arith

-- the table's word is looked at, and the view stays
pub tells : (slots id word : ℕ) (me : Me (Unit {0}) View) → Allows IsKept slots id me word (λ n. n) (λ n w. Settles me w)
tells slots id word me s kept long at small =
    (me.0, keeps, tt, subst (λ (l : List View). IsKept {S = Unit {0}} record { words = set s.words word (get_word s.words word); homes = s.homes; views = l }) (sym (set_again s.views id me.0 at)) (same s kept _), (refl, settled))
  where
    get_word : List ℕ → ℕ → ℕ
    get_word ws i = Rattle.std.specs.Prelude.slice_index ws i

    same : (s : State (Unit {0}) View) → IsKept s → (ws : List ℕ) → IsKept {S = Unit {0}} record { words = ws; homes = s.homes; views = s.views }
    same s k ws = record { whole = k.whole; claimed = k.claimed; idle = k.idle }

    settled : IsSettled me.0
    settled all h =
        let a = alone (given_weight h) s.views id me.0 (λ j u there none. ap (λ (l : List (List ℕ)). weigh h (requests l)) (kept.idle j u there none).0) at (kept.whole ∙ sym all) in
        let b = alone (claimed_weight h) s.views id me.0 (λ j u there none. ap (weigh h) (kept.idle j u there none).1) at (kept.whole ∙ sym all) in
        sym a ∙ kept.claimed h ∙ b

-- a badge has one view
pub same_view : (views : List View) (v w : View) → views ≡ v ∷ [] → views ≡ w ∷ [] → v ≡ w
same_view views v w a b = cc

-- a wire that took a pass in has the lists of both
pub both_lists : (given theirs : List (List ℕ)) → (given ++ [] ≡ given) × ([] ++ theirs ≡ theirs)
both_lists given theirs = (append-nil given, refl)
