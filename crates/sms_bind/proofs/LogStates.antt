-- How a keeper, a thread's requests and a wire stand after a step.
use Rattle.std.proofs.Common.{◌≡◌, ℕ, ◌+◌, ◌-◌, ◌<◌, ◌≤◌, List, [], ◌∷◌, ◌++◌, refl, sym, ap, ◌∙◌, subst, arith}
use Rattle.atomic_table.specs.Seated.{TableId}
use Rattle.sms_bind.specs.declared.log.rule.View.{View}
use Rattle.sms_bind.specs.LogRule.{all_parts, seat, joined, dealer}
use Rattle.sms_bind.specs.Logs.{keeping, parts_of, given_of, claims_of, KeeperStands, RequestsStand}

-- the one view of a badge, by its parts
pub record OneSeat (p : ℕ) (g c : List (List ℕ)) (views : List View) : Type 0 where
  pub view : views ≡ seat (parts_of views) (given_of views) (claims_of views) ∷ []
  pub parts : parts_of views ≡ p
  pub given : given_of views ≡ g
  pub claims : claims_of views ≡ c

pub one_seat : (p : ℕ) (g c : List (List ℕ)) (views : List View) → views ≡ seat p g c ∷ [] → OneSeat p g c views
one_seat p g c views e = record {
  view = subst (λ (l : List View). l ≡ seat (parts_of l) (given_of l) (claims_of l) ∷ []) (sym e) refl;
  parts = ap parts_of e;
  given = ap given_of e;
  claims = ap claims_of e;
}

-- the keeper may deal while few are away
pub may_deal : (views : List View) → parts_of views ≤ all_parts → (keeping views).away + 1 < all_parts → 1 < parts_of views
may_deal views most few = enough all_parts (parts_of views) most few
  where
    enough : (m p : ℕ) → p ≤ m → m - p + 1 < m → 1 < p
    enough m p le low = omega arith

-- the keeper after it dealt
pub record Dealt (name badge : TableId) (before after : List View) : Type 0 where
  pub stands : KeeperStands name badge after
  pub away : (keeping after).away ≡ (keeping before).away + 1
  pub given : (keeping after).given ≡ (keeping before).given
  pub requests : (keeping after).requests ≡ (keeping before).requests

pub keeper_deals : (name badge badge' : TableId) (before after : List View) → KeeperStands name badge before → badge' ≡ badge → 1 < parts_of before → ((v : View) → before ≡ v ∷ [] → after ≡ dealer v ∷ []) → Dealt name badge' before after
keeper_deals name badge badge' before after k same more dealt =
    let o = one_seat (parts_of before - 1) (given_of before) (claims_of before) after (dealt _ k.view) in
    let fewer = o.parts in
    let most = k.most in
    record {
      stands = record { badge_is = same ∙ k.badge_is; view = o.view; some = omega arith; most = omega arith };
      away = less all_parts (parts_of before) (parts_of after) most more fewer;
      given = o.given;
      requests = o.claims;
    }
  where
    less : (m p q : ℕ) → p ≤ m → 1 < p → q ≡ p - 1 → m - q ≡ m - p + 1
    less m p q le more e = omega arith

-- the keeper after it took one back that was given these frames and claims those
pub record Took (name badge : TableId) (before after : List View) (given claims : List (List ℕ)) : Type 0 where
  pub stands : KeeperStands name badge after
  pub away : (keeping after).away ≡ (keeping before).away - 1
  pub given_more : (keeping after).given ≡ (keeping before).given ++ given
  pub requests_more : (keeping after).requests ≡ (keeping before).requests ++ claims

pub keeper_takes : (name badge badge' : TableId) (before after theirs : List View) (w : View) → KeeperStands name badge before → badge' ≡ badge → 0 < (keeping before).away → w.parts ≡ 1 → theirs ≡ w ∷ []
    → ((v w : View) → before ≡ v ∷ [] → theirs ≡ w ∷ [] → after ≡ joined v w ∷ []) → Took name badge' before after w.given w.claims
keeper_takes name badge badge' before after theirs w k same away one there both =
    let o = one_seat (parts_of before + w.parts) (given_of before ++ w.given) (claims_of before ++ w.claims) after (both _ _ k.view there) in
    let more : parts_of after ≡ parts_of before + 1 = o.parts ∙ ap (λ n. parts_of before + n) one in
    let m = more_back all_parts (parts_of before) (parts_of after) away more in
    record {
      stands = record { badge_is = same ∙ k.badge_is; view = o.view; some = omega arith; most = m.0 };
      away = m.1;
      given_more = o.given;
      requests_more = o.claims;
    }
  where
    more_back : (m p q : ℕ) → 0 < m - p → q ≡ p + 1 → (q ≤ m) × (m - q ≡ m - p - 1)
    more_back m p q away e = (omega arith, omega arith)

-- the same views stand as before
pub keeper_stays : (name badge badge' : TableId) (before after : List View) → KeeperStands name badge before → badge' ≡ badge → after ≡ before → KeeperStands name badge' after
keeper_stays name badge badge' before after k same views = subst (KeeperStands name badge') (sym views) (record { badge_is = same ∙ k.badge_is; view = k.view; some = k.some; most = k.most })

-- all came back
pub all_back : (views : List View) → parts_of views ≤ all_parts → (keeping views).away ≡ 0 → parts_of views ≡ all_parts
all_back views most none = back all_parts (parts_of views) most none
  where
    back : (m p : ℕ) → p ≤ m → m - p ≡ 0 → p ≡ m
    back m p le e = omega arith

-- a thread's requests with one more
pub requests_more : (name badge badge' : TableId) (before after : List View) (frame : List ℕ) → RequestsStand name badge before → badge' ≡ badge
    → ((claims : List (List ℕ)) → before ≡ seat 1 [] claims ∷ [] → after ≡ seat 1 [] (claims ++ frame ∷ []) ∷ []) → RequestsStand name badge' after × (claims_of after ≡ claims_of before ++ frame ∷ [])
requests_more name badge badge' before after frame r same more =
    let e = more (claims_of before) r.view in
    let o = one_seat 1 [] (claims_of before ++ frame ∷ []) after e in
    (record { badge_is = same ∙ r.badge_is; view = e ∙ ap (λ (c : List (List ℕ)). seat 1 [] c ∷ []) (sym o.claims) }, o.claims)
