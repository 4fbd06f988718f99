-- The lists of segments that links spell, where one segment is linked behind them or the first is taken.
use Rattle.std.proofs.Common.{◌≡◌, ◌<◌, ℕ, List, [], ◌∷◌, ◌++◌, length, map, get_or, Some, None, refl, sym, ap, ◌∙◌, subst}
use Rattle.std.specs.Prelude.{◌≢◌, Option, option_map, option_and_then, slice_set}
use Rattle.std.proofs.lemmas.Option.{slice_get-get_or, get_or_from_slice_get}
use Rattle.sms_book.proofs.Moves.{get_set_else}
use Rattle.sms_worker.specs.declared.state.open.SegmentPlace.{SegmentPlace}
use Rattle.sms_worker.specs.declared.state.queue.Queue.{Queue}
use Rattle.sms_worker.specs.declared.state.pending.PendingPart.{PendingPart}
use Rattle.sms_worker.specs.declared.state.pending.Link.{Link}
use Rattle.sms_worker.specs.Queues.{Waiting, Leads, IsOutside, IsAway, AreApart, IsKept, Spells, SpellsAt, appended, beginning_at, due_at, first_behind, first_place, last_in, last_place, later, linked_last, linked_to, with_last, without_first}
use Rattle.sms_worker.specs.PendingState.{PendingState, data_in, pending_at, link_of, relinked}
use Rattle.sms_worker.proofs.EndLemmas.{get_set}
use Rattle.sms_worker.proofs.Pending.{data_relinked, kept_here, kept_there}

-- links elsewhere lead as they did
leads_on : (pending : List PendingState) (place : SegmentPlace) (link : Link) (from : Option SegmentPlace) (ws : List Waiting) → Leads pending from ws → IsOutside place ws → Leads (relinked pending place link) from ws
leads_on pending place link from [] leads out = leads
leads_on pending place link from (w ∷ ws) (is, kept, there, due, more) (other, out) = (is, kept, kept_there pending place w.place link other ∙ there, due, leads_on pending place link kept.link.next ws more out)

pub leads_behind : (pending : List PendingState) (last : Option SegmentPlace) (place : SegmentPlace) (due : ℕ) (from : Option SegmentPlace) (ws : List Waiting) → Leads pending from ws → IsOutside place ws → IsAway last ws → Leads (appended pending last place due) from ws
leads_behind pending None place due from ws leads out away = leads_on pending place (record { due_ms = due; next = None }) from ws leads out
leads_behind pending (Some last) place due from ws leads out away =
    let linked = linked_last place due pending in
    leads_on linked last (record { due_ms = due_at linked last; next = Some place }) from ws (leads_on pending place (record { due_ms = due; next = None }) from ws leads out) away

-- the last of a list
last_there : (w : Waiting) (ws : List Waiting) → (last : SegmentPlace) × (last_place (w ∷ ws) ≡ Some last)
last_there w [] = (w.place, refl)
last_there w (v ∷ ws) = last_there v ws

last_outside : (ws : List Waiting) (place last : SegmentPlace) → IsOutside place ws → last_place ws ≡ Some last → last ≢ place
last_outside [] place last out is = absurd (cc)
last_outside (w ∷ []) place last (other, out) is = let same : w.place ≡ last = cc in λ e. other (same ∙ e)
last_outside (w ∷ v ∷ ws) place last (other, out) is = last_outside (v ∷ ws) place last out is

last_more : (ws : List Waiting) (w : Waiting) → last_place (ws ++ w ∷ []) ≡ Some w.place
last_more [] w = refl
last_more (v ∷ []) w = refl
last_more (v ∷ u ∷ ws) w = last_more (u ∷ ws) w

outside_more : (ws : List Waiting) (w : Waiting) (place : SegmentPlace) → IsOutside place ws → w.place ≢ place → IsOutside place (ws ++ w ∷ [])
outside_more [] w place out other = (other, tt)
outside_more (v ∷ ws) w place (apart, out) other = (apart, outside_more ws w place out other)

apart_more : (ws : List Waiting) (w : Waiting) → AreApart ws → IsOutside w.place ws → AreApart (ws ++ w ∷ [])
apart_more [] w apart out = (tt, tt)
apart_more (v ∷ ws) w (one, apart) (other, out) = (outside_more ws w v.place one (λ e. other (sym e)), apart_more ws w apart out)

-- one more is linked behind the last
module _ (pending : List PendingState) (w : Waiting) where
  behind_last : (from : Option SegmentPlace) (ws : List Waiting) (last : SegmentPlace) → Leads pending from ws → last_place ws ≡ Some last → AreApart ws → Leads (linked_to w.place pending last) (Some w.place) (w ∷ []) → Leads (linked_to w.place pending last) from (ws ++ w ∷ [])
  behind_last from [] last leads is apart end = absurd (cc)
  behind_last from (v ∷ []) last (begins, kept, there, due, more) is apart end =
      let same : v.place ≡ last = cc in
      let end' = subst (λ l. Leads (linked_to w.place pending l) (Some w.place) (w ∷ [])) (sym same) end in
      let link : Link = record { due_ms = due_at pending v.place; next = Some w.place } in
      let there' : pending_at (linked_to w.place pending v.place) v.place ≡ Some (record kept { link = link }) = kept_here pending v.place link ∙ ap (option_map (λ (k : PendingPart). record k { link = link })) there in
      subst (λ l. Leads (linked_to w.place pending l) from (v ∷ w ∷ [])) same (begins, record kept { link = link }, there', ap (λ o. (link_of o).due_ms) there ∙ due, end')
  behind_last from (v ∷ u ∷ ws) last (begins, kept, there, due, more) is (one, apart) end =
      let other : last ≢ v.place = last_outside (u ∷ ws) v.place last one is in
      (begins, kept, kept_there pending last v.place (record { due_ms = due_at pending last; next = Some w.place }) (λ e. other (sym e)) ∙ there, due, behind_last kept.link.next (u ∷ ws) last more is apart end)

module _ (pending : List PendingState) (w : Waiting) (kept : PendingPart) (there : pending_at pending w.place ≡ Some kept) where
  abbrev linked : List PendingState
  linked = linked_last w.place w.due_ms pending

  abbrev alone : Link
  alone = record { due_ms = w.due_ms; next = None }

  linked_there : pending_at linked w.place ≡ Some (record kept { link = alone })
  linked_there = kept_here pending w.place alone ∙ ap (option_map (λ (k : PendingPart). record k { link = alone })) there

  waits_behind : (first last : Option SegmentPlace) (ws : List Waiting) → Leads pending first ws → last ≡ last_place ws → AreApart ws → IsOutside w.place ws → Leads (appended pending last w.place w.due_ms) (first_behind last first w.place) (ws ++ w ∷ [])
  waits_behind first None [] leads is apart out = (refl, record kept { link = alone }, linked_there, refl, refl)
  waits_behind first None (v ∷ ws) leads is apart out = let l = last_there v ws in let e : None ≡ Some l.0 = is ∙ l.1 in absurd (cc)
  waits_behind first (Some last) [] leads is apart out = absurd (cc)
  waits_behind first (Some last) (v ∷ ws) leads is apart out =
      let other : last ≢ w.place = last_outside (v ∷ ws) w.place last out (sym is) in
      let there' : pending_at (linked_to w.place linked last) w.place ≡ Some (record kept { link = alone }) = kept_there linked last w.place (record { due_ms = due_at linked last; next = Some w.place }) (λ e. other (sym e)) ∙ linked_there in
      behind_last linked w first (v ∷ ws) last (leads_on pending w.place alone first (v ∷ ws) leads out) (sym is) apart (refl, record kept { link = alone }, there', refl, refl)

pub spells_more : (pending : List PendingState) (q : Queue) (ws : List Waiting) (w : Waiting) → Spells pending q ws → IsKept pending w.place → IsOutside w.place ws → Spells (appended pending q.last w.place w.due_ms) (with_last q w.place) (ws ++ w ∷ [])
spells_more pending q ws w spells kept out = record {
  leads = waits_behind pending w kept.0 kept.1 q.first q.last ws spells.leads spells.last spells.apart out;
  last = sym (last_more ws w);
  apart = apart_more ws w spells.apart out;
}

-- the first is taken
module _ (pending : List PendingState) where
  after_first : (first last : Option SegmentPlace) (ws : List Waiting) → Leads pending first ws → last ≡ last_place ws → AreApart ws → Spells pending (without_first pending first last) (later ws)
  after_first None last [] leads is apart = record { leads = refl; last = is; apart = tt }
  after_first (Some first) last [] leads is apart = absurd (cc)
  after_first None last (w ∷ ws) leads is apart = let e = leads.0 in absurd (cc)
  after_first (Some first) last (w ∷ ws) (begins, kept, there, due, more) is (one, apart) =
      let same : first ≡ w.place = cc in
      let link : kept.link.next ≡ (link_of (pending_at pending first)).next = sym (ap (λ p. (link_of (pending_at pending p)).next) same ∙ ap (λ o. (link_of o).next) there) in
      subst (λ next. Spells pending (beginning_at next last) ws) link (begins_at kept.link.next ws more is apart)
    where
      begins_at : (next : Option SegmentPlace) (vs : List Waiting) → Leads pending next vs → last ≡ last_place (w ∷ vs) → AreApart vs → Spells pending (beginning_at next last) vs
      begins_at None [] leads is apart = record { leads = refl; last = refl; apart = tt }
      begins_at (Some next) [] leads is apart = absurd (cc)
      begins_at None (v ∷ vs) leads is apart = let e = leads.0 in absurd (cc)
      begins_at (Some next) (v ∷ vs) leads is apart = record { leads = leads; last = is; apart = apart }

pub spells_later : (pending : List PendingState) (q : Queue) (ws : List Waiting) → Spells pending q ws → Spells pending (without_first pending q.first q.last) (later ws)
spells_later pending q ws spells = after_first pending q.first q.last ws spells.leads spells.last spells.apart

pub first_spelled : (pending : List PendingState) (from : Option SegmentPlace) (ws : List Waiting) → Leads pending from ws → from ≡ first_place ws
first_spelled pending from [] leads = leads
first_spelled pending from (w ∷ ws) leads = leads.0

-- what parts carry stays
pub data_appended : (pending : List PendingState) (last : Option SegmentPlace) (place : SegmentPlace) (due : ℕ) → map data_in (appended pending last place due) ≡ map data_in pending
data_appended pending None place due = data_relinked pending place (record { due_ms = due; next = None })
data_appended pending (Some last) place due =
    let linked = linked_last place due pending in
    data_relinked linked last (record { due_ms = due_at linked last; next = Some place }) ∙ data_relinked pending place (record { due_ms = due; next = None })

-- among the queues
module _ (pending now : List PendingState) (qs : List Queue) (k : ℕ) (d q : Queue) (w : Waiting) where
  pub pushed_here : (ws : List Waiting) → q ≡ with_last (get_or qs k d) w.place → now ≡ appended pending (get_or qs k d).last w.place w.due_ms → SpellsAt pending qs k ws → IsKept pending w.place → IsOutside w.place ws → SpellsAt now (slice_set qs k q) k (ws ++ w ∷ [])
  pushed_here ws is links at kept out =
      let same : get_or qs k d ≡ at.queue = get_or_from_slice_get qs k at.queue d at.is in
      let spells = spells_more pending at.queue ws w at.spells kept out in
      let is' : q ≡ with_last at.queue w.place = is ∙ ap (λ (x : Queue). with_last x w.place) same in
      let links' : now ≡ appended pending at.queue.last w.place w.due_ms = links ∙ ap (λ (x : Queue). appended pending x.last w.place w.due_ms) same in
      record { queue = q; is = get_set qs k at.queue q at.is; spells = subst (λ t. Spells t q (ws ++ w ∷ [])) (sym links') (subst (λ (x : Queue). Spells (appended pending at.queue.last w.place w.due_ms) x (ws ++ w ∷ [])) (sym is') spells) }

  pub pushed_there : (j : ℕ) (ws : List Waiting) → now ≡ appended pending (get_or qs k d).last w.place w.due_ms → k < length qs → j ≢ k → SpellsAt pending qs j ws → IsOutside w.place ws → IsAway (last_in qs k) ws → SpellsAt now (slice_set qs k q) j ws
  pushed_there j ws links low other at out away =
      let last : last_in qs k ≡ (get_or qs k d).last = ap (option_and_then (λ (x : Queue). x.last)) (slice_get-get_or qs k d low) in
      let leads = leads_behind pending (get_or qs k d).last w.place w.due_ms at.queue.first ws at.spells.leads out (subst (λ l. IsAway l ws) last away) in
      record { queue = at.queue; is = get_set_else qs k j q other ∙ at.is; spells = subst (λ t. Spells t at.queue ws) (sym links) (record { leads = leads; last = at.spells.last; apart = at.spells.apart }) }

  pub pushed_last : q ≡ with_last (get_or qs k d) w.place → k < length qs → last_in (slice_set qs k q) k ≡ Some w.place
  pushed_last is low = ap (option_and_then (λ (x : Queue). x.last)) (get_set qs k (get_or qs k d) q (slice_get-get_or qs k d low)) ∙ ap (λ (x : Queue). x.last) is
