-- Which segments the queues and the links name, where one segment is linked behind the last or the first is taken.
use Rattle.std.proofs.Common.{◌≡◌, ◌<◌, ℕ, List, length, get_or, Some, None, inl, inr, sym, ap, ◌∙◌}
use Rattle.std.specs.Prelude.{◌≢◌, ◌⊎◌, Option, option_map, option_and_then, slice_set}
use mathlib.Core.Logic.{dite}
use native.Mathlib.Decide.{ℕ_discrete}
use Rattle.std.proofs.lemmas.Option.{slice_get-get_or}
use Rattle.sms_book.proofs.Moves.{get_set_else}
use Rattle.sms_worker.specs.declared.state.open.SegmentPlace.{SegmentPlace}
use Rattle.sms_worker.specs.declared.state.queue.Queue.{Queue}
use Rattle.sms_worker.specs.declared.state.pending.PendingPart.{PendingPart}
use Rattle.sms_worker.specs.declared.state.pending.Link.{Link}
use Rattle.sms_worker.specs.Queues.{appended, due_at, first_behind, first_in, linked_last, with_last, without_first}
use Rattle.sms_worker.specs.PendingState.{PendingState, pending_at, link_of, relinked}
use Rattle.sms_worker.proofs.EndLemmas.{get_set}
use Rattle.sms_worker.proofs.Pending.{kept_here, kept_there}

-- the first segments
named_behind : (last first : Option SegmentPlace) (place named : SegmentPlace) → first_behind last first place ≡ Some named → (named ≡ place) ⊎ (first ≡ Some named)
named_behind None first place named is = inl (let e : Some place ≡ Some named = is in cc)
named_behind (Some last) first place named is = inr is

named_after : (pending : List PendingState) (first last : Option SegmentPlace) (named : SegmentPlace) → (without_first pending first last).first ≡ Some named → (from : SegmentPlace) × ((link_of (pending_at pending from)).next ≡ Some named)
named_after pending None last named is = absurd (cc)
named_after pending (Some first) last named is = (first, is)

module _ (qs : List Queue) (i : ℕ) (d x : Queue) (low : i < length qs) (k : ℕ) (named : SegmentPlace) where
  same_there : k ≢ i → first_in (slice_set qs i x) k ≡ Some named → first_in qs k ≡ Some named
  same_there other is = sym (ap (option_and_then (λ (y : Queue). y.first)) (get_set_else qs i k x other)) ∙ is

  now_here : k ≡ i → first_in (slice_set qs i x) k ≡ Some named → x.first ≡ Some named
  now_here e is = sym (ap (option_and_then (λ (y : Queue). y.first)) (get_set qs i (get_or qs i d) x (slice_get-get_or qs i d low))) ∙ ap (first_in (slice_set qs i x)) (sym e) ∙ is

  was_here : k ≡ i → (get_or qs i d).first ≡ Some named → first_in qs k ≡ Some named
  was_here e is = ap (first_in qs) e ∙ ap (option_and_then (λ (y : Queue). y.first)) (slice_get-get_or qs i d low) ∙ is

  pub pushed_heads : (place : SegmentPlace) → x ≡ with_last (get_or qs i d) place → first_in (slice_set qs i x) k ≡ Some named → (named ≡ place) ⊎ (first_in qs k ≡ Some named)
  pushed_heads place made is = dite (ℕ_discrete k i)
      (λ e. elim (named_behind (get_or qs i d).last (get_or qs i d).first place named (sym (ap (λ (y : Queue). y.first) made) ∙ now_here e is)) [
        | inl h ↦ inl h
        | inr h ↦ inr (was_here e h)
      ])
      (λ other. inr (same_there other is))

  pub popped_heads : (pending : List PendingState) → x ≡ without_first pending (get_or qs i d).first (get_or qs i d).last → first_in (slice_set qs i x) k ≡ Some named
      → (first_in qs k ≡ Some named) ⊎ ((from : SegmentPlace) × ((link_of (pending_at pending from)).next ≡ Some named))
  popped_heads pending made is = dite (ℕ_discrete k i)
      (λ e. inr (named_after pending (get_or qs i d).first (get_or qs i d).last named (sym (ap (λ (y : Queue). y.first) made) ∙ now_here e is)))
      (λ other. inl (same_there other is))

-- the links
linked : (o : Option PendingPart) (link : Link) (named : SegmentPlace) → (link_of (option_map (λ (kept : PendingPart). record kept { link = link }) o)).next ≡ Some named → link.next ≡ Some named
linked None link named is = absurd (cc)
linked (Some kept) link named is = is

relinked_next : (pending : List PendingState) (place : SegmentPlace) (link : Link) (from named : SegmentPlace) → (link_of (pending_at (relinked pending place link) from)).next ≡ Some named → (link.next ≡ Some named) ⊎ ((link_of (pending_at pending from)).next ≡ Some named)
relinked_next pending place link from named is =
    dite (ℕ_discrete from.message place.message)
    (λ message. dite (ℕ_discrete from.part place.part)
    (λ part. inl (here (λ i. record { message = message i; part = part i })))
    (λ apart. inr (there (λ e. apart (ap (λ (x : SegmentPlace). x.part) e)))))
    (λ apart. inr (there (λ e. apart (ap (λ (x : SegmentPlace). x.message) e))))
  where
    here : from ≡ place → link.next ≡ Some named
    here e = linked (pending_at pending place) link named (sym (ap (λ o. (link_of o).next) (kept_here pending place link)) ∙ ap (λ (x : SegmentPlace). (link_of (pending_at (relinked pending place link) x)).next) (sym e) ∙ is)

    there : from ≢ place → (link_of (pending_at pending from)).next ≡ Some named
    there other = sym (ap (λ o. (link_of o).next) (kept_there pending place from link other)) ∙ is

pub pushed_links : (pending : List PendingState) (last : Option SegmentPlace) (place : SegmentPlace) (due : ℕ) (from named : SegmentPlace) → (link_of (pending_at (appended pending last place due) from)).next ≡ Some named
    → (named ≡ place) ⊎ ((link_of (pending_at pending from)).next ≡ Some named)
pushed_links pending None place due from named is = elim (relinked_next pending place (record { due_ms = due; next = None }) from named is) [
  | inl h ↦ absurd (cc)
  | inr h ↦ inr h
]
pushed_links pending (Some last) place due from named is =
    let behind : List PendingState = linked_last place due pending in
    elim (relinked_next behind last (record { due_ms = due_at behind last; next = Some place }) from named is) [
      | inl h ↦ inl (let same : place ≡ named = cc in sym same)
      | inr h ↦ elim (relinked_next pending place (record { due_ms = due; next = None }) from named h) [
        | inl g ↦ absurd (cc)
        | inr g ↦ inr g
      ]
    ]
