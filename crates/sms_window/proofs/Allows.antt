-- Each kind of step keeps the rule, and tells what it tells.
use Rattle.std.proofs.Common.{◌≡◌, ◌≢◌, ℕ, ◌+◌, ◌-◌, ◌^◌, ◌<◌, ◌≤◌, ◌==◌, true, false, refl, sym, ap, ◌∙◌, subst, arith, eq-eqb, ne_eqb}
use Rattle.std.specs.Prelude.{slice_index, bit_and}
use Rattle.std.specs.Int.{bit_at}
use mathlib.Core.Logic.{dite}
use mathlib.Core.Option.{none, some}
use native.Mathlib.Decide.{ℕ_discrete}
use lib.ListN.{get_elem?}
use prog.Atomic.{either}
use Rattle.atomic_table.specs.Table.{State, Me, step, keeps, stepped, Allows}
use Rattle.sms_core.specs.Limits.{top_number}
use Rattle.sms_core.proofs.Bits.{clear_bit}
use Rattle.sms_window.specs.declared.view.View.{View}
use Rattle.sms_window.specs.declared.view.Opening.{Opening}
use Rattle.sms_window.specs.Rule.{IsWindow, pairs_of}
use Rattle.sms_window.specs.Seats.{met_with, with_slots, seen_with, drawn_with, Holds}
use Rattle.sms_window.specs.Steps.{load_window, exchange_claim, fetch_release, load_number, exchange_draw}
use Rattle.sms_window.proofs.Moves.{hold_set, met_seat, seen_seat, looked, claimed, released, drew, slot_in_word}

module _ {S : Type 0} (o : Opening) where
  -- an exchange that finds another word is a look at it
  missed : (s : State S View) → IsWindow o s → (id : ℕ) (me : Me S View) (old new : ℕ) → get_elem? s.views id ≡ some me.0 → slice_index s.words 0 ≢ old
      → IsWindow o (stepped s 0 (either (slice_index s.words 0 == old) new (slice_index s.words 0)) id me.1 (met_with me.0 (slice_index s.words 0)) keeps)
  missed s r id me old new at ne =
      let miss : (slice_index s.words 0 == old) ≡ false = ne_eqb (slice_index s.words 0) old ne in
      subst (λ b. IsWindow o (stepped s 0 (either b new (slice_index s.words 0)) id me.1 (met_with me.0 (slice_index s.words 0)) keeps)) (sym miss)
      (looked o s r 0 (slice_index s.words 0) id me.1 me.0 _ at (omega arith) refl refl refl refl refl (met_seat o.first (slice_index s.words 1) me.0 _ (r.seats id me.0 at)))

  pub load_window_allows : (slots id : ℕ) (me : Me S View) → Allows (IsWindow o) slots id me 0 (λ n. n) (load_window (step slots 0 0 0 none) me)
  load_window_allows slots id me s r len at small =
      let v = me.0 in
      let w = met_with v (slice_index s.words 0) in
      let seat = r.seats id v at in
      let h = hold_set o s r id v at in (
        w,
        keeps,
        tt,
        looked o s r 0 (slice_index s.words 0) id me.1 v w at (omega arith) refl refl refl refl refl (met_seat o.first (slice_index s.words 1) v _ seat),
        (record { on = refl; after = refl; whole = seat.whole; met = (pairs_of s.views, record { lawful = h.lawful; word = h.word; own = h.own }) }, refl),
      )

  pub exchange_claim_allows : (slots id : ℕ) (me : Me S View) (old new k : ℕ) → k < 64 → old < 2 ^ 64 → bit_at old k ≡ 0 → new ≡ old + 2 ^ k → 0 < me.0.family
      → Allows (IsWindow o) slots id me 0 (λ n. either (n == old) new n) (exchange_claim (step slots 0 old new none) me)
  exchange_claim_allows slots id me old new k inside fits clear is live s r len at small = dite (ℕ_discrete (slice_index s.words 0) old)
      (λ e.
      let v = me.0 in
      let found = slice_index s.words 0 in
      let w = with_slots v (v.slots + 2 ^ k) new in
      let d = claimed o s r id me.1 v k found new at inside (omega arith) refl (ap (λ (n : ℕ). bit_at n k) e ∙ clear) (omega arith) live in
      let hit : (found == old) ≡ true = eq-eqb found old e in (
        w,
        keeps,
        tt,
        subst (λ b. IsWindow o (stepped s 0 (either b new found) id me.1 w keeps)) (sym hit) d.rule,
        (record { on = refl; slot = k; inside = inside; clear = clear; more = is; hit = λ _. (refl, d.claim); miss = λ ne. absurd (ne e) }, refl),
      ))
      (λ ne.
      let found = slice_index s.words 0 in (
        met_with me.0 found,
        keeps,
        tt,
        missed s r id me old new at ne,
        (record { on = refl; slot = k; inside = inside; clear = clear; more = is; hit = λ e. absurd (ne e); miss = λ _. refl }, refl),
      ))

  pub fetch_release_allows : (slots id : ℕ) (me : Me S View) (mask k : ℕ) → Holds me.0 k → mask ≡ 2 ^ 64 - 1 - 2 ^ k → 0 < me.0.family
      → Allows (IsWindow o) slots id me 0 (λ n. bit_and n mask) (fetch_release (step slots 0 mask 0 none) me)
  fetch_release_allows slots id me mask k held is live s r len at small =
      let v = me.0 in
      let found = slice_index s.words 0 in
      let left = bit_and found mask in
      let w = with_slots v (v.slots - 2 ^ k) left in
      let mine : bit_and found (2 ^ 64 - 1 - 2 ^ k) + 2 ^ k ≡ found = clear_bit found k held.0 small (slot_in_word o s r id v k at held.0 held.1) in
      let masked : bit_and found mask ≡ bit_and found (2 ^ 64 - 1 - 2 ^ k) = ap (bit_and found) is in
      let d = released o s r id me.1 v k found left at held.0 held.1 refl (omega arith) live in
      (w, keeps, tt, d.rule, (record { on = refl; slot = k; held = held; less = is; after = refl; release = d.release }, refl))

  pub load_number_allows : (slots id : ℕ) (me : Me S View) → Allows (IsWindow o) slots id me 1 (λ n. n) (load_number (step slots 1 0 0 none) me)
  load_number_allows slots id me s r len at small =
      let v = me.0 in
      let n = slice_index s.words 1 in
      let w = seen_with v n in
      let seat = r.seats id v at in
      let up : v.seen ≤ n = seat.seen in
      (w, keeps, tt, looked o s r 1 n id me.1 v w at (omega arith) refl refl refl refl refl (seen_seat o.first n v n up (omega arith) seat), (record { on = refl; after = refl; later = up; top = r.next.1 }, refl))

  pub exchange_draw_allows : (slots id : ℕ) (me : Me S View) (old new : ℕ) → old ≤ top_number → new ≡ old + 1 → 0 < me.0.family
      → Allows (IsWindow o) slots id me 1 (λ n. either (n == old) new n) (exchange_draw (step slots 1 old new none) me)
  exchange_draw_allows slots id me old new fits is live s r len at small = dite (ℕ_discrete (slice_index s.words 1) old)
      (λ e.
      let v = me.0 in
      let n = slice_index s.words 1 in
      let w = drawn_with v n in
      let d = drew o s r id me.1 v n new at refl (omega arith) (omega arith) live in
      let hit : (n == old) ≡ true = eq-eqb n old e in (
        w,
        keeps,
        tt,
        subst (λ b. IsWindow o (stepped s 1 (either b new n) id me.1 w keeps)) (sym hit) d.0,
        (record { on = refl; lawful = fits; next = is; later = (r.seats id v at).seen; top = r.next.1; hit = λ _. (refl, d.1); miss = λ ne. absurd (ne e) }, refl),
      ))
      (λ ne.
      let v = me.0 in
      let n = slice_index s.words 1 in
      let w = seen_with v n in
      let seat = r.seats id v at in
      let up : v.seen ≤ n = seat.seen in
      let miss : (n == old) ≡ false = ne_eqb n old ne in (
        w,
        keeps,
        tt,
        subst (λ b. IsWindow o (stepped s 1 (either b new n) id me.1 w keeps)) (sym miss)
            (looked o s r 1 n id me.1 v w at (omega arith) refl refl refl refl refl (seen_seat o.first n v n up (omega arith) seat)),
        (record { on = refl; lawful = fits; next = is; later = up; top = r.next.1; hit = λ e. absurd (ne e); miss = λ _. refl }, refl),
      ))
