-- The program's steps are the moves of the laws.
use Rattle.std.proofs.Common.{◌≡◌, ℕ, ◌+◌, ◌-◌, ◌^◌, ◌==◌, refl, sym, ap, ◌∙◌, arith, eq-eqb, ne_eqb}
use Rattle.std.specs.Prelude.{slice_index, bit_and}
use Rattle.std.specs.Int.{bit_at}
use mathlib.Core.Logic.{dite}
use native.Mathlib.Decide.{ℕ_discrete}
use prog.Atomic.{either}
use Rattle.sms_core.proofs.Bits.{clear_bit}
use Rattle.sms_window.specs.Seats.{met_with, with_slots, seen_with, drawn_with, giver, given, joined, nobody}
use Rattle.sms_window.specs.Steps.{load_window, exchange_claim, fetch_release, load_number, exchange_draw}
use Rattle.sms_window.specs.Moves.{window_word, number_word, after_step, looks, claims, releases, looks_at_number, draws}
use Rattle.sms_window.specs.Plays.{loaded, exchanged, masked, IsLook, IsClaimOrLook, IsReleased, IsLookAtNumber, IsDrawOrLook, StepsAre, SplitIsMove, JoinIsMove}
use Rattle.sms_window.proofs.Moves.{slot_in_word, word_small}

pub load_is_look : StepsAre load_window loaded IsLook
load_is_look o s id st me me' r seated told =
    let t = told.0 in
    let view : me'.0 ≡ met_with me.0 (window_word s) = t.after ∙ (λ i. met_with me.0 (slice_index s.words (t.on i))) in
    (looks id, refl, record { view = me.0; seated = seated; after = λ i. after_step s (t.on i) (slice_index s.words (t.on i)) id (view i) })

pub exchange_is_claim : StepsAre exchange_claim exchanged IsClaimOrLook
exchange_is_claim o s id st me me' r seated told = dite (ℕ_discrete (slice_index s.words st.word) st.first)
    (λ e.
    let t = told.0 in
    let found : ℕ = slice_index s.words st.word in
    let here : found ≡ window_word s = λ i. slice_index s.words (t.on i) in
    let new : st.second ≡ window_word s + 2 ^ t.slot = t.more ∙ (λ i. (sym e ∙ here) i + 2 ^ t.slot) in
    let word : either (found == st.first) st.second found ≡ window_word s + 2 ^ t.slot = ap (λ b. either b st.second found) (eq-eqb found st.first e) ∙ new in
    let view : me'.0 ≡ with_slots me.0 (me.0.slots + 2 ^ t.slot) (window_word s + 2 ^ t.slot) = (t.hit e).0 ∙ (λ i. with_slots me.0 (me.0.slots + 2 ^ t.slot) (new i)) in (
      claims id t.slot,
      ((λ _. (t.slot, t.more, refl)), (λ ne. absurd (ne e))),
      record { view = me.0; seated = seated; inside = t.inside; free = ap (λ (n : ℕ). bit_at n t.slot) (sym here ∙ e) ∙ t.clear; after = λ i. after_step s (t.on i) (word i) id (view i) },
    ))
    (λ ne.
    let t = told.0 in
    let found : ℕ = slice_index s.words st.word in
    let here : found ≡ window_word s = λ i. slice_index s.words (t.on i) in
    let word : either (found == st.first) st.second found ≡ window_word s = ap (λ b. either b st.second found) (ne_eqb found st.first ne) ∙ here in
    let view : me'.0 ≡ met_with me.0 (window_word s) = t.miss ne ∙ (λ i. met_with me.0 (here i)) in
    (looks id, ((λ e. absurd (ne e)), (λ _. refl)), record { view = me.0; seated = seated; after = λ i. after_step s (t.on i) (word i) id (view i) }))

pub fetch_is_release : StepsAre fetch_release masked IsReleased
fetch_is_release o s id st me me' r seated told =
    let t = told.0 in
    let found : ℕ = slice_index s.words st.word in
    let here : found ≡ window_word s = λ i. slice_index s.words (t.on i) in
    let cleared = clear_bit (window_word s) t.slot t.held.0 (word_small o s r) (slot_in_word o s r id me.0 t.slot seated.0 t.held.0 t.held.1) in
    let word : bit_and found st.first ≡ window_word s - 2 ^ t.slot = (λ i. bit_and (here i) (t.less i)) ∙ omega arith in
    let view : me'.0 ≡ with_slots me.0 (me.0.slots - 2 ^ t.slot) (window_word s - 2 ^ t.slot) = t.after ∙ (λ i. with_slots me.0 (me.0.slots - 2 ^ t.slot) (word i)) in
    (releases id t.slot, (t.slot, t.less, refl), record { view = me.0; seated = seated; held = t.held; after = λ i. after_step s (t.on i) (word i) id (view i) })

pub number_load_is_look : StepsAre load_number loaded IsLookAtNumber
number_load_is_look o s id st me me' r seated told =
    let t = told.0 in
    let view : me'.0 ≡ seen_with me.0 (number_word s) = t.after ∙ (λ i. seen_with me.0 (slice_index s.words (t.on i))) in
    (looks_at_number id, refl, record { view = me.0; seated = seated; after = λ i. after_step s (t.on i) (slice_index s.words (t.on i)) id (view i) })

pub exchange_is_draw : StepsAre exchange_draw exchanged IsDrawOrLook
exchange_is_draw o s id st me me' r seated told = dite (ℕ_discrete (slice_index s.words st.word) st.first)
    (λ e.
    let t = told.0 in
    let found : ℕ = slice_index s.words st.word in
    let here : found ≡ number_word s = λ i. slice_index s.words (t.on i) in
    let new : st.second ≡ number_word s + 1 = t.next ∙ (λ i. (sym e ∙ here) i + 1) in
    let word : either (found == st.first) st.second found ≡ number_word s + 1 = ap (λ b. either b st.second found) (eq-eqb found st.first e) ∙ new in
    let view : me'.0 ≡ drawn_with me.0 (number_word s) = (t.hit e).0 ∙ (λ i. drawn_with me.0 (here i)) in
    (draws id, ((λ _. refl), (λ ne. absurd (ne e))), record { view = me.0; seated = seated; lawful = let l = t.lawful in omega arith; after = λ i. after_step s (t.on i) (word i) id (view i) }))
    (λ ne.
    let t = told.0 in
    let found : ℕ = slice_index s.words st.word in
    let here : found ≡ number_word s = λ i. slice_index s.words (t.on i) in
    let word : either (found == st.first) st.second found ≡ number_word s = ap (λ b. either b st.second found) (ne_eqb found st.first ne) ∙ here in
    let view : me'.0 ≡ seen_with me.0 (number_word s) = t.miss ne ∙ (λ i. seen_with me.0 (here i)) in
    (looks_at_number id, ((λ e. absurd (ne e)), (λ _. refl)), record { view = me.0; seated = seated; after = λ i. after_step s (t.on i) (word i) id (view i) }))

pub split_is_move : SplitIsMove giver given
split_is_move s id v seated can = record { view = v; seated = seated; can = can; after = refl }

pub join_is_move : JoinIsMove joined nobody
join_is_move s id other v w seated there apart = record { view = v; theirs = w; seated = seated; there = there; apart = apart; after = refl }
