-- A line is called silent only where it was asked in vain.
use Rattle.std.proofs.Common.{◌≡◌, ℕ, ◌-◌, ◌≤◌, Bool, true, false, List, [], ◌∷◌, Option, Some, None, refl}
use Rattle.std.specs.Prelude.{nat_le, if◌then◌else◌}
use Rattle.std.proofs.lemmas.Bool.{leb-true}
use Rattle.sms_session.specs.declared.enquiry.Look.{Look}
use Rattle.sms_session.specs.declared.enquiry.Look.TheVariants.{Wait, Ask, Silent}
use Rattle.sms_session.specs.Enquiries.{Event, IsSilentSince, IsToBeAsked, SilentWereAsked, Watch, WasDue, after, asked_if, begun, left_of, look_by, looked, run, unanswered, unasked}
use Rattle.sms_session.specs.Enquiries.Event.{Came, Looked}

-- a time is over
over : (limit since now : ℕ) (b : Bool) → nat_le limit (now - since) ≡ b → (if b then None else Some (limit - (now - since))) ≡ None → limit ≤ now - since
over limit since now true e none = leb-true limit (now - since) e
over limit since now false e none = absurd (cc)

never_silent : (o : Option ℕ) → unasked o ≡ Silent → ⊥
never_silent None e = cc
never_silent (Some wait) e = cc

never_ask : (o : Option ℕ) → unanswered o ≡ Ask → ⊥
never_ask None e = cc
never_ask (Some wait) e = cc

none_asks : (o : Option ℕ) → unasked o ≡ Ask → o ≡ None
none_asks None e = refl
none_asks (Some wait) e = cc

none_is_silent : (o : Option ℕ) → unanswered o ≡ Silent → o ≡ None
none_is_silent None e = refl
none_is_silent (Some wait) e = cc

-- what a look says of how the watch stands
asks : (w : Watch) (o : Option ℕ) (now : ℕ) → w.asked ≡ o → look_by w o now ≡ Ask → IsToBeAsked w now
asks w None now is e = record { once = is; idled = over w.idle_ms w.heard now _ refl (none_asks (left_of w.idle_ms w.heard now) e) }
asks w (Some at) now is e = absurd (never_ask _ e)

silent : (w : Watch) (o : Option ℕ) (now : ℕ) → w.asked ≡ o → WasDue w o → look_by w o now ≡ Silent → IsSilentSince w now
silent w None now is due e = absurd (never_silent _ e)
silent w (Some at) now is due e = record { at = at; was_asked = is; idled = due; waited = over w.answer_ms at now _ refl (none_is_silent (left_of w.answer_ms at now) e) }

due_after : (l : Look) (now : ℕ) (w : Watch) → looked now w ≡ l → WasDue w w.asked → WasDue (asked_if l now w) (asked_if l now w).asked
due_after Ask now w is due = (asks w w.asked now refl is).idled
due_after Silent now w is due = due
due_after (Wait wait) now w is due = due

due : (es : List Event) (w : Watch) → WasDue w w.asked → WasDue (run es w) (run es w).asked
due [] w so = so
due (Came now ∷ es) w so = due es (after (Came now) w) tt
due (Looked now ∷ es) w so = due es (after (Looked now) w) (due_after (looked now w) now w refl so)

pub silent_were_asked : SilentWereAsked
silent_were_asked idle_ms answer_ms made now events =
    let w = run events (begun idle_ms answer_ms made) in (
      (λ e. silent w w.asked now refl (due events (begun idle_ms answer_ms made) tt) e),
      (λ e. asks w w.asked now refl e),
    )
