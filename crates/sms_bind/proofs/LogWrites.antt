-- What a send does to a log.
use Rattle.std.proofs.Common.{◌≡◌, ℕ, List, [], ◌∷◌, ◌++◌, take, Option, Bool, true, false, true≢false, Result, Ok, Err, refl, sym, ap, ◌∙◌, subst, append-nil, inl, arith}
use Rattle.std.specs.List.{concat}
use Rattle.std.specs.Io.KnownBytes.{Appends}
use Rattle.std.proofs.lemmas.List.Folds.{concat-append}
use Rattle.std.proofs.KnownBytes.{Appends-nil, Appends-trans}
use Rattle.sms_pdu.specs.Streams.{FewerAppended}
use Rattle.sms_bind.specs.declared.wire.Wire.{Wire}
use Rattle.sms_bind.specs.declared.wire.WireFault.{WireFault}
use Rattle.sms_bind.specs.declared.wire.WireFault.TheVariants.{Write, Broken}
use Rattle.atomic_table.specs.Seated.{TableId}
use Rattle.sms_session.specs.Settings.{Setting}
use Rattle.sms_bind.specs.declared.log.rule.View.{View}
use Rattle.sms_bind.specs.LogRule.{wire_seat}
use Rattle.sms_bind.specs.Logs.{BeginsBehind, Wrote, first_of, given_of, LoggedStands}
use Rattle.sms_bind.specs.Wires.{Sends, writer, is_broken}

-- a log that begins
pub wrote_none : (b : Bool) (known : Option (List ℕ)) → b ≡ false → Wrote b known known []
wrote_none b known sound = subst (λ (x : Bool). Wrote x known known []) (sym sound) (Appends-nil known)

one_more : (log : List (List ℕ)) (frame : List ℕ) → concat log ++ frame ≡ concat (log ++ frame ∷ [])
one_more log frame = ap (λ (l : List ℕ). concat log ++ l) (sym (append-nil frame)) ∙ sym (concat-append log (frame ∷ []))

wrote_whole : (before now new : Option (List ℕ)) (log : List (List ℕ)) (frame : List ℕ) → Wrote false before now log → Appends now new frame → Wrote false before new (log ++ frame ∷ [])
wrote_whole before now new log frame was more = subst (Appends before new) (one_more log frame) (Appends-trans before now new (concat log) frame was more)

wrote_part : (before now new : Option (List ℕ)) (log : List (List ℕ)) (frame : List ℕ) → Wrote false before now log → FewerAppended now new frame → Wrote true before new (log ++ frame ∷ [])
wrote_part before now new log frame was fewer = (log, frame, fewer.0, refl, fewer.1, Appends-trans before now new (concat log) (take fewer.0 frame) was fewer.2)

-- a wire that was sound is given a frame
pub wrote_after : {W : Type 0} (contents : W → Option (List ℕ)) (old new : Wire W) (before : Option (List ℕ)) (log : List (List ℕ)) (frame : List ℕ) (result : Result (List ℕ) WireFault) → is_broken old ≡ false
    → Sends contents old new frame result → Wrote (is_broken old) before (contents (writer old)) log → Wrote (is_broken new) before (contents (writer new)) (log ++ frame ∷ [])
wrote_after {W} contents old new before log frame (Ok r) sound sent was =
    subst (λ (b : Bool). Wrote b before (contents (writer new)) (log ++ frame ∷ [])) (sym sent.after)
    (wrote_whole before (contents (writer old)) (contents (writer new)) log frame (subst (λ (b : Bool). Wrote b before (contents (writer old)) log) sound was) sent.whole)
wrote_after {W} contents old new before log frame (Err (Write r)) sound sent was =
    subst (λ (b : Bool). Wrote b before (contents (writer new)) (log ++ frame ∷ [])) (sym sent.after)
    (wrote_part before (contents (writer old)) (contents (writer new)) log frame (subst (λ (b : Bool). Wrote b before (contents (writer old)) log) sound was) (sent.short r refl))
wrote_after {W} contents old new before log frame (Err Broken) sound sent was = absurd (true≢false (sym (sent.broken.0 refl) ∙ sound))

take_none : (xs : List ℕ) → take 0 xs ≡ []
take_none [] = refl
take_none (x ∷ xs) = refl

-- a broken wire is sent nothing
pub sends_none : {W : Type 0} (contents : W → Option (List ℕ)) (wire : Wire W) (frame : List ℕ) → is_broken wire ≡ true → Sends contents wire wire frame (Err Broken)
sends_none {W} contents wire frame broken =
    let known = contents (writer wire) in
    record {
      receipt = tt;
      failed_receipt = λ r e. absurd (cc);
      broken = (λ _. broken, λ _. refl);
      kept = λ _. refl;
      after = broken;
      whole = tt;
      part = (0, omega arith, subst (Appends known known) (sym (take_none frame)) (Appends-nil known));
      short = λ r e. absurd (cc);
      no_fault = tt;
      counted = λ r e. absurd (cc);
      fault = inl broken;
    }

-- a wire that was given a frame stands as before
pub logged_more : {W : Type 0} (contents : W → Option (List ℕ)) (settings : Option Setting) (name badge badge' : TableId) (views after : List View) (wire wire' : Wire W) (frame : List ℕ) (result : Result (List ℕ) WireFault)
    → LoggedStands contents settings name badge views wire → badge' ≡ badge → after ≡ wire_seat (first_of views) (given_of views ++ frame ∷ []) ∷ [] → is_broken wire ≡ false → Sends contents wire wire' frame result
    → LoggedStands contents settings name badge' after wire' × (given_of after ≡ given_of views ++ frame ∷ []) × (first_of after ≡ first_of views)
logged_more {W} contents settings name badge badge' views after wire wire' frame result l same is sound sent =
    let first = ap first_of is in
    let given = ap given_of is in
    let wrote = wrote_after contents wire wire' (first_of views) (given_of views) frame result sound sent l.wrote in (
      record {
        badge_is = same ∙ l.badge_is;
        view = is ∙ (λ i. wire_seat (sym first i) (sym given i) ∷ []);
        behind = subst (BeginsBehind settings) (sym first) l.behind;
        wrote = subst (λ (l : List View). Wrote (is_broken wire') (first_of l) (contents (writer wire')) (given_of l)) (sym is) wrote;
      },
      given,
      first,
    )
