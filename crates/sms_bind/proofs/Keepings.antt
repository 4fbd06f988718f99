-- What became of the deliver_sm of a stream, for each of its frames; and how often each was kept.
use Rattle.std.proofs.Common.{◌≡◌, ℕ, ◌+◌, ◌≤◌, ◌<◌, inl, get_or, drop, List, [], ◌∷◌, ◌++◌, length, sym, ap, ◌∙◌, subst, append-nil, length-append, arith}
use Rattle.std.proofs.lemmas.List.{drop_more}
use Rattle.sms_pdu.specs.Frame.{Division, IsFrame}
use Rattle.sms_inbox.specs.Arrivals.{IsAmong, deliveries}
use Rattle.sms_inbox.proofs.Walks.{deliveries-append}
use Rattle.sms_bind.specs.declared.device.Keeping.{Keeping}
use Rattle.sms_bind.specs.declared.device.Keeping.TheVariants.{Unasked, Kept, Unkept}
use Rattle.sms_bind.specs.Keepings.{Covers, IsOf}

pub covers_of : (stream frame : List ℕ) (keeping : Keeping) → IsOf stream keeping → IsAmong frame stream → Covers frame keeping
covers_of stream frame Unasked is among = tt
covers_of stream frame (Kept kept) is among = subst (IsAmong frame) (sym is) among
covers_of stream frame (Unkept unkept) is among = subst (IsAmong frame) (sym is) among

-- a frame is a stream of its own
pub among_itself : (frame : List ℕ) → IsFrame frame → IsAmong frame frame
among_itself frame whole = record { before = []; after = []; is = sym (append-nil frame); each = tt; whole = whole }

pub alone_divided : (frame : List ℕ) → IsFrame frame → Division frame (frame ∷ []) []
alone_divided frame whole = record { whole = sym (append-nil frame) ∙ sym (append-nil (frame ++ [])); each = (whole, tt); ended = inl (omega arith) }

-- of a list of frames, from a place on
pub once_step : (a b c i : ℕ) (fs : List (List ℕ)) (f : List ℕ) → i < length fs → f ≡ get_or fs i f → b + length (deliveries (drop i fs)) ≤ a + length (deliveries fs) → c ≤ b + length (deliveries (f ∷ []))
    → c + length (deliveries (drop (i + 1) fs)) ≤ a + length (deliveries fs)
once_step a b c i fs f low is p q =
    let rest = drop (i + 1) fs in
    let from : deliveries (drop i fs) ≡ deliveries (f ∷ []) ++ deliveries rest = ap deliveries (drop_more fs i f low) ∙ ap (λ (x : List ℕ). deliveries (x ∷ rest)) (sym is) ∙ deliveries-append (f ∷ []) rest in
    let long : length (deliveries (drop i fs)) ≡ length (deliveries (f ∷ [])) + length (deliveries rest) = ap length from ∙ length-append (deliveries (f ∷ [])) (deliveries rest) in
    omega (arith, long, p, q)
