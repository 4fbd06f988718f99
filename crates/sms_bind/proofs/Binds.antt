-- Lemmas on the bind's octets and its answer.
use Rattle.std.proofs.Common.{◌≡◌, ◌⊎◌, ℕ, ◌+◌, ◌-◌, ◌^◌, ◌<◌, ◌≤◌, List, [], ◌++◌, ◌∷◌, length, length-append, get_or, Bool, true, false, if◌then◌else◌, Option, Result, Ok, Err, inl, inr, min, subst, sym, ap, ◌∙◌, arith}
use Rattle.std.specs.List.{remove}
use Rattle.std.specs.Io.KnownBytes.{Consumes}
use Rattle.std.proofs.KnownBytes.{Appends-nil, Consumes-trans}
use Rattle.sms_pdu.specs.declared.body.Pdu.{Pdu}
use Rattle.sms_pdu.specs.declared.command.Mode.{Mode}
use Rattle.sms_pdu.specs.Grammar.{Spells}
use Rattle.sms_pdu.proofs.Spellings.{one_spelling}
use Rattle.sms_session.specs.declared.session.State.{State}
use Rattle.sms_session.specs.Session.{opening}
use Rattle.sms_bind.specs.declared.binding.BindFault.{BindFault}
use Rattle.sms_bind.specs.declared.binding.BindFault.TheVariants as fault
use Rattle.sms_session.specs.declared.session.OpenFault.{OpenFault}
use Rattle.sms_session.specs.declared.session.OpenFault.TheVariants.{Refused, NotBind}
use Rattle.sms_pdu.specs.Faults.{Counts, CountsMany}
use Rattle.sms_pdu.specs.Frame.{Division, IsBad}
use Rattle.sms_pdu.specs.Header.{header_at_front}
use Rattle.sms_pdu.specs.Streams.{SomeAppended}
use Rattle.sms_pdu.specs.Turn.{GaveAtMost, IsSpent}
use Rattle.sms_pdu.proofs.Streams.{short_rest}
use Rattle.sms_pdu.proofs.Turns.{gave, not_spent}
use Rattle.sms_bind.specs.Answers.{FoundNone, Refuses, fault_of}

pub same_text : (p : Pdu) (a b : List ℕ) → Spells p a → Spells p b → a ≡ b
same_text p a b s t = same (one_spelling p (a, s))
  where
    same : (octets : List ℕ) × Spells p octets × ((others : List ℕ) → Spells p others → others ≡ octets) → a ≡ b
    same (octets, spells, only) = only a s ∙ sym (only b t)

pub none_appended : (a : Option (List ℕ)) (octets : List ℕ) → SomeAppended a a octets
none_appended a octets = (0, omega arith, Appends-nil a)

pub found_refuses : (mode : Mode) (got : List ℕ) (e : BindFault) → FoundNone got e → Refuses mode got e
found_refuses mode got (fault.Refused status) h = absurd h
found_refuses mode got fault.Closed h = h
found_refuses mode got fault.NotSmpp h = inr h
found_refuses mode got fault.Read h = h
found_refuses mode got fault.Write h = absurd h
found_refuses mode got fault.OutOfMemory h = tt

-- a longer rest has less to come
pub shorter_to_go : (old p new : List ℕ) (e : ℕ) → new ≡ old ++ p → 0 < length p → length new < 70000 → (70000 - length new) + (600 - e) < (70000 - length old) + (600 - e)
shorter_to_go old p new e is some short =
    let n : length new ≡ length old + length p = ap length is ∙ length-append old p in
    omega (arith, n, some, short)

why_of : Result State (Mode × OpenFault) → OpenFault
why_of (Ok s) = NotBind
why_of (Err e) = e.1

abbrev chosen : Bool → Bool → State → Mode → OpenFault → OpenFault → Result State (Mode × OpenFault)
chosen a b s m w1 w2 = if a then Ok s else (if b then Err (m, w1) else Err (m, w2))

-- a refusal names the mode of the bind
by_tests : (a b : Bool) (s : State) (m o : Mode) (w1 w2 why : OpenFault) → chosen a b s m w1 w2 ≡ Err (o, why) → chosen a b s m w1 w2 ≡ Err (m, why)
unfolding why_of
by_tests true b s m o w1 w2 why e = absurd cc
by_tests false true s m o w1 w2 why e = ap (λ w. Err (m, w)) (ap why_of e)
by_tests false false s m o w1 w2 why e = ap (λ w. Err (m, w)) (ap why_of e)

pub first_refuses : (mode o : Mode) (got first : List ℕ) (others : List (List ℕ)) (rest : List ℕ) (why : OpenFault) → Division got (first ∷ others) rest → opening mode (header_at_front first) ≡ Err (o, why) → Refuses mode got (fault_of why)
first_refuses mode o got first others rest (Refused status) d e = (first, others, rest, d, by_tests _ _ _ mode o _ _ (Refused status) e)
first_refuses mode o got first others rest NotBind d e = inl (first, others, rest, d, by_tests _ _ _ mode o _ _ NotBind e)

-- the first of a list of frames that isn't empty, and the others
pub first_of_frames : (fs : List (List ℕ)) (f : List ℕ) → 0 < length fs → f ≡ get_or fs 0 f → fs ≡ f ∷ remove fs 0
first_of_frames [] f low is = absurd (omega arith)
first_of_frames (x ∷ fs) f low is = ap (λ (y : List ℕ). y ∷ fs) (sym is)

-- what was read for an answer that isn't whole yet, and one read more
pub gave_answer : (got piece framer : List ℕ) (r t u : Option (List ℕ)) → Division got [] framer → ¬ IsBad framer → length piece ≤ 4096 → Consumes r t got → Consumes t u piece → GaveAtMost 74096 r u
gave_answer got piece framer r t u d good few before last =
    let whole : length got ≡ length framer = ap length d.whole in
    let short = short_rest framer d.ended good in
    gave 74096 r u (got ++ piece) (omega (arith, length-append got piece, few, whole, short)) (Consumes-trans r t u got piece before last)

-- an input that gave something had something left before
pub not_spent_before : (got piece : List ℕ) (r t u : Option (List ℕ)) → 0 < length piece → Consumes r t got → Consumes t u piece → ¬ IsSpent r
not_spent_before got piece r t u some before last = not_spent r u (got ++ piece) (omega (arith, length-append got piece, some)) (Consumes-trans r t u got piece before last)

-- ---- the reads that gave nothing

-- n errors were counted; where n is 0 the count is what it was
abbrev pub Tried : ℕ → ℕ → ℕ → Type 0
Tried n old new = ((n ≡ 0) × (new ≡ old)) ⊎ CountsMany n old new

pub tried_more : (n a b c : ℕ) → Counts b c → Tried n a b → Tried (n + 1) a c
tried_more n a b c h (inl (none, same)) = let k : b + 1 ≡ a + (n + 1) = omega (arith, none, same) in inr (subst (λ m. c ≡ min m (2 ^ 64 - 1)) k h)
tried_more n a b c h (inr many) = inr (omega (arith, h, many))

pub tried_all : (n k a b : ℕ) → n ≡ k → 0 < n → Tried n a b → CountsMany k a b
tried_all n k a b is some (inl (none, same)) = absurd (omega (arith, none, some))
tried_all n k a b is some (inr many) = subst (λ m. CountsMany m a b) is many
