-- A PDU that is read is the PDU that was spelled, and what was spelled is read again.
use Rattle.std.proofs.Common.{◌≡◌, ℕ, ◌+◌, ◌^◌, ◌<◌, ◌≤◌, Bool, true, false, cond, ltb, leb, eqb, List, [], ◌∷◌, ◌++◌, length, take, drop, Option, Some, None, Result, Ok, Err, refl, sym, ap, subst, ◌∙◌, append_assoc, arith, inl, inr}
use Rattle.std.specs.Prelude.{◌&&◌, IfOk, find}
use Rattle.std.specs.Int.{w32, from_be_bytes, to_be_bytes}
use Rattle.std.proofs.lemmas.Bool.{ltb-false, le-ltb, eqb-true, eq-eqb, leb-true, le-leb}
use Rattle.std.proofs.lemmas.List.{take-append-drop, length-take, length-drop, drop-drop}
use Rattle.std.proofs.lemmas.Nat.{be_bytes_4, from_be_bytes-to_be_bytes_4}
use Rattle.sms_pdu.specs.declared.error.PduError.{PduError}
use Rattle.sms_pdu.specs.declared.error.PduError.TheVariants as errors
use Rattle.sms_pdu.specs.declared.command.Command.{Command}
use Rattle.sms_pdu.specs.declared.command.Command.TheVariants as command
use Rattle.sms_pdu.specs.declared.body.Pdu.{Pdu}
use Rattle.sms_pdu.specs.declared.body.Body.{Body}
use Rattle.sms_pdu.specs.declared.body.Sm.{Sm}
use Rattle.sms_pdu.specs.declared.header.Header.{Header}
use Rattle.sms_pdu.specs.Header.{number_at, header_at_front}
use Rattle.sms_pdu.specs.Command.{id_of, commands, command_of}
use Rattle.sms_pdu.specs.Grammar.{command_in, body_spelling, spelling_of, Spells}
use Rattle.sms_pdu.specs.Reading.{◌>>=◌, GivesBut, HasStrings, body_at, known, header_told, pdu_of, reading}
use Rattle.sms_pdu.proofs.Parameters.{bind_ok, guard_then, ok_is}
use Rattle.sms_pdu.proofs.ParameterTexts.{IsOctets, IsOctets-drop, IsOctets-take}
use Rattle.sms_pdu.proofs.Bodies.{both_true, absent_cases, body_take, body_again}

-- ---- commands

pub command_known : (c : Command) → command_of (id_of c) ≡ Some c
command_known command.BindTransmitter = refl
command_known command.BindTransmitterResp = refl
command_known command.SubmitSm = refl
command_known command.SubmitSmResp = refl
command_known command.DeliverSm = refl
command_known command.DeliverSmResp = refl
command_known command.Unbind = refl
command_known command.UnbindResp = refl
command_known command.BindTransceiver = refl
command_known command.BindTransceiverResp = refl
command_known command.EnquireLink = refl
command_known command.EnquireLinkResp = refl
command_known command.GenericNack = refl

abbrev has_id : ℕ → Command → Bool
has_id n c = eqb (id_of c) n

some_command : (a b : Command) → Some a ≡ Some b → a ≡ b
some_command a b e = cc

found_id : (n : ℕ) (cs : List Command) (c : Command) → find (has_id n) cs ≡ Some c → id_of c ≡ n
found_id n [] c e = absurd cc
found_id n (d ∷ ds) c e =
    elim (absent_cases (has_id n d)) [
      | inl is ↦
          let here : Some d ≡ Some c = rw is at e in
          ap id_of (sym (some_command d c here)) ∙ eqb-true (id_of d) n is
      | inr isnt ↦
          let later : find (has_id n) ds ≡ Some c = rw isnt at e in
          found_id n ds c later
    ]

-- the command is known, and this is its body
record BodyOf (o : Option Command) (status : ℕ) (octets : List ℕ) (b : Body) : Type 0 where
  command : Command
  known : o ≡ Some command
  reads : body_at command status octets ≡ Ok b

-- ---- the tests of the header, each before the body

abbrev pub body_by : Option Command → ℕ → List ℕ → Result Body PduError
body_by None status octets = Err errors.UnknownCommand
body_by (Some command) status octets = body_at command status octets

tests_first : (octets : List ℕ) (short whole : Bool) (o : Option Command) (h : Header) → (cond short (Err errors.Short) (cond whole (known o h) (Err errors.BadLength)) >>= λ told. pdu_of told.1.status told.1.number (body_at told.0 told.1.status (drop 16 octets))) ≡ cond short (Err errors.Short) (cond whole (pdu_of h.status h.number (body_by o h.status (drop 16 octets))) (Err errors.BadLength))
tests_first octets true whole o h = refl
tests_first octets false false o h = refl
tests_first octets false true None h = refl
tests_first octets false true (Some c) h = refl

reading_tests : (octets : List ℕ) → reading octets ≡ cond (ltb (length octets) 16) (Err errors.Short) (cond (eqb (number_at 0 octets) (length octets) && leb (length octets) 70000) (pdu_of (number_at 8 octets) (number_at 12 octets) (body_by (command_of (number_at 4 octets)) (number_at 8 octets) (drop 16 octets))) (Err errors.BadLength))
unfolding reading header_told
reading_tests octets = tests_first octets (ltb (length octets) 16) (eqb (number_at 0 octets) (length octets) && leb (length octets) 70000) (command_of (number_at 4 octets)) (header_at_front octets)

body_by_ok : (o : Option Command) (status : ℕ) (octets : List ℕ) (b : Body) → body_by o status octets ≡ Ok b → BodyOf o status octets b
body_by_ok None status octets b e = absurd cc
body_by_ok (Some c) status octets b e = record { command = c; known = refl; reads = e }

-- ---- the header

four_at : (k : ℕ) (octets : List ℕ) → IsOctets octets → k + 4 ≤ length octets → to_be_bytes w32 (number_at k octets) ≡ take 4 (drop k octets)
four_at k octets fits le =
    be_bytes_4 (take 4 (drop k octets)) (number_at k octets) (omega (arith, length-take 4 (drop k octets), length-drop k octets)) (IsOctets-take 4 (drop k octets) (IsOctets-drop k octets fits)) refl

number_small : (octets : List ℕ) → IsOctets octets → from_be_bytes w32 octets < 2 ^ 32
number_small octets fits = omega (arith, fits 0, fits 1, fits 2, fits 3)

number_at_small : (k : ℕ) (octets : List ℕ) → IsOctets octets → number_at k octets < 2 ^ 32
number_at_small k octets fits = number_small (take 4 (drop k octets)) (IsOctets-take 4 (drop k octets) (IsOctets-drop k octets fits))

next_four : (k : ℕ) (octets : List ℕ) → take 4 (drop k octets) ++ drop (k + 4) octets ≡ drop k octets
next_four k octets = ap (λ (r : List ℕ). take 4 (drop k octets) ++ r) (sym (drop-drop 4 k octets)) ∙ take-append-drop 4 (drop k octets)

five_parts : (a b c d e : List ℕ) → a ++ (b ++ (c ++ (d ++ e))) ≡ (((a ++ b) ++ c) ++ d) ++ e
five_parts a b c d e = simp append_assoc

header_parts : (octets : List ℕ) → IsOctets octets → 16 ≤ length octets
    → octets ≡ to_be_bytes w32 (number_at 0 octets) ++ to_be_bytes w32 (number_at 4 octets) ++ to_be_bytes w32 (number_at 8 octets) ++ to_be_bytes w32 (number_at 12 octets) ++ drop 16 octets
header_parts octets fits long =
    let q0 = take 4 (drop 0 octets) in
    let q4 = take 4 (drop 4 octets) in
    let q8 = take 4 (drop 8 octets) in
    let q12 = take 4 (drop 12 octets) in
    let tail = drop 16 octets in
    let s12 : q12 ++ tail ≡ drop 12 octets = next_four 12 octets in
    let s8 : q8 ++ (q12 ++ tail) ≡ drop 8 octets = ap (λ (r : List ℕ). q8 ++ r) s12 ∙ next_four 8 octets in
    let s4 : q4 ++ (q8 ++ (q12 ++ tail)) ≡ drop 4 octets = ap (λ (r : List ℕ). q4 ++ r) s8 ∙ next_four 4 octets in
    let s0 : q0 ++ (q4 ++ (q8 ++ (q12 ++ tail))) ≡ octets = ap (λ (r : List ℕ). q0 ++ r) s4 ∙ next_four 0 octets in
    let b0 = to_be_bytes w32 (number_at 0 octets) in
    let b4 = to_be_bytes w32 (number_at 4 octets) in
    let b8 = to_be_bytes w32 (number_at 8 octets) in
    let b12 = to_be_bytes w32 (number_at 12 octets) in
    let e0 : b0 ≡ q0 = four_at 0 octets fits (omega (arith, long)) in
    let e4 : b4 ≡ q4 = four_at 4 octets fits (omega (arith, long)) in
    let e8 : b8 ≡ q8 = four_at 8 octets fits (omega (arith, long)) in
    let e12 : b12 ≡ q12 = four_at 12 octets fits (omega (arith, long)) in
    sym s0 ∙ ap (λ (x : List ℕ). x ++ (q4 ++ (q8 ++ (q12 ++ tail)))) (sym e0) ∙ ap (λ (x : List ℕ). b0 ++ (x ++ (q8 ++ (q12 ++ tail)))) (sym e4) ∙ ap (λ (x : List ℕ). b0 ++ (b4 ++ (x ++ (q12 ++ tail)))) (sym e8) ∙ ap (λ (x : List ℕ). b0 ++ (b4 ++ (b8 ++ (x ++ tail)))) (sym e12) ∙ five_parts b0 b4 b8 b12 tail

-- ---- what is read is spelled so

pub chosen_then : {A : Type 0} (b : Bool) (r : Result A PduError) (d : PduError) (y : A) → cond b r (Err d) ≡ Ok y → (b ≡ true) × (r ≡ Ok y)
chosen_then true r d y e = (refl, e)
chosen_then false r d y e = absurd cc

pub reading_take : (octets : List ℕ) (p : Pdu) → IsOctets octets → reading octets ≡ Ok p → Spells p octets
reading_take octets p fits e =
    let status = number_at 8 octets in
    let number = number_at 12 octets in
    let whole = eqb (number_at 0 octets) (length octets) && leb (length octets) 70000 in
    let made : Body → Pdu = λ b. record { status = status; number = number; body = b } in
    let rest = body_by (command_of (number_at 4 octets)) status (drop 16 octets) >>= λ b. Ok (record { status = status; number = number; body = b }) in
    let g = guard_then (ltb (length octets) 16) errors.Short (cond whole rest (Err errors.BadLength)) p (sym (reading_tests octets) ∙ e) in
    let long : 16 ≤ length octets = ltb-false _ _ g.0 in
    let h = chosen_then whole rest errors.BadLength p g.1 in
    let tests = both_true (eqb (number_at 0 octets) (length octets)) (leb (length octets) 70000) h.0 in
    let says : number_at 0 octets ≡ length octets = eqb-true _ _ tests.0 in
    let most : length octets ≤ 70000 = leb-true _ _ tests.1 in
    let b = bind_ok (body_by (command_of (number_at 4 octets)) status (drop 16 octets)) (λ b. Ok (made b)) p h.1 in
    let c = body_by_ok (command_of (number_at 4 octets)) status (drop 16 octets) b.value b.is in
    let id : id_of c.command ≡ number_at 4 octets = found_id (number_at 4 octets) commands c.command c.known in
    let r = body_take c.command status (drop 16 octets) b.value (IsOctets-drop 16 octets fits) c.reads in
    let id-is : number_at 4 octets ≡ id_of (command_in b.value) = sym id ∙ ap id_of (sym r.command) in
    let tail : List ℕ → List ℕ = λ x. x ++ to_be_bytes w32 status ++ to_be_bytes w32 number ++ drop 16 octets in
    let spelled : octets ≡ spelling_of (length octets) (made b.value) =
    header_parts octets fits long
    ∙ ap (λ (n : ℕ). to_be_bytes w32 n ++ to_be_bytes w32 (number_at 4 octets) ++ to_be_bytes w32 status ++ to_be_bytes w32 number ++ drop 16 octets) says
    ∙ ap (λ (n : ℕ). to_be_bytes w32 (length octets) ++ to_be_bytes w32 n ++ to_be_bytes w32 status ++ to_be_bytes w32 number ++ drop 16 octets) id-is
    ∙ ap (λ (x : List ℕ). to_be_bytes w32 (length octets) ++ to_be_bytes w32 (id_of (command_in b.value)) ++ to_be_bytes w32 status ++ to_be_bytes w32 number ++ x) r.spelled in
    subst (λ (q : Pdu). Spells q octets) (ok_is (made b.value) p b.rest) (record {
      spelled = spelled;
      most = most;
      status = number_at_small 8 octets fits;
      number = number_at_small 12 octets fits;
      fits = r.fits;
    })

-- ---- a message

-- what was returned of a message
pub message_given : (status number : ℕ) (of : Sm → Body) (told : Result Sm PduError) (r : Result Pdu PduError) → ((sm : Sm) → HasStrings (of sm)) → GivesBut (λ (p : Pdu). Unit {0}) (λ (p : Pdu). p) r (pdu_of status number (told >>= λ sm. Ok (of sm))) → GivesBut (λ (p : Pdu). HasStrings p.body) (λ (p : Pdu). p) r (pdu_of status number (told >>= λ sm. Ok (of sm)))
message_given status number of (Ok sm) (Ok p) strings g = g
message_given status number of (Err e) (Ok p) strings g = g
message_given status number of (Ok sm) (Err f) strings g = (g.0, strings sm)
message_given status number of (Err e) (Err f) strings g = g

-- ---- what is spelled so is read

pub record Heads (octets : List ℕ) (l i s n : ℕ) (r : List ℕ) : Type 0 where
  pub long : 16 ≤ length octets
  pub len : number_at 0 octets ≡ l
  pub id : number_at 4 octets ≡ i
  pub status : number_at 8 octets ≡ s
  pub number : number_at 12 octets ≡ n
  pub rest : drop 16 octets ≡ r

heads : (l i s n : ℕ) (r : List ℕ) → l < 2 ^ 32 → i < 2 ^ 32 → s < 2 ^ 32 → n < 2 ^ 32 → Heads (to_be_bytes w32 l ++ to_be_bytes w32 i ++ to_be_bytes w32 s ++ to_be_bytes w32 n ++ r) l i s n r
heads l i s n r hl hi hs hn = record {
  long = omega arith;
  len = from_be_bytes-to_be_bytes_4 l hl;
  id = from_be_bytes-to_be_bytes_4 i hi;
  status = from_be_bytes-to_be_bytes_4 s hs;
  number = from_be_bytes-to_be_bytes_4 n hn;
  rest = refl;
}

pub id_small : (c : Command) → id_of c < 2 ^ 32
id_small command.BindTransmitter = omega arith
id_small command.BindTransmitterResp = omega arith
id_small command.SubmitSm = omega arith
id_small command.SubmitSmResp = omega arith
id_small command.DeliverSm = omega arith
id_small command.DeliverSmResp = omega arith
id_small command.Unbind = omega arith
id_small command.UnbindResp = omega arith
id_small command.BindTransceiver = omega arith
id_small command.BindTransceiverResp = omega arith
id_small command.EnquireLink = omega arith
id_small command.EnquireLinkResp = omega arith
id_small command.GenericNack = omega arith

reading_by : (octets : List ℕ) (p : Pdu) → ltb (length octets) 16 ≡ false → (eqb (number_at 0 octets) (length octets) && leb (length octets) 70000) ≡ true → number_at 8 octets ≡ p.status → number_at 12 octets ≡ p.number → body_by (command_of (number_at 4 octets)) (number_at 8 octets) (drop 16 octets) ≡ Ok p.body → reading octets ≡ Ok p
reading_by octets p long whole status number read = rw (reading_tests octets, long, whole, read, status, number) refl

both_tests : (m n : ℕ) → m ≡ n → n ≤ 70000 → (eqb m n && leb n 70000) ≡ true
both_tests m n e le = rw (eq-eqb m n e, le-leb n 70000 le) refl

pub spelled_heads : (p : Pdu) (octets : List ℕ) → Spells p octets → Heads octets (length octets) (id_of (command_in p.body)) p.status p.number (body_spelling p.body)
spelled_heads p octets s =
    let small : length octets < 2 ^ 32 = omega (arith, s.most) in
    subst (λ (x : List ℕ). Heads x (length octets) (id_of (command_in p.body)) p.status p.number (body_spelling p.body)) (sym s.spelled) (heads (length octets) (id_of (command_in p.body)) p.status p.number (body_spelling p.body) small (id_small (command_in p.body)) s.status s.number)

pub reading_again : (p : Pdu) (octets : List ℕ) → Spells p octets → reading octets ≡ Ok p
reading_again p octets s =
    let h = spelled_heads p octets s in
    let known : command_of (number_at 4 octets) ≡ Some (command_in p.body) = ap command_of h.id ∙ command_known (command_in p.body) in
    let read : body_by (command_of (number_at 4 octets)) (number_at 8 octets) (drop 16 octets) ≡ Ok p.body =
    ap (λ (o : Option Command). body_by o (number_at 8 octets) (drop 16 octets)) known
    ∙ ap (λ (n : ℕ). body_at (command_in p.body) n (drop 16 octets)) h.status
    ∙ ap (λ (x : List ℕ). body_at (command_in p.body) p.status x) h.rest
    ∙ body_again p.status p.body s.fits in
    reading_by octets p (le-ltb _ _ h.long) (both_tests (number_at 0 octets) (length octets) h.len s.most) h.status h.number read

pub is_found : (octets : List ℕ) (r : Result Pdu PduError) → IsOctets octets → GivesBut (λ (p : Pdu). HasStrings p.body) (λ (p : Pdu). p) r (reading octets) → IfOk r (λ p. Spells p octets)
is_found octets (Ok p) fits given = reading_take octets p fits given
is_found octets (Err e) fits given = tt
