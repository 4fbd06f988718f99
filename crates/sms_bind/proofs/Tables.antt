-- What the session's table says of answers, and of the next state.
use Rattle.std.proofs.Common.{◌≡◌, ◌≢◌, ◌⊎◌, inl, inr, ℕ, List, [], ◌∷◌, Bool, true, false, ◌&&◌, ◌||◌, if◌then◌else◌, Some, None, length, ◌≤◌, refl, sym, ◌∙◌}
use Rattle.std.proofs.Common.{le-ltb}
use Rattle.std.specs.Prelude.{nat_lt}
use Rattle.std.specs.List.{AllByRecursion}
use Rattle.sms_pdu.specs.declared.header.Header.{Header}
use Rattle.sms_pdu.specs.declared.command.Command.TheVariants as command
use Rattle.sms_pdu.specs.declared.reply.Reply.{Reply}
use Rattle.sms_pdu.specs.Header.{header_at_front, number_at}
use Rattle.sms_pdu.specs.Reply.{reply_in}
use Rattle.sms_session.specs.declared.session.State.{State}
use Rattle.sms_session.specs.declared.session.State.TheVariants.{BoundTx, BoundTrx, Closed}
use Rattle.sms_session.specs.declared.session.Action.{Action}
use Rattle.sms_session.specs.declared.session.Action.TheVariants as action
use Rattle.sms_session.specs.Session.{Row, table, by_rows, on_table, bound, is, IsBound}

either : {A : Type 0} (P : A → Type 0) (b : Bool) (x y : A) → P x → P y → P (if b then x else y)
either P true x y p q = p
either P false x y p q = q

-- rows that never answer don't answer
none_answers : (rows : List Row) (s : State) (h : Header) → AllByRecursion (λ r. r.does h ≢ action.Answer) rows → (by_rows rows s h).0 ≢ action.Answer
none_answers [] s h all = λ e. absurd cc
none_answers (r ∷ rs) s h all = either (λ x. x.0 ≢ action.Answer) (r.from s && r.takes h.command) (r.does h, r.next s) (by_rows rs s h) all.0 (none_answers rs s h all.1)

-- rows that keep the state or close it
rows_next : (rows : List Row) (s : State) (h : Header) → AllByRecursion (λ r. (r.next s ≡ s) ⊎ (r.next s ≡ Closed)) rows → ((by_rows rows s h).1 ≡ s) ⊎ ((by_rows rows s h).1 ≡ Closed)
rows_next [] s h all = inr refl
rows_next (r ∷ rs) s h all = either (λ x. (x.1 ≡ s) ⊎ (x.1 ≡ Closed)) (r.from s && r.takes h.command) (r.does h, r.next s) (by_rows rs s h) all.0 (rows_next rs s h all.1)

-- a state after which the session isn't closed is the one before
abbrev later : List Row → List Row
later [] = []
later (r ∷ rs) = rs

pub next_same : (s : State) (h : Header) → ((on_table s h).1 ≡ s) ⊎ ((on_table s h).1 ≡ Closed)
next_same s h = rows_next table s h (inl refl, (inl refl, (inr refl, (inr refl, (inl refl, (inl refl, (inl refl, (inl refl, tt))))))))

-- the first row
first_row : (s : State) (h : Header) → bound s ≡ true → (b : Bool) → b ≡ (is command.SubmitSmResp h.command || is command.GenericNack h.command) → b ≡ true → (on_table s h).0 ≡ action.Answer
first_row s h up b is_b on =
    let e : (is command.SubmitSmResp h.command || is command.GenericNack h.command) ≡ true = sym is_b ∙ on in
    rw (up, e) refl

later_rows : (s : State) (h : Header) → (is command.SubmitSmResp h.command || is command.GenericNack h.command) ≡ false → (on_table s h).0 ≢ action.Answer
later_rows s h e =
    let off : (bound s && (is command.SubmitSmResp h.command || is command.GenericNack h.command)) ≡ false = elim s as (λ t. (bound t && (is command.SubmitSmResp h.command || is command.GenericNack h.command)) ≡ false) [ BoundTx ↦ e | BoundTrx ↦ e | Closed ↦ refl ] in
    rw off (none_answers (later table) s h ((λ x. absurd cc), ((λ x. absurd cc), ((λ x. absurd cc), ((λ x. absurd cc), ((λ x. absurd cc), ((λ x. absurd cc), ((λ x. absurd cc), tt))))))))

pub bound_true : (s : State) → IsBound s → bound s ≡ true
bound_true BoundTx up = refl
bound_true BoundTrx up = refl
bound_true Closed up = absurd (up refl)

by_command : (a b : Bool) (x y : Reply) → (a || b) ≡ false → (if a then Some x else (if b then Some y else None)) ≡ None
by_command true b x y e = absurd cc
by_command false true x y e = absurd cc
by_command false false x y e = refl

by_command_some : (a b : Bool) (x y : Reply) → (a || b) ≡ true → (r : Reply) × ((if a then Some x else (if b then Some y else None)) ≡ Some r)
by_command_some true b x y e = (x, refl)
by_command_some false true x y e = (y, refl)
by_command_some false false x y e = absurd cc

-- a frame is an answer iff the table says Answer
abbrev test : List ℕ → Bool
test f = is command.SubmitSmResp (number_at 4 f) || is command.GenericNack (number_at 4 f)

or_cases : (b : Bool) → (b ≡ true) ⊎ (b ≡ false)
or_cases true = inl refl
or_cases false = inr refl

pub is_reply : (s : State) (f : List ℕ) → 16 ≤ length f → (on_table s (header_at_front f)).0 ≡ action.Answer → (r : Reply) × (reply_in f ≡ Some r)
is_reply s f long e =
    let low : nat_lt (length f) 16 ≡ false = le-ltb (length f) 16 long in
    elim (or_cases (test f)) [
      | inl on ↦ rw low (by_command_some (is command.SubmitSmResp (number_at 4 f)) (is command.GenericNack (number_at 4 f)) _ _ on)
      | inr other ↦ absurd (later_rows s (header_at_front f) other e)
    ]

pub no_reply : (s : State) (f : List ℕ) → IsBound s → 16 ≤ length f → (on_table s (header_at_front f)).0 ≢ action.Answer → reply_in f ≡ None
no_reply s f up long e =
    let low : nat_lt (length f) 16 ≡ false = le-ltb (length f) 16 long in
    elim (or_cases (test f)) [
      | inl on ↦ absurd (e (first_row s (header_at_front f) (bound_true s up) (test f) refl on))
      | inr other ↦ rw low (by_command (is command.SubmitSmResp (number_at 4 f)) (is command.GenericNack (number_at 4 f)) _ _ other)
    ]

-- ---- responses

-- a response has the number of its request
abbrev pub HasNumber : ℕ → Action → Type 0
HasNumber number action.Answer = Unit {0}
HasNumber number (action.Reply response) = response.number ≡ number
HasNumber number (action.ReplyClose response) = response.number ≡ number
HasNumber number action.Note = Unit {0}
HasNumber number action.Close = Unit {0}
HasNumber number action.Drop = Unit {0}

rows_number : (rows : List Row) (s : State) (h : Header) → AllByRecursion (λ r. HasNumber h.number (r.does h)) rows → HasNumber h.number (by_rows rows s h).0
rows_number [] s h all = tt
rows_number (r ∷ rs) s h all = either (λ x. HasNumber h.number x.0) (r.from s && r.takes h.command) (r.does h, r.next s) (by_rows rs s h) all.0 (rows_number rs s h all.1)

pub has_number : (s : State) (h : Header) → HasNumber h.number (on_table s h).0
has_number s h = rows_number table s h (tt, (refl, (refl, (tt, (refl, (refl, (tt, (refl, tt))))))))
