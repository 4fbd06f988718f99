-- What is read of a fields file has room in a submit_sm.
use Rattle.std.proofs.Common.{◌≡◌, ℕ, ◌+◌, ◌/◌, ◌%◌, nat_lt, not, Bool, true, false, List, [], ◌∷◌, length, arith, ne_eqb, Option, Some, None, refl, sym, subst, ◌∙◌, true≢false}
use Rattle.std.proofs.lemmas.Bool.{not_from_false}
use Rattle.std.specs.Prelude.{◌&&◌, ◌||◌, ◌==◌, if◌then◌else◌}
use Rattle.sms_pdu.specs.declared.parameter.Parameter.{Parameter}
use Rattle.sms_message.specs.Room.{are_few, have_room, has_no_zero, is_service_type, is_time}
use Rattle.toml.specs.Data.{Data}
use Rattle.sms_files.specs.Config.{c_octet_string, octets_in}
use Rattle.sms_files.specs.SubmitFields.{time_in}
use Rattle.sms_files.specs.Times.{from_now, has_clock, has_date, in_two, is_of_clock, is_relative, is_spelled}

taken : {A : Type 0} (b : Bool) (x y : A) → (if b then Some x else None) ≡ Some y → b ≡ true
taken true x y e = refl
taken false x y e = cc

left_of : (a b : Bool) → (a && b) ≡ true → a ≡ true
left_of true b e = refl
left_of false b e = e

right_of : (a b : Bool) → (a && b) ≡ true → b ≡ true
right_of true b e = e
right_of false b e = absurd (true≢false (sym e))

-- a C-Octet String of 6 octets is a service_type
pub service_room : (text : List ℕ) → c_octet_string 6 text ≡ Some text → is_service_type text ≡ true
service_room text e = taken _ text text e

both : (a b c : Bool) → (a || b) ≡ true → (b ≡ true → c ≡ true) → (a || c) ≡ true
both true b c e h = refl
both false b c e h = h e

joined : (a b : Bool) → a ≡ true → b ≡ true → (a && b) ≡ true
joined a b e h = rw (e, h) refl

of_sixteen : (text : List ℕ) → is_spelled text ≡ true → (length text == 16) ≡ true
of_sixteen text e =
    let ends = (length text == 16) && (is_relative text || is_of_clock text) in
    left_of (length text == 16) (is_relative text || is_of_clock text) (left_of ends (has_date text) (left_of (ends && has_date text) (has_clock text) e))

-- and one of 17 that spells a time, or is empty, is a time
pub time_room : (text : List ℕ) → c_octet_string 17 text ≡ Some text → ((length text == 0) || is_spelled text) ≡ true → is_time text ≡ true
time_room text e h =
    joined ((length text == 0) || (length text == 16)) (has_no_zero text)
    (both (length text == 0) (is_spelled text) (length text == 16) h (λ spelled. of_sixteen text spelled))
    (right_of (nat_lt (length text) 17) (has_no_zero text) (taken (nat_lt (length text) 17 && has_no_zero text) text text e))

-- ---- a time from now on

digit_there : (n : ℕ) → not (48 + n == 0) ≡ true
digit_there n = not_from_false (48 + n == 0) (ne_eqb (48 + n) 0 (λ e. absurd (omega arith)))

two_room : (n : ℕ) (rest : List ℕ) → has_no_zero rest ≡ true → has_no_zero (in_two n rest) ≡ true
two_room n rest h = joined (not (48 + n / 10 == 0)) (not (48 + n % 10 == 0) && has_no_zero rest) (digit_there (n / 10)) (joined (not (48 + n % 10 == 0)) (has_no_zero rest) (digit_there (n % 10)) h)

pub seconds_room : (seconds : ℕ) → is_time (from_now seconds) ≡ true
seconds_room seconds =
    let last : List ℕ = 48 ∷ (48 ∷ (48 ∷ (82 ∷ []))) in
    let s : List ℕ = in_two (seconds % 60) last in
    let m : List ℕ = in_two (seconds / 60 % 60) s in
    let h : List ℕ = in_two (seconds / 3600 % 24) m in
    two_room (seconds / 86400) h (two_room (seconds / 3600 % 24) m (two_room (seconds / 60 % 60) s (two_room (seconds % 60) last refl)))

-- there is room for all
pub all_room : (service_type schedule validity : List ℕ) (params : List Parameter) → is_service_type service_type ≡ true → is_time schedule ≡ true → is_time validity ≡ true → are_few params ≡ true → have_room service_type schedule validity params ≡ true
all_room service_type schedule validity params a b c d = rw (a, b, c, d) refl

-- what is read of a text, by whether it is a time or empty
pub time_read : (value : Option Data) (text seen : List ℕ) (b : Bool) → octets_in 17 [] value ≡ Some text → seen ≡ text → b ≡ ((length seen == 0) || is_spelled seen) → b ≡ true → time_in value ≡ Some text
time_read value text seen b o same is holds =
    let h : ((length text == 0) || is_spelled text) ≡ true = subst (λ (t : List ℕ). ((length t == 0) || is_spelled t) ≡ true) same (sym is ∙ holds) in
    rw (o, h) refl

pub time_unread : (value : Option Data) (text seen : List ℕ) (b : Bool) → octets_in 17 [] value ≡ Some text → seen ≡ text → b ≡ ((length seen == 0) || is_spelled seen) → b ≡ false → time_in value ≡ None
time_unread value text seen b o same is fails =
    let h : ((length text == 0) || is_spelled text) ≡ false = subst (λ (t : List ℕ). ((length t == 0) || is_spelled t) ≡ false) same (sym is ∙ fails) in
    rw (o, h) refl

pub read_room : (text seen : List ℕ) (b : Bool) → c_octet_string 17 text ≡ Some text → seen ≡ text → b ≡ ((length seen == 0) || is_spelled seen) → b ≡ true → is_time text ≡ true
read_room text seen b fits same is holds = time_room text fits (subst (λ (t : List ℕ). ((length t == 0) || is_spelled t) ≡ true) same (sym is ∙ holds))
