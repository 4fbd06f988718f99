-- What a submit_sm has room for (SMPP 3.4 4.4.1).
use Rattle.std.specs.Prelude.{ℕ, ◌==◌, ◌&&◌, ◌||◌, not, nat_le, nat_lt, Bool, true, List, [], ◌∷◌, length}
use Rattle.sms_pdu.specs.declared.parameter.Parameter.{Parameter}
use Rattle.sms_pdu.specs.Layout.{parameters_spelling}

-- no octet of the text is 0
abbrev pub has_no_zero : List ℕ → Bool
has_no_zero [] = true
has_no_zero (c ∷ cs) = not (c == 0) && has_no_zero cs

-- a service_type (5.2.11): a C-Octet String of at most 6 octets, its 0 among them
abbrev pub is_service_type : List ℕ → Bool
is_service_type text = nat_lt (length text) 6 && has_no_zero text

-- a time (7.1.1): a C-Octet String of no octets or of 16 before its 0
abbrev pub is_time : List ℕ → Bool
is_time text = ((length text == 0) || (length text == 16)) && has_no_zero text

-- optional parameters (5.3): a sending asks for 1,024 octets of them at most
abbrev pub are_few : List Parameter → Bool
are_few params = nat_le (length (parameters_spelling params)) 1024

-- there is room for all of these
abbrev pub have_room : List ℕ → List ℕ → List ℕ → List Parameter → Bool
have_room service_type schedule validity params = is_service_type service_type && is_time schedule && is_time validity && are_few params
