-- Lists of frames, and the requests among them.
use Rattle.std.specs.Prelude.{◌≡◌, ℕ, ◌+◌, ◌==◌, ◌||◌, Bool, List, [], ◌∷◌, true, false, if◌then◌else◌}
use Rattle.sms_pdu.specs.declared.command.Command.TheVariants as command
use Rattle.sms_pdu.specs.Command.{id_of, is_response}
use Rattle.sms_pdu.specs.Header.{number_at}

-- the command_id of a response has the top bit (SMPP 3.4 5.1.2.1)
abbrev pub IsResponse : List ℕ → Type 0
IsResponse frame = is_response (number_at 4 frame) ≡ true

-- an enquire_link asks whether the line is alive, and nothing else (4.11)
abbrev pub IsEnquiry : List ℕ → Type 0
IsEnquiry frame = number_at 4 frame ≡ id_of command.EnquireLink

-- what is nobody's request: a response or an enquire_link
abbrev pub is_unclaimed : ℕ → Bool
is_unclaimed id = is_response id || (id == id_of command.EnquireLink)

abbrev pub IsUnclaimed : List ℕ → Type 0
IsUnclaimed frame = is_unclaimed (number_at 4 frame) ≡ true

abbrev pub IsRequest : List ℕ → Type 0
IsRequest frame = is_unclaimed (number_at 4 frame) ≡ false

-- the requests among frames, in order; an enquire_link isn't one of them
abbrev pub requests : List (List ℕ) → List (List ℕ)
requests [] = []
requests (frame ∷ frames) = if is_unclaimed (number_at 4 frame) then requests frames else frame ∷ requests frames

-- the weights of frames, added up
abbrev pub weigh : (List ℕ → ℕ) → List (List ℕ) → ℕ
weigh h [] = 0
weigh h (frame ∷ frames) = h frame + weigh h frames

-- the same frames, each as often, in whatever order: every weight weighs them the same
abbrev pub AreSame : List (List ℕ) → List (List ℕ) → Type 0
AreSame xs ys = (h : List ℕ → ℕ) → weigh h xs ≡ weigh h ys
