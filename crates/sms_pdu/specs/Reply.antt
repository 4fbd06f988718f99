-- The answers of a stream: submit_sm_resp and generic_nack (SMPP 3.4 4.3.1, 4.4.2).
use Rattle.std.specs.Prelude.{◌≡◌, ℕ, List, [], length, take, drop, position, Bool, true, false, Option, Some, None, nat_lt, ◌==◌, if◌then◌else◌}
use Rattle.std.specs.List.{filter_map}
use Rattle.sms_pdu.specs.declared.reply.Reply.{Reply}
use Rattle.sms_pdu.specs.declared.command.Command.TheVariants.{SubmitSmResp, GenericNack}
use Rattle.sms_pdu.specs.Command.{id_of}
use Rattle.sms_pdu.specs.Header.{number_at}
use Rattle.sms_pdu.specs.Frame.{Division}

abbrev pub before : List ℕ → Option ℕ → List ℕ
before octets None = []
before octets (Some len) = take len octets

-- what stands before the first 0 of these octets; nothing where no 0 does
abbrev pub before_zero : List ℕ → List ℕ
before_zero octets = before octets (position (λ octet. octet == 0) octets)

-- the octets before the body's first 0, where a 0 stands among the first 65
abbrev pub id_text : List ℕ → List ℕ
id_text body = before_zero (take 65 body)

abbrev pub reply_with : Bool → List ℕ → List ℕ → Reply
reply_with nack id octets = record { number = number_at 12 octets; status = number_at 8 octets; nack = nack; id = id }

-- the answer that a frame with this command is
abbrev pub reply_by : ℕ → List ℕ → Option Reply
reply_by command octets =
    if command == id_of SubmitSmResp then Some (reply_with false (id_text (drop 16 octets)) octets)
    else (if command == id_of GenericNack then Some (reply_with true [] octets) else None)

-- the answer that a frame is, if it is one
abbrev pub reply_in : List ℕ → Option Reply
reply_in octets = if nat_lt (length octets) 16 then None else reply_by (number_at 4 octets) octets

-- the answers among frames, in order
abbrev pub answers : List (List ℕ) → List Reply
answers frames = filter_map reply_in frames

-- these are the answers of a stream: those among its whole frames
pub record AnswersOf (stream : List ℕ) (replies : List Reply) : Type 0 where
  pub frames : List (List ℕ)
  pub rest : List ℕ
  pub divided : Division stream frames rest
  pub are : replies ≡ answers frames
