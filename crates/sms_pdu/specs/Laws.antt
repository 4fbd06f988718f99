-- Laws about streams and PDUs, each of every case.
use Rattle.std.specs.Prelude.{◌≡◌, ℕ, List, [], ◌∷◌, ◌++◌}
use Rattle.sms_pdu.specs.declared.reply.Reply.{Reply}
use Rattle.sms_pdu.specs.declared.body.Pdu.{Pdu}
use Rattle.sms_pdu.specs.Frame.{IsFrame, IsBad, Division, HasDivision}
use Rattle.sms_pdu.specs.Reply.{answers, AnswersOf}
use Rattle.sms_pdu.specs.Grammar.{Spells, IsLawful}

-- two divisions of a stream are one
abbrev pub OneDivision : Type 0
OneDivision = (stream : List ℕ) (frames others : List (List ℕ)) (rest left : List ℕ) → Division stream frames rest → Division stream others left → (frames ≡ others) × (rest ≡ left)

-- every stream has a division
abbrev pub EachDivided : Type 0
EachDivided = (stream : List ℕ) → HasDivision stream

-- what two pieces give one after the other is what they give as one
abbrev pub PiecesJoin : Type 0
PiecesJoin = (stream piece : List ℕ) (frames more : List (List ℕ)) (rest left : List ℕ) → Division stream frames rest → Division (rest ++ piece) more left → Division (stream ++ piece) (frames ++ more) left

-- what follows a bad length gives no frame
abbrev pub BadStays : Type 0
BadStays = (rest piece : List ℕ) → IsBad rest → IsBad (rest ++ piece)

-- what comes later only adds frames: those of the rest and what came
abbrev pub LaterAdds : Type 0
LaterAdds = (stream piece : List ℕ) (frames all : List (List ℕ)) (rest left : List ℕ) → Division stream frames rest → Division (stream ++ piece) all left
    → (more : List (List ℕ)) × (all ≡ frames ++ more) × Division (rest ++ piece) more left

-- what follows the first frame divides into the others
abbrev pub OthersFollow : Type 0
OthersFollow = (stream first : List ℕ) (others : List (List ℕ)) (rest : List ℕ) → Division stream (first ∷ others) rest
    → (after : List ℕ) × (stream ≡ first ++ after) × Division after others rest

-- the answers among two lists of frames are those of both, one after the other
abbrev pub AnswersJoin : Type 0
AnswersJoin = (frames more : List (List ℕ)) → answers (frames ++ more) ≡ answers frames ++ answers more

-- every stream has one list of answers
abbrev pub OneListOfAnswers : Type 0
OneListOfAnswers = (stream : List ℕ) → (replies : List Reply) × AnswersOf stream replies × ((others : List Reply) → AnswersOf stream others → others ≡ replies)

-- what comes later only adds answers
abbrev pub AnswersGrow : Type 0
AnswersGrow = (stream piece : List ℕ) (replies all : List Reply) → AnswersOf stream replies → AnswersOf (stream ++ piece) all → (more : List Reply) × (all ≡ replies ++ more)

-- a lawful PDU has one spelling
abbrev pub OneSpelling : Type 0
OneSpelling = (p : Pdu) → IsLawful p → (octets : List ℕ) × Spells p octets × ((others : List ℕ) → Spells p others → others ≡ octets)

-- octets spell one PDU at most
abbrev pub OneReading : Type 0
OneReading = (octets : List ℕ) (p q : Pdu) → Spells p octets → Spells q octets → p ≡ q

-- no spelling begins another
abbrev pub NoPrefix : Type 0
NoPrefix = (p q : Pdu) (octets more : List ℕ) → Spells p octets → Spells q (octets ++ more) → more ≡ []

-- a spelling is a frame
abbrev pub SpellingIsFrame : Type 0
SpellingIsFrame = (p : Pdu) (octets : List ℕ) → Spells p octets → IsFrame octets
