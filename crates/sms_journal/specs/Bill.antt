-- What a business bills from: the parts of a run's messages, with their accounts, costs, outcomes and times; and those that nobody
-- knows to be delivered or lost, with their texts.
use Rattle.std.specs.Prelude.{ℕ, ◌+◌, ◌-◌, List, [], ◌∷◌, ◌++◌, length, Option, Some, None, slice_get, flat_map, string_bytes, codes, decimal, if◌then◌else◌, String}
use Rattle.std.specs.declared.alloc.Global.{Global}
use Rattle.sms_book.specs.declared.opening.Opening.{Opening}
use Rattle.sms_pdu.specs.declared.reply.Reply.{Reply}
use Rattle.sms_message.specs.declared.message.Message.{Message}
use Rattle.sms_message.specs.declared.ends.Attempt.{Attempt}
use Rattle.sms_message.specs.declared.ends.SegmentEnd.{SegmentEnd}
use Rattle.sms_message.specs.declared.ends.MessageEnd.{MessageEnd}
use Rattle.sms_message.specs.declared.ends.Outcome.{Outcome}
use Rattle.sms_message.specs.Names.{outcome_name}
use Rattle.sms_files.specs.Report.{field_text, is_unanswered, shown_id}
use Rattle.sms_journal.specs.declared.notes.note.Note.{Note}
use Rattle.sms_journal.specs.declared.bill.listing.Listing.{Listing}
use Rattle.sms_journal.specs.declared.bill.listing.Listing.TheVariants.{Bill, Doubtful}
use Rattle.sms_journal.specs.declared.bill.listing.Columns.{Columns}
use Rattle.sms_journal.specs.declared.bill.listing.Columns.TheVariants.{Usual, WithRefs}
use Rattle.sms_journal.specs.declared.bill.moments.Moments.{Moments}
use Rattle.sms_journal.specs.Instants.{moment_field}
use Rattle.sms_journal.specs.Moments.{moments_of}
use Rattle.sms_journal.specs.Sums.{parts_in}
use Rattle.sms_journal.specs.Text.{number_field}

-- ---- parts

-- what is listed of a part
pub record Billed : Type 0 where
  pub message : ℕ
  pub part : ℕ
  -- the account's name
  pub account : List ℕ
  pub source : List ℕ
  pub dest : List ℕ
  -- the message's text
  pub text : List ℕ
  pub cost : ℕ
  pub outcome : Outcome
  -- the answer to its last request
  pub reply : Option Reply
  pub moments : Moments

-- the name of an account in its place
abbrev pub name_in : Option Opening → List ℕ
name_in None = []
name_in (Some opening) = string_bytes opening.name

abbrev pub account_name : List Opening → Option ℕ → List ℕ
account_name openings None = []
account_name openings (Some account) = name_in (slice_get openings account)

abbrev pub reply_in : Option (Attempt (Unit {0})) → Option Reply
reply_in None = None
reply_in (Some attempt) = attempt.reply

abbrev pub last_reply : List (Attempt (Unit {0})) → Option Reply
last_reply attempts = reply_in (slice_get attempts (length attempts - 1))

abbrev pub billed_part : List Opening → Message → ℕ → SegmentEnd (Unit {0}) → Moments → Billed
billed_part openings m p s moments = record {
  message = m.index;
  part = p;
  account = account_name openings m.account;
  source = string_bytes m.source;
  dest = string_bytes m.dest;
  text = string_bytes m.text;
  cost = s.cost;
  outcome = s.outcome;
  reply = last_reply s.attempts;
  moments = moments;
}

-- the parts of a message, from this number on
abbrev pub billed_parts : List Opening → List ℕ → List Note → Message → ℕ → List (SegmentEnd (Unit {0})) → List Billed
billed_parts openings times notes m p [] = []
billed_parts openings times notes m p (s ∷ ss) = billed_part openings m p s (moments_of times notes m.index p) ∷ billed_parts openings times notes m (p + 1) ss

-- the parts of all messages; parts count from 1
abbrev pub billed : List Opening → List ℕ → List Note → List Message → List (MessageEnd (Unit {0})) → List Billed
billed openings times notes [] es = []
billed openings times notes (m ∷ ms) [] = []
billed openings times notes (m ∷ ms) (e ∷ es) = billed_parts openings times notes m 1 (parts_in e.result) ++ billed openings times notes ms es

-- ---- lines

abbrev pub next_field : List ℕ → List ℕ
next_field field = codes "," ++ field_text field

-- the status and the message_id of an answer, and nothing of none
abbrev pub reply_fields : Option Reply → List ℕ
reply_fields None = codes ",,"
reply_fields (Some reply) = number_field reply.status ++ next_field (shown_id reply.id)

-- which part it is, who pays, and where it goes
abbrev pub part_text : Billed → List ℕ
part_text b = decimal b.message ++ number_field b.part ++ next_field b.account ++ next_field b.source ++ next_field b.dest

-- what it costs, and what became of it
abbrev pub ended_text : Billed → List ℕ
ended_text b = number_field b.cost ++ codes "," ++ outcome_name b.outcome ++ reply_fields b.reply ++ moment_field b.moments.sent ++ moment_field b.moments.heard ++ codes "\n"

-- what it costs, when it was sent and what it says
abbrev pub doubted_text : Billed → List ℕ
doubted_text b = number_field b.cost ++ moment_field b.moments.sent ++ next_field b.text ++ codes "\n"

-- the sender's own reference of a message, and nothing of a message that has none
abbrev pub ref_text : Option (String Global) → List ℕ
ref_text None = []
ref_text (Some ref) = string_bytes ref

abbrev pub ref_of : List (String Global) → ℕ → List ℕ
ref_of refs message = ref_text (slice_get refs message)

-- the same two without the end of the line, and the end with a message's reference before it
abbrev pub ended_fields : Billed → List ℕ
ended_fields b = number_field b.cost ++ codes "," ++ outcome_name b.outcome ++ reply_fields b.reply ++ moment_field b.moments.sent ++ moment_field b.moments.heard

abbrev pub doubted_fields : Billed → List ℕ
doubted_fields b = number_field b.cost ++ moment_field b.moments.sent ++ next_field b.text

abbrev pub ref_end : List (String Global) → ℕ → List ℕ
ref_end refs message = next_field (ref_of refs message) ++ codes "\n"

-- a line for each part of a bill, and for each that is in doubt
abbrev pub line_of : Listing → Billed → List ℕ
line_of Bill b = part_text b ++ ended_text b
line_of Doubtful b = if is_unanswered b.outcome then part_text b ++ doubted_text b else []

-- the same with references
abbrev pub line_with : Listing → List (String Global) → Billed → List ℕ
line_with Bill refs b = part_text b ++ ended_fields b ++ ref_end refs b.message
line_with Doubtful refs b = if is_unanswered b.outcome then part_text b ++ doubted_fields b ++ ref_end refs b.message else []

abbrev pub line_in : Columns → Billed → List ℕ
line_in (Usual listing) b = line_of listing b
line_in (WithRefs listing refs) b = line_with listing refs.now b

abbrev pub listing_header : Listing → List ℕ
listing_header Bill = codes "message,part,account,source,destination,cost,outcome,status,id,sent,heard\n"
listing_header Doubtful = codes "message,part,account,source,destination,cost,sent,text\n"

abbrev pub refs_header : Listing → List ℕ
refs_header Bill = codes "message,part,account,source,destination,cost,outcome,status,id,sent,heard,ref\n"
refs_header Doubtful = codes "message,part,account,source,destination,cost,sent,text,ref\n"

abbrev pub header_in : Columns → List ℕ
header_in (Usual listing) = listing_header listing
header_in (WithRefs listing refs) = refs_header listing

-- what is printed of the parts of messages, by their ends and by notes with their times
abbrev pub listing_of : Columns → List Opening → List ℕ → List Note → List Message → List (MessageEnd (Unit {0})) → List ℕ
listing_of listing openings times notes ms es = header_in listing ++ flat_map (line_in listing) (billed openings times notes ms es)
