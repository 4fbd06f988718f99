-- What a short message carries of a part.
use Rattle.std.specs.Prelude.{List, map, None}
use Rattle.sms_segment.specs.declared.at_once.ShortMessage.{ShortMessage}
use Rattle.sms_segment.specs.declared.part.Part.{Part}
use Rattle.sms_segment.specs.Part.{short_message, esm_class, data_coding}
use Rattle.sms_message.specs.declared.message.Message.{Message}
use Rattle.sms_message.specs.declared.rules.Rules.{Rules}
use Rattle.sms_message.specs.declared.user_data.UserData.{UserData}
use Rattle.sms_message.specs.Submits.{message_parts}

-- the octets of the part, whether they begin with a header, and which alphabet they are of
abbrev pub user_data : Part → UserData
user_data part = record { esm_class = esm_class part.place; data_coding = data_coding part.coding; short_message = short_message part }

-- of a short message without a header
abbrev pub data_of : ShortMessage → UserData
data_of one = record { esm_class = esm_class None; data_coding = one.data_coding; short_message = one.octets.items }

-- of each part of the message
abbrev pub message_data : Rules → Message → List UserData
message_data rules m = map user_data (message_parts rules m)
