use Rattle.toml.specs.Data.{get_member}
use Rattle.toml.specs.View.{table_view}
use Rattle.sms_files.specs.SubmitFields.{time_in}
use Rattle.sms_files.proofs.FieldKeys.{still_told}
use Rattle.sms_files.proofs.Keys.{told}
use Rattle.sms_files.proofs.TimeTexts.{read_room, time_read, time_unread}
use Rattle.sms_files.proofs.fields.times.time_at.Goals as goal

pub returns-in-Err-clause-refused : goal.returns-in-Err-clause-refused
returns-in-Err-clause-refused c = still_told (table_view c.args.table.now) c.args.key.now _ _ c.in-Err.fault c.in-Err.ensures.refused

pub returns-then-is_time_text-clause-time : goal.returns-then-is_time_text-clause-time
returns-then-is_time_text-clause-time c = time_read (get_member c.args.key.now (table_view c.args.table.now)) c.in-Ok.text c.as_slice.result.now c.is_time_text.result c.in-Ok.ensures.octets c.as_slice.ensures c.is_time_text.ensures c.if-is_time_text.true

pub returns-then-is_time_text-clause-room : goal.returns-then-is_time_text-clause-room
returns-then-is_time_text-clause-room c = read_room c.in-Ok.text c.as_slice.result.now c.is_time_text.result c.in-Ok.ensures.fits c.as_slice.ensures c.is_time_text.ensures c.if-is_time_text.true

pub returns-clause-refused : goal.returns-clause-refused
returns-clause-refused c =
    told (table_view c.args.table.now) c.args.key.now (time_in (get_member c.args.key.now (table_view c.args.table.now))) c.bad_key.result
    (time_unread (get_member c.args.key.now (table_view c.args.table.now)) c.in-Ok.text c.as_slice.result.now c.is_time_text.result c.in-Ok.ensures.octets c.as_slice.ensures c.is_time_text.ensures c.if-is_time_text.false) c.bad_key.ensures
