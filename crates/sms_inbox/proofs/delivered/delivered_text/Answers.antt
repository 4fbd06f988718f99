use Rattle.std.proofs.Common.{◌≡◌, List, ℕ, subst, string_bytes}
use Rattle.std.specs.HashMap.{get_by_text}
use Rattle.std.specs.Option.{option_copied}
use Rattle.sms_inbox.specs.Delivered.{delivered_text, found, heard}
use Rattle.sms_inbox.specs.Escape.{AreOctets}
use Rattle.sms_inbox.specs.Ids.{answer_key}
use Rattle.sms_inbox.proofs.Hearing.{found_kept}
use Rattle.sms_inbox.proofs.Rows.{row_more}
use Rattle.sms_inbox.proofs.delivered.delivered_text.Goals as goal

pub loop-part-preserved : goal.loop-part-preserved
loop-part-preserved g c =
    let p = c.part-item.result in
    let ids = c.args.ids in
    let records = c.args.records.now in
    let time_text = g.T.WritesTime.time_text c.args.times.now in
    let id = c.as_slice.ensures.unchanged in
    let low : AreOctets p.id = subst AreOctets id c.heard_of.ensures.octets in
    let at_key : option_copied c.in_ok-found.found ≡ found (answer_key ids p.id) (λ q. option_copied (get_by_text c.in_ok-heard.heard q)) =
    subst (λ (i : List ℕ). option_copied c.in_ok-found.found ≡ found (answer_key ids i) (λ q. option_copied (get_by_text c.in_ok-heard.heard q))) id c.in_ok-found.ensures.found
    in
    let told : option_copied c.in_ok-found.found ≡ heard ids records p.id =
    found_kept ids p.id records (λ q. option_copied (get_by_text c.in_ok-heard.heard q)) (option_copied c.in_ok-found.found) c.in_ok-heard.ensures.heard c.in_ok-heard.ensures.octets low at_key
    in
    row_more time_text ids records c.args.parts.now p c.loop-part.part-index (string_bytes c.loop-part.text) (string_bytes c.write_row.new.text) (delivered_text time_text ids records c.args.parts.now) (option_copied c.in_ok-found.found)
    c.loop-part-test.true c.part-item.is told c.in_ok-write_row.ensures c.loop-part.invariant
