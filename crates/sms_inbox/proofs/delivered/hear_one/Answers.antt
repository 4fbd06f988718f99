use Rattle.std.proofs.Common.{◌≡◌, ◌∙◌, ℕ, List, Some, ap, sym, subst, false, rules, string_bytes}
use Rattle.std.specs.HashMap.{get_by_text}
use Rattle.std.specs.Option.{option_copied}
use Rattle.std.specs.Str.{bytes_eq}
use Rattle.std.proofs.lemmas.Map.Text.{hash_map_updates_text}
use Rattle.sms_inbox.specs.Delivered.{is_over}
use Rattle.sms_inbox.specs.Ids.{receipt_key}
use Rattle.sms_inbox.proofs.Rows.{copied_cond, heard_put}
use Rattle.sms_inbox.proofs.delivered.hear_one.Goals as goal

pub returns : goal.returns
returns c = λ q.
    let k = string_bytes c.in-Some.key in
    let m = c.args.heard.now in
    let sets = hash_map_updates_text k m c.insert.new.self _ c.in_ok-insert.ensures.updates q in
    let key : receipt_key c.args.ids c.args.r.now.id ≡ Some k = search rules in
    let over : is_over (option_copied (get_by_text m k)) ≡ false = subst (λ (b : List ℕ). is_over (option_copied (get_by_text m b)) ≡ false) c.as_str.ensures.value
    (ap is_over (sym c.record_at.ensures) ∙ sym c.is_over.ensures ∙ c.if-is_over.false) in
    heard_put k q (λ p. option_copied (get_by_text m p)) (option_copied (get_by_text c.insert.new.self q)) c.args.r.now (receipt_key c.args.ids c.args.r.now.id) key over (ap option_copied sets ∙ copied_cond (bytes_eq k q) (Some c.args.r) (get_by_text m q))
