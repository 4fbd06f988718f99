use Rattle.std.proofs.Common.{rules, ◌≡◌, Some, None, nat_eq, sym, ap, ◌∙◌}
use Rattle.std.specs.Prelude.{if◌then◌else◌, ◌==◌}
use Rattle.std.specs.HashMap.{get}
use Rattle.sms_journal.proofs.DenseMaps.{row_put}
use Rattle.sms_journal.proofs.notes.dense_map.put_in.Goals as goal

pub returns-in_ok-put_map-in-None : goal.returns-in_ok-put_map-in-None
returns-in_ok-put_map-in-None g c = λ r q.
    let none : get nat_eq c.args.maps.now c.args.row ≡ None = search rules in
    let stays : get nat_eq c.get_mut.follows.lender-at-none r ≡ get nat_eq c.args.maps.now r = ap (λ m. get nat_eq m r) c.get_mut.follows.holds-at-none in
    row_put c.args.row c.args.key r q c.args.value c.in_ok-map-in-None.map (get nat_eq c.args.maps.now r) (get nat_eq c.put_map.new.maps r) (λ same. ap (λ k. get nat_eq c.args.maps.now k) (sym same) ∙ none) c.in_ok-map-in-None.ensures
    (c.in_ok-put_map-in-None.ensures r ∙ ap (λ o. if c.args.row == r then Some c.in_ok-map-in-None.map else o) stays)
