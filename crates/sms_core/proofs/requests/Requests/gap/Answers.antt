use Rattle.std.proofs.Common.{◌≡◌, Some, ap, sym, ◌∙◌, is_some, not}
use Rattle.sms_core.specs.Requests.{Listed, place_of}
use Rattle.sms_core.specs.State.{find_request}
use Rattle.sms_core.proofs.Places.{found_placed}
use Rattle.sms_core.proofs.requests.Requests.gap.Goals as goal

pub returns-in-Ok-clause-exists : goal.returns-in-Ok-clause-exists
returns-in-Ok-clause-exists c =
    let l = c.self.inside.list in
    let is : place_of c.args.id l.items ≡ Some c.in-Ok.field-0 = rw c.deref.ensures.value at c.in-Ok.ensures.found in
    sym (ap not (ap (λ (w : Listed). is_some (find_request c.args.id w.list)) (sym c.self.view_is) ∙ found_placed c.args.id l.items c.in-Ok.field-0 is))
