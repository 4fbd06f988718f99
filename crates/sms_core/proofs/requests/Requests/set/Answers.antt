use Rattle.std.proofs.Common.{◌≡◌, ◌∙◌, ap, sym, Some, arith}
use Rattle.std.proofs.Math.Seq.{map-set_same}
use Rattle.sms_core.specs.declared.request.Request.{Request}
use Rattle.sms_core.specs.Requests.{Listed, place_of}
use Rattle.sms_core.proofs.Places.{place_below, place_named}
use Rattle.sms_core.proofs.requests.Requests.set.Goals as goal

pub index_mut-requires : goal.index_mut-requires
index_mut-requires c =
    let is : place_of c.args.request.id c.self.inside.list.items ≡ Some c.args.place = ap (λ (w : Listed). place_of c.args.request.id w.list) c.self.view_is ∙ c.requires in
    let below = place_below c.args.request.id c.self.inside.list.items c.args.place is in
    omega arith

pub invariant_of-self : goal.invariant_of-self
invariant_of-self c =
    let is : place_of c.args.request.id c.self.inside.list.items ≡ Some c.args.place = ap (λ (w : Listed). place_of c.args.request.id w.list) c.self.view_is ∙ c.requires in
    let named = place_named c.args.request.id c.self.inside.list.items c.args.place c.args.request is in
    rw (map-set_same (λ (r : Request). r.id) c.self.inside.list.items c.args.place c.args.request c.args.request (sym named)) c.self.invariant
