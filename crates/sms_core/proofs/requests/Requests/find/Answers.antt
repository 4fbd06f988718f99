use Rattle.std.proofs.Common.{◌≡◌, ℕ, ◌∙◌, ap, sym, arith, get_or, slice_get, Some}
use Rattle.sms_core.specs.declared.request.Request.{Request}
use Rattle.sms_core.specs.Requests.{Listed, place_of}
use Rattle.sms_core.specs.State.{find_request}
use Rattle.sms_core.proofs.Places.{place_below, place_named, find_placed, slice_get-in}
use Rattle.sms_core.proofs.requests.Requests.find.Goals as goal

pub index-requires : goal.index-requires
index-requires c =
    let l = c.self.inside.list in
    let is : place_of c.args.id l.items ≡ Some c.in-Ok.place = rw c.deref.ensures.value at c.in-Ok.ensures.found in
    let below = place_below c.args.id l.items c.in-Ok.place is in
    omega arith

pub returns-in-Ok-clause-at : goal.returns-in-Ok-clause-at
returns-in-Ok-clause-at c =
    let l = c.self.inside.list in
    let is : place_of c.args.id l.items ≡ Some c.in-Ok.place = rw c.deref.ensures.value at c.in-Ok.ensures.found in
    let r = c.index.result.now in
    let at : get_or l.items c.in-Ok.place r ≡ r = sym c.index.ensures in
    let named = ap (λ (x : Request). x.id) (sym at) ∙ place_named c.args.id l.items c.in-Ok.place r is in (
      ap (λ (w : Listed). place_of r.id w.list) (sym c.self.view_is) ∙ ap (λ (i : ℕ). place_of i l.items) named ∙ is,
      ap (λ (w : Listed). slice_get w.list c.in-Ok.place) (sym c.self.view_is) ∙ slice_get-in l.items c.in-Ok.place r (place_below c.args.id l.items c.in-Ok.place is) at,
    )

pub returns-in-Ok-clause-named : goal.returns-in-Ok-clause-named
returns-in-Ok-clause-named c =
    let l = c.self.inside.list in
    let is : place_of c.args.id l.items ≡ Some c.in-Ok.place = rw c.deref.ensures.value at c.in-Ok.ensures.found in
    ap (λ (x : Request). x.id) c.index.ensures ∙ place_named c.args.id l.items c.in-Ok.place c.index.result.now is

pub returns-in-Ok-clause-state : goal.returns-in-Ok-clause-state
returns-in-Ok-clause-state c =
    let l = c.self.inside.list in
    let is : place_of c.args.id l.items ≡ Some c.in-Ok.place = rw c.deref.ensures.value at c.in-Ok.ensures.found in
    ap (λ (w : Listed). find_request c.args.id w.list) (sym c.self.view_is) ∙ find_placed c.args.id l.items c.in-Ok.place c.index.result.now is
    ∙ ap (λ (x : Request). Some x.state) (sym c.index.ensures)
