use Rattle.std.proofs.Common.{◌≡◌, ◌<◌, ◌^◌, ap, ◌++◌, ◌∷◌, [], None, length, arith}
use Rattle.std.proofs.lemmas.List.{map-append, length-map}
use Rattle.sms_core.specs.declared.request.Request.{Request}
use Rattle.sms_core.specs.Links.{AreLinks, IsGap, names, nowhere}
use Rattle.sms_core.specs.Requests.{Listed, place_of}
use Rattle.sms_core.proofs.Places.{unplaced}
use Rattle.sms_core.proofs.Seeking.{unnamed}
use Rattle.sms_core.proofs.Growing.{links_grown, ends}
use Rattle.sms_core.proofs.requests.Requests.push.Goals as goal

pub invariant_of-self-2 : goal.invariant_of-self-2
invariant_of-self-2 c =
    let old = c.self.inside.list.items in
    let links = c.self.inside.links.items in
    let gap = c.args.gap in
    let next : Request = record { id = gap.id; state = c.args.state } in
    let w : AreLinks (names old) links = c.self.invariant in
    let is : IsGap old links gap = rw (ap (λ (w : Listed). w.list) c.self.view_is, ap (λ (w : Listed). w.links) c.self.view_is) c.requires in
    let none : place_of gap.id old ≡ None = unplaced gap.id old is.new in
    let few : length (names old) < nowhere = omega (arith, w.count, c.in_ok-extend_from_slice.ensures) in
    let short : gap.id < 2 ^ 32 = omega arith in
    let items : c.push.new.self.items ≡ old ++ next ∷ [] = cc (c.in_ok-push.ensures.items, c.in_ok-reserve.ensures.items) in
    let padded : c.extend_from_slice.new.self.items ≡ links ++ ends = c.in_ok-extend_from_slice.ensures.items in
    let len : c.len.result ≡ length (names old) = omega (arith, c.len.ensures, ap (length {A = Request}) c.in_ok-reserve.ensures.items, length-map old (λ (r : Request). r.id)) in
    let grown = links_grown (names old) links gap.id gap.link w few is.inside is.free is.way short (unnamed gap.id old none) in
    rw (items, padded, len, map-append (λ (r : Request). r.id) old (next ∷ [])) grown
