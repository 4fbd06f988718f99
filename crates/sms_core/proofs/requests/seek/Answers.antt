use Rattle.std.proofs.Common.{◌≡◌, ℕ, suc, ◌+◌, ◌*◌, ◌/◌, ◌%◌, ◌<◌, ◌≤◌, ◌^◌, ap, ◌∙◌, refl, sym, arith, length, get_or, None}
use Rattle.std.proofs.lemmas.List.{get_or_default, length-map}
use Rattle.sms_core.specs.declared.request.Request.{Request}
use Rattle.sms_core.specs.Links.{names, lead, link_at, rest_of, place_at, nowhere, most_turns}
use Rattle.sms_core.specs.Requests.{place_of}
use Rattle.sms_core.proofs.Links.{whole}
use Rattle.sms_core.proofs.Places.{find_unplaced}
use Rattle.sms_core.proofs.Seeking.{passes_more, ends_nowhere, ends_at, after_all, name_of}
use Rattle.sms_core.proofs.requests.seek.Goals as goal

pub returns-then-place-clause-gap : goal.returns-then-place-clause-gap
returns-then-place-clause-gap c =
    let rs = c.args.list.now in
    let links = c.args.links.now in
    let inv = c.loop-turn.invariant in
    let few : length (names rs) < nowhere = omega (arith, c.requires.count) in
    let free : lead links c.loop-turn.link ≡ nowhere = sym (get_or_default links c.loop-turn.link 0 nowhere inv.inside) ∙ c.if-place.true in
    let none : place_of c.args.id rs ≡ None = ends_nowhere rs links c.requires few c.args.id c.loop-turn._turn inv.passed (ap (lead links) (sym inv.at) ∙ free) in
    record {
      new = find_unplaced c.args.id rs none;
      inside = inv.inside;
      free = free;
      way = record { turns = c.loop-turn._turn; few = let h : c.loop-turn._turn ≤ most_turns = omega arith in h; there = sym inv.at };
    }

pub returns-then-list-place-clause-found : goal.returns-then-list-place-clause-found
returns-then-list-place-clause-found c =
    let rs = c.args.list.now in
    let links = c.args.links.now in
    let q = get_or links c.loop-turn.link 0 in
    let read : q ≡ lead links c.loop-turn.link = get_or_default links c.loop-turn.link 0 nowhere c.loop-turn.invariant.inside in
    let lt : q < length (names rs) = rw read (c.requires.real c.loop-turn.link (λ z. c.if-place.false (read ∙ z))) in
    let below : q < length rs = omega (arith, lt, length-map rs (λ (r : Request). r.id)) in
    ends_at rs links c.requires c.args.id q lt (name_of rs q _ below ∙ c.if-list-place.true)

pub unreachable-requires : goal.unreachable-requires
unreachable-requires c =
    let w = c.requires in
    let last = c.loop-turn.invariant.passed most_turns (omega arith) in
    last.1 (after_all w c.args.id (whole c.args.id (let h : c.args.id < 2 ^ 32 = omega arith in h)) last.0)

pub loop-turn-preserved : goal.loop-turn-preserved
loop-turn-preserved c =
    let rs = c.args.list.now in
    let links = c.args.links.now in
    let inv = c.loop-turn.invariant in
    let q = get_or links c.loop-turn.link 0 in
    let read : q ≡ lead links c.loop-turn.link = get_or_default links c.loop-turn.link 0 nowhere inv.inside in
    let lt : q < length (names rs) = rw read (c.requires.real c.loop-turn.link (λ z. c.if-place.false (read ∙ z))) in
    let below : q < length rs = omega (arith, lt, length-map rs (λ (r : Request). r.id)) in
    let at : q ≡ place_at (lead links) c.loop-turn._turn c.args.id = read ∙ ap (lead links) inv.at in
    let next : suc c.loop-turn._turn ≡ c.loop-turn._turn + 1 = omega arith in
    record {
      inside = omega (arith, c.requires.count, lt);
      at = (λ j. 8 * at j + 2048 + inv.left j % 8) ∙ ap (λ (u : ℕ). link_at (lead links) u c.args.id) next;
      left = ap (λ (n : ℕ). n / 8) inv.left ∙ ap (λ (u : ℕ). rest_of u c.args.id) next;
      passed = passes_more (names rs) links c.args.id c.loop-turn._turn q at lt (λ is. c.if-list-place.false (sym (name_of rs q _ below) ∙ is)) inv.passed;
    }

pub loop-turn-init : goal.loop-turn-init
loop-turn-init c = record { inside = omega (arith, c.requires.count); at = refl; left = refl; passed = λ t low. absurd (omega arith) }
