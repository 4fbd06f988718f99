use Rattle.std.proofs.Common.{◌≡◌, ◌++◌, ◌∷◌, [], sym, subst, length, string_bytes, rules}
use Rattle.std.specs.HashMap.{get_by_text}
use Rattle.std.proofs.lemmas.Map.Text.{hash_map_updates_text}
use Rattle.sms_ledger.specs.declared.entry.Stand.TheVariants.{Out}
use Rattle.sms_ledger.specs.Kept.{ArePlaces}
use Rattle.sms_ledger.proofs.Places.{places_pushed}
use Rattle.sms_ledger.proofs.booking.stakes.add_stake.Goals as goal

pub returns-in-Ok-clause-found : goal.returns-in-Ok-clause-found
returns-in-Ok-clause-found c =
    let t = c.args.t.now in
    let key : string_bytes c.in_ok-key.key ≡ t.of.run ++ t.of.account = search rules in
    let items : c.push.new.list.items ≡ c.args.taken.now.items ++ record { of = t.of; stand = Out t.credits } ∷ [] = search rules in
    let long : length t.of.run ≡ 32 = search rules in
    let place : c.len-place.result ≡ length c.args.taken.now.items = search rules in
    subst (ArePlaces (λ k. get_by_text c.insert.new.map k)) (sym items)
    (places_pushed (λ k. get_by_text c.args.places.now k) (λ k. get_by_text c.insert.new.map k) c.args.taken.now.items (record { of = t.of; stand = Out t.credits }) c.requires.found long c.requires.new
    (λ q. (rw (key, place) at (hash_map_updates_text (string_bytes c.in_ok-key.key) c.args.places.now c.insert.new.map _ c.in-Ok.ensures.updates q))))
