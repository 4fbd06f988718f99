use Rattle.std.proofs.Common.{refl, rules}
use Rattle.std.proofs.Math.Seq.{map-set_same}
use Rattle.rtrb.specs.Ring.{sent, known_free}
use Rattle.sms_slot.proofs.Rings.{same_rings, set_ring, map_set_pushed, map_past, none_free, room_taken, room_given_back}
use Rattle.sms_slot.proofs.slot.push_reply.Goals as goal

pub returns-then-place-producers-clause-rings : goal.returns-then-place-producers-clause-rings
returns-then-place-producers-clause-rings c = same_rings c.args.producers.now

pub returns-then-place-producers-clause-given_back : goal.returns-then-place-producers-clause-given_back
returns-then-place-producers-clause-given_back c = λ e. (map_past known_free c.args.producers.now c.args.place (search rules), refl)

pub returns-in-Ok-clause-rings : goal.returns-in-Ok-clause-rings
returns-in-Ok-clause-rings c = set_ring c.args.producers.now c.args.place c.index-producers-place.result c.push.new.self (search rules) c.push.ensures.ring

pub returns-in-Ok-clause-sent : goal.returns-in-Ok-clause-sent
returns-in-Ok-clause-sent c = map_set_pushed sent c.args.producers.now c.args.place c.index-producers-place.result c.push.new.self c.args.reply (search rules) c.in-Ok.ensures.ok.0

pub returns-in-Ok-clause-taken : goal.returns-in-Ok-clause-taken
returns-in-Ok-clause-taken c = λ e. room_taken known_free c.args.producers.now c.args.place c.index-producers-place.result c.push.new.self (search rules) c.in-Ok.ensures.ok.1

pub returns-in-Err-clause-rings : goal.returns-in-Err-clause-rings
returns-in-Err-clause-rings c = set_ring c.args.producers.now c.args.place c.index-producers-place.result c.push.new.self (search rules) c.push.ensures.ring

pub returns-in-Err-clause-sent : goal.returns-in-Err-clause-sent
returns-in-Err-clause-sent c = map-set_same sent c.args.producers.now c.args.place c.push.new.self c.index-producers-place.result c.in-Err.ensures.full.1

pub returns-in-Err-clause-given_back : goal.returns-in-Err-clause-given_back
returns-in-Err-clause-given_back c = λ e.
    let (given_back, sent_none, none_left) = c.in-Err.ensures.full in
    room_given_back known_free c.args.producers.now c.args.place c.index-producers-place.result c.push.new.self (search rules) (none_free _ (λ more. let full = c.in-Err.ensures.succeeds more in cc)) none_left
