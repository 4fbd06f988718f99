use Rattle.std.proofs.Common.{◌≡◌, ◌≢◌, [], drop, Option, Some, refl, sym, subst, rules}
use Rattle.std.specs.Io.KnownBytes.{Appends}
use Rattle.sms_pdu.specs.Devices.{device}
use Rattle.sms_pdu.specs.Streams.{Stretch, Went, Leaves, early}
use Rattle.sms_pdu.proofs.Streams.{went_map}
use Rattle.sms_centre.specs.declared.serving.Stop.{Stop}
use Rattle.sms_centre.specs.declared.serving.Stop.TheVariants.{WriteFault}
use Rattle.sms_centre.specs.Stops.{Answered, Written, stretch_of}
use Rattle.sms_centre.proofs.Talks.{written_all, uncut}
use Rattle.sms_centre.proofs.centre.Centre.answer_held.Goals as goal

pub returns-in-Some-clause-handled : goal.returns-in-Some-clause-handled
returns-in-Some-clause-handled g c =
    let p = c.args.self.now in
    let q = c.answer_stream-used.new.self in
    let why : Option Stop = Some c.in-Some.stop in
    let a = g.W.Write.contents (device c.args.writer.now) in
    let b = g.W.Write.contents (device c.put.new.self) in
    let out = c.answer_stream-used.new.out.items in
    let held = c.args.buffers.now.held.items in
    let left = drop c.answer_stream-used.result.0 held in
    let ends : c.answer_stream-used.result.1 ≡ why = search rules in
    let went : Went (Answered p q why [] out) held left = search rules in
    let wrote : Appends a b out = search rules in
    let other : why ≢ Some WriteFault = search rules in
    let stands : stretch_of why ≡ early = search rules in
    (left, went_map (Answered p q why [] out) (Written p q why a b) held left (λ fs x. written_all p q why why a b out fs refl (uncut why other) x wrote) went, subst (λ (s : Stretch). Leaves s left c.drop_front.new.octets.items) (sym stands) tt)
