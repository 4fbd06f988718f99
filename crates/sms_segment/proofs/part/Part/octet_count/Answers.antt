use Rattle.std.proofs.Common.{◌≡◌, ◌+◌, ◌*◌, length, sym, arith}
use Rattle.std.specs.List.{flat_map}
use Rattle.sms_segment.specs.Part.{header_of, octets_of, short_message}
use Rattle.sms_segment.proofs.PartLemmas.{length-short_message, length-septets, length-big_endian}
use Rattle.sms_segment.proofs.part.Part.octet_count.Goals as goal
use Rattle.sms_segment.proofs.part.Part.octet_count.Goals.{in-Gsm, in-Ucs2}

pub returns : goal.returns
returns c =
    let all : length (short_message c.args.self.now) ≡ length (header_of c.args.self.now.place) + length (flat_map (octets_of c.args.self.now.coding) c.args.self.now.units) = length-short_message c.args.self.now in
    let front : length (header_of c.args.self.now.place) ≡ c.header_len.result = sym c.header_len.ensures in
    elim c.match-self.branch [
      | in-Gsm v ↦
          let rest : length (flat_map (octets_of c.args.self.now.coding) c.args.self.now.units) ≡ length c.args.self.now.units = rw v.in-Gsm.is (length-septets c.args.self.now.units) in
          omega arith
      | in-Ucs2 v ↦
          let rest : length (flat_map (octets_of c.args.self.now.coding) c.args.self.now.units) ≡ length c.args.self.now.units * 2 = rw v.in-Ucs2.is (length-big_endian c.args.self.now.units) in
          omega arith
    ]
