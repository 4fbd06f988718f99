-- How many octets a part has.
use Rattle.std.proofs.Common.{◌≡◌, ℕ, ◌+◌, ◌*◌, List, [], ◌∷◌, length, refl, ap, arith, length-append}
use Rattle.std.specs.List.{flat_map}
use Rattle.sms_alphabet.specs.declared.coded.Coding.TheVariants.{Gsm, Ucs2}
use Rattle.sms_segment.specs.declared.part.Part.{Part}
use Rattle.sms_segment.specs.Part.{header_of, octets_of, short_message}

pub length-septets : (units : List ℕ) → length (flat_map (octets_of Gsm) units) ≡ length units
length-septets [] = refl
length-septets (unit ∷ units) = omega (arith, length-septets units)

-- septets are carried as they are
pub septets_are_octets : (units : List ℕ) → flat_map (octets_of Gsm) units ≡ units
septets_are_octets [] = refl
septets_are_octets (unit ∷ units) = ap (λ l. unit ∷ l) (septets_are_octets units)

pub length-big_endian : (units : List ℕ) → length (flat_map (octets_of Ucs2) units) ≡ length units * 2
length-big_endian [] = refl
length-big_endian (unit ∷ units) = omega (arith, length-big_endian units)

pub length-short_message : (part : Part) → length (short_message part) ≡ length (header_of part.place) + length (flat_map (octets_of part.coding) part.units)
length-short_message part = length-append (header_of part.place) (flat_map (octets_of part.coding) part.units)
