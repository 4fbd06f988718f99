use Rattle.std.proofs.Common.{◌≡◌, ◌<◌, ◌+◌, ◌*◌, ◌∙◌, ◌++◌, ◌∷◌, [], List, Some, ℕ, ap, arith, drop, get_or, length, rules, sym}
use Rattle.sms_files.specs.Parameters.{hex_octet, hex_octets}
use Rattle.sms_files.proofs.ParameterTexts.{behind, pair_read}
use Rattle.sms_files.proofs.fields.parameters.octets_of.Goals as goal

pub loop-place-preserved : goal.loop-place-preserved
loop-place-preserved c =
    let ds = c.args.digits.now in
    let i = 2 * c.loop-place.place in
    let octet = c.in-Some.octet in
    let items : c.push.new.list.items ≡ c.loop-place.octets.items ++ octet ∷ [] = search rules in
    let is : hex_octet (get_or ds i 0) (get_or ds (i + 1) 0) ≡ Some octet = search rules in
    let low : i + 1 < length ds = omega (arith, c.loop-place-test.true) in
    record {
      so_far = c.loop-place.invariant.so_far ∙ pair_read c.loop-place.octets.items ds i (i + 1) (2 * (c.loop-place.place + 1)) octet (omega arith) (omega arith) low is
          ∙ ap (λ (l : List ℕ). behind l (hex_octets (drop (2 * (c.loop-place.place + 1)) ds))) (sym items);
      low = omega (arith, low);
    }
