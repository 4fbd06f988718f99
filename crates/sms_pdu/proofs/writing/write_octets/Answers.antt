use Rattle.std.proofs.Common.{◌-◌, ◌++◌, length, take, drop, sym, ap, subst, ◌∙◌, arith, length-take}
use lib.Seq.{take-add, take-take}
use Rattle.std.specs.Io.KnownBytes.{Appends}
use Rattle.std.proofs.KnownBytes.{Appends-trans}
use Rattle.sms_pdu.proofs.writing.write_octets.Goals as goal

pub loop-at-preserved : goal.loop-at-preserved
loop-at-preserved g c =
    let at = c.loop-at.at in
    let n = c.in-Ok.n in
    let xs = c.args.octets.now in
    let before = c.loop-at.invariant in
    let fits = c.in-Ok.ensures.bound in
    let most = length-take (length xs - at) (drop at xs) in
    let joined = ap (λ l. take at xs ++ l) (take-take n (length xs - at) (drop at xs) (omega arith)) ∙ sym (take-add at n xs) in
    record {
      within = omega arith;
      written = subst (Appends _ _) joined (Appends-trans _ _ _ _ _ before.written c.in-Ok.ensures.bytes);
    }
