use Rattle.std.proofs.Common.{◌≡◌, ◌∙◌, length, arith, rules}
use Rattle.std.proofs.lemmas.List.{length-set}
use Rattle.sms_journal.proofs.DigestTexts.{all_octets, digest_read, more_octets}
use Rattle.sms_journal.proofs.text.header_fields.digest_in.Goals as goal

pub loop-place-preserved : goal.loop-place-preserved
loop-place-preserved c =
    let field = c.args.field.now in
    let long : length field ≡ 64 = search rules in
    let so = c.loop-place.invariant in (
      length-set c.loop-place.digest c.loop-place.place c.octet_at.result ∙ so.0,
      rw c.octet_at.ensures (more_octets field c.loop-place.digest c.loop-place.place long so.0 (omega arith) so.1),
    )

pub returns : goal.returns
returns c =
    let field = c.args.field.now in
    let long : length field ≡ 64 = search rules in
    let so = c.loop-place.invariant in
    digest_read field c.loop-place.digest long (all_octets field c.loop-place.digest c.loop-place.place long so.0 (omega arith) so.1)
