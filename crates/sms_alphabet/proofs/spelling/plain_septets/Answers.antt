use Rattle.std.proofs.Common.{rules, arith, refl, sym, ap, ◌∙◌}
use Rattle.std.proofs.lemmas.List.{take_all}
use Rattle.sms_alphabet.specs.Spelling.{gsm_spelling}
use Rattle.sms_alphabet.proofs.Plain.{plain_chars, spelled_more}
use Rattle.sms_alphabet.proofs.spelling.plain_septets.Goals as goal

pub loop-octet-preserved : goal.loop-octet-preserved
loop-octet-preserved c =
    let (spelled, count, room) = c.loop-octet.invariant in
    let kept = c.push_reserved.ensures.capacity in (
      rw c.push_reserved.ensures.items
          (spelled_more c.args.text.now c.loop-octet.codes.items c.loop-octet.octet-index _ c.plain_code.result c.loop-octet-test.true refl c.plain_code.ensures spelled),
      search rules,
      omega arith,
    )

pub returns : goal.returns
returns c =
    let (spelled, count, room) = c.loop-octet.invariant in
    spelled ∙ ap gsm_spelling (take_all c.loop-octet.octet-index c.args.text.now c.loop-octet-test.false ∙ sym (plain_chars c.args.text.now c.requires))
