use Rattle.std.proofs.Common.{◌≡◌, None, sym, ◌∙◌, ap, rules, arith}
use Rattle.std.specs.Option.{is_some}
use Rattle.sms_journal.specs.Lawful.{end_in}
use Rattle.sms_journal.proofs.Lists.{got_at}
use Rattle.sms_journal.proofs.Rounds.{ends_here, none_more}
use Rattle.sms_journal.proofs.notes.rounds.end_of.Goals as goal

pub loop-place-preserved : goal.loop-place-preserved
loop-place-preserved c =
    let n = c.index-notes-place.result in
    let there = got_at c.args.notes.now c.loop-place.place n (omega arith) c.index-notes-place.is in
    let none : end_in n ≡ None = search rules in
    none_more c.args.notes.now c.loop-place.place n there none c.loop-place.invariant

pub returns-then-is_some : goal.returns-then-is_some
returns-then-is_some c =
    let n = c.index-notes-place.result in
    let there = got_at c.args.notes.now c.loop-place.place n (omega arith) c.index-notes-place.is in
    record {
      within = omega arith;
      before = c.loop-place.invariant;
      there = λ low. ends_here c.args.notes.now c.loop-place.place n there (ap is_some (sym c.status_in.ensures) ∙ sym c.is_some.ensures ∙ c.if-is_some.true);
    }
