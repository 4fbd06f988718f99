use Rattle.std.proofs.Common.{rules, ◌≡◌, List, subst, sym, take, arith}
use Rattle.sms_journal.specs.declared.notes.note.Note.{Note}
use Rattle.sms_journal.specs.Lawful.{IsFirstOff, IsRound}
use Rattle.sms_journal.specs.Seen.{Sees}
use Rattle.sms_files.proofs.Lists.{take_whole}
use Rattle.sms_journal.proofs.Lists.{got_at, some_of, take_snoc}
use Rattle.sms_journal.proofs.Seeing.{round_more, sees_more}
use Rattle.sms_journal.proofs.notes.checking.check_round.Goals as goal

pub loop-place-preserved : goal.loop-place-preserved
loop-place-preserved c =
    let there = got_at c.args.notes.now c.loop-place.place c.index-notes-place.result (omega arith) c.index-notes-place.is in
    let front = take c.loop-place.place c.args.notes.now in
    let more = take_snoc c.args.notes.now c.loop-place.place c.index-notes-place.result there in
    let may = some_of _ c.in_ok-found.found c.in-Some.count c.in-Some.is (c.in_ok-found.ensures.admitted) in
    let counts = some_of _ c.in_ok-found.found c.in-Some.count c.in-Some.is c.in_ok-found.ensures.count in
    record {
      sees = subst (λ (l : List Note). Sees c.args.rules.now c.args.size c.args.messages.now l c.keep.new.seen) (sym more)
          (sees_more c.args.rules.now c.args.size c.args.messages.now c.args.given.now.indexes.items front c.index-notes-place.result c.in-Some.count c.loop-place.seen c.keep.new.seen c.in_ok-keep.ensures c.loop-place.invariant.sees may counts);
      round = subst (λ (l : List Note). IsRound c.args.rules.now c.args.size c.args.messages.now c.args.given.now.indexes.items l) (sym more)
          (round_more c.args.rules.now c.args.size c.args.messages.now c.args.given.now.indexes.items front c.index-notes-place.result c.loop-place.invariant.round may);
    }

pub returns-in_default-clause-faulty : goal.returns-in_default-clause-faulty
returns-in_default-clause-faulty c = λ k is.
    let there = got_at c.args.notes.now c.loop-place.place c.index-notes-place.result (omega arith) c.index-notes-place.is in
    let same : c.loop-place.place ≡ k = cc in
    subst (IsFirstOff c.args.rules.now c.args.size c.args.messages.now c.args.given.now.indexes.items c.args.notes.now) same
    (record { front = c.loop-place.invariant.round; note = c.index-notes-place.result; there = there; refused = c.in_ok-found.ensures.refused (search rules) })

pub returns-clause-lawful : goal.returns-clause-lawful
returns-clause-lawful c = subst (λ (l : List Note). IsRound c.args.rules.now c.args.size c.args.messages.now c.args.given.now.indexes.items l) (take_whole c.args.notes.now c.loop-place.place (omega arith)) c.loop-place.invariant.round

pub loop-place-init : goal.loop-place-init
loop-place-init c = record { sees = c.nothing_seen-seen.ensures c.args.rules.now c.args.size c.args.messages.now; round = λ k n there. absurd (cc) }
