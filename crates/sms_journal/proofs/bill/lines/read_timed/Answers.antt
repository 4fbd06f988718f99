use Rattle.std.proofs.Common.{◌≡◌, ◌+◌, ◌++◌, ◌∷◌, [], ◌∙◌, ap, sym, subst, ℕ, List, take, drop, append_assoc, rules}
use Rattle.std.proofs.lemmas.List.{take-append-drop}
use Rattle.sms_journal.specs.declared.notes.note.Note.{Note}
use Rattle.sms_journal.specs.Lines.{AreLines, IsLineOf}
use Rattle.sms_journal.specs.TimedLines.{AreTimedLines}
use Rattle.sms_journal.proofs.Records.{lines_more}
use Rattle.sms_journal.proofs.TimedReading.{timed_more}
use Rattle.sms_journal.proofs.bill.lines.read_timed.Goals as goal

pub loop-at-preserved : goal.loop-at-preserved
loop-at-preserved c =
    let so = c.loop-at.invariant in
    let line = c.split_at.result.0.now in
    let note = c.in-Some-2.note in
    let here : IsLineOf line note = search rules in
    let timed : c.push.new.list.items ≡ c.loop-at.times.items ++ c.time_of.result ∷ [] = search rules in
    let pushed : c.push-in-Some.new.list.items ≡ c.loop-at.notes.items ++ note ∷ [] = search rules in
    let front : line ≡ take (c.in-Some.at + 1) c.loop-at.left.now = search rules in
    let back : c.split_at.result.1.now ≡ drop (c.in-Some.at + 1) c.loop-at.left.now = search rules in
    let both = take-append-drop (c.in-Some.at + 1) c.loop-at.left.now in
    let cut : c.loop-at.left.now ≡ line ++ c.split_at.result.1.now = cc in
    let lines = timed_more so.0 line c.loop-at.times.items c.loop-at.notes.items c.time_of.result note so.3 here c.time_of.ensures in (
      so.0 ++ line,
      subst (AreLines (so.0 ++ line)) (sym pushed) (lines_more so.0 line c.loop-at.notes.items note so.1 here),
      so.2 ∙ ap (λ l. so.0 ++ l) cut ∙ sym (append_assoc so.0 line c.split_at.result.1.now),
      subst (λ (ns : List Note). AreTimedLines (so.0 ++ line) c.push.new.list.items ns) (sym pushed)
          (subst (λ (ts : List ℕ). AreTimedLines (so.0 ++ line) ts (c.loop-at.notes.items ++ note ∷ [])) (sym timed) lines),
    )
