use Rattle.std.proofs.Common.{◌≡◌, ◌+◌, ◌++◌, ◌∷◌, [], ◌∙◌, ap, sym, subst, take, drop, append_assoc, rules}
use Rattle.std.proofs.lemmas.List.{take-append-drop}
use Rattle.sms_journal.specs.Lines.{AreLines, IsLineOf}
use Rattle.sms_journal.proofs.Records.{lines_more}
use Rattle.sms_journal.proofs.text.reader.read_lines.Goals as goal

pub loop-at-preserved : goal.loop-at-preserved
loop-at-preserved c =
    let so = c.loop-at.invariant in
    let line = c.split_at.result.0.now in
    let note = c.in-Some-2.note in
    let here : IsLineOf line note = search rules in
    let pushed : c.push.new.list.items ≡ c.loop-at.notes.items ++ note ∷ [] = search rules in
    let front : line ≡ take (c.in-Some.at + 1) c.loop-at.left.now = search rules in
    let back : c.split_at.result.1.now ≡ drop (c.in-Some.at + 1) c.loop-at.left.now = search rules in
    let both = take-append-drop (c.in-Some.at + 1) c.loop-at.left.now in
    let cut : c.loop-at.left.now ≡ line ++ c.split_at.result.1.now = cc in
    (so.0 ++ line, subst (AreLines (so.0 ++ line)) (sym pushed) (lines_more so.0 line c.loop-at.notes.items note so.1 here), so.2 ∙ ap (λ l. so.0 ++ l) cut ∙ sym (append_assoc so.0 line c.split_at.result.1.now))
