use Rattle.std.proofs.Common.{◌≡◌, ◌∙◌, ◌++◌, List, ℕ, ap, refl, append_assoc}
use Rattle.std.specs.Prelude.{codes, decimal, string_bytes}
use Rattle.std.proofs.lemmas.Result.{on_ok_weaker}
use Rattle.sms_journal.specs.declared.audit.lines.Lines.{Lines}
use Rattle.sms_journal.proofs.LineSteps.{writes_more}
use Rattle.sms_journal.proofs.audit.lines.write_three.Goals as goal

pub returns : goal.returns
returns c =
    let old = c.args.lines.now in
    let mid : Lines = record { text = c.append_number-3.new.text; events = old.events; next = old.next } in
    let front : List ℕ = c.args.word.now ++ decimal c.args.a ++ codes "," ++ decimal c.args.b ++ codes "," ++ decimal c.args.c in
    let text : string_bytes c.append_number-3.new.text ≡ string_bytes old.text ++ front
    = c.in_ok-append_number-3.ensures
    ∙ ap (λ (t : List ℕ). t ++ codes "," ++ decimal c.args.c) (c.in_ok-append_number-2.ensures ∙ ap (λ (t : List ℕ). t ++ codes "," ++ decimal c.args.b) c.in_ok-append_number.ensures)
    ∙ simp append_assoc in
    on_ok_weaker c.end_line.result (writes_more old mid c.end_line.new.lines front (codes "\n") text refl refl) c.end_line.ensures
