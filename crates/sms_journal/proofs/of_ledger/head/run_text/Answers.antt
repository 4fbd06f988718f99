use Rattle.std.proofs.Common.{◌≡◌, ◌∙◌, ◌++◌, ℕ, List, Some, None, sym, ap, rules}
use Rattle.sms_journal.specs.OfLedger.{run_line}
use Rattle.sms_journal.specs.RunHeads.{run_said, size_said}
use Rattle.sms_journal.proofs.RunHeads.{not_so, without_run, without_size, written_otherwise}
use Rattle.sms_journal.proofs.of_ledger.head.run_text.Goals as goal

pub returns-in_default : goal.returns-in_default
returns-in_default c =
    let text = c.args.text.now in
    let none : size_said text ≡ None = search rules in
    without_size text (not_so c.is_cut_line.result c.is_cut_line.ensures c.if-is_cut_line.false) none

pub returns-in_default-2 : goal.returns-in_default-2
returns-in_default-2 c =
    let text = c.args.text.now in
    let none : run_said text ≡ None = search rules in
    without_run text (not_so c.is_cut_line.result c.is_cut_line.ensures c.if-is_cut_line.false) none

pub returns : goal.returns
returns c =
    let text = c.args.text.now in
    let run = c.in-Some-2.run' in
    let size = c.in-Some.size in
    let said : run_said text ≡ Some run = search rules in
    let sized : size_said text ≡ Some size = search rules in
    let line : c.as_bytes.result.now ≡ run_line run size = search rules in
    written_otherwise text run size (not_so c.is_cut_line.result c.is_cut_line.ensures c.if-is_cut_line.false) said sized (λ rest is. c.in-None.ensures rest (is ∙ ap (λ (l : List ℕ). l ++ rest) (sym line)))
