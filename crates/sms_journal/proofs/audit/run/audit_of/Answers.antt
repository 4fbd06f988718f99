use Rattle.std.proofs.Common.{◌≡◌, ◌∙◌, List, true, map, drop, sym, ap, subst}
use Rattle.std.specs.Prelude.{string_bytes}
use Rattle.std.specs.List.{AllByRecursion}
use Rattle.csv.specs.Records.{Row, fields_of}
use Rattle.sms_book.specs.Openings.{credits_of}
use Rattle.sms_files.specs.Fields.{Record, records_of}
use Rattle.sms_files.specs.declared.config.Config.{Config}
use Rattle.sms_journal.specs.declared.audit.part.SentPart.{SentPart}
use Rattle.sms_journal.specs.declared.rest.plan.Plan.{Plan}
use Rattle.sms_journal.specs.ReportParts.{is_covered, parts_in}
use Rattle.sms_journal.proofs.AuditFaults.{audited_so, too_long}
use Rattle.sms_journal.proofs.audit.run.audit_of.Goals as goal

pub returns-then-lines-gt-MOST_EVENTS-clause-refused : goal.returns-then-lines-gt-MOST_EVENTS-clause-refused
returns-then-lines-gt-MOST_EVENTS-clause-refused c =
    let lines : List Record = map fields_of c.behind_first-lines.result.now in
    let openings = c.openings-openings.result.now in
    let plans : List Plan = c.in_ok-planned.planned.plans.items in
    let parts : List SentPart = c.as_slice-3.result.now in
    let lines_are : lines ≡ drop 1 (records_of c.args.report.now)
    = c.behind_first-lines.ensures ∙ ap (λ (rs : List Row). drop 1 (map fields_of rs)) c.as_slice.ensures.value ∙ ap (λ (rs : List Record). drop 1 rs) c.in_ok-planned.ensures.records in
    let parts_are : parts ≡ parts_in plans lines = c.as_slice-3.ensures.value ∙ c.in_ok-parts.ensures.parts ∙ ap (λ (ps : List Plan). parts_in ps lines) c.as_slice-2.ensures.value in
    let covered = subst (λ (ps : List SentPart). AllByRecursion (λ (p : SentPart). is_covered (credits_of openings) p ≡ true) ps) (sym c.as_slice-3.ensures.value) c.in_ok-parts.ensures.covered in
    too_long c.args.input.now c.args.report.now plans lines openings c.config.result.now.retry.policy.attempts c.in_ok-planned.ensures.report lines_are c.openings-openings.ensures
    (ap (λ (k : Config). k.retry.policy.attempts) c.config.ensures) parts parts_are covered c.in_ok-lines.lines.events c.in_ok-lines.ensures.events c.if-lines-gt-MOST_EVENTS.true

pub returns-clause-audited : goal.returns-clause-audited
returns-clause-audited c =
    let lines : List Record = map fields_of c.behind_first-lines.result.now in
    let openings = c.openings-openings.result.now in
    let plans : List Plan = c.in_ok-planned.planned.plans.items in
    let parts : List SentPart = c.as_slice-3.result.now in
    let lines_are : lines ≡ drop 1 (records_of c.args.report.now)
    = c.behind_first-lines.ensures ∙ ap (λ (rs : List Row). drop 1 (map fields_of rs)) c.as_slice.ensures.value ∙ ap (λ (rs : List Record). drop 1 rs) c.in_ok-planned.ensures.records in
    let parts_are : parts ≡ parts_in plans lines = c.as_slice-3.ensures.value ∙ c.in_ok-parts.ensures.parts ∙ ap (λ (ps : List Plan). parts_in ps lines) c.as_slice-2.ensures.value in
    let covered = subst (λ (ps : List SentPart). AllByRecursion (λ (p : SentPart). is_covered (credits_of openings) p ≡ true) ps) (sym c.as_slice-3.ensures.value) c.in_ok-parts.ensures.covered in
    audited_so c.args.input.now c.args.report.now plans lines openings c.config.result.now.retry.policy.attempts c.in_ok-planned.ensures.report lines_are c.openings-openings.ensures
    (ap (λ (k : Config). k.retry.policy.attempts) c.config.ensures) parts parts_are covered c.in_ok-lines.lines.events (string_bytes c.in_ok-lines.lines.text) c.in_ok-lines.ensures.events c.if-lines-gt-MOST_EVENTS.false
    c.in_ok-lines.ensures.text
