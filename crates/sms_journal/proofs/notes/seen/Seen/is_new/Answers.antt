use Rattle.std.proofs.Common.{rules, ◌≡◌, ◌≤◌, true, false}
use Rattle.sms_core.specs.Limits.{top_number}
use Rattle.sms_journal.proofs.notes.seen.Seen.is_new.Goals as goal

pub returns-then-not-is_above : goal.returns-then-not-is_above
returns-then-not-is_above c = λ rs ms notes sees. (
  (λ e. absurd (cc)),
  (λ h.
      let some : c.is_above.result ≡ true = (c.is_above.ensures rs c.args.size ms notes sees).1 h.above in
      let none : c.is_above.result ≡ false = search rules in
      absurd (cc)),
)

pub returns : goal.returns
returns c = λ rs ms notes sees.
    let from : 1 ≤ c.args.request.number = search rules in
    let to : c.args.request.number ≤ top_number = search rules in
    let above : c.is_above.result ≡ true = search rules in (
      (λ e. record {
        from = from;
        to = to;
        above = (c.is_above.ensures rs c.args.size ms notes sees).0 above;
        unused = (c.is_unused.ensures rs ms notes sees).0 e;
      }),
      (λ h. (c.is_unused.ensures rs ms notes sees).1 h.unused),
    )
