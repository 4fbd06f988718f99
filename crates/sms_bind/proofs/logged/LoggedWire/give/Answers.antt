use Rattle.std.proofs.Common.{◌≡◌, ◌<◌, [], ◌∷◌, ◌++◌, true, sym, ap, ◌∙◌, subst, arith}
use Rattle.atomic_table.specs.Seated.{TableId}
use Rattle.sms_bind.specs.Logs.{Logged, first_of, given_of}
use Rattle.sms_bind.specs.Wires.{Sends, is_broken}
use Rattle.sms_bind.proofs.LogWrites.{logged_more, sends_none}
use Rattle.sms_bind.proofs.logged.LoggedWire.give.Goals as goal

pub note-requires-clause-table : goal.note-requires-clause-table
note-requires-clause-table g c = (c.self.invariant.badge_is ∙ sym c.table.ensures.0, subst (λ (z : TableId). 0 < z.words) (sym c.table.ensures.0) c.table.ensures.1)

pub note-requires-clause-wire : goal.note-requires-clause-wire
note-requires-clause-wire g c = (_, c.self.invariant.view, omega arith)

pub invariant_of-self : goal.invariant_of-self
invariant_of-self g c =
    let sound = sym c.broken.ensures ∙ c.if-broken.false in
    let e = c.send.ensures in
    (logged_more g.W.Write.contents g.N.LogName.settings _ _ _ _ _ _ _ c.args.frame c.send.result c.self.invariant c.note.ensures.table (c.note.ensures.given _ c.self.invariant.view) sound
    record { receipt = e.receipt; failed_receipt = e.failed_receipt; broken = e.broken; kept = e.kept; after = e.after; whole = e.whole; part = e.part; short = e.short; no_fault = e.no_fault; counted = e.counted; fault = e.fault }).0

pub returns-clause-sends : goal.returns-clause-sends
returns-clause-sends g c =
    let e = c.send.ensures in
    subst (λ (l : Logged _). Sends g.W.Write.contents l.wire c.send.new.self c.args.frame c.send.result) c.self.view_is
    record { receipt = e.receipt; failed_receipt = e.failed_receipt; broken = e.broken; kept = e.kept; after = e.after; whole = e.whole; part = e.part; short = e.short; no_fault = e.no_fault; counted = e.counted; fault = e.fault }

pub returns-clause-first : goal.returns-clause-first
returns-clause-first g c = ap first_of (c.note.ensures.given _ c.self.invariant.view) ∙ ap (λ (l : Logged _). l.first) c.self.view_is

pub returns-clause-given : goal.returns-clause-given
returns-clause-given g c = λ sound. ap given_of (c.note.ensures.given _ c.self.invariant.view) ∙ ap (λ (l : Logged _). l.log ++ c.args.frame ∷ []) c.self.view_is

pub returns-then-broken-clause-sends : goal.returns-then-broken-clause-sends
returns-then-broken-clause-sends g c = sends_none g.W.Write.contents c.args.self.now.wire c.args.frame (subst (λ (l : Logged _). is_broken l.wire ≡ true) c.self.view_is (sym c.broken.ensures ∙ c.if-broken.true))
