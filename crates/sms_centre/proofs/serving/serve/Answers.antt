use Rattle.std.proofs.Common.{ℕ, sym, subst, ap, ◌∙◌}
use Rattle.sms_pdu.specs.Devices.{device}
use Rattle.sms_pdu.proofs.Turns.{turned_none, turned_where}
use Rattle.sms_centre.specs.declared.serving.ServeCause.{ServeCause}
use Rattle.sms_centre.specs.Says.{Progress, begun}
use Rattle.sms_centre.specs.Serving.{Serves}
use Rattle.sms_centre.specs.Stops.{cause_of}
use Rattle.sms_centre.proofs.Causes.{read_stop, write_stop, turns_stop}
use Rattle.sms_centre.proofs.Talks.{serves, serves_none}
use Rattle.sms_centre.proofs.serving.serve.Goals as goal

pub returns-in-Ok-clause-serves : goal.returns-in-Ok-clause-serves
returns-in-Ok-clause-serves g c =
    let q = c.serve_turns-stop.new.self in
    let why = c.serve_turns-stop.result in
    let held = c.serve_turns-stop.ensures.served.0 in
    let r = g.R.Read.remaining (device c.args.reader.now) in
    let t = g.R.Read.remaining (device c.serve_turns-stop.new.reader) in
    let a = g.W.Write.contents (device c.args.writer.now) in
    let b = g.W.Write.contents (device c.serve_turns-stop.new.writer) in
    subst (λ (p : Progress). Serves p r t a b c.cause_of.result c.submits.result) c.in-Ok.ensures
    (subst (λ (k : ServeCause). Serves c.in-Ok.centre r t a b k c.submits.result) (sym c.cause_of.ensures)
    (subst (λ (n : ℕ). Serves c.in-Ok.centre r t a b (cause_of why) n) (sym c.submits.ensures) (serves c.in-Ok.centre q why held r t a b c.serve_turns-stop.ensures.served.1 c.serve_turns-stop.ensures.read.end)))

pub returns-in-Err-clause-serves : goal.returns-in-Err-clause-serves
returns-in-Err-clause-serves g c = serves_none (begun c.args.script) (g.R.Read.remaining (device c.args.reader.now)) (g.W.Write.contents (device c.args.writer.now))

pub returns-in-Err-clause-turned : goal.returns-in-Err-clause-turned
returns-in-Err-clause-turned g c = turned_none _ _ _ _ (λ e. absurd cc)

pub returns-in-Ok-clause-turned : goal.returns-in-Ok-clause-turned
returns-in-Ok-clause-turned g c = turned_where _ _ _ _ _ _ _ (λ e. turns_stop c.serve_turns-stop.result (sym c.cause_of.ensures ∙ e)) c.serve_turns-stop.ensures.read.turned

pub returns-in-Ok-clause-failed : goal.returns-in-Ok-clause-failed
returns-in-Ok-clause-failed g c = λ e. c.serve_turns-stop.ensures.read.failed (read_stop c.serve_turns-stop.result (sym c.cause_of.ensures ∙ e))

pub returns-in-Ok-clause-quiet : goal.returns-in-Ok-clause-quiet
returns-in-Ok-clause-quiet g c = λ other. c.serve_turns-stop.ensures.read.quiet (λ e. other (c.cause_of.ensures ∙ ap cause_of e))

pub returns-in-Ok-clause-unwritten : goal.returns-in-Ok-clause-unwritten
returns-in-Ok-clause-unwritten g c = λ e. c.serve_turns-stop.ensures.wrote.failed (write_stop c.serve_turns-stop.result (sym c.cause_of.ensures ∙ e))

pub returns-in-Ok-clause-wrote : goal.returns-in-Ok-clause-wrote
returns-in-Ok-clause-wrote g c = λ other. c.serve_turns-stop.ensures.wrote.quiet (λ e. other (c.cause_of.ensures ∙ ap cause_of e))
