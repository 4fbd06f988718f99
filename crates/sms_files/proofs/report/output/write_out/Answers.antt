use Rattle.sms_files.proofs.Writing.{appends-kept, front-kept}
use Rattle.sms_files.proofs.report.output.write_out.Goals as goal

pub returns-in_err-write_text-clause-front : goal.returns-in_err-write_text-clause-front
returns-in_err-write_text-clause-front g c = c.write_text.ensures.front

pub returns-in-Ok-clause-written : goal.returns-in-Ok-clause-written
returns-in-Ok-clause-written g c =
    appends-kept (g.W.Write.contents c.args.output.now) (g.W.Write.contents c.write_text.new.output) (g.W.Write.contents c.flush.new.output) c.args.text.now
    c.in_ok-write_text.ensures.written c.flush.ensures.bytes

pub returns-in-Ok-clause-front : goal.returns-in-Ok-clause-front
returns-in-Ok-clause-front g c =
    front-kept (g.W.Write.contents c.args.output.now) (g.W.Write.contents c.write_text.new.output) (g.W.Write.contents c.flush.new.output) c.args.text.now
    c.write_text.ensures.front c.flush.ensures.bytes

pub returns-in-Err-clause-front : goal.returns-in-Err-clause-front
returns-in-Err-clause-front g c =
    front-kept (g.W.Write.contents c.args.output.now) (g.W.Write.contents c.write_text.new.output) (g.W.Write.contents c.flush.new.output) c.args.text.now
    c.write_text.ensures.front c.flush.ensures.bytes
