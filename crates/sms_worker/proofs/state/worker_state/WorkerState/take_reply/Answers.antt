use Rattle.std.proofs.Common.{◌∙◌, ap}
use Rattle.sms_worker.specs.RunState.{RunState}
use Rattle.sms_worker.proofs.Replies.{noted_first}
use Rattle.sms_worker.proofs.state.worker_state.WorkerState.take_reply.Goals as goal

pub note-requires : goal.note-requires
note-requires g c = record { more = (c.args.reply, c.requires.replies) }

pub apply_reply-requires-clause-window : goal.apply_reply-requires-clause-window
apply_reply-requires-clause-window g c = c.requires.window

pub apply_reply-requires-clause-rules : goal.apply_reply-requires-clause-rules
apply_reply-requires-clause-rules g c = c.requires.rules

pub apply_reply-requires-clause-replies : goal.apply_reply-requires-clause-replies
apply_reply-requires-clause-replies g c = c.note.ensures.since c.args.reply c.requires.replies

pub returns : goal.returns
returns g c = record {
  replies = c.apply_reply.ensures.replies ∙ c.note.ensures.replies;
  applied = noted_first g.C.WorkerStart.start.rules c.args.reply c.apply_reply.result c.args.self.now c.note.new.self c.apply_reply.new.self _ c.note.ensures.only c.apply_reply.ensures.applied;
  closed = c.apply_reply.ensures.closed ∙ ap (λ (x : RunState). x.closed) c.note.ensures.only;
}
