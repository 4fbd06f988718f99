use Rattle.std.proofs.Common.{◌≡◌, ◌∙◌, sym, subst, rules}
use Rattle.sms_pdu.specs.Header.{header_at_front}
use Rattle.sms_session.specs.declared.session.Action.{Action}
use Rattle.sms_session.specs.declared.session.Action.TheVariants as action
use Rattle.sms_session.specs.declared.session.Response.{Response}
use Rattle.sms_session.specs.Session.{on_table}
use Rattle.sms_slot.proofs.Rings.{same_rings}
use Rattle.sms_bind.specs.Deeds.{Answered, Does, Responded}
use Rattle.sms_bind.specs.Keepings.{answer_to}
use Rattle.sms_bind.specs.declared.outcome.FrameOutcome.TheVariants.{Replied}
use Rattle.sms_bind.proofs.Responses.{responded}
use Rattle.sms_bind.proofs.Tables.{HasNumber, has_number}
use Rattle.sms_bind.proofs.reader_state.ReaderState.dispatch.Goals as goal

pub returns-in-Reply-clause-rings : goal.returns-in-Reply-clause-rings
returns-in-Reply-clause-rings g c = same_rings c.args.self.now.producers.items

pub returns-in-ReplyClose-clause-rings : goal.returns-in-ReplyClose-clause-rings
returns-in-ReplyClose-clause-rings g c = same_rings c.args.self.now.producers.items

pub returns-in-Note-clause-rings : goal.returns-in-Note-clause-rings
returns-in-Note-clause-rings g c = same_rings c.args.self.now.producers.items

pub returns-in-Close-clause-rings : goal.returns-in-Close-clause-rings
returns-in-Close-clause-rings g c = same_rings c.args.self.now.producers.items

-- the response has the frame's number
pub respond-written-requires-clause-number : goal.respond-written-requires-clause-number
respond-written-requires-clause-number g c =
    let h = header_at_front c.args.frame.now in
    let is : (on_table c.args.self.now.session h).0 ≡ action.Reply c.in-Reply.asked = search rules in
    subst (HasNumber h.number) is (has_number c.args.self.now.session h)

pub respond-written-requires-in-ReplyClose-clause-number : goal.respond-written-requires-in-ReplyClose-clause-number
respond-written-requires-in-ReplyClose-clause-number g c =
    let h = header_at_front c.args.frame.now in
    let is : (on_table c.args.self.now.session h).0 ≡ action.ReplyClose c.in-ReplyClose.asked = search rules in
    subst (HasNumber h.number) is (has_number c.args.self.now.session h)

pub returns-in-Reply-clause-suits : goal.returns-in-Reply-clause-suits
returns-in-Reply-clause-suits g c =
    let h = header_at_front c.args.frame.now in
    let is : (on_table c.args.self.now.session h).0 ≡ action.Reply c.in-Reply.asked = search rules in
    let deed = Replied c.respond-written.result.0 c.respond-written.result.1 in
    let done = responded c.args.keeping.now c.in-Reply.asked _ _ c.respond-written.ensures.response c.respond-written.ensures.written in
    let answered : Answered c.args.self.now.keeps c.in-Reply.asked deed = record { keeping = c.args.keeping.now; asked = c.requires.bound.1; responded = done } in
    subst (λ (a : Action). Does c.args.self.now.keeps a c.args.frame.now deed) (sym is) answered

pub returns-in-ReplyClose-clause-suits : goal.returns-in-ReplyClose-clause-suits
returns-in-ReplyClose-clause-suits g c =
    let h = header_at_front c.args.frame.now in
    let is : (on_table c.args.self.now.session h).0 ≡ action.ReplyClose c.in-ReplyClose.asked = search rules in
    let it = c.respond-written-in-ReplyClose in
    let deed = Replied it.result.0 it.result.1 in
    let done = responded c.args.keeping.now c.in-ReplyClose.asked _ _ it.ensures.response it.ensures.written in
    let answered : Answered c.args.self.now.keeps c.in-ReplyClose.asked deed = record { keeping = c.args.keeping.now; asked = c.requires.bound.1; responded = done } in
    subst (λ (a : Action). Does c.args.self.now.keeps a c.args.frame.now deed) (sym is) answered

pub returns-in-Reply-clause-answered : goal.returns-in-Reply-clause-answered
returns-in-Reply-clause-answered g c = λ r e.
    let h = header_at_front c.args.frame.now in
    let is : (on_table c.args.self.now.session h).0 ≡ action.Reply c.in-Reply.asked = search rules in
    let both : action.Reply c.in-Reply.asked ≡ action.Reply r = sym is ∙ e in
    let same : c.in-Reply.asked ≡ r = cc in
    let done = responded c.args.keeping.now c.in-Reply.asked _ _ c.respond-written.ensures.response c.respond-written.ensures.written in
    subst (λ (x : Response). Responded (answer_to c.args.keeping.now x) (Replied c.respond-written.result.0 c.respond-written.result.1)) same done
