use Rattle.std.proofs.Common.{◌≡◌, ◌<◌, ◌≤◌, length, Some, sym, ap, ◌∙◌, subst, rules, arith}
use Rattle.std.specs.Prelude.{IfSome, slice_get}
use Rattle.std.proofs.lemmas.Option.{slice_get-get_or}
use Rattle.sms_worker.specs.Types.{MessageEnd, MessageResult}
use Rattle.sms_worker.specs.RunState.{RunState}
use Rattle.sms_message.specs.Ends.{segments_in, segment_at}
use Rattle.sms_worker.proofs.EndLemmas.{no_segment, none_there, segment_in, get_low}
use Rattle.sms_worker.proofs.state.worker_state.WorkerState.count.Goals as goal

pub returns-then-message-ends-clause-within : goal.returns-then-message-ends-clause-within
returns-then-message-ends-clause-within g c q s got =
    let same = c.ends-ends.ensures.ends ∙ ap (λ (x : RunState). x.ends) c.self.view_is in
    let low : length c.ends-ends.result.now ≤ c.args.message = search rules in
    let e = ap (λ l. segment_at l c.args.message q) same in
    let z = no_segment c.ends-ends.result.now c.args.message q low in
    absurd (cc)

pub returns-then-message-ends-clause-exact : goal.returns-then-message-ends-clause-exact
returns-then-message-ends-clause-exact g c =
    let same = c.ends-ends.ensures.ends ∙ ap (λ (x : RunState). x.ends) c.self.view_is in
    let low : length c.ends-ends.result.now ≤ c.args.message = search rules in
    let none = ap (λ l. slice_get l c.args.message) (sym same) ∙ none_there c.ends-ends.result.now c.args.message low in
    subst (λ o. IfSome o (λ (e : MessageEnd). 0 ≡ length (segments_in e.result))) (sym none) tt

pub returns-in-Sent-clause-within : goal.returns-in-Sent-clause-within
returns-in-Sent-clause-within g c q s got =
    let es = c.ends-ends.result.now in
    let k = c.args.message in
    let same = c.ends-ends.ensures.ends ∙ ap (λ (x : RunState). x.ends) c.self.view_is in
    let low : k < length es = search rules in
    let there = slice_get-get_or es k c.index-ends-message.result low ∙ ap Some (sym c.index-ends-message.is) in
    let mine = sym (segment_in es k q c.index-ends-message.result there) ∙ ap (λ l. segment_at l k q) same ∙ got in
    let mine' = ap (λ (r : MessageResult). slice_get (segments_in r) q) (sym c.in-Sent.is) ∙ mine in
    let h = get_low _ q s mine' in
    let n = c.len.ensures in
    omega arith

pub returns-in-Sent-clause-exact : goal.returns-in-Sent-clause-exact
returns-in-Sent-clause-exact g c =
    let es = c.ends-ends.result.now in
    let k = c.args.message in
    let same = c.ends-ends.ensures.ends ∙ ap (λ (x : RunState). x.ends) c.self.view_is in
    let low : k < length es = search rules in
    let there = ap (λ l. slice_get l k) (sym same) ∙ slice_get-get_or es k c.index-ends-message.result low ∙ ap Some (sym c.index-ends-message.is) in
    subst (λ o. IfSome o (λ (e : MessageEnd). c.len.result ≡ length (segments_in e.result))) (sym there) (c.len.ensures ∙ ap (λ (r : MessageResult). length (segments_in r)) (sym c.in-Sent.is))

pub returns-in-Sent-clause-none : goal.returns-in-Sent-clause-none
returns-in-Sent-clause-none g c none =
    let es = c.ends-ends.result.now in
    let k = c.args.message in
    let same = c.ends-ends.ensures.ends ∙ ap (λ (x : RunState). x.ends) c.self.view_is in
    let low : k < length es = search rules in
    let there = ap (λ l. slice_get l k) (sym same) ∙ slice_get-get_or es k c.index-ends-message.result low in
    absurd (cc)

pub returns-in-Refused-clause-within : goal.returns-in-Refused-clause-within
returns-in-Refused-clause-within g c q s got =
    let es = c.ends-ends.result.now in
    let k = c.args.message in
    let same = c.ends-ends.ensures.ends ∙ ap (λ (x : RunState). x.ends) c.self.view_is in
    let low : k < length es = search rules in
    let there = slice_get-get_or es k c.index-ends-message.result low ∙ ap Some (sym c.index-ends-message.is) in
    let mine = sym (segment_in es k q c.index-ends-message.result there) ∙ ap (λ l. segment_at l k q) same ∙ got in
    let mine' = ap (λ (r : MessageResult). slice_get (segments_in r) q) (sym c.in-Refused.is) ∙ mine in
    absurd (cc)

pub returns-in-Refused-clause-exact : goal.returns-in-Refused-clause-exact
returns-in-Refused-clause-exact g c =
    let es = c.ends-ends.result.now in
    let k = c.args.message in
    let same = c.ends-ends.ensures.ends ∙ ap (λ (x : RunState). x.ends) c.self.view_is in
    let low : k < length es = search rules in
    let there = ap (λ l. slice_get l k) (sym same) ∙ slice_get-get_or es k c.index-ends-message.result low ∙ ap Some (sym c.index-ends-message.is) in
    subst (λ o. IfSome o (λ (e : MessageEnd). 0 ≡ length (segments_in e.result))) (sym there) (ap (λ (r : MessageResult). length (segments_in r)) (sym c.in-Refused.is))
