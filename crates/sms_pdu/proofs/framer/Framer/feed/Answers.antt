use Rattle.std.proofs.Common.{◌≡◌, ◌-◌, ◌++◌, [], length, take, sym, ap, subst, ◌∙◌, arith}
use Rattle.std.proofs.lemmas.List.{nil_from_length}
use Rattle.std.proofs.lemmas.Result.{IfOk-weaker}
use Rattle.sms_pdu.specs.Frame.{IsFrame, IsRest}
use Rattle.sms_pdu.proofs.Fronts.{whole_joined}
use Rattle.sms_pdu.proofs.Parameters.{is_no_length}
use Rattle.sms_pdu.proofs.Streams.{divided_alone, divided_joined}
use Rattle.sms_pdu.proofs.framer.Framer.feed.Goals as goal

pub finish-requires : goal.finish-requires
finish-requires c =
    let r = c.as_slice.result.now in
    let piece = c.args.piece.now in
    let n = c.in-Whole.length in
    let last = c.split_at.result.0.now in
    let held : r ≡ c.self.inside.rest.items = c.as_slice.ensures.value in
    let long : c.len-in-Whole.result ≡ length r = c.len-in-Whole.ensures ∙ sym c.as_slice.ensures.len in
    let front : last ≡ take (n - length r) piece = c.split_at.ensures.front ∙ ap (λ k. take (n - k) piece) long in
    let whole = whole_joined r piece last n (subst IsRest (sym held) c.self.invariant) c.in-Whole.ensures front in
    subst (λ l. IsFrame (l ++ last)) held whole

pub returns-then-is_empty-clause-divided : goal.returns-then-is_empty-clause-divided
returns-then-is_empty-clause-divided c =
    let rest = c.self.inside.rest in
    let none = is_no_length c.is_empty.result _ c.is_empty.ensures c.if-is_empty.true in
    let empty : rest.items ≡ [] = nil_from_length rest.items (omega (arith, none, rest.ok.0)) in
    λ good. divided_alone c.args.self.now c.args.piece.now c.in_ok-divided.divided.frames.items c.new.result c.in_ok-divided.divided.rest.items (sym c.self.view_is ∙ empty) c.new.ensures c.in_ok-divided.ensures.divided

pub returns-in-Whole-clause-divided : goal.returns-in-Whole-clause-divided
returns-in-Whole-clause-divided c =
    let last = c.split_at.result.0.now in
    let after = c.split_at.result.1.now in
    IfOk-weaker c.finish.result _ _ (λ fed d good. divided_joined c.args.self.now c.self.inside.rest.items c.args.piece.now last after _ fed.frames c.finish.new.rest.items c.self.view_is c.split_at.ensures.front c.split_at.ensures.back d) c.finish.ensures.divided
