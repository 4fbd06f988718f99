use Rattle.std.proofs.Common.{◌≡◌, ◌++◌, [], false, refl, sym, ◌∙◌, subst}
use Rattle.sms_pdu.specs.Frame.{IsFrame}
use Rattle.sms_pdu.proofs.Streams.{went_none, went_frame}
use Rattle.sms_inbox.specs.Arrivals.{deliveries, is_delivery}
use Rattle.sms_inbox.proofs.Walks.{none_more}
use Rattle.sms_inbox.proofs.arrivals.has_none.Goals as goal

pub loop-length-init : goal.loop-length-init
loop-length-init c = went_none (λ fs. deliveries fs ≡ []) c.args.stream.now refl

pub loop-length-preserved : goal.loop-length-preserved
loop-length-preserved c =
    let f = c.split_at.result.0.now in
    let after = c.split_at.result.1.now in
    let joins : c.loop-length.left.now ≡ f ++ after = c.split_at.ensures.by_index.0 in
    let is : IsFrame f = subst IsFrame (sym c.split_at.ensures.front) c.in-Some.ensures.frame.1 in
    let other : is_delivery f ≡ false = sym c.is_delivery.ensures ∙ c.if-is_delivery.false in
    went_frame (λ fs. deliveries fs ≡ []) (λ fs. deliveries fs ≡ []) c.args.stream.now c.loop-length.left.now f after c.loop-length.invariant joins is (λ fs none. none_more fs f none other)
