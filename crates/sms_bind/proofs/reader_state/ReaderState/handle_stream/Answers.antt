use Rattle.std.proofs.Common.{◌≡◌, ◌+◌, ◌++◌, ◌∷◌, [], length, Option, None, Some, refl, sym, ap, ◌∙◌, subst, rules, arith, length-append}
use Rattle.std.specs.List.{concat}
use Rattle.sms_pdu.specs.Frame.{IsFrame}
use Rattle.sms_pdu.proofs.Streams.{went_none, went_frame, went_dropped}
use Rattle.sms_bind.specs.declared.ending.ReaderCause.{ReaderCause}
use Rattle.sms_session.specs.Session.{IsBound}
use Rattle.sms_bind.specs.ReaderStates.{Handled}
use Rattle.sms_bind.proofs.Keepings.{covers_of}
use Rattle.sms_bind.proofs.Handling.{follows_same, follows_on, handled_none, handled_more}
use Rattle.sms_bind.proofs.reader_state.ReaderState.handle_stream.Goals as goal

pub loop-length-init : goal.loop-length-init
loop-length-init g c = record {
  follows = follows_same c.args.self.now.follower;
  same = refl;
  within = c.requires.ready.within;
  keeps = refl;
  went = went_none (Handled c.args.self.now.session None c.args.self.now c.args.self.now) c.args.stream.now (handled_none c.args.self.now.session c.args.self.now);
  room = omega arith;
}

pub returns-in-Some-handle-clause-handled : goal.returns-in-Some-handle-clause-handled
returns-in-Some-handle-clause-handled g c =
    let a = c.args.self.now in
    let b = c.loop-length.self in
    let d = c.handle.new.self in
    let s = a.session in
    let left = c.loop-length.left.now in
    let f = c.split_at.result.0.now in
    let after = c.split_at.result.1.now in
    let joins : left ≡ f ++ after = c.split_at.ensures.by_index.0 in
    let is : IsFrame f = subst IsFrame (sym c.split_at.ensures.front) c.in-Some.ensures.frame.1 in
    let end : Option ReaderCause = Some c.in-Some-handle.cause in
    let one : Handled s end b d (f ∷ []) = subst (λ x. Handled x end b d (f ∷ [])) c.loop-length.invariant.same c.in-Some-handle.ensures.handled in
    went_dropped (Handled s end a d) c.args.stream.now after
    (went_frame (Handled s None a b) (Handled s end a d) c.args.stream.now left f after c.loop-length.invariant.went joins is (λ hs w. handled_more s c.requires.ready.bound end a b d hs (f ∷ []) w one))

pub loop-length-preserved : goal.loop-length-preserved
loop-length-preserved g c =
    let a = c.args.self.now in
    let b = c.loop-length.self in
    let d = c.handle.new.self in
    let s = a.session in
    let left = c.loop-length.left.now in
    let f = c.split_at.result.0.now in
    let after = c.split_at.result.1.now in
    let joins : left ≡ f ++ after = c.split_at.ensures.by_index.0 in
    let is : IsFrame f = subst IsFrame (sym c.split_at.ensures.front) c.in-Some.ensures.frame.1 in
    let one : Handled s None b d (f ∷ []) = subst (λ x. Handled x None b d (f ∷ [])) c.loop-length.invariant.same c.in_default-handle.ensures.handled in
    let long : length left ≡ length f + length after = ap length joins ∙ length-append f after in
    record {
      follows = follows_on a.follower b.follower d.follower c.loop-length.invariant.follows c.handle.ensures.follows;
      same = search rules;
      within = c.handle.ensures.within;
      keeps = one.keeps ∙ c.loop-length.invariant.keeps;
      went = went_frame (Handled s None a b) (Handled s None a d) c.args.stream.now left f after c.loop-length.invariant.went joins is (λ hs w. handled_more s c.requires.ready.bound None a b d hs (f ∷ []) w one);
      room = (let k = c.handle.ensures.frames in let r = c.loop-length.invariant.room in let m = is.good.least in omega (arith, k, r, m, long));
    }

-- the frame stands in the stream
pub handle-requires-clause-covers : goal.handle-requires-clause-covers
handle-requires-clause-covers g c =
    let w = c.loop-length.invariant.went in
    let left = c.loop-length.left.now in
    let f = c.split_at.result.0.now in
    let after = c.split_at.result.1.now in
    let joins : left ≡ f ++ after = c.split_at.ensures.by_index.0 in
    let is : IsFrame f = subst IsFrame (sym c.split_at.ensures.front) c.in-Some.ensures.frame.1 in
    covers_of c.args.stream.now f c.args.keeping.now c.requires.stream record { before = w.frames; after = after; is = w.whole ∙ ap (λ l. concat w.frames ++ l) joins; each = w.each; whole = is }

pub handle-requires-clause-ready : goal.handle-requires-clause-ready
handle-requires-clause-ready g c = record {
  bound = subst IsBound (sym c.loop-length.invariant.same) c.requires.ready.bound;
  within = c.loop-length.invariant.within;
  keeps = c.requires.ready.keeps ∙ sym c.loop-length.invariant.keeps;
}
