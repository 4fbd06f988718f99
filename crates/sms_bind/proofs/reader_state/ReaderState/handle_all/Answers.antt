use Rattle.std.proofs.Common.{◌+◌, ◌++◌, ◌∷◌, [], List, ℕ, drop, Option, None, Some, refl, sym, ap, ◌∙◌, subst, rules, arith}
use Rattle.std.specs.List.{concat}
use Rattle.sms_pdu.proofs.Streams.{went_none, went_frame}
use Rattle.sms_bind.specs.declared.ending.ReaderCause.{ReaderCause}
use Rattle.sms_session.specs.Session.{IsBound}
use Rattle.sms_bind.specs.ReaderStates.{Handled}
use Rattle.sms_bind.proofs.Keepings.{alone_divided, among_itself, covers_of, once_step}
use Rattle.sms_bind.proofs.Handling.{follows_same, follows_on, handled_none, handled_more, frames_from}
use Rattle.sms_bind.proofs.reader_state.ReaderState.handle_all.Goals as goal

pub loop-frame-init : goal.loop-frame-init
loop-frame-init g c = record {
  follows = follows_same c.args.self.now.follower;
  session = refl;
  within = c.requires.ready.within;
  keeps = refl;
  same = (refl, refl);
  once = omega arith;
  went = went_none (Handled c.args.self.now.session None c.args.self.now c.args.self.now) (concat c.args.frames.now) (handled_none c.args.self.now.session c.args.self.now);
  room = omega arith;
}

pub returns-in-Some-clause-handled : goal.returns-in-Some-clause-handled
returns-in-Some-clause-handled g c =
    let i = c.loop-frame.frame-index in
    let f = c.as_slice-octets.result.now in
    let fs = c.args.frames.now in
    let a = c.args.self.now in
    let b = c.loop-frame.self in
    let d = c.handle.new.self in
    let s = a.session in
    let end : Option ReaderCause = Some c.in-Some.cause in
    let after = concat (drop (i + 1) fs) in
    let more = frames_from fs i c.frame-item.result (search rules) c.frame-item.is ∙ ap (λ (l : List ℕ). l ++ after) (sym c.as_slice-octets.ensures.unchanged) in
    let one : Handled s end b d (f ∷ []) = subst (λ x. Handled x end b d (f ∷ [])) c.loop-frame.invariant.session c.in-Some.ensures.handled in (
      after,
      went_frame (Handled s None a b) (Handled s end a d) (concat fs) (concat (drop i fs)) f after c.loop-frame.invariant.went more c.as_slice-octets.ensures.whole (λ hs w. handled_more s c.requires.ready.bound end a b d hs (f ∷ []) w one),
      λ e. absurd cc,
    )

pub loop-frame-preserved : goal.loop-frame-preserved
loop-frame-preserved g c =
    let i = c.loop-frame.frame-index in
    let f = c.as_slice-octets.result.now in
    let fs = c.args.frames.now in
    let a = c.args.self.now in
    let b = c.loop-frame.self in
    let d = c.handle.new.self in
    let s = a.session in
    let after = concat (drop (i + 1) fs) in
    let more = frames_from fs i c.frame-item.result (search rules) c.frame-item.is ∙ ap (λ (l : List ℕ). l ++ after) (sym c.as_slice-octets.ensures.unchanged) in
    let one : Handled s None b d (f ∷ []) = subst (λ x. Handled x None b d (f ∷ [])) c.loop-frame.invariant.session c.in_default.ensures.handled in
    record {
      follows = follows_on a.follower b.follower d.follower c.loop-frame.invariant.follows c.handle.ensures.follows;
      session = search rules;
      within = c.handle.ensures.within;
      keeps = one.keeps ∙ c.loop-frame.invariant.keeps;
      same = (c.keep-keeping.ensures.same.0 ∙ c.loop-frame.invariant.same.0, c.keep-keeping.ensures.same.1 ∙ c.loop-frame.invariant.same.1);
      once = once_step _ _ _ i fs f (search rules) (search rules) c.loop-frame.invariant.once (c.keep-keeping.ensures.once (f ∷ []) [] (alone_divided f c.as_slice-octets.ensures.whole));
      went = went_frame (Handled s None a b) (Handled s None a d) (concat fs) (concat (drop i fs)) f after c.loop-frame.invariant.went more c.as_slice-octets.ensures.whole (λ hs w. handled_more s c.requires.ready.bound None a b d hs (f ∷ []) w one);
      room = (let n = c.handle.ensures.frames in let r = c.loop-frame.invariant.room in omega (arith, n, r));
    }

pub handle-requires-clause-covers : goal.handle-requires-clause-covers
handle-requires-clause-covers g c = covers_of c.as_slice-octets.result.now c.as_slice-octets.result.now c.keep-keeping.result c.keep-keeping.ensures.stream (among_itself c.as_slice-octets.result.now c.as_slice-octets.ensures.whole)

pub handle-requires-clause-ready : goal.handle-requires-clause-ready
handle-requires-clause-ready g c = record {
  bound = subst IsBound (sym c.loop-frame.invariant.session) c.requires.ready.bound;
  within = c.loop-frame.invariant.within;
  keeps = c.keep-keeping.ensures.asked ∙ c.loop-frame.invariant.same.0 ∙ c.requires.ready.keeps ∙ sym c.loop-frame.invariant.keeps;
}

pub returns-in-Some-clause-once : goal.returns-in-Some-clause-once
returns-in-Some-clause-once g c =
    let i = c.loop-frame.frame-index in
    let f = c.as_slice-octets.result.now in
    let step = once_step _ _ _ i c.args.frames.now f (search rules) (search rules) c.loop-frame.invariant.once (c.keep-keeping.ensures.once (f ∷ []) [] (alone_divided f c.as_slice-octets.ensures.whole)) in
    omega (arith, step)

pub returns-in-Some-clause-same : goal.returns-in-Some-clause-same
returns-in-Some-clause-same g c = (c.keep-keeping.ensures.same.0 ∙ c.loop-frame.invariant.same.0, c.keep-keeping.ensures.same.1 ∙ c.loop-frame.invariant.same.1)
