use Rattle.std.proofs.Common.{inl, inr, refl, ◌≡◌, ◌+◌, ◌-◌, ◌<◌, ◌++◌, ◌∷◌, [], List, ℕ, length, take, sym, ap, ◌∙◌, subst, rules, arith}
use Rattle.std.proofs.KnownBytes.{Consumes-nil, Consumes-trans}
use Rattle.std.proofs.lemmas.List.{nil_from_length}
use Rattle.sms_pdu.specs.Devices.{device, faults_of}
use Rattle.sms_pdu.specs.Frame.{Division, IsBad}
use Rattle.sms_pdu.proofs.Divisions.{pieces_join}
use Rattle.sms_pdu.proofs.Streams.{short_rest, consumes_nothing}
use Rattle.sms_bind.proofs.Binds.{Tried, tried_more, tried_all, shorter_to_go, first_of_frames, gave_answer, not_spent_before}
use Rattle.sms_bind.proofs.binding.read_first.Goals as goal

pub returns-in_default-clause-answer : goal.returns-in_default-clause-answer
returns-in_default-clause-answer g c =
    let r = g.R.Read.remaining (device c.args.reader.now) in
    let t = g.R.Read.remaining (device c.loop-empty.reader) in
    let u = g.R.Read.remaining (device c.read.new.self) in
    let i = c.loop-empty.invariant in
    let p = take c.in-Ok.n c.read.new.buf in
    (i.got ++ p, Consumes-trans r t u i.got p i.consumed c.in-Ok.ensures.bytes.0, tt, tt)

pub returns-then-not-is_empty-clause-answer : goal.returns-then-not-is_empty-clause-answer
returns-then-not-is_empty-clause-answer g c =
    let r = g.R.Read.remaining (device c.args.reader.now) in
    let t = g.R.Read.remaining (device c.loop-empty.reader) in
    let u = g.R.Read.remaining (device c.read.new.self) in
    let i = c.loop-empty.invariant in
    let p = take c.in-Ok.n c.read.new.buf in
    let items = c.into_vec-frames.result.items in
    let first = c.remove-first.result in
    let d = pieces_join i.got p [] c.in-Ok-feed.fed.frames c.loop-empty.framer c.feed.new.self i.divided (c.in-Ok-feed.ensures.divided c.loop-empty.invariant.good) in
    let low : 0 < length items = search rules in
    let cut : c.in-Ok-feed.fed.frames ≡ first ∷ c.new.result =
    sym c.into_vec-frames.ensures ∙ first_of_frames items first low c.remove-first.ensures.value ∙ ap (λ (l : List (List ℕ)). first ∷ l) (sym (c.new.ensures ∙ c.remove-first.ensures.items)) in
    (i.got ++ p, Consumes-trans r t u i.got p i.consumed c.in-Ok.ensures.bytes.0, subst (λ (l : List (List ℕ)). Division (i.got ++ p) l c.feed.new.self) cut d, tt)

pub returns-then-is_some-clause-answer : goal.returns-then-is_some-clause-answer
returns-then-is_some-clause-answer g c =
    let r = g.R.Read.remaining (device c.args.reader.now) in
    let t = g.R.Read.remaining (device c.loop-empty.reader) in
    let u = g.R.Read.remaining (device c.read.new.self) in
    let i = c.loop-empty.invariant in
    let p = take c.in-Ok.n c.read.new.buf in
    let items = c.into_vec-frames.result.items in
    let d = pieces_join i.got p [] c.in-Ok-feed.fed.frames c.loop-empty.framer c.feed.new.self i.divided (c.in-Ok-feed.ensures.divided c.loop-empty.invariant.good) in
    let zero : length items ≡ 0 = search rules in
    let none : c.in-Ok-feed.fed.frames ≡ [] = sym c.into_vec-frames.ensures ∙ nil_from_length items zero in
    let bad : IsBad c.feed.new.self = search rules in
    (i.got ++ p, Consumes-trans r t u i.got p i.consumed c.in-Ok.ensures.bytes.0, tt, (c.feed.new.self, subst (λ (l : List (List ℕ)). Division (i.got ++ p) l c.feed.new.self) none d, bad))

pub loop-empty-smaller-in-Ok : goal.loop-empty-smaller-in-Ok
loop-empty-smaller-in-Ok g c =
    let p = take c.in-Ok.n c.read.new.buf in
    let items = c.into_vec-frames.result.items in
    let zero : length items ≡ 0 = search rules in
    let none : c.in-Ok-feed.fed.frames ≡ [] = sym c.into_vec-frames.ensures ∙ nil_from_length items zero in
    let d = subst (λ (l : List (List ℕ)). Division (c.loop-empty.framer ++ p) l c.feed.new.self) none (c.in-Ok-feed.ensures.divided c.loop-empty.invariant.good) in
    let good : IsBad c.feed.new.self → ⊥ = search rules in
    let long : length p ≡ c.in-Ok.n = sym c.in-Ok.ensures.bound.1 in
    let some : 0 < c.in-Ok.n = search rules in
    let h : (70000 - length c.feed.new.self) + (600 - c.loop-empty.empty) < (70000 - length c.loop-empty.framer) + (600 - c.loop-empty.empty) =
    shorter_to_go c.loop-empty.framer p c.feed.new.self c.loop-empty.empty (sym d.whole) (omega (arith, long, some)) (short_rest c.feed.new.self d.ended good) in
    h

pub loop-empty-preserved-in-Ok : goal.loop-empty-preserved-in-Ok
loop-empty-preserved-in-Ok g c =
    let r = g.R.Read.remaining (device c.args.reader.now) in
    let t = g.R.Read.remaining (device c.loop-empty.reader) in
    let u = g.R.Read.remaining (device c.read.new.self) in
    let i = c.loop-empty.invariant in
    let p = take c.in-Ok.n c.read.new.buf in
    let items = c.into_vec-frames.result.items in
    let d = pieces_join i.got p [] c.in-Ok-feed.fed.frames c.loop-empty.framer c.feed.new.self i.divided (c.in-Ok-feed.ensures.divided c.loop-empty.invariant.good) in
    let zero : length items ≡ 0 = search rules in
    let none : c.in-Ok-feed.fed.frames ≡ [] = sym c.into_vec-frames.ensures ∙ nil_from_length items zero in
    record {
      got = i.got ++ p;
      consumed = Consumes-trans r t u i.got p i.consumed c.in-Ok.ensures.bytes.0;
      divided = subst (λ (l : List (List ℕ)). Division (i.got ++ p) l c.feed.new.self) none d;
      good = search rules;
      faults = (let h = c.loop-empty.invariant.faults in let k = c.read.ensures.grows in omega (arith, h, k));
      counted = search rules;
      few = c.loop-empty.invariant.few;
      tries = (let h = c.loop-empty.invariant.tries in let k = c.in-Ok.ensures.faults in omega (arith, h, k));
      many = subst (λ k. Tried c.loop-empty.empty (faults_of c.args.reader.now) k) (sym c.in-Ok.ensures.faults) c.loop-empty.invariant.many;
      failures = c.in-Ok.ensures.failures ∙ c.loop-empty.invariant.failures;
      piece = search rules;
    }

pub loop-empty-init : goal.loop-empty-init
loop-empty-init g c = record {
  got = [];
  consumed = Consumes-nil _;
  divided = search rules;
  good = search rules;
  faults = omega arith;
  counted = λ low. absurd (omega (arith, low));
  few = omega arith;
  tries = omega arith;
  many = inl (refl, refl);
  failures = refl;
  piece = search rules;
}

pub loop-empty-preserved : goal.loop-empty-preserved
loop-empty-preserved g c =
    let i = c.loop-empty.invariant in
    record {
      got = i.got;
      consumed = search rules;
      divided = i.divided;
      good = i.good;
      faults = (let h = i.faults in let k = c.read.ensures.grows in omega (arith, h, k));
      counted = search rules;
      few = search rules;
      tries = (let h = i.tries in let k = c.in-Err.ensures.faults in omega (arith, h, k));
      many = tried_more _ _ _ _ c.in-Err.ensures.faults i.many;
      failures = search rules;
      piece = search rules;
    }

pub returns-clause-failed : goal.returns-clause-failed
returns-clause-failed g c = λ e.
    let i = c.loop-empty.invariant in
    inr (i.failures, tried_all _ _ _ _ (search rules) (search rules) i.many)

pub returns-in_default-clause-read_at_most : goal.returns-in_default-clause-read_at_most
returns-in_default-clause-read_at_most g c =
    let i = c.loop-empty.invariant in
    gave_answer i.got (take c.in-Ok.n c.read.new.buf) c.loop-empty.framer _ (g.R.Read.remaining (device c.loop-empty.reader)) _ i.divided i.good (search rules) i.consumed c.in-Ok.ensures.bytes.0

pub returns-in_default-clause-ended_input : goal.returns-in_default-clause-ended_input
returns-in_default-clause-ended_input g c = λ spent quiet.
    let i = c.loop-empty.invariant in
    absurd (not_spent_before i.got (take c.in-Ok.n c.read.new.buf) _ (g.R.Read.remaining (device c.loop-empty.reader)) _ (search rules) i.consumed c.in-Ok.ensures.bytes.0 spent)

pub returns-then-not-is_empty-clause-read_at_most : goal.returns-then-not-is_empty-clause-read_at_most
returns-then-not-is_empty-clause-read_at_most g c =
    let i = c.loop-empty.invariant in
    gave_answer i.got (take c.in-Ok.n c.read.new.buf) c.loop-empty.framer _ (g.R.Read.remaining (device c.loop-empty.reader)) _ i.divided i.good (search rules) i.consumed c.in-Ok.ensures.bytes.0

pub returns-then-not-is_empty-clause-ended_input : goal.returns-then-not-is_empty-clause-ended_input
returns-then-not-is_empty-clause-ended_input g c = λ spent quiet.
    let i = c.loop-empty.invariant in
    absurd (not_spent_before i.got (take c.in-Ok.n c.read.new.buf) _ (g.R.Read.remaining (device c.loop-empty.reader)) _ (search rules) i.consumed c.in-Ok.ensures.bytes.0 spent)

pub returns-then-is_some-clause-read_at_most : goal.returns-then-is_some-clause-read_at_most
returns-then-is_some-clause-read_at_most g c =
    let i = c.loop-empty.invariant in
    gave_answer i.got (take c.in-Ok.n c.read.new.buf) c.loop-empty.framer _ (g.R.Read.remaining (device c.loop-empty.reader)) _ i.divided i.good (search rules) i.consumed c.in-Ok.ensures.bytes.0

pub returns-then-is_some-clause-ended_input : goal.returns-then-is_some-clause-ended_input
returns-then-is_some-clause-ended_input g c = λ spent quiet.
    let i = c.loop-empty.invariant in
    absurd (not_spent_before i.got (take c.in-Ok.n c.read.new.buf) _ (g.R.Read.remaining (device c.loop-empty.reader)) _ (search rules) i.consumed c.in-Ok.ensures.bytes.0 spent)

pub returns-then-not-gave_nothing-clause-read_at_most : goal.returns-then-not-gave_nothing-clause-read_at_most
returns-then-not-gave_nothing-clause-read_at_most g c =
    let i = c.loop-empty.invariant in
    gave_answer i.got [] c.loop-empty.framer _ (g.R.Read.remaining (device c.loop-empty.reader)) _ i.divided i.good (omega arith) i.consumed (consumes_nothing _ _ c.in-Err.ensures.bytes)

pub returns-clause-read_at_most : goal.returns-clause-read_at_most
returns-clause-read_at_most g c =
    let i = c.loop-empty.invariant in
    gave_answer i.got [] c.loop-empty.framer _ (g.R.Read.remaining (device c.loop-empty.reader)) _ i.divided i.good (omega arith) i.consumed (Consumes-nil _)
