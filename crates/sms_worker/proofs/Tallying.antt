-- A share and the ends that it is the sums of: as segment ends are taken out, given back and settled, and as messages are begun.
use Rattle.std.proofs.Common.{◌≡◌, ℕ, ◌<◌, ◌+◌, ◌*◌, List, [], ◌∷◌, ◌++◌, length, Some, refl, sym, ap, ◌∙◌, subst, arith}
use Rattle.std.specs.Prelude.{IfNone, IfSome, None, Option, slice_get}
use Rattle.sms_core.specs.Rows.{reserved_of, charged_of, returned_of}
use Rattle.sms_book.specs.Money.{reserved_more}
use Rattle.sms_book.specs.Portions.{amounts_at}
use Rattle.sms_book.specs.Shares.{Share, changed}
use Rattle.sms_message.specs.declared.ends.MessageRefusal.{MessageRefusal}
use Rattle.sms_message.specs.declared.ends.Outcome.TheVariants.{Unanswered}
use Rattle.sms_message.specs.declared.message.Message.{Message}
use Rattle.sms_message.specs.Ends.{credit, put, segment_at, total_in}
use Rattle.sms_worker.specs.Begins.{end_refused, end_sent, ready}
use Rattle.sms_worker.specs.declared.state.open.SegmentPlace.{SegmentPlace}
use Rattle.sms_worker.specs.Start.{Start}
use Rattle.sms_worker.specs.Steps.{Takes, emptied, settled_to}
use Rattle.sms_worker.specs.Tally.{AreSums, IsLike, TallyState}
use Rattle.sms_worker.specs.Types.{MessageEnd, SegmentEnd}
use Rattle.sms_worker.proofs.Beginnings.{grew_begun, other_ready, reserved_ready}
use Rattle.sms_worker.proofs.Changes.{grew_at, grew_like}
use Rattle.sms_worker.proofs.EndLemmas.{given_other, put_same, there_taken, total_none}

-- a call begins
pub sums_none : (start : Start) (share : Share) (es : List MessageEnd) → share ≡ start.share → es ≡ [] → AreSums start share es
sums_none start share es shares empty = subst (AreSums start share) (sym empty) (λ i.
    let r = total_none (λ m s. credit reserved_of i m.account s) start.messages in
    let h = total_none (λ m s. credit charged_of i m.account s) start.messages in
    let t = total_none (λ m s. credit returned_of i m.account s) start.messages in
    let ar = ap (λ (x : Share). (amounts_at x.amounts i).reserved) shares in
    let ah = ap (λ (x : Share). (amounts_at x.amounts i).charged) shares in
    let at = ap (λ (x : Share). (amounts_at x.amounts i).returned) shares in
    (omega arith, omega arith, omega arith))

-- a segment end is out of its place
pub sums_taken : (start : Start) (share : Share) (es es' : List MessageEnd) (k p : ℕ) (s : SegmentEnd) → AreSums start share es → Takes es k p s es' → AreSums start share es'
sums_taken start share es es' k p s sums (at, is) = subst (AreSums start share) (sym is) (grew_like start.share.amounts share.amounts start.messages es k p s (emptied s) sums at refl refl)

pub sums_perhaps_taken : (start : Start) (share : Share) (es es' : List MessageEnd) (k p : ℕ) (got : Option SegmentEnd) → AreSums start share es → IfSome got (λ s. Takes es k p s es') → IfNone got ((es' ≡ es) × (segment_at es k p ≡ None)) → AreSums start share es'
sums_perhaps_taken start share es es' k p (Some s) sums takes none = sums_taken start share es es' k p s sums takes
sums_perhaps_taken start share es es' k p None sums takes none = subst (AreSums start share) (sym none.0) sums

-- it is put back, or one that counts as much
pub sums_given : (start : Start) (share : Share) (es es' : List MessageEnd) (place : SegmentPlace) (s : SegmentEnd) → AreSums start share es → IsLike es place s → es' ≡ put es place.message place.part s → AreSums start share es'
sums_given start share es es' place s sums like is = subst (AreSums start share) (sym is) (grew_like start.share.amounts share.amounts start.messages es place.message place.part like.there s sums like.at like.cost like.outcome)

-- one without an answer got its outcome, and its credits moved
pub sums_settled : (start : Start) (share share' : Share) (es es' : List MessageEnd) (k p : ℕ) (m : Message) (s s' : SegmentEnd) (account : Option ℕ) → AreSums start share es → slice_get start.messages k ≡ Some m → m.account ≡ account
    → ((a : ℕ) → account ≡ Some a → a < length share.amounts) → segment_at es k p ≡ Some s → s.outcome ≡ Unanswered → s'.cost ≡ s.cost → share' ≡ settled_to s'.outcome account s'.cost share → es' ≡ put es k p s' → AreSums start share' es'
sums_settled start share share' es es' k p m s s' account sums there acc known at waits cost moved is =
    let done = grew_at start.share.amounts share start.messages es k p m s s' s'.outcome account acc sums there at waits refl cost known in
    let moves : share' ≡ settled_to s'.outcome account s.cost share = moved ∙ ap (λ n. settled_to s'.outcome account n share) cost in
    subst (AreSums start share') (sym is) (subst (λ (x : Share). AreSums start x (put es k p s')) (sym moves) done)

-- a message is begun, and its credits are reserved
pub sums_sent : (start : Start) (share share' : Share) (es es' : List MessageEnd) (m : Message) (a cost : ℕ) (segments : List SegmentEnd) → AreSums start share es → slice_get start.messages (length es) ≡ Some m → m.account ≡ Some a → a < length share.amounts
    → segments ≡ ready cost (length segments) → share' ≡ changed share a (reserved_more (length segments * cost)) → es' ≡ es ++ end_sent m segments ∷ [] → AreSums start share' es'
sums_sent start share share' es es' m a cost segments sums there acc low all moved is =
    let n = length segments in
    let total = λ (i : ℕ). ap (total_in (λ (s : SegmentEnd). credit reserved_of i m.account s)) all ∙ ap (λ (x : Option ℕ). total_in (λ (s : SegmentEnd). credit reserved_of i x s) (ready cost n)) acc in
    let next : Share = changed share a (reserved_more (n * cost)) in
    let done = grew_begun start.share.amounts share.amounts next.amounts start.messages es m (end_sent m segments) cost n sums there all
    (λ i. reserved_ready share a cost n i low ∙ ap (λ k. (amounts_at share.amounts i).reserved + k) (sym (total i)))
    (λ i. (other_ready share a (n * cost) i low).0) (λ i. (other_ready share a (n * cost) i low).1) in
    subst (AreSums start share') (sym is) (subst (λ (x : Share). AreSums start x (es ++ end_sent m segments ∷ [])) (sym moved) done)

-- or it is refused
pub sums_refused : (start : Start) (share : Share) (es es' : List MessageEnd) (m : Message) (refusal : MessageRefusal) → AreSums start share es → slice_get start.messages (length es) ≡ Some m → es' ≡ es ++ end_refused m refusal ∷ [] → AreSums start share es'
sums_refused start share es es' m refusal sums there is =
    subst (AreSums start share) (sym is) (grew_begun start.share.amounts share.amounts share.amounts start.messages es m (end_refused m refusal) 1 0 sums there refl (λ i. omega arith) (λ i. refl) (λ i. refl))

-- what stands in the place of a segment end that is out of it
pub like_taken : (es es' : List MessageEnd) (place : SegmentPlace) (s s' : SegmentEnd) → Takes es place.message place.part s es' → s'.cost ≡ s.cost → s'.outcome ≡ s.outcome → IsLike es' place s'
like_taken es es' place s s' takes cost outcome = record { there = emptied s; at = there_taken es es' place.message place.part s takes; cost = cost; outcome = outcome }

module _ (old mid new : TallyState) (place : SegmentPlace) (s s' : SegmentEnd) (takes : Takes old.ends place.message place.part s mid.ends) (only : mid ≡ record old { ends = mid.ends }) where
  other : put mid.ends place.message place.part s' ≡ put old.ends place.message place.part s'
  other = given_other old.ends mid.ends (put mid.ends place.message place.part s') place.message place.part s s' takes refl

  -- another is given back
  pub tally_given : new ≡ record mid { ends = put mid.ends place.message place.part s' } → new ≡ record old { ends = put old.ends place.message place.part s' }
  tally_given now = now ∙ ap (λ (t : TallyState). record t { ends = put mid.ends place.message place.part s' }) only ∙ ap (λ l. record old { ends = l }) other

  -- the same is given back
  pub tally_same : new ≡ record mid { ends = put mid.ends place.message place.part s' } → s' ≡ s → new ≡ old
  tally_same now same = tally_given now ∙ ap (λ l. record old { ends = l }) (ap (put old.ends place.message place.part) same ∙ put_same old.ends place.message place.part s takes.0)

  -- another is given back, with its outcome
  pub tally_settled : (account : Option ℕ) → new ≡ record mid { share = settled_to s'.outcome account s'.cost mid.share; ends = put mid.ends place.message place.part s' }
      → new ≡ record old { share = settled_to s'.outcome account s'.cost old.share; ends = put old.ends place.message place.part s' }
  tally_settled account now = now ∙ ap (λ (t : TallyState). record t { share = settled_to s'.outcome account s'.cost t.share; ends = put mid.ends place.message place.part s' }) only ∙ ap (λ l. record old { share = settled_to s'.outcome account s'.cost old.share; ends = l }) other
