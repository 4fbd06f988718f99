-- A worker's share of the book together with the ends of its messages, of which it is the sums.
use Rattle.std.specs.Prelude.{◌≡◌, ℕ, List, Some}
use Rattle.sms_book.specs.Shares.{Share}
use Rattle.sms_message.specs.Ends.{segment_at}
use Rattle.sms_worker.specs.Start.{Start}
use Rattle.sms_worker.specs.Told.{Grew}
use Rattle.sms_worker.specs.Types.{MessageEnd, SegmentEnd}
use Rattle.sms_worker.specs.declared.state.open.SegmentPlace.{SegmentPlace}

-- the share, the ends so far, and how many ends there is room for
pub record TallyState : Type 0 where
  pub share : Share
  pub ends : List MessageEnd
  pub room : ℕ

-- since the call began each amount of the share has grown by the sum over the ends
abbrev pub AreSums : Start → Share → List MessageEnd → Type 0
AreSums start share es = Grew start.share.amounts share.amounts start.messages es

-- the segment end at the place has the cost and the outcome of this one
pub record IsLike (es : List MessageEnd) (place : SegmentPlace) (s : SegmentEnd) : Type 0 where
  pub there : SegmentEnd
  pub at : segment_at es place.message place.part ≡ Some there
  pub cost : s.cost ≡ there.cost
  pub outcome : s.outcome ≡ there.outcome
