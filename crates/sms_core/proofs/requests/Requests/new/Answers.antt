use Rattle.sms_core.proofs.Growing.{no_links}
use Rattle.sms_core.proofs.requests.Requests.new.Goals as goal

pub invariant_of-result : goal.invariant_of-result
invariant_of-result c = rw (c.new.ensures.items, c.in_ok-vec.ensures.items_if_clones_equal (λ y h. h)) no_links
