-- The rings between a bind's reader and its workers.
use Rattle.std.specs.Prelude.{◌≡◌, List, [], ◌∷◌, ◌++◌}
use Rattle.rtrb.specs.Ring.{IsPair, sent, received, known_free}
use Rattle.sms_core.specs.Limits.{most_slots}
use Rattle.rtrb.specs.declared.producer.Producer.{Producer}
use Rattle.rtrb.specs.declared.consumer.Consumer.{Consumer}

module _ {T A P : Type 0} where
  -- the two ends of one empty ring, with room for as many answers as a window has slots
  abbrev pub IsNewPair : Producer T A P → Consumer T A P → Type 0
  IsNewPair p c = IsPair p c × (sent p ≡ []) × (received c ≡ []) × (known_free p ≡ most_slots)

-- the lists one after another
abbrev pub flat : {X : Type 0} → List (List X) → List X
flat [] = []
flat (l ∷ ls) = l ++ flat ls
