-- The requests of a world as a list, with the room that is left in it.
use Rattle.std.specs.Prelude.{◌≡◌, ℕ, suc, ◌==◌, List, [], ◌∷◌, slice_get, Option, Some, None, if◌then◌else◌}
use Rattle.std.specs.Option.{option_map}
use Rattle.sms_core.specs.declared.request.Request.{Request}

pub record Listed : Type 0 where
  pub list : List Request
  -- the links by which they are found
  pub links : List ℕ
  -- how many more requests surely fit without memory being taken
  pub room : ℕ

-- the place of the first request of this name
abbrev pub place_of : ℕ → List Request → Option ℕ
place_of id [] = None
place_of id (r ∷ rs) = if r.id == id then Some 0 else option_map suc (place_of id rs)

-- the request at a place of the list, the first of its name
abbrev pub StandsAt : List Request → ℕ → Request → Type 0
StandsAt rs place r = (place_of r.id rs ≡ Some place) × (slice_get rs place ≡ Some r)
