-- Where a connection leads.
use Rattle.std.specs.Prelude.{ℕ, List}

-- to the program's own test centre, whose script has the status of the answer to a bind and the texts of the other answers;
-- or to a port of a host
pub data CentreAt : Type 0 where
  Own : (bind_status : ℕ) → (answers : List (List ℕ)) → CentreAt
  Named : (host : List ℕ) → (port : ℕ) → CentreAt
