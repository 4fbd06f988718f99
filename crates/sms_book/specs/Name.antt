-- Which book it is: its table, how many accounts and workers it has, the credits that each account begins with, and
-- whether it is sealed: then no account is ever topped up.
use Rattle.std.specs.Prelude.{ℕ, Bool, List, [], true, false}
use Rattle.atomic_table.specs.Seated.{TableId}

pub record BookId : Type 0 where
  pub table : TableId
  pub accounts : ℕ
  pub workers : ℕ
  pub opening : List ℕ
  pub sealed : Bool

-- the name of no book
abbrev pub no_book : BookId
no_book = record { table = record { words = 0; slots = 0; views_name = 0; atom = 0; block = 0; offset = 0; slot_names = [] }; accounts = 0; workers = 0; opening = []; sealed = false }

-- the book of this name, sealed
abbrev pub as_sealed : BookId → BookId
as_sealed book = record book { sealed = true }

-- a book that isn't open yet, as contracts see it: its name, and each account's credits
pub record Unopened : Type 0 where
  pub book : BookId
  pub credits : List ℕ
