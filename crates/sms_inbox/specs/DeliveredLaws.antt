-- What holds of every message of which receipts came.
use Rattle.std.specs.Prelude.{◌≡◌, ℕ, ◌↔◌, true, false, List, ◌++◌, Some, None}
use Rattle.std.specs.List.{list_any}
use Rattle.sms_inbox.specs.declared.ids.Ids.{Ids}
use Rattle.sms_inbox.specs.declared.record.Record.{Record}
use Rattle.sms_inbox.specs.Delivered.{has_final, heard, is_of}

-- once a final state was heard of a message, nothing that comes later changes it
abbrev pub FinalsStay : Type 0
FinalsStay = (ids : Ids) (records more : List Record) (id : List ℕ) (r : Record) → heard ids records id ≡ Some r → has_final r ≡ true → heard ids (records ++ more) id ≡ Some r

-- what is heard of a message has its id
abbrev pub HeardIsOwn : Type 0
HeardIsOwn = (ids : Ids) (records : List Record) (id : List ℕ) (r : Record) → heard ids records id ≡ Some r → is_of ids id r ≡ true

-- nothing is heard exactly where no record has its id
abbrev pub NoneIsOfNone : Type 0
NoneIsOfNone = (ids : Ids) (records : List Record) (id : List ℕ) → (heard ids records id ≡ None) ↔ (list_any (is_of ids id) records ≡ false)
