-- What each kind of step tells the seat that makes it.
use Rattle.std.specs.Prelude.{◌≡◌, ◌≢◌, ℕ, ◌+◌, ◌-◌, ◌^◌, ◌<◌, ◌≤◌, List, [], ◌∷◌, ◌++◌, bit_and}
use Rattle.std.specs.Int.{bit_at}
use Rattle.atomic_table.specs.Table.{Step, Me}
use Rattle.sms_core.specs.Holds.{weigh, IsLawful, word_of, Claims, Releases}
use Rattle.sms_core.specs.Limits.{most_slots, top_number}
use Rattle.sms_core.specs.Numbers.{times, AreDrawn, Draws}
use Rattle.sms_window.specs.declared.view.View.{View}
use Rattle.sms_window.specs.Seats.{used_up, IsWhole, own_pairs, met_with, with_slots, seen_with, drawn_with, Holds}

-- a lawful hold set with this word, and the seat's pairs are in it
pub record IsHoldSet (v : View) (bits : ℕ) (pairs : List (ℕ × ℕ)) : Type 0 where
  pub lawful : IsLawful pairs
  pub word : word_of pairs ≡ bits
  pub own : (f : ℕ × ℕ → ℕ) → weigh f (own_pairs v) ≤ weigh f pairs

-- its `met` is the word of a lawful hold set that has its pairs, so its slots are bits of it
abbrev pub HasMet : View → Type 0
HasMet v = (pairs : List (ℕ × ℕ)) × IsHoldSet v v.met pairs

-- The seat v became w by a claim: there are hold sets with the word that it found and the word that
-- it left, and the second is the first after the seat's claim of the slot
pub record IsClaim (v : View) (slot word : ℕ) (w : View) : Type 0 where
  pub old : List (ℕ × ℕ)
  pub new : List (ℕ × ℕ)
  pub before : IsHoldSet v word old
  pub after : IsHoldSet w w.met new
  pub claims : Claims old v.name slot new
  pub free : bit_at v.slots slot ≡ 0

-- The same for a release
pub record IsRelease (v : View) (slot word : ℕ) (w : View) : Type 0 where
  pub old : List (ℕ × ℕ)
  pub new : List (ℕ × ℕ)
  pub before : IsHoldSet v word old
  pub after : IsHoldSet w w.met new
  pub releases : Releases old v.name slot new

-- The seat v became w by a draw: `all` are the numbers that all seats drew before it, the seat's
-- own among them, and with n they are each number from the first to n once
pub record IsDraw (v : View) (n : ℕ) (w : View) : Type 0 where
  pub all : List ℕ
  pub own : (x : ℕ) → times x v.numbers ≤ times x all
  pub before : AreDrawn v.first n all
  pub after : AreDrawn v.first (n + 1) (all ++ n ∷ [])
  pub draws : Draws v.numbers n w.numbers w.seen

-- A load of the window word. In each of these records v is the seat before the step and w after it,
-- `found` the word that the step found, and `word` tells which of the two words it was
pub record WindowLoad (word : ℕ) (v : View) (found : ℕ) (w : View) : Type 0 where
  pub on : word ≡ 0
  pub after : w ≡ met_with v found
  pub whole : IsWhole v.name v.family v.slots
  pub met : HasMet w

-- An exchange of the window word for one with a slot more, which is clear in the old one. Where it
-- finds the old one, the seat claims the slot; else it looked at what it found
pub record ClaimExchange (word old new : ℕ) (v : View) (found : ℕ) (w : View) : Type 0 where
  pub on : word ≡ 0
  pub slot : ℕ
  pub inside : slot < most_slots
  pub clear : bit_at old slot ≡ 0
  pub more : new ≡ old + 2 ^ slot
  pub hit : found ≡ old → (w ≡ with_slots v (v.slots + 2 ^ slot) new) × IsClaim v slot found w
  pub miss : found ≢ old → w ≡ met_with v found

-- A change of the window word by a mask of all bits but one, whose slot the seat holds
pub record ReleaseFetch (word mask : ℕ) (v : View) (found : ℕ) (w : View) : Type 0 where
  pub on : word ≡ 0
  pub slot : ℕ
  pub held : Holds v slot
  pub less : mask ≡ 2 ^ 64 - 1 - 2 ^ slot
  pub after : w ≡ with_slots v (v.slots - 2 ^ slot) (bit_and found mask)
  pub release : IsRelease v slot found w

-- A load of the number word, which never falls
pub record NumberLoad (word : ℕ) (v : View) (found : ℕ) (w : View) : Type 0 where
  pub on : word ≡ 1
  pub after : w ≡ seen_with v found
  pub later : v.seen ≤ found
  pub top : found ≤ used_up

-- An exchange of the number word for the next number. Where it finds the old one, the seat draws it;
-- else it looked at what it found
pub record DrawExchange (word old new : ℕ) (v : View) (found : ℕ) (w : View) : Type 0 where
  pub on : word ≡ 1
  pub lawful : old ≤ top_number
  pub next : new ≡ old + 1
  pub later : v.seen ≤ found
  pub top : found ≤ used_up
  pub hit : found ≡ old → (w ≡ drawn_with v found) × IsDraw v found w
  pub miss : found ≢ old → w ≡ seen_with v found

-- The same as `atomic_table` wants them: a seat of a window takes no values with it
module _ {S : Type 0} where
  abbrev pub load_window : Step S → Me S View → ℕ → Me S View → Type 0
  load_window st me found me' = WindowLoad st.word me.0 found me'.0 × (me'.1 ≡ me.1)

  abbrev pub exchange_claim : Step S → Me S View → ℕ → Me S View → Type 0
  exchange_claim st me found me' = ClaimExchange st.word st.first st.second me.0 found me'.0 × (me'.1 ≡ me.1)

  abbrev pub fetch_release : Step S → Me S View → ℕ → Me S View → Type 0
  fetch_release st me found me' = ReleaseFetch st.word st.first me.0 found me'.0 × (me'.1 ≡ me.1)

  abbrev pub load_number : Step S → Me S View → ℕ → Me S View → Type 0
  load_number st me found me' = NumberLoad st.word me.0 found me'.0 × (me'.1 ≡ me.1)

  abbrev pub exchange_draw : Step S → Me S View → ℕ → Me S View → Type 0
  exchange_draw st me found me' = DrawExchange st.word st.first st.second me.0 found me'.0 × (me'.1 ≡ me.1)
