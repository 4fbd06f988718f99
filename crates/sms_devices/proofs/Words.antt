-- What a word says of the numbers.
use Rattle.std.proofs.Common.{◌≡◌, ℕ, ◌<◌, Some, None, if◌then◌else◌, ◌==◌, ap₂}
use Rattle.std.proofs.lemmas.Nat.{div-mul-add, mod-mul-add}
use Rattle.sms_devices.specs.Wakes.{owner_in, word_of}

pub own_word : (number other worker : ℕ) → worker < 256 → owner_in (word_of number worker) other ≡ (if number == other then Some worker else None)
own_word number other worker small =
    ap₂ (λ n w. if n == other then Some w else None) (div-mul-add number 256 worker small) (mod-mul-add number 256 worker small)
