-- Binds that were opened, one after another.
use Rattle.std.proofs.Common.{◌≡◌, ◌+◌, ◌++◌, ℕ, List, [], ◌∷◌, length, Option, subst, arith}
use Rattle.sms_pdu.specs.declared.command.Mode.{Mode}
use Rattle.sms_pdu.specs.Devices.{device}
use Rattle.sms_driver.specs.declared.binding.binds.BindParts.{BindParts}
use Rattle.sms_driver.specs.Reads.{IsOpened, AreOpened}

module _ {Rd : Type 0} (remaining : Rd → Option (List ℕ)) (mode : Mode) (told : ℕ → Option (List ℕ)) where
  abbrev OpenedAt : ℕ → BindParts Rd → Type 0
  OpenedAt bind parts = IsOpened mode (told bind) (remaining (device parts.reader)) parts.bound

  one_behind : (bind : ℕ) (ps : List (BindParts Rd)) (p : BindParts Rd) → AreOpened remaining mode told bind ps → OpenedAt (bind + length ps) p → AreOpened remaining mode told bind (ps ++ p ∷ [])
  one_behind bind [] p all one = let e : bind + 0 ≡ bind = omega arith in (subst (λ (n : ℕ). OpenedAt n p) e one, tt)
  one_behind bind (q ∷ ps) p all one =
      let e : bind + length (q ∷ ps) ≡ (bind + 1) + length ps = omega arith in
      (all.0, one_behind (bind + 1) ps p all.1 (subst (λ (n : ℕ). OpenedAt n p) e one))

  -- one bind more
  pub one_opened : (ps : List (BindParts Rd)) (p : BindParts Rd) → AreOpened remaining mode told 0 ps → OpenedAt (length ps) p → AreOpened remaining mode told 0 (ps ++ p ∷ [])
  one_opened ps p all one = let e : length ps ≡ 0 + length ps = omega arith in one_behind 0 ps p all (subst (λ (n : ℕ). OpenedAt n p) e one)
