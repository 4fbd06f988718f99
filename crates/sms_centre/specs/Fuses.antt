-- What contracts see of a fuse.
use Rattle.std.specs.Prelude.{ℕ}
use Rattle.sms_centre.specs.declared.fuse.Fuse.{Fuse}

-- the reader or writer itself
abbrev pub device : {T : Type 0} → Fuse T → T
device fuse = fuse.inner

-- how many octets it still passes
abbrev pub octets_left : {T : Type 0} → Fuse T → ℕ
octets_left fuse = fuse.left
