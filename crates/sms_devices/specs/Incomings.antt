-- What has come in on a connection, as far as it matters to the device.
use Rattle.std.specs.Prelude.{◌≡◌, ℕ, Bool, List, [], if◌then◌else◌}
use Rattle.sms_devices.specs.declared.waking.incoming.Incoming.{Incoming}
use Rattle.sms_devices.specs.Headers.{events_in, after_octets}
use Rattle.sms_devices.specs.Openings.{is_whole_frame, seen_all}
use Rattle.sms_devices.specs.Wakes.{Woke, nobody}

-- octets came in. They are counted until the first frame is whole. If the owners of the bind's numbers are known, each frame that ends in
-- them adds whom it wakes; otherwise nobody is added
pub record Received (known : Bool) (octets : List ℕ) (old new : Incoming) : Type 0 where
  pub opening : new.opening ≡ (if is_whole_frame old.opening then old.opening else seen_all octets old.opening)
  pub headers : new.headers ≡ (if known then after_octets old.headers octets else old.headers)
  pub woken : Woke (if known then events_in old.headers octets else []) old.wakes new.wakes

-- everybody that was to be woken was
abbrev pub all_woken : Incoming → Incoming
all_woken i = record { opening = i.opening; headers = i.headers; wakes = nobody }
