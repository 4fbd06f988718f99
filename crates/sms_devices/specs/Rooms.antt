-- How many octets may wait for a connection.
use Rattle.sms_devices.specs.declared.transport.room.Room.{Room}
use Rattle.sms_devices.specs.declared.journal.WaitsFor.{WaitsFor}
use Rattle.sms_devices.specs.declared.journal.WaitsFor.TheVariants.{Disk, File, Nothing}

-- the room, by what each write waits for
abbrev pub room_before : WaitsFor → Room
room_before Nothing = record { first = 1024; most = 8192 }
room_before File = record { first = 8192; most = 8192 }
room_before Disk = record { first = 32768; most = 32768 }
