-- The numbers of a command_status (SMPP 3.4 5.1.3), in numbers of the definitions' own: the code's constants are compared
-- with them.
use Rattle.std.specs.Prelude.{ℕ}

-- ESME_ROK
abbrev pub no_error : ℕ
no_error = 0x00

-- ESME_RINVCMDLEN
abbrev pub bad_command_length : ℕ
bad_command_length = 0x02

-- ESME_RINVCMDID
abbrev pub bad_command_id : ℕ
bad_command_id = 0x03

-- ESME_RINVBNDSTS
abbrev pub wrong_bind_state : ℕ
wrong_bind_state = 0x04

-- ESME_RALYBND
abbrev pub already_bound : ℕ
already_bound = 0x05

-- ESME_RSYSERR
abbrev pub system_error : ℕ
system_error = 0x08

-- ESME_RINVDSTADR
abbrev pub bad_destination : ℕ
bad_destination = 0x0B

-- ESME_RBINDFAIL
abbrev pub bind_failed : ℕ
bind_failed = 0x0D

-- ESME_RINVPASWD
abbrev pub bad_password : ℕ
bad_password = 0x0E

-- ESME_RINVSYSID
abbrev pub bad_system_id : ℕ
bad_system_id = 0x0F

-- ESME_RMSGQFUL
abbrev pub queue_full : ℕ
queue_full = 0x14

-- ESME_RSUBMITFAIL
abbrev pub submit_failed : ℕ
submit_failed = 0x45

-- ESME_RTHROTTLED
abbrev pub throttled : ℕ
throttled = 0x58
