-- The bind that settings are written as (SMPP 3.4 4.1).
use Rattle.std.specs.Prelude.{ℕ, List, []}
use Rattle.sms_pdu.specs.declared.body.Pdu.{Pdu}
use Rattle.sms_pdu.specs.declared.body.Body.TheVariants.{Bind}
use Rattle.sms_pdu.specs.declared.command.Mode.{Mode}

-- the fields of the settings
pub record Setting : Type 0 where
  pub mode : Mode
  pub system_id : List ℕ
  pub password : List ℕ
  pub system_type : List ℕ

abbrev pub setting : Mode → List ℕ → List ℕ → List ℕ → Setting
setting mode system_id password system_type = record { mode = mode; system_id = system_id; password = password; system_type = system_type }

-- version 3.4, no type of number, no plan and no range of addresses
abbrev pub bind_pdu : Setting → ℕ → Pdu
bind_pdu s number = record { status = 0; number = number; body = Bind s.mode s.system_id s.password s.system_type 0x34 0 0 [] }
