use Rattle.sms_files.proofs.Keys.{tells_first, tells_later, none_later, no_fault}
use Rattle.sms_files.proofs.Runs.{told_so}
use Rattle.sms_files.proofs.TimeTexts.{service_room}
use Rattle.sms_files.proofs.fields.reading.addressing_at.Goals as goal

pub returns-in_err-service_type-clause-refused : goal.returns-in_err-service_type-clause-refused
returns-in_err-service_type-clause-refused c = told_so c.from_residual.result _ _ c.from_residual.ensures.1 (tells_first _ _ _ _ c.in_err-service_type.ensures.refused)

pub returns-in_err-source_ton-clause-refused : goal.returns-in_err-source_ton-clause-refused
returns-in_err-source_ton-clause-refused c = told_so c.from_residual-in_err-source_ton.result _ _ c.from_residual-in_err-source_ton.ensures.1 (tells_later _ _ _ _ (no_fault _ _ _ c.in_ok-service_type.ensures.octets) (tells_first _ _ _ _ c.in_err-source_ton.ensures.refused))

pub returns-in_err-source_npi-clause-refused : goal.returns-in_err-source_npi-clause-refused
returns-in_err-source_npi-clause-refused c = told_so c.from_residual-in_err-source_npi.result _ _ c.from_residual-in_err-source_npi.ensures.1 (tells_later _ _ _ _ (no_fault _ _ _ c.in_ok-service_type.ensures.octets) (tells_later _ _ _ _ (no_fault _ _ _ c.in_ok-source_ton.ensures.octet) (tells_first _ _ _ _ c.in_err-source_npi.ensures.refused)))

pub returns-in_err-dest_ton-clause-refused : goal.returns-in_err-dest_ton-clause-refused
returns-in_err-dest_ton-clause-refused c = told_so c.from_residual-in_err-dest_ton.result _ _ c.from_residual-in_err-dest_ton.ensures.1 (tells_later _ _ _ _ (no_fault _ _ _ c.in_ok-service_type.ensures.octets) (tells_later _ _ _ _ (no_fault _ _ _ c.in_ok-source_ton.ensures.octet) (tells_later _ _ _ _ (no_fault _ _ _ c.in_ok-source_npi.ensures.octet) (tells_first _ _ _ _ c.in_err-dest_ton.ensures.refused))))

pub returns-in_err-dest_npi-clause-refused : goal.returns-in_err-dest_npi-clause-refused
returns-in_err-dest_npi-clause-refused c = told_so c.from_residual-in_err-dest_npi.result _ _ c.from_residual-in_err-dest_npi.ensures.1 (tells_later _ _ _ _ (no_fault _ _ _ c.in_ok-service_type.ensures.octets) (tells_later _ _ _ _ (no_fault _ _ _ c.in_ok-source_ton.ensures.octet) (tells_later _ _ _ _ (no_fault _ _ _ c.in_ok-source_npi.ensures.octet) (tells_later _ _ _ _ (no_fault _ _ _ c.in_ok-dest_ton.ensures.octet) c.in_err-dest_npi.ensures.refused))))

pub returns-clause-faultless : goal.returns-clause-faultless
returns-clause-faultless c = none_later _ _ (no_fault _ _ _ c.in_ok-service_type.ensures.octets) (none_later _ _ (no_fault _ _ _ c.in_ok-source_ton.ensures.octet) (none_later _ _ (no_fault _ _ _ c.in_ok-source_npi.ensures.octet) (none_later _ _ (no_fault _ _ _ c.in_ok-dest_ton.ensures.octet) (no_fault _ _ _ c.in_ok-dest_npi.ensures.octet))))

pub returns-clause-says : goal.returns-clause-says
returns-clause-says c = record {
  service_type = c.in_ok-service_type.ensures.octets;
  source_ton = c.in_ok-source_ton.ensures.octet;
  source_npi = c.in_ok-source_npi.ensures.octet;
  dest_ton = c.in_ok-dest_ton.ensures.octet;
  dest_npi = c.in_ok-dest_npi.ensures.octet;
}

pub returns-clause-room : goal.returns-clause-room
returns-clause-room c = service_room _ c.in_ok-service_type.ensures.fits
