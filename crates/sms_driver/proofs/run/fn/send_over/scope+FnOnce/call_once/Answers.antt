use denote.Param.Send.{sendable}
use Rattle.sms_driver.proofs.run.fn.send_over.scope+FnOnce.call_once.Goals as goal

pub scope-requires : goal.scope-requires
scope-requires g c = (search sendable, (search sendable, (search sendable, (search sendable, (search sendable, (search sendable, (search sendable, search sendable)))))))
