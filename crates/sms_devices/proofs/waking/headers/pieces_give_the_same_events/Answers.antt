use Rattle.sms_devices.proofs.FrameEvents.{after_octets-append, events_in-append}
use Rattle.sms_devices.proofs.waking.headers.pieces_give_the_same_events.Goals as goal

pub returns-clause-state : goal.returns-clause-state
returns-clause-state c = after_octets-append

pub returns-clause-events : goal.returns-clause-events
returns-clause-events c = events_in-append
