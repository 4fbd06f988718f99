use Rattle.sms_devices.proofs.FrameEvents.{stream_events, rest_has_no_event, bad_events}
use Rattle.sms_devices.proofs.waking.headers.each_frame_is_one_event.Goals as goal

pub returns-clause-frames : goal.returns-clause-frames
returns-clause-frames c = stream_events

pub returns-clause-rest : goal.returns-clause-rest
returns-clause-rest c = λ stream rest frames d. rest_has_no_event rest d.ended

pub returns-clause-bad : goal.returns-clause-bad
returns-clause-bad c = bad_events
