use Rattle.sms_window.proofs.Ties.{fetch_is_release}
use Rattle.sms_window.proofs.laws.fetch_is_release.Goals as goal

pub returns : goal.returns
returns c = fetch_is_release
