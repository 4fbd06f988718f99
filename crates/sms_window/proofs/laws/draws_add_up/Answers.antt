use Rattle.sms_window.proofs.Drawing.{draws_none, draws_one, looks_draw_none, claims_draw_none, releases_draw_none, draws_add_up, draws_each_once}
use Rattle.sms_window.proofs.laws.draws_add_up.Goals as goal

pub returns-clause-none : goal.returns-clause-none
returns-clause-none c = draws_none

pub returns-clause-one : goal.returns-clause-one
returns-clause-one c = draws_one

pub returns-clause-looks : goal.returns-clause-looks
returns-clause-looks c = looks_draw_none

pub returns-clause-claims : goal.returns-clause-claims
returns-clause-claims c = claims_draw_none

pub returns-clause-releases : goal.returns-clause-releases
returns-clause-releases c = releases_draw_none

pub returns-clause-stretches : goal.returns-clause-stretches
returns-clause-stretches c = draws_add_up

pub returns-clause-once : goal.returns-clause-once
returns-clause-once c = draws_each_once
