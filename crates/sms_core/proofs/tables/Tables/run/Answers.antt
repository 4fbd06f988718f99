use Rattle.std.proofs.Common.{◌<◌, ◌∙◌, List, [], refl, sym, ap, subst, get_or, take, length, if◌then◌else◌, arith, rules}
use Rattle.std.proofs.lemmas.List.{take_more, take_all}
use Rattle.std.proofs.lemmas.List.Sums.{sum_by-drop_more}
use Rattle.sms_core.specs.declared.event.Event.{Event}
use Rattle.sms_core.specs.declared.event.Event.TheVariants.{TopUp}
use Rattle.sms_core.specs.declared.event.Step.{Step}
use Rattle.sms_core.specs.Histories.{Runs}
use Rattle.sms_core.specs.Tables.{state_of, takes_memory}
use Rattle.sms_core.proofs.Running.{runs_more}
use Rattle.sms_core.proofs.tables.Tables.run.Goals as goal

pub loop-event-preserved : goal.loop-event-preserved
loop-event-preserved c =
    let events = c.args.events.now in let i = c.loop-event.event-index in let old = c.loop-event in
    let below : i < length events = omega arith in
    let event : Event = get_or events i (TopUp 0 0) in
    let more = runs_more (state_of c.args.self.now) (take i events) old.answers.items (state_of old.self) event c.in-Ok.answer (state_of c.step.new.self) old.invariant.runs c.in-Ok.ensures.step in
    record {
      runs = record {
        moments = more.moments;
        history = more.history;
        asked = more.asked ∙ sym (take_more events i (TopUp 0 0) below);
        told = more.told ∙ sym c.in-Ok-push.ensures.items;
      };
      sound = c.in-Ok.ensures.sound;
      len = search rules;
      answers_fit = search rules;
      requests_fit = omega (arith, sum_by-drop_more (λ (e : Event). if takes_memory e then 1 else 0) events i (TopUp 0 0) below, old.invariant.requests_fit, c.in-Ok.ensures.room);
    }

pub loop-event-init : goal.loop-event-init
loop-event-init c = record {
  runs = record { moments = []; history = refl; asked = refl; told = sym c.requires.none };
  sound = c.requires.sound;
  len = let none = ap (length {A = Step}) c.requires.none in omega arith;
  answers_fit = c.requires.answers_fit;
  requests_fit = c.requires.requests_fit;
}

pub returns-clause-runs : goal.returns-clause-runs
returns-clause-runs c =
    subst (λ (events : List Event). Runs (state_of c.args.self.now) events c.loop-event.answers.items (state_of c.loop-event.self)) (take_all c.loop-event.event-index c.args.events.now c.loop-event-test.false)
    c.loop-event.invariant.runs

pub returns-clause-sound : goal.returns-clause-sound
returns-clause-sound c = c.loop-event.invariant.sound
