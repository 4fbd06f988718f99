use Rattle.std.proofs.Common.{Option, ◌-◌, ◌∙◌, ap, arith, length, rules, subst, sym}
use Rattle.std.proofs.lemmas.List.{length-map}
use Rattle.std.specs.List.{AllZip}
use Rattle.sms_driver.specs.Rings.{IsNewPair}
use Rattle.sms_bind.specs.Logs.{BeginsBehind}
use Rattle.sms_bind.specs.Wires.{writer}
use Rattle.sms_session.specs.Settings.{Setting}
use Rattle.sms_window.specs.declared.view.View.{View}
use Rattle.sms_window.proofs.Names.{can_split}
use Rattle.sms_driver.proofs.binding.make_bind.Goals as goal

pub split_seats-requires-clause-names : goal.split_seats-requires-clause-names
split_seats-requires-clause-names g c =
    let few = c.requires.bound in
    let long = c.requires.rings in
    (64, omega arith, omega arith, c.in_ok-window.ensures.names)

pub split-seat-requires-clause-names : goal.split-seat-requires-clause-names
split-seat-requires-clause-names g c =
    let few = c.requires.bound in
    let long = c.requires.rings in
    can_split (64 - length c.args.rings.consumers.items) _ (omega arith) (omega arith) (c.in-Ok.ensures.names 64 (omega arith) (omega arith) c.in_ok-window.ensures.names)

pub returns-clause-seated : goal.returns-clause-seated
returns-clause-seated g c = record {
  keeper = search rules;
  seats = search rules;
  all = sym (length-map c.in-Ok.seats.items (λ w. w.consumer)) ∙ ap length c.in-Ok.ensures.consumers ∙ c.requires.rings;
  pairs = subst (AllZip IsNewPair c.args.rings.producers.items) (sym c.in-Ok.ensures.consumers) c.requires.pairs;
}

pub returns-clause-set : goal.returns-clause-set
returns-clause-set g c =
    let kept = c.in-Ok.ensures.kept in
    let keeper = c.in_ok-window.ensures.keeper in
    record {
      slots = ap (λ (v : View). v.slots) c.split-seat.ensures.giver ∙ kept.0 ∙ keeper.0;
      first = ap (λ (v : View). v.first) c.split-seat.ensures.giver ∙ kept.2 ∙ keeper.1;
      follow = c.follow_of.ensures;
    }

pub returns-clause-asked : goal.returns-clause-asked
returns-clause-asked g c = (
  ap (λ (v : View). v.numbers) c.split-seat.ensures.giver ∙ c.in-Ok.ensures.kept.1 ∙ c.in_ok-window.ensures.number,
  rw c.of-asked.ensures c.in_ok-reader.ensures.asked,
)

pub new_driver_seat-driver_seat-requires : goal.new_driver_seat-driver_seat-requires
new_driver_seat-driver_seat-requires g c = (let few = c.requires.few in record { few = omega arith })

pub line_over-requires-clause-few : goal.line_over-requires-clause-few
line_over-requires-clause-few g c = (let few = c.requires.few in let more = c.new_driver_seat-driver_seat.ensures.log.away in omega arith)

pub line_over-requires-clause-behind : goal.line_over-requires-clause-behind
line_over-requires-clause-behind g c =
    let dialled = g.D.Writer.Write.contents (writer c.in_ok-reader.field-0.dialled.value) in
    subst (λ (s : Option Setting). BeginsBehind s (g.D.Writer.Write.contents (writer c.in_ok-reader.field-0.wire))) (sym c.requires.settings) (c.in_ok-window.field-0.number, dialled, c.in_ok-reader.ensures.asked)

pub returns-clause-log : goal.returns-clause-log
returns-clause-log g c =
    let seat = c.new_driver_seat-driver_seat.ensures.log in
    let line = c.in_ok-line.ensures.log in
    record { away = (let one = seat.away in let other = line.away in omega arith); given = line.given ∙ seat.given; requests = line.requests ∙ seat.requests }
