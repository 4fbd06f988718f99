use Rattle.std.proofs.Common.{◌≡◌, ℕ, List, [], sym, ap, ◌∙◌, subst, rules}
use Rattle.sms_window.specs.declared.view.View.{View}
use Rattle.sms_window.specs.OpenSlots.{IsOpen}
use Rattle.sms_window.proofs.OpenSlots.{one_last, none_left}
use Rattle.sms_window.proofs.Drawing.{releases_draw_none}
use Rattle.sms_worker.specs.declared.state.open.Open.{Open}
use Rattle.sms_worker.specs.Keeps.{slots_of}
use Rattle.sms_worker.proofs.Changes.{slots-append}
use Rattle.sms_worker.proofs.entry.work.release_all.Goals as goal

pub take-requires : goal.take-requires
take-requires g c =
    let i = c.loop-last.invariant in
    let o = subst (λ (l : List ℕ). IsOpen i.some.0 l c.loop-last.seat.view.slots) (ap slots_of c.in-Some.ensures.items ∙ slots-append c.pop.new.self.items c.in-Some.last) i.some.1 in
    record { slot = (one_last i.some.0 c.loop-last.seat.view.slots c.in-Some.last.slot (slots_of c.pop.new.self.items) o).within }

pub release-requires-clause-held : goal.release-requires-clause-held
release-requires-clause-held g c =
    let i = c.loop-last.invariant in
    let o = subst (λ (l : List ℕ). IsOpen i.some.0 l c.loop-last.seat.view.slots) (ap slots_of c.in-Some.ensures.items ∙ slots-append c.pop.new.self.items c.in-Some.last) i.some.1 in
    let t = one_last i.some.0 c.loop-last.seat.view.slots c.in-Some.last.slot (slots_of c.pop.new.self.items) o in
    (t.within, t.held)

pub loop-last-preserved : goal.loop-last-preserved
loop-last-preserved g c =
    let i = c.loop-last.invariant in
    let after = c.release.ensures.freed.after in
    let moved = λ (base : ℕ) (o : IsOpen base (slots_of c.loop-last.opened.items) c.loop-last.seat.view.slots).
    subst (IsOpen base (slots_of c.pop.new.self.items)) (sym (ap (λ (v : View). v.slots) after))
    (one_last base c.loop-last.seat.view.slots c.in-Some.last.slot (slots_of c.pop.new.self.items) (subst (λ (l : List ℕ). IsOpen base l c.loop-last.seat.view.slots) (ap slots_of c.in-Some.ensures.items ∙ slots-append c.pop.new.self.items c.in-Some.last) o)).rest in
    record {
      same_window = c.release.ensures.window ∙ i.same_window;
      some = (i.some.0, moved i.some.0 i.some.1);
      all = λ base o. moved base (i.all base o);
      numbers = releases_draw_none _ _ _ [] c.in-Some.last.slot i.numbers c.release.ensures.freed;
    }

pub returns-clause-slots : goal.returns-clause-slots
returns-clause-slots g c base o =
    let i = c.loop-last.invariant in
    let nothing_left : c.loop-last.opened.items ≡ [] = search rules in
    none_left base c.loop-last.seat.view.slots (subst (λ (l : List Open). IsOpen base (slots_of l) c.loop-last.seat.view.slots) nothing_left (i.all base o))
