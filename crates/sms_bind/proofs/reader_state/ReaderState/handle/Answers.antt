use Rattle.std.proofs.Common.{◌≡◌, [], ◌∷◌, Option, map, refl, ap, sym, ◌∙◌, append-nil, subst, rules}
use Rattle.rtrb.specs.Ring.{sent, known_free}
use Rattle.sms_pdu.specs.Header.{header_at_front}
use Rattle.sms_session.specs.Session.{on_table}
use Rattle.sms_slot.specs.Rings.{handed}
use Rattle.sms_bind.specs.declared.ending.ReaderCause.{ReaderCause}
use Rattle.sms_bind.specs.Deeds.{Reaches, tally, entry, cause_after, broken_at}
use Rattle.sms_bind.proofs.Tables.{next_same}
use Rattle.sms_bind.proofs.Logs.{reached, broke}
use Rattle.sms_bind.proofs.reader_state.ReaderState.handle.Goals as goal

pub returns-clause-handled : goal.returns-clause-handled
returns-clause-handled g c =
    let deed = c.dispatch-outcome.result in
    let s = c.args.self.now.session in
    let t = (on_table s (header_at_front c.args.frame.now)).1 in
    let next = next_same s (header_at_front c.args.frame.now) in
    let end : cause_after deed t ≡ c.cause_of.result = search rules in
    record {
      deeds = deed ∷ [];
      each = (c.dispatch-outcome.ensures.suits, (λ more. absurd (more refl)), tt);
      reaches = subst (λ (e : Option ReaderCause). Reaches e s t) end (reached s t deed next);
      breaks = broke s t deed next ∙ ap broken_at end;
      keeps = c.dispatch-outcome.ensures.unchanged.1;
      rings = c.dispatch-outcome.ensures.rings;
      sends = c.dispatch-outcome.ensures.sends ∙ ap (handed (map sent c.args.self.now.producers.items)) (sym (append-nil (entry deed)));
      room = (map known_free c.dispatch-outcome.new.self.producers.items, c.dispatch-outcome.ensures.room, refl);
      counts = c.add.ensures.tally ∙ ap (λ k. tally k deed) c.dispatch-outcome.ensures.unchanged.0;
      follows = (c.dispatch-outcome.new.self.follower, c.dispatch-outcome.ensures.follow, refl);
    }

-- a reader that goes on has the session as it was
pub returns-clause-going : goal.returns-clause-going
returns-clause-going g c = λ e.
    let deed = c.dispatch-outcome.result in
    let s = c.args.self.now.session in
    let t = (on_table s (header_at_front c.args.frame.now)).1 in
    let end : cause_after deed t ≡ c.cause_of.result = search rules in
    c.dispatch-outcome.ensures.session ∙ subst (λ (x : Option ReaderCause). Reaches x s t) (end ∙ e) (reached s t deed (next_same s (header_at_front c.args.frame.now)))
