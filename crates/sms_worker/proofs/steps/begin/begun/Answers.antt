use Rattle.std.proofs.Common.{◌≡◌, ℕ, ◌<◌, ◌*◌, ◌+◌, ◌∷◌, ◌++◌, [], length, inr, refl, sym, ap, ◌∙◌, subst, rules, length-set}
use Rattle.std.specs.Prelude.{Option, string_bytes}
use Rattle.sms_core.specs.Rows.{reserved_of}
use Rattle.sms_book.specs.Shares.{Share, changed}
use Rattle.sms_book.specs.Portions.{amounts_at}
use Rattle.sms_book.specs.Money.{reserved_more}
use Rattle.sms_worker.specs.Types.{SegmentEnd}
use Rattle.sms_worker.specs.Begins.{end_refused, end_sent, ready}
use Rattle.sms_worker.specs.Tally.{TallyState}
use Rattle.sms_book.specs.Tariffs.{cost_of}
use Rattle.sms_message.specs.Ends.{total_in, credit}
use Rattle.sms_message.specs.Submits.{message_parts}
use Rattle.sms_message.specs.Admission.{IsKnown}
use Rattle.sms_message.specs.declared.ends.MessageRefusal.TheVariants.{NoCredit}
use Rattle.sms_message.specs.declared.ends.MessageResult.TheVariants.{Refused}
use Rattle.sms_worker.proofs.Beginnings.{closed_so, length-ready, reserved_ready, other_ready}
use Rattle.sms_worker.proofs.Credit.{covers_for, lacks_for}
use Rattle.sms_worker.proofs.Reasoning.{rests_so}
use Rattle.sms_worker.proofs.steps.begin.begun.Goals as goal

pub admit-requires : goal.admit-requires
admit-requires g c =
    let m = c.args.message.now in
    let n : ℕ = length (message_parts c.args.rules.now m) in
    let cost : ℕ = cost_of c.args.rules.now.tariff (string_bytes m.dest) in
    let known = subst (λ k. IsKnown k m.account) c.accounts-accounts.ensures c.in-Ok.ensures.known.0 in
    let low = subst (IsKnown (length c.args.tally.now.share.amounts)) c.in-Some.is known in
    let all : c.in-Ok.prepared.ends.items ≡ ready cost n = c.in-Ok.ensures.ends in
    let count : n ≡ length c.in-Ok.prepared.ends.items = sym (ap length all ∙ length-ready cost n) in
    let price : cost ≡ c.in-Ok.prepared.cost = sym c.in-Ok.ensures.cost.0 in
    record { next = c.requires.next; account = (c.in-Some.is, low); room = c.requires.room; ready = all ∙ (λ i. ready (price i) (count i)) }

pub returns-clause-begun : goal.returns-clause-begun
returns-clause-begun g c =
    let m = c.args.message.now in
    let old = c.args.tally.now.share in
    let a = c.in-Some.account in
    let n : ℕ = length (message_parts c.args.rules.now m) in
    let cost : ℕ = cost_of c.args.rules.now.tariff (string_bytes m.dest) in
    let known = subst (λ k. IsKnown k m.account) c.accounts-accounts.ensures c.in-Ok.ensures.known.0 in
    let low = subst (IsKnown (length old.amounts)) c.in-Some.is known in
    let all : c.in-Ok.prepared.ends.items ≡ ready cost n = c.in-Ok.ensures.ends in
    let parts : length c.in-Ok.prepared.ends.items ≡ n = ap length all ∙ length-ready cost n in
    let price : c.in-Ok.prepared.cost ≡ cost = c.in-Ok.ensures.cost.0 in
    let amount : length c.in-Ok.prepared.ends.items * c.in-Ok.prepared.cost ≡ n * cost = (λ i. parts i * price i) in
    let some_cost : 0 < c.in-Ok.prepared.cost = c.in-Ok.ensures.cost.1 in
    let now = c.admit.ensures.admitted (search rules) in
    let share : c.admit.new.self.share ≡ changed old a (reserved_more (n * cost)) = ap (λ (t : TallyState). t.share) now ∙ ap (λ k. changed old a (reserved_more k)) amount in
    let total = λ (i : ℕ). ap (total_in (λ (s : SegmentEnd). credit reserved_of i m.account s)) all ∙ ap (λ (acc : Option ℕ). total_in (λ (s : SegmentEnd). credit reserved_of i acc s) (ready cost n)) c.in-Some.is in
    record {
      end = end_sent m c.in-Ok.prepared.ends.items;
      ends = ap (λ (t : TallyState). t.ends) now;
      room = ap (λ (t : TallyState). t.room) now;
      begins = record {
        index = refl;
        result = record { known = known; addresses = c.in-Ok.ensures.known.1; short = c.in-Ok.ensures.short; parts = parts };
        pending_kept = inr c.in-Ok.ensures.pending;
        count = n;
        some = λ _. subst (λ k. 0 < k) price some_cost;
        segments = all;
        number = ap (λ (s : Share). s.number) share;
        accounts = ap (λ (s : Share). length s.amounts) share ∙ length-set old.amounts a _;
        reserved = λ i. ap (λ (s : Share). (amounts_at s.amounts i).reserved) share ∙ reserved_ready old a cost n i low ∙ ap (λ k. (amounts_at old.amounts i).reserved + k) (sym (total i));
        charged = λ i. ap (λ (s : Share). (amounts_at s.amounts i).charged) share ∙ (other_ready old a (n * cost) i low).0;
        returned = λ i. ap (λ (s : Share). (amounts_at s.amounts i).returned) share ∙ (other_ready old a (n * cost) i low).1;
      };
      closed = λ e. absurd (cc);
      if_none = λ none. let gone = c.prepare.ensures.none none in absurd (cc);
      credit = λ e. absurd (cc);
      covered = λ sealed. covers_for g.N.BookName.book.opening c.args.rules.now m (end_sent m c.in-Ok.prepared.ends.items) a (length c.in-Ok.prepared.ends.items * c.in-Ok.prepared.cost) c.in-Some.is amount (c.admit.ensures.covered (search rules) sealed);
      memory = λ e. absurd (cc);
    }

pub refused-requires : goal.refused-requires
refused-requires g c = record { next = c.requires.next; room = c.requires.room; reason = rw (sym c.accounts-accounts.ensures) c.in-Err.ensures.refused }

pub returns-in-Err-clause-begun : goal.returns-in-Err-clause-begun
returns-in-Err-clause-begun g c = record {
  end = end_refused c.args.message.now c.in-Err.refusal;
  ends = ap (λ (t : TallyState). t.ends) c.refused.ensures.only;
  room = ap (λ (t : TallyState). t.room) c.refused.ensures.only;
  begins = c.refused.ensures.begins;
  closed = λ e. c.in-Err.ensures.closed (cc);
  if_none = λ none. ap (λ r. Refused r) (closed_so c.prepare.result c.in-Err.refusal c.in-Err.no_memory c.in-Err.is (c.prepare.ensures.none none));
  credit = λ e. absurd (c.in-Err.ensures.credit (cc));
  covered = λ sealed segments a is acc. absurd (cc);
  memory = λ e. rests_so c.args.message.now.index c.in-Err.refusal c.in-Err.no_memory (cc) c.in-Err.ensures.memory;
}

pub refused-requires-then-not-admit : goal.refused-requires-then-not-admit
refused-requires-then-not-admit g c =
    let same = c.admit.ensures.refused (search rules) in
    let known = subst (λ k. IsKnown k c.args.message.now.account) c.accounts-accounts.ensures c.in-Ok.ensures.known.0 in
    record { next = rw same c.requires.next; room = rw same c.requires.room; reason = rw same (known, c.in-Ok.ensures.known.1, c.in-Ok.ensures.short) }

pub returns-then-not-admit-clause-begun : goal.returns-then-not-admit-clause-begun
returns-then-not-admit-clause-begun g c =
    let same = c.admit.ensures.refused (search rules) in
    let m = c.args.message.now in
    let old = c.args.tally.now.share in
    let a = c.in-Some.account in
    let n : ℕ = length (message_parts c.args.rules.now m) in
    let cost : ℕ = cost_of c.args.rules.now.tariff (string_bytes m.dest) in
    let all : c.in-Ok.prepared.ends.items ≡ ready cost n = c.in-Ok.ensures.ends in
    let parts : length c.in-Ok.prepared.ends.items ≡ n = ap length all ∙ length-ready cost n in
    let price : c.in-Ok.prepared.cost ≡ cost = c.in-Ok.ensures.cost.0 in
    record {
      end = end_refused m NoCredit;
      ends = ap (λ (t : TallyState). t.ends) c.refused-then-not-admit.ensures.only ∙ ap (λ (t : TallyState). t.ends ++ end_refused m NoCredit ∷ []) same;
      room = ap (λ (t : TallyState). t.room) (c.refused-then-not-admit.ensures.only ∙ ap (λ (t : TallyState). record t { ends = t.ends ++ end_refused m NoCredit ∷ [] }) same);
      begins = rw (sym same) c.refused-then-not-admit.ensures.begins;
      closed = λ e. absurd (cc);
      if_none = λ none. let gone = c.prepare.ensures.none none in absurd (cc);
      credit = λ _. lacks_for g.N.BookName.book c.args.rules.now old m a (length c.in-Ok.prepared.ends.items) c.in-Ok.prepared.cost c.in-Some.is (λ i. parts i * price i) (λ alone. c.admit.ensures.short (search rules) alone);
      covered = λ sealed segments b is acc. absurd (cc);
      memory = λ e. absurd (cc);
    }
