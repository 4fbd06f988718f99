-- Each charged part was read of some bind, in a place of its own.
use Rattle.std.proofs.Common.{◌≡◌, ◌<◌, ◌*◌, ◌∙◌, ℕ, List, Option, subst}
use Rattle.std.specs.List.{AllZip}
use native.Mathlib.Bridge.{le_prop}
use Rattle.sms_worker.specs.EndOf.{IsEndOf}
use Rattle.sms_worker.specs.Rests.{Charge}
use Rattle.sms_message.specs.declared.message.Message.{Message}
use Rattle.sms_message.specs.declared.rules.Rules.{Rules}
use Rattle.sms_worker.specs.Types.{MessageEnd, SegmentEnd}
use Rattle.sms_driver.specs.Answered.{AreHeard, ends_at}
use Rattle.sms_driver.specs.Deals.{dealt}
use Rattle.sms_send.proofs.Accepting.{accepted, answered, apart}
use Rattle.sms_send.proofs.Covering.{of_a_bind, one_part}
use Rattle.sms_send.specs.Laws.{AcceptsLast, AreApart, WereRead}

module _ (told : ℕ → Option (List ℕ)) (rules : Rules) (accounts binds workers : ℕ) (ms : List Message) (es : List MessageEnd)
    (each : AllZip (IsEndOf rules accounts) ms es) (heard : AreHeard told binds workers (dealt (binds * workers) 0 es)) where
  abbrev place : (bind : ℕ) → bind < binds → Charge (ends_at workers bind (dealt (binds * workers) 0 es)) → ℕ
  place bind low x = (heard bind low).rests.place (answered rules accounts (binds * workers) workers bind ms es each x)

  abbrev Same : (b c : ℕ) → Charge (ends_at workers b (dealt (binds * workers) 0 es)) → Charge (ends_at workers c (dealt (binds * workers) 0 es)) → Type 0
  Same b c x y = (x.worker ≡ y.worker) × (x.message ≡ y.message) × (x.part ≡ y.part)

  -- charges of one bind with one place are one
  one_charge : (b c : ℕ) (low : b < binds) (less : c < binds) (x : Charge (ends_at workers b (dealt (binds * workers) 0 es))) (y : Charge (ends_at workers c (dealt (binds * workers) 0 es)))
      → b ≡ c → place b low x ≡ place c less y → Same b c x y
  one_charge b c low less x y bind at =
      subst (λ (d : ℕ). (less : d < binds) (y : Charge (ends_at workers d (dealt (binds * workers) 0 es))) → place b low x ≡ place d less y → Same b d x y) bind
      (λ less y at. apart rules accounts (binds * workers) workers b ms es each (heard b low).replies (heard b low).rests x y
      (at ∙ (λ i. place b (le_prop less low i) y)))
      less y at

  pub were_read : 0 < binds → 0 < workers → (were : WereRead told binds workers es) × AreApart told binds workers es were
  were_read some_binds some_workers = (
    record {
      answers = λ bind low. let h = heard bind low in record { left = h.left; octets = h.octets; read = h.read; replies = h.replies; are = h.are };
      bind = λ x. (of_a_bind binds workers es some_binds some_workers x).bind;
      is_one = λ x. (of_a_bind binds workers es some_binds some_workers x).is_one;
      by_worker = λ x. let o = of_a_bind binds workers es some_binds some_workers x in (o.charge, o.same_segment);
      place = λ x. let o = of_a_bind binds workers es some_binds some_workers x in place o.bind o.is_one o.charge;
      accepted = λ x.
          let o = of_a_bind binds workers es some_binds some_workers x in
          let h = heard o.bind o.is_one in
          let a = accepted rules accounts (binds * workers) workers o.bind ms es each h.replies h.rests o.charge in
          (a.0, a.1, subst (λ (s : SegmentEnd). AcceptsLast s a.0) o.same_segment a.2);
    },
    λ x y bind at.
        let o = of_a_bind binds workers es some_binds some_workers x in
        let q = of_a_bind binds workers es some_binds some_workers y in
        one_part binds workers es x y o q bind (one_charge o.bind q.bind o.is_one q.is_one o.charge q.charge bind at),
  )
