-- How each bind's reader ended, from what the readers gave back.
use Rattle.std.proofs.Common.{◌≡◌, ◌<◌, ◌+◌, ◌∙◌, ℕ, zero, suc, List, [], ◌∷◌, length, map, Option, Some, sym, ap, subst, arith}
use Rattle.std.specs.Prelude.{slice_get}
use Rattle.std.specs.List.{AllByRecursion, AllZip}
use Rattle.sms_bind.specs.declared.ending.ReaderEnd.{ReaderEnd}
use Rattle.sms_pdu.specs.Devices.{device}
use Rattle.sms_driver.specs.declared.bind_end.BindEnd.{BindEnd}
use Rattle.sms_driver.specs.declared.bind_end.ReaderOutcome.{ReaderOutcome}
use Rattle.sms_driver.specs.declared.binding.binds.BindParts.{BindParts}
use Rattle.sms_driver.specs.declared.binding.BindSettings.{BindSettings}
use Rattle.sms_bind.specs.Follows.{most_held}
use Rattle.sms_bind.specs.Turns.{TookTurns}
use Rattle.sms_driver.specs.BindEnds.{outcome_of, IsSetUp}
use Rattle.sms_driver.specs.Ended.{HasEnded, HaveEnded}
use Rattle.sms_driver.specs.Reads.{AreOpened, HasRead, IsOpened, reading_in}

module _ {Rd : Type 0} (turns : ℕ) (remaining : Rd → Option (List ℕ)) (all : BindSettings) (told : ℕ → Option (List ℕ)) where
  one_ended : (place : ℕ) (p : BindParts Rd) (d : ReaderEnd) (outcome : ReaderOutcome) → IsOpened all.settings.mode (told place) (remaining (device p.reader)) p.bound → IsSetUp all p → HasRead turns remaining (reading_in p) d → outcome ≡ outcome_of d → HasEnded all turns (told place) outcome
  one_ended place p d outcome o s r is = record { bound = p.bound; between = remaining (device p.reader); opened = o; left = r.left; old = _; new = _; held = r.held; end = d; keeps = r.keeps; hands = r.hands; is = is; follows = r.follows ∙ ap most_held s.follow; most = r.most; took = λ e. subst (λ n. TookTurns turns n (remaining (device p.reader)) r.left) (sym (ap (λ (x : ReaderOutcome). x.errors) is)) (r.took (sym (ap (λ (x : ReaderOutcome). x.cause) is) ∙ e)); ended = λ e. r.ended (sym (ap (λ (x : ReaderOutcome). x.cause) is) ∙ e); stopped = λ seen e. r.stopped seen (sym (ap (λ (x : ReaderOutcome). x.cause) is) ∙ e); fault = λ e. subst (λ n. 0 < n) (sym (ap (λ (x : ReaderOutcome). x.errors) is)) (r.fault (sym (ap (λ (x : ReaderOutcome). x.cause) is) ∙ e)) }

  ended_from : (place : ℕ) (parts : List (BindParts Rd)) (rs : List ReaderEnd) (bs : List BindEnd) → AreOpened remaining all.settings.mode told place parts → AllByRecursion (IsSetUp all) parts → AllZip (HasRead turns remaining) (map reading_in parts) rs → map (λ b. b.reader) bs ≡ map outcome_of rs
      → (i : ℕ) (b : BindEnd) → slice_get bs i ≡ Some b → HasEnded all turns (told (place + i)) b.reader
  ended_from place parts rs [] o s z e i b at = absurd (cc)
  ended_from place parts [] (x ∷ bs) o s z e i b at = let n : suc (length (map (λ (y : BindEnd). y.reader) bs)) ≡ 0 = ap length e in absurd (omega arith)
  ended_from place [] (d ∷ rs) (x ∷ bs) o s z e i b at = absurd z
  ended_from place (p ∷ parts) (d ∷ rs) (x ∷ bs) o s z e zero b at =
      let same : x ≡ b = cc in
      let first : x.reader ≡ outcome_of d = cc in
      let here : place ≡ place + 0 = omega arith in
      subst (λ (n : ℕ). HasEnded all turns (told n) b.reader) here (one_ended place p d b.reader o.0 s.0 z.0 (ap (λ (y : BindEnd). y.reader) (sym same) ∙ first))
  ended_from place (p ∷ parts) (d ∷ rs) (x ∷ bs) o s z e (suc i) b at =
      let rest : map (λ (y : BindEnd). y.reader) bs ≡ map outcome_of rs = cc in
      let here : (place + 1) + i ≡ place + suc i = omega arith in
      subst (λ (n : ℕ). HasEnded all turns (told n) b.reader) here (ended_from (place + 1) parts rs bs o.1 s.1 z.1 rest i b at)

  pub have_ended : (parts : List (BindParts Rd)) (rs : List ReaderEnd) (bs : List BindEnd) → AreOpened remaining all.settings.mode told 0 parts → AllByRecursion (IsSetUp all) parts → AllZip (HasRead turns remaining) (map reading_in parts) rs → map (λ b. b.reader) bs ≡ map outcome_of rs → HaveEnded all turns told bs
  have_ended parts rs bs o s z e bind b at = let here : 0 + bind ≡ bind = omega arith in subst (λ (n : ℕ). HasEnded all turns (told n) b.reader) here (ended_from 0 parts rs bs o s z e bind b at)
