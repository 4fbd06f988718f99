-- Segments of a message that is begun.
use Rattle.std.proofs.Common.{◌≡◌, ◌≢◌, ℕ, zero, suc, ◌+◌, ◌*◌, ◌<◌, List, [], ◌∷◌, ◌++◌, length, Some, None, inl, inr, refl, ap, ◌∙◌, sym, subst, arith, add-one, zero-mul, suc-mul, length-append, eq-eqb, ne_eqb}
use Rattle.sms_book.specs.Tariffs.{cost_of}
use Rattle.std.specs.Prelude.{string_bytes, Option, Result, Err, ◌⊎◌, slice_get, slice_set}
use mathlib.Core.Logic.{dite}
use native.Mathlib.Decide.{ℕ_discrete}
use Rattle.sms_core.specs.Rows.{reserved_of, charged_of, returned_of}
use Rattle.sms_pdu.specs.declared.reply.Reply.{Reply}
use Rattle.sms_window.specs.SeatState.{SeatState}
use Rattle.sms_book.specs.declared.amounts.Amounts.{Amounts}
use Rattle.sms_book.specs.Money.{reserved_more}
use Rattle.sms_book.specs.Portions.{amounts_at}
use Rattle.sms_book.specs.Shares.{Share, changed}
use Rattle.sms_message.specs.declared.message.Message.{Message}
use Rattle.sms_worker.specs.declared.state.open.Open.{Open}
use Rattle.sms_worker.specs.Types.{SegmentEnd, MessageEnd}
use Rattle.sms_worker.specs.Begins.{fresh, ready, Begins, IsNoParts, Refuses}
use Rattle.sms_message.specs.Ends.{segments_in, total_in, credit, uses}
use Rattle.sms_worker.specs.Start.{Start}
use Rattle.sms_message.specs.Submits.{HasAddresses}
use Rattle.sms_message.specs.declared.rules.Rules.{Rules}
use Rattle.sms_message.specs.declared.ends.MessageRefusal.{MessageRefusal}
use Rattle.sms_message.specs.declared.ends.MessageRefusal.TheVariants.{NoCredit, BindClosed, OutOfMemory}
use Rattle.sms_message.specs.declared.user_data.UserData.{UserData}
use Rattle.sms_worker.specs.Told.{IsTold, Grew}
use Rattle.sms_message.specs.Results.{IsResultOf}
use Rattle.sms_message.specs.Admission.{IsRefusalOf, IsKnown}
use Rattle.sms_worker.specs.declared.steps.parts.NoMessageMemory.{NoMessageMemory}
use Rattle.sms_worker.specs.declared.steps.parts.NoParts.{NoParts}
use Rattle.sms_worker.specs.declared.steps.parts.NoParts.TheVariants as no
use Rattle.sms_worker.specs.Reasons.{RestsOn}
use Rattle.sms_message.specs.UserData.{message_data}
use Rattle.sms_worker.specs.Keeps.{Keeps}
use Rattle.sms_message.specs.declared.ends.MessageResult.TheVariants.{Refused}
use Rattle.sms_worker.proofs.EndLemmas.{get_last, total_append, got_of_more, got_of_append}
use Rattle.sms_worker.proofs.Changes.{amounts_there, amounts_other}

-- why a message has no parts is why it is refused
pub refused_so : (rules : Rules) (accounts : ℕ) (m : Message) (none : NoParts) (refusal : MessageRefusal) (evidence : Option NoMessageMemory) → IsKnown accounts m.account → HasAddresses m → IsNoParts rules m none → Refuses none refusal evidence
    → IsRefusalOf rules accounts m refusal × RestsOn m.index refusal evidence
refused_so rules accounts m no.TooLong refusal evidence known good long (is, without) = (subst (IsRefusalOf rules accounts m) (sym is) (known, good, long), subst (λ r. RestsOn m.index r evidence) (sym is) tt)
refused_so rules accounts m (no.Memory no_memory) refusal evidence known good its (is, told) =
    (subst (IsRefusalOf rules accounts m) (sym is) (known, good), subst (λ r. RestsOn m.index r evidence) (sym is) (subst (RestsOn m.index OutOfMemory) (sym told) its))

pub refused_otherwise : (none : NoParts) (refusal : MessageRefusal) (evidence : Option NoMessageMemory) → Refuses none refusal evidence → (refusal ≢ NoCredit) × (refusal ≢ BindClosed)
refused_otherwise no.TooLong refusal evidence (is, without) = (λ e. cc, λ e. cc)
refused_otherwise (no.Memory no_memory) refusal evidence (is, told) = (λ e. cc, λ e. cc)

-- a message that can't be prepared since the line is down is refused as bind-closed
pub closed_so : {A : Type 0} (r : Result A (MessageRefusal × Option NoMessageMemory)) (refusal : MessageRefusal) (evidence : Option NoMessageMemory) → r ≡ Err (refusal, evidence) → r ≡ Err (BindClosed, None) → refusal ≡ BindClosed
closed_so r refusal evidence is down =
    let same : (refusal, evidence) ≡ (BindClosed, None) = cc in
    ap (λ (e : MessageRefusal × Option NoMessageMemory). e.0) same

ready_snoc : (cost n : ℕ) → ready cost n ++ fresh cost ∷ [] ≡ ready cost (suc n)
ready_snoc cost zero = refl
ready_snoc cost (suc n) = ap (λ l. fresh cost ∷ l) (ready_snoc cost n)

pub ready_more : (cost n : ℕ) → ready cost n ++ fresh cost ∷ [] ≡ ready cost (n + 1)
ready_more cost n = ready_snoc cost n ∙ ap (ready cost) (sym (add-one n))

pub got_ready : (cost n q : ℕ) (z : SegmentEnd) → slice_get (ready cost n) q ≡ Some z → z ≡ fresh cost
got_ready cost zero q z e = absurd (cc)
got_ready cost (suc n) zero z e = cc
got_ready cost (suc n) (suc q) z e = got_ready cost n q z e

some_ready : (cost n q : ℕ) (z : SegmentEnd) → slice_get (ready cost n) q ≡ Some z → 0 < n
some_ready cost zero q z e = absurd (cc)
some_ready cost (suc n) q z e = omega arith

pub length-ready : (cost n : ℕ) → length (ready cost n) ≡ n
length-ready cost zero = refl
length-ready cost (suc n) = ap suc (length-ready cost n)

-- no attempt of a fresh segment has a number
total_uses : (x cost n : ℕ) → total_in (λ s. uses x s) (ready cost n) ≡ 0
total_uses x cost zero = refl
total_uses x cost (suc n) = let h = total_uses x cost n in let z : uses x (fresh cost) ≡ 0 = refl in omega arith

total_nothing : (f : SegmentEnd → ℕ) (cost n : ℕ) → f (fresh cost) ≡ 0 → total_in f (ready cost n) ≡ 0
total_nothing f cost zero z = refl
total_nothing f cost (suc n) z = let h = total_nothing f cost n z in omega arith

settled_none : (i : ℕ) (acc : Option ℕ) (cost : ℕ) → (credit charged_of i acc (fresh cost) ≡ 0) × (credit returned_of i acc (fresh cost) ≡ 0)
settled_none i None cost = (refl, refl)
settled_none i (Some a) cost = dite (ℕ_discrete a i) (λ e. (rw (eq-eqb a i e) refl, rw (eq-eqb a i e) refl)) (λ ne. (rw (ne_eqb a i ne) refl, rw (ne_eqb a i ne) refl))

-- what so many of one cost come to
many : ℕ → ℕ → ℕ
many zero cost = 0
many (suc n) cost = cost + many n cost

many_is : (n cost : ℕ) → many n cost ≡ n * cost
unfolding many
many_is zero cost = sym (zero-mul cost)
many_is (suc n) cost = let h = many_is n cost in let m = suc-mul n cost in omega arith

total_reserved : (i a cost n : ℕ) → a ≡ i → total_in (λ s. credit reserved_of i (Some a) s) (ready cost n) ≡ many n cost
unfolding many
total_reserved i a cost zero e = refl
total_reserved i a cost (suc n) e = let h = total_reserved i a cost n e in let c : credit reserved_of i (Some a) (fresh cost) ≡ cost = rw (eq-eqb a i e) refl in omega arith

-- the share reserved for them
pub reserved_ready : (old : Share) (a cost n i : ℕ) → a < length old.amounts
    → (amounts_at (changed old a (reserved_more (n * cost))).amounts i).reserved ≡ (amounts_at old.amounts i).reserved + total_in (λ s. credit reserved_of i (Some a) s) (ready cost n)
reserved_ready old a cost n i low = dite (ℕ_discrete a i)
    (λ e. let y = subst (λ j. amounts_at (slice_set old.amounts a (reserved_more (n * cost) (amounts_at old.amounts a))) j ≡ reserved_more (n * cost) (amounts_at old.amounts a)) e (amounts_there old.amounts a (reserved_more (n * cost) (amounts_at old.amounts a)) low) in
    let yr = ap (λ (z : Amounts). z.reserved) y in
    let x = ap (λ j. (amounts_at old.amounts j).reserved) e in
    let t = total_reserved i a cost n e in
    let m = many_is n cost in
    omega arith)
    (λ ne. let y = ap (λ (z : Amounts). z.reserved) (amounts_other old.amounts a i (reserved_more (n * cost) (amounts_at old.amounts a)) ne) in
    let t = total_nothing (λ s. credit reserved_of i (Some a) s) cost n (rw (ne_eqb a i ne) refl) in
    omega arith)

pub other_ready : (old : Share) (a more i : ℕ) → a < length old.amounts → ((amounts_at (changed old a (reserved_more more)).amounts i).charged ≡ (amounts_at old.amounts i).charged) × ((amounts_at (changed old a (reserved_more more)).amounts i).returned ≡ (amounts_at old.amounts i).returned)
other_ready old a more i low = dite (ℕ_discrete a i)
    (λ e. let y = subst (λ j. amounts_at (slice_set old.amounts a (reserved_more more (amounts_at old.amounts a))) j ≡ reserved_more more (amounts_at old.amounts a)) e (amounts_there old.amounts a (reserved_more more (amounts_at old.amounts a)) low) in
    let xc = ap (λ j. (amounts_at old.amounts j).charged) e in
    let xr = ap (λ j. (amounts_at old.amounts j).returned) e in
    (ap (λ (z : Amounts). z.charged) y ∙ xc, ap (λ (z : Amounts). z.returned) y ∙ xr))
    (λ ne. let y = amounts_other old.amounts a i (reserved_more more (amounts_at old.amounts a)) ne in (ap (λ (z : Amounts). z.charged) y, ap (λ (z : Amounts). z.returned) y))

-- the end of a message stands behind the others, and the share reserved for it what its segments count as reserved
pub grew_begun : (base now now' : List Amounts) (ms : List Message) (es : List MessageEnd) (m : Message) (e : MessageEnd) (cost count : ℕ) → Grew base now ms es → slice_get ms (length es) ≡ Some m → segments_in e.result ≡ ready cost count
    → ((i : ℕ) → (amounts_at now' i).reserved ≡ (amounts_at now i).reserved + total_in (credit reserved_of i m.account) (segments_in e.result))
    → ((i : ℕ) → (amounts_at now' i).charged ≡ (amounts_at now i).charged) → ((i : ℕ) → (amounts_at now' i).returned ≡ (amounts_at now i).returned) → Grew base now' ms (es ++ e ∷ [])
grew_begun base now now' ms es m e cost count grew there segments reserved charged returned i =
    let g = grew i in
    let tr = total_append (λ m s. credit reserved_of i m.account s) ms es e m there in
    let tc = total_append (λ m s. credit charged_of i m.account s) ms es e m there in
    let tt' = total_append (λ m s. credit returned_of i m.account s) ms es e m there in
    let unmoved = settled_none i m.account cost in
    let zc = ap (total_in (λ s. credit charged_of i m.account s)) segments ∙ total_nothing (λ s. credit charged_of i m.account s) cost count unmoved.0 in
    let zr = ap (total_in (λ s. credit returned_of i m.account s)) segments ∙ total_nothing (λ s. credit returned_of i m.account s) cost count unmoved.1 in
    let r = reserved i in
    let c = charged i in
    let t = returned i in
    (omega arith, omega arith, omega arith)

same_last : (es : List MessageEnd) (d e : MessageEnd) → es ++ d ∷ [] ≡ es ++ e ∷ [] → d ≡ e
same_last es d e same = let got : Some d ≡ Some e = sym (get_last es d) ∙ ap (λ l. slice_get l (length es)) same ∙ get_last es e in cc

-- the end that was added is this one
pub closed_if_begun : (es : List MessageEnd) (d e : MessageEnd) → es ++ d ∷ [] ≡ es ++ e ∷ [] → e.result ≡ Refused BindClosed → d.result ≡ Refused BindClosed
closed_if_begun es d e same is = ap (λ (x : MessageEnd). x.result) (same_last es d e same) ∙ is

-- a message was begun
pub keeps_begun : (start : Start) (ms : List Message) (es : List MessageEnd) (pending : List (List UserData)) (os : List Open) (seat : SeatState) (share share' : Share) (replies : List Reply) (m : Message) (content : List UserData) (e : MessageEnd)
    → Keeps start ms es pending os seat share replies → slice_get ms (length es) ≡ Some m → length es < length ms → Begins start.rules m share share' content e
    → Keeps start ms (es ++ e ∷ []) (pending ++ content ∷ []) os seat share' replies
keeps_begun start ms es pending os seat share share' replies m content e keeps there low b = record {
  messages = keeps.messages;
  window = keeps.window;
  number = b.number ∙ keeps.number;
  accounts = b.accounts ∙ keeps.accounts;
  replies_more = keeps.replies_more;
  slots = keeps.slots;
  numbers = record {
    drawn = keeps.numbers.drawn;
    has = keeps.numbers.has;
    used = λ x. let t = total_append (λ m s. uses x s) start.messages es e m there' in let z = ap (total_in (λ s. uses x s)) b.segments ∙ total_uses x _ b.count in let u = keeps.numbers.used x in omega arith;
  };
  shape = record {
    within = let l = length-append es (e ∷ []) in let n = ap length keeps.messages in omega arith;
    each = λ k m' e' at got. elim (got_of_append es e k e' got) [
      | inl h ↦ keeps.shape.each k m' e' at h
      | inr h ↦ (let at' : slice_get start.messages (length es) ≡ Some m' = ap (slice_get start.messages) (sym h.0) ∙ at in
          let same : m ≡ m' = cc in
          subst (λ (x : MessageEnd). (x.index ≡ m'.index) × IsResultOf start.rules (length start.share.amounts) m' x.result) (sym h.1)
          (subst (λ (y : Message). (e.index ≡ y.index) × IsResultOf start.rules (length start.share.amounts) y e.result) same (b.index, subst (λ n. IsResultOf start.rules n m e.result) keeps.accounts b.result)))
    ];
  };
  ends = λ k p m' s at got. elim (got_of_more es e k p s got) [
    | inl h ↦ keeps.ends k p m' s at h
    | inr h ↦ (let at' : slice_get start.messages (length es) ≡ Some m' = ap (slice_get start.messages) (sym h.0) ∙ at in
        let same : m ≡ m' = cc in
        let is = got_ready _ b.count p s (ap (λ l. slice_get l p) (sym b.segments) ∙ h.1) in
        subst (λ (x : SegmentEnd). IsTold start.rules (length start.received) replies m' p x) (sym is) (subst (λ (y : Message). IsTold start.rules (length start.received) replies y p (fresh (cost_of start.rules.tariff (string_bytes m.dest)))) same
        (record { cost = refl; some = b.some (some_ready _ b.count p s (ap (λ l. slice_get l p) (sym b.segments) ∙ h.1)); sent = tt; answered = tt; state = inr (record { outcome = refl; retried = tt; fewer = start.rules.policy.lawful.some_attempt }) })))
  ];
  money = grew_begun start.share.amounts share.amounts share'.amounts start.messages es m e _ b.count keeps.money there' b.segments b.reserved b.charged b.returned;
  pending_kept = λ k m' content' at got. elim (got_of_append pending content k content' got) [
    | inl h ↦ keeps.pending_kept k m' content' at h
    | inr h ↦ (let at' : slice_get start.messages (length es) ≡ Some m' = ap (slice_get start.messages) (sym (h.0 ∙ keeps.pending_long)) ∙ at in
        let same : m ≡ m' = cc in
        subst (λ x. (x ≡ []) ⊎ (x ≡ message_data start.rules m')) (sym h.1) (subst (λ (y : Message). (content ≡ []) ⊎ (content ≡ message_data start.rules y)) same b.pending_kept))
  ];
  pending_long = let a = length-append pending (content ∷ []) in let b' = length-append es (e ∷ []) in let l = keeps.pending_long in omega arith;
}
  where
    there' : slice_get start.messages (length es) ≡ Some m
    there' = ap (λ l. slice_get l (length es)) (sym keeps.messages) ∙ there
