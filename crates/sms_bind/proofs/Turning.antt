-- How a reader's turns end.
use Rattle.std.proofs.Common.{◌≡◌, ℕ, ◌+◌, ◌-◌, ◌*◌, ◌<◌, ◌≤◌, ◌^◌, List, length, length-append, Option, Some, None, sym, ap, ◌∙◌, subst, arith}
use Rattle.std.specs.Io.KnownBytes.{Consumes, Keeps}
use Rattle.sms_pdu.specs.Faults.{Counts}
use Rattle.sms_pdu.specs.Streams.{complete, early}
use Rattle.sms_pdu.specs.Turn.{Turned}
use Rattle.sms_pdu.proofs.Turns.{gave_fits}
use Rattle.sms_bind.specs.declared.ending.ReaderCause.{ReaderCause}
use Rattle.sms_bind.specs.Deeds.{stretch_of}
use Rattle.sms_bind.specs.Turns.{GaveEach, Stops, TookTurns}

-- the reader was stopped before a turn
pub stops_before : (n turns a b : ℕ) (r t : Option (List ℕ)) → n < turns → Turned n (Unit {0}) r t a b → Stops turns r t
stops_before n turns a b r t low p = record { some = omega arith; most = gave_fits (65536 * n) (65536 * (turns - 1)) r t (omega arith) p.most }

-- a reader that ended early has not used up its turns, and was not stopped
pub not_early : (end other : ReaderCause) → stretch_of (Some end) ≡ early → stretch_of (Some other) ≡ complete → ¬ (end ≡ other)
not_early end other is late e = complete_not_early (sym late ∙ sym (ap (λ x. stretch_of (Some x)) e) ∙ is)
  where
    complete_not_early : complete ≡ early → ⊥
    complete_not_early k = absurd cc

-- ---- turns that were all taken

gave_each_none : (r : Option (List ℕ)) → GaveEach 0 r r
gave_each_none None = tt
gave_each_none (Some xs) = (omega arith, omega arith)

gave_each_one : (r t : Option (List ℕ)) (piece : List ℕ) → length piece ≤ 65536 → 0 < length piece → Consumes r t piece → GaveEach 1 r t
gave_each_one None t piece few some c = tt
gave_each_one (Some xs) None piece few some c = absurd c
gave_each_one (Some xs) (Some ys) piece few some c = let l = ap length c ∙ length-append piece ys in (omega (arith, l), omega (arith, l))

gave_each_kept : (r t : Option (List ℕ)) → Keeps r t → GaveEach 0 r t
gave_each_kept None t k = tt
gave_each_kept (Some xs) None k = absurd k
gave_each_kept (Some xs) (Some ys) k = let l = ap length k in (omega (arith, l), omega (arith, l))

gave_each_more : (n k m : ℕ) (r t u : Option (List ℕ)) → m ≡ n + k → GaveEach n r t → GaveEach k t u → GaveEach m r u
gave_each_more n k m None t u e p q = tt
gave_each_more n k m (Some xs) None u e p q = absurd p
gave_each_more n k m (Some xs) (Some ys) None e p q = absurd q
gave_each_more n k m (Some xs) (Some ys) (Some zs) e p q = (omega (arith, e, p.0, q.0), omega (arith, e, p.1, q.1))

-- no turn
pub took_none : (a : ℕ) (r : Option (List ℕ)) → TookTurns 0 (a - a) r r
took_none a r = record { few = omega arith; gave = let e : 0 ≡ 0 - (a - a) = omega arith in subst (λ n. GaveEach n r r) e (gave_each_none r) }

-- a turn that read something
pub took_read : (b c : ℕ) (r t : Option (List ℕ)) (piece : List ℕ) → length piece ≤ 65536 → 0 < length piece → c ≡ b → Consumes r t piece → TookTurns 1 (c - b) r t
took_read b c r t piece few some same given =
    record { few = omega (arith, same); gave = let e : 1 ≡ 1 - (c - b) = omega (arith, same) in subst (λ n. GaveEach n r t) e (gave_each_one r t piece few some given) }

-- one counted more, where there is room for it
counted_one : (b c : ℕ) → b + 1 < 2 ^ 64 → Counts b c → c ≡ b + 1
counted_one b c low h = omega (arith, h)

-- a turn that met an error
pub took_fault : (b c : ℕ) (r t : Option (List ℕ)) → b + 1 < 2 ^ 64 → Counts b c → Keeps r t → TookTurns 1 (c - b) r t
took_fault b c r t low counts kept =
    let one = counted_one b c low counts in
    record { few = omega (arith, one); gave = let e : 0 ≡ 1 - (c - b) = omega (arith, one) in subst (λ n. GaveEach n r t) e (gave_each_kept r t kept) }

-- one turn more
pub took_more : (n a b c : ℕ) (r t u : Option (List ℕ)) → a ≤ b → b ≤ c → (a + n < 2 ^ 64 → TookTurns n (b - a) r t) → (b + 1 < 2 ^ 64 → TookTurns 1 (c - b) t u) → a + (n + 1) < 2 ^ 64 → TookTurns (n + 1) (c - a) r u
took_more n a b c r t u low up before one room =
    let p = before (omega arith) in
    let few = p.few in
    let q = one (omega arith) in
    let last = q.few in
    record {
      few = omega (arith, low, up, few, last);
      gave = gave_each_more (n - (b - a)) (1 - (c - b)) ((n + 1) - (c - a)) r t u (omega (arith, low, up, few, last)) p.gave q.gave;
    }
