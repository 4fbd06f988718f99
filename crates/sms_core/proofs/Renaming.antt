-- Hold sets under other names, and without some holders.
use Rattle.std.proofs.Common.{◌≡◌, ℕ, ◌+◌, ◌^◌, ◌<◌, ◌≤◌, ◌==◌, Bool, true, false, List, [], ◌∷◌, set, refl, sym, ap, ◌∙◌, arith, ne_eqb}
use Rattle.std.specs.Prelude.{if◌then◌else◌}
use mathlib.Core.Logic.{dite}
use native.Mathlib.Decide.{dec_lt}
use Rattle.std.proofs.lemmas.Bool.{le-ltb, lt-leb}
use Rattle.sms_core.specs.declared.mark.Mark.TheVariants.{Empty}
use Rattle.sms_core.specs.Holds.{weigh, is_slot, holders_of}
use Rattle.sms_core.specs.Renaming.{renamed, without, held_out, is_of, KeepsUnderNames, KeepsWithout, NamesKeepSteps, LeavingOutKeepsSteps, OpensAsWorkers, StaysAsWorkers, ClaimIsWorkers, ReleaseIsWorkers}
use Rattle.sms_core.specs.State.{is_pair, times_held}
use Rattle.sms_core.proofs.Workers.{same_pair}

at_most : (b : Bool) (n : ℕ) → (if b then 0 else n) ≤ n
at_most true n = omega arith
at_most false n = omega arith

module _ {H : Type 0} where
  -- weights of a reading are weights of what is read

  pub weigh-renamed : {K : Type 0} (name : H → K) (f : K × ℕ → ℕ) (ps : List (H × ℕ)) → weigh f (renamed name ps) ≡ weigh (λ p. f (name p.0, p.1)) ps
  weigh-renamed name f [] = refl
  weigh-renamed name f (p ∷ ps) = ap (λ (n : ℕ). f (name p.0, p.1) + n) (weigh-renamed name f ps)

  -- f of a pair whose holder stays, else 0
  abbrev pub kept : (H → Bool) → (H × ℕ → ℕ) → H × ℕ → ℕ
  kept is_out f p = if is_out p.0 then 0 else f p

  one_without : (is_out : H → Bool) (f : H × ℕ → ℕ) (p : H × ℕ) (ps : List (H × ℕ)) (b : Bool) (n : ℕ) → weigh f (without is_out ps) ≡ n
      → weigh f (if b then without is_out ps else p ∷ without is_out ps) ≡ (if b then 0 else f p) + n
  one_without is_out f p ps true n e = omega arith
  one_without is_out f p ps false n e = omega arith

  pub weigh-without : (is_out : H → Bool) (f : H × ℕ → ℕ) (ps : List (H × ℕ)) → weigh f (without is_out ps) ≡ weigh (kept is_out f) ps
  weigh-without is_out f [] = refl
  weigh-without is_out f (p ∷ ps) = one_without is_out f p ps (is_out p.0) (weigh (kept is_out f) ps) (weigh-without is_out f ps)

  pub weigh-le : (f g : H × ℕ → ℕ) → ((p : H × ℕ) → f p ≤ g p) → (ps : List (H × ℕ)) → weigh f ps ≤ weigh g ps
  weigh-le f g le [] = omega arith
  weigh-le f g le (p ∷ ps) = let one = le p in let rest = weigh-le f g le ps in omega arith

  pub weigh-same : (f g : H × ℕ → ℕ) → ((p : H × ℕ) → f p ≡ g p) → (ps : List (H × ℕ)) → weigh f ps ≡ weigh g ps
  weigh-same f g e [] = refl
  weigh-same f g e (p ∷ ps) = let one = e p in let rest = weigh-same f g e ps in omega arith

  pub without_le : (is_out : H → Bool) (f : H × ℕ → ℕ) (ps : List (H × ℕ)) → weigh f (without is_out ps) ≤ weigh f ps
  without_le is_out f ps =
      let e = weigh-without is_out f ps in
      let le = weigh-le (kept is_out f) f (λ p. at_most (is_out p.0) (f p)) ps in
      omega arith

  kept_in : (is_out : H → Bool) (f : H × ℕ → ℕ) (h : H) (slot : ℕ) → is_out h ≡ false → kept is_out f (h, slot) ≡ f (h, slot)
  kept_in is_out f h slot e = ap (λ (b : Bool). if b then 0 else f (h, slot)) e

  kept_out : (is_out : H → Bool) (f : H × ℕ → ℕ) (h : H) (slot : ℕ) → is_out h ≡ true → kept is_out f (h, slot) ≡ 0
  kept_out is_out f h slot e = ap (λ (b : Bool). if b then 0 else f (h, slot)) e

  -- the holder of a pair after a join
  abbrev taken : (H → Bool) → H → H × ℕ → H × ℕ
  taken is_from to p = (if is_from p.0 then to else p.0, p.1)

  under_name : {K : Type 0} (name : H → K) (f : K × ℕ → ℕ) (to : H) (p : H × ℕ) (b c : Bool) → c ≡ b
      → f (name (if b then to else p.0), p.1) ≡ f (if c then name to else name p.0, p.1)
  under_name name f to p true c e = ap (λ (d : Bool). f (if d then name to else name p.0, p.1)) (sym e)
  under_name name f to p false c e = ap (λ (d : Bool). f (if d then name to else name p.0, p.1)) (sym e)

  stays_out : (is_out : H → Bool) (to h : H) (b : Bool) → (b ≡ true → is_out h ≡ false) → is_out to ≡ false → is_out (if b then to else h) ≡ is_out h
  stays_out is_out to h true stays there = there ∙ sym (stays refl)
  stays_out is_out to h false stays there = refl

  not_taken : (is_from : H → Bool) (to : H) (g : H × ℕ → ℕ) (p : H × ℕ) (b : Bool) → is_from p.0 ≡ b → is_of is_from p ≡ 0 → g (taken is_from to p) ≡ g p
  not_taken is_from to g p true e none = let one : is_of is_from p ≡ 1 = ap (λ (b : Bool). if b then 1 else 0) e in absurd (omega arith)
  not_taken is_from to g p false e none = ap (λ (b : Bool). g (if b then to else p.0, p.1)) e

  none_taken : (is_from : H → Bool) (to : H) (g : H × ℕ → ℕ) (ps : List (H × ℕ)) → weigh (is_of is_from) ps ≡ 0 → weigh (λ p. g (taken is_from to p)) ps ≡ weigh g ps
  none_taken is_from to g [] none = refl
  none_taken is_from to g (p ∷ ps) none =
      let one = not_taken is_from to g p (is_from p.0) refl (omega arith) in
      let rest = none_taken is_from to g ps (omega arith) in
      omega arith

  -- a reading of the pairs before and after a step

  pub names_keep : {K : Type 0} (name : H → K) → KeepsUnderNames name
  names_keep name = record {
    lawful = λ ps. (
      λ law slot. let e = weigh-renamed name (is_slot slot) ps in let l = law slot in omega arith,
      λ law slot. let e = weigh-renamed name (is_slot slot) ps in let l = law slot in omega arith,
    );
    word = λ ps. weigh-renamed name (λ q. 2 ^ q.1) ps;
    same = λ old new s f. weigh-renamed name f new ∙ s (λ p. f (name p.0, p.1)) ∙ sym (weigh-renamed name f old);
    claims = λ old new h slot c. (
      weigh-renamed name (is_slot slot) old ∙ c.0,
      λ f. let a = weigh-renamed name f new in let b = weigh-renamed name f old in let e = c.1 (λ p. f (name p.0, p.1)) in omega arith,
    );
    releases = λ old new h slot r f. let a = weigh-renamed name f new in let b = weigh-renamed name f old in let e = r (λ p. f (name p.0, p.1)) in omega arith;
    passes = λ old new is_from is_named to tells m f.
        weigh-renamed name f new ∙ m (λ p. f (name p.0, p.1))
        ∙ weigh-same (λ p. f (name (if is_from p.0 then to else p.0), p.1)) (λ p. f (if is_named (name p.0) then name to else name p.0, p.1))
        (λ p. under_name name f to p (is_from p.0) (is_named (name p.0)) (tells p.0)) old
        ∙ sym (weigh-renamed name (λ q. f (if is_named q.0 then name to else q.0, q.1)) old);
  }

  pub leaving_out_keeps : (is_out : H → Bool) → KeepsWithout is_out
  leaving_out_keeps is_out = record {
    lawful = λ ps law slot. let le = without_le is_out (is_slot slot) ps in let l = law slot in omega arith;
    same = λ old new s f. weigh-without is_out f new ∙ s (kept is_out f) ∙ sym (weigh-without is_out f old);
    claims = λ old new h slot stays c. (
      let le = without_le is_out (is_slot slot) old in let none = c.0 in omega arith,
      λ f. let a = weigh-without is_out f new in let b = weigh-without is_out f old in let e = c.1 (kept is_out f) in let k = kept_in is_out f h slot stays in omega arith,
    );
    claims_out = λ old new h slot out c f. let a = weigh-without is_out f new in let b = weigh-without is_out f old in let e = c.1 (kept is_out f) in let k = kept_out is_out f h slot out in omega arith;
    releases = λ old new h slot stays r f. let a = weigh-without is_out f new in let b = weigh-without is_out f old in let e = r (kept is_out f) in let k = kept_in is_out f h slot stays in omega arith;
    releases_out = λ old new h slot out r f. let a = weigh-without is_out f new in let b = weigh-without is_out f old in let e = r (kept is_out f) in let k = kept_out is_out f h slot out in omega arith;
    passes = λ old new is_from to stays there m f.
        weigh-without is_out f new ∙ m (kept is_out f)
        ∙ weigh-same (λ p. kept is_out f (taken is_from to p)) (kept is_out (λ p. f (taken is_from to p)))
        (λ p. ap (λ (b : Bool). if b then 0 else f (taken is_from to p)) (stays_out is_out to p.0 (is_from p.0) (stays p.0) there)) old
        ∙ sym (weigh-without is_out (λ p. f (taken is_from to p)) old);
    passes_none = λ old new is_from to none m f.
        weigh-without is_out f new ∙ m (kept is_out f) ∙ none_taken is_from to (kept is_out f) old none ∙ sym (weigh-without is_out f old);
  }

pub names_keep_steps : NamesKeepSteps
names_keep_steps name = names_keep name

pub leaving_out_keeps_steps : LeavingOutKeepsSteps
leaving_out_keeps_steps is_out = leaving_out_keeps is_out

-- the seats of a window as the workers of a world

pub opens_as_workers : OpensAsWorkers
opens_as_workers name is_out pairs accounts limit attempts none beyond = record {
  same = λ f. ap (λ (ps : List (ℕ × ℕ)). weigh f (renamed name ps)) (sym none);
  beyond = beyond;
}

pub stays_as_workers : StaysAsWorkers
stays_as_workers name is_out old new w a s = record {
  same = λ f. a.same f ∙ sym ((names_keep name).same (without is_out old) (without is_out new) ((leaving_out_keeps is_out).same old new s) f);
  beyond = λ slot low high. let b = a.beyond slot low high in let e = s (λ p. if is_out p.0 then is_slot slot p else 0) in omega arith;
}

held_out_le : (is_out : ℕ → Bool) (slot : ℕ) (ps : List (ℕ × ℕ)) → held_out is_out slot ps ≤ holders_of slot ps
held_out_le is_out slot ps = weigh-le (λ p. if is_out p.0 then is_slot slot p else 0) (is_slot slot) (λ p. at (is_out p.0) (is_slot slot p)) ps
  where
    at : (b : Bool) (n : ℕ) → (if b then n else 0) ≤ n
    at true n = omega arith
    at false n = omega arith

pub claim_is_workers : ClaimIsWorkers
claim_is_workers name is_out old new h slot w a stays low c =
    let read = (names_keep name).claims (without is_out old) (without is_out new) h slot ((leaving_out_keeps is_out).claims old new h slot stays c) in
    let holds : List (ℕ × ℕ) = renamed name (without is_out new) in
    let free : holders_of slot w.holds ≡ 0 = a.same (is_slot slot) ∙ read.0 in
    let inside : slot < w.limit = dite (dec_lt slot w.limit) (λ lt. lt)
    (λ ge. let b = a.beyond slot (omega arith) low in let le = held_out_le is_out slot old in let none = c.0 in absurd (omega arith)) in
    record {
      after = record w { holds = holds; marks = set w.marks slot Empty };
      steps = (
        rw (lt-leb w.limit slot inside, le-ltb 0 (holders_of slot w.holds) (omega arith)) refl,
        ((free, λ f. let e = a.same f in let r = read.1 f in omega arith), refl),
      );
      workers = record {
        same = λ f. refl;
        beyond = λ k low high. let b = a.beyond k low high in let e = c.1 (λ p. if is_out p.0 then is_slot k p else 0) in omega arith;
      };
    }

pub release_is_workers : ReleaseIsWorkers
release_is_workers name is_out old new h slot w a stays empty r =
    let read = (names_keep name).releases (without is_out old) (without is_out new) h slot ((leaving_out_keeps is_out).releases old new h slot stays r) in
    let holds : List (ℕ × ℕ) = renamed name (without is_out new) in
    let held : (times_held (name h) slot w.holds == 0) ≡ false =
    ne_eqb (times_held (name h) slot w.holds) 0 (λ none. let e = a.same (is_pair (name h) slot) in let o = read (is_pair (name h) slot) in let one = same_pair (name h) slot in absurd (omega arith)) in
    record {
      after = record w { holds = holds };
      steps = (
        rw (held, empty) refl,
        (λ f. let e = a.same f in let o = read f in omega arith, refl),
      );
      workers = record {
        same = λ f. refl;
        beyond = λ k low high.
            let b = a.beyond k low high in
            let e = r (λ p. if is_out p.0 then is_slot k p else 0) in
            let none : (if is_out h then is_slot k (h, slot) else 0) ≡ 0 = ap (λ (b : Bool). if b then is_slot k (h, slot) else 0) stays in
            omega arith;
      };
    }
