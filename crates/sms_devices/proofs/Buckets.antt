-- What a bucket lets through from one request on.
use Rattle.std.proofs.Common.{◌≡◌, ℕ, ◌+◌, ◌-◌, ◌*◌, ◌/◌, ◌<◌, ◌≤◌, max, min, Bool, true, false, ltb, List, [], ◌∷◌, refl, sym, ap, subst, ◌∙◌, arith}
use Rattle.std.proofs.Math.Nat.{add-mul, mul-le-mul_right}
use Rattle.std.proofs.lemmas.Bool.{ltb-true}
use Rattle.std.specs.Prelude.{if◌then◌else◌}
use Rattle.sms_devices.specs.declared.gate.bucket.Bucket.{Bucket}
use Rattle.sms_devices.specs.declared.gate.bucket.Rate.{Rate}
use Rattle.sms_devices.specs.Buckets.Asked.{Lend, Send, GiveBack}
use Rattle.sms_devices.specs.Buckets.{Asked, after, after_all, can_lend, full, given_back, level_at, rate_for, room_for, sends, sends_at, sent_at}

-- the level is within the depth, and covers the requests that have a permit
record Sound (r : Rate) (b : Bucket) : Type 0 where
  pub most : b.level ≤ r.depth * 1010
  pub covered : b.lent * 1010 ≤ b.level

-- a bucket becomes another while this many requests are sent: what these took came at the rate
record Becomes (r : Rate) (b b' : Bucket) (sent : ℕ) : Type 0 where
  pub sound : Sound r b'
  pub onward : b.at_ms ≤ b'.at_ms
  pub took : sent * 1010 + b'.level ≤ b.level + (b'.at_ms - b.at_ms) * r.rate

gap : (at now : ℕ) → max at now - at ≡ now - at
gap at now = omega arith

onto : (at now : ℕ) → at ≤ max at now
onto at now = omega arith

-- ---- on plain numbers

enough : (there lent : ℕ) → lent < there / 1010 → (lent + 1) * 1010 ≤ there
enough there lent less = omega (arith, less)

lend_level : (room level come : ℕ) → 0 * 1010 + min room (level + come) ≤ level + come
lend_level room level come = omega arith

send_level : (room level come lent : ℕ) → 0 < lent → lent * 1010 ≤ level → level ≤ room → 1 * 1010 + (min room (level + come) - 1010) ≤ level + come
send_level room level come lent some covered most = omega (arith, some, covered, most)

send_covered : (room level come lent : ℕ) → 0 < lent → lent * 1010 ≤ level → level ≤ room → (lent - 1) * 1010 ≤ min room (level + come) - 1010
send_covered room level come lent some covered most = omega (arith, some, covered, most)

least_room : (room level : ℕ) → min room level ≤ room
least_room room level = omega arith

less_room : (room level : ℕ) → min room level - 1010 ≤ room
less_room room level = omega arith

fewer : (lent level : ℕ) → lent * 1010 ≤ level → (lent - 1) * 1010 ≤ level
fewer lent level covered = omega (arith, covered)

whole : (at mid end : ℕ) → at ≤ mid → mid ≤ end → (mid - at) + (end - mid) ≡ end - at
whole at mid end first second = omega (arith, first, second)

-- ---- a step

stays : (r : Rate) (b : Bucket) → Sound r b → Becomes r b b 0
stays r b sound = record {
  sound = sound;
  onward = omega arith;
  took = omega arith;
}

lent : (r : Rate) (b : Bucket) (now : ℕ) → Sound r b → b.lent < level_at r b now / 1010 → Becomes r b (record b { level = level_at r b now; at_ms = max b.at_ms now; lent = b.lent + 1 }) 0
lent r b now sound less = record {
  sound = record { most = least_room (r.depth * 1010) (b.level + (now - b.at_ms) * r.rate); covered = enough (level_at r b now) b.lent less };
  onward = onto b.at_ms now;
  took = subst (λ d. 0 * 1010 + level_at r b now ≤ b.level + d * r.rate) (sym (gap b.at_ms now)) (lend_level (r.depth * 1010) b.level ((now - b.at_ms) * r.rate));
}

lends : (r : Rate) (b : Bucket) (now : ℕ) → Sound r b → (can : Bool) → can_lend r b now ≡ can → Becomes r b (if can then record b { level = level_at r b now; at_ms = max b.at_ms now; lent = b.lent + 1 } else b) 0
lends r b now sound false isnt = stays r b sound
lends r b now sound true is = lent r b now sound (ltb-true b.lent (level_at r b now / 1010) is)

sent : (r : Rate) (b : Bucket) (now : ℕ) → Sound r b → 0 < b.lent → Becomes r b (sent_at r b now) 1
sent r b now sound some =
    record {
      sound = record {
        most = less_room (r.depth * 1010) (b.level + (now - b.at_ms) * r.rate);
        covered = send_covered (r.depth * 1010) b.level ((now - b.at_ms) * r.rate) b.lent some sound.covered sound.most;
      };
      onward = onto b.at_ms now;
      took = subst (λ d. 1 * 1010 + (level_at r b now - 1010) ≤ b.level + d * r.rate) (sym (gap b.at_ms now)) (send_level (r.depth * 1010) b.level ((now - b.at_ms) * r.rate) b.lent some sound.covered sound.most);
    }

is_sent : (r : Rate) (b : Bucket) (now : ℕ) → Sound r b → (has : Bool) → ltb 0 b.lent ≡ has → Becomes r b (if has then sent_at r b now else b) (if has then 1 else 0)
is_sent r b now sound false isnt = stays r b sound
is_sent r b now sound true is = sent r b now sound (ltb-true 0 b.lent is)

gives_back : (r : Rate) (b : Bucket) → Sound r b → Becomes r b (given_back b) 0
gives_back r b sound = record {
  sound = record { most = sound.most; covered = fewer b.lent b.level sound.covered };
  onward = omega arith;
  took = omega arith;
}

step : (r : Rate) (b : Bucket) (asked : Asked) → Sound r b → Becomes r b (after r b asked) (sends_at b asked)
step r b (Lend now) sound = lends r b now sound (can_lend r b now) refl
step r b (Send now) sound = is_sent r b now sound (ltb 0 b.lent) refl
step r b GiveBack sound = gives_back r b sound

-- ---- all steps

-- what came on both ways came on the whole
joined : (rate at mid end : ℕ) → at ≤ mid → mid ≤ end → (mid - at) * rate + (end - mid) * rate ≡ (end - at) * rate
joined rate at mid end first second = sym (add-mul (mid - at) (end - mid) rate) ∙ ap (λ n. n * rate) (whole at mid end first second)

both : (n m l0 l1 l2 c1 c2 : ℕ) → n * 1010 + l1 ≤ l0 + c1 → m * 1010 + l2 ≤ l1 + c2 → (n + m) * 1010 + l2 ≤ l0 + (c1 + c2)
both n m l0 l1 l2 c1 c2 one two = omega (arith, one, two)

further : (r : Rate) (b b1 b2 : Bucket) (n m : ℕ) → Becomes r b b1 n → Becomes r b1 b2 m → Becomes r b b2 (n + m)
further r b b1 b2 n m one two = record {
  sound = two.sound;
  onward = omega (arith, one.onward, two.onward);
  took = subst (λ c. (n + m) * 1010 + b2.level ≤ b.level + c) (joined r.rate b.at_ms b1.at_ms b2.at_ms one.onward two.onward)
      (both n m b.level b1.level b2.level ((b1.at_ms - b.at_ms) * r.rate) ((b2.at_ms - b1.at_ms) * r.rate) one.took two.took);
}

all_steps : (r : Rate) (asked : List Asked) (b : Bucket) → Sound r b → Becomes r b (after_all r asked b) (sends r asked b)
all_steps r [] b sound = stays r b sound
all_steps r (a ∷ more) b sound =
    let one = step r b a sound in
    further r b (after r b a) (after_all r more (after r b a)) (sends_at b a) (sends r more (after r b a)) one (all_steps r more (after r b a) one.sound)

-- ---- from one request on

begins : (r : Rate) (now : ℕ) → Sound r (full r now)
begins r now = record { most = omega arith; covered = omega arith }

-- so much comes in the time that passes at most
comes : (passed rate : ℕ) → passed ≤ 1009 → passed * rate ≤ 1009 * rate
comes passed rate short = mul-le-mul_right rate short

count : (n depth rate most level end come : ℕ) → depth + rate ≡ most + 1 → 1 ≤ rate → level + 1010 ≤ depth * 1010 → n * 1010 + end ≤ level + come → come ≤ 1009 * rate → 1 + n ≤ most
count n depth rate most level end come whole some low took less = omega (arith, whole, some, low, took, less)

rates : (most : ℕ) → 1 ≤ most → room_for most + (most - room_for most + 1) ≡ most + 1
rates most some = omega (arith, some)

-- what is left by the request that is sent
lower : (room level come lent : ℕ) → 0 < lent → lent * 1010 ≤ level → level ≤ room → (min room (level + come) - 1010) + 1010 ≤ room
lower room level come lent some covered most = omega (arith, some, covered, most)

-- a request of a bucket whose level covers its permits, and those after it
no_more_from : (most now : ℕ) → 1 ≤ most → (later : List Asked) (b : Bucket) → let r = rate_for most in Sound r b → 0 < b.lent → (after_all r later (sent_at r b now)).at_ms ≤ (sent_at r b now).at_ms + 1009 → 1 + sends r later (sent_at r b now) ≤ most
no_more_from most now some later b sound has short =
    let r = rate_for most in
    let one = sent r b now sound has in
    let rest = all_steps r later (sent_at r b now) one.sound in
    count (sends r later (sent_at r b now)) r.depth r.rate most (level_at r b now - 1010) (after_all r later (sent_at r b now)).level
    (((after_all r later (sent_at r b now)).at_ms - max b.at_ms now) * r.rate)
    (rates most some)
    (omega arith)
    (lower (r.depth * 1010) b.level ((now - b.at_ms) * r.rate) b.lent has sound.covered sound.most)
    rest.took
    (comes ((after_all r later (sent_at r b now)).at_ms - max b.at_ms now) r.rate (omega (arith, short)))

pub no_more : (most begun now : ℕ) → 1 ≤ most → (before later : List Asked) → let r = rate_for most in (b : Bucket) → b ≡ after_all r before (full r begun) → 0 < b.lent → (after_all r later (sent_at r b now)).at_ms ≤ (sent_at r b now).at_ms + 1009 → 1 + sends r later (sent_at r b now) ≤ most
no_more most begun now some before later b e has short =
    let r = rate_for most in
    no_more_from most now some later b (subst (λ x. Sound r x) (sym e) (all_steps r before (full r begun) (begins r begun)).sound) has short
