use Rattle.std.proofs.Common.{◌≡◌, ℕ, ◌-◌, ◌<◌, List, length, take, ap, ◌∙◌, sym, subst, arith}
use Rattle.std.specs.Prelude.{slice_index}
use Rattle.std.proofs.lemmas.List.{length-map, length-take-le}
use Rattle.sms_book.specs.Tariffs.{Price, price_of, prices_of, price_at}
use Rattle.sms_book.specs.Indexes.{prefix_in, IsShared}
use Rattle.sms_book.proofs.Refusals.{price_read}
use Rattle.sms_book.proofs.Longest.{take_begins}
use Rattle.sms_book.proofs.Narrowing.{in_front, of_front, none_begins, reaches, shorter, whole}
use Rattle.sms_book.proofs.tariff.longest_rate.Goals as goal

pub returns-in-Ok-clause-found : goal.returns-in-Ok-clause-found
returns-in-Ok-clause-found c =
    let prices = prices_of c.args.rates.now in
    let found = c.in-Ok.ensures.found in
    let n = c.loop-place.most in
    let prefix : (price_at prices c.in-Ok.place).prefix ≡ take n c.args.digits.now = found.same in
    let below = c.requires.index.places found.at found.within in
    let is = found.is in
    let long = length-map c.args.rates.now price_of in
    let size : length (price_at prices c.in-Ok.place).prefix ≡ n = ap length prefix ∙ length-take-le n c.args.digits.now c.loop-place.invariant.within in
    record {
      there = omega arith;
      begins = take_begins c.args.digits.now (price_at prices c.in-Ok.place).prefix n prefix;
      most = λ other low b. let short = c.loop-place.invariant.short other (omega arith) b in omega arith;
    }

pub returns-then-at-eq0-clause-none : goal.returns-then-at-eq0-clause-none
returns-then-at-eq0-clause-none c none place low b =
    let prices = prices_of c.args.rates.now in
    let long = length-map c.args.rates.now price_of in
    none_begins prices c.args.order.now (length prices) (take c.loop-place.most c.args.digits.now) c.in-Err.at c.requires.index c.in-Err.ensures.room c.if-at-eq0.true place (omega arith)
    (in_front c.args.digits.now _ c.loop-place.most (c.loop-place.invariant.short place low b) b)

pub returns-then-same-prefix-clause-found : goal.returns-then-same-prefix-clause-found
returns-then-same-prefix-clause-found c =
    let prices = prices_of c.args.rates.now in
    let order = c.args.order.now in
    let digits = c.args.digits.now in
    let n = c.loop-place.most in
    let at = c.in-Err.at in
    let room = c.in-Err.ensures.room in
    let some : 0 < at = (let no = c.if-at-eq0.false in omega arith) in
    let within = room.within in
    let last = slice_index order (at - 1) in
    let below = c.requires.index.places (at - 1) (omega arith) in
    let long = length-map c.args.rates.now price_of in
    let is = c.as_bytes-prefix.ensures.value ∙ sym (ap (λ (p : Price). p.prefix) (price_read c.args.rates.now last c.index-rates-last.result (omega arith))) in
    let shared : IsShared (prefix_in prices order (at - 1)) (take n digits) c.shared-same.result = subst (λ (x : List ℕ). IsShared x (take n digits) c.shared-same.result) is c.shared-same.ensures in
    let size : c.shared-same.result ≡ length (prefix_in prices order (at - 1)) = c.if-same-prefix.true ∙ ap length is in
    record {
      there = omega arith;
      begins = of_front digits _ n c.loop-place.invariant.within (whole prices order (length prices) (take n digits) at c.requires.index room c.shared-same.result some shared size);
      most = λ other low b.
          let inside = in_front digits _ n (c.loop-place.invariant.short other (omega arith) b) b in
          let r = reaches prices order (length prices) (take n digits) at c.requires.index room c.shared-same.result some shared other low inside in omega arith;
    }

pub loop-place-smaller : goal.loop-place-smaller
loop-place-smaller c =
    let prices = prices_of c.args.rates.now in
    let order = c.args.order.now in
    let digits = c.args.digits.now in
    let n = c.loop-place.most in
    let at = c.in-Err.at in
    let room = c.in-Err.ensures.room in
    let some : 0 < at = (let no = c.if-at-eq0.false in omega arith) in
    let within = room.within in
    let last = slice_index order (at - 1) in
    let below = c.requires.index.places (at - 1) (omega arith) in
    let long = length-map c.args.rates.now price_of in
    let is = c.as_bytes-prefix.ensures.value ∙ sym (ap (λ (p : Price). p.prefix) (price_read c.args.rates.now last c.index-rates-last.result (omega arith))) in
    let shared : IsShared (prefix_in prices order (at - 1)) (take n digits) c.shared-same.result = subst (λ (x : List ℕ). IsShared x (take n digits) c.shared-same.result) is c.shared-same.ensures in
    let less = shorter prices order (length prices) (take n digits) at c.requires.index room c.shared-same.result some shared in
    let size = length-take-le n digits c.loop-place.invariant.within in
    omega arith

pub loop-place-preserved : goal.loop-place-preserved
loop-place-preserved c =
    let prices = prices_of c.args.rates.now in
    let order = c.args.order.now in
    let digits = c.args.digits.now in
    let n = c.loop-place.most in
    let at = c.in-Err.at in
    let room = c.in-Err.ensures.room in
    let some : 0 < at = (let no = c.if-at-eq0.false in omega arith) in
    let within = room.within in
    let last = slice_index order (at - 1) in
    let below = c.requires.index.places (at - 1) (omega arith) in
    let long = length-map c.args.rates.now price_of in
    let is = c.as_bytes-prefix.ensures.value ∙ sym (ap (λ (p : Price). p.prefix) (price_read c.args.rates.now last c.index-rates-last.result (omega arith))) in
    let shared : IsShared (prefix_in prices order (at - 1)) (take n digits) c.shared-same.result = subst (λ (x : List ℕ). IsShared x (take n digits) c.shared-same.result) is c.shared-same.ensures in
    let inside = c.shared-same.ensures.inside in
    let size = length-take-le n digits c.loop-place.invariant.within in
    let front-within = c.loop-place.invariant.within in
    record {
      within = omega arith;
      short = λ place low b.
          reaches prices order (length prices) (take n digits) at c.requires.index room c.shared-same.result some shared place (omega arith)
          (in_front digits _ n (c.loop-place.invariant.short place low b) b);
    }
