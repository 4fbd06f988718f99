use Rattle.std.proofs.Common.{◌≡◌, ℕ, ◌+◌, ◌<◌, List, length, sym, ap, ◌∙◌, subst, arith, rules}
use Rattle.std.specs.Prelude.{insert, slice_index}
use Rattle.std.proofs.lemmas.List.{length-map}
use Rattle.sms_book.specs.Tariffs.{Price, price_of, prices_of, price_at}
use Rattle.sms_book.specs.Indexes.{IsIndex, IsRoom}
use Rattle.sms_book.proofs.Refusals.{price_read}
use Rattle.sms_book.proofs.Longest.{apart}
use Rattle.sms_book.proofs.Halving.{put_in_order}
use Rattle.sms_book.proofs.tariff.index_of.Goals as goal

pub unreachable-requires : goal.unreachable-requires
unreachable-requires c =
    let rates = c.args.rates.now in
    let found = c.in-Ok.ensures.found in
    let items = c.as_slice.ensures.value in
    let there = subst (λ (l : List ℕ). found.at < length l) items found.within in
    let is = ap (λ (l : List ℕ). slice_index l found.at) (sym items) ∙ found.is in
    let below = c.loop-place.invariant.places found.at there in
    let low : c.in-Ok.field-0 < c.loop-place.place = omega arith in
    let price = price_read rates c.loop-place.place c.index-rates-place.result c.loop-place-test.true in
    apart (prices_of rates) c.in-Ok.field-0 c.loop-place.place c.requires low (let l = length-map rates price_of in let t = c.loop-place-test.true in omega arith)
    (found.same ∙ c.as_bytes.ensures.value ∙ sym (ap (λ (p : Price). p.prefix) price))

pub loop-place-preserved : goal.loop-place-preserved
loop-place-preserved c =
    let rates = c.args.rates.now in
    let place = c.loop-place.place in
    let price = price_read rates place c.index-rates-place.result c.loop-place-test.true in
    let prefix = c.as_bytes.ensures.value ∙ sym (ap (λ (p : Price). p.prefix) price) in
    let room : IsRoom (prices_of rates) c.loop-place.order.items (price_at (prices_of rates) place).prefix c.in-Err.at =
    subst (λ (x : List ℕ × List ℕ). IsRoom (prices_of rates) x.0 x.1 c.in-Err.at) (λ i. (c.as_slice.ensures.value i, prefix i)) c.in-Err.ensures.room in
    let items : c.insert.new.self.items ≡ insert c.loop-place.order.items c.in-Err.at place = search rules in
    subst (λ (l : List ℕ). IsIndex (prices_of rates) l (place + 1)) (sym items) (put_in_order (prices_of rates) c.loop-place.order.items place c.in-Err.at c.loop-place.invariant room)
