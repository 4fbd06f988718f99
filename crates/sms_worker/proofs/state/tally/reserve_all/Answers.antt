use Rattle.std.proofs.Common.{◌≡◌, ◌-◌, ◌*◌, ◌^◌, ◌<◌, ◌≤◌, min, false, true, length, rules, arith}
use Rattle.std.specs.Result.{is_ok}
use Rattle.sms_book.specs.Alone.{opening_at}
use Rattle.sms_book.specs.Portions.{amounts_at, row_at}
use Rattle.sms_worker.proofs.Credit.{lacks, on_refusal, on_success, unsaturated}
use Rattle.sms_worker.proofs.state.tally.reserve_all.Goals as goal

pub returns-clause-short : goal.returns-clause-short
returns-clause-short g c refused alone low =
    let row = row_at c.args.book.now c.args.account in
    let credits = c.saturating_mul-credits.result in
    let failed : is_ok c.reserve.result ≡ false = search rules in
    let wide = c.reserve.ensures.exists in
    let here : c.args.account < length c.args.book.now = omega arith in
    let one = on_refusal c.reserve.result failed c.reserve.ensures.alone alone here in
    let few : credits ≤ c.args.parts * c.args.cost = search rules in
    lacks (opening_at g.N.BookName.book c.args.account) (c.args.parts * c.args.cost) credits (amounts_at c.args.shares.now.amounts c.args.account) row one few
    (λ fits. let done = c.reserve.ensures.done.1 (here, fits.0, fits.1) in absurd (cc))

pub returns-clause-covered : goal.returns-clause-covered
returns-clause-covered g c on sealed =
    let credits = c.saturating_mul-credits.result in
    let done : is_ok c.reserve.result ≡ true = search rules in
    let (here, free, bound) = c.reserve.ensures.done.0 (search rules) in
    let fits = on_success c.reserve.result done c.reserve.ensures.covered sealed in
    let is : credits ≡ min (c.args.parts * c.args.cost) (2 ^ 64 - 1) = search rules in
    let whole = unsaturated (c.args.parts * c.args.cost) credits is (omega arith) in
    omega arith
