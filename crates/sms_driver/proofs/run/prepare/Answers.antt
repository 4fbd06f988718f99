use Rattle.std.proofs.Common.{◌≡◌, ◌∙◌, ℕ, length, rules, arith, ap, subst}
use Rattle.sms_driver.specs.Buffers.{AreBuffersFor}
use Rattle.sms_driver.proofs.Sums.{length-opening}
use Rattle.sms_driver.proofs.run.prepare.Goals as goal

pub deal_out-requires-clause-shares : goal.deal_out-requires-clause-shares
deal_out-requires-clause-shares g c = (search rules) ∙ ap length c.requires.shares ∙ length-opening g.N.BookName.book.accounts g.N.BookName.book.workers

pub returns-clause-job : goal.returns-clause-job
returns-clause-job g c =
    let shares = ap length c.requires.shares ∙ length-opening g.N.BookName.book.accounts g.N.BookName.book.workers in
    let long : c.len-2.result ≡ g.N.BookName.book.workers = omega (arith, c.len-2.ensures, shares) in
    let each : c.len.result ≡ g.N.BookName.book.workers = omega (arith, c.len.ensures, shares) in
    let room = c.in_ok-done_buffer.ensures in
    record {
      shares = c.requires.shares;
      batches = c.in_ok-batches.ensures.length;
      requests = c.in_ok-requests.ensures.length ∙ each;
      none = c.in_ok-requests.ensures.none;
      room = (room.items, omega (arith, long, room.capacity));
    }

pub returns-clause-buffers : goal.returns-clause-buffers
returns-clause-buffers g c =
    let w = g.N.BookName.book.workers in
    let shares = ap length c.requires.shares ∙ length-opening g.N.BookName.book.accounts w in
    let workers : c.len-3.result ≡ w = omega (arith, c.len-3.ensures, shares) in
    let count : c.len-count.result ≡ length c.args.messages.items = omega (arith, c.len-count.ensures) in
    subst (λ (n : ℕ). AreBuffersFor n w c.args.settings.now.binds c.in_ok-buffers.buffers) count
    (subst (λ (n : ℕ). AreBuffersFor c.len-count.result n c.args.settings.now.binds c.in_ok-buffers.buffers) workers c.in_ok-buffers.ensures)

pub all_requests-requires : goal.all_requests-requires
all_requests-requires g c =
    let shares = ap length c.requires.shares ∙ length-opening g.N.BookName.book.accounts g.N.BookName.book.workers in
    let each : c.len.result ≡ g.N.BookName.book.workers = omega (arith, c.len.ensures, shares) in
    let few = c.requires.few in
    record { few = omega arith }

pub returns-clause-log : goal.returns-clause-log
returns-clause-log g c =
    let shares = ap length c.requires.shares ∙ length-opening g.N.BookName.book.accounts g.N.BookName.book.workers in
    let each : c.len.result ≡ g.N.BookName.book.workers = omega (arith, c.len.ensures, shares) in
    let log = c.in_ok-requests.ensures.log in
    record { away = (let more = log.away in omega arith); given = log.given; requests = log.requests }
