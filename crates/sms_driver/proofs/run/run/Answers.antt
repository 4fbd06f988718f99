use Rattle.std.proofs.Common.{[], Option, Some, true, ◌≡◌, ◌<◌, ◌≤◌, ◌*◌, ℕ, List, length, map, rules, arith, sym, ap, ◌∙◌, subst, inl, refl}
use Rattle.std.specs.List.{AllZip}
use Rattle.sms_bind.specs.Frames.{requests}
use Rattle.sms_book.specs.Name.{BookId}
use Rattle.sms_book.specs.Portions.{row_at}
use Rattle.sms_book.specs.Shares.{opening_shares}
use Rattle.sms_book.specs.Sums.{IsSumOf}
use Rattle.sms_message.specs.declared.rules.Rules.{Rules}
use Rattle.sms_worker.specs.Reasons.{ReasonState}
use Rattle.sms_worker.specs.Types.{MessageEnd}
use Rattle.sms_worker.specs.declared.entry.work.WorkerEnd.{WorkerEnd}
use Rattle.sms_driver.specs.Deals.{dealt}
use Rattle.sms_driver.specs.BindEnds.{AreBinds}
use Rattle.sms_driver.specs.Buffers.{AreBuffersFor}
use Rattle.sms_driver.specs.Seated.{IsSeated, windows}
use Rattle.sms_driver.specs.declared.binding.binds.SharedBind.{SharedBind}
use Rattle.sms_driver.specs.Statements.{AreRows}
use Rattle.sms_worker.specs.Credit.{IsCovered}
use Rattle.sms_worker.specs.EndOf.{IsEndOf}
use Rattle.rtrb.specs.Ring.{received}
use Rattle.sms_driver.specs.Answered.{Hears, IsHeard, ends_at}
use Rattle.sms_driver.proofs.Conclusions.{rows_of}
use Rattle.sms_driver.proofs.Grouping.{are_heard, zip_length, zip_of_all}
use Rattle.sms_driver.specs.Runs.{IsOutput}
use Rattle.sms_driver.specs.Numbered.{AllDrewOnce, AreBelow, AreNumbered, HasNumbers}
use Rattle.sms_driver.proofs.Endings.{have_ended}
use Rattle.sms_driver.proofs.Handing.{are_handed_on}
use Rattle.sms_driver.proofs.Places.{all_handed, same_length}
use Rattle.sms_session.specs.Settings.{Setting}
use Rattle.sms_driver.specs.Handed.{AreWritten}
use Rattle.sms_driver.specs.Rings.{flat}
use Rattle.sms_driver.specs.Unbinds.{handed_in}
use Rattle.sms_driver.specs.declared.bind_end.BindEnd.{BindEnd}
use Rattle.sms_driver.specs.Closings.{AreExplained, AreReasoned, SaysWhy}
use Rattle.sms_driver.proofs.Closings.{are_explained, are_reasoned}
use Rattle.sms_driver.proofs.Numbering.{are_below, are_numbered}
use Rattle.sms_driver.proofs.Starts.{tells_before}
use Rattle.sms_driver.proofs.Telling.{told_so}
use Rattle.std.proofs.Math.Nat.{mul-le-mul_right}
use Rattle.sms_driver.proofs.run.run.Goals as goal

pub prepare-requires-clause-shares : goal.prepare-requires-clause-shares
prepare-requires-clause-shares g c = c.in-Ok.ensures.shares ∙ ap (λ (b : BookId). opening_shares b.accounts b.workers) c.requires.name.0

pub prepare-requires-clause-some : goal.prepare-requires-clause-some
prepare-requires-clause-some g c =
    let name = ap (λ (b : BookId). b.workers) c.requires.name.0 in
    let some = c.requires.count.0 in
    omega arith

pub send_over-requires-clause-count : goal.send_over-requires-clause-count
send_over-requires-clause-count g c lives held =
    let slice : length c.as_slice.result.now ≡ length c.in_ok-made.made.shared_binds.items = search rules in
    let shared_binds = slice ∙ c.in_ok-made.ensures.length ∙ c.in_ok-prepared.ensures.binds in
    ap (λ (b : BookId). b.workers) (sym c.requires.name.0) ∙ c.requires.count.1 ∙ ap (λ n. n * c.args.settings.now.workers) (sym shared_binds)

pub send_over-requires-clause-some : goal.send_over-requires-clause-some
send_over-requires-clause-some g c lives held =
    let name = ap (λ (b : BookId). b.workers) c.requires.name.0 in
    let some = c.requires.count.0 in
    omega arith

pub conclude-requires-clause-dealt : goal.conclude-requires-clause-dealt
conclude-requires-clause-dealt g c =
    let ms = c.args.messages.items in
    let s = c.in_ok-output.ensures.output.settled ms c.in_ok-prepared.ensures.dealt in
    let count : c.len-count.result ≡ length ms = omega (arith, c.len-count.ensures) in
    (s.es, s.long ∙ sym count, s.dealt_is ∙ ap (λ n. dealt n 0 s.es) (sym c.in_ok-output.ensures.output.all))

pub conclude-requires-clause-shares : goal.conclude-requires-clause-shares
conclude-requires-clause-shares g c = (c.in_ok-output.ensures.output.settled c.args.messages.items c.in_ok-prepared.ensures.dealt).all

pub conclude-requires-clause-buffers : goal.conclude-requires-clause-buffers
conclude-requires-clause-buffers g c =
    let buffers = c.in_ok-prepared.prepared.buffers in
    let w = g.N.BookName.book.workers in
    let count : c.len-count.result ≡ length c.args.messages.items = omega (arith, c.len-count.ensures) in
    let binds : length c.in_ok-made.made.shared_binds.items ≡ c.args.settings.now.binds = c.in_ok-made.ensures.length ∙ c.in_ok-prepared.ensures.binds in
    subst (λ (n : ℕ). AreBuffersFor c.len-count.result n (length c.in_ok-made.made.shared_binds.items) buffers) (sym c.in_ok-output.ensures.output.all)
    (subst (λ (n : ℕ). AreBuffersFor c.len-count.result w n buffers) (sym binds)
    (subst (λ (n : ℕ). AreBuffersFor n w c.args.settings.now.binds buffers) (sym count) c.in_ok-prepared.ensures.buffers))

pub conclude-requires-clause-output : goal.conclude-requires-clause-output
conclude-requires-clause-output g c =
    let output = c.in_ok-output.ensures.output in
    let slice : c.as_slice.result.now ≡ c.in_ok-made.made.shared_binds.items = c.as_slice.ensures.value in
    record {
      readers = output.readers ∙ ap (λ (bs : List (SharedBind g.row.N.Denot g.row.D-Writer.Denot)). map (λ b. b.window) bs) slice;
      driver_seats = output.driver_seats ∙ ap (λ (bs : List (SharedBind g.row.N.Denot g.row.D-Writer.Denot)). map (λ b. b.window) bs) slice;
      tried = output.tried;
      handed = all_handed c.in_ok-made.made.driver_seats.items _ (same_length (λ s. s.seat.window) (λ b. b.window) _ _ output.driver_seats ∙ ap length slice ∙ sym (same_length (λ s. s.seat.window) (λ b. b.window) _ _ c.in_ok-made.ensures.driver_seats)) c.in_ok-made.ensures.log.1 output.asked;
      rings = output.rings;
      seats = output.seats ∙ ap (λ (bs : List (SharedBind g.row.N.Denot g.row.D-Writer.Denot)). windows c.args.settings.now.workers (map (λ b. b.window) bs)) slice;
    }

pub returns-clause-sent : goal.returns-clause-sent
returns-clause-sent g c =
    let settings = c.args.settings.now in
    let rules : Rules = settings.rules in
    let ms = c.args.messages.items in
    let w = settings.workers in
    let opened = c.args.blank.credits in
    let remaining = g.D.Reader.Read.remaining in
    let told = g.D.Dial.told c.args.devices.now.dial.now in
    let made = c.in_ok-made.ensures in
    let shared_binds = c.in_ok-made.made.shared_binds.items in
    let parts = c.in_ok-made.made.bind_parts.items in
    let output =
    subst (λ (r : Rules). IsOutput r g.N.BookName.book w remaining (map (λ l. l.items) c.in_ok-prepared.prepared.job.batches.items) c.as_slice.result.now parts c.in_ok-made.made.driver_seats.items c.in_ok-output.output)
    c.context.ensures c.in_ok-output.ensures.output
    in
    let ds = c.in_ok-output.output.done.items in
    let readers = c.in_ok-output.output.readers.items in
    let concluded = c.conclude.ensures.concluded in
    let binds = c.conclude.result.binds.items in
    let rows = c.conclude.result.statement in
    let ends_of = λ (d : WorkerEnd g.row.N.Denot). d.ends.items in
    let shares = map (λ (d : WorkerEnd g.row.N.Denot). d.shares) ds in
    let views = map (λ (d : WorkerEnd g.row.N.Denot). d.seat.view) ds in
    let s = output.settled ms c.in_ok-prepared.ensures.dealt in
    let count : c.len-count.result ≡ length ms = omega (arith, c.len-count.ensures) in
    let accounts : g.N.BookName.book.accounts ≡ c.args.blank.book.accounts = ap (λ (b : BookId). b.accounts) (sym c.requires.name.0) in
    let all : map ends_of ds ≡ dealt (length ds) 0 s.es = s.dealt_is ∙ ap (λ n. dealt n 0 s.es) (sym output.all) in
    let ends = c.conclude.ensures.ends s.es (s.long ∙ sym count) all in
    let workers : length ds ≡ settings.binds * w = output.all ∙ ap (λ (b : BookId). b.workers) (sym c.requires.name.0) ∙ c.requires.count.1 in
    let ess : map ends_of ds ≡ dealt (settings.binds * w) 0 c.conclude.result.ends.items = all ∙ (λ i. dealt (workers i) 0 (sym ends i)) in
    let each : length shared_binds ≡ settings.binds = made.length ∙ c.in_ok-prepared.ensures.binds in
    record {
      ends = subst (λ (n : ℕ). AllZip (IsEndOf rules n) ms c.conclude.result.ends.items) accounts (subst (AllZip (IsEndOf rules g.N.BookName.book.accounts) ms) (sym ends) s.ends);
      covered =
          let sealed : g.N.BookName.book.sealed ≡ true = sym (ap (λ (b : BookId). b.sealed) c.requires.name.0) in
          let opening : g.N.BookName.book.opening ≡ opened = sym (ap (λ (b : BookId). b.opening) c.requires.name.0) ∙ c.requires.opening in
          subst (λ (l : List ℕ). AllZip (IsCovered l rules) ms c.conclude.result.ends.items) opening (subst (AllZip (IsCovered g.N.BookName.book.opening rules) ms) (sym ends) (s.covered sealed));
      heard =
          let long : length parts ≡ settings.binds = zip_length (IsSeated w) shared_binds parts made.seated ∙ each in
          let heard = are_heard rules.turns remaining settings.bind_settings.settings.mode told w shared_binds parts readers (map (λ (d : WorkerEnd g.row.N.Denot). d.consumer) ds) (map ends_of ds)
          made.opened made.seated output.read concluded.received
          (zip_of_all (λ (d : WorkerEnd g.row.N.Denot). d.consumer) ends_of (λ c es. Hears (received c) es) ds output.hears)
          in
          λ bind low. subst (λ l. IsHeard (told bind) (ends_at w bind l)) ess (heard bind (omega (arith, low, long)));
      readers = have_ended rules.turns remaining settings.bind_settings told parts readers binds made.opened made.set output.read concluded.outcomes;
      numbers =
          subst (λ (l : List (List MessageEnd)). AreNumbered settings.binds w l) ess
          (are_numbered settings.binds w views (map ends_of ds) (zip_of_all (λ (d : WorkerEnd g.row.N.Denot). d.seat.view) ends_of HasNumbers ds output.numbers)
          (subst (λ (n : ℕ). AllDrewOnce n w views) each concluded.once));
      below =
          subst (λ (l : List (List MessageEnd)). AreBelow w binds l) ess
          (are_below w views (map ends_of ds) binds (zip_of_all (λ (d : WorkerEnd g.row.N.Denot). d.seat.view) ends_of HasNumbers ds output.numbers) concluded.below);
      explained =
          subst (λ (l : List (List MessageEnd)). AreExplained w binds l) ess
          (are_explained w (map (λ (d : WorkerEnd g.row.N.Denot). d.closed) ds) (map ends_of ds) binds (zip_of_all (λ (d : WorkerEnd g.row.N.Denot). d.closed) ends_of SaysWhy ds output.causes) concluded.closings);
      reasons =
          subst (λ (l : List (List MessageEnd)). AreReasoned rules.policy.attempts w binds c.conclude.result.reasons.items l) ess
          (subst (λ (rs : List ReasonState). AreReasoned rules.policy.attempts w binds rs (map ends_of ds)) (sym concluded.reasons) (are_reasoned rules.policy.attempts w ds binds output.reasons concluded.closings));
      handed = are_handed_on ds (requests c.conclude.result.log.given) (flat (map (λ (b : BindEnd). handed_in b.unbind_result) binds)) (dealt (settings.binds * w) 0 c.conclude.result.ends.items) output.handed ess concluded.handed;
      written = subst (λ (n : ℕ). AreWritten (Some settings.bind_settings.settings) n [] c.conclude.result.log.given) each (subst (λ (s : Option Setting). AreWritten s (length shared_binds) [] c.conclude.result.log.given) c.requires.name.2 concluded.written);
      rows =
          subst (λ (x : List MessageEnd). AreRows opened ms x rows) (sym ends)
          (rows_of opened ms s.es shares rows s.sums (concluded.accounts ∙ accounts ∙ sym c.requires.accounts)
          (λ i low. subst (λ (t : List ℕ). IsSumOf (row_at rows i) i t shares) c.in-Ok.ensures.till (concluded.sums i low)));
      binds = subst (λ (n : ℕ). AreBinds n w binds) each concluded.ended;
    }

pub returns-in_err-prepared-clause-refused : goal.returns-in_err-prepared-clause-refused
returns-in_err-prepared-clause-refused g c = told_so c.from_residual.result _ _ c.from_residual.ensures.1 (inl (inl refl))

pub returns-in_err-prepared-clause-phase : goal.returns-in_err-prepared-clause-phase
returns-in_err-prepared-clause-phase g c = told_so c.from_residual.result _ _ c.from_residual.ensures.1 (inl c.requires.not_started)

pub returns-in_err-made-clause-phase : goal.returns-in_err-made-clause-phase
returns-in_err-made-clause-phase g c = told_so c.from_residual-in_err-made.result _ _ c.from_residual-in_err-made.ensures.1 (tells_before _ _ c.requires.not_started c.in_err-made.ensures.phase)

pub returns-in_err-output-clause-refused : goal.returns-in_err-output-clause-refused
returns-in_err-output-clause-refused g c = told_so c.from_residual-in_err-output.result _ _ c.from_residual-in_err-output.ensures.1 (inl c.in_err-output.ensures.refused)

pub returns-in_err-output-clause-phase : goal.returns-in_err-output-clause-phase
returns-in_err-output-clause-phase g c = told_so c.from_residual-in_err-output.result _ _ c.from_residual-in_err-output.ensures.1 c.in_err-output.ensures.phase

-- at most 4 binds have at most 61 workers each
few_workers : (all binds workers : ℕ) → all ≡ binds * workers → binds ≤ 4 → workers < 62 → all < 300
few_workers all binds workers is few each = (let most : binds * workers ≤ 4 * workers = mul-le-mul_right workers few in omega arith)

pub prepare-requires-clause-few : goal.prepare-requires-clause-few
prepare-requires-clause-few g c =
    let away = c.in-Ok-open.ensures.keeper.0 in
    let all = few_workers g.N.BookName.book.workers c.args.settings.now.binds c.args.settings.now.workers (ap (λ (b : BookId). b.workers) (sym c.requires.name.0) ∙ c.requires.count.1) c.requires.bound.0 c.requires.bound.1 in
    omega arith

pub make_binds-requires-clause-binds : goal.make_binds-requires-clause-binds
make_binds-requires-clause-binds g c lives held =
    let away = c.in-Ok-open.ensures.keeper.0 in
    let more = c.in_ok-prepared.ensures.log.away in
    let rings = c.in_ok-prepared.ensures.binds in
    let few = c.requires.bound.0 in
    let all = few_workers g.N.BookName.book.workers c.args.settings.now.binds c.args.settings.now.workers (ap (λ (b : BookId). b.workers) (sym c.requires.name.0) ∙ c.requires.count.1) c.requires.bound.0 c.requires.bound.1 in
    (omega arith, omega arith)

pub conclude-requires-clause-log : goal.conclude-requires-clause-log
conclude-requires-clause-log g c =
    let keeper = c.in-Ok-open.ensures.keeper in
    let none = keeper.0 in
    let more = c.in_ok-prepared.ensures.log in
    let workers = more.away in
    let log = c.in_ok-made.ensures.log.0 in
    let binds = log.away in
    let rings = c.in_ok-made.ensures.length in
    let done = c.in_ok-output.ensures.output.all in
    (omega arith, log.requests ∙ more.requests ∙ keeper.2, log.given ∙ more.given ∙ keeper.1)
