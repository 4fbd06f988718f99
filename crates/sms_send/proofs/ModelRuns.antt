-- Whatever was sent is a run of the model.
use Rattle.std.proofs.Common.{◌≡◌, inl, inr, ℕ, ◌-◌, ◌^◌, ◌<◌, ◌∙◌, List, [], ◌∷◌, None, Some, length, refl, sym, ap, subst, arith}
use Rattle.std.specs.Prelude.{◌%◌, if◌then◌else◌, string_bytes}
use Rattle.std.specs.Str.{chars}
use Rattle.std.specs.List.{AllZip}
use Rattle.std.proofs.lemmas.List.{length-map}
use Rattle.sms_book.specs.Openings.{credits_of}
use Rattle.sms_book.specs.Portions.{row_at, topped_at}
use Rattle.sms_book.specs.Tariffs.{IsTariff, cost_of}
use Rattle.sms_book.specs.declared.opening.Opening.{Opening}
use Rattle.sms_core.specs.State.{AreLimits, rows}
use Rattle.sms_core.specs.Rows.{returned_of}
use Rattle.sms_core.specs.declared.row.Row.{Row}
use Rattle.sms_alphabet.specs.Spelling.{chosen}
use Rattle.sms_alphabet.specs.declared.coded.Coded.{Coded}
use Rattle.sms_segment.specs.Message.{IsTooLong, parts_of}
use Rattle.sms_segment.specs.declared.place.Reference.{Reference}
use Rattle.sms_segment.specs.declared.place.Reference.TheVariants.{Long, Short}
use Rattle.sms_session.specs.declared.policy.Policy.{Policy}
use Rattle.sms_message.specs.Addresses.{Address, IsDestination, IsSource}
use Rattle.sms_message.specs.Admission.{IsKnown, IsRefusalOf}
use Rattle.sms_message.specs.Ends.{credits}
use Rattle.sms_message.specs.Results.{IsResultOf}
use Rattle.sms_message.specs.Submits.{HasAddresses, coded_text, reference_of}
use Rattle.sms_message.specs.declared.ends.MessageRefusal.{MessageRefusal}
use Rattle.sms_message.specs.declared.ends.MessageRefusal.TheVariants.{BadAddress, BindClosed, NoAccount, NoCredit, OutOfMemory, TooLong}
use Rattle.sms_message.specs.declared.ends.MessageResult.{MessageResult}
use Rattle.sms_message.specs.declared.ends.MessageResult.TheVariants as result
use Rattle.sms_message.specs.declared.message.Message.{Message}
use Rattle.sms_message.specs.declared.rules.Rules.{Rules}
use Rattle.sms_worker.specs.EndOf.{IsEndOf}
use Rattle.sms_worker.specs.Types.{MessageEnd}
use Rattle.sms_driver.specs.declared.settings.RunSettings.{RunSettings}
use Rattle.sms_files.specs.Inputs.{Told}
use Rattle.sms_files.specs.declared.input.Input.{Input}
use Rattle.sms_journal.specs.EndLaws.{IsCoveredBy, IsEndBy, IsModelRun, IsRowBy}
use Rattle.sms_journal.specs.Left.{SaysSame, left_in}
use Rattle.sms_journal.specs.ScheduleLaws.{IsRunOf}
use Rattle.sms_journal.specs.SentParts.{parts_sent}
use Rattle.sms_journal.proofs.EndRuns.{sendings_are_runs}
use Rattle.sms_journal.proofs.Over.{holds_after}
use Rattle.sms_send.specs.ModelLaws.{EachSendingIsARun, HasModel, IsModelled}
use Rattle.sms_send.specs.Rounds.{AreRounds, IsSumUpTo, Round}
use Rattle.sms_send.specs.declared.sending.sender.Ended.{Ended}
use Rattle.sms_send.proofs.CoveredParts.{all_covered, covered_over_rounds, small_credits}

-- ---- a message that says the same has the same end

addressed : (m n : Message) → string_bytes n.source ≡ string_bytes m.source → string_bytes n.dest ≡ string_bytes m.dest → HasAddresses n → HasAddresses m
addressed m n source dest is = (subst (λ (t : List ℕ). (a : Address) × IsSource t a) source is.0, subst (λ (t : List ℕ). (a : Address) × IsDestination t a) dest is.1)

module _ (rules : Rules) (accounts : ℕ) (m n : Message) (same : SaysSame m n) where
  coded : coded_text n ≡ coded_text m
  coded = ap (λ (t : List ℕ). chosen (chars t)) same.text

  reference : reference_of rules n ≡ reference_of rules m
  reference = ap (λ (i : ℕ). if rules.long_reference then Long (i % 65536) else Short (i % 256)) same.index

  known : IsKnown accounts n.account → IsKnown accounts m.account
  known is = subst (IsKnown accounts) same.account is

  good : HasAddresses n → HasAddresses m
  good is = addressed m n same.source same.dest is

  -- what holds of the text and of the reference that its parts have
  of_text : (P : Coded → Reference → Type 0) → P (coded_text n) (reference_of rules n) → P (coded_text m) (reference_of rules m)
  of_text P is = subst (λ (r : Reference). P (coded_text m) r) reference (subst (λ (c : Coded). P c (reference_of rules n)) coded is)

  refused : (refusal : MessageRefusal) → IsRefusalOf rules accounts n refusal → IsRefusalOf rules accounts m refusal
  refused NoAccount is = λ paid. is (subst (IsKnown accounts) (sym same.account) paid)
  refused BadAddress is = (known is.0, λ sound. is.1 (addressed n m (sym same.source) (sym same.dest) sound))
  refused TooLong is = (known is.0, good is.1, of_text (λ c r. IsTooLong c r) is.2)
  refused NoCredit is = (known is.0, good is.1, of_text (λ c r. ¬ IsTooLong c r) is.2)
  refused BindClosed is = tt
  refused OutOfMemory is = (known is.0, good is.1)

  ended : {S : Type 0} (r : MessageResult S) → IsResultOf rules accounts n r → IsResultOf rules accounts m r
  ended (result.Sent segments) is = record {
    known = known is.known;
    addresses = good is.addresses;
    short = of_text (λ c r. ¬ IsTooLong c r) is.short;
    parts = of_text (λ c r. length segments ≡ length (parts_of c r)) is.parts;
  }
  ended (result.Refused refusal) is = refused refusal is

ends_by : (rules : Rules) (accounts : ℕ) (ms copies : List Message) (es : List MessageEnd) → AllZip SaysSame ms copies → AllZip (IsEndOf rules accounts) copies es → AllZip (IsEndBy rules accounts) ms es
ends_by rules accounts [] [] [] same z = tt
ends_by rules accounts [] [] (e ∷ es) same z = absurd z
ends_by rules accounts [] (n ∷ copies) es same z = absurd same
ends_by rules accounts (m ∷ ms) [] es same z = absurd same
ends_by rules accounts (m ∷ ms) (n ∷ copies) [] same z = absurd z
ends_by rules accounts (m ∷ ms) (n ∷ copies) (e ∷ es) same z = (
  record {
    result = ended rules accounts m n same.0 e.result z.0.result;
    segments = λ p s there. (let is = z.0.segments p s there in record { cost = is.cost ∙ ap (λ (t : List ℕ). cost_of rules.tariff t) same.0.dest; settled = is.settled });
  },
  ends_by rules accounts ms copies es same.1 z.1,
)

same_all : (ms : List Message) → AllZip SaysSame ms ms
same_all [] = tt
same_all (m ∷ ms) = (record { index = refl; account = refl; source = refl; dest = refl; text = refl }, same_all ms)

-- ---- the ends of all rounds

module _ (tells : ℕ → ℕ → Told) (settings : RunSettings) where
  ends_over_rounds : (opened : List ℕ) (ms : List Message) (rounds : List Round) (ends : List MessageEnd) (rows : List Row) → AreRounds tells settings opened ms rounds ends rows
      → AllZip (IsEndBy settings.rules (length opened)) ms ends
  ends_over_rounds opened ms [] ends rows are = absurd are
  ends_over_rounds opened ms (r ∷ []) ends rows are =
      subst (λ (l : List MessageEnd). AllZip (IsEndBy settings.rules (length opened)) ms l) (sym are.ends_are)
      (ends_by settings.rules (length opened) ms r.messages r.sending.ends.items are.same are.sent.ends)
  ends_over_rounds opened ms (r ∷ (q ∷ before)) ends rows (es, ws, was, is) =
      subst (λ (l : List MessageEnd). AllZip (IsEndBy settings.rules (length opened)) ms l) (sym is.ends_are)
      (holds_after (IsEndBy settings.rules (length opened)) ms es r.sending.ends.items (ends_over_rounds opened ms (q ∷ before) es ws was)
      (ends_by settings.rules (length opened) (left_in ms es) r.messages r.sending.ends.items is.same is.sent.ends))

-- a sum that a number of 64 bits counts
counted : (sum n : ℕ) → sum < 2 ^ 64 - 1 → IsSumUpTo sum n → n ≡ sum
counted sum n low (inl is) = is
counted sum n low (inr top) = let most = top.1 in absurd (omega arith)

-- ---- the law

-- by the rules of the sending
modelled : (input : Input) (sent : Ended) (rules : Rules) → rules.policy ≡ input.config.retry.policy → rules.tariff ≡ input.tariff → HasModel input sent
    → AllZip (IsCoveredBy (credits_of input.openings.items)) input.messages.items sent.ends.items → AllZip (IsEndBy rules (length (credits_of input.openings.items))) input.messages.items sent.ends.items
    → ((i : ℕ) → i < length (credits_of input.openings.items) → IsRowBy (topped_at (credits_of input.openings.items) i) i input.messages.items sent.ends.items (row_at sent.statement i)) → IsModelled input sent
modelled input sent rules policy tariff h covered ends rows_are =
    let opened : List ℕ = credits_of input.openings.items in
    let attempts : rules.policy.attempts ≡ input.config.retry.policy.attempts = ap (λ (p : Policy). p.attempts) policy in
    let is : IsModelRun rules opened input.messages.items sent.ends.items sent.statement = sendings_are_runs rules opened input.messages.items sent.ends.items sent.statement (record {
      limits = subst (λ (n : ℕ). AreLimits (length opened) 1 n) (sym attempts) h.limits;
      topped = h.topped;
      tariff = subst IsTariff (sym tariff) h.tariff;
      ends = ends;
      rows_are = rows_are;
      covered = covered;
      numbers = h.numbers;
    }) in
    let as_asked : (run : IsRunOf input.config.retry.policy.attempts opened (parts_sent input.messages.items sent.ends.items)) × ((i : ℕ) → i < length opened → rows run.world i ≡ Some (row_at sent.statement i)) =
    subst (λ (n : ℕ). (run : IsRunOf n opened (parts_sent input.messages.items sent.ends.items)) × ((i : ℕ) → i < length opened → rows run.world i ≡ Some (row_at sent.statement i))) attempts (is.run, is.statement) in
    record { run = as_asked.0; statement = as_asked.1 }

pub each_sending_is_a_run : EachSendingIsARun
each_sending_is_a_run tells None input sent is h =
    let opened : List ℕ = credits_of input.openings.items in
    let long : length opened ≡ length input.openings.items = length-map input.openings.items (λ (o : Opening). o.credits) in
    modelled input sent is.rules is.says.policy is.says.tariff_is h
    (all_covered is.rules (length input.openings.items) opened opened (λ i. omega arith) input.messages.items input.messages.items sent.ends.items (same_all input.messages.items) is.ends is.covered)
    (ends_by is.rules (length opened) input.messages.items input.messages.items sent.ends.items (same_all input.messages.items)
    (subst (λ (n : ℕ). AllZip (IsEndOf is.rules n) input.messages.items sent.ends.items) (sym long) is.ends))
    (λ i within. let row = is.rows.sums i within in record { topped_is = row.topped_is; reserved = row.reserved; charged = row.charged; returned = row.returned; balanced = row.balanced })
each_sending_is_a_run tells (Some again) input sent is h =
    let opened : List ℕ = credits_of input.openings.items in
    modelled input sent is.settings.rules is.are.says.policy is.are.says.tariff_is h (covered_over_rounds tells is.settings opened input.messages.items is.rounds sent.ends.items sent.statement (small_credits opened h.topped) is.come) (ends_over_rounds tells is.settings opened input.messages.items is.rounds sent.ends.items sent.statement is.come)
    (λ i within. let row = is.rows.sums i within in record {
      topped_is = row.topped_is;
      reserved = row.reserved;
      charged = row.charged;
      returned = counted (credits returned_of i input.messages.items sent.ends.items) (row_at sent.statement i).returned (h.returned i within) row.returned;
      balanced = row.balanced;
    })
