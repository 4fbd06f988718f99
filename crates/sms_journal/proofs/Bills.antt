-- The parts of a bill, message by message, and what they come to.
use Rattle.std.proofs.Common.{◌≡◌, ◌≢◌, ◌∙◌, ◌≤◌, ◌<◌, ℕ, zero, suc, ◌+◌, min, Bool, true, false, List, [], ◌∷◌, ◌++◌, length, drop, get_or, Some, None, inl, inr, refl, sym, ap, append-nil, append_assoc, arith}
use Rattle.std.specs.Prelude.{Option, filter, flat_map, if◌then◌else◌, slice_get, slice_index_or, sum_by, string_bytes, ◌==◌}
use Rattle.std.proofs.lemmas.Bool.{cases_lt, eqb-true, eqb-false}
use Rattle.std.proofs.lemmas.Slice.Eq.{bytes_eq-Decides}
use Rattle.std.specs.Str.{bytes_eq}
use Rattle.std.proofs.lemmas.Grind.{flat_map-append}
use Rattle.std.proofs.lemmas.List.Sums.{sum_by-append, sum_by-cons}
use Rattle.sms_core.specs.declared.request.Phase.{Phase}
use Rattle.sms_core.specs.declared.row.Row.{Row}
use Rattle.sms_core.specs.Rows.{charged_of, reserved_of, returned_of}
use Rattle.sms_book.specs.Openings.{NoDouble, names_of}
use Rattle.sms_book.specs.declared.opening.Opening.{Opening}
use Rattle.sms_message.specs.declared.message.Message.{Message}
use Rattle.sms_message.specs.declared.ends.MessageEnd.{MessageEnd}
use Rattle.sms_message.specs.declared.ends.SegmentEnd.{SegmentEnd}
use Rattle.sms_message.specs.Ends.{phase_of}
use Rattle.sms_files.proofs.Lists.{drop_step}
use Rattle.sms_files.specs.Report.{is_unanswered}
use Rattle.sms_journal.specs.declared.bill.listing.Columns.{Columns}
use Rattle.sms_journal.specs.declared.bill.listing.Listing.TheVariants.{Doubtful}
use Rattle.sms_journal.specs.declared.notes.note.Note.{Note}
use Rattle.sms_journal.specs.Bill.{Billed, account_name, billed, billed_part, billed_parts, doubted_fields, doubted_text, line_in, line_of, name_in, part_text, ref_end}
use Rattle.sms_journal.specs.BillLaws.{BillsAddUp, DoubtsAreOfTheBill, DoubtsHaveRefs, paid_by}
use Rattle.sms_journal.specs.Moments.{moments_of}
use Rattle.sms_journal.specs.Sums.{credit_of_segment, credits_of_ends, parts_in, recovered_row, sum_parts}

-- ---- lines

module _ (listing : Columns) (os : List Opening) (ts : List ℕ) (ns : List Note) where
  abbrev lines : List Message → List (MessageEnd (Unit {0})) → List ℕ
  lines ms es = flat_map (line_in listing) (billed os ts ns ms es)

  -- a message more
  pub message_more : (ms : List Message) (es : List (MessageEnd (Unit {0}))) (k : ℕ) (m : Message) (e : MessageEnd (Unit {0})) (text pushed all : List ℕ) → k < length ms → k < length es → m ≡ get_or ms k m → e ≡ get_or es k e
      → text ++ flat_map (line_in listing) (billed os ts ns (drop k ms) (drop k es)) ≡ all → pushed ≡ text ++ flat_map (line_in listing) (billed_parts os ts ns m 1 (parts_in e.result))
      → pushed ++ flat_map (line_in listing) (billed os ts ns (drop (k + 1) ms) (drop (k + 1) es)) ≡ all
  message_more ms es k m e text pushed all low lower is its before grows =
      let own = flat_map (line_in listing) (billed_parts os ts ns m 1 (parts_in e.result)) in
      let rest = lines (drop (k + 1) ms) (drop (k + 1) es) in
      ap (λ (t : List ℕ). t ++ rest) grows ∙ append_assoc text own rest
      ∙ ap (λ (t : List ℕ). text ++ t) (sym (flat_map-append (line_in listing) (billed_parts os ts ns m 1 (parts_in e.result)) (billed os ts ns (drop (k + 1) ms) (drop (k + 1) es))))
      ∙ ap (λ (l : List (MessageEnd (Unit {0}))). text ++ lines (m ∷ drop (k + 1) ms) l) (sym (drop_step es k e lower its))
      ∙ ap (λ (l : List Message). text ++ lines l (drop k es)) (sym (drop_step ms k m low is)) ∙ before

  none_billed : (ms : List Message) → billed os ts ns ms [] ≡ []
  none_billed [] = refl
  none_billed (m ∷ ms) = refl

  all_billed : (ms : List Message) (es : List (MessageEnd (Unit {0}))) (k : ℕ) → min (length ms) (length es) ≤ k → billed os ts ns (drop k ms) (drop k es) ≡ []
  all_billed [] es zero h = refl
  all_billed [] es (suc k) h = refl
  all_billed (m ∷ ms) [] zero h = refl
  all_billed (m ∷ ms) [] (suc k) h = none_billed (drop k ms)
  all_billed (m ∷ ms) (e ∷ es) zero h = absurd (omega (arith, h))
  all_billed (m ∷ ms) (e ∷ es) (suc k) h = all_billed ms es k (omega (arith, h))

  pub messages_end : (ms : List Message) (es : List (MessageEnd (Unit {0}))) (k : ℕ) (text all : List ℕ) → min (length ms) (length es) ≤ k
      → text ++ flat_map (line_in listing) (billed os ts ns (drop k ms) (drop k es)) ≡ all → text ≡ all
  messages_end ms es k text all high before = sym (append-nil text) ∙ ap (λ (bs : List Billed). text ++ flat_map (line_in listing) bs) (sym (all_billed ms es k high)) ∙ before

-- ---- doubts

pub doubts : DoubtsAreOfTheBill
doubts [] = refl
doubts (b ∷ bs) = by (is_unanswered b.outcome) refl (doubts bs)
  where
    by : (t : Bool) → is_unanswered b.outcome ≡ t → flat_map (line_of Doubtful) bs ≡ flat_map (λ (x : Billed). part_text x ++ doubted_text x) (filter (λ (x : Billed). is_unanswered x.outcome) bs)
        → flat_map (line_of Doubtful) (b ∷ bs) ≡ flat_map (λ (x : Billed). part_text x ++ doubted_text x) (filter (λ (x : Billed). is_unanswered x.outcome) (b ∷ bs))
    by true e rest = rw e (ap (λ (t : List ℕ). (part_text b ++ doubted_text b) ++ t) rest)
    by false e rest = rw e rest

-- the line of a part in doubt with a reference, and no line of another
with_ref : (line : Billed → List ℕ) (bs : List Billed) → flat_map (λ (b : Billed). if is_unanswered b.outcome then line b else []) bs ≡ flat_map line (filter (λ (b : Billed). is_unanswered b.outcome) bs)
with_ref line [] = refl
with_ref line (b ∷ bs) = by (is_unanswered b.outcome) refl (with_ref line bs)
  where
    by : (t : Bool) → is_unanswered b.outcome ≡ t → flat_map (λ (x : Billed). if is_unanswered x.outcome then line x else []) bs ≡ flat_map line (filter (λ (x : Billed). is_unanswered x.outcome) bs)
        → flat_map (λ (x : Billed). if is_unanswered x.outcome then line x else []) (b ∷ bs) ≡ flat_map line (filter (λ (x : Billed). is_unanswered x.outcome) (b ∷ bs))
    by true e rest = rw e (ap (λ (t : List ℕ). line b ++ t) rest)
    by false e rest = rw e rest

pub doubts_have_refs : DoubtsHaveRefs
doubts_have_refs refs bs = with_ref (λ (b : Billed). part_text b ++ doubted_fields b ++ ref_end refs b.message) bs

-- ---- names

pub same_name : (name : List ℕ) → bytes_eq name name ≡ true
same_name name = (bytes_eq-Decides name name).1 refl

pub other_name : (name other : List ℕ) → name ≢ other → bytes_eq name other ≡ false
other_name name other apart = by (bytes_eq name other) refl
  where
    by : (t : Bool) → bytes_eq name other ≡ t → bytes_eq name other ≡ false
    by true e = absurd (apart ((bytes_eq-Decides name other).0 e))
    by false e = e

name_at : (os : List Opening) (a : ℕ) (o : Opening) → slice_get os a ≡ Some o → (slice_index_or (names_of os) a [] ≡ string_bytes o.name) × (a < length (names_of os))
name_at [] a o e = absurd (cc)
name_at (x ∷ os) zero o e = let same : x ≡ o = cc in (ap (λ (y : Opening). string_bytes y.name) same, omega arith)
name_at (x ∷ os) (suc a) o e = let h = name_at os a o e in let low = h.1 in (h.0, omega (arith, low))

in_order : (os : List Opening) → NoDouble (names_of os) → (a b : ℕ) (x y : Opening) → slice_get os a ≡ Some x → slice_get os b ≡ Some y → a < b → string_bytes x.name ≢ string_bytes y.name
in_order os none a b x y at there low same =
    let h = name_at os a x at in
    let k = name_at os b y there in
    none a b (record { before = low; there = k.1; same = h.0 ∙ same ∙ sym k.0 })

-- accounts in two places have two names
names_apart : (os : List Opening) → NoDouble (names_of os) → (a b : ℕ) (x y : Opening) → slice_get os a ≡ Some x → slice_get os b ≡ Some y → a ≢ b → string_bytes x.name ≢ string_bytes y.name
names_apart os none a b x y at there apart same = elim (cases_lt a b) [
  | inl low ↦ in_order os none a b x y at there low same
  | inr high ↦ in_order os none b a y x there at (omega (arith, high, apart)) (sym same)
]

-- ---- sums

-- a part adds to the account of a name what it adds to the one in its place
part_credit : (f : Phase → ℕ → ℕ) (os : List Opening) (i : ℕ) (o : Opening) → slice_get os i ≡ Some o → NoDouble (names_of os) → string_bytes o.name ≢ [] → (account : Option ℕ) (s : SegmentEnd (Unit {0}))
    → (if bytes_eq (account_name os account) (string_bytes o.name) then f (phase_of s.outcome) s.cost else 0) ≡ credit_of_segment f i account s
part_credit f os i o at none named None s = rw (other_name [] (string_bytes o.name) (λ e. named (sym e))) refl
part_credit f os i o at none named (Some a) s = by (a == i) refl (slice_get os a) refl
  where
    by : (t : Bool) → (a == i) ≡ t → (found : Option Opening) → slice_get os a ≡ found
        → (if bytes_eq (name_in (slice_get os a)) (string_bytes o.name) then f (phase_of s.outcome) s.cost else 0) ≡ (if a == i then f (phase_of s.outcome) s.cost else 0)
    by true e found there =
        let same : a ≡ i = eqb-true a i e in
        let is : slice_get os a ≡ Some o = ap (slice_get os) same ∙ at in
        rw e (rw is (rw (same_name (string_bytes o.name)) refl))
    by false e None there = rw e (rw there (rw (other_name [] (string_bytes o.name) (λ h. named (sym h))) refl))
    by false e (Some x) there = rw e (rw there (rw (other_name (string_bytes x.name) (string_bytes o.name) (names_apart os none a i x o there at (eqb-false a i e))) refl))

module _ (f : Phase → ℕ → ℕ) (os : List Opening) (ts : List ℕ) (ns : List Note) (i : ℕ) (o : Opening) where
  parts_credit : slice_get os i ≡ Some o → NoDouble (names_of os) → string_bytes o.name ≢ [] → (m : Message) (p : ℕ) (ss : List (SegmentEnd (Unit {0})))
      → sum_by (paid_by f (string_bytes o.name)) (billed_parts os ts ns m p ss) ≡ sum_parts (credit_of_segment f i m.account) ss
  parts_credit at none named m p [] = refl
  parts_credit at none named m p (s ∷ ss) =
      let here = part_credit f os i o at none named m.account s in
      let rest = parts_credit at none named m (p + 1) ss in
      let one : sum_by (paid_by f (string_bytes o.name)) (billed_parts os ts ns m p (s ∷ ss)) ≡ paid_by f (string_bytes o.name) (billed_part os m p s (moments_of ts ns m.index p)) + sum_by (paid_by f (string_bytes o.name)) (billed_parts os ts ns m (p + 1) ss) =
      sum_by-cons (paid_by f (string_bytes o.name)) (billed_part os m p s (moments_of ts ns m.index p)) (billed_parts os ts ns m (p + 1) ss) in
      one ∙ (λ j. here j + rest j)

  pub all_credit : slice_get os i ≡ Some o → NoDouble (names_of os) → string_bytes o.name ≢ [] → (ms : List Message) (es : List (MessageEnd (Unit {0})))
      → sum_by (paid_by f (string_bytes o.name)) (billed os ts ns ms es) ≡ credits_of_ends f i ms es
  all_credit at none named [] es = refl
  all_credit at none named (m ∷ ms) [] = refl
  all_credit at none named (m ∷ ms) (e ∷ es) =
      let here = parts_credit at none named m 1 (parts_in e.result) in
      let rest = all_credit at none named ms es in
      sum_by-append (paid_by f (string_bytes o.name)) (billed_parts os ts ns m 1 (parts_in e.result)) (billed os ts ns ms es) ∙ (λ j. here j + rest j)

pub bills_add_up : BillsAddUp
bills_add_up os ts ns ms es rows are none i o row at there named =
    let is : row ≡ recovered_row o.credits i ms es = are.each i row there o at in
    record {
      charged = all_credit charged_of os ts ns i o at none named ms es ∙ sym (ap (λ (r : Row). r.charged) is);
      unanswered = all_credit reserved_of os ts ns i o at none named ms es ∙ sym (ap (λ (r : Row). r.reserved) is);
      returned = all_credit returned_of os ts ns i o at none named ms es ∙ sym (ap (λ (r : Row). r.returned) is);
    }
