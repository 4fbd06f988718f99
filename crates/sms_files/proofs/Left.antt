-- How a read goes through the records that are left.
use Rattle.std.proofs.Common.{◌≡◌, ◌∙◌, sym, refl, ap, ℕ, zero, suc, ◌+◌, ◌<◌, ◌⊎◌, inl, inr, Bool, true, false, List, [], ◌∷◌, length, Option, Some, None, IfSome, arith, add-one}
use Rattle.csv.specs.Machine.{Read, next_record, step, is_end, ends_at_end, fields_after, field_after}
use Rattle.csv.specs.Reading.{NextIs, ReadRecord, ReadsNext, default_config, pending_of, records_from, records_next, source_of}
use Rattle.csv.specs.declared.parser.Config.{Config}
use Rattle.csv.specs.declared.parser.State.{State}
use Rattle.csv.specs.declared.parser.State.TheVariants as st
use Rattle.csv.specs.declared.reader.Reader.{Reader}
use Rattle.sms_files.specs.Fields.{Record}
use Rattle.sms_files.specs.Records.{GivesFirst, reader_left}

-- a record that was read took some bytes, or is the empty one at the end of the text
abbrev pub Takes : List ℕ → Read → Type 0
Takes xs p = (length p.2 < length xs) ⊎ ((p.1 ≡ st.StartRecord) × (p.2 ≡ []))

pub record-takes : (cfg : Config) (s : State) (fields : List (List ℕ)) (field xs : List ℕ) (p : Read)
    → next_record cfg s fields field xs ≡ Some p → Takes xs p
unfolding next_record
record-takes cfg s fields field [] p e = at_end (ends_at_end s) refl e
  where
    at_end : (b : Bool) → ends_at_end s ≡ b → next_record cfg s fields field [] ≡ Some p → Takes [] p
    at_end true h q = let r = rw h at q in inr (cc, cc)
    at_end false h q = let r = rw h at q in cc
record-takes cfg s fields field (c ∷ xs) p e =
    by (is_end (step cfg s c).1) refl e (record-takes cfg (step cfg s c).0 (fields_after (step cfg s c).1 fields field) (field_after (step cfg s c).1 c field) xs p)
  where
    by : (b : Bool) → is_end (step cfg s c).1 ≡ b → next_record cfg s fields field (c ∷ xs) ≡ Some p
        → (next_record cfg (step cfg s c).0 (fields_after (step cfg s c).1 fields field) (field_after (step cfg s c).1 c field) xs ≡ Some p → Takes xs p)
        → Takes (c ∷ xs) p
    by true h q more =
        let r = rw h at q in
        let rest : p.2 ≡ xs = cc in
        let same : length p.2 ≡ length xs = ap length rest in
        inl (omega arith)
    by false h q more = elim (more (rw h at q)) [
      | inl less ↦ inl (omega arith)
      | inr end ↦ let (_, empty) = end in let none : length p.2 ≡ 0 = ap length empty in inl (omega arith)
    ]

-- no record is left at the end of a text between records
pub none-left : (n : ℕ) → records_from default_config n st.StartRecord [] ≡ []
unfolding records_from next_record
none-left zero = refl
none-left (suc n) = refl

-- looking further than the text goes finds no more
pub far-enough : (n m : ℕ) (s : State) (xs : List ℕ) → length xs < n → length xs < m
    → records_from default_config n s xs ≡ records_from default_config m s xs
unfolding records_from
far-enough zero m s xs a b = absurd (omega arith)
far-enough (suc n) zero s xs a b = absurd (omega arith)
far-enough (suc n) (suc m) s xs a b = by (next_record default_config s [] [] xs) refl (λ p. far-enough n m p.1 p.2)
  where
    by : (o : Option Read) → next_record default_config s [] [] xs ≡ o
        → ((p : Read) → length p.2 < n → length p.2 < m → records_from default_config n p.1 p.2 ≡ records_from default_config m p.1 p.2)
        → records_next (records_from default_config n) (next_record default_config s [] [] xs) ≡ records_next (records_from default_config m) (next_record default_config s [] [] xs)
    by None e more = rw e refl
    by (Some p) e more = rw e (ap (λ (rest : List Record). p.0 ∷ rest) (elim (record-takes default_config s [] [] xs p e) [
      | inl less ↦ more p (omega arith) (omega arith)
      | inr end ↦ let (begun, empty) = end in rw (begun, empty) (none-left n ∙ sym (none-left m))
    ]))

after-read : (s : State) (xs : List ℕ) (o : Option Read) (found : Bool) (fields : Record) (s2 : State) (ys : List ℕ)
    → next_record default_config s [] [] xs ≡ o → NextIs o found fields s2 ys
    → GivesFirst (records_from default_config (length xs + 1) s xs) found fields (Some (records_from default_config (length ys + 1) s2 ys))
unfolding records_from
after-read s xs None found fields s2 ys e h = rw (add-one (length xs), e) h
after-read s xs (Some p) found fields s2 ys e (is_found, fields_are, state_is, rest_is) =
    rw (add-one (length xs), e) (
      is_found,
      fields_are,
      rw (state_is, rest_is) (ap Some (elim (record-takes default_config s [] [] xs p e) [
        | inl less ↦ far-enough (length p.2 + 1) (length xs) p.1 p.2 (omega arith) (omega arith)
        | inr end ↦ let (begun, empty) = end in rw (begun, empty) (none-left (length {A = ℕ} [] + 1) ∙ sym (none-left (length xs)))
      ])),
    )

told-read : {R : Type 0} (remaining : R → Option (List ℕ)) (b : Reader R) (s : State) (before after : Option (List ℕ)) (found : Bool) (fields : Record)
    → source_of remaining b ≡ after → ReadsNext default_config s before after found fields b.state
    → IfSome before (λ bytes. GivesFirst (records_from default_config (length bytes + 1) s bytes) found fields (reader_left remaining b))
told-read remaining b s None after found fields e h = tt
told-read remaining b s (Some xs) None found fields e h = absurd h
told-read remaining b s (Some xs) (Some ys) found fields e h = rw e (after-read s xs (next_record default_config s [] [] xs) found fields b.state ys refl h)

from-source : {R : Type 0} (remaining : R → Option (List ℕ)) (a b : Reader R) (o after : Option (List ℕ)) (found : Bool) (fields : Record)
    → source_of remaining a ≡ o → source_of remaining b ≡ after → ReadsNext default_config a.state o after found fields b.state
    → IfSome (reader_left remaining a) (λ left. GivesFirst left found fields (reader_left remaining b))
from-source remaining a b None after found fields e f h = rw e tt
from-source remaining a b (Some xs) after found fields e f h = rw e (told-read remaining b a.state (Some xs) after found fields f h)

-- one read of a record gives the first of those that are left
pub first-left : {R : Type 0} (remaining : R → Option (List ℕ)) (a b : Reader R) (found : Bool) (fields : Record)
    → a.config ≡ default_config → ReadRecord remaining a b found fields
    → IfSome (reader_left remaining a) (λ left. GivesFirst left found fields (reader_left remaining b))
first-left remaining a b found fields plain r =
    let (read, begun, _, _, _, _) = r in
    let after : source_of remaining b ≡ pending_of (remaining b.rdr) b = rw begun refl in
    from-source remaining a b (source_of remaining a) (pending_of (remaining b.rdr) b) found fields refl after (rw plain at read)
