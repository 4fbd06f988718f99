-- What a writer holds after a text was written in turns.
use Rattle.std.proofs.Common.{◌≡◌, ◌∙◌, sym, ap, ℕ, ◌-◌, List, ◌++◌, length, take, drop, append_assoc, Option, None, Some, arith, Result, Ok, Err, IfErr}
use Rattle.std.proofs.lemmas.List.{length-drop, take-append-drop, take_all}
use Rattle.std.specs.Io.KnownBytes.{Appends, Keeps}
use Rattle.sms_files.specs.Output.{WritesFront, output_failed}
use Rattle.sms_files.specs.declared.report.fault.OutputFault.{OutputFault}

-- nothing more was written
pub appends-kept : (a b c : Option (List ℕ)) (xs : List ℕ) → Appends a b xs → Keeps b c → Appends a c xs
appends-kept None b c xs first kept = tt
appends-kept (Some before) None c xs first kept = absurd first
appends-kept (Some before) (Some between) None xs first kept = absurd kept
appends-kept (Some before) (Some between) (Some after) xs first kept = kept ∙ first

-- something more was written
pub appends-more : (a b c : Option (List ℕ)) (xs ys : List ℕ) → Appends a b xs → Appends b c ys → Appends a c (xs ++ ys)
appends-more None b c xs ys first second = tt
appends-more (Some before) None c xs ys first second = absurd first
appends-more (Some before) (Some between) None xs ys first second = absurd second
appends-more (Some before) (Some between) (Some after) xs ys first second =
    second ∙ ap (λ (l : List ℕ). l ++ ys) first ∙ append_assoc before xs ys

-- the next turn took so many of the rest
split-rest : (text front rest : List ℕ) (n : ℕ) → text ≡ front ++ rest → text ≡ (front ++ take n rest) ++ drop n rest
split-rest text front rest n whole =
    whole ∙ ap (λ (l : List ℕ). front ++ l) (sym (take-append-drop n rest)) ∙ sym (append_assoc front (take n rest) (drop n rest))

-- the same of the rest as a slice up to its end
pub front-grows : (text front rest : List ℕ) (n : ℕ) → text ≡ front ++ rest → text ≡ (front ++ take n rest) ++ take (length rest - n) (drop n rest)
front-grows text front rest n whole =
    let dropped = length-drop n rest in
    split-rest text front rest n whole ∙ ap (λ (l : List ℕ). (front ++ take n rest) ++ l) (sym (take_all (length rest - n) (drop n rest) (omega (arith, dropped))))

-- letting the text go out changes nothing of it
pub front-kept : (a b c : Option (List ℕ)) (text : List ℕ) → WritesFront a b text → Keeps b c → WritesFront a c text
front-kept a b c text written kept = record { front = written.front; back = written.back; whole = written.whole; out = appends-kept a b c written.front written.out kept }

-- what holds where the output failed, whatever the fault
pub where-output : {T : Type 0} (r : Result T OutputFault) (P : Type 0) → P → IfErr r (λ fault. fault ≡ output_failed → P)
where-output (Ok x) P p = tt
where-output (Err f) P p = λ _. p
