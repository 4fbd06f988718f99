-- What an append leaves of a ledger's octets, where those are known.
use Rattle.std.proofs.Common.{◌≡◌, ℕ, ◌≤◌, List, ◌++◌, length, take, Option, Some, None, sym, ap, ◌∙◌, subst, arith, inr, length-append}
use Rattle.std.proofs.lemmas.List.{length-take-le}
use Rattle.std.proofs.Math.Seq.{take-append_seam}
use Rattle.std.specs.declared.io.ErrorKind.{ErrorKind}
use Rattle.std.specs.Io.KnownBytes.{Appends, Keeps}
use Rattle.sms_files.specs.Output.{WritesFront}
use Rattle.sms_devices.specs.declared.ledger.failure.LedgerFailure.{LedgerFailure}
use Rattle.sms_devices.specs.declared.ledger.failure.LedgerFailure.TheVariants.{Locked, NoFile, OtherKind, OutOfMemory, Torn, Unopened, Unread, Unwritten}
use Rattle.sms_devices.specs.Ledgers.{CutsBack, CutsTo, Leaves, Replaces, ReplacesPart}

-- the octets are cut, and a text is written behind those that stay
pub replaced : (a b c : Option (List ℕ)) (n : ℕ) (text : List ℕ) → CutsTo a b n → Appends b c text → Replaces a c n text
replaced None b c n text cut out = tt
replaced (Some before) None c n text cut out = absurd cut
replaced (Some before) (Some kept) None n text cut out = absurd out
replaced (Some before) (Some kept) (Some after) n text cut out = λ long. out ∙ ap (λ (l : List ℕ). l ++ text) (cut long)

-- the first octets of those that stay and a text are those that stay
cut_again : (before front : List ℕ) (n : ℕ) → n ≤ length before → take n (take n before ++ front) ≡ take n before
cut_again before front n long =
    let kept = length-take-le n before long in
    ap (λ (k : ℕ). take k (take n before ++ front)) (sym kept) ∙ take-append_seam (take n before) front

long_enough : (before front : List ℕ) (n : ℕ) → n ≤ length before → n ≤ length (take n before ++ front)
long_enough before front n long = search (arith, long, length-take-le n before long, length-append (take n before) front)

-- and cut again
pub cut_twice : (a b c d : Option (List ℕ)) (n : ℕ) (text : List ℕ) → CutsTo a b n → WritesFront b c text → CutsTo c d n → CutsTo a d n
cut_twice None b c d n text cut out again = tt
cut_twice (Some before) None c d n text cut out again = absurd cut
cut_twice (Some before) (Some kept) None d n text cut out again = absurd out.out
cut_twice (Some before) (Some kept) (Some after) None n text cut out again = absurd again
cut_twice (Some before) (Some kept) (Some after) (Some last) n text cut out again = λ long.
    let is : after ≡ take n before ++ out.front = out.out ∙ ap (λ (l : List ℕ). l ++ out.front) (cut long) in
    again (subst (λ (l : List ℕ). n ≤ length l) (sym is) (long_enough before out.front n long)) ∙ ap (take n) is ∙ cut_again before out.front n long

-- or it isn't
pub part_left : (a b c d : Option (List ℕ)) (n : ℕ) (text : List ℕ) → CutsTo a b n → WritesFront b c text → Keeps c d → ReplacesPart a d n text
part_left a b c d n text cut out kept = record { front = out.front; back = out.back; whole = out.whole; stands = stays a b c d kept (replaced a b c n out.front cut out.out) }
  where
    stays : (a b c d : Option (List ℕ)) → Keeps c d → Replaces a c n out.front → Replaces a d n out.front
    stays None b c d kept is = tt
    stays (Some before) b None d kept is = absurd is
    stays (Some before) b (Some after) None kept is = absurd kept
    stays (Some before) b (Some after) (Some last) kept is = λ long. kept ∙ is long

-- what is left once a failure was answered so
pub leaves : (errs : ErrorKind → Type 0) (a b c d : Option (List ℕ)) (n : ℕ) (text : List ℕ) (kind : ErrorKind) (why : LedgerFailure) → CutsTo a b n → WritesFront b c text → errs kind → CutsBack c d n kind why → Leaves errs a d n text why
leaves errs a b c d n text kind (Unwritten was) cut out erred back = (subst errs (sym back.0) erred, inr (cut_twice a b c d n text cut out back.1))
leaves errs a b c d n text kind (Torn was) cut out erred back = (subst errs (sym back.0) erred, part_left a b c d n text cut out back.1)
leaves errs a b c d n text kind (Unopened was) cut out erred back = absurd back
leaves errs a b c d n text kind NoFile cut out erred back = absurd back
leaves errs a b c d n text kind OtherKind cut out erred back = absurd back
leaves errs a b c d n text kind Locked cut out erred back = absurd back
leaves errs a b c d n text kind (Unread was) cut out erred back = absurd back
leaves errs a b c d n text kind (OutOfMemory refused) cut out erred back = absurd back
