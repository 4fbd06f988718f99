-- What a verdict on a message says of its parts, and of why it may be refused.
use Rattle.std.proofs.Common.{◌≡◌, ℕ, List, Some, None, refl, sym, ap, ◌∙◌, subst, true}
use Rattle.std.specs.Prelude.{Option, IfSome, IsNone}
use Rattle.sms_message.specs.declared.message.Message.{Message}
use Rattle.sms_message.specs.declared.rules.Rules.{Rules}
use Rattle.sms_message.specs.declared.ends.MessageRefusal.{MessageRefusal}
use Rattle.sms_message.specs.declared.ends.MessageRefusal.TheVariants as refusals
use Rattle.sms_message.specs.Admission.{IsRefusalOf}
use Rattle.sms_journal.specs.declared.notes.run_size.RunSize.{RunSize}
use Rattle.sms_journal.specs.declared.notes.verdict.Verdict.{Verdict}
use Rattle.sms_journal.specs.declared.notes.verdict.Verdict.TheVariants.{NoAccount, BadAddress, TooLong, Parts}
use Rattle.sms_journal.specs.Lawful.{HasParts, HasRefusal, message_of}
use Rattle.sms_journal.specs.Verdicts.{IsVerdict, IsVerdictAt, allows, parts_by}

-- ---- the parts

same_message : (o : Option Message) (a b : Message) → o ≡ Some a → o ≡ Some b → a ≡ b
same_message o a b x y = let e : Some a ≡ Some b = sym x ∙ y in cc

pub parts_found : (rules : Rules) (size : RunSize) (ms : List Message) (i : ℕ) (o : Option Verdict) → IsVerdictAt rules size ms i o → IfSome (parts_by o) (HasParts rules size ms i)
parts_found rules size ms i None h = tt
parts_found rules size ms i (Some NoAccount) h = tt
parts_found rules size ms i (Some BadAddress) h = tt
parts_found rules size ms i (Some TooLong) h = tt
parts_found rules size ms i (Some (Parts count)) h = record { message = h.0; is = h.1; known = h.2.0; addresses = h.2.1; short = h.2.2; count_is = h.2.3 }

pub no_parts : (rules : Rules) (size : RunSize) (ms : List Message) (i : ℕ) (o : Option Verdict) → IsVerdictAt rules size ms i o → IsNone (parts_by o) → (count : ℕ) → HasParts rules size ms i count → ⊥
no_parts rules size ms i None h none count g = let is : Some g.message ≡ None = sym g.is ∙ h in absurd (cc)
no_parts rules size ms i (Some NoAccount) h none count g = let same = same_message (message_of ms i) g.message h.0 g.is h.1 in subst (λ (m : Message). IsVerdict rules size.accounts m NoAccount) (sym same) h.2 g.known
no_parts rules size ms i (Some BadAddress) h none count g = let same = same_message (message_of ms i) g.message h.0 g.is h.1 in (subst (λ (m : Message). IsVerdict rules size.accounts m BadAddress) (sym same) h.2).1 g.addresses
no_parts rules size ms i (Some TooLong) h none count g = let same = same_message (message_of ms i) g.message h.0 g.is h.1 in g.short (subst (λ (m : Message). IsVerdict rules size.accounts m TooLong) (sym same) h.2).2
no_parts rules size ms i (Some (Parts k)) h none count g = absurd (cc)

-- ---- the refusal

allowed : (rules : Rules) (accounts : ℕ) (m : Message) (refusal : MessageRefusal) (v : Verdict) → IsVerdict rules accounts m v → allows refusal v ≡ true → IsRefusalOf rules accounts m refusal
allowed rules accounts m refusals.BindClosed v h e = tt
allowed rules accounts m refusals.NoAccount NoAccount h e = h
allowed rules accounts m refusals.NoAccount BadAddress h e = absurd (cc)
allowed rules accounts m refusals.NoAccount TooLong h e = absurd (cc)
allowed rules accounts m refusals.NoAccount (Parts k) h e = absurd (cc)
allowed rules accounts m refusals.BadAddress NoAccount h e = absurd (cc)
allowed rules accounts m refusals.BadAddress BadAddress h e = h
allowed rules accounts m refusals.BadAddress TooLong h e = absurd (cc)
allowed rules accounts m refusals.BadAddress (Parts k) h e = absurd (cc)
allowed rules accounts m refusals.TooLong NoAccount h e = absurd (cc)
allowed rules accounts m refusals.TooLong BadAddress h e = absurd (cc)
allowed rules accounts m refusals.TooLong TooLong h e = h
allowed rules accounts m refusals.TooLong (Parts k) h e = absurd (cc)
allowed rules accounts m refusals.NoCredit NoAccount h e = absurd (cc)
allowed rules accounts m refusals.NoCredit BadAddress h e = absurd (cc)
allowed rules accounts m refusals.NoCredit TooLong h e = absurd (cc)
allowed rules accounts m refusals.NoCredit (Parts k) h e = (h.0, h.1, h.2)
allowed rules accounts m refusals.OutOfMemory NoAccount h e = absurd (cc)
allowed rules accounts m refusals.OutOfMemory BadAddress h e = absurd (cc)
allowed rules accounts m refusals.OutOfMemory TooLong h e = (h.0, h.1)
allowed rules accounts m refusals.OutOfMemory (Parts k) h e = (h.0, h.1)

allowing : (rules : Rules) (accounts : ℕ) (m : Message) (refusal : MessageRefusal) (v : Verdict) → IsVerdict rules accounts m v → IsRefusalOf rules accounts m refusal → allows refusal v ≡ true
allowing rules accounts m refusals.BindClosed v h g = refl
allowing rules accounts m refusals.NoAccount NoAccount h g = refl
allowing rules accounts m refusals.NoAccount BadAddress h g = absurd (g h.0)
allowing rules accounts m refusals.NoAccount TooLong h g = absurd (g h.0)
allowing rules accounts m refusals.NoAccount (Parts k) h g = absurd (g h.0)
allowing rules accounts m refusals.BadAddress NoAccount h g = absurd (h g.0)
allowing rules accounts m refusals.BadAddress BadAddress h g = refl
allowing rules accounts m refusals.BadAddress TooLong h g = absurd (g.1 h.1)
allowing rules accounts m refusals.BadAddress (Parts k) h g = absurd (g.1 h.1)
allowing rules accounts m refusals.TooLong NoAccount h g = absurd (h g.0)
allowing rules accounts m refusals.TooLong BadAddress h g = absurd (h.1 g.1)
allowing rules accounts m refusals.TooLong TooLong h g = refl
allowing rules accounts m refusals.TooLong (Parts k) h g = absurd (h.2 g.2)
allowing rules accounts m refusals.NoCredit NoAccount h g = absurd (h g.0)
allowing rules accounts m refusals.NoCredit BadAddress h g = absurd (h.1 g.1)
allowing rules accounts m refusals.NoCredit TooLong h g = absurd (g.2 h.2)
allowing rules accounts m refusals.NoCredit (Parts k) h g = refl
allowing rules accounts m refusals.OutOfMemory NoAccount h g = absurd (h g.0)
allowing rules accounts m refusals.OutOfMemory BadAddress h g = absurd (h.1 g.1)
allowing rules accounts m refusals.OutOfMemory TooLong h g = refl
allowing rules accounts m refusals.OutOfMemory (Parts k) h g = refl

pub refusal_yes : (rules : Rules) (size : RunSize) (ms : List Message) (i : ℕ) (refusal : MessageRefusal) (o : Option Verdict) (v : Verdict) → IsVerdictAt rules size ms i o → o ≡ Some v → allows refusal v ≡ true → HasRefusal rules size ms i refusal
refusal_yes rules size ms i refusal None v h is e = absurd (cc)
refusal_yes rules size ms i refusal (Some w) v h is e =
    let same : v ≡ w = cc in
    record { message = h.0; is = h.1; says = allowed rules size.accounts h.0 refusal w h.2 (ap (allows refusal) (sym same) ∙ e) }

pub yes_refusal : (rules : Rules) (size : RunSize) (ms : List Message) (i : ℕ) (refusal : MessageRefusal) (o : Option Verdict) (v : Verdict) → IsVerdictAt rules size ms i o → o ≡ Some v → HasRefusal rules size ms i refusal → allows refusal v ≡ true
yes_refusal rules size ms i refusal None v h is g = absurd (cc)
yes_refusal rules size ms i refusal (Some w) v h is g =
    let same : v ≡ w = cc in
    let message = same_message (message_of ms i) g.message h.0 g.is h.1 in
    ap (allows refusal) same ∙ allowing rules size.accounts h.0 refusal w h.2 (subst (λ (m : Message). IsRefusalOf rules size.accounts m refusal) message g.says)

pub no_refusal : (rules : Rules) (size : RunSize) (ms : List Message) (i : ℕ) (refusal : MessageRefusal) (o : Option Verdict) → IsVerdictAt rules size ms i o → o ≡ None → HasRefusal rules size ms i refusal → ⊥
no_refusal rules size ms i refusal None h is g = let some : Some g.message ≡ None = sym g.is ∙ h in absurd (cc)
no_refusal rules size ms i refusal (Some w) h is g = absurd (cc)
