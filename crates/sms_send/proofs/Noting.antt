-- What a sending ended with, and what it ends with once its journal has ended.
use Rattle.std.proofs.Common.{◌≡◌, ◌⊎◌, inl, inr, refl, sym, subst, ℕ, List, Bool, Option, None, Result, Ok, Err, IfOk, IfErr}
use Rattle.std.specs.Prelude.{◌≢◌, string_bytes}
use Rattle.sms_devices.specs.declared.journal.files.Unmade.{Unmade}
use Rattle.sms_devices.specs.declared.journal.files.Unmade.TheVariants.{Failed, Held}
use Rattle.std.specs.Result.{IsErrAnd}
use Rattle.std.proofs.lemmas.Result.{IfErr-weaker}
use Rattle.sms_driver.specs.declared.start.StartPhase.{StartPhase}
use Rattle.sms_send.specs.Faults.{ComesAt, HasLostJournal, IsUnsettled, output_failed}
use Rattle.sms_send.specs.Noted.{FailsBegin, NotesEnd, fault_of_unmade}
use Rattle.sms_send.specs.Sent.{SendingEnd}
use Rattle.sms_send.specs.declared.args.send_args.JournalFile.{JournalFile}
use Rattle.sms_send.specs.declared.faults.fault.Fault.{Fault}

-- the same, or a fault of the journal behind a status
abbrev pub Ends : Result ℕ Fault → Fault → Type 0
Ends x f = (x ≡ Err f) ⊎ (HasLostJournal f × (s : ℕ) × (x ≡ Ok s))

pub ended_ok : (r x : Result ℕ Fault) (P : ℕ → Type 0) → IfOk r (λ s. x ≡ Ok s) → IfOk x P → IfOk r P
ended_ok (Ok s) x P same holds = rw same at holds
ended_ok (Err f) x P same holds = tt

-- a sending has ended so once its journal has
pub ended_noted : {W : Type 0} (r x : Result ℕ Fault) (strict : Bool) (sends : ℕ → Type 0) (fails begins : Fault → Type 0) (begun : StartPhase) (before after : W)
    → IfOk r (λ s. x ≡ Ok s) → IfErr r (Ends x) → SendingEnd strict sends fails begun before after x
    → SendingEnd strict sends (λ f. begins f ⊎ (fails f ⊎ (HasLostJournal f × (s : ℕ) × sends s))) begun before after r
ended_noted (Ok s) x strict sends fails begins begun before after same ends end = record {
  sent = rw same at end.sent;
  status = rw same at end.status;
  started = rw same at end.started;
  refused = tt;
  phase = tt;
  unwritten = tt;
}
ended_noted (Err f) x strict sends fails begins begun before after same (inl is) end = record {
  sent = tt;
  status = tt;
  started = tt;
  refused = inr (inl (rw is at end.refused));
  phase = rw is at end.phase;
  unwritten = rw is at end.unwritten;
}
ended_noted (Err f) x strict sends fails begins begun before after same (inr ((why, lost), s, ok)) end = record {
  sent = tt;
  status = tt;
  started = tt;
  refused = inr (inr ((why, lost), s, rw ok at end.sent));
  phase = subst (ComesAt begun) (sym lost) (rw ok at end.started);
  unwritten = λ other kept. absurd (kept (why, lost));
}

-- what holds of a sending's faults holds of them in other words
pub ended_weaker : {W : Type 0} (r : Result ℕ Fault) (strict : Bool) (sends : ℕ → Type 0) (fails gives : Fault → Type 0) (begun : StartPhase) (before after : W)
    → ((f : Fault) → fails f → gives f) → SendingEnd strict sends fails begun before after r → SendingEnd strict sends gives begun before after r
ended_weaker r strict sends fails gives begun before after weaker end = record {
  sent = end.sent;
  status = end.status;
  started = end.started;
  refused = IfErr-weaker r fails gives weaker end.refused;
  phase = end.phase;
  unwritten = end.unwritten;
}

-- no journal was wanted
pub unwanted : {F : Type 0} (contents : F → Option (List ℕ)) (makes : List ℕ → F → Type 0) (wanted : Option JournalFile) (r : Result ℕ Fault) → wanted ≡ None → IfOk r (NotesEnd contents makes wanted)
unwanted contents makes wanted (Ok status) none = subst (λ (w : Option JournalFile). NotesEnd contents makes w status) (sym none) tt
unwanted contents makes wanted (Err fault) none = tt

-- the first of two reasons in other words
pub weaker_first : {A B C D : Type 0} → (A → B) → (A × C) ⊎ D → (B × C) ⊎ D
weaker_first gives (inl (fails, same)) = inl (gives fails, same)
weaker_first gives (inr other) = inr other

-- a fault that comes before a worker is started ends a sending of which nothing was written
pub ended_early : {W : Type 0} (r : Result ℕ Fault) (e : Fault) (strict : Bool) (sends : ℕ → Type 0) (fails : Fault → Type 0) (begun : StartPhase) (same : W)
    → IsErrAnd r (λ f. f ≡ e) → fails e → ComesAt begun e → SendingEnd strict sends fails begun same same r
ended_early (Ok s) e strict sends fails begun same is bad comes = absurd is
ended_early (Err f) e strict sends fails begun same is bad comes = record {
  sent = tt;
  status = tt;
  started = tt;
  refused = rw is bad;
  phase = rw is comes;
  unwritten = λ other kept. refl;
}

-- nothing was written but where the output failed, and so where no journal did either
pub quiet_too : {T : Type 0} (r : Result T Fault) (A : Type 0) → IfErr r (λ f. f ≢ output_failed → A) → IfErr r (λ f. f ≢ output_failed → ¬ HasLostJournal f → ¬ IsUnsettled f → A)
quiet_too (Ok x) A quiet = tt
quiet_too (Err f) A quiet = λ other _ _. quiet other

-- so of two outputs
pub both_quiet : {T : Type 0} (r : Result T Fault) (A B : Type 0) → IfErr r (λ f. f ≢ output_failed → A × B) → IfErr r (λ f. f ≢ output_failed → ¬ HasLostJournal f → ¬ IsUnsettled f → A)
both_quiet (Ok x) A B quiet = tt
both_quiet (Err f) A B quiet = λ other _ _. (quiet other).0

-- and of one where the journal may have failed behind the report
pub noted_too : {T : Type 0} (r : Result T Fault) (A : Type 0) → IfErr r (λ f. f ≢ output_failed → ¬ HasLostJournal f → A) → IfErr r (λ f. f ≢ output_failed → ¬ HasLostJournal f → ¬ IsUnsettled f → A)
noted_too (Ok x) A quiet = tt
noted_too (Err f) A quiet = λ other kept _. quiet other kept

-- no file was made for a journal, or a process holds it
pub unmade_fails : {F : Type 0} (makes : List ℕ → F → Type 0) (refuses holds : List ℕ → Type 0) (journal : JournalFile) (name : List ℕ) (why : Unmade) (fault : Fault)
    → name ≡ string_bytes journal.name → fault ≡ fault_of_unmade journal.name why → refuses name → (λ (r : Result F Unmade). r ≡ Err Held → holds name) (Err why) → FailsBegin makes refuses holds journal fault
unmade_fails makes refuses holds journal name Held fault same is refused held = inl (is, subst holds same (held refl))
unmade_fails makes refuses holds journal name (Failed kind) fault same is refused held = inr (inl (kind, is, subst refuses same refused))
