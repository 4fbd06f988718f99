-- Lines of a schedule, one after another.
use Rattle.std.proofs.Common.{◌≡◌, ℕ, ◌+◌, List, [], ◌∷◌, ◌++◌, length, refl, sym, ap, ◌∙◌, arith, append_assoc, length-append}
use Rattle.std.specs.Prelude.{string_bytes}
use Rattle.std.proofs.lemmas.List.{append-nil}
use Rattle.sms_core.specs.declared.event.Event.{Event}
use Rattle.sms_journal.specs.declared.audit.lines.Lines.{Lines}
use Rattle.sms_journal.specs.ScheduleText.{Adds, Fits, Leaves, Writes, event_text, events_text}

pub events_append : (es fs : List Event) → events_text (es ++ fs) ≡ events_text es ++ events_text fs
events_append [] fs = refl
events_append (e ∷ es) fs = ap (λ (l : List ℕ). event_text e ++ l) (events_append es fs) ∙ sym (append_assoc (event_text e) (events_text es) (events_text fs))

-- a longer text fits
pub fits_longer : (old new : Lines) (more : List ℕ) → Fits old → string_bytes new.text ≡ string_bytes old.text ++ more → new.events ≡ old.events → new.next ≡ old.next → Fits new
fits_longer old new more fits text events next =
    let long : length (string_bytes new.text) ≡ length (string_bytes old.text) + length more = ap (λ (l : List ℕ). length l) text ∙ length-append (string_bytes old.text) more in
    let a = fits.events in
    let b = fits.next in
    record { events = omega arith; next = omega arith }

-- the line of an event is that event
pub adds_event : (old new : Lines) (e : Event) → Writes old new (event_text e) → Adds old new (e ∷ []) 0
adds_event old new e w = record {
  text = w.text ∙ ap (λ (l : List ℕ). string_bytes old.text ++ l) (sym (append-nil {A = ℕ} (event_text e)));
  events = w.events;
  next = let n = w.next in omega arith;
  fits = w.fits;
}

pub adds_none : (old : Lines) → Fits old → Adds old old [] 0
adds_none old fits = record { text = sym (append-nil {A = ℕ} (string_bytes old.text)); events = omega arith; next = omega arith; fits = fits }

pub adds_both : (old mid new : Lines) (es fs : List Event) (drawn more : ℕ) → Adds old mid es drawn → Adds mid new fs more → Adds old new (es ++ fs) (drawn + more)
adds_both old mid new es fs drawn more a b = record {
  text = b.text ∙ ap (λ (l : List ℕ). l ++ events_text fs) a.text ∙ append_assoc (string_bytes old.text) (events_text es) (events_text fs) ∙ ap (λ (l : List ℕ). string_bytes old.text ++ l) (sym (events_append es fs));
  events = let x = a.events in let y = b.events in let z = length-append es fs in omega arith;
  next = let x = a.next in let y = b.next in omega arith;
  fits = b.fits;
}

pub leaves_all : (old : Lines) (all : List Event) (drawn : ℕ) → Fits old → Leaves old old all all drawn drawn
leaves_all old all drawn fits = record { text = refl; events = refl; next = refl; fits = fits }

pub leaves_less : (old now new : Lines) (all first left : List Event) (drawn some more : ℕ) → Leaves old now all (first ++ left) drawn (some + more) → Adds now new first some → Leaves old new all left drawn more
leaves_less old now new all first left drawn some more h a = record {
  text =
      ap (λ (l : List ℕ). l ++ events_text left) a.text ∙ append_assoc (string_bytes now.text) (events_text first) (events_text left)
      ∙ ap (λ (l : List ℕ). string_bytes now.text ++ l) (sym (events_append first left)) ∙ h.text;
  events = let x = a.events in let y = h.events in let z = length-append first left in omega arith;
  next = let x = a.next in let y = h.next in omega arith;
  fits = a.fits;
}

pub leaves_none : (old now : Lines) (all : List Event) (drawn : ℕ) → Leaves old now all [] drawn 0 → Adds old now all drawn
leaves_none old now all drawn h = record {
  text = sym (append-nil {A = ℕ} (string_bytes now.text)) ∙ h.text;
  events = let x = h.events in omega arith;
  next = let x = h.next in omega arith;
  fits = h.fits;
}

-- what was put before a line belongs to it
pub writes_more : (old mid new : Lines) (front end : List ℕ) → string_bytes mid.text ≡ string_bytes old.text ++ front → mid.events ≡ old.events → mid.next ≡ old.next → Writes mid new end → Writes old new (front ++ end)
writes_more old mid new front end text events next w = record {
  text = w.text ∙ ap (λ (l : List ℕ). l ++ end) text ∙ append_assoc (string_bytes old.text) front end;
  events = let a = w.events in omega arith;
  next = w.next ∙ next;
  fits = w.fits;
  room = w.room;
}
