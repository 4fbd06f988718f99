-- Walks over the whole frames at the front of a stream.
use Rattle.std.proofs.Common.{◌≡◌, ℕ, ◌+◌, List, [], ◌∷◌, ◌++◌, length, Bool, true, false, refl, sym, ap, subst, ◌∙◌, append-nil, append_assoc, arith, length-append}
use Rattle.std.specs.Prelude.{◌≢◌, OnOk, Option, Result, Ok, Err, flat_map, if◌then◌else◌}
use Rattle.std.proofs.KnownBytes.{Appends-nil}
use Rattle.sms_pdu.specs.Frame.{IsRest}
use Rattle.sms_pdu.specs.Reading.{GivesBut, HasStrings}
use Rattle.sms_pdu.specs.Streams.{SomeAppended, Went}
use Rattle.sms_pdu.specs.declared.body.Pdu.{Pdu}
use Rattle.sms_pdu.specs.declared.body.Sm.{Sm}
use Rattle.sms_pdu.specs.declared.body.Body.{Body}
use Rattle.sms_pdu.specs.declared.body.Body.TheVariants as body
use Rattle.sms_pdu.specs.declared.error.PduError.{PduError}
use Rattle.sms_pdu.specs.declared.error.PduError.TheVariants.{OutOfMemory}
use Rattle.sms_pdu.proofs.Divisions.{each_divided, frame_before, one_division}
use Rattle.sms_pdu.proofs.Streams.{division_after}
use Rattle.sms_inbox.specs.Arrivals.{ArrivalsHaveLines, HasLine, HasNone, IsPage, arrival_text, arrivals_text, deliveries, is_delivery, record_by, record_in, unread}
use Rattle.sms_inbox.specs.Files.{KeptInPart}
use Rattle.sms_inbox.specs.Record.{record_text}
use Rattle.sms_inbox.specs.declared.record.Record.{Record}

pub deliveries-append : (fs gs : List (List ℕ)) → deliveries (fs ++ gs) ≡ deliveries fs ++ deliveries gs
deliveries-append [] gs = refl
deliveries-append (f ∷ fs) gs = by_case (is_delivery f) (deliveries-append fs gs)
  where
    by_case : (b : Bool) → deliveries (fs ++ gs) ≡ deliveries fs ++ deliveries gs → (if b then f ∷ deliveries (fs ++ gs) else deliveries (fs ++ gs)) ≡ (if b then f ∷ deliveries fs else deliveries fs) ++ deliveries gs
    by_case true e = ap (λ (l : List (List ℕ)). f ∷ l) e
    by_case false e = e

texts-append : (h : List ℕ → List ℕ) (fs gs : List (List ℕ)) → flat_map h (fs ++ gs) ≡ flat_map h fs ++ flat_map h gs
texts-append h [] gs = refl
texts-append h (f ∷ fs) gs = ap (λ (l : List ℕ). h f ++ l) (texts-append h fs gs) ∙ sym (append_assoc (h f) (flat_map h fs) (flat_map h gs))

pub arrivals-append : (time bind : ℕ) (fs gs : List (List ℕ)) → arrivals_text time bind (fs ++ gs) ≡ arrivals_text time bind fs ++ arrivals_text time bind gs
arrivals-append time bind fs gs = ap (flat_map (arrival_text time bind)) (deliveries-append fs gs) ∙ texts-append (arrival_text time bind) (deliveries fs) (deliveries gs)

-- ---- what was written of the frames so far

pub record Wrote (time bind : ℕ) (old new : List ℕ) (count : ℕ) (frames : List (List ℕ)) : Type 0 where
  pub text : new ≡ old ++ arrivals_text time bind frames
  pub counted : count ≡ length (deliveries frames)

pub wrote_none : (time bind : ℕ) (old : List ℕ) → Wrote time bind old old 0 []
wrote_none time bind old = record { text = sym (append-nil old); counted = refl }

pub wrote_more : (time bind : ℕ) (old mid new : List ℕ) (n m k : ℕ) (fs : List (List ℕ)) (f : List ℕ) → Wrote time bind old mid n fs → new ≡ mid ++ arrivals_text time bind (f ∷ []) → m ≡ length (deliveries (f ∷ [])) → k ≡ n + m → Wrote time bind old new k (fs ++ f ∷ [])
wrote_more time bind old mid new n m k fs f w text more sum =
    let joined : length (deliveries (fs ++ f ∷ [])) ≡ length (deliveries fs) + length (deliveries (f ∷ [])) = ap length (deliveries-append fs (f ∷ [])) ∙ length-append (deliveries fs) (deliveries (f ∷ [])) in
    let was = w.counted in
    record {
      text = text ∙ ap (λ (l : List ℕ). l ++ arrivals_text time bind (f ∷ [])) w.text ∙ append_assoc old (arrivals_text time bind fs) (arrivals_text time bind (f ∷ [])) ∙ ap (λ (l : List ℕ). old ++ l) (sym (arrivals-append time bind fs (f ∷ [])));
      counted = omega (arith, joined, was, more, sum);
    }

-- all whole frames were gone over
pub page_of : (time bind : ℕ) (stream left old new : List ℕ) (count : ℕ) → Went (Wrote time bind old new count) stream left → IsRest left → (page : List ℕ) × (new ≡ old ++ page) × IsPage time bind stream page count
page_of time bind stream left old new count w rest = (
  arrivals_text time bind w.frames,
  w.done.text,
  record { frames = w.frames; rest = left; divided = record { whole = w.whole; each = w.each; ended = rest }; are = refl; counted = w.done.counted },
)

-- no frame so far is a deliver_sm
pub none_more : (fs : List (List ℕ)) (f : List ℕ) → deliveries fs ≡ [] → is_delivery f ≡ false → deliveries (fs ++ f ∷ []) ≡ []
none_more fs f none other = deliveries-append fs (f ∷ []) ∙ ap (λ (l : List (List ℕ)). l ++ deliveries (f ∷ [])) none ∙ ap (λ (b : Bool). if b then f ∷ [] else []) other

pub has_none : (stream left : List ℕ) → Went (λ fs. deliveries fs ≡ []) stream left → IsRest left → HasNone stream
has_none stream left w rest = record { frames = w.frames; rest = left; divided = record { whole = w.whole; each = w.each; ended = rest }; none = w.done }

-- each stream has its page
pub record HasPage (time bind : ℕ) (stream : List ℕ) : Type 0 where
  pub page : List ℕ
  pub count : ℕ
  pub is : IsPage time bind stream page count

pub has_page : (time bind : ℕ) (stream : List ℕ) → HasPage time bind stream
has_page time bind stream =
    let d = each_divided stream in
    record { page = arrivals_text time bind d.frames; count = length (deliveries d.frames); is = record { frames = d.frames; rest = d.rest; divided = d.divided; are = refl; counted = refl } }

-- ---- the line of each

line_among : (time bind : ℕ) (before after : List (List ℕ)) (frame : List ℕ) → is_delivery frame ≡ true → HasLine (arrival_text time bind frame) (arrivals_text time bind (before ++ frame ∷ after))
line_among time bind before after frame is = record {
  front = arrivals_text time bind before;
  back = arrivals_text time bind after;
  is = arrivals-append time bind before (frame ∷ after)
      ∙ ap (λ (l : List ℕ). arrivals_text time bind before ++ l) (ap (λ (b : Bool). flat_map (arrival_text time bind) (if b then frame ∷ deliveries after else deliveries after)) is);
}

pub arrivals_have_lines : ArrivalsHaveLines
arrivals_have_lines time bind stream page frame count p among is =
    let d = each_divided among.after in
    let behind = frame_before frame among.after d.frames d.rest among.whole d.divided in
    let all = division_after stream (frame ++ among.after) among.before (frame ∷ d.frames) d.rest among.is among.each behind in
    let same : p.frames ≡ among.before ++ frame ∷ d.frames = (one_division stream p.frames (among.before ++ frame ∷ d.frames) p.rest d.rest p.divided all).0 in
    subst (HasLine (arrival_text time bind frame)) (sym (p.are ∙ ap (arrivals_text time bind) same)) (line_among time bind among.before d.frames frame is)

-- ---- bodies

-- what isn't read as a deliver_sm is kept unread
pub other_unread : (time bind : ℕ) (b : Body) (text : List ℕ) → ((sm : Sm) → ¬ (b ≡ body.Deliver sm)) → record_in time bind b text ≡ unread time bind text
other_unread time bind (body.Bind a b c d e f g h) text other = refl
other_unread time bind (body.BindResp a b c) text other = refl
other_unread time bind (body.Submit sm) text other = refl
other_unread time bind (body.Deliver sm) text other = absurd (other sm refl)
other_unread time bind (body.SubmitResp id) text other = refl
other_unread time bind (body.DeliverResp id) text other = refl
other_unread time bind body.Unbind text other = refl
other_unread time bind body.UnbindResp text other = refl
other_unread time bind body.EnquireLink text other = refl
other_unread time bind body.EnquireLinkResp text other = refl
other_unread time bind body.GenericNack text other = refl

-- what has a fault is kept unread
faulty_unread : (time bind : ℕ) (e : PduError) (told : Result Pdu PduError) (text : List ℕ) → ¬ (e ≡ OutOfMemory) → GivesBut (λ q. HasStrings q.body) (λ q. q) (Err e) told → record_by time bind told text ≡ unread time bind text
faulty_unread time bind e (Ok p) text other so = absurd (other so.0)
faulty_unread time bind e (Err f) text other so = refl

pub faulty_written : {T E : Type 0} (result : Result T E) (time bind : ℕ) (e : PduError) (told : Result Pdu PduError) (text old new : List ℕ) → GivesBut (λ q. HasStrings q.body) (λ q. q) (Err e) told
    → OnOk result ((e ≢ OutOfMemory) × (new ≡ old ++ record_text (unread time bind text))) → OnOk result (new ≡ old ++ record_text (record_by time bind told text))
faulty_written (Ok x) time bind e told text old new so h = h.1 ∙ ap (λ (r : Record). old ++ record_text r) (sym (faulty_unread time bind e told text h.0 so))
faulty_written (Err x) time bind e told text old new so h = tt

-- ---- nothing was written

pub none_appended : (a : Option (List ℕ)) (octets : List ℕ) → SomeAppended a a octets
none_appended a octets = (0, omega arith, Appends-nil a)

pub nothing_kept : {F : Type 0} (contents : F → Option (List ℕ)) (time bind : ℕ) (stream : List ℕ) (file : F) → KeptInPart contents time bind stream file file
nothing_kept contents time bind stream file =
    let p = has_page time bind stream in
    record { page = p.page; count = p.count; is = p.is; given = none_appended (contents file) p.page }
