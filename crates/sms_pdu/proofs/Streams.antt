-- Streams that are worked frame by frame, and read piece by piece.
use Rattle.std.proofs.Common.{◌≡◌, ℕ, ◌+◌, ◌-◌, ◌<◌, List, [], ◌∷◌, ◌++◌, inl, inr, length, take, drop, Option, refl, sym, ap, ◌∙◌, subst, arith, append_assoc, append-nil, length-append, take-append-drop}
use Rattle.std.specs.List.{concat, AllByRecursion}
use Rattle.std.specs.Io.KnownBytes.{Consumes, Keeps}
use Rattle.std.proofs.KnownBytes.{Consumes-nil, Consumes-trans, Consumes-kept}
use Rattle.std.proofs.lemmas.List.{drop_at}
use Rattle.std.proofs.lemmas.List.Folds.{concat-append}
use Rattle.sms_pdu.specs.declared.front.Front.TheVariants.{Whole}
use Rattle.sms_pdu.specs.Frame.{IsFrame, IsRest, IsBad, Division, front_at}
use Rattle.sms_pdu.specs.Streams.{Went, Stretch, going, Leaves, Reads}
use Rattle.sms_pdu.proofs.Fronts.{found_whole, whole_is_frame, AllByRecursion-append}
use Rattle.sms_pdu.proofs.Divisions.{one_division}

pub went_none : (P : List (List ℕ) → Type 0) (stream : List ℕ) → P [] → Went P stream stream
went_none P stream p = record { frames = []; whole = refl; each = tt; done = p }

-- more was done of the same frames
pub went_map : (P Q : List (List ℕ) → Type 0) (stream left : List ℕ) → ((fs : List (List ℕ)) → P fs → Q fs) → Went P stream left → Went Q stream left
went_map P Q stream left f w = record { frames = w.frames; whole = w.whole; each = w.each; done = f w.frames w.done }

-- one frame more
pub went_frame : (P Q : List (List ℕ) → Type 0) (stream left f after : List ℕ) → Went P stream left → left ≡ f ++ after → IsFrame f
    → ((fs : List (List ℕ)) → P fs → Q (fs ++ f ∷ [])) → Went Q stream after
went_frame P Q stream left f after w e h more =
    record {
      frames = w.frames ++ f ∷ [];
      whole = w.whole ∙ ap (λ l. concat w.frames ++ l) e ∙ sym (append_assoc (concat w.frames) f after) ∙ ap (λ l. l ++ after) (sym (concat-append w.frames (f ∷ []) ∙ ap (λ l. concat w.frames ++ l) (append-nil f)));
      each = AllByRecursion-append IsFrame w.frames (f ∷ []) w.each (h, tt);
      done = more w.frames w.done;
    }

-- a stream whose front was worked grows, and the front of what is left then is worked
pub went_more : (P Q R : List (List ℕ) → Type 0) (stream left more after : List ℕ) → Went P stream left → Went Q (left ++ more) after
    → ((fs gs : List (List ℕ)) → P fs → Q gs → R (fs ++ gs)) → Went R (stream ++ more) after
went_more P Q R stream left more after w v joins =
    record {
      frames = w.frames ++ v.frames;
      whole = ap (λ l. l ++ more) w.whole ∙ append_assoc (concat w.frames) left more ∙ ap (λ l. concat w.frames ++ l) v.whole ∙ sym (append_assoc (concat w.frames) (concat v.frames) after) ∙ ap (λ l. l ++ after) (sym (concat-append w.frames v.frames));
      each = AllByRecursion-append IsFrame w.frames v.frames w.each v.each;
      done = joins w.frames v.frames w.done v.done;
    }

-- what is left is the end of the stream
pub went_dropped : (P : List (List ℕ) → Type 0) (stream left : List ℕ) → Went P stream left → Went P stream (drop (length stream - length left) stream)
went_dropped P stream left w =
    let n : length stream ≡ length (concat w.frames) + length left = ap length w.whole ∙ length-append (concat w.frames) left in
    let k : length (concat w.frames) ≡ length stream - length left = omega (arith, n) in
    let same : drop (length stream - length left) stream ≡ left = ap (drop (length stream - length left)) w.whole ∙ drop_at (concat w.frames) left (length stream - length left) k in
    subst (λ l. Went P stream l) (sym same) w

-- the frame that was found at the front was put to the others
pub went_whole : (stream left : List ℕ) (fs gs : List (List ℕ)) (n : ℕ) (f after : List ℕ) → Went (λ hs. hs ≡ fs) stream left → Whole n ≡ front_at left
    → f ≡ take n left → after ≡ drop n left → gs ≡ fs ++ f ∷ [] → Went (λ hs. hs ≡ gs) stream after
went_whole stream left fs gs n f after w found front back put =
    let same : left ≡ f ++ after = sym (take-append-drop n left) ∙ ap (λ l. l ++ drop n left) (sym front) ∙ ap (λ l. f ++ l) (sym back) in
    let frame : IsFrame f = subst IsFrame (sym front) (whole_is_frame left n (found_whole left n found)) in
    went_frame (λ hs. hs ≡ fs) (λ hs. hs ≡ gs) stream left f after w same frame (λ hs e. ap (λ (l : List (List ℕ)). l ++ f ∷ []) e ∙ sym put)

-- frames at the front, and a rest behind them
pub went_divides : (stream left rest : List ℕ) (fs gs : List (List ℕ)) → Went (λ hs. hs ≡ fs) stream left → gs ≡ fs → rest ≡ left → IsRest left → Division stream gs rest
went_divides stream left rest fs gs w same kept h =
    let all : w.frames ≡ gs = w.done ∙ sym same in
    record {
      whole = w.whole ∙ ap (λ hs. concat hs ++ left) all ∙ ap (λ l. concat gs ++ l) (sym kept);
      each = subst (AllByRecursion IsFrame) all w.each;
      ended = subst IsRest (sym kept) h;
    }

-- a rest that isn't bad is no longer than a frame
pub short_rest : (r : List ℕ) → IsRest r → ¬ IsBad r → length r < 70000
short_rest r (inl short) good = omega (arith, short)
short_rest r (inr (inl cut)) good = omega (arith, cut.cut, cut.good.most)
short_rest r (inr (inr bad)) good = absurd (good bad)

-- a rest has no frames
pub rest_divided : (left : List ℕ) (gs : List (List ℕ)) (rest : List ℕ) → IsRest left → Division left gs rest → (gs ≡ []) × (rest ≡ left)
rest_divided left gs rest h d = one_division left gs [] rest left d (record { whole = refl; each = tt; ended = h })

-- what came where nothing was held, and its frames
pub divided_alone : (held piece : List ℕ) (fs gs : List (List ℕ)) (rest : List ℕ) → held ≡ [] → gs ≡ fs → Division piece fs rest → Division (held ++ piece) gs rest
divided_alone held piece fs gs rest none same d = rw (none, same) d

-- what was held and came, in the pieces that it was cut into
pub divided_joined : (held old piece last after : List ℕ) (n : ℕ) (fs : List (List ℕ)) (rest : List ℕ) → old ≡ held → last ≡ take n piece → after ≡ drop n piece → Division ((old ++ last) ++ after) fs rest → Division (held ++ piece) fs rest
divided_joined held old piece last after n fs rest same front back d =
    let cut : last ++ after ≡ piece = ap (λ l. l ++ after) front ∙ ap (λ l. take n piece ++ l) back ∙ take-append-drop n piece in
    subst (λ s. Division s fs rest) (append_assoc old last after ∙ ap (λ l. old ++ l) cut ∙ ap (λ l. l ++ piece) same) d

-- frames at the front, and the division of what is left
pub division_after : (stream left : List ℕ) (fs gs : List (List ℕ)) (rest : List ℕ) → stream ≡ concat fs ++ left → AllByRecursion IsFrame fs → Division left gs rest → Division stream (fs ++ gs) rest
division_after stream left fs gs rest e each d =
    record {
      whole = e ∙ ap (λ l. concat fs ++ l) d.whole ∙ sym (append_assoc (concat fs) (concat gs) rest) ∙ ap (λ l. l ++ rest) (sym (concat-append fs gs));
      each = AllByRecursion-append IsFrame fs gs each d.each;
      ended = d.ended;
    }

-- ---- reading

-- what was kept was not read
pub consumes_nothing : (r t : Option (List ℕ)) → Keeps r t → Consumes r t []
consumes_nothing r t k = Consumes-kept r r t [] (Consumes-nil r) k

-- nothing was read, and nothing worked
pub reads_none : (P : List (List ℕ) → Type 0) (held kept : List ℕ) (r t : Option (List ℕ)) (s : Stretch) → P [] → Consumes r t [] → Leaves s held kept → Reads P held r t s kept
reads_none P held kept r t s p c leaves =
    record { got = []; consumed = c; left = held; went = subst (λ l. Went P l held) (sym (append-nil held)) (went_none P held p); leaves = leaves }

-- one read, and the work on it
pub reads_once : (P : List (List ℕ) → Type 0) (held piece after kept : List ℕ) (r t : Option (List ℕ)) (s : Stretch) → Consumes r t piece → Went P (held ++ piece) after → Leaves s after kept → Reads P held r t s kept
reads_once P held piece after kept r t s c w leaves = record { got = piece; consumed = c; left = after; went = w; leaves = leaves }

-- one stretch of reading after another
pub reads_more : (P Q R : List (List ℕ) → Type 0) (begun held kept : List ℕ) (r t u : Option (List ℕ)) (s : Stretch) → Reads P begun r t going held → Reads Q held t u s kept
    → ((fs gs : List (List ℕ)) → P fs → Q gs → R (fs ++ gs)) → Reads R begun r u s kept
reads_more P Q R begun held kept r t u s p q joins =
    record {
      got = p.got ++ q.got;
      consumed = Consumes-trans r t u p.got q.got p.consumed q.consumed;
      left = q.left;
      went = subst (λ l. Went R l q.left) (append_assoc begun p.got q.got) (went_more P Q R (begun ++ p.got) p.left q.got q.left p.went (subst (λ l. Went Q (l ++ q.got) q.left) p.leaves.1 q.went) joins);
      leaves = q.leaves;
    }

-- it ends where it stands
pub reads_ends : (P Q : List (List ℕ) → Type 0) (begun held kept : List ℕ) (r t : Option (List ℕ)) (s : Stretch) → Reads P begun r t going held
    → ((fs : List (List ℕ)) → P fs → Q fs) → Leaves s held kept → Reads Q begun r t s kept
reads_ends P Q begun held kept r t s p f leaves =
    record { got = p.got; consumed = p.consumed; left = held; went = subst (λ l. Went Q (begun ++ p.got) l) (sym p.leaves.1) (went_map P Q (begun ++ p.got) p.left f p.went); leaves = leaves }

-- and holds something else then
pub reads_ended : (P : List (List ℕ) → Type 0) (begun held kept : List ℕ) (r t : Option (List ℕ)) (s : Stretch) → Reads P begun r t s held → ((left : List ℕ) → Leaves s left held → Leaves s left kept) → Reads P begun r t s kept
reads_ended P begun held kept r t s p f = record { got = p.got; consumed = p.consumed; left = p.left; went = p.went; leaves = f p.left p.leaves }

-- what is held is a rest
pub reads_rest : (P : List (List ℕ) → Type 0) (begun held : List ℕ) (r t : Option (List ℕ)) → Reads P begun r t going held → IsRest held
reads_rest P begun held r t p = subst IsRest (sym p.leaves.1) p.leaves.0
