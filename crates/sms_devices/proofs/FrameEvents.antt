-- The events of octets in turn: those of a piece, and that of a whole frame.
use Rattle.std.proofs.Common.{◌≡◌, ℕ, suc, ◌+◌, ◌-◌, ◌<◌, ◌≤◌, false, cond, ltb, eqb, List, [], ◌∷◌, ◌++◌, length, take, drop, map, refl, sym, ap, ap₂, ◌∙◌, arith, inl, inr, append_assoc, append-nil, length-append, replicate}
use Rattle.std.specs.List.{concat, AllByRecursion}
use Rattle.std.specs.Int.{w32, from_be_bytes}
use Rattle.std.proofs.lemmas.Bool.{cases_lt, lt-ltb, le-ltb}
use Rattle.std.proofs.lemmas.Bool.Decides.{nat_tests}
use Rattle.std.proofs.lemmas.List.{take-append-drop, take-append-le, drop-append-le, length-take-le, length-drop}
use Rattle.sms_pdu.specs.Header.{number_at, header_at_front}
use Rattle.sms_pdu.specs.Frame.{announced, IsFrame, IsBad, IsRest, Division}
use Rattle.sms_devices.specs.declared.waking.headers.FrameEvent.{FrameEvent}
use Rattle.sms_devices.specs.declared.waking.headers.FrameEvent.TheVariants.{Part, Frame, Bad}
use Rattle.sms_devices.specs.Headers.{PartialFrame, partial, between, in_body, in_header, after_octet, events_of, after_octets, events_in, frame_event}

-- ---- pieces

pub after_octets-append : (b : PartialFrame) (octets more : List ℕ) → after_octets b (octets ++ more) ≡ after_octets (after_octets b octets) more
after_octets-append b [] more = refl
after_octets-append b (x ∷ xs) more = after_octets-append (after_octet b x).0 xs more

pub events_in-append : (b : PartialFrame) (octets more : List ℕ) → events_in b (octets ++ more) ≡ events_in b octets ++ events_in (after_octets b octets) more
events_in-append b [] more = refl
events_in-append b (x ∷ xs) more =
    ap (λ l. events_of (after_octet b x).1 ++ l) (events_in-append (after_octet b x).0 xs more) ∙ sym (append_assoc (events_of (after_octet b x).1) (events_in (after_octet b x).0 xs) (events_in (after_octets (after_octet b x).0 xs) more))

-- ---- the header

-- a test that is known
lt-eqb : (n : ℕ) → 0 < n → eqb n 0 ≡ false
lt-eqb n h = grind (arith, nat_tests)

yes : {X : Type 0} → (n m : ℕ) (x y : X) → n < m → cond (ltb n m) x y ≡ x
yes n m x y h = ap (λ t. cond t x y) (lt-ltb n m h)

no : {X : Type 0} → (n m : ℕ) (x y : X) → m ≤ n → cond (ltb n m) x y ≡ y
no n m x y h = ap (λ t. cond t x y) (le-ltb n m h)

pub after_front : (b : PartialFrame) (x : ℕ) → length b.front < 16 → after_octet b x ≡ in_header (b.front ++ x ∷ [])
after_front b x h = yes (length b.front) 16 (in_header (b.front ++ x ∷ [])) _ h

in_short : (front : List ℕ) → length front < 16 → in_header front ≡ (partial front 0, Part)
in_short front h = yes (length front) 16 (partial front 0, Part) _ h

-- one octet, and the others
step : (b b' : PartialFrame) (p : FrameEvent) (x : ℕ) (xs : List ℕ) → after_octet b x ≡ (b', p) → (after_octets b (x ∷ xs) ≡ after_octets b' xs) × (events_in b (x ∷ xs) ≡ events_of p ++ events_in b' xs)
step b b' p x xs e = (ap (λ (q : PartialFrame × FrameEvent). after_octets q.0 xs) e, ap (λ (q : PartialFrame × FrameEvent). events_of q.1 ++ events_in q.0 xs) e)

one : (b : PartialFrame) (x : ℕ) (r : PartialFrame × FrameEvent) → after_octet b x ≡ r → (after_octets b (x ∷ []) ≡ r.0) × (events_in b (x ∷ []) ≡ events_of r.1)
one b x r e = (ap (λ (q : PartialFrame × FrameEvent). q.0) e, append-nil (events_of (after_octet b x).1) ∙ ap (λ (q : PartialFrame × FrameEvent). events_of q.1) e)

-- the octets that a header is still without
header_whole : (xs : List ℕ) (x : ℕ) (b : PartialFrame) → length b.front + length (x ∷ xs) ≡ 16 → (after_octets b (x ∷ xs) ≡ (in_header (b.front ++ x ∷ xs)).0) × (events_in b (x ∷ xs) ≡ events_of (in_header (b.front ++ x ∷ xs)).1)
header_whole [] x b h = one b x (in_header (b.front ++ x ∷ [])) (after_front b x (omega arith))
header_whole (y ∷ ys) x b h =
    let n : length (b.front ++ x ∷ []) ≡ length b.front + 1 = length-append b.front (x ∷ []) in
    let s = step b (partial (b.front ++ x ∷ []) 0) Part x (y ∷ ys) (after_front b x (omega arith) ∙ in_short (b.front ++ x ∷ []) (omega arith)) in
    let more = header_whole ys y (partial (b.front ++ x ∷ []) 0) (omega (arith, n)) in
    let same : (b.front ++ x ∷ []) ++ y ∷ ys ≡ b.front ++ x ∷ y ∷ ys = append_assoc b.front (x ∷ []) (y ∷ ys) in
    (s.0 ∙ more.0 ∙ ap (λ l. (in_header l).0) same, s.1 ∙ more.1 ∙ ap (λ l. events_of (in_header l).1) same)

-- fewer octets than it is without
header_part : (xs : List ℕ) (b : PartialFrame) → length b.front + length xs < 16 → events_in b xs ≡ []
header_part [] b h = refl
header_part (x ∷ xs) b h =
    let n : length (b.front ++ x ∷ []) ≡ length b.front + 1 = length-append b.front (x ∷ []) in
    let s = step b (partial (b.front ++ x ∷ []) 0) Part x xs (after_front b x (omega arith) ∙ in_short (b.front ++ x ∷ []) (omega arith)) in
    s.1 ∙ header_part xs (partial (b.front ++ x ∷ []) 0) (omega (arith, n))

header_first : (header : List ℕ) (b : PartialFrame) → b.front ≡ [] → length header ≡ 16 → (after_octets b header ≡ (in_header header).0) × (events_in b header ≡ events_of (in_header header).1)
header_first [] b e h = absurd (omega arith)
header_first (x ∷ xs) b e h =
    let w = header_whole xs x b (omega (arith, ap length e)) in
    (w.0 ∙ ap (λ l. (in_header (l ++ x ∷ xs)).0) e, w.1 ∙ ap (λ l. events_of (in_header (l ++ x ∷ xs)).1) e)

-- ---- the body

body_none : (header : List ℕ) (left : ℕ) → left ≡ 0 → in_body header left ≡ (between, Frame (header_at_front header))
body_none header left h = ap (in_body header) h

body_some : (header : List ℕ) (left : ℕ) → 0 < left → in_body header left ≡ (partial header left, Part)
body_some header left h = ap (λ t. cond t (between, Frame (header_at_front header)) (partial header left, Part)) (lt-eqb left h)

after_body : (header : List ℕ) (left x : ℕ) → 16 ≤ length header → 0 < left → after_octet (partial header left) x ≡ in_body header (left - 1)
after_body header left x long h =
    no (length header) 16 _ (cond (eqb left 0) (partial header 0, Bad) (in_body header (left - 1))) long ∙ ap (λ t. cond t (partial header 0, Bad) (in_body header (left - 1))) (lt-eqb left h)

-- an octet of the body, and the others
body_step : (header : List ℕ) (left x : ℕ) (xs : List ℕ) → 16 ≤ length header → 0 < left
    → (after_octets (in_body header left).0 (x ∷ xs) ≡ after_octets (in_body header (left - 1)).0 xs) × (events_of (in_body header left).1 ++ events_in (in_body header left).0 (x ∷ xs) ≡ events_of (in_body header (left - 1)).1 ++ events_in (in_body header (left - 1)).0 xs)
body_step header left x xs long h =
    let e = body_some header left h in
    let s = step (partial header left) (in_body header (left - 1)).0 (in_body header (left - 1)).1 x xs (after_body header left x long h) in
    (ap (λ (q : PartialFrame × FrameEvent). after_octets q.0 (x ∷ xs)) e ∙ s.0, ap (λ (q : PartialFrame × FrameEvent). events_of q.1 ++ events_in q.0 (x ∷ xs)) e ∙ s.1)

body_whole : (xs header : List ℕ) (left : ℕ) → 16 ≤ length header → left ≡ length xs
    → (after_octets (in_body header left).0 xs ≡ between) × (events_of (in_body header left).1 ++ events_in (in_body header left).0 xs ≡ Frame (header_at_front header) ∷ [])
body_whole [] header left long h =
    let e = body_none header left h in
    (ap (λ (q : PartialFrame × FrameEvent). q.0) e, append-nil (events_of (in_body header left).1) ∙ ap (λ (q : PartialFrame × FrameEvent). events_of q.1) e)
body_whole (x ∷ xs) header left long h =
    let s = body_step header left x xs long (omega arith) in
    let more = body_whole xs header (left - 1) long (omega arith) in
    (s.0 ∙ more.0, s.1 ∙ more.1)

body_part : (xs header : List ℕ) (left : ℕ) → 16 ≤ length header → length xs < left → events_of (in_body header left).1 ++ events_in (in_body header left).0 xs ≡ []
body_part [] header left long h =
    append-nil (events_of (in_body header left).1) ∙ ap (λ (q : PartialFrame × FrameEvent). events_of q.1) (body_some header left (omega arith))
body_part (x ∷ xs) header left long h = (body_step header left x xs long (omega arith)).1 ∙ body_part xs header (left - 1) long (omega arith)

-- ---- a header and what follows it

number_front : (at : ℕ) (header more : List ℕ) → at + 4 ≤ length header → number_at at (header ++ more) ≡ number_at at header
number_front at header more h =
    let n : length (drop at header) ≡ length header - at = length-drop at header in
    ap (λ (l : List ℕ). from_be_bytes w32 (take 4 l)) (drop-append-le at header more (omega arith)) ∙ ap (λ (l : List ℕ). from_be_bytes w32 l) (take-append-le 4 (drop at header) more (omega (arith, n)))

-- a frame's header is that of what it begins
pub header_front : (header more : List ℕ) → 16 ≤ length header → header_at_front (header ++ more) ≡ header_at_front header
header_front header more h =
    let e0 = number_front 0 header more (omega arith) in
    let e1 = number_front 4 header more (omega arith) in
    let e2 = number_front 8 header more (omega arith) in
    let e3 = number_front 12 header more (omega arith) in
    cc

-- the octets are a header, which announces a length, and the octets after it
record Headed (octets header more : List ℕ) : Type 0 where
  whole : header ++ more ≡ octets
  sixteen : length header ≡ 16
  says : number_at 0 header ≡ announced octets
  same : header_at_front header ≡ header_at_front octets
  body : length more ≡ length octets - 16

headed : (octets : List ℕ) → 16 ≤ length octets → Headed octets (take 16 octets) (drop 16 octets)
headed octets h =
    let whole = take-append-drop 16 octets in
    let n : length (take 16 octets) ≡ 16 = length-take-le 16 octets h in
    record {
      whole = whole;
      sixteen = n;
      says = sym (number_front 0 (take 16 octets) (drop 16 octets) (omega arith)) ∙ ap announced whole;
      same = sym (header_front (take 16 octets) (drop 16 octets) (omega arith)) ∙ ap header_at_front whole;
      body = length-drop 16 octets;
    }

-- what comes between frames is a header, and what follows it is of its body where its length is good
after_header : (octets header more : List ℕ) (b : PartialFrame) (r : PartialFrame × FrameEvent) → Headed octets header more → b.front ≡ [] → in_header header ≡ r
    → (after_octets b octets ≡ after_octets r.0 more) × (events_in b octets ≡ events_of r.1 ++ events_in r.0 more)
after_header octets header more b r h e i =
    let f = header_first header b e h.sixteen in
    let w : after_octets b header ≡ r.0 = f.0 ∙ ap (λ (q : PartialFrame × FrameEvent). q.0) i in
    let t : events_in b header ≡ events_of r.1 = f.1 ∙ ap (λ (q : PartialFrame × FrameEvent). events_of q.1) i in (
      ap (after_octets b) (sym h.whole) ∙ after_octets-append b header more ∙ ap (λ s. after_octets s more) w,
      ap (events_in b) (sym h.whole) ∙ events_in-append b header more ∙ ap₂ (λ s l. l ++ events_in s more) w t,
    )

in_good : (header : List ℕ) → length header ≡ 16 → 16 ≤ number_at 0 header → in_header header ≡ in_body header (number_at 0 header - 16)
in_good header n h =
    no (length header) 16 (partial header 0, Part) (cond (ltb (number_at 0 header) 16) (partial header 0, Bad) (in_body header (number_at 0 header - 16))) (omega arith)
    ∙ no (number_at 0 header) 16 (partial header 0, Bad) (in_body header (number_at 0 header - 16)) h

in_bad : (header : List ℕ) → length header ≡ 16 → number_at 0 header < 16 → in_header header ≡ (partial header 0, Bad)
in_bad header n h =
    no (length header) 16 (partial header 0, Part) (cond (ltb (number_at 0 header) 16) (partial header 0, Bad) (in_body header (number_at 0 header - 16))) (omega arith)
    ∙ yes (number_at 0 header) 16 (partial header 0, Bad) (in_body header (number_at 0 header - 16)) h

-- ---- frames

-- a frame that begins between frames gives one event, with its last octet
pub frame_goes : (frame : List ℕ) (b : PartialFrame) → b.front ≡ [] → IsFrame frame → (after_octets b frame ≡ between) × (events_in b frame ≡ frame_event frame ∷ [])
frame_goes frame b e f =
    let h = headed frame (f.good.least) in
    let header = take 16 frame in
    let left = number_at 0 header - 16 in
    let g = after_header frame header (drop 16 frame) b (in_body header left) h e (in_good header h.sixteen (omega (arith, h.says, f.announces, f.good.least))) in
    let w = body_whole (drop 16 frame) header left (omega (arith, h.sixteen)) (omega (arith, h.says, f.announces, h.body)) in
    (g.0 ∙ w.0, g.1 ∙ w.1 ∙ ap (λ p. Frame p ∷ []) h.same)

pub frames_go : (frames : List (List ℕ)) → AllByRecursion IsFrame frames → (after_octets between (concat frames) ≡ between) × (events_in between (concat frames) ≡ map frame_event frames)
frames_go [] h = (refl, refl)
frames_go (f ∷ fs) h =
    let g = frame_goes f between refl h.0 in
    let more = frames_go fs h.1 in (
      after_octets-append between f (concat fs) ∙ ap (λ s. after_octets s (concat fs)) g.0 ∙ more.0,
      events_in-append between f (concat fs) ∙ ap₂ (λ s l. l ++ events_in s (concat fs)) g.0 g.1 ∙ ap (λ l. frame_event f ∷ l) more.1,
    )

-- ---- rests

short_rest : (rest : List ℕ) → length rest < 16 → events_in between rest ≡ []
short_rest rest h = header_part rest between (omega arith)

cut_rest : (rest : List ℕ) → 16 ≤ length rest → 16 ≤ announced rest → length rest < announced rest → events_in between rest ≡ []
cut_rest rest long least cut =
    let h = headed rest long in
    let header = take 16 rest in
    let left = number_at 0 header - 16 in
    let g = after_header rest header (drop 16 rest) between (in_body header left) h refl (in_good header h.sixteen (omega (arith, h.says))) in
    g.1 ∙ body_part (drop 16 rest) header left (omega (arith, h.sixteen)) (omega (arith, h.says, h.body))

pub rest_has_no_event : (rest : List ℕ) → IsRest rest → ¬ IsBad rest → events_in between rest ≡ []
rest_has_no_event rest (inl short) good = short_rest rest (omega (arith, short))
rest_has_no_event rest (inr (inl cut)) good =
    elim (cases_lt (length rest) 16) [
      | inl short ↦ short_rest rest short
      | inr long ↦ cut_rest rest long cut.good.least cut.cut
    ]
rest_has_no_event rest (inr (inr bad)) good = absurd (good bad)

-- after a header with a bad length
bad_goes_on : (xs header : List ℕ) → 16 ≤ length header → events_in (partial header 0) xs ≡ replicate (length xs) Bad
bad_goes_on [] header long = refl
bad_goes_on (x ∷ xs) header long =
    let e : after_octet (partial header 0) x ≡ (partial header 0, Bad) = no (length header) 16 _ (partial header 0, Bad) long in
    (step (partial header 0) (partial header 0) Bad x xs e).1 ∙ ap (λ l. Bad ∷ l) (bad_goes_on xs header long)

pub bad_events : (rest : List ℕ) → 16 ≤ length rest → announced rest < 16 → events_in between rest ≡ replicate (length rest - 15) Bad
bad_events rest long bad =
    let h = headed rest long in
    let header = take 16 rest in
    let g = after_header rest header (drop 16 rest) between (partial header 0, Bad) h refl (in_bad header h.sixteen (omega (arith, h.says))) in
    let n : suc (length (drop 16 rest)) ≡ length rest - 15 = omega (arith, h.body) in
    g.1 ∙ ap (λ l. Bad ∷ l) (bad_goes_on (drop 16 rest) header (omega (arith, h.sixteen))) ∙ ap (λ k. replicate k Bad) n

-- the events of a divided stream are its frames, and then the events of its rest
pub stream_events : (stream rest : List ℕ) (frames : List (List ℕ)) → Division stream frames rest → events_in between stream ≡ map frame_event frames ++ events_in between rest
stream_events stream rest frames d =
    let f = frames_go frames d.each in
    ap (events_in between) d.whole ∙ events_in-append between (concat frames) rest ∙ ap₂ (λ s l. l ++ events_in s rest) f.0 f.1
