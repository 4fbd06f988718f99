-- Octets that are looked at in turn, and who is woken by them.
use Rattle.std.proofs.Common.{◌≡◌, ℕ, ◌+◌, ◌<◌, Bool, false, List, [], ◌∷◌, ◌++◌, length, take, drop, replicate, set, sym, ap, subst, ◌∙◌, append_assoc, append-nil}
use Rattle.std.proofs.lemmas.List.{drop_more, length-replicate, replicate_more, set_at, take-append-drop}
use Rattle.sms_pdu.specs.declared.header.Header.{Header}
use Rattle.sms_pdu.specs.Header.{header_at_front}
use Rattle.sms_pdu.specs.Frame.{IsFrame}
use Rattle.sms_devices.specs.declared.waking.headers.FrameEvent.{FrameEvent}
use Rattle.sms_devices.specs.declared.waking.wakes.Wakes.{Wakes}
use Rattle.sms_devices.specs.Headers.{PartialFrame, between, events_in, after_octet, events_of, after_octets}
use Rattle.sms_devices.specs.Wakes.{Scanned, Woke, and_this, wake_by, wake_for}
use Rattle.sms_devices.proofs.FrameEvents.{events_in-append, frame_goes, header_front, after_octets-append}

pub Woke-append : (ps qs : List FrameEvent) (old mid new : Wakes) → Woke ps old mid → Woke qs mid new → Woke (ps ++ qs) old new
Woke-append [] qs old mid new h k = subst (λ w. Woke qs w new) h k
Woke-append (p ∷ ps) qs old mid new h k = (h.0, Woke-append ps qs (and_this old (wake_for p h.0)) mid new h.1 k)

pub scanned_more : (octets left rest : List ℕ) (b b' b'' : PartialFrame) (w w' w'' : Wakes) → Scanned octets left b b' w w' → Scanned left rest b' b'' w' w'' → Scanned octets rest b b'' w w''
scanned_more octets left rest b b' b'' w w' w'' h k =
    record {
      front = h.front ++ k.front;
      whole = h.whole ∙ ap (λ l. h.front ++ l) k.whole ∙ sym (append_assoc h.front k.front rest);
      headers = k.headers ∙ ap (λ s. after_octets s k.front) h.headers ∙ sym (after_octets-append b h.front k.front);
      woken = subst (λ l. Woke l w w'') (ap (λ s. events_in b h.front ++ events_in s k.front) h.headers ∙ sym (events_in-append b h.front k.front)) (Woke-append (events_in b h.front) (events_in b' k.front) w w' w'' h.woken k.woken);
    }

-- a frame
pub scanned_frame : (octets left : List ℕ) (n : ℕ) (b : PartialFrame) (w w' : Wakes) (h : Header) (word : ℕ) → b ≡ between → IsFrame (take n octets) → left ≡ drop n octets → h ≡ header_at_front octets → w' ≡ and_this w (wake_by h word)
    → Scanned octets left b b w w'
scanned_frame octets left n b w w' h word e f back same woken =
    let whole = take-append-drop n octets in
    let g = frame_goes (take n octets) b (ap (λ (s : PartialFrame). s.front) e) f in
    let head : header_at_front (take n octets) ≡ h = sym (header_front (take n octets) (drop n octets) f.good.least) ∙ ap header_at_front whole ∙ sym same in
    record {
      front = take n octets;
      whole = sym whole ∙ ap (λ l. take n octets ++ l) (sym back);
      headers = e ∙ sym g.0;
      woken = subst (λ l. Woke l w w') (sym g.1) (word, woken ∙ ap (λ q. and_this w (wake_by q word)) (sym head));
    }

-- an octet
pub scanned_octet : (octets left : List ℕ) (x : ℕ) (b b' : PartialFrame) (w w' : Wakes) → octets ≡ x ∷ left → b' ≡ (after_octet b x).0 → Woke (events_of (after_octet b x).1) w w' → Scanned octets left b b' w w'
scanned_octet octets left x b b' w w' e h k =
    record { front = x ∷ []; whole = e; headers = h; woken = subst (λ l. Woke l w w') (sym (append-nil (events_of (after_octet b x).1))) k }

-- ---- bells

-- one more worker isn't to be woken
pub left_more : (n : ℕ) (d : List Bool) → n < length d → set (replicate n false ++ drop n d) n false ≡ replicate (n + 1) false ++ drop (n + 1) d
left_more n d h =
    ap (λ l. set (replicate n false ++ l) n false) (drop_more d n false h)
    ∙ set_at (replicate n false) _ (drop (n + 1) d) false n (length-replicate n false)
    ∙ sym (append_assoc (replicate n false) (false ∷ []) (drop (n + 1) d))
    ∙ ap (λ l. l ++ drop (n + 1) d) (replicate_more n false)

pub left_step : (n : ℕ) (d : List Bool) (w w' : Wakes) → n < length d → w ≡ record { all = false; workers = replicate n false ++ drop n d } → w' ≡ record { all = w.all; workers = set w.workers n false }
    → w' ≡ record { all = false; workers = replicate (n + 1) false ++ drop (n + 1) d }
left_step n d w w' h e f =
    let put : Wakes → Wakes = λ v. record { all = v.all; workers = set v.workers n false } in
    let with : List Bool → Wakes = λ l. record { all = false; workers = l } in
    f ∙ ap put e ∙ ap with (left_more n d h)
