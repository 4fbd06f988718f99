-- A text is the lines of one list of notes.
use Rattle.std.proofs.Common.{◌≡◌, ℕ, Bool, true, false, List, [], ◌∷◌, ◌++◌, length, map, Some, None, refl, sym, ap, ◌∙◌, subst, arith, rules, append_assoc, length-append}
use Rattle.std.specs.Prelude.{if◌then◌else◌, nat_lt, ◌==◌, codes, decimal, flat_map, ⊤}
use Rattle.std.specs.List.{AllByRecursion, position_or_len}
use Rattle.std.proofs.lemmas.Bool.{both_ways, or_parts, eq-eqb, lt-ltb}
use Rattle.std.proofs.lemmas.List.Concat.{flat_map-cons}
use Rattle.sms_journal.specs.declared.notes.note.Note.{Note}
use Rattle.sms_journal.specs.declared.notes.note.Note.TheVariants.{Begun, Sent, Unsent, Heard, Refused, End, Round}
use Rattle.sms_journal.specs.Text.{flag, id_text, note_text}
use Rattle.sms_message.specs.Names.{refusal_name}
use Rattle.sms_journal.specs.Lines.{AreNotes, AreU64, IsNote, IsU64, feed_at, timed_text}
use Rattle.sms_journal.proofs.Fields.{HasNoEnd, begun_line, end_line, flag_low, heard_line, no_end_id, no_end_number, no_end_refusal, refused_line, round_line, sent_line, unsent_line}
use Rattle.sms_journal.proofs.Records.{line_once}

-- no line feed stands in this text
abbrev pub HasNoFeed : List ℕ → Type 0
HasNoFeed [] = ⊤
HasNoFeed (c ∷ cs) = ((c == 10) ≡ false) × HasNoFeed cs

pub no_feed : (f : List ℕ) → HasNoEnd f → HasNoFeed f
no_feed [] h = tt
no_feed (c ∷ cs) h = ((or_parts (c == 44) (c == 10) h.0).1, no_feed cs h.1)

pub no_feed_append : (a b : List ℕ) → HasNoFeed a → HasNoFeed b → HasNoFeed (a ++ b)
no_feed_append [] b ha hb = hb
no_feed_append (x ∷ a) b ha hb = (ha.0, no_feed_append a b ha.1 hb)

-- ---- a line ends with its only line feed

pub record IsLine (line : List ℕ) : Type 0 where
  pub body : List ℕ
  pub whole : HasNoFeed body
  pub is : line ≡ body ++ 10 ∷ []

-- a field, a comma or a line feed, and the rest
with_field : (f rest : List ℕ) → HasNoEnd f → IsLine rest → IsLine (f ++ 44 ∷ rest)
with_field f rest h l = record {
  body = f ++ 44 ∷ l.body;
  whole = no_feed_append f (44 ∷ l.body) (no_feed f h) (refl, l.whole);
  is = ap (λ (r : List ℕ). f ++ 44 ∷ r) l.is ∙ sym (append_assoc f (44 ∷ l.body) (10 ∷ []));
}

last_field : (f : List ℕ) → HasNoEnd f → IsLine (f ++ 10 ∷ [])
last_field f h = record { body = f; whole = no_feed f h; is = refl }

pub note_is_line : (time : ℕ) (note : Note) → IsU64 time → IsNote note → IsLine (note_text time note)
note_is_line time (Begun m) low h =
    subst IsLine (sym (begun_line time m)) (with_field (codes "begun") (decimal time ++ 44 ∷ (decimal m ++ 10 ∷ [])) (search rules)
    (with_field (decimal time) (decimal m ++ 10 ∷ []) (no_end_number time low) (last_field (decimal m) (no_end_number m h))))
note_is_line time (Sent request m p) low h =
    let w = request.worker in
    let n = request.number in
    let X3 = decimal p ++ 10 ∷ [] in
    let X2 = decimal m ++ 44 ∷ X3 in
    let X1 = decimal n ++ 44 ∷ X2 in
    let X0 = decimal w ++ 44 ∷ X1 in
    subst IsLine (sym (sent_line time request m p)) (with_field (codes "sent") (decimal time ++ 44 ∷ X0) (search rules) (with_field (decimal time) X0 (no_end_number time low)
    (with_field (decimal w) X1 (no_end_number w (omega (arith, h.0))) (with_field (decimal n) X2 (no_end_number n (omega (arith, h.1))) (with_field (decimal m) X3 (no_end_number m h.2) (last_field (decimal p) (no_end_number p (omega (arith, h.3)))))))))
note_is_line time (Unsent request) low h =
    let w = request.worker in
    let n = request.number in
    let X1 = decimal n ++ 10 ∷ [] in
    let X0 = decimal w ++ 44 ∷ X1 in
    subst IsLine (sym (unsent_line time request)) (with_field (codes "unsent") (decimal time ++ 44 ∷ X0) (search rules) (with_field (decimal time) X0 (no_end_number time low)
    (with_field (decimal w) X1 (no_end_number w (omega (arith, h.0))) (last_field (decimal n) (no_end_number n (omega (arith, h.1)))))))
note_is_line time (Heard by reply) low h =
    let n = reply.number in
    let s = reply.status in
    let k = flag reply.nack in
    let X4 = id_text reply.id ++ 10 ∷ [] in
    let X3 = decimal k ++ 44 ∷ X4 in
    let X2 = decimal s ++ 44 ∷ X3 in
    let X1 = decimal n ++ 44 ∷ X2 in
    let X0 = decimal by ++ 44 ∷ X1 in
    subst IsLine (sym (heard_line time by reply)) (with_field (codes "heard") (decimal time ++ 44 ∷ X0) (search rules) (with_field (decimal time) X0 (no_end_number time low)
    (with_field (decimal by) X1 (no_end_number by (omega (arith, h.0))) (with_field (decimal n) X2 (no_end_number n (omega (arith, h.1))) (with_field (decimal s) X3 (no_end_number s (omega (arith, h.2)))
    (with_field (decimal k) X4 (no_end_number k (flag_low reply.nack)) (last_field (id_text reply.id) (no_end_id reply.id h.3.1))))))))
note_is_line time (Refused m refusal) low h =
    subst IsLine (sym (refused_line time m refusal)) (with_field (codes "refused") (decimal time ++ 44 ∷ (decimal m ++ 44 ∷ (refusal_name refusal ++ 10 ∷ []))) (search rules)
    (with_field (decimal time) (decimal m ++ 44 ∷ (refusal_name refusal ++ 10 ∷ [])) (no_end_number time low) (with_field (decimal m) (refusal_name refusal ++ 10 ∷ []) (no_end_number m h) (last_field (refusal_name refusal) (no_end_refusal refusal)))))
note_is_line time (End status) low h =
    subst IsLine (sym (end_line time status)) (with_field (codes "end") (decimal time ++ 44 ∷ (decimal status ++ 10 ∷ [])) (search rules)
    (with_field (decimal time) (decimal status ++ 10 ∷ []) (no_end_number time low) (last_field (decimal status) (no_end_number status (omega (arith, h))))))
note_is_line time (Round number binds workers) low h =
    let X2 = decimal workers ++ 10 ∷ [] in
    let X1 = decimal binds ++ 44 ∷ X2 in
    let X0 = decimal number ++ 44 ∷ X1 in
    subst IsLine (sym (round_line time number binds workers)) (with_field (codes "round") (decimal time ++ 44 ∷ X0) (search rules) (with_field (decimal time) X0 (no_end_number time low)
    (with_field (decimal number) X1 (no_end_number number (omega (arith, h.0))) (with_field (decimal binds) X2 (no_end_number binds (omega (arith, h.1))) (last_field (decimal workers) (no_end_number workers (omega (arith, h.2))))))))

-- ---- what begins with a line begins with no other

bodies : (a b r s : List ℕ) → HasNoFeed a → HasNoFeed b → a ++ 10 ∷ r ≡ b ++ 10 ∷ s → (a ≡ b) × (r ≡ s)
bodies [] [] r s ha hb e = (refl, (cc))
bodies [] (y ∷ b) r s ha hb e = let is : 10 ≡ y = cc in let no : (y == 10) ≡ true = eq-eqb y 10 (sym is) in absurd (both_ways (y == 10) hb.0 no)
bodies (x ∷ a) [] r s ha hb e = let is : x ≡ 10 = cc in let no : (x == 10) ≡ true = eq-eqb x 10 is in absurd (both_ways (x == 10) ha.0 no)
bodies (x ∷ a) (y ∷ b) r s ha hb e =
    let head : x ≡ y = cc in
    let tail : a ++ 10 ∷ r ≡ b ++ 10 ∷ s = cc in
    let rest = bodies a b r s ha.1 hb.1 tail in
    (ap (λ (z : ℕ). z ∷ a) head ∙ ap (λ (l : List ℕ). y ∷ l) rest.0, rest.1)

front_line : (l k r s : List ℕ) → IsLine l → IsLine k → l ++ r ≡ k ++ s → (l ≡ k) × (r ≡ s)
front_line l k r s hl hk e =
    let left : l ++ r ≡ hl.body ++ 10 ∷ r = ap (λ (x : List ℕ). x ++ r) hl.is ∙ append_assoc hl.body (10 ∷ []) r in
    let right : k ++ s ≡ hk.body ++ 10 ∷ s = ap (λ (x : List ℕ). x ++ s) hk.is ∙ append_assoc hk.body (10 ∷ []) s in
    let both = bodies hl.body hk.body r s hl.whole hk.whole (sym left ∙ e ∙ right) in
    (hl.is ∙ ap (λ (b : List ℕ). b ++ 10 ∷ []) both.0 ∙ sym hk.is, both.1)

-- a cut line is no whole one
feed_behind : (b rest : List ℕ) → HasNoFeed b → position_or_len (λ (c : ℕ). c == 10) (b ++ 10 ∷ rest) ≡ length b
feed_behind [] rest h = refl
feed_behind (x ∷ b) rest h = search (rules, feed_behind b rest h.1)

pub no_cut : (l r cut : List ℕ) → IsLine l → cut ≡ l ++ r → feed_at cut ≡ None → ⊥
no_cut l r cut hl is none =
    let whole : cut ≡ hl.body ++ 10 ∷ r = is ∙ ap (λ (x : List ℕ). x ++ r) hl.is ∙ append_assoc hl.body (10 ∷ []) r in
    let at = feed_behind hl.body r hl.whole in
    let some : feed_at (hl.body ++ 10 ∷ r) ≡ Some (length hl.body) =
    ap (λ (n : ℕ). if nat_lt n (length (hl.body ++ 10 ∷ r)) then Some n else None) at ∙ ap (λ (b : Bool). if b then Some (length hl.body) else None) (lt-ltb (length hl.body) (length (hl.body ++ 10 ∷ r)) (omega (arith, length-append hl.body (10 ∷ r)))) in
    let e : Some (length hl.body) ≡ None = sym some ∙ sym (ap feed_at whole) ∙ none in
    absurd (cc)

lines_once : (es fs : List (ℕ × Note)) (cut other : List ℕ) → AreU64 es → AreU64 fs → AllByRecursion IsNote (map (λ (e : ℕ × Note). e.1) es) → AllByRecursion IsNote (map (λ (e : ℕ × Note). e.1) fs) → feed_at cut ≡ None → feed_at other ≡ None
    → flat_map timed_text es ++ cut ≡ flat_map timed_text fs ++ other → map (λ (e : ℕ × Note). e.1) es ≡ map (λ (e : ℕ × Note). e.1) fs
lines_once [] [] cut other te tf ge gf none not is = refl
lines_once [] (f ∷ fs) cut other te tf ge gf none not is =
    absurd (no_cut (timed_text f) (flat_map timed_text fs ++ other) cut (note_is_line f.0 f.1 tf.0 gf.0) (is ∙ ap (λ (l : List ℕ). l ++ other) (flat_map-cons timed_text f fs) ∙ append_assoc (timed_text f) (flat_map timed_text fs) other) none)
lines_once (e ∷ es) [] cut other te tf ge gf none not is =
    absurd (no_cut (timed_text e) (flat_map timed_text es ++ cut) other (note_is_line e.0 e.1 te.0 ge.0) (sym is ∙ ap (λ (l : List ℕ). l ++ cut) (flat_map-cons timed_text e es) ∙ append_assoc (timed_text e) (flat_map timed_text es) cut) not)
lines_once (e ∷ es) (f ∷ fs) cut other te tf ge gf none not is =
    let left : flat_map timed_text (e ∷ es) ++ cut ≡ timed_text e ++ (flat_map timed_text es ++ cut) = ap (λ (l : List ℕ). l ++ cut) (flat_map-cons timed_text e es) ∙ append_assoc (timed_text e) (flat_map timed_text es) cut in
    let right : flat_map timed_text (f ∷ fs) ++ other ≡ timed_text f ++ (flat_map timed_text fs ++ other) = ap (λ (l : List ℕ). l ++ other) (flat_map-cons timed_text f fs) ∙ append_assoc (timed_text f) (flat_map timed_text fs) other in
    let front = front_line (timed_text e) (timed_text f) (flat_map timed_text es ++ cut) (flat_map timed_text fs ++ other) (note_is_line e.0 e.1 te.0 ge.0) (note_is_line f.0 f.1 tf.0 gf.0) (sym left ∙ is ∙ right) in
    let one = (line_once e.0 f.0 e.1 f.1 te.0 tf.0 ge.0 gf.0 front.0).1 in
    let rest = lines_once es fs cut other te.1 tf.1 ge.1 gf.1 none not front.1 in
    ap (λ (n : Note). n ∷ map (λ (x : ℕ × Note). x.1) es) one ∙ ap (λ (l : List Note). f.1 ∷ l) rest

-- so its notes are those that were written
pub notes_once : (text : List ℕ) (notes others : List Note) → AllByRecursion IsNote notes → AllByRecursion IsNote others → AreNotes text notes → AreNotes text others → notes ≡ others
notes_once text notes others good also a b =
    sym a.are.are
    ∙ lines_once a.are.timed b.are.timed a.cut b.cut a.are.times b.are.times (subst (AllByRecursion IsNote) (sym a.are.are) good) (subst (AllByRecursion IsNote) (sym b.are.are) also) a.whole b.whole
    (ap (λ (l : List ℕ). l ++ a.cut) (sym a.are.is) ∙ sym a.is ∙ b.is ∙ ap (λ (l : List ℕ). l ++ b.cut) b.are.is)
    ∙ b.are.are
