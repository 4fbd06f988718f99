-- What is said to frames that come one after another, and what of it is written.
use Rattle.std.proofs.Common.{◌≡◌, ◌≢◌, ◌⊎◌, ℕ, ◌+◌, inl, inr, List, [], ◌∷◌, ◌++◌, length, take, Bool, true, false, Option, Some, None, refl, sym, ap, ◌∙◌, subst, arith, append_assoc, append-nil, length-append, true≢false}
use lib.Seq.{take-append-add}
use Rattle.std.specs.List.{AllZip, concat}
use Rattle.std.proofs.lemmas.List.Folds.{concat-append}
use Rattle.std.specs.Io.KnownBytes.{Appends, Keeps, IsAtEnd}
use Rattle.std.proofs.KnownBytes.{Appends-nil, Appends-trans, Consumes-nil}
use Rattle.sms_pdu.specs.Header.{header_at_front}
use Rattle.sms_pdu.specs.Frame.{Division, IsRest, IsBad}
use Rattle.sms_pdu.specs.Streams.{FewerAppended, Leaves, Reads, going, complete, early}
use Rattle.sms_pdu.proofs.Divisions.{each_divided}
use Rattle.sms_pdu.proofs.Streams.{rest_divided, division_after, consumes_nothing, reads_none, reads_ends, reads_rest}
use Rattle.sms_centre.specs.declared.serving.Stop.{Stop}
use Rattle.sms_centre.specs.declared.serving.Stop.TheVariants as stop
use Rattle.sms_centre.specs.declared.said.Said.{Said}
use Rattle.sms_centre.specs.declared.serving.ServeCause.{ServeCause}
use Rattle.sms_centre.specs.declared.serving.ServeCause.TheVariants as cause
use Rattle.sms_centre.specs.Says.{IsSaid, Progress, said_to, after_frame, PutsAll}
use Rattle.sms_centre.specs.Serving.{Talk, talking, talk, conversation, hears, tells, end_at, is_early, Writes, Brings, Serves}
use Rattle.sms_centre.specs.Stops.{talk_at, brought, ends_cut, stretch_of, cause_of, Answered, Written}
use Rattle.sms_centre.proofs.Putting.{AllZip-append}

talk-append : (t : Talk) (fs gs : List (List ℕ)) → talk t (fs ++ gs) ≡ talk (talk t fs) gs
talk-append t [] gs = refl
talk-append t (f ∷ fs) gs = talk-append (hears t.over t.now (header_at_front f)) fs gs

conversation-append : (t : Talk) (fs gs : List (List ℕ)) → conversation t (fs ++ gs) ≡ conversation t fs ++ conversation (talk t fs) gs
conversation-append t [] gs = refl
conversation-append t (f ∷ fs) gs =
    let h = header_at_front f in
    ap (λ l. tells t.over t.now h ++ l) (conversation-append (hears t.over t.now h) fs gs) ∙ sym (append_assoc (tells t.over t.now h) (conversation (hears t.over t.now h) fs) (conversation (talk (hears t.over t.now h) fs) gs))

-- nothing is said and nothing changes after the end
over_says : (p : Progress) (s : ServeCause) (fs : List (List ℕ)) → conversation (record { now = p; over = Some s }) fs ≡ []
over_says p s [] = refl
over_says p s (f ∷ fs) = over_says p s fs

over_stays : (p : Progress) (s : ServeCause) (fs : List (List ℕ)) → talk (record { now = p; over = Some s }) fs ≡ record { now = p; over = Some s }
over_stays p s [] = refl
over_stays p s (f ∷ fs) = over_stays p s fs

-- ---- into a buffer

pub answered_none : (p : Progress) (out : List ℕ) → Answered p p None out out []
answered_none p out = record { pieces = []; each = tt; grown = sym (append-nil out); reached = refl }

pub answered_one : (p q : Progress) (end : Option Stop) (old new f : List ℕ) → brought end ≡ end_at p (header_at_front f) → q ≡ after_frame p (header_at_front f) → PutsAll (said_to p (header_at_front f)) old new → Answered p q end old new (f ∷ [])
answered_one p q end old new f e h a =
    record {
      pieces = a.pieces;
      each = subst (λ (l : List Said). AllZip IsSaid l a.pieces) (sym (append-nil (said_to p (header_at_front f)))) a.said;
      grown = a.behind;
      reached = ap (λ (x : Option ServeCause). let t : Talk = record { now = q; over = x } in t) e ∙ ap (λ (x : Progress). let t : Talk = record { now = x; over = end_at p (header_at_front f) } in t) h;
    }

pub answered_more : (p q r : Progress) (end : Option Stop) (a b c : List ℕ) (fs gs : List (List ℕ)) → Answered p q None a b fs → Answered q r end b c gs → Answered p r end a c (fs ++ gs)
answered_more p q r end a b c fs gs x y =
    record {
      pieces = x.pieces ++ y.pieces;
      each = subst (λ (l : List Said). AllZip IsSaid l (x.pieces ++ y.pieces)) (sym (conversation-append (talking p) fs gs))
          (AllZip-append IsSaid (conversation (talking p) fs) (conversation (talk (talking p) fs) gs) x.pieces y.pieces x.each (subst (λ (t : Talk). AllZip IsSaid (conversation t gs) y.pieces) x.reached y.each));
      grown = y.grown ∙ ap (λ l. l ++ concat y.pieces) x.grown ∙ append_assoc a (concat x.pieces) (concat y.pieces) ∙ ap (λ l. a ++ l) (sym (concat-append x.pieces y.pieces));
      reached = y.reached ∙ ap (λ (t : Talk). talk t gs) x.reached ∙ sym (talk-append (talking p) fs gs);
    }

-- ---- into a writer

writes_more : (cut : Bool) (a b c : Option (List ℕ)) (xs ys : List ℕ) → Appends a b xs → Writes cut b c ys → Writes cut a c (xs ++ ys)
writes_more false a b c xs ys w v = Appends-trans a b c xs ys w v
writes_more true a b c xs ys w (n, few, appended) =
    (length xs + n, omega (arith, length-append xs ys, few), subst (λ l. Appends a c l) (sym (take-append-add xs ys n)) (Appends-trans a b c xs (take n ys) w appended))

pub written_none : (p : Progress) (end : Option Stop) (a : Option (List ℕ)) → brought end ≡ None → ends_cut end ≡ false → Written p p end a a []
written_none p end a none uncut =
    record {
      pieces = [];
      each = tt;
      writes = subst (λ (c : Bool). Writes c a a []) (sym uncut) (Appends-nil a);
      at = refl;
      reached = λ e. ap (λ (x : Option ServeCause). let t : Talk = record { now = p; over = x } in t) none;
    }

-- what was gathered is written
pub written_all : (p q : Progress) (end why : Option Stop) (a b : Option (List ℕ)) (out : List ℕ) (fs : List (List ℕ)) → brought why ≡ brought end → ends_cut why ≡ false → Answered p q end [] out fs → Appends a b out → Written p q why a b fs
written_all p q end why a b out fs same uncut x w =
    record {
      pieces = x.pieces;
      each = x.each;
      writes = subst (λ (c : Bool). Writes c a b (concat x.pieces)) (sym uncut) (subst (λ l. Appends a b l) x.grown w);
      at = ap (λ (t : Talk). t.now) x.reached;
      reached = λ e. ap (λ (o : Option ServeCause). let t : Talk = record { now = q; over = o } in t) same ∙ x.reached;
    }

-- or fewer octets than all of it
pub written_some : (p q : Progress) (end : Option Stop) (a b : Option (List ℕ)) (out : List ℕ) (fs : List (List ℕ)) → Answered p q end [] out fs → FewerAppended a b out → Written p q (Some stop.WriteFault) a b fs
written_some p q end a b out fs x w =
    record { pieces = x.pieces; each = x.each; writes = subst (λ l. FewerAppended a b l) x.grown w; at = ap (λ (t : Talk). t.now) x.reached; reached = λ e. absurd (true≢false e) }

pub written_more : (p q r : Progress) (end : Option Stop) (a b c : Option (List ℕ)) (fs gs : List (List ℕ)) → Written p q None a b fs → Written q r end b c gs → Written p r end a c (fs ++ gs)
written_more p q r end a b c fs gs x y =
    record {
      pieces = x.pieces ++ y.pieces;
      each = subst (λ (l : List Said). AllZip IsSaid l (x.pieces ++ y.pieces)) (sym (conversation-append (talking p) fs gs))
          (AllZip-append IsSaid (conversation (talking p) fs) (conversation (talk (talking p) fs) gs) x.pieces y.pieces x.each (subst (λ (t : Talk). AllZip IsSaid (conversation t gs) y.pieces) (x.reached refl) y.each));
      writes = subst (λ l. Writes (ends_cut end) a c l) (sym (concat-append x.pieces y.pieces)) (writes_more (ends_cut end) a b c (concat x.pieces) (concat y.pieces) x.writes y.writes);
      at = y.at ∙ ap (λ (t : Talk). (talk t gs).now) (x.reached refl) ∙ sym (ap (λ (t : Talk). t.now) (talk-append (talking p) fs gs));
      reached = λ e. y.reached e ∙ ap (λ (t : Talk). talk t gs) (x.reached refl) ∙ sym (talk-append (talking p) fs gs);
    }

-- it ends without a frame
pub written_ends : (p q : Progress) (why : Option Stop) (a b : Option (List ℕ)) (fs : List (List ℕ)) → ends_cut why ≡ false → brought why ≡ None → Written p q None a b fs → Written p q why a b fs
written_ends p q why a b fs uncut none x =
    record {
      pieces = x.pieces;
      each = x.each;
      writes = subst (λ (c : Bool). Writes c a b (concat x.pieces)) (sym uncut) x.writes;
      at = x.at;
      reached = λ e. ap (λ (o : Option ServeCause). let t : Talk = record { now = q; over = o } in t) none ∙ x.reached refl;
    }

-- a stop that is no write fault
pub uncut : (why : Option Stop) → why ≢ Some stop.WriteFault → ends_cut why ≡ false
uncut None other = refl
uncut (Some stop.Ended) other = refl
uncut (Some stop.HungUp) other = refl
uncut (Some stop.Unbound) other = refl
uncut (Some stop.Lost) other = refl
uncut (Some stop.ReadFault) other = refl
uncut (Some stop.WriteFault) other = absurd (other refl)
uncut (Some stop.Turns) other = refl
uncut (Some stop.OutOfMemory) other = refl

-- ---- at the end

-- what comes after the frames that were answered is no frame, or is said nothing
quiet : (p : Progress) (why : Stop) (left held : List ℕ) (gs : List (List ℕ)) (rest : List ℕ) → is_early (cause_of why) ≡ false → Leaves (stretch_of (Some why)) left held → Division left gs rest
    → (conversation (talk_at p (Some why)) gs ≡ []) × (talk (talk_at p (Some why)) gs ≡ talk_at p (Some why))
quiet p stop.Ended left held gs rest e r d = let gone = (rest_divided left gs rest r.0 d).0 in (ap (conversation (talking p)) gone, ap (talk (talking p)) gone)
quiet p stop.HungUp left held gs rest e r d = (over_says p cause.Ended gs, over_stays p cause.Ended gs)
quiet p stop.Unbound left held gs rest e r d = (over_says p cause.Unbound gs, over_stays p cause.Unbound gs)
quiet p stop.Lost left held gs rest e r d = let gone = (rest_divided left gs rest (inr (inr r)) d).0 in (ap (conversation (talking p)) gone, ap (talk (talking p)) gone)
quiet p stop.ReadFault left held gs rest e r d = let gone = (rest_divided left gs rest r.0 d).0 in (ap (conversation (talking p)) gone, ap (talk (talking p)) gone)
quiet p stop.WriteFault left held gs rest e r d = absurd (true≢false e)
quiet p stop.Turns left held gs rest e r d = let gone = (rest_divided left gs rest r.0 d).0 in (ap (conversation (talking p)) gone, ap (talk (talking p)) gone)
quiet p stop.OutOfMemory left held gs rest e r d = absurd (true≢false e)

-- no octets are no bad length
pub none_good : (held : List ℕ) → held ≡ [] → ¬ IsBad held
none_good held none bad = let n : length held ≡ 0 = ap length none in absurd (let b = bad.begun in omega (arith, n, b))

-- the rest is good where what is left is
rest_good : (left held : List ℕ) (gs : List (List ℕ)) (rest : List ℕ) → Leaves complete left held → Division left gs rest → ¬ IsBad rest
rest_good left held gs rest r d = subst (λ (l : List ℕ). ¬ IsBad l) (sym (rest_divided left gs rest r.0 d).1) r.1

-- what the cause tells
brings : (why : Stop) (over : Option ServeCause) (left held : List ℕ) (gs : List (List ℕ)) (rest : List ℕ) (after : Option (List ℕ)) → (is_early (cause_of why) ≡ false → over ≡ brought (Some why))
    → Leaves (stretch_of (Some why)) left held → Division left gs rest → (why ≡ stop.Ended → IsAtEnd after) → Brings (cause_of why) over rest after
brings stop.Ended over left held gs rest after h r d end = inr (h refl, end refl, rest_good left held gs rest r d)
brings stop.HungUp over left held gs rest after h r d end = inl (h refl)
brings stop.Unbound over left held gs rest after h r d end = h refl
brings stop.Lost over left held gs rest after h r d end = (h refl, subst IsBad (sym (rest_divided left gs rest (inr (inr r)) d).1) r)
brings stop.ReadFault over left held gs rest after h r d end = (h refl, rest_good left held gs rest r d)
brings stop.WriteFault over left held gs rest after h r d end = tt
brings stop.Turns over left held gs rest after h r d end = (h refl, rest_good left held gs rest r d)
brings stop.OutOfMemory over left held gs rest after h r d end = tt

pub serves : (p q : Progress) (why : Stop) (held : List ℕ) (r t a b : Option (List ℕ)) → Reads (Written p q (Some why) a b) [] r t (stretch_of (Some why)) held → (why ≡ stop.Ended → IsAtEnd t) → Serves p r t a b (cause_of why) q.submits
serves p q why held r t a b x end =
    let w = x.went in
    let d = each_divided x.left in
    let joined = conversation-append (talking p) w.frames d.frames in
    let still = λ (e : is_early (cause_of why) ≡ false). quiet q why x.left held d.frames d.rest e x.leaves d.divided in
    let talked = λ (e : is_early (cause_of why) ≡ false). talk-append (talking p) w.frames d.frames ∙ ap (λ (k : Talk). talk k d.frames) (sym (w.done.reached e)) ∙ (still e).1 in
    record {
      got = x.got;
      consumed = x.consumed;
      frames = w.frames ++ d.frames;
      rest = d.rest;
      divided = division_after x.got x.left w.frames d.frames d.rest w.whole w.each d.divided;
      answered = w.frames;
      first = (d.frames, refl);
      pieces = w.done.pieces;
      each = w.done.each;
      writes = w.done.writes;
      counted = ap (λ (k : Progress). k.submits) w.done.at;
      whole = λ e. talked e ∙ w.done.reached e;
      said = λ e.
          joined ∙ ap (λ (k : Talk). conversation (talking p) w.frames ++ conversation k d.frames) (sym (w.done.reached e)) ∙ ap (λ (l : List Said). conversation (talking p) w.frames ++ l) (still e).0 ∙ append-nil (conversation (talking p) w.frames);
      why = brings why (talk (talking p) (w.frames ++ d.frames)).over x.left held d.frames d.rest t (λ e. ap (λ (k : Talk). k.over) (talked e)) x.leaves d.divided end;
    }

-- no memory, and so nothing was read
pub serves_none : (p : Progress) (r a : Option (List ℕ)) → Serves p r r a a cause.OutOfMemory p.submits
serves_none p r a =
    serves p p stop.OutOfMemory [] r r a a (reads_none (Written p p (Some stop.OutOfMemory) a a) [] [] r r early (written_none p (Some stop.OutOfMemory) a refl refl) (Consumes-nil r) tt) (λ e. absurd (other e))
  where
    other : stop.OutOfMemory ≡ stop.Ended → ⊥
    other e = cc

-- the turns are used up
pub reads_turns : (p q : Progress) (r t a b : Option (List ℕ)) (held : List ℕ) → Reads (Written p q None a b) [] r t going held → ¬ IsBad held → Reads (Written p q (Some stop.Turns) a b) [] r t complete held
reads_turns p q r t a b held x good =
    reads_ends (Written p q None a b) (Written p q (Some stop.Turns) a b) [] held held r t complete x (λ fs. written_ends p q (Some stop.Turns) a b fs refl refl) (reads_rest (Written p q None a b) [] held r t x, good)

-- memory ran out behind these frames
pub answered_full : (p q : Progress) (a b : List ℕ) (fs : List (List ℕ)) → Answered p q None a b fs → Answered p q (Some stop.OutOfMemory) a b fs
answered_full p q a b fs x = record { pieces = x.pieces; each = x.each; grown = x.grown; reached = x.reached }

-- a read that failed changes nothing, and the connection goes on or not
pub reads_failed : (p : Progress) (end : Option Stop) (held : List ℕ) (r t w : Option (List ℕ)) → (end ≡ None) ⊎ (end ≡ Some stop.ReadFault) → Keeps r t → IsRest held → ¬ IsBad held
    → Reads (Written p p end w w) held r t (stretch_of end) held
reads_failed p end held r t w (inl e) kept rest good =
    subst (λ (x : Option Stop). Reads (Written p p x w w) held r t (stretch_of x) held) (sym e) (reads_none (Written p p None w w) held held r t going (written_none p None w refl refl) (consumes_nothing r t kept) (rest, refl))
reads_failed p end held r t w (inr e) kept rest good =
    subst (λ (x : Option Stop). Reads (Written p p x w w) held r t (stretch_of x) held) (sym e)
    (reads_none (Written p p (Some stop.ReadFault) w w) held held r t complete (written_none p (Some stop.ReadFault) w refl refl) (consumes_nothing r t kept) (rest, good))
