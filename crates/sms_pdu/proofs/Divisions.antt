-- A stream has one division.
use Rattle.std.proofs.Common.{◌≡◌, ℕ, zero, suc, ◌+◌, ◌≤◌, ◌⊎◌, List, [], ◌∷◌, ◌++◌, length, take, drop, refl, sym, ap, subst, ◌∙◌, append_assoc, arith, inl, inr}
use Rattle.std.specs.List.{concat, AllByRecursion}
use Rattle.std.proofs.lemmas.Bool.{cases_lt}
use Rattle.std.proofs.lemmas.List.{take-append-drop, take_at, drop_at, length-append, length-drop}
use Rattle.std.proofs.lemmas.List.Elements.{filter_map-append}
use Rattle.std.proofs.lemmas.List.Folds.{concat-append}
use Rattle.sms_pdu.specs.Frame.{announced, IsFrame, IsRest, Division, HasDivision}
use Rattle.sms_pdu.specs.Laws.{OneDivision, EachDivided, PiecesJoin, BadStays, LaterAdds, OthersFollow, AnswersJoin, OneListOfAnswers, AnswersGrow}
use Rattle.sms_pdu.specs.declared.reply.Reply.{Reply}
use Rattle.sms_pdu.specs.Reply.{reply_in, answers, AnswersOf}
use Rattle.sms_pdu.proofs.Fronts.{announced-append, FoundWhole, whole_is_frame, rest_pends, AllByRecursion-append}

-- a frame and what follows it are no rest
frame_begun : (f : List ℕ) → IsFrame f → 4 ≤ length f
frame_begun f h = omega (arith, h.good.least)

frame_says : (f x : List ℕ) → IsFrame f → announced (f ++ x) ≡ length f
frame_says f x h = announced-append f x (frame_begun f h) ∙ h.announces

no_rest : (f x : List ℕ) → IsFrame f → IsRest (f ++ x) → ⊥
no_rest f x h r =
    let says = frame_says f x h in
    let len : length (f ++ x) ≡ length f + length x = length-append f x in
    let lt = rest_pends (f ++ x) r (omega (arith, len, h.good.least)) (omega (arith, says, h.good.least)) (omega (arith, says, h.good.most)) in
    absurd (omega (arith, lt, says, len))

-- two frames at the front of one stream are one
cut_front : (f x g y : List ℕ) → IsFrame f → IsFrame g → f ++ x ≡ g ++ y → (f ≡ g) × (x ≡ y)
cut_front f x g y h k e =
    let len : length f ≡ length g = sym (frame_says f x h) ∙ ap announced e ∙ frame_says g y k in (
      sym (take_at f x (length f) refl) ∙ ap (take (length f)) e ∙ take_at g y (length f) (sym len),
      sym (drop_at f x (length f) refl) ∙ ap (drop (length f)) e ∙ drop_at g y (length f) (sym len),
    )

joined_unique : (fs gs : List (List ℕ)) (r l : List ℕ) → AllByRecursion IsFrame fs → AllByRecursion IsFrame gs → IsRest r → IsRest l → concat fs ++ r ≡ concat gs ++ l → (fs ≡ gs) × (r ≡ l)
joined_unique [] [] r l hf hg hr hl e = (refl, e)
joined_unique [] (g ∷ gs) r l hf hg hr hl e =
    absurd (no_rest g (concat gs ++ l) hg.0 (subst IsRest (e ∙ append_assoc g (concat gs) l) hr))
joined_unique (f ∷ fs) [] r l hf hg hr hl e =
    absurd (no_rest f (concat fs ++ r) hf.0 (subst IsRest (sym e ∙ append_assoc f (concat fs) r) hl))
joined_unique (f ∷ fs) (g ∷ gs) r l hf hg hr hl e =
    let both = cut_front f (concat fs ++ r) g (concat gs ++ l) hf.0 hg.0 (sym (append_assoc f (concat fs) r) ∙ e ∙ append_assoc g (concat gs) l) in
    let rest = joined_unique fs gs r l hf.1 hg.1 hr hl both.1 in
    let e0 = both.0 in
    let e1 = rest.0 in
    (cc, rest.1)

pub one_division : OneDivision
one_division stream frames others rest left h k =
    joined_unique frames others rest left h.each k.each h.ended k.ended (sym h.whole ∙ k.whole)

-- a rest, or a whole frame at the front
front_cases : (s : List ℕ) → IsRest s ⊎ ((k : ℕ) × FoundWhole s k)
front_cases s =
    elim (cases_lt (length s) 4) [
      | inl short ↦ inl (inl short)
      | inr begun ↦ elim (cases_lt (announced s) 16) [
        | inl below ↦ inl (inr (inr (record { begun = begun; bad = inl below })))
        | inr least ↦ elim (cases_lt 70000 (announced s)) [
          | inl above ↦ inl (inr (inr (record { begun = begun; bad = inr above })))
          | inr most ↦ elim (cases_lt (length s) (announced s)) [
            | inl cut ↦ inl (inr (inl (record { begun = begun; good = record { least = least; most = most }; cut = cut })))
            | inr there ↦ inr (announced s, record { is = refl; begun = begun; least = least; most = most; there = there })
          ]
        ]
      ]
    ]

-- a frame before a stream that is divided
pub frame_before : (f s : List ℕ) (fs : List (List ℕ)) (rest : List ℕ) → IsFrame f → Division s fs rest → Division (f ++ s) (f ∷ fs) rest
frame_before f s fs rest h d =
    record {
      whole = ap (λ (x : List ℕ). f ++ x) d.whole ∙ sym (append_assoc f (concat fs) rest);
      each = (h, d.each);
      ended = d.ended;
    }

divided_more : (s : List ℕ) (k : ℕ) → FoundWhole s k → HasDivision (drop k s) → HasDivision s
divided_more s k w d =
    let more = frame_before (take k s) (drop k s) d.frames d.rest (whole_is_frame s k w) d.divided in
    record { frames = take k s ∷ d.frames; rest = d.rest; divided = subst (λ (x : List ℕ). Division x (take k s ∷ d.frames) d.rest) (take-append-drop k s) more }

divided : (n : ℕ) (s : List ℕ) → length s ≤ n → HasDivision s
divided zero s le = record { frames = []; rest = s; divided = record { whole = refl; each = tt; ended = inl (omega arith) } }
divided (suc n) s le =
    elim (front_cases s) [
      | inl rest ↦ record { frames = []; rest = s; divided = record { whole = refl; each = tt; ended = rest } }
      | inr found ↦ divided_more s found.0 found.1 (divided n (drop found.0 s) (omega (arith, length-drop found.0 s, found.1.least)))
    ]

pub each_divided : EachDivided
each_divided s = divided (length s) s (omega arith)

pub pieces_join : PiecesJoin
pieces_join stream piece frames more rest left h k =
    record {
      whole = ap (λ (x : List ℕ). x ++ piece) h.whole ∙ append_assoc (concat frames) rest piece ∙ ap (λ (x : List ℕ). concat frames ++ x) k.whole ∙ sym (append_assoc (concat frames) (concat more) left) ∙ ap (λ (x : List ℕ). x ++ left) (sym (concat-append frames more));
      each = AllByRecursion-append IsFrame frames more h.each k.each;
      ended = k.ended;
    }

pub bad_stays : BadStays
bad_stays rest piece h =
    let says = announced-append rest piece h.begun in
    record { begun = omega (arith, h.begun, length-append rest piece); bad = rw says h.bad }

pub later_adds : LaterAdds
later_adds stream piece frames all rest left h k =
    let more = each_divided (rest ++ piece) in
    let same = one_division (stream ++ piece) all (frames ++ more.frames) left more.rest k (pieces_join stream piece frames more.frames rest more.rest h more.divided) in
    (more.frames, same.0, subst (λ l. Division (rest ++ piece) more.frames l) (sym same.1) more.divided)

pub others_follow : OthersFollow
others_follow stream first others rest h = (
  concat others ++ rest,
  h.whole ∙ append_assoc first (concat others) rest,
  record { whole = refl; each = h.each.1; ended = h.ended },
)

-- ---- answers

pub answers_join : AnswersJoin
answers_join frames more = filter_map-append reply_in frames more

pub one_list_of_answers : OneListOfAnswers
one_list_of_answers stream =
    let d = each_divided stream in
    let one : (others : List Reply) → AnswersOf stream others → others ≡ answers d.frames = λ others h. h.are ∙ ap answers (one_division stream h.frames d.frames h.rest d.rest h.divided d.divided).0 in
    (answers d.frames, record { frames = d.frames; rest = d.rest; divided = d.divided; are = refl }, one)

pub answers_grow : AnswersGrow
answers_grow stream piece replies all h k =
    let more = later_adds stream piece h.frames k.frames h.rest k.rest h.divided k.divided in
    (answers more.0, k.are ∙ ap answers more.1 ∙ answers_join h.frames more.0 ∙ ap (λ l. l ++ answers more.0) (sym h.are))
