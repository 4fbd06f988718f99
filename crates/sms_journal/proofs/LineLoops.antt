-- Loops that write the lines of a schedule.
use Rattle.std.proofs.Common.{◌≡◌, ℕ, ◌+◌, ◌<◌, ◌≤◌, Bool, List, [], ◌∷◌, ◌++◌, map, length, drop, get_or, Option, refl, sym, ap, ◌∙◌, subst, arith, append_assoc}
use Rattle.std.proofs.lemmas.List.{append-nil, length-map}
use Rattle.std.proofs.lemmas.List.Sums.{sum_by-cons, sum_by-append}
use Rattle.sms_book.specs.Openings.{credits_of}
use Rattle.sms_book.specs.declared.opening.Opening.{Opening}
use Rattle.sms_core.specs.declared.event.Event.{Event}
use Rattle.sms_core.specs.declared.event.Event.TheVariants.{Claim, Post, Release, Reserve, TopUp}
use Rattle.sms_core.specs.declared.request.Phase.{Phase}
use Rattle.sms_files.proofs.Lists.{drop_step, drop_whole}
use Rattle.sms_journal.specs.declared.audit.lines.Lines.{Lines}
use Rattle.sms_journal.specs.declared.audit.part.Answer.{Answer}
use Rattle.sms_journal.specs.declared.audit.part.SentPart.{SentPart}
use Rattle.sms_journal.specs.Replied.{said}
use Rattle.sms_journal.specs.ScheduleText.{Adds, Leaves}
use Rattle.sms_journal.specs.Schedules.{NamedPart, answer_events, attempt_events, in_turn, part_events, parts_events, phase_in, those, top_ups, where_so, comes_back, give_up_events, is_charged, is_given_up, is_unanswered, schedule_of}
use Rattle.sms_journal.specs.Turns.{drawn_by, named_from}
use Rattle.sms_journal.proofs.LineSteps.{adds_both, leaves_less, leaves_none}

-- what is left begins with what is written
less : (old now new : Lines) (all left first rest : List Event) (drawn more some later : ℕ) → left ≡ first ++ rest → more ≡ some + later → Leaves old now all left drawn more → Adds now new first some → Leaves old new all rest drawn later
less old now new all left first rest drawn more some later list sum h a =
    leaves_less old now new all first rest drawn some later (subst (λ (k : ℕ). Leaves old now all (first ++ rest) drawn k) sum (subst (λ (l : List Event). Leaves old now all l drawn more) list h)) a

none_left : (old now : Lines) (all left : List Event) (drawn more : ℕ) → left ≡ [] → more ≡ 0 → Leaves old now all left drawn more → Adds old now all drawn
none_left old now all left drawn more list sum h =
    leaves_none old now all drawn (subst (λ (k : ℕ). Leaves old now all [] drawn k) sum (subst (λ (l : List Event). Leaves old now all l drawn more) list h))

-- ---- attempts

pub attempts_more : (name : ℕ) (xs : List (Option Answer)) (k : ℕ) (x : Option Answer) (old now new : Lines) (all : List Event) (drawn : ℕ) → k < length xs → x ≡ get_or xs k x
    → Leaves old now all (attempt_events name now.next (map said (drop k xs))) drawn (length (drop k xs)) → Adds now new (Post 0 0 name ∷ answer_events now.next (said x)) 1
    → Leaves old new all (attempt_events name new.next (map said (drop (k + 1) xs))) drawn (length (drop (k + 1) xs))
attempts_more name xs k x old now new all drawn low its h a =
    let step : drop k xs ≡ x ∷ drop (k + 1) xs = drop_step xs k x low its in
    let first : List Event = Post 0 0 name ∷ answer_events now.next (said x) in
    let list : attempt_events name now.next (map said (drop k xs)) ≡ first ++ attempt_events name new.next (map said (drop (k + 1) xs))
    = ap (λ (l : List (Option Answer)). attempt_events name now.next (map said l)) step ∙ ap (λ (n : ℕ). first ++ attempt_events name n (map said (drop (k + 1) xs))) (sym a.next) in
    let sum : length (drop k xs) ≡ 1 + length (drop (k + 1) xs) = ap length step ∙ (let one : length (x ∷ drop (k + 1) xs) ≡ 1 + length (drop (k + 1) xs) = omega arith in one) in
    less old now new all (attempt_events name now.next (map said (drop k xs))) first (attempt_events name new.next (map said (drop (k + 1) xs))) drawn (length (drop k xs)) 1 (length (drop (k + 1) xs)) list sum h a

pub attempts_end : (name : ℕ) (xs : List (Option Answer)) (k : ℕ) (old now : Lines) (all : List Event) (drawn : ℕ) → length xs ≤ k → Leaves old now all (attempt_events name now.next (map said (drop k xs))) drawn (length (drop k xs)) → Adds old now all drawn
attempts_end name xs k old now all drawn high h =
    let none : drop k xs ≡ [] = drop_whole xs k high in
    none_left old now all (attempt_events name now.next (map said (drop k xs))) drawn (length (drop k xs)) (ap (λ (l : List (Option Answer)). attempt_events name now.next (map said l)) none) (ap length none) h

-- ---- parts

parts-append : (most number : ℕ) (xs ys : List NamedPart) → parts_events most number (xs ++ ys) ≡ parts_events most number xs ++ parts_events most (number + drawn_by xs) ys
parts-append most number [] ys = (let same : number + 0 ≡ number = omega arith in ap (λ (n : ℕ). parts_events most n ys) (sym same))
parts-append most number (x ∷ xs) ys =
    let sum = sum_by-cons (λ (n : NamedPart). length n.part.attempts) x xs in
    let number_is : number + length x.part.attempts + drawn_by xs ≡ number + drawn_by (x ∷ xs) = omega arith in
    ap (λ (l : List Event). part_events most number x ++ l) (parts-append most (number + length x.part.attempts) xs ys ∙ ap (λ (n : ℕ). parts_events most (number + length x.part.attempts) xs ++ parts_events most n ys) number_is)
    ∙ sym (append_assoc (part_events most number x) (parts_events most (number + length x.part.attempts) xs) (parts_events most (number + drawn_by (x ∷ xs)) ys))

-- two lists of parts, one after another
pub parts_both : (most : ℕ) (old mid new : Lines) (xs ys : List NamedPart) → Adds old mid (parts_events most old.next xs) (drawn_by xs) → Adds mid new (parts_events most mid.next ys) (drawn_by ys)
    → Adds old new (parts_events most old.next (xs ++ ys)) (drawn_by (xs ++ ys))
parts_both most old mid new xs ys a b =
    let list : parts_events most old.next xs ++ parts_events most mid.next ys ≡ parts_events most old.next (xs ++ ys)
    = ap (λ (n : ℕ). parts_events most old.next xs ++ parts_events most n ys) a.next ∙ sym (parts-append most old.next xs ys) in
    let sum : drawn_by xs + drawn_by ys ≡ drawn_by (xs ++ ys) = sym (sum_by-append (λ (n : NamedPart). length n.part.attempts) xs ys) in
    subst (λ (k : ℕ). Adds old new (parts_events most old.next (xs ++ ys)) k) sum
    (subst (λ (l : List Event). Adds old new l (drawn_by xs + drawn_by ys)) list (adds_both old mid new (parts_events most old.next xs) (parts_events most mid.next ys) (drawn_by xs) (drawn_by ys) a b))

module _ (most : ℕ) (is : Phase → Bool) (ps : List SentPart) where
  abbrev pub left_from : ℕ → List NamedPart
  left_from k = those is k (drop k ps)

  pub turn_more : (k : ℕ) (p : SentPart) (old now new : Lines) (all : List Event) (drawn : ℕ) → k < length ps → p ≡ get_or ps k p
      → Leaves old now all (parts_events most now.next (left_from k)) drawn (drawn_by (left_from k)) → Adds now new (parts_events most now.next (those is k (p ∷ []))) (drawn_by (those is k (p ∷ [])))
      → Leaves old new all (parts_events most new.next (left_from (k + 1))) drawn (drawn_by (left_from (k + 1)))
  turn_more k p old now new all drawn low its h a =
      let step : drop k ps ≡ p ∷ drop (k + 1) ps = drop_step ps k p low its in
      let one : List NamedPart = where_so (is (phase_in p)) (record { name = k; part = p }) in
      let named : left_from k ≡ those is k (p ∷ []) ++ left_from (k + 1)
      = ap (λ (l : List SentPart). those is k l) step ∙ ap (λ (l : List NamedPart). l ++ left_from (k + 1)) (sym (append-nil {A = NamedPart} one)) in
      let first : List Event = parts_events most now.next (those is k (p ∷ [])) in
      let list : parts_events most now.next (left_from k) ≡ first ++ parts_events most new.next (left_from (k + 1))
      = ap (λ (l : List NamedPart). parts_events most now.next l) named ∙ parts-append most now.next (those is k (p ∷ [])) (left_from (k + 1))
      ∙ ap (λ (n : ℕ). first ++ parts_events most n (left_from (k + 1))) (sym a.next) in
      let sum : drawn_by (left_from k) ≡ drawn_by (those is k (p ∷ [])) + drawn_by (left_from (k + 1))
      = ap drawn_by named ∙ sum_by-append (λ (n : NamedPart). length n.part.attempts) (those is k (p ∷ [])) (left_from (k + 1)) in
      less old now new all (parts_events most now.next (left_from k)) first (parts_events most new.next (left_from (k + 1))) drawn (drawn_by (left_from k)) (drawn_by (those is k (p ∷ []))) (drawn_by (left_from (k + 1))) list sum h a

  pub turn_end : (k : ℕ) (old now : Lines) (all : List Event) (drawn : ℕ) → length ps ≤ k → Leaves old now all (parts_events most now.next (left_from k)) drawn (drawn_by (left_from k)) → Adds old now all drawn
  turn_end k old now all drawn high h =
      let none : left_from k ≡ [] = ap (λ (l : List SentPart). those is k l) (drop_whole ps k high) in
      none_left old now all (parts_events most now.next (left_from k)) drawn (drawn_by (left_from k)) (ap (λ (l : List NamedPart). parts_events most now.next l) none) (ap drawn_by none) h

-- ---- top-ups

pub top_ups_more : (os : List Opening) (k : ℕ) (o : Opening) (old now new : Lines) (all : List Event) → k < length os → o ≡ get_or os k o → Leaves old now all (top_ups k (credits_of (drop k os))) 0 0
    → Adds now new (TopUp k o.credits ∷ []) 0 → Leaves old new all (top_ups (k + 1) (credits_of (drop (k + 1) os))) 0 0
top_ups_more os k o old now new all low its h a =
    less old now new all (top_ups k (credits_of (drop k os))) (TopUp k o.credits ∷ []) (top_ups (k + 1) (credits_of (drop (k + 1) os))) 0 0 0 0
    (ap (λ (l : List Opening). top_ups k (credits_of l)) (drop_step os k o low its)) refl h a

pub top_ups_end : (os : List Opening) (k : ℕ) (old now : Lines) (all : List Event) → length os ≤ k → Leaves old now all (top_ups k (credits_of (drop k os))) 0 0 → Adds old now all 0
top_ups_end os k old now all high h =
    none_left old now all (top_ups k (credits_of (drop k os))) 0 0 (ap (λ (l : List Opening). top_ups k (credits_of l)) (drop_whole os k high)) refl h

-- ---- one part

pub part_written : (old l1 l2 l3 : Lines) (most name cost : ℕ) (p : SentPart) (slice : List (Option Answer)) (given_up : Bool) → map said slice ≡ p.attempts → given_up ≡ is_given_up most (map said slice) → cost ≡ p.cost
    → Adds old l1 (Reserve name p.account cost ∷ []) 0 → Adds l1 l2 (attempt_events name l1.next (map said slice)) (length slice) → Adds l2 l3 (give_up_events name given_up) 0
    → Adds old l3 (part_events most old.next (named_from name p)) (length p.attempts)
part_written old l1 l2 l3 most name cost p slice given_up its up paid a b c =
    let next : l1.next ≡ old.next = (let n = a.next in omega arith) in
    let long : length slice ≡ length p.attempts = sym (length-map slice said) ∙ ap length its in
    let attempts : List Event = attempt_events name l1.next (map said slice) in
    let both = adds_both old l1 l3 (Reserve name p.account cost ∷ []) (attempts ++ give_up_events name given_up) 0 (length slice + 0) a (adds_both l1 l2 l3 attempts (give_up_events name given_up) (length slice) 0 b c) in
    let list : Reserve name p.account cost ∷ (attempts ++ give_up_events name given_up) ≡ part_events most old.next (named_from name p) = λ i.
    Reserve name p.account (paid i) ∷ (attempt_events name (next i) (its i) ++ give_up_events name ((up ∙ ap (is_given_up most) its) i)) in
    let sum : 0 + (length slice + 0) ≡ length p.attempts = omega arith in
    subst (λ (k : ℕ). Adds old l3 (part_events most old.next (named_from name p)) k) sum (subst (λ (l : List Event). Adds old l3 l (0 + (length slice + 0))) list both)

-- ---- all parts

pub turns_written : (most : ℕ) (ps : List SentPart) (l0 l1 l2 l3 : Lines) → Adds l0 l1 (parts_events most l0.next (those comes_back 0 ps)) (drawn_by (those comes_back 0 ps))
    → Adds l1 l2 (parts_events most l1.next (those is_charged 0 ps)) (drawn_by (those is_charged 0 ps)) → Adds l2 l3 (parts_events most l2.next (those is_unanswered 0 ps)) (drawn_by (those is_unanswered 0 ps))
    → Adds l0 l3 (parts_events most l0.next (in_turn ps)) (drawn_by (in_turn ps))
turns_written most ps l0 l1 l2 l3 a b c =
    parts_both most l0 l1 l3 (those comes_back 0 ps) (those is_charged 0 ps ++ those is_unanswered 0 ps) a (parts_both most l1 l2 l3 (those is_charged 0 ps) (those is_unanswered 0 ps) b c)

-- ---- the whole schedule

pub whole_written : (most : ℕ) (credits : List ℕ) (ps : List SentPart) (l0 l1 l2 l3 l4 : Lines) (drawn : ℕ) → l0.next ≡ 1 → Adds l0 l1 (top_ups 0 credits) 0 → Adds l1 l2 (Claim 0 0 ∷ []) 0
    → Adds l2 l3 (parts_events most l2.next (in_turn ps)) drawn → Adds l3 l4 (Release 0 0 ∷ []) 0 → Adds l0 l4 (schedule_of most credits ps) (0 + (0 + (drawn + 0)))
whole_written most credits ps l0 l1 l2 l3 l4 drawn first a b c d =
    let next : l2.next ≡ 1 = (let x = a.next in let y = b.next in omega arith) in
    let parts : Adds l2 l3 (parts_events most 1 (in_turn ps)) drawn = subst (λ (n : ℕ). Adds l2 l3 (parts_events most n (in_turn ps)) drawn) next c in
    let tail : List Event = parts_events most 1 (in_turn ps) ++ (Release 0 0 ∷ []) in
    adds_both l0 l1 l4 (top_ups 0 credits) (Claim 0 0 ∷ tail) 0 (0 + (drawn + 0)) a
    (adds_both l1 l2 l4 (Claim 0 0 ∷ []) tail 0 (drawn + 0) b (adds_both l2 l3 l4 (parts_events most 1 (in_turn ps)) (Release 0 0 ∷ []) drawn 0 parts d))
