-- Every charge of a run rests on an answer, and no two requests on one.
use Rattle.std.proofs.Common.{◌≡◌, ◌≢◌, ℕ, zero, suc, ◌≤◌, false, List, [], ◌∷◌, ◌++◌, Some, refl, sym, ap, ◌∙◌, subst, arith, append_assoc, eq-eqb}
use mathlib.Core.Logic.{dite}
use native.Mathlib.Decide.{ℕ_discrete}
use Rattle.std.proofs.lemmas.Bool.Decides.{nat_tests}
use Rattle.std.proofs.lemmas.List.{append-nil}
use Rattle.sms_core.specs.declared.event.Event.{Event}
use Rattle.sms_core.specs.declared.event.Event.TheVariants.{TopUp, Reserve, Claim, Post, Respond, Settle, Expire, Discard, Release}
use Rattle.sms_core.specs.declared.event.Step.{Step}
use Rattle.sms_core.specs.declared.event.Step.TheVariants.{Done, Ignored}
use Rattle.sms_core.specs.declared.mark.Mark.TheVariants.{Open}
use Rattle.sms_core.specs.CoreLaws.{ChargeHasAnswer, AnswerIsOfOne}
use Rattle.sms_core.specs.Numbers.{times, once_below}
use Rattle.sms_core.specs.State.{State, new_world, mark_of}
use Rattle.sms_core.specs.Steps.{Steps}
use Rattle.sms_core.specs.Histories.{Moment, IsHistory, FromStart, number_in, given_by, numbers_given, PostedAt, AcceptedAt}
use Rattle.sms_core.proofs.Backed.{IsBacked, moment, backed_later, backed_start, backed_reserve, backed_claim, backed_post, backed_respond, backed_settle, backed_expire, backed_discard}
use Rattle.sms_core.proofs.Numbers.{times_append}
use Rattle.sms_core.proofs.Drawing.{numbers_given_once}
use Rattle.sms_core.proofs.Runs.{first_step, later_steps}
use Rattle.sms_core.proofs.Sound.{IsSound, held_inside, sound_start, sound_step}
use Rattle.sms_core.proofs.Done.{reserve_done, claim_done, post_done, discard_done, release_done}

backed_step : (past : List Moment) (before : State) (event : Event) (answer : Step) (old new : State) → Steps old event answer new → IsSound old → IsBacked past old
    → IsBacked (past ++ moment before event answer new ∷ []) new
backed_step past before event (Ignored cause) old new s i b = backed_later past _ new (subst (IsBacked past) (sym s.1) b)
backed_step past before (TopUp account amount) Done old new s i b =
    backed_later past _ new (subst (IsBacked past) (sym s.1) record { posts = b.posts; replies = b.replies; charges = b.charges })
backed_step past before (Reserve request account cost) Done old new s i b =
    backed_later past _ new (subst (IsBacked past) (sym s.1) (backed_reserve past old request account cost (reserve_done old new request account cost s).unknown b))
backed_step past before (Claim worker slot) Done old new s i b = backed_later past _ new (subst (IsBacked past) (sym (claim_done old new worker slot s).after) (backed_claim past old new.holds slot b))
backed_step past before (Post worker slot request) Done old new s i b =
    let done = post_done old new worker slot request s in
    subst (λ (w : State). IsBacked (past ++ moment before (Post worker slot request) Done w ∷ []) w) (sym s.1)
    (backed_post past before old worker slot request done.ready.state (held_inside old worker slot i done.held) done.ready.known b)
backed_step past before (Respond number status nack) Done old new s i b =
    subst (λ (w : State). IsBacked (past ++ moment before (Respond number status nack) Done w ∷ []) w) (sym s.1.after)
    (backed_respond past before old s.1.slot s.1.request number status nack s.1.waits b)
backed_step past before (Settle worker slot) Done old new s i b = backed_later past _ new (backed_settle (mark_of old slot) past old new slot refl s.1 i b)
backed_step past before (Expire worker slot) Done old new s i b = backed_later past _ new (backed_expire (mark_of old slot) past old new slot refl s.1 i b)
backed_step past before (Discard request) Done old new s i b =
    let r = (discard_done old new request s).ready in
    backed_later past _ new (subst (IsBacked past) (sym s.1) (backed_discard past old request r.state r.known b))
backed_step past before (Release worker slot) Done old new s i b =
    backed_later past _ new (subst (IsBacked past) (sym (release_done old new worker slot s).after) record { posts = b.posts; replies = b.replies; charges = b.charges })

backed_run : (past ms : List Moment) (old new : State) → IsHistory old ms new → IsSound old → IsBacked past old → IsBacked (past ++ ms) new
backed_run past [] old new h i b = subst (λ (l : List Moment). IsBacked l new) (sym (append-nil past)) (subst (IsBacked past) (sym h) b)
backed_run past (m ∷ ms) old new h i b =
    let s = first_step m ms old new h in
    let after = backed_step past m.before m.event m.answer old m.after s i b in
    subst (λ (l : List Moment). IsBacked l new) (append_assoc past (m ∷ []) ms)
    (backed_run (past ++ m ∷ []) ms m.after new (later_steps m ms old new h) (sound_step m.event m.answer old m.after s i) after)

pub backed : (ms : List Moment) (w : State) → FromStart ms w → IsBacked ms w
backed ms w h = backed_run [] ms (new_world h.accounts h.limit h.attempts) w h.history (sound_start h.accounts h.limit h.attempts h.limits) (backed_start h.accounts h.limit h.attempts)

pub charge_has_answer : ChargeHasAnswer
charge_has_answer ms w request r h known charged = (backed ms w h).charges request r known charged

-- the moment of a Post gave its number
post_gives : (x m : Moment) (worker slot request number : ℕ) → x ≡ m → m.event ≡ Post worker slot request → m.answer ≡ Done → mark_of m.after slot ≡ Open request number
    → times number (given_by x.event x.answer x.after) ≡ 1
post_gives x m worker slot request number is event answer mark =
    let a : given_by x.event x.answer x.after ≡ given_by m.event m.answer m.after = ap (λ (t : Moment). given_by t.event t.answer t.after) is in
    let b : given_by m.event m.answer m.after ≡ number_in (mark_of m.after slot) = λ i. given_by (event i) (answer i) m.after in
    let c : times number (number ∷ []) ≡ 1 = rw (eq-eqb number number refl) refl in
    ap (times number) (a ∙ b ∙ ap number_in mark) ∙ c

-- a Post behind the first moment is one of the rest
behind : (x : Moment) (ms : List Moment) (place request number : ℕ) → PostedAt (x ∷ ms) (suc place) request number → PostedAt ms place request number
behind x ms place request number p = record {
  moment = p.moment;
  worker = p.worker;
  slot = p.slot;
  there = p.there;
  event = p.event;
  done = p.done;
  mark = p.mark;
}

given_at : (ms : List Moment) (place request number : ℕ) → PostedAt ms place request number → 1 ≤ times number (numbers_given ms)
given_at [] place request number p = let e = p.there in absurd (cc)
given_at (x ∷ ms) zero request number p =
    let e = p.there in
    let is : x ≡ p.moment = cc in
    let one = post_gives x p.moment p.worker p.slot request number is p.event p.done p.mark in
    let all = times_append number (given_by x.event x.answer x.after) (numbers_given ms) in
    omega arith
given_at (x ∷ ms) (suc place) request number p =
    let rest = given_at ms place request number (behind x ms place request number p) in
    let all = times_append number (given_by x.event x.answer x.after) (numbers_given ms) in
    omega arith

given_twice : (ms : List Moment) (here there one other number : ℕ) → here ≢ there → PostedAt ms here one number → PostedAt ms there other number → 2 ≤ times number (numbers_given ms)
given_twice [] here there one other number ne p q = let e = p.there in absurd (cc)
given_twice (x ∷ ms) zero zero one other number ne p q = absurd (ne refl)
given_twice (x ∷ ms) zero (suc there) one other number ne p q =
    let e = p.there in
    let is : x ≡ p.moment = cc in
    let first = post_gives x p.moment p.worker p.slot one number is p.event p.done p.mark in
    let rest = given_at ms there other number (behind x ms there other number q) in
    let all = times_append number (given_by x.event x.answer x.after) (numbers_given ms) in
    omega arith
given_twice (x ∷ ms) (suc here) zero one other number ne p q =
    let e = q.there in
    let is : x ≡ q.moment = cc in
    let first = post_gives x q.moment q.worker q.slot other number is q.event q.done q.mark in
    let rest = given_at ms here one number (behind x ms here one number p) in
    let all = times_append number (given_by x.event x.answer x.after) (numbers_given ms) in
    omega arith
given_twice (x ∷ ms) (suc here) (suc there) one other number ne p q =
    let rest = given_twice ms here there one other number (λ e. ne (ap suc e)) (behind x ms here one number p) (behind x ms there other number q) in
    let all = times_append number (given_by x.event x.answer x.after) (numbers_given ms) in
    omega arith

-- one answer has one number
one_number : (ms : List Moment) (place one other : ℕ) → AcceptedAt ms place one → AcceptedAt ms place other → one ≡ other
one_number ms place one other a b =
    let both : Some a.moment ≡ Some b.moment = sym a.there ∙ b.there in
    let same : a.moment ≡ b.moment = cc in
    let event : Respond one 0 false ≡ Respond other 0 false = sym a.event ∙ ap (λ (m : Moment). m.event) same ∙ b.event in
    cc

-- one Post has one request
one_request : (ms : List Moment) (place one other number : ℕ) → PostedAt ms place one number → PostedAt ms place other number → one ≡ other
one_request ms place one other number p q =
    let both : Some p.moment ≡ Some q.moment = sym p.there ∙ q.there in
    let same : p.moment ≡ q.moment = cc in
    let event : Post p.worker p.slot one ≡ Post q.worker q.slot other = sym p.event ∙ ap (λ (m : Moment). m.event) same ∙ q.event in
    cc

once_below_most : (n top : ℕ) → once_below n top ≤ 1
once_below_most n top = grind (arith, nat_tests)

-- no two Posts gave one number
pub one_post : (ms : List Moment) (w : State) (here there one other number : ℕ) → FromStart ms w → PostedAt ms here one number → PostedAt ms there other number → one ≡ other
one_post ms w here there one other number h p q = dite (ℕ_discrete here there)
    (λ is. one_request ms there one other number (subst (λ (k : ℕ). PostedAt ms k one number) is p) q)
    (λ ne.
    let twice = given_twice ms here there one other number ne p q in
    let drawn = numbers_given_once ms w h number in
    let most = once_below_most number w.next in
    absurd (omega arith))

pub answer_is_of_one : AnswerIsOfOne
answer_is_of_one ms w one other place h a b =
    let number = one_number ms place a.number b.number a.accepted b.accepted in
    one_post ms w a.earlier b.earlier one other a.number h a.posted (subst (λ (n : ℕ). PostedAt ms b.earlier other n) (sym number) b.posted)
