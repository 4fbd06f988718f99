-- Where the bind closed, as a run goes on.
use Rattle.std.proofs.Common.{◌≡◌, ℕ, zero, suc, Bool, true, false, List, [], ◌∷◌, ◌++◌, None, Some, inl, inr, refl, sym, subst, arith}
use Rattle.std.specs.Prelude.{◌||◌, IsTrue, Option, slice_get}
use Rattle.sms_worker.specs.Types.{SegmentEnd, MessageEnd, MessageResult}
use Rattle.sms_message.specs.declared.ends.MessageRefusal.TheVariants.{BindClosed}
use Rattle.sms_message.specs.declared.ends.MessageResult.TheVariants.{Sent, Refused as NotSent}
use Rattle.sms_message.specs.Ends.{put_in, with_part, put}
use Rattle.sms_bind.specs.declared.down.DownMark.{DownMark}
use Rattle.sms_message.specs.declared.message.Message.{Message}
use Rattle.sms_worker.specs.declared.state.stop.NotBegun.{NotBegun}
use Rattle.sms_worker.specs.Closing.{IsClosed, IsRefusedOf, IsSeen, StaysClosed, Closes, stopped_by}
use Rattle.sms_worker.proofs.EndLemmas.{got_of_append, get_low}

closed_put : (r : MessageResult) (p : ℕ) (s : SegmentEnd) → r ≡ NotSent BindClosed → put_in r p s ≡ NotSent BindClosed
closed_put r p s c = subst (λ (q : MessageResult). put_in q p s ≡ NotSent BindClosed) (sym c) refl

closed_of_put : (r : MessageResult) (p : ℕ) (s : SegmentEnd) → put_in r p s ≡ NotSent BindClosed → r ≡ NotSent BindClosed
closed_of_put (Sent segments) p s c = absurd (cc)
closed_of_put (NotSent refusal) p s c = c

-- what stood there before one segment was put in its place
record WasAt (es : List MessageEnd) (k : ℕ) (e : MessageEnd) : Type 0 where
  was : MessageEnd
  at : slice_get es k ≡ Some was
  closed : IsClosed was → IsClosed e
  closes : IsClosed e → IsClosed was

was_at : (es : List MessageEnd) (m p : ℕ) (s : SegmentEnd) (k : ℕ) (e : MessageEnd) → slice_get (put es m p s) k ≡ Some e → WasAt es k e
was_at [] m p s k e at = absurd (cc)
was_at (x ∷ es) zero p s zero e at =
    let is : with_part x p s ≡ e = cc in
    record { was = x; at = refl; closed = λ c. subst IsClosed is (closed_put x.result p s c); closes = λ c. closed_of_put x.result p s (subst IsClosed (sym is) c) }
was_at (x ∷ es) zero p s (suc k) e at = record { was = e; at = at; closed = λ c. c; closes = λ c. c }
was_at (x ∷ es) (suc m) p s zero e at =
    let is : x ≡ e = cc in
    record { was = x; at = refl; closed = subst IsClosed is; closes = subst IsClosed (sym is) }
was_at (x ∷ es) (suc m) p s (suc k) e at = let w = was_at es m p s k e at in record { was = w.was; at = w.at; closed = w.closed; closes = w.closes }

pub closes_put : (closed : Bool) (es : List MessageEnd) (m p : ℕ) (s : SegmentEnd) → Closes closed es → Closes closed (put es m p s)
closes_put closed es m p s c = record {
  stays = λ j k d e low at there is.
      let a = was_at es m p s j d at in
      let b = was_at es m p s k e there in
      b.closed (c.stays j k a.was b.was low a.at b.at (a.closes is));
  open_yet = λ off k e at is. let a = was_at es m p s k e at in c.open_yet off k a.was a.at (a.closes is);
}

pub closes_none : (closed : Bool) → Closes closed []
closes_none closed = record { stays = λ j k d e low at there is. absurd (cc); open_yet = λ off k e at is. absurd (cc) }

-- the bind may be closed by now
pub closes_stays : (old new : Bool) (es : List MessageEnd) → (IsTrue old → IsTrue new) → Closes old es → Closes new es
closes_stays true new es stays c = record { stays = c.stays; open_yet = λ off k e at is. absurd (let on = stays refl in cc) }
closes_stays false new es stays c = record { stays = c.stays; open_yet = λ off k e at is. c.open_yet refl k e at is }

-- one message more, which is refused so exactly where the bind is closed
stays_more : (closed : Bool) (es : List MessageEnd) (x : MessageEnd) → Closes closed es → (IsClosed x → closed ≡ true) → (closed ≡ true → IsClosed x) → StaysClosed (es ++ x ∷ [])
stays_more true es x c came goes j k d e low at there is =
    elim (got_of_append es x k e there) [
      | inl h ↦ elim (got_of_append es x j d at) [ inl g ↦ c.stays j k d e low g h is | inr g ↦ (let n = g.0 in let m = get_low es k e h in absurd (omega arith)) ]
      | inr h ↦ subst IsClosed (sym h.1) (goes refl)
    ]
stays_more false es x c came goes j k d e low at there is =
    elim (got_of_append es x j d at) [
      | inl g ↦ absurd (c.open_yet refl j d g is)
      | inr g ↦ (let no : false ≡ true = came (subst IsClosed g.1 is) in absurd (cc))
    ]

pub closes_more : (closed : Bool) (es : List MessageEnd) (x : MessageEnd) → Closes closed es → (IsClosed x → closed ≡ true) → (closed ≡ true → IsClosed x) → Closes closed (es ++ x ∷ [])
closes_more true es x c came goes = record { stays = stays_more true es x c came goes; open_yet = λ off k e at is. absurd (cc) }
closes_more false es x c came goes = record {
  stays = stays_more false es x c came goes;
  open_yet = λ off k e at is. elim (got_of_append es x k e at) [ inl h ↦ c.open_yet refl k e h is | inr h ↦ (let no : false ≡ true = came (subst IsClosed h.1 is) in absurd (cc)) ];
}

-- where both stay, their disjunction does
pub shut_stays : (closed closed' stop stop' : Bool) → (IsTrue closed → IsTrue closed') → (IsTrue stop → IsTrue stop') → IsTrue (closed || stop) → IsTrue (closed' || stop')
shut_stays true true stop stop' a b on = refl
shut_stays true false stop stop' a b on = absurd (let e = a refl in cc)
shut_stays false true stop stop' a b on = refl
shut_stays false false stop stop' a b on = b on

pub not_shut : (closed stop : Bool) → (closed ≡ false) × (stop ≡ false) → (closed || stop) ≡ false
not_shut true stop (e, f) = absurd (cc)
not_shut false stop (e, f) = f

-- why no further message began, where the bind wasn't closed
pub stopped_so : (turns : ℕ) (mark : DownMark) (ms : List Message) (refusal : Option NotBegun) → IsRefusedOf ms refusal → IsSeen turns mark ms (stopped_by refusal) None
stopped_so turns mark ms None of = tt
stopped_so turns mark ms (Some refusal) of = of
