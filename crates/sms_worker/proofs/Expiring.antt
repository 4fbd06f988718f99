-- Looks at open requests, one more at a time.
use Rattle.std.proofs.Common.{◌≡◌, ℕ, zero, suc, ◌+◌, Bool, true, inl, inr, ap, ◌∙◌, subst, arith}
use Rattle.sms_worker.specs.Expiry.{AreLooks, Expires, ExpiresAt, IsToExpire}
use Rattle.sms_worker.specs.RunState.{RunState}

module _ (down : Bool) (limit now n before count : ℕ) (was any : Bool) (a b c : RunState) (looks : AreLooks down limit now n before was a b) (due : IsToExpire down limit now before b) where
  pub expired_more : ExpiresAt before b c × (count ≡ before) → any ≡ true → AreLooks down limit now (n + 1) count any a c
  expired_more (gone, same) some =
      let next : suc n ≡ n + 1 = omega arith in
      subst (λ k. AreLooks down limit now k count any a c) next (b, before, was, looks, due, inl (gone, same, some))

  pub left_more : (c ≡ b) × (count ≡ before + 1) → any ≡ was → AreLooks down limit now (n + 1) count any a c
  left_more (same, more) still =
      let next : suc n ≡ n + 1 = omega arith in
      subst (λ k. AreLooks down limit now k count any a c) next (b, before, was, looks, due, inr (same, more, still))

-- looks leave it as it was whether the bind is closed
looks_stay : (down : Bool) (limit now n count : ℕ) (any : Bool) (a b : RunState) → AreLooks down limit now n count any a b → b.closed ≡ a.closed
looks_stay down limit now zero count any a b (none, quiet, same) = ap (λ (x : RunState). x.closed) same
looks_stay down limit now (suc n) count any a b (mid, before, was, looks, due, inl (gone, same, some)) = ap (λ (x : RunState). x.closed) gone.now ∙ looks_stay down limit now n before was a mid looks
looks_stay down limit now (suc n) count any a b (mid, before, was, looks, due, inr (same, more, still)) = ap (λ (x : RunState). x.closed) same ∙ looks_stay down limit now n before was a mid looks

pub expires_closed : (limit now : ℕ) (down any : Bool) (answered : ℕ) (a b : RunState) → Expires limit now down any answered a b → b.closed ≡ a.closed
expires_closed limit now down any answered a b e = looks_stay down limit now e.looks answered any a b e.each
