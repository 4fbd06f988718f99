use Rattle.std.proofs.Common.{◌≡◌, ◌↔◌, IsTrue, ℕ, Bool, true, false, List, [], ◌∷◌, length, inl, inr, refl, sym, ap, ◌∙◌, subst, rules, arith, true≢false}
use Rattle.std.specs.Prelude.{◌==◌}
use Rattle.sms_message.specs.Addresses.{Address, IsNumber, IsName, IsSource, as_number}
use Rattle.sms_message.proofs.address.source.Goals as goal

never : (b : Bool) → b ≡ false → IsTrue b → ⊥
never true fails holds = true≢false fails
never false fails holds = true≢false (sym holds)

none : (t : List ℕ) (b : Bool) → b ≡ (length t == 0) → b ≡ true → t ≡ []
none [] b is holds = refl
none (x ∷ t) b is holds = let e : length (x ∷ t) ≡ 0 = search rules in absurd (omega arith)

some : (t : List ℕ) (b : Bool) → b ≡ (length t == 0) → b ≡ false → t ≡ [] → ⊥
some [] b is fails e = true≢false (sym is ∙ fails)
some (x ∷ t) b is fails e = cc

abbrev sent : ℕ → ℕ → List ℕ → Address
sent ton npi octets = record { ton = ton; npi = npi; octets = octets }

number_is : (l t : List ℕ) (b : Bool) (a : Address) → t ≡ l → (IsTrue b ↔ IsNumber t) → b ≡ true → a ≡ as_number t → IsSource l a
number_is l t b a same number holds is = subst (λ (x : List ℕ). IsSource x a) same (inl (number.0 holds, is))

nothing_is : (l t : List ℕ) → t ≡ l → t ≡ [] → IsSource l (record { ton = 0; npi = 0; octets = t })
nothing_is l t same e = subst (λ (x : List ℕ). IsSource x (record { ton = 0; npi = 0; octets = t })) same (inr (inl (e, ap (λ (o : List ℕ). sent 0 0 o) e)))

name_is : (l t : List ℕ) (n b : Bool) → t ≡ l → (IsTrue n ↔ IsNumber t) → n ≡ false → (IsTrue b ↔ IsName t) → b ≡ true → IsSource l (record { ton = 5; npi = 0; octets = t })
name_is l t n b same number fails name holds = subst (λ (x : List ℕ). IsSource x (record { ton = 5; npi = 0; octets = t })) same (inr (inr (name.0 holds, (λ h. never n fails (number.1 h)), refl)))

none_is : (l t : List ℕ) (n b : Bool) → t ≡ l → (IsTrue n ↔ IsNumber t) → n ≡ false → (t ≡ [] → ⊥) → (IsTrue b ↔ IsName t) → b ≡ false → (a : Address) → IsSource l a → ⊥
none_is l t n b same number fails filled name unnamed a is = elim (subst (λ (x : List ℕ). IsSource x a) (sym same) is) [
  | inl h ↦ never n fails (number.1 h.0)
  | inr h ↦ elim h [
    | inl e ↦ filled e.0
    | inr s ↦ never b unnamed (name.1 s.0)
  ]
]

pub returns-then-is_number-clause-good : goal.returns-then-is_number-clause-good
returns-then-is_number-clause-good c = number_is c.args.text.now c.as_bytes-text.result.now c.is_number.result _ c.as_bytes-text.ensures.value c.is_number.ensures c.if-is_number.true c.number.ensures

pub returns-then-is_number-clause-bad : goal.returns-then-is_number-clause-bad
returns-then-is_number-clause-bad c = λ e a is. true≢false e

pub returns-then-is_empty-clause-good : goal.returns-then-is_empty-clause-good
returns-then-is_empty-clause-good c =
    let t = c.as_bytes-text.result.now in
    nothing_is c.args.text.now t c.as_bytes-text.ensures.value (none t c.is_empty.result c.is_empty.ensures c.if-is_empty.true)

pub returns-then-is_empty-clause-bad : goal.returns-then-is_empty-clause-bad
returns-then-is_empty-clause-bad c = λ e a is. true≢false e

pub returns-then-is_name-clause-good : goal.returns-then-is_name-clause-good
returns-then-is_name-clause-good c =
    name_is c.args.text.now c.as_bytes-text.result.now c.is_number.result c.is_name.result c.as_bytes-text.ensures.value c.is_number.ensures c.if-is_number.false c.is_name.ensures c.if-is_name.true

pub returns-then-is_name-clause-bad : goal.returns-then-is_name-clause-bad
returns-then-is_name-clause-bad c = λ e a is. true≢false e

pub returns-clause-bad : goal.returns-clause-bad
returns-clause-bad c =
    let t = c.as_bytes-text.result.now in
    let filled = some t c.is_empty.result c.is_empty.ensures c.if-is_empty.false in
    λ e. none_is c.args.text.now t c.is_number.result c.is_name.result c.as_bytes-text.ensures.value c.is_number.ensures c.if-is_number.false filled c.is_name.ensures c.if-is_name.false
