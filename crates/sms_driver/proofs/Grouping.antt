-- What all workers received, bind by bind.
use Rattle.std.proofs.Common.{◌≡◌, ◌+◌, ◌<◌, ◌++◌, ℕ, zero, suc, List, [], ◌∷◌, length, map, refl, sym, ap, ◌∙◌, Option, subst, arith}
use Rattle.std.proofs.lemmas.List.{length-map}
use Rattle.std.specs.Prelude.{take, drop}
use Rattle.std.specs.List.{AllByRecursion, AllZip}
use Rattle.std.specs.declared.alloc.Global.{Global}
use Rattle.rtrb.specs.declared.AnyItems.{AnyItems}
use Rattle.rtrb.specs.declared.producer.Producer.{Producer}
use Rattle.rtrb.specs.declared.consumer.Consumer.{Consumer}
use Rattle.rtrb.specs.Ring.{IsPair, SameProducer, SameConsumer, sent, received}
use Rattle.sms_pdu.specs.declared.command.Mode.{Mode}
use Rattle.sms_pdu.specs.declared.reply.Reply.{Reply}
use Rattle.sms_bind.specs.declared.ending.ReaderEnd.{ReaderEnd}
use Rattle.sms_worker.specs.Types.{MessageEnd}
use Rattle.sms_driver.specs.declared.binding.binds.SharedBind.{SharedBind}
use Rattle.sms_driver.specs.declared.binding.binds.BindParts.{BindParts}
use Rattle.sms_driver.specs.Answered.{Hears, IsHeard, ends_at, AreHeard}
use Rattle.sms_driver.specs.Reads.{HasRead, AreOpened, reading_in}
use Rattle.sms_driver.specs.Rings.{flat, IsNewPair}
use Rattle.sms_worker.specs.Rests.{HasReceived}
use Rattle.sms_driver.specs.Seated.{consumers_of, IsSeated}
use Rattle.sms_driver.proofs.Answering.{bind_is_heard}

module _ {A B : Type 0} (R : A → B → Type 0) where
  pub zip_length : (xs : List A) (ys : List B) → AllZip R xs ys → length ys ≡ length xs
  zip_length [] [] z = refl
  zip_length [] (y ∷ ys) z = absurd z
  zip_length (x ∷ xs) [] z = absurd z
  zip_length (x ∷ xs) (y ∷ ys) z = ap suc (zip_length xs ys z.1)

  -- the first of the one go with as many of the other
  pub zip_front : (n : ℕ) (xs rest : List A) (ys : List B) → length xs ≡ n → AllZip R (xs ++ rest) ys → AllZip R xs (take n ys)
  zip_front zero [] rest ys e z = tt
  zip_front (suc n) [] rest ys e z = absurd (omega arith)
  zip_front zero (x ∷ xs) rest ys e z = absurd (omega arith)
  zip_front (suc n) (x ∷ xs) rest [] e z = absurd z
  zip_front (suc n) (x ∷ xs) rest (y ∷ ys) e z = (z.0, zip_front n xs rest ys (omega arith) z.1)

  pub zip_back : (n : ℕ) (xs rest : List A) (ys : List B) → length xs ≡ n → AllZip R (xs ++ rest) ys → AllZip R rest (drop n ys)
  zip_back zero [] rest ys e z = z
  zip_back (suc n) [] rest ys e z = absurd (omega arith)
  zip_back zero (x ∷ xs) rest ys e z = absurd (omega arith)
  zip_back (suc n) (x ∷ xs) rest [] e z = absurd z
  zip_back (suc n) (x ∷ xs) rest (y ∷ ys) e z = zip_back n xs rest ys (omega arith) z.1

  pub zip_take : (n : ℕ) (xs : List A) (ys : List B) → AllZip R xs ys → AllZip R (take n xs) (take n ys)
  zip_take zero xs ys z = tt
  zip_take (suc n) [] [] z = tt
  zip_take (suc n) [] (y ∷ ys) z = absurd z
  zip_take (suc n) (x ∷ xs) [] z = absurd z
  zip_take (suc n) (x ∷ xs) (y ∷ ys) z = (z.0, zip_take n xs ys z.1)

  pub zip_drop : (n : ℕ) (xs : List A) (ys : List B) → AllZip R xs ys → AllZip R (drop n xs) (drop n ys)
  zip_drop zero xs ys z = z
  zip_drop (suc n) [] [] z = tt
  zip_drop (suc n) [] (y ∷ ys) z = absurd z
  zip_drop (suc n) (x ∷ xs) [] z = absurd z
  zip_drop (suc n) (x ∷ xs) (y ∷ ys) z = zip_drop n xs ys z.1

-- element by element
pub zip_of_all : {D C E : Type 0} (c : D → C) (e : D → E) (P : C → E → Type 0) (ds : List D) → AllByRecursion (λ d. P (c d) (e d)) ds → AllZip P (map c ds) (map e ds)
zip_of_all c e P [] a = tt
zip_of_all c e P (d ∷ ds) a = (a.0, zip_of_all c e P ds a.1)

-- of lists that go together, one after another
AllZip-append : {A B : Type 0} (R : A → B → Type 0) (xs us : List A) (ys vs : List B) → AllZip R xs ys → AllZip R us vs → AllZip R (xs ++ us) (ys ++ vs)
AllZip-append R [] us [] vs p q = q
AllZip-append R [] us (y ∷ ys) vs p q = absurd p
AllZip-append R (x ∷ xs) us [] vs p q = absurd p
AllZip-append R (x ∷ xs) us (y ∷ ys) vs p q = (p.0, AllZip-append R xs us ys vs p.1 q)

pub flat_zip : {A B E D : Type 0} (f : E → List A) (g : D → List B) (R : A → B → Type 0) (es : List E) (ds : List D) → AllZip (λ e d. AllZip R (f e) (g d)) es ds → AllZip R (flat (map f es)) (flat (map g ds))
flat_zip f g R [] [] z = tt
flat_zip f g R [] (d ∷ ds) z = absurd z
flat_zip f g R (e ∷ es) [] z = absurd z
flat_zip f g R (e ∷ es) (d ∷ ds) z = AllZip-append R (f e) (flat (map f es)) (g d) (flat (map g ds)) z.0 (flat_zip f g R es ds z.1)

-- the ends of one ring stay so, whatever passed through it
one_pair : {T A P : Type 0} (p p' : Producer T A P) (c c' : Consumer T A P) → IsPair p c → SameProducer p p' → SameConsumer c c' → IsPair p' c'
one_pair p p' c c' n s r = (r.0.0 ∙ n.0 ∙ sym s.0.0, r.0.1 ∙ n.1 ∙ sym s.0.1, r.0.2 ∙ n.2 ∙ sym s.0.2, r.0.3 ∙ n.3 ∙ sym s.0.3)

pub pairs_kept : {T A P : Type 0} (ps ps' : List (Producer T A P)) (cs cs' : List (Consumer T A P)) → AllZip IsNewPair ps cs → AllZip SameProducer ps ps' → AllZip SameConsumer cs cs' → AllZip IsPair ps' cs'
pairs_kept [] [] [] [] n s r = tt
pairs_kept [] [] [] (c' ∷ cs') n s r = absurd r
pairs_kept [] [] (c ∷ cs) cs' n s r = absurd n
pairs_kept [] (p' ∷ ps') cs cs' n s r = absurd s
pairs_kept (p ∷ ps) ps' [] cs' n s r = absurd n
pairs_kept (p ∷ ps) [] (c ∷ cs) cs' n s r = absurd s
pairs_kept (p ∷ ps) (p' ∷ ps') (c ∷ cs) [] n s r = absurd r
pairs_kept (p ∷ ps) (p' ∷ ps') (c ∷ cs) (c' ∷ cs') n s r = (one_pair p p' c c' n.0.0 s.0 r.0, pairs_kept ps ps' cs cs' n.1 s.1 r.1)

-- all rings of the binds' parts are new pairs
pub seated_pairs : {N W Rd : Type 0} (workers : ℕ) (bs : List (SharedBind N W)) (parts : List (BindParts Rd)) → AllZip (IsSeated workers) bs parts
    → AllZip IsNewPair (flat (map (λ p. p.producers.items) parts)) (flat (map consumers_of parts))
seated_pairs workers [] [] z = tt
seated_pairs workers [] (p ∷ parts) z = absurd z
seated_pairs workers (b ∷ bs) [] z = absurd z
seated_pairs workers (b ∷ bs) (p ∷ parts) z = AllZip-append IsNewPair p.producers.items _ (consumers_of p) _ z.0.pairs (seated_pairs workers bs parts z.1)

none_sent : {T A P : Type 0} (ps : List (Producer T A P)) (cs : List (Consumer T A P)) → AllZip IsNewPair ps cs → AllByRecursion (λ p. sent p ≡ []) ps
none_sent [] [] z = tt
none_sent [] (c ∷ cs) z = absurd z
none_sent (p ∷ ps) [] z = absurd z
none_sent (p ∷ ps) (c ∷ cs) z = (z.0.1, none_sent ps cs z.1)

-- what was read of each bind with so many workers was received by them
module _ {N W Rd : Type 0} (turns : ℕ) (remaining : Rd → Option (List ℕ)) (mode : Mode) (told : ℕ → Option (List ℕ)) (workers : ℕ) where
  heard_from : (place : ℕ) (bs : List (SharedBind N W)) (parts : List (BindParts Rd)) (rs : List ReaderEnd) (cs : List (Consumer Reply Global AnyItems)) (ess : List (List MessageEnd)) → AreOpened remaining mode told place parts
      → AllZip (IsSeated workers) bs parts → AllZip (HasRead turns remaining) (map reading_in parts) rs → AllZip HasReceived (flat (map (λ d. d.producers.items) rs)) cs → AllZip (λ c es. Hears (received c) es) cs ess
      → (bind : ℕ) → bind < length parts → IsHeard (told (place + bind)) (ends_at workers bind ess)
  heard_from place [] [] rs cs ess o s z r h bind low = absurd (omega (arith, low))
  heard_from place [] (p ∷ parts) rs cs ess o s z r h bind low = absurd s
  heard_from place (b ∷ bs) [] rs cs ess o s z r h bind low = absurd s
  heard_from place (b ∷ bs) (p ∷ parts) [] cs ess o s z r h bind low = absurd z
  heard_from place (b ∷ bs) (p ∷ parts) (d ∷ rs) cs ess o s z r h zero low =
      let ps = d.producers.items in
      let others = flat (map (λ (d : ReaderEnd). d.producers.items) rs) in
      let l = zip_length SameProducer p.producers.items ps z.0.same in
      let m = zip_length IsNewPair p.producers.items (consumers_of p) s.0.pairs in
      let long : length ps ≡ workers = l ∙ sym m ∙ length-map p.workers.items (λ w. w.consumer) ∙ s.0.all in
      let same : place ≡ place + 0 = omega arith in
      subst (λ (n : ℕ). IsHeard (told n) (take workers ess)) same
      (bind_is_heard turns remaining mode (told place) (reading_in p) d (take workers cs) (take workers ess) o.0 (none_sent p.producers.items (consumers_of p) s.0.pairs) z.0 (zip_front HasReceived workers ps others cs long r) (zip_take (λ c es. Hears (received c) es) workers cs ess h))
  heard_from place (b ∷ bs) (p ∷ parts) (d ∷ rs) cs ess o s z r h (suc bind) low =
      let ps = d.producers.items in
      let others = flat (map (λ (d : ReaderEnd). d.producers.items) rs) in
      let l = zip_length SameProducer p.producers.items ps z.0.same in
      let m = zip_length IsNewPair p.producers.items (consumers_of p) s.0.pairs in
      let long : length ps ≡ workers = l ∙ sym m ∙ length-map p.workers.items (λ w. w.consumer) ∙ s.0.all in
      let same : (place + 1) + bind ≡ place + suc bind = omega arith in
      let later = heard_from (place + 1) bs parts rs (drop workers cs) (drop workers ess) o.1 s.1 z.1 (zip_back HasReceived workers ps others cs long r) (zip_drop (λ c es. Hears (received c) es) workers cs ess h) bind (omega (arith, low)) in
      subst (λ (n : ℕ). IsHeard (told n) (ends_at workers (suc bind) ess)) same later

  pub are_heard : (bs : List (SharedBind N W)) (parts : List (BindParts Rd)) (rs : List ReaderEnd) (cs : List (Consumer Reply Global AnyItems)) (ess : List (List MessageEnd)) → AreOpened remaining mode told 0 parts
      → AllZip (IsSeated workers) bs parts → AllZip (HasRead turns remaining) (map reading_in parts) rs → AllZip HasReceived (flat (map (λ d. d.producers.items) rs)) cs → AllZip (λ c es. Hears (received c) es) cs ess → AreHeard told (length parts) workers ess
  are_heard bs parts rs cs ess o s z r h bind low = let same : 0 + bind ≡ bind = omega arith in subst (λ (n : ℕ). IsHeard (told n) (ends_at workers bind ess)) same (heard_from 0 bs parts rs cs ess o s z r h bind low)
