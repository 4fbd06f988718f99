-- The words of the standard's example.
use Rattle.std.proofs.Common.{◌≡◌, ℕ, Bool, true, false, List, [], ◌∷◌, ◌++◌, refl, ap, ◌∙◌}
use Rattle.std.specs.Prelude.{codes, if◌then◌else◌}
use Rattle.sms_inbox.specs.ReceiptLaws.{AreOneWord, AreWords, Fields, MessagesSayNothing, ReceiptsAreRead, standard_text}
use Rattle.sms_inbox.specs.Receipt.{text_of}
use Rattle.sms_inbox.specs.Words.{before_text, field_of, is_blank, put, said, words}

words_front : (w rest : List ℕ) → AreOneWord w → words (w ++ 32 ∷ rest) ≡ w ∷ words rest
words_front [] rest h = refl
words_front (c ∷ w) rest h = here (is_blank c) h.0 (words_front w rest h.1)
  where
    here : (b : Bool) → b ≡ false → words (w ++ 32 ∷ rest) ≡ w ∷ words rest → (if b then [] ∷ words (w ++ 32 ∷ rest) else put c (words (w ++ 32 ∷ rest))) ≡ (c ∷ w) ∷ words rest
    here true e later = absurd (cc)
    here false e later = ap (put c) later

joined : (a b : List ℕ) → AreOneWord a → AreOneWord b → AreOneWord (a ++ b)
joined [] b ha hb = hb
joined (c ∷ a) b ha hb = (ha.0, joined a b ha.1 hb)

-- a text has a first word
record HasFirst (text : List ℕ) : Type 0 where
  pub word : List ℕ
  pub others : List (List ℕ)
  pub is : words text ≡ word ∷ others

has_first : (text : List ℕ) → HasFirst text
has_first [] = record { word = []; others = []; is = refl }
has_first (c ∷ cs) = here (is_blank c) refl (has_first cs)
  where
    here : (b : Bool) → is_blank c ≡ b → HasFirst cs → HasFirst (c ∷ cs)
    here true e f = record { word = []; others = words cs; is = ap (λ (b : Bool). if b then [] ∷ words cs else put c (words cs)) e }
    here false e f = record { word = c ∷ f.word; others = f.others; is = ap (λ (b : Bool). if b then [] ∷ words cs else put c (words cs)) e ∙ ap (put c) f.is }

-- the words of the standard's example, where these are the text's own
abbrev example_words : Fields → List ℕ → List (List ℕ) → List (List ℕ)
example_words f word others =
    (codes "id:" ++ f.id) ∷ (codes "sub:" ++ f.sub) ∷ (codes "dlvrd:" ++ f.dlvrd) ∷ codes "submit" ∷ (codes "date:" ++ f.submitted)
    ∷ codes "done" ∷ (codes "date:" ++ f.done) ∷ (codes "stat:" ++ f.stat) ∷ (codes "err:" ++ f.err) ∷ (codes "Text:" ++ word) ∷ others

text_words : (text : List ℕ) (h : HasFirst text) → words (codes "Text:" ++ text) ≡ (codes "Text:" ++ h.word) ∷ h.others
text_words text h = ap (λ (ws : List (List ℕ)). put 84 (put 101 (put 120 (put 116 (put 58 ws))))) h.is

split : (f : Fields) (text : List ℕ) → AreWords f → (h : HasFirst text) → words (standard_text f text) ≡ example_words f h.word h.others
split f text are h =
    let X9 = codes "Text:" ++ text in
    let X8 = (codes "err:" ++ f.err) ++ 32 ∷ X9 in
    let X7 = (codes "stat:" ++ f.stat) ++ 32 ∷ X8 in
    let X6 = (codes "date:" ++ f.done) ++ 32 ∷ X7 in
    let X5 = codes "done" ++ 32 ∷ X6 in
    let X4 = (codes "date:" ++ f.submitted) ++ 32 ∷ X5 in
    let X3 = codes "submit" ++ 32 ∷ X4 in
    let X2 = (codes "dlvrd:" ++ f.dlvrd) ++ 32 ∷ X3 in
    let X1 = (codes "sub:" ++ f.sub) ++ 32 ∷ X2 in
    let w0 = words_front (codes "id:" ++ f.id) X1 (refl, (refl, (refl, are.id))) in
    let w1 = words_front (codes "sub:" ++ f.sub) X2 (refl, (refl, (refl, (refl, are.sub)))) in
    let w2 = words_front (codes "dlvrd:" ++ f.dlvrd) X3 (refl, (refl, (refl, (refl, (refl, (refl, are.dlvrd)))))) in
    let w3 = words_front (codes "submit") X4 (refl, (refl, (refl, (refl, (refl, (refl, tt)))))) in
    let w4 = words_front (codes "date:" ++ f.submitted) X5 (refl, (refl, (refl, (refl, (refl, are.submitted))))) in
    let w5 = words_front (codes "done") X6 (refl, (refl, (refl, (refl, tt)))) in
    let w6 = words_front (codes "date:" ++ f.done) X7 (refl, (refl, (refl, (refl, (refl, are.done))))) in
    let w7 = words_front (codes "stat:" ++ f.stat) X8 (refl, (refl, (refl, (refl, (refl, are.stat))))) in
    let w8 = words_front (codes "err:" ++ f.err) X9 (refl, (refl, (refl, (refl, are.err)))) in
    let w9 = text_words text h in
    w0 ∙ ap (λ (l : List (List ℕ)). (codes "id:" ++ f.id) ∷ l)
    (w1 ∙ ap (λ (l : List (List ℕ)). (codes "sub:" ++ f.sub) ∷ l)
    (w2 ∙ ap (λ (l : List (List ℕ)). (codes "dlvrd:" ++ f.dlvrd) ∷ l)
    (w3 ∙ ap (λ (l : List (List ℕ)). codes "submit" ∷ l)
    (w4 ∙ ap (λ (l : List (List ℕ)). (codes "date:" ++ f.submitted) ∷ l)
    (w5 ∙ ap (λ (l : List (List ℕ)). codes "done" ∷ l)
    (w6 ∙ ap (λ (l : List (List ℕ)). (codes "date:" ++ f.done) ∷ l)
    (w7 ∙ ap (λ (l : List (List ℕ)). (codes "stat:" ++ f.stat) ∷ l)
    (w8 ∙ ap (λ (l : List (List ℕ)). (codes "err:" ++ f.err) ∷ l) w9))))))))

read_of : (key : List ℕ) (f : Fields) (text : List ℕ) → AreWords f → (h : HasFirst text) → field_of key (standard_text f text) ≡ said key (before_text (example_words f h.word h.others))
read_of key f text are h = ap (λ (ws : List (List ℕ)). said key (before_text ws)) (split f text are h)

pub receipts_read : ReceiptsAreRead
receipts_read f text are =
    let h = has_first text in
    record { id = read_of (codes "id:") f text are h; stat = read_of (codes "stat:") f text are h; err = read_of (codes "err:") f text are h }

pub messages_say_nothing : MessagesSayNothing
messages_say_nothing sm key e = ap (λ (b : Bool). if b then field_of key (text_of sm) else []) e
