-- Lines that are read.
use Rattle.std.proofs.Common.{◌≡◌, ℕ, ◌+◌, ◌<◌, List, [], ◌∷◌, ◌++◌, length, Some, None, refl, sym, ap, ◌∙◌, arith, append-nil, append_assoc, length-append}
use Rattle.sms_inbox.specs.declared.record.Record.{Record}
use Rattle.sms_inbox.specs.Fields.{record_in}
use Rattle.sms_inbox.specs.Lines.{AreLines, BeginsWith, HasNoFeed, IsLineOf, IsNoLine, IsUnreadAt, Spells}
use Rattle.sms_inbox.specs.Record.{record_text}
use Rattle.sms_inbox.proofs.Cuts.{record_found}

found : (line : List ℕ) (r : Record) → IsLineOf line r → record_in line ≡ Some r
found line r l = ap record_in l.is ∙ record_found r l.good

pub no_record : (line : List ℕ) (r : Record) → IsLineOf line r → record_in line ≡ None → ⊥
no_record line r l none = let bad : Some r ≡ None = sym (found line r l) ∙ none in absurd (cc)

-- so it is written as what was read
pub written_again : (line : List ℕ) (r x : Record) → IsLineOf line r → record_in line ≡ Some x → record_text x ≡ line
written_again line r x l told =
    let b : Some r ≡ Some x = sym (found line r l) ∙ told in
    let same : r ≡ x = cc in
    ap record_text (sym same) ∙ sym l.is

-- two records don't have one line
pub line_once : (line : List ℕ) (r x : Record) → IsLineOf line r → IsLineOf line x → r ≡ x
line_once line r x l m = let b : Some r ≡ Some x = sym (found line r l) ∙ found line x m in cc

pub lines_more : (lines line : List ℕ) (rs : List Record) (r : Record) → AreLines lines rs → IsLineOf line r → AreLines (lines ++ line) (rs ++ r ∷ [])
lines_more lines line [] r are here = (line, [], ap (λ (l : List ℕ). l ++ line) are ∙ sym (append-nil line), here, refl)
lines_more lines line (x ∷ rs) r are here =
    (are.0, are.1 ++ line, ap (λ (l : List ℕ). l ++ line) are.2 ∙ append_assoc are.0 are.1 line, are.3, lines_more are.1 line rs r are.4 here)

-- ---- what a reader has read so far

pub record IsReadTo (text left : List ℕ) (rs : List Record) : Type 0 where
  pub lines : List ℕ
  pub is : text ≡ lines ++ left
  pub are : AreLines lines rs

pub none_read : (text : List ℕ) (rs : List Record) → rs ≡ [] → IsReadTo text text rs
none_read text [] is = record { lines = []; is = refl; are = refl }
none_read text (r ∷ rs) is = absurd (cc)

pub one_more : (text left line rest : List ℕ) (rs more : List Record) (r : Record) → IsReadTo text left rs → BeginsWith line rest left → IsLineOf line r → more ≡ rs ++ r ∷ [] → IsReadTo text rest more
one_more text left line rest rs more r so begins here is =
    let so_far : IsReadTo text rest (rs ++ r ∷ []) = record {
      lines = so.lines ++ line;
      is = so.is ∙ ap (λ (l : List ℕ). so.lines ++ l) begins.is ∙ sym (append_assoc so.lines line rest);
      are = lines_more so.lines line rs r so.are here;
    } in
    rw is so_far

pub fewer : (left line rest : List ℕ) → BeginsWith line rest left → length rest < length left
fewer left line rest begins = omega (arith, ap length begins.is, length-append line rest, ap length begins.one.is, length-append begins.one.body (10 ∷ []))

pub unread_at : (text left line rest : List ℕ) (place : ℕ) (rs : List Record) → IsReadTo text left rs → BeginsWith line rest left → IsNoLine line → place ≡ length rs + 1 → IsUnreadAt place text
unread_at text left line rest place rs so begins none counted =
    record { records = rs; lines = so.lines; left = left; line = line; rest = rest; counted = counted; is = so.is; are = so.are; begins = begins; unread = none }

pub all_read : (text left : List ℕ) (rs : List Record) → IsReadTo text left rs → HasNoFeed left → Spells text rs
all_read text left rs so none = record { lines = so.lines; cut = left; is = so.is; are = so.are; unended = none }
