-- What was written of the wires that came back.
use Rattle.std.proofs.Common.{◌≡◌, ◌++◌, ◌+◌, ℕ, List, [], ◌∷◌, map, Option, refl, sym, ap, ◌∙◌, append-nil, append_assoc, length-append}
use Rattle.std.proofs.lemmas.List.{map-append}
use Rattle.sms_pdu.proofs.Fronts.{AllByRecursion-append}
use Rattle.sms_session.specs.Settings.{Setting}
use Rattle.sms_driver.specs.Handed.{AreWritten, IsWritten, WireEnd}
use Rattle.sms_driver.specs.Rings.{flat}
use Rattle.sms_driver.proofs.Moves.{flat-append}

-- no wire
pub none_written : (settings : Option Setting) (given : List (List ℕ)) → AreWritten settings 0 given given
none_written settings given = record { wires = []; all = refl; each = tt; given = sym (append-nil given) }

-- one wire
pub one_written : (settings : Option Setting) (end : WireEnd) (old new : List (List ℕ)) → IsWritten settings end → new ≡ old ++ end.log → AreWritten settings 1 old new
one_written settings end old new is more = record { wires = end ∷ []; all = refl; each = (is, tt); given = more ∙ ap (λ l. old ++ l) (sym (append-nil end.log)) }

-- some wires, and then others
pub written_more : (settings : Option Setting) (n m k : ℕ) (old between new : List (List ℕ)) → k ≡ n + m → AreWritten settings n old between → AreWritten settings m between new → AreWritten settings k old new
written_more settings n m k old between new all p q =
    let log = λ (w : WireEnd). w.log in
    let logs : flat (map log (p.wires ++ q.wires)) ≡ flat (map log p.wires) ++ flat (map log q.wires) = ap flat (map-append log p.wires q.wires) ∙ flat-append (map log p.wires) (map log q.wires) in
    record {
      wires = p.wires ++ q.wires;
      all = length-append p.wires q.wires ∙ (λ i. p.all i + q.all i) ∙ sym all;
      each = AllByRecursion-append (IsWritten settings) p.wires q.wires p.each q.each;
      given = q.given ∙ ap (λ l. l ++ flat (map log q.wires)) p.given ∙ append_assoc old (flat (map log p.wires)) (flat (map log q.wires)) ∙ ap (λ l. old ++ l) (sym logs);
    }
