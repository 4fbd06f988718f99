use Rattle.std.proofs.Common.{◌≡◌, ◌++◌, ◌∙◌, sym, ap, List, ℕ, Some, None, rules}
use Rattle.sms_journal.specs.Heads.{head_in}
use Rattle.sms_journal.specs.Text.{header_text}
use Rattle.sms_journal.proofs.Heads.{are_digests, no_head, one_head, other_head}
use Rattle.sms_journal.proofs.text.header_fields.read_head.Goals as goal

pub returns-in_default : goal.returns-in_default
returns-in_default c = λ kind digests behind are is.
    let none : head_in c.args.text.now ≡ None = search rules in
    no_head c.args.text.now kind digests behind none are is

pub returns-in-Some-behind : goal.returns-in-Some-behind
returns-in-Some-behind c =
    let kind = c.in-Some.kind in
    let digests = c.in-Some.digests in
    let read : head_in c.args.text.now ≡ Some (kind, digests) = search rules in
    let header : c.as_bytes.result.now ≡ header_text kind digests = search rules in
    (are_digests c.args.text.now kind digests read, c.in-Some-behind.ensures ∙ ap (λ (l : List ℕ). l ++ c.in-Some-behind.rest.now) header)

pub returns-in-None : goal.returns-in-None
returns-in-None c = λ other others behind are is.
    let kind = c.in-Some.kind in
    let digests = c.in-Some.digests in
    let read : head_in c.args.text.now ≡ Some (kind, digests) = search rules in
    let header : c.as_bytes.result.now ≡ header_text kind digests = search rules in
    let same = one_head c.args.text.now kind other digests others behind read are is in
    c.in-None.ensures behind (is ∙ ap (λ (l : List ℕ). l ++ behind) (other_head kind other digests others same.0 same.1 ∙ sym header))
