use Rattle.std.proofs.Common.{◌++◌, ◌∙◌, ap, List, ℕ}
use Rattle.sms_pdu.proofs.encoding.encode_into.Goals as goal

pub returns-clause-spelled : goal.returns-clause-spelled
returns-clause-spelled c =
    let added = c.put_pdu.ensures in
    record { octets = added.octets; spelled = added.spelled; behind = added.behind ∙ ap (λ (x : List ℕ). x ++ added.octets) c.in_ok-reserve.ensures.items }
