use Rattle.std.proofs.Common.{rules, [], ◌++◌}
use Rattle.std.proofs.Output.{has_written_append, has_written_of_eq}
use Rattle.sms_send.specs.Shown.{indented_char}
use Rattle.sms_send.proofs.Characters.{shown_none, shown_on, shown_all}
use Rattle.sms_send.proofs.faults.details.shown.write_indented.Goals as goal

pub loop-c-init : goal.loop-c-init
loop-c-init g c = ([], rw (c.into_iter-c-iterator.ensures.into_iter_gives, c.chars-c-items.ensures.rest) (shown_none indented_char _ c.utf8.text), search rules)

pub loop-c-preserved : goal.loop-c-preserved
loop-c-preserved g c =
    let (done, so_far, wrote) = c.loop-c.invariant in (
      done ++ indented_char c.in-Some.c,
      shown_on indented_char done _ _ _ c.in-Some.c so_far c.in-Some.ensures.steps.0,
      λ plain. has_written_append _ _ _ _ _ _ (wrote plain) (search rules),
    )

pub returns : goal.returns
returns g c plain ok =
    let (done, so_far, wrote) = c.loop-c.invariant in
    let ((none, ended), more, last) = c.in-None.ensures.steps in
    has_written_of_eq _ _ _ _ _ (shown_all indented_char done _ _ so_far none) (wrote plain)
