use Rattle.std.proofs.Common.{◌≡◌, ◌+◌, take, refl, sym, ap, ◌∙◌, subst}
use Rattle.std.specs.Prelude.{slice_index}
use Rattle.std.proofs.lemmas.List.{take_more, take_all}
use Rattle.csv.specs.Machine.{step}
use Rattle.csv.specs.Reading.{default_config}
use Rattle.csv.specs.declared.parser.State.{State}
use Rattle.csv.specs.declared.parser.State.TheVariants.{StartRecord}
use Rattle.sms_files.specs.Quoting.{state_behind}
use Rattle.sms_files.specs.declared.tables.quoting.Place.{Place}
use Rattle.sms_files.proofs.Quotes.{Stands, stands_after, state_more, both_quoted}
use Rattle.sms_files.proofs.tables.quoting.ends_quoted.Goals as goal

pub loop-octet-init : goal.loop-octet-init
loop-octet-init c = refl

pub loop-octet-preserved : goal.loop-octet-preserved
loop-octet-preserved c =
    let items = c.without_mark-octet-items.result.now in
    let i = c.loop-octet.octet-index in
    let behind : state_behind StartRecord (take (i + 1) items) ≡ (step default_config (state_behind StartRecord (take i items)) (slice_index items i)).0 =
    ap (state_behind StartRecord) (take_more items i 0 c.loop-octet-test.true) ∙ state_more StartRecord (take i items) (slice_index items i) in
    subst (λ (x : State × Place). Stands x.0 x.1) (λ j. (sym behind j, sym c.after-place.ensures j)) (stands_after (state_behind StartRecord (take i items)) c.loop-octet.place (slice_index items i) c.loop-octet.invariant)

pub returns : goal.returns
returns c =
    let items = c.without_mark-octet-items.result.now in
    let all : take c.loop-octet.octet-index items ≡ items = take_all c.loop-octet.octet-index items c.loop-octet-test.false in
    let behind = ap (state_behind StartRecord) (all ∙ c.without_mark-octet-items.ensures) in
    let both = both_quoted (state_behind StartRecord (take c.loop-octet.octet-index items)) c.loop-octet.place c.loop-octet.invariant in (
      λ holds. sym behind ∙ both.0 (c.is_quoted.ensures.0 holds),
      λ ends. c.is_quoted.ensures.1 (both.1 (behind ∙ ends)),
    )
