use Rattle.std.proofs.Common.{◌∙◌, sym, inr}
use Rattle.sms_book.specs.Tariffs.{prices_of}
use Rattle.sms_files.proofs.Tariffs.{first_low, has-place, names-rate, place_low}
use Rattle.sms_files.proofs.tables.rates.refused_of.Goals as goal

pub trouble_of-requires : goal.trouble_of-requires
trouble_of-requires c = λ first second is. first_low (prices_of c.args.rates.now) c.args.error first second (inr c.requires) is

pub bad_rate-requires : goal.bad_rate-requires
bad_rate-requires c = place_low (prices_of c.args.rates.now) c.args.error c.in-Some.place c.in-Some.flaw (inr c.requires) (sym c.trouble_of.ensures ∙ c.in-Some.is)

pub returns : goal.returns
returns c = names-rate (prices_of c.args.rates.now) c.args.error c.in-Some.place c.in-Some.flaw c.bad_rate.result (inr c.requires) (sym c.trouble_of.ensures ∙ c.in-Some.is) c.bad_rate.ensures

pub unreachable-requires : goal.unreachable-requires
unreachable-requires c = has-place (prices_of c.args.rates.now) c.args.error c.requires (sym c.trouble_of.ensures ∙ c.in-None.is)
