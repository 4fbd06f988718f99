use Rattle.std.proofs.Common.{◌≡◌, ℕ, ◌<◌, ◌≤◌, Some, refl, sym, ap, ◌∙◌, subst}
use Rattle.std.specs.Prelude.{Option}
use Rattle.sms_book.specs.Shares.{Share, changed}
use Rattle.sms_book.specs.Money.{moved_amounts}
use Rattle.sms_book.specs.declared.money.Move.{Move}
use Rattle.sms_book.specs.declared.money.Move.TheVariants as moves
use Rattle.sms_message.specs.declared.ends.Outcome.{Outcome}
use Rattle.sms_message.specs.declared.ends.Outcome.TheVariants.{Charged, Refused, Unsent}
use Rattle.sms_worker.specs.Steps.{move_of, moved_to, settled_to}
use Rattle.sms_worker.proofs.state.tally.move_credits.Goals as goal

-- so many credits are reserved
reserved : (credits cost most : ℕ) → credits ≡ cost → (0 < cost) × (cost ≤ most) → (0 < credits) × (credits ≤ most)
reserved credits cost most same h = subst (λ k. (0 < k) × (k ≤ most)) (sym same) h

-- the outcome moves the credits so
moved : (outcome o : Outcome) (move : Move) (account : Option ℕ) (a cost credits : ℕ) (s s' : Share) → outcome ≡ o → move_of o ≡ Some move → account ≡ Some a → credits ≡ cost → s' ≡ changed s a (moved_amounts move credits) → s' ≡ settled_to outcome account cost s
moved outcome o move account a cost credits s s' is moves at same now =
    now ∙ ap (λ k. changed s a (moved_amounts move k)) same ∙ sym (ap (λ x. moved_to x (move_of outcome) cost s) at ∙ ap (λ x. moved_to (Some a) x cost s) (ap move_of is ∙ moves))

pub charge-requires : goal.charge-requires
charge-requires g c = reserved c.from-credits.result c.args.cost _ c.from-credits.ensures (c.requires c.in-Some.account c.in-Some.is)

pub give_back-requires : goal.give_back-requires
give_back-requires g c = reserved c.from-credits.result c.args.cost _ c.from-credits.ensures (c.requires c.in-Some.account c.in-Some.is)

pub give_back-requires-in-Unsent : goal.give_back-requires-in-Unsent
give_back-requires-in-Unsent g c = reserved c.from-credits.result c.args.cost _ c.from-credits.ensures (c.requires c.in-Some.account c.in-Some.is)

pub returns-in_default : goal.returns-in_default
returns-in_default g c = sym (ap (λ x. moved_to x (move_of c.args.outcome) c.args.cost c.args.shares.now) c.in_default.is)

pub returns-in-Charged : goal.returns-in-Charged
returns-in-Charged g c = moved c.args.outcome Charged moves.Charge c.args.account c.in-Some.account c.args.cost c.from-credits.result c.args.shares.now c.charge.new.share c.in-Charged.is refl c.in-Some.is c.from-credits.ensures c.charge.ensures.share

pub returns-in-Refused : goal.returns-in-Refused
returns-in-Refused g c = moved c.args.outcome Refused moves.GiveBack c.args.account c.in-Some.account c.args.cost c.from-credits.result c.args.shares.now c.give_back.new.share c.in-Refused.is refl c.in-Some.is c.from-credits.ensures c.give_back.ensures.share

pub returns-in-Unsent : goal.returns-in-Unsent
returns-in-Unsent g c = moved c.args.outcome Unsent moves.GiveBack c.args.account c.in-Some.account c.args.cost c.from-credits.result c.args.shares.now c.give_back-in-Unsent.new.share c.in-Unsent.is refl c.in-Some.is c.from-credits.ensures c.give_back-in-Unsent.ensures.share

pub returns-in-Unanswered : goal.returns-in-Unanswered
returns-in-Unanswered g c = sym (ap (λ x. moved_to x (move_of c.args.outcome) c.args.cost c.args.shares.now) c.in-Some.is ∙ ap (λ x. moved_to (Some c.in-Some.account) (move_of x) c.args.cost c.args.shares.now) c.in-Unanswered.is)
