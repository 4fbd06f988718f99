use Rattle.std.proofs.Common.{◌*◌, ◌∙◌, ℕ, List, refl, subst, sym, Err, IfOk}
use Rattle.sms_book.specs.Openings.{credits_of}
use Rattle.sms_driver.specs.Sendings.{Sent}
use Rattle.sms_driver.proofs.Books.{book_is_one, book_told, run_told, tells_book, told_one}
use Rattle.sms_driver.proofs.driver.drive_all.Goals as goal

pub returns-in-Err-clause-refused : goal.returns-in-Err-clause-refused
returns-in-Err-clause-refused g c = book_is_one (g.D.Dial.refuses c.args.devices.now.dial.now) (g.D.Dial.told c.args.devices.now.dial.now) c.args.settings.now.bind_settings.settings.mode c.args.settings.now.binds c.in-Err.why c.book_fault.result c.book_fault.ensures

pub returns-in-Err-clause-book : goal.returns-in-Err-clause-book
returns-in-Err-clause-book g c why =
    let e = c.in-Err.ensures in
    book_told c.args.openings.now (c.args.settings.now.binds * c.args.settings.now.workers) (Err c.in-Err.why) e.count e.double e.large e.others c.in-Err.why refl
    c.book_fault.result (Err c.book_fault.result) refl c.book_fault.ensures why

pub returns-clause-refused : goal.returns-clause-refused
returns-clause-refused g c = told_one (g.D.Dial.refuses c.args.devices.now.dial.now) (g.D.Dial.told c.args.devices.now.dial.now) c.args.settings.now.bind_settings.settings.mode c.args.settings.now.binds c.run.result c.run.ensures.refused

pub returns-clause-book : goal.returns-clause-book
returns-clause-book g c why = run_told c.args.openings.now (c.args.settings.now.binds * c.args.settings.now.workers) (g.D.Dial.refuses c.args.devices.now.dial.now) (g.D.Dial.told c.args.devices.now.dial.now) c.args.settings.now.bind_settings.settings.mode c.args.settings.now.binds c.run.result c.run.ensures.refused c.in-Ok.ensures.good why

pub returns-in-Err-clause-phase : goal.returns-in-Err-clause-phase
returns-in-Err-clause-phase g c = tells_book _ c.in-Err.why c.book_fault.result c.requires.not_started c.book_fault.ensures

pub returns-clause-sent : goal.returns-clause-sent
returns-clause-sent g c =
    let settings = c.args.settings.now in
    let told = g.D.Dial.told c.args.devices.now.dial.now in
    let ms = c.args.messages.items in
    let blank = c.in-Ok.ensures.blank in
    subst (λ (n : ℕ). IfOk c.run.result (Sent settings told n (credits_of c.args.openings.now) ms)) blank.1
    (subst (λ (l : List ℕ). IfOk c.run.result (Sent settings told c.in-Ok.blank.book.accounts l ms)) blank.0 c.run.ensures.sent)

pub run-requires-clause-opening : goal.run-requires-clause-opening
run-requires-clause-opening g c κs within = c.in-Ok.ensures.name ∙ sym c.in-Ok.ensures.blank.0
