use Rattle.std.proofs.Common.{◌∙◌}
use Rattle.sms_journal.specs.Bill.{listing_of}
use Rattle.sms_journal.proofs.bill.run.listed_run.Goals as goal

pub returns-in-Ok-listing_text-clause-listed : goal.returns-in-Ok-listing_text-clause-listed
returns-in-Ok-listing_text-clause-listed c =
    let read = c.in-Ok.read in
    record {
      kind = c.requires;
      times = read.times.items;
      notes = read.notes.items;
      timed = c.in-Ok.ensures.timed;
      lists = c.in-Ok-listing_text.ensures
          ∙ (λ j. listing_of c.args.listing (c.as_slice.ensures.value j) (c.as_slice-4.ensures.value j) (c.as_slice-5.ensures.value j) (c.as_slice-2.ensures.value j) (c.as_slice-3.ensures.value j));
    }
