use Rattle.std.proofs.Common.{◌≡◌, ◌++◌, ◌∙◌, ℕ, ap, arith, rules}
use Rattle.std.specs.Prelude.{codes, string_bytes}
use Rattle.sms_files.specs.Quotes.{total_of}
use Rattle.sms_files.specs.QuoteText.{kept_text, quote_lines}
use Rattle.sms_files.proofs.CountingQuotes.{lines_are}
use Rattle.sms_files.proofs.report.quote.text.quoted_text.Goals as goal

pub returns : goal.returns
returns c =
    let totals = c.in_ok-quotes.ensures.totals in
    let text : string_bytes c.in_ok-text.text ≡ kept_text c.args.openings.now c.args.messages.now c.in_ok-quotes.quotes.items c.in_ok-quotes.totals.items = search rules in
    record {
      quotes = c.in_ok-quotes.quotes.items;
      are = c.in_ok-quotes.ensures.quotes;
      is = text
          ∙ ap (λ l. codes "message,account,parts,cost,verdict\n" ++ quote_lines c.args.openings.now c.args.messages.now c.in_ok-quotes.quotes.items ++ codes "account,credits,messages,parts,cost,left\n" ++ l)
          (lines_are c.args.openings.now c.in_ok-quotes.totals.items 0 c.args.messages.now c.in_ok-quotes.quotes.items totals.count (λ k j t is at. totals.each k t at ∙ ap (λ (n : ℕ). total_of n c.args.messages.now c.in_ok-quotes.quotes.items) (omega (arith, is))));
    }
