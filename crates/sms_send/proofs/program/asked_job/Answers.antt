use Rattle.std.proofs.Common.{◌∙◌, inl, inr, refl, ap, subst, List, String, Global}
use Rattle.std.specs.Prelude.{map, string_bytes}
use Rattle.sms_send.specs.CommandLine.{IsJob, RefusesWords, subcommand_in}
use Rattle.sms_send.specs.Words.{asks_for_more}
use Rattle.sms_send.proofs.program.asked_job.Goals as goal

pub returns-in-Ok-job_of-clause-asked : goal.returns-in-Ok-job_of-clause-asked
returns-in-Ok-job_of-clause-asked g c = record {
  words = map string_bytes c.in-Ok.words.items;
  given = c.in-Ok.ensures.given;
  is = subst (λ (ws : List (String Global)). IsJob (subcommand_in (map string_bytes ws)) c.in-Ok-job_of.job) c.as_slice-2.ensures.value c.in-Ok-job_of.ensures.job;
  details = c.is_verbose-context.ensures ∙ ap (λ (ws : List (String Global)). asks_for_more (map string_bytes ws)) c.as_slice.ensures.value;
}

pub returns-clause-refused : goal.returns-clause-refused
returns-clause-refused g c =
    inr (
      map string_bytes c.in-Ok.words.items,
      c.in-Ok.ensures.given,
      subst (λ (ws : List (String Global)). RefusesWords (map string_bytes ws) c.in-Err-job_of.fault) c.as_slice-2.ensures.value c.in-Err-job_of.ensures.refused,
    )

pub returns-clause-verbose : goal.returns-clause-verbose
returns-clause-verbose g c =
    inr (
      map string_bytes c.in-Ok.words.items,
      c.in-Ok.ensures.given,
      c.is_verbose-context.ensures ∙ ap (λ (ws : List (String Global)). asks_for_more (map string_bytes ws)) c.as_slice.ensures.value,
    )

pub returns-in-Err-clause-refused : goal.returns-in-Err-clause-refused
returns-in-Err-clause-refused g c = inl c.in-Err.ensures.refused

pub returns-in-Err-clause-verbose : goal.returns-in-Err-clause-verbose
returns-in-Err-clause-verbose g c = inl (c.in-Err.ensures.refused, refl)
