use Rattle.std.proofs.Common.{inl, inr, refl, subst, ℕ, List}
use Rattle.sms_send.specs.Noted.{FailsBegin}
use Rattle.sms_send.proofs.Noting.{ended_weaker, unmade_fails, weaker_first}
use Rattle.sms_send.proofs.Starts.{begun_at}
use Rattle.sms_send.proofs.sending.Sending.run_noted.Goals as goal

pub returns-clause-ended : goal.returns-clause-ended
returns-clause-ended g c =
    ended_weaker c.run_in_file-sent.result _ _ _ _ _ _ _ (λ fault. weaker_first (λ lacks. inr (inr (lacks, (c.in-Ok.file, subst (λ (name : List ℕ). g.R.JournalFiles.makes c.args.self.now.rt.now name c.in-Ok.file) c.as_str.ensures.value c.in-Ok.ensures.made))))) c.run_in_file-sent.ensures.ended

pub returns-in-Err-clause-ended : goal.returns-in-Err-clause-ended
returns-in-Err-clause-ended g c =
    let fails : FailsBegin (g.R.JournalFiles.makes c.args.self.now.rt.now) (g.R.JournalFiles.refuses c.args.self.now.rt.now) (g.R.JournalFiles.holds c.args.self.now.rt.now) c.args.wanted c.unmade_fault.result =
    unmade_fails (g.R.JournalFiles.makes c.args.self.now.rt.now) (g.R.JournalFiles.refuses c.args.self.now.rt.now) (g.R.JournalFiles.holds c.args.self.now.rt.now) c.args.wanted _ c.in-Err.why _ c.as_str.ensures.value c.unmade_fault.ensures (c.in-Err.ensures.refused refl) c.in-Err.ensures.held in
    record {
      sent = tt;
      status = tt;
      started = tt;
      refused = inl (fails, refl);
      phase = begun_at (g.R.JournalFiles.makes c.args.self.now.rt.now) (g.R.JournalFiles.refuses c.args.self.now.rt.now) (g.R.JournalFiles.holds c.args.self.now.rt.now) _ c.args.wanted _ c.requires.not_started fails;
      unwritten = λ other kept. refl;
    }
