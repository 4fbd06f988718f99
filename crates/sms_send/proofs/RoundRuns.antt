-- What a run of rounds is of its input, and a run that went on after its journal.
use Rattle.std.proofs.Common.{◌≡◌, inl, ◌+◌, ℕ, List, Vec, Global, ap, refl, sym, subst, arith}
use Rattle.std.specs.Prelude.{Option}
use Rattle.std.specs.List.{AllZip}
use Rattle.sms_book.specs.Openings.{credits_of}
use Rattle.sms_book.specs.Tariffs.{Price}
use Rattle.sms_book.specs.declared.opening.Opening.{Opening}
use Rattle.sms_core.specs.declared.row.Row.{Row}
use Rattle.sms_message.specs.declared.message.Message.{Message}
use Rattle.sms_pdu.specs.declared.command.Mode.{Mode}
use Rattle.sms_worker.specs.Types.{MessageEnd}
use Rattle.sms_session.specs.declared.settings.Settings.{Settings}
use Rattle.sms_driver.specs.SendFaults.{IsFaultOfOne}
use Rattle.sms_driver.specs.declared.ending.Sending.{Sending}
use Rattle.sms_driver.specs.declared.settings.RunSettings.{RunSettings}
use Rattle.sms_driver.specs.declared.start.StartPhase.{StartPhase}
use Rattle.sms_driver.specs.declared.start.StartPhase.TheVariants.{Idle}
use Rattle.sms_driver.specs.declared.fault.SendFault.TheVariants as send
use Rattle.sms_files.specs.declared.config.Config.{Config}
use Rattle.sms_files.specs.declared.input.Input.{Input}
use Rattle.sms_journal.specs.Left.{SaysSame, free_in, left_in}
use Rattle.sms_journal.specs.declared.recovery.resuming.JournaledRun.{JournaledRun}
use Rattle.sms_send.proofs.RoundSums.{runs_add_up}
use Rattle.sms_send.proofs.Sendings.{fault_at, of_a_round, of_the_first}
use Rattle.sms_send.specs.Faults.{ComesAt}
use Rattle.sms_send.specs.Rounds.{AreNumbered, AreRounds, AreSmall, ComesTo, FailsRounds, IsPutTogether, IsResumed, IsRun, OfARound, most_rounds}
use Rattle.sms_send.specs.Sent.{FailsDriving}
use Rattle.sms_send.specs.Settings.{AreRunSettings}
use Rattle.sms_send.specs.declared.args.send_args.Again.{Again}
use Rattle.sms_send.specs.declared.faults.fault.Fault.{Fault}
use Rattle.sms_send.specs.declared.faults.fault.Fault.TheVariants.{OutOfMemory}
use Rattle.sms_send.specs.declared.sending.resumed.Resumed.{Resumed}
use Rattle.sms_send.specs.declared.sending.sender.Ended.{Ended}

-- the settings of an input's parts are the input's
pub settings_by : (config k : Config) (tariff t : List Price) (run : RunSettings) → k ≡ config → t ≡ tariff → AreRunSettings k t run → AreRunSettings config tariff run
settings_by config k tariff t run same also is = subst (λ (x : List Price). AreRunSettings config x run) also (subst (λ (x : Config). AreRunSettings x t run) same is)

come_by : (tells : ℕ → ℕ → Option (List ℕ)) (settings : RunSettings) (openings os : List Opening) (ms ns : List Message) (before most : ℕ) (came : Sending) → os ≡ openings → ns ≡ ms → ComesTo tells settings os ns before most came → ComesTo tells settings openings ms before most came
come_by tells settings openings os ms ns before most came same also comes =
    subst (λ (m : List Message). ComesTo tells settings openings m before most came) also (subst (λ (o : List Opening). ComesTo tells settings o ns before most came) same comes)

all_numbers : (most : ℕ) → 0 + (most + 1) + 1 ≡ most + 2
all_numbers most = omega arith

pub is_run : (tells : ℕ → ℕ → Option (List ℕ)) (again : Again) (input : Input) (settings : RunSettings) (os : List Opening) (ns : List Message) (came : Sending) (ended : Ended)
    → AreRunSettings input.config input.tariff settings → os ≡ input.openings.items → ns ≡ input.messages.items → ended.openings ≡ input.openings → ended.ends ≡ came.ends → ended.statement ≡ came.statement
    → AreSmall (credits_of os) → ComesTo tells settings os ns 0 (again.most + 1) came → IsRun tells again input ended
is_run tells again input settings os ns came ended are same also openings ends statement small comes =
    let (rounds, come, numbered) = come_by tells settings input.openings.items os input.messages.items ns 0 (again.most + 1) came same also comes in
    let items : came.ends.items ≡ ended.ends.items = sym (ap (λ (v : Vec MessageEnd Global). v.items) ends) in
    let of_ended : AreRounds tells settings (credits_of input.openings.items) input.messages.items rounds ended.ends.items ended.statement =
    subst (λ (l : List MessageEnd). AreRounds tells settings (credits_of input.openings.items) input.messages.items rounds l ended.statement) items
    (subst (λ (l : List Row). AreRounds tells settings (credits_of input.openings.items) input.messages.items rounds came.ends.items l) (sym statement) come) in
    let all = runs_add_up tells settings (credits_of input.openings.items) input.messages.items rounds ended.ends.items ended.statement (subst (λ (o : List Opening). AreSmall (credits_of o)) same small) of_ended in
    record {
      openings = openings;
      settings = settings;
      are = are;
      rounds = rounds;
      come = of_ended;
      numbered = subst (λ (n : ℕ). AreNumbered 0 n rounds) (all_numbers again.most) numbered;
      each = all.0;
      rows = all.1;
    }

pub is_resumed : (tells : ℕ → ℕ → Option (List ℕ)) (again : Option Again) (run : JournaledRun) (settings : RunSettings) (ns : List Message) (os free : List Opening) (more : ℕ) (came : Sending) (resumed : Resumed)
    → AreRunSettings run.config run.tariff settings → AllZip SaysSame (left_in run.messages.items run.ends.items) ns → os ≡ free → credits_of free ≡ free_in run.rows.items → more + 1 ≡ most_rounds again
    → ComesTo tells settings os ns run.rounds (more + 1) came → IsPutTogether run.openings run.ends.items run.rows.items came resumed → IsResumed tells again run resumed
is_resumed tells again run settings ns os free more came resumed are same slice credits most comes together = record {
  settings = settings;
  are = are;
  given = ns;
  same = same;
  free = free;
  credits = credits;
  came = came;
  come = subst (λ (n : ℕ). ComesTo tells settings free ns run.rounds n came) most (come_by tells settings free os ns ns run.rounds (more + 1) came slice refl comes);
  together = together;
}

-- faults

round_fails : (refuses : ℕ → Type 0) (told : ℕ → Option (List ℕ)) (config : Config) (tariff : List Price) (run : RunSettings) (begun : StartPhase) (fault : Fault) → AreRunSettings config tariff run
    → FailsRounds refuses told run begun fault → FailsDriving refuses told config begun fault
round_fails refuses told config tariff run begun fault is (f, why, tells, eq) = (
  f,
  subst (λ (n : ℕ). IsFaultOfOne refuses told config.connection.settings.mode n f) is.binds
      (subst (λ (m : Mode). IsFaultOfOne refuses told m run.binds f) (ap (λ (s : Settings). s.mode) is.asks.settings) why),
  tells,
  eq,
)

pub rounds_fail : (refuses : ℕ → ℕ → Type 0) (tells : ℕ → ℕ → Option (List ℕ)) (config : Config) (tariff : List Price) (run : RunSettings) (before most all : ℕ) (begun : StartPhase) (fault : Fault) → AreRunSettings config tariff run → most ≡ all
    → OfARound before most (λ round. FailsRounds (refuses round) (tells round) run begun fault) → OfARound before all (λ round. FailsDriving (refuses round) (tells round) config begun fault)
rounds_fail refuses tells config tariff run before most all begun fault is same fails =
    subst (λ (n : ℕ). OfARound before n (λ round. FailsDriving (refuses round) (tells round) config begun fault)) same
    (of_a_round before most (λ round. FailsRounds (refuses round) (tells round) run begun fault) (λ round. FailsDriving (refuses round) (tells round) config begun fault)
    (λ round why. round_fails (refuses round) (tells round) config tariff run begun fault is why) fails)

pub rounds_at : (refuses : ℕ → ℕ → Type 0) (tells : ℕ → ℕ → Option (List ℕ)) (run : RunSettings) (before most : ℕ) (begun : StartPhase) (fault : Fault)
    → OfARound before most (λ round. FailsRounds (refuses round) (tells round) run begun fault) → ComesAt begun fault
rounds_at refuses tells run before most begun fault (round, low, high, (f, why, starts, eq)) = subst (ComesAt begun) (sym eq) (fault_at begun f starts)

-- memory was refused before a round
pub no_memory : (refuses : ℕ → ℕ → Type 0) (tells : ℕ → ℕ → Option (List ℕ)) (again : Option Again) (before : ℕ) (config : Config) (begun : StartPhase) (fault : Fault) → begun ≡ Idle → fault ≡ OutOfMemory
    → OfARound before (most_rounds again) (λ round. FailsDriving (refuses round) (tells round) config begun fault)
no_memory refuses tells again before config begun fault idle is =
    of_the_first again before (λ round. FailsDriving (refuses round) (tells round) config begun fault) (send.OutOfMemory, inl (inl refl), inl idle, is)
