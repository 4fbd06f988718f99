use Rattle.std.proofs.Common.{◌≡◌, ◌++◌, ◌-◌, Bool, List, ℕ, map, refl, sym, ap, ◌∙◌, subst, rules, arith}
use Rattle.std.specs.List.{concat, AllZip}
use Rattle.rtrb.specs.Ring.{sent, known_free, SameProducer}
use Rattle.sms_pdu.specs.Devices.{device, faults_of}
use Rattle.sms_pdu.proofs.Turns.{turned_none}
use Rattle.sms_bind.specs.Turns.{ReadUntil}
use Rattle.sms_bind.specs.declared.ending.ReaderCause.TheVariants.{OutOfMemory, Silent}
use Rattle.sms_slot.proofs.Rings.{same_rings}
use Rattle.sms_bind.specs.declared.ending.ReaderEnd.{ReaderEnd}
use Rattle.sms_bind.specs.declared.counts.Counts.{Counts}
use Rattle.sms_bind.specs.declared.reader_state.ReaderState.{ReaderState}
use Rattle.sms_bind.specs.Ends.{HandsOn, LeavesRoom}
use Rattle.sms_bind.specs.Held.{Held}
use Rattle.sms_bind.specs.Follows.{held_none, most_held}
use Rattle.sms_bind.proofs.Hands.{hands_on, hands_none, leaves_room, leaves_room_none, end_of}
use Rattle.sms_bind.proofs.reader.read_all.Goals as goal

pub returns-in-Err-clause-rings : goal.returns-in-Err-clause-rings
returns-in-Err-clause-rings g c =
    subst (λ (e : ReaderEnd). AllZip SameProducer c.args.begin.producers.items e.producers.items) (sym c.ended.ensures) (same_rings c.args.begin.producers.items)

pub returns-in-Err-clause-answers : goal.returns-in-Err-clause-answers
returns-in-Err-clause-answers g c =
    let r = g.R.Read.remaining (device c.args.reader.now) in
    let begun = concat c.args.begin.bound.frames ++ c.args.begin.bound.framer in
    let rings = map sent c.args.begin.producers.items in
    let s = c.args.begin.bound.session in
    let held : Held = held_none c.args.begin.seat (most_held c.args.begin.follow) in
    let e = c.ended.ensures in
    let k = c.new-in-Err.ensures in
    let seat = c.in-Err.ensures.err in
    let none : HandsOn (g.D.ReaderDevice.keeps c.args.device.now) s begun r r rings rings held c.ended.result = hands_none (g.D.ReaderDevice.keeps c.args.device.now) s begun r rings held c.ended.result (ap (λ (x : ReaderEnd). x.cause) e)
    (ap (λ (x : ReaderEnd). x.answered) e ∙ ap (λ (x : Counts). x.answered) k)
    (ap (λ (x : ReaderEnd). x.unknown) e ∙ ap (λ (x : Counts). x.unknown) k)
    (ap (λ (x : ReaderEnd). x.overrun) e ∙ ap (λ (x : Counts). x.overrun) k)
    (ap (λ (x : ReaderEnd). x.delivered) e ∙ ap (λ (x : Counts). x.delivered) k)
    (ap (λ (x : ReaderEnd). x.noted) e ∙ ap (λ (x : Counts). x.noted) k)
    (ap (λ (x : ReaderEnd). x.nacked) e ∙ ap (λ (x : Counts). x.nacked) k)
    (ap (λ (x : ReaderEnd). x.unreplied) e ∙ ap (λ (x : Counts). x.unreplied) k)
    (ap (λ (x : ReaderEnd). x.seat) e ∙ seat) in
    subst (λ (x : ReaderEnd). HandsOn (g.D.ReaderDevice.keeps c.args.device.now) s begun r r rings (map sent x.producers.items) held c.ended.result) (sym e) none

pub returns-clause-answers : goal.returns-clause-answers
returns-clause-answers g c =
    let b = c.read-cause.new.self in
    let r = g.R.Read.remaining (device c.args.reader.now) in
    let t = g.R.Read.remaining (device c.read-cause.new.reader) in
    let s = c.args.begin.bound.session in
    let rings = map sent c.args.begin.producers.items in
    let begun : concat c.as_slice.result.now ++ c.into_rest-rest.result.items ≡ concat c.args.begin.bound.frames ++ c.args.begin.bound.framer =
    ap (λ fs. concat fs ++ c.into_rest-rest.result.items) c.as_slice.ensures ∙ ap (λ (l : List ℕ). concat c.args.begin.bound.frames ++ l) c.into_rest-rest.ensures.unchanged in
    let a : ReaderState = record { session = s; producers = c.args.begin.producers; counts = c.new-2.result; follower = c.in-Ok.follower; keeps = c.keeps.result; number = record { number = c.args.begin.number }; next_slot = 0 } in
    let held : Held = held_none c.args.begin.seat (most_held c.args.begin.follow) in
    let first : c.in-Ok.follower ≡ held = c.in-Ok.ensures.ok ∙ ap (λ (n : ℕ). held_none c.args.begin.seat n) c.most_of.ensures in
    let all = hands_on s a b _ _ r t c.saturating_sub-errors.result c.read-cause.result c.args.begin.bound.bound c.new-2.ensures c.read-cause.ensures.reads in
    let is : c.ended-2.result ≡ end_of b c.saturating_sub-errors.result c.read-cause.result = search rules in
    let keeps : c.keeps.result ≡ g.D.ReaderDevice.keeps c.args.device.now = c.keeps.ensures in
    let old = concat c.as_slice.result.now ++ c.into_rest-rest.result.items in
    let new = concat c.args.begin.bound.frames ++ c.args.begin.bound.framer in
    let P : Bool → List ℕ → Held → ReaderEnd → Type 0 = λ k l h e. HandsOn k s l r t rings (map sent e.producers.items) h e in
    subst (λ k. P k new held c.ended-2.result) keeps
    (subst (λ l. P c.keeps.result l held c.ended-2.result) begun
    (subst (λ h. P c.keeps.result old h c.ended-2.result) first (subst (λ e. P c.keeps.result old a.follower e) (sym is) all)))

pub returns-in-Err-clause-room : goal.returns-in-Err-clause-room
returns-in-Err-clause-room g c =
    let rings = map sent c.args.begin.producers.items in
    let free = map known_free c.args.begin.producers.items in
    let e = c.ended.ensures in
    let k = c.new-in-Err.ensures in
    let none : LeavesRoom rings rings free free c.ended.result = leaves_room_none rings free c.ended.result
    (ap (λ (x : ReaderEnd). x.answered) e ∙ ap (λ (x : Counts). x.answered) k)
    (ap (λ (x : ReaderEnd). x.unknown) e ∙ ap (λ (x : Counts). x.unknown) k)
    (ap (λ (x : ReaderEnd). x.overrun) e ∙ ap (λ (x : Counts). x.overrun) k)
    (ap (λ (x : ReaderEnd). x.delivered) e ∙ ap (λ (x : Counts). x.delivered) k)
    (ap (λ (x : ReaderEnd). x.noted) e ∙ ap (λ (x : Counts). x.noted) k)
    (ap (λ (x : ReaderEnd). x.nacked) e ∙ ap (λ (x : Counts). x.nacked) k)
    (ap (λ (x : ReaderEnd). x.unreplied) e ∙ ap (λ (x : Counts). x.unreplied) k) in
    subst (λ (x : ReaderEnd). LeavesRoom rings (map sent x.producers.items) free (map known_free x.producers.items) c.ended.result) (sym e) none

pub returns-clause-room : goal.returns-clause-room
returns-clause-room g c =
    let b = c.read-cause.new.self in
    let r = g.R.Read.remaining (device c.args.reader.now) in
    let t = g.R.Read.remaining (device c.read-cause.new.reader) in
    let s = c.args.begin.bound.session in
    let rings = map sent c.args.begin.producers.items in
    let free = map known_free c.args.begin.producers.items in
    let a : ReaderState = record { session = s; producers = c.args.begin.producers; counts = c.new-2.result; follower = c.in-Ok.follower; keeps = c.keeps.result; number = record { number = c.args.begin.number }; next_slot = 0 } in
    let all = leaves_room s a b _ _ r t c.saturating_sub-errors.result c.read-cause.result c.new-2.ensures c.read-cause.ensures.reads in
    let is : c.ended-2.result ≡ end_of b c.saturating_sub-errors.result c.read-cause.result = search rules in
    subst (λ (e : ReaderEnd). LeavesRoom rings (map sent e.producers.items) free (map known_free e.producers.items) e) (sym is) all

-- no memory for the seat's list: no turn was taken
pub returns-in-Err-clause-read : goal.returns-in-Err-clause-read
returns-in-Err-clause-read g c =
    let old = c.args.reader.now in
    let none : ReadUntil g.R.Read.remaining c.args.turns 0 OutOfMemory old old = record {
      turned = turned_none _ _ _ _ (λ e. absurd cc);
      took = λ room e. absurd cc;
      errors_counted = omega arith;
      grows = omega arith;
      stopped = λ seen e. absurd cc;
      end = λ e. absurd cc;
      fault = λ e. absurd cc;
      failed = λ e. absurd cc;
      no_failure = λ other. refl;
    } in
    subst (λ (e : ReaderEnd). ReadUntil g.R.Read.remaining c.args.turns e.errors e.cause old old) (sym c.ended.ensures) none

pub returns-clause-read : goal.returns-clause-read
returns-clause-read g c =
    let old = c.args.reader.now in
    let new = c.read-cause.new.reader in
    let errors : c.saturating_sub-errors.result ≡ faults_of new - faults_of old = search rules in
    let read = subst (λ (n : ℕ). ReadUntil g.R.Read.remaining c.args.turns n c.read-cause.result old new) (sym errors) c.read-cause.ensures.read in
    subst (λ (e : ReaderEnd). ReadUntil g.R.Read.remaining c.args.turns e.errors e.cause old new) (sym c.ended-2.ensures) read

pub returns-in-Err-clause-silent : goal.returns-in-Err-clause-silent
returns-in-Err-clause-silent g c = λ e.
    let never : OutOfMemory ≡ Silent = sym (ap (λ (x : ReaderEnd). x.cause) c.ended.ensures) ∙ e in
    absurd cc

pub returns-clause-silent : goal.returns-clause-silent
returns-clause-silent g c = λ e. c.read-cause.ensures.silent (sym (ap (λ (x : ReaderEnd). x.cause) c.ended-2.ensures) ∙ e)
