use Rattle.std.proofs.Common.{◌≡◌, true, false, rules}
use Rattle.hr_core.proofs.RoundLemmas.{cut_round, finish_cut, finish_made, idle_of, more_rounds, on_err, round_of, rounds_over, rounds_ready}
use Rattle.hr_core.proofs.engine.Core.finish.Goals as goal

pub returns-in_err-more-clause-err : goal.returns-in_err-more-clause-err
returns-in_err-more-clause-err g c =
    on_err c.from_residual.result _ (cut_round c.args.self.now c.rounds.self c.run_round.new.self c.rounds.invariant.ran
    c.rounds.invariant.sound c.in_err-more.ensures.err)

pub returns-then-not-more-clause-ok : goal.returns-then-not-more-clause-ok
returns-then-not-more-clause-ok g c =
    let none : c.in_ok-more.more ≡ false = search rules in
    finish_made c.args.self.now c.rounds.self c.run_round.new.self c.deliver_all.new.self c.deliver_all.result
    c.rounds.invariant.ran
    (idle_of c.rounds.self c.run_round.new.self c.in_ok-more.more none c.in_ok-more.ensures.ok) c.deliver_all.ensures.ok

pub returns-then-not-more-clause-err : goal.returns-then-not-more-clause-err
returns-then-not-more-clause-err g c =
    let none : c.in_ok-more.more ≡ false = search rules in
    finish_cut c.args.self.now c.rounds.self c.run_round.new.self c.deliver_all.new.self c.deliver_all.result
    c.rounds.invariant.ran c.rounds.invariant.sound
    (idle_of c.rounds.self c.run_round.new.self c.in_ok-more.more none c.in_ok-more.ensures.ok) c.deliver_all.ensures.err

pub rounds-preserved : goal.rounds-preserved
rounds-preserved g c =
    let o = c.args.self.now in
    let m = c.run_round.new.self in
    let more : c.in_ok-more.more ≡ true = search rules in
    let sound = c.is_sound-in-rounds.ensures in
    let ran = more_rounds o c.rounds.self m c.rounds.invariant.ran
    (round_of c.rounds.self m c.in_ok-more.more more c.in_ok-more.ensures.ok) sound in
    record {
      ran = ran;
      ready = rounds_ready o m c.core_stays_ready.ensures.cut c.requires.ready c.is_sound.ensures sound ran;
      sound = sound;
    }

pub returns-clause-err : goal.returns-clause-err
returns-clause-err g c = rounds_over c.args.self.now c.rounds.self c.rounds.invariant.ran
