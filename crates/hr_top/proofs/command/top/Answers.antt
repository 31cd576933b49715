use Rattle.std.proofs.Common.{List, ℕ, sym, ◌∙◌, subst}
use Rattle.hr_cause.specs.Stream.{Took, TookFront}
use Rattle.hr_top.specs.Command.{IsStatus}
use Rattle.hr_top.proofs.CommandLemmas.{cut_off_is, refused_is, sent_status_is}
use Rattle.hr_top.proofs.command.top.Goals as goal

pub returns-in-Ok-clause-statuses : goal.returns-in-Ok-clause-statuses
returns-in-Ok-clause-statuses g c =
    let left = g.S.Stream.left in
    let faults = g.S.Counted.faults in
    let files = g.T.Tree.files in
    let tree = g.T.Counted.faults in
    subst IsStatus (sym c.status.ensures) (sent_status_is c.play-outcome.result c.args.words.now (left c.args.input.now) (left c.play-outcome.new.input) (files c.args.tree.now) (faults c.args.input.now) (faults c.play-outcome.new.input) (tree c.args.tree.now) (tree c.play-outcome.new.tree) c.play-outcome.new.kept c.play-outcome.ensures.comes)

pub returns-in-Ok-clause-refused : goal.returns-in-Ok-clause-refused
returns-in-Ok-clause-refused g c = λ two.
    let left = g.S.Stream.left in
    let faults = g.S.Counted.faults in
    let files = g.T.Tree.files in
    let tree = g.T.Counted.faults in
    let sent = g.K.Stream.sent in
    let took = subst (λ (text : List ℕ). Took (sent c.args.out.now) text (sent c.send.new.out)) c.text.ensures c.in-Ok.ensures.ok in
    refused_is c.play-outcome.result c.args.words.now (left c.args.input.now) (left c.play-outcome.new.input) (files c.args.tree.now) (faults c.args.input.now) (faults c.play-outcome.new.input) (tree c.args.tree.now) (tree c.play-outcome.new.tree) c.play-outcome.new.kept (sent c.args.out.now) (sent c.send.new.out) c.play-outcome.ensures.comes took (sym c.status.ensures ∙ two)

pub returns-clause-cut_off : goal.returns-clause-cut_off
returns-clause-cut_off g c = λ four.
    let left = g.S.Stream.left in
    let faults = g.S.Counted.faults in
    let files = g.T.Tree.files in
    let tree = g.T.Counted.faults in
    let sent = g.K.Stream.sent in
    let front = subst (λ (text : List ℕ). TookFront (sent c.args.out.now) text (sent c.send.new.out)) c.text.ensures c.in-Err.ensures.err in (
      c.in-Err.ensures.cause.failed tt,
      cut_off_is c.play-outcome.result c.args.words.now (left c.args.input.now) (left c.play-outcome.new.input) (files c.args.tree.now) (faults c.args.input.now) (faults c.play-outcome.new.input) (tree c.args.tree.now) (tree c.play-outcome.new.tree) c.play-outcome.new.kept (sent c.args.out.now) (sent c.send.new.out) c.play-outcome.ensures.comes front (sym c.unsent_status.ensures ∙ four),
    )
