use Rattle.std.proofs.Common.{List, ap, refl, ◌∙◌}
use Rattle.std.specs.Prelude.{map}
use Rattle.std.specs.List.{list_all}
use Rattle.std.proofs.lemmas.List.Elements.{All-same}
use Rattle.hr_event.specs.declared.told.Told.{Told}
use Rattle.hr_event.specs.declared.view.ExecView.{ExecView}
use Rattle.hr_print.specs.Text.{HasText, texts_of}
use Rattle.hr_store.specs.Execution.{exec_view}
use Rattle.hr_store.specs.Store.{StoreState}
use Rattle.hr_replay.specs.Success.{view_succeeds}
use Rattle.hr_replay.proofs.RunLemmas.{runs_have_texts, status_if}
use Rattle.hr_replay.proofs.replaying.play.Goals as goal
use Rattle.hr_replay.proofs.replaying.play.Goals.{then-all_succeed, else-all_succeed}

pub print_all-requires : goal.print_all-requires
print_all-requires c =
    All-same HasText c.view.result.now c.in_ok-told.told c.view.ensures
    (runs_have_texts c.answers_have_texts.ensures c.args.core c.args.events.now c.in_ok-told.told
    c.take_events.new.core c.in_ok-told.ensures)

pub returns : goal.returns
returns c =
    let all = c.all_succeed.ensures ∙ ap (λ (xs : List ExecView). list_all view_succeeds xs) (c.view-2.ensures ∙ c.in_ok-views.ensures
    ∙ ap (λ (s : StoreState). map exec_view s.kept) c.store.ensures) in record {
      told = c.in_ok-told.told;
      after = c.take_events.new.core;
      runs = c.in_ok-told.ensures;
      says = c.in_ok-text.ensures ∙ ap (λ (xs : List Told). texts_of xs) c.view.ensures;
      keeps = refl;
      ends = elim c.if-all_succeed.branch [
        | then-all_succeed w ↦ status_if c.take_events.new.core c.all_succeed.result c.if-all_succeed.status all
            (λ yes. w.status-is) (λ no. let yes = w.if-all_succeed in cc)
        | else-all_succeed w ↦ status_if c.take_events.new.core c.all_succeed.result c.if-all_succeed.status all
            (λ yes. let no = w.if-all_succeed in cc) (λ no. w.status-is)
      ];
    }
