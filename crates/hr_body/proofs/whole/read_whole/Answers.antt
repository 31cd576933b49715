use Rattle.std.proofs.Common.{◌≤◌, ◌<◌, ◌-◌, ◌^◌, [], arith, sym, subst, refl, ◌∙◌}
use Rattle.std.proofs.lemmas.Result.{err_from_is_err_and}
use Rattle.hr_body.specs.Reading.{GaveOf}
use Rattle.hr_body.proofs.ReadingLemmas.{piece_none, body_more, body_lost, lost_held}
use Rattle.hr_body.proofs.whole.read_whole.Goals as goal

pub pieces-init : goal.pieces-init
pieces-init g c =
    let fits : c.args.body.now.at < 2 ^ 64 = subst (λ n. n < 2 ^ 64) c.so_far-in_range.ensures.value c.so_far-in_range.ensures.in_range in
    let small : c.args.body.now.at ≤ 2 ^ 64 - 1 = omega (arith, fits) in
    let none : GaveOf (g.L.Stream.left c.args.link.now) c.args.body.now [] c.args.body.now (g.L.Stream.left c.args.link.now) = record {
      gave = piece_none (g.L.Stream.left c.args.link.now) c.args.body.now.stage c.args.body.now.at small;
      room = omega arith;
      limit = refl;
      sound = c.requires;
      kept = c.requires;
    } in
    record {
      gave = subst (λ l. GaveOf (g.L.Stream.left c.args.link.now) c.args.body.now l c.args.body.now (g.L.Stream.left c.args.link.now)) (sym c.new-all.ensures.items) none;
      sent = refl;
      calm = refl;
    }

pub returns-in_err-count-clause-err : goal.returns-in_err-count-clause-err
returns-in_err-count-clause-err g c =
    let p = err_from_is_err_and c.from_residual.result c.from_residual.ensures.1 in
    rw (p.1, p.2) (λ other. body_lost _ _ _ _ _ c.read.new.self _ c.in_err-count.field-0.0 c.pieces.invariant.gave c.in_err-count.ensures.err)

pub returns-in_err-count-clause-none : goal.returns-in_err-count-clause-none
returns-in_err-count-clause-none g c =
    let p = err_from_is_err_and c.from_residual.result c.from_residual.ensures.1 in
    rw (p.1, p.2) (λ other fails. lost_held _ _ _ c.args.body.now.at _ c.args.body.now.limit c.in_err-count.field-0.0 (body_lost _ _ _ c.args.body.now _ c.read.new.self _ c.in_err-count.field-0.0 c.pieces.invariant.gave c.in_err-count.ensures.err) fails)

pub pieces-preserved : goal.pieces-preserved
pieces-preserved g c = record {
  gave = body_more _ _ _ _ _ _ _ _ _ c.pieces.invariant.gave c.in_ok-count.ensures.ok c.in_ok-extend_from_slice.ensures.items;
  sent = c.in_ok-count.ensures.sent ∙ c.pieces.invariant.sent;
  calm = (c.in_ok-count.ensures.cause c.pieces.invariant.gave.kept).calm ∙ c.pieces.invariant.calm;
}
