use Rattle.std.proofs.Common.{◌∷◌, [], ◌++◌, arith, sym, ◌∙◌, ap}
use Rattle.hr_ruled.proofs.CloseLemmas.{take-next, closed}
use Rattle.hr_ruled.proofs.shared.SharedBoard.close.Goals as goal

pub loop-at-preserved : goal.loop-at-preserved
loop-at-preserved g c =
    let i = c.loop-at.invariant in (
      c.push_reserved.ensures.items ∙ ap (λ l. l ++ c.word.result ∷ []) i.0 ∙ sym (take-next _ c.loop-at.at c.word.result c.word.ensures),
      omega (arith, i.1, c.push_reserved.ensures),
      omega (arith, i.2, c.push_reserved.ensures),
    )

pub returns : goal.returns
returns g c =
    let f = c.close_with-closed.ensures.values.2 in
    let me = c.into_seat.ensures.1 in
    let i = c.loop-at.invariant in
    closed c.args.self c.self.inside.table.shared.key c.loop-at.at c.into_seat.result.id f.0.words _ c.from.result f.0.views
    c.into_seat.result.me.0 c.args.seat f.1.0 f.1.1 (ap (λ m. m.0) me) c.requires f.2 (c.from.ensures ∙ i.0) (omega arith) (omega (arith, c.self.view_is, c.self.invariant.3))
