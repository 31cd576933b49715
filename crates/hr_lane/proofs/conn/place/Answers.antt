use Rattle.std.proofs.Common.{◌∙◌, ap, arith, rules, sym}
use Rattle.std.proofs.lemmas.Option.{slice_get-get_or}
use Rattle.std.specs.Prelude.{Some}
use Rattle.hr_line.specs.State.{link_at}
use Rattle.hr_lane.specs.Conn.{links_of}
use Rattle.hr_lane.proofs.ConnLemmas.{none_is_none, none_named}
use Rattle.hr_lane.proofs.conn.place.Goals as goal

pub returns-then-eq-clause-there : goal.returns-then-eq-clause-there
returns-then-eq-clause-there g c = record {
  conn = c.index-conns-at.result;
  there = slice_get-get_or c.args.conns.now c.loop-at.at c.index-conns-at.result c.loop-at-test.true
      ∙ ap Some (sym c.index-conns-at.is);
  named = search rules;
}

pub unreachable-requires : goal.unreachable-requires
unreachable-requires g c =
    none_is_none (link_at (links_of g.A.Registry.seen c.args.conns.now) c.args.reg)
    (none_named g.A.Registry.seen c.args.conns.now c.args.reg
    (λ k d within. c.loop-at.invariant k d (let past = c.loop-at-test.false in omega (arith, within, past))))
    c.requires
