use Rattle.std.specs.Prelude.{slice_index_or}
use Rattle.hr_lane.proofs.ConnLemmas.{placed_link, placed_with}
use Rattle.hr_lane.proofs.LiveLemmas.{tried_live}
use Rattle.hr_lane.proofs.line.line_between.Goals as goal

pub returns-clause-line : goal.returns-clause-line
returns-clause-line g c =
    let seen = g.A.Registry.seen in
    let src = c.args.by.now.spec.src in
    let dst = c.args.by.now.spec.dst in
    record {
      f = seen (slice_index_or c.args.sources.now c.place-from.result c.index-sources-from.result).link;
      g = seen c.line.new.source;
      p = seen (slice_index_or c.args.dests.now c.place-to.result c.index-dests-to.result).link;
      q = seen c.line.new.dest;
      source = placed_link seen c.args.sources.now src c.place-from.result c.index-sources-from.result
          c.place-from.ensures.there c.requires.sources;
      dest = placed_link seen c.args.dests.now dst c.place-to.result c.index-dests-to.result
          c.place-to.ensures.there c.requires.dests;
      moved_source = placed_with seen c.args.sources.now src c.place-from.result c.index-sources-from.result
          c.place-from.ensures.there c.requires.sources c.line.new.source;
      moved_dest = placed_with seen c.args.dests.now dst c.place-to.result c.index-dests-to.result
          c.place-to.ensures.there c.requires.dests c.line.new.dest;
      tries = c.line.ensures.line;
      sound_source = c.line.ensures.source;
      sound_dest = c.line.ensures.dest;
    }

pub returns-clause-live : goal.returns-clause-live
returns-clause-live g c =
    tried_live c.args.by.now c.args.tag.now c.args.work _ _ _ _ _ _ c.line.result c.requires.live c.line.ensures.line
