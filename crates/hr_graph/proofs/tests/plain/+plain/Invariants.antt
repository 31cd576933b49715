use Rattle.hr_graph.proofs.tests.plain.+plain.Given as goal

abbrev pub decreases-plain : goal.decreases-plain
decreases-plain l = l.depth
