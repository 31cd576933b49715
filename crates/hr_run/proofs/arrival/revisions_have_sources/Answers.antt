use Rattle.hr_run.specs.Arrives.{LanesHaveSource}
use Rattle.hr_run.specs.State.{opening}
use Rattle.hr_run.proofs.SourceLemmas.{count_through, planned_through, sources_in}
use Rattle.hr_run.proofs.arrival.revisions_have_sources.Goals as goal

pub returns-clause-count : goal.returns-clause-count
returns-clause-count c lanes others plan jobs events said t runs = count_through (opening lanes others plan jobs) t events said runs

pub returns-clause-sources : goal.returns-clause-sources
returns-clause-sources c lanes others plan jobs events said t place lane now holds runs planned first there =
    let first_state = opening lanes others plan jobs in
    let made = (planned_through (LanesHaveSource lanes) first_state t events said runs (record { plan = planned; made = tt })).made in
    sources_in lanes t holds made place lane now first there
