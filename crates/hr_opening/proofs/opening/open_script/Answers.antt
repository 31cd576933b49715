use Rattle.std.proofs.Common.{◌≡◌, ◌++◌, Ok, Err, length, take, drop, rules, ap, subst, ◌∙◌, arith}
use Rattle.hr_opening.specs.Opening.{after_lines, jobs_said, jobs_unsaid}
use Rattle.hr_opening.specs.Setup.{Setups, no_setups, registries_of}
use Rattle.hr_opening.proofs.TakenLemmas.{eight_at, kept_part, plain_start}
use Rattle.hr_opening.proofs.opening.open_script.Goals as goal

pub take_lines-requires : goal.take_lines-requires
take_lines-requires c =
    let none : c.deref_mut.result.now ≡ no_setups = c.deref_mut.ensures.value ∙ c.in-Ok.ensures in
    record {
      fit = c.requires;
      eight = eight_at c.deref_mut.result.now none;
      plain = plain_start c.deref_mut.result.now none;
    }

pub returns-in-Ok-open_all : goal.returns-in-Ok-open_all
returns-in-Ok-open_all c =
    let setups = c.in-Ok.setups in
    let new = c.take_lines.new.setups in
    let told = c.in-Ok-take_lines.ensures in
    let none : c.deref_mut.result.now ≡ no_setups = c.deref_mut.ensures.value ∙ c.in-Ok.ensures in
    let whole : setups.len ≡ length new = omega (arith, c.take_lines.auto.setups, c.deref_mut.ensures.len) in
    let same : take setups.len (new ++ drop (length new) setups.items) ≡ new = kept_part setups.len new (drop (length new) setups.items) whole in
    record {
      opens = record {
        setups = new;
        opens = subst (λ (s : Setups). after_lines s c.args.lines ≡ Ok new) none told.setups;
        regs = c.in-Ok-open_all.ensures ∙ ap registries_of same;
        events = told.events;
        jobs = c.find_jobs-jobs.ensures ∙ ap (jobs_said jobs_unsaid) c.view.ensures;
      };
      reference = λ number e. cc e;
    }

pub returns-in-Err-take_lines : goal.returns-in-Err-take_lines
returns-in-Err-take_lines c =
    let none : c.deref_mut.result.now ≡ no_setups = c.deref_mut.ensures.value ∙ c.in-Ok.ensures in
    record {
      opens = tt;
      reference = λ number e.
          subst (λ (s : Setups). after_lines s c.args.lines ≡ Err number) none (c.in-Err-take_lines.ensures.reference number (search rules));
    }
