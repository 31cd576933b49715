-- A row that is raised by the marks of its job's revisions, since hooks may still be under way.
-- (Our own.)
use Rattle.std.specs.Prelude.{ℕ, suc, List, [], ◌∷◌}
use Rattle.hr_base.specs.Merge.{first_greatest, greater_of}
use Rattle.hr_base.specs.declared.status.Mark.{Mark}
use Rattle.hr_base.specs.declared.status.Mark.TheVariants.{Unopened, At}
use Rattle.hr_base.specs.declared.status.Status.{Status}

-- the revisions that were opened, each with its status, by the marks from a revision on
abbrev pub opened : ℕ → List Mark → List (ℕ × Status)
opened rev [] = []
opened rev (Unopened ∷ marks) = opened (suc rev) marks
opened rev (At status ∷ marks) = (rev, status) ∷ opened (suc rev) marks

-- the first greatest of a row, which is a revision with its status, and of what the marks of the
-- revisions from 0 on say
abbrev pub raised : ℕ × Status → List Mark → ℕ × Status
raised row marks = first_greatest row (opened 0 marks)

-- what is known of a job, and the mark of a revision besides
abbrev pub raised_by : ℕ × Status → ℕ → Mark → ℕ × Status
raised_by known rev Unopened = known
raised_by known rev (At status) = greater_of known (rev, status)
