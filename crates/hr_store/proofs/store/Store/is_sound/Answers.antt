use Rattle.std.proofs.Common.{subst, ◌≤◌}
use Rattle.std.specs.List.{AllByRecursion}
use Rattle.hr_store.specs.Store.{StoreState, AreMade, AreOrdered, FailsBare}
use Rattle.hr_store.proofs.store.Store.is_sound.Goals as goal

pub returns-clause-ordered : goal.returns-clause-ordered
returns-clause-ordered c = let P : StoreState → Type 0 = λ v. AreOrdered 0 0 v.kept in subst P c.self.view_is c.self.invariant.ordered

pub returns-clause-made : goal.returns-clause-made
returns-clause-made c = let P : StoreState → Type 0 = λ v. AreMade v.made v.jobs v.kept in subst P c.self.view_is c.self.invariant.were_made

pub returns-clause-no_rows : goal.returns-clause-no_rows
returns-clause-no_rows c = let P : StoreState → Type 0 = λ v. AllByRecursion FailsBare v.kept in subst P c.self.view_is c.self.invariant.no_rows

pub returns-clause-within : goal.returns-clause-within
returns-clause-within c = let P : StoreState → Type 0 = λ v. v.jobs ≤ v.limit in subst P c.self.view_is c.self.invariant.within
