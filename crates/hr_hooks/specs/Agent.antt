-- What an agent delivers. (Our own.)
use Rattle.std.specs.Prelude.{◌≡◌, ◌≢◌, ℕ, List, [], ◌++◌, length, Option, Result, Ok, Err}
use Rattle.hr_base.specs.declared.status.Hook.{Hook}
use Rattle.hr_hooks.specs.Link.{Delivers}
use Rattle.hr_hooks.specs.declared.link.LinkFault.{LinkFault}

-- all that waited was delivered, in order
pub record PushesAll (waiting : List Hook) (before : Option (List Hook)) (count : ℕ)
    (left : List Hook) (now : Option (List Hook)) : Type 0 where
  pub count_is : count ≡ length waiting
  pub none_left : left ≡ []
  pub delivered : Delivers before waiting now

-- a front of what waited was delivered, in order, and the rest, which is not empty, waits on
pub record PushesFront (waiting : List Hook) (before : Option (List Hook)) (left : List Hook)
    (now : Option (List Hook)) : Type 0 where
  pub front : List Hook
  pub split : waiting ≡ front ++ left
  pub some_left : left ≢ []
  pub delivered : Delivers before front now

-- what waits is delivered, all of it or up to a fault
abbrev pub Pushes : List Hook → Option (List Hook) → Result ℕ LinkFault → List Hook
    → Option (List Hook) → Type 0
Pushes waiting before (Ok count) left now = PushesAll waiting before count left now
Pushes waiting before (Err fault) left now = PushesFront waiting before left now
