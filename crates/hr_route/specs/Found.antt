-- What is found where one thing is looked for. (Our own.)
use Rattle.std.specs.Prelude.{⊤, ◌≡◌, List, [], ◌∷◌, Option, Some, None}
use Rattle.hr_base.specs.Bytes.{Text}
use Rattle.hr_route.specs.declared.found.Found.{Found}
use Rattle.hr_route.specs.declared.found.Found.TheVariants.{Absent, One, Many}

-- an option as a list of at most one item
abbrev pub as_list : {A : Type 0} → Option A → List A
as_list None = []
as_list (Some item) = item ∷ []

-- what was found is none, the one, or several values
abbrev pub IsFound : List Text → Found → Type 0
IsFound [] Absent = ⊤
IsFound [] (One value) = ⊥
IsFound [] Many = ⊥
IsFound (value ∷ []) Absent = ⊥
IsFound (value ∷ []) (One found) = found.now ≡ value
IsFound (value ∷ []) Many = ⊥
IsFound (value ∷ other ∷ values) Absent = ⊥
IsFound (value ∷ other ∷ values) (One found) = ⊥
IsFound (value ∷ other ∷ values) Many = ⊤
