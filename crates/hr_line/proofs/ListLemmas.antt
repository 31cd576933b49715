-- What stands in lists.
use Rattle.std.proofs.Common.{◌≡◌, zero, suc, ℕ, List, [], ◌∷◌, arith}
use Rattle.std.specs.Prelude.{Some}
use Rattle.std.specs.List.{Contains, slice_get}

-- what stands at a place of a list is contained in it
pub get_contains : {X : Type 0} (xs : List X) (k : ℕ) (x : X) → slice_get xs k ≡ Some x → Contains xs x
get_contains [] k x is = cc
get_contains (y ∷ ys) zero x is = let e : y ≡ x = cc in (zero, omega arith, e)
get_contains (y ∷ ys) (suc k) x is = let r = get_contains ys k x is in (suc r.0, omega (arith, r.1), r.2)
