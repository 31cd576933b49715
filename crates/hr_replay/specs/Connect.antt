-- The registries of a script as connections of a lane: it writes to registry 2, and reads from the
-- others. (Our own.)
use Rattle.std.specs.Prelude.{ℕ, Bool, ◌+◌, nat_eq, not, List, [], ◌∷◌}
use Rattle.std.specs.List.{filter}
use Rattle.hr_base.specs.declared.number.RegNo.{RegNo}
use Rattle.hr_line.specs.State.{Link, State}
use Rattle.hr_memreg.specs.Mem.{Mem, seen_of}
use Rattle.hr_opening.specs.Plan.{plan_of}
use Rattle.hr_opening.specs.Setup.{Setups, registries_of, setup_in}
use Rattle.hr_lane.specs.State.{new_lane}
use Rattle.hr_run.specs.State.{CoreState, opening}

-- registries as connections, numbered from this number on
abbrev pub links_from : ℕ → List Mem → List Link
links_from reg [] = []
links_from reg (m ∷ more) =
    record { reg = record { 0 = reg }; seen = seen_of m } ∷ links_from (reg + 1) more

-- the number of the registry that is written to
abbrev pub TARGET : RegNo
TARGET = record { 0 = 2 }

-- the connection is to the registry that is written to
abbrev pub is_dest : Link → Bool
is_dest l = nat_eq l.reg.0 2

-- it is to one that is read from
abbrev pub is_source : Link → Bool
is_source l = not (nat_eq l.reg.0 2)

-- of these registries, from number 1 on, the one that is written to
abbrev pub dests_of : List Mem → List Link
dests_of regs = filter is_dest (links_from 1 regs)

-- and those that are read from
abbrev pub sources_of : List Mem → List Link
sources_of regs = filter is_source (links_from 1 regs)

-- the lane of a script before its first event
abbrev pub first_lane : Setups → State
first_lane setups = new_lane (sources_of (registries_of setups)) (dests_of (registries_of setups))

-- the core of a script before its first event: with one lane, and room for so many jobs
abbrev pub first_core : Setups → ℕ → CoreState
first_core setups jobs =
    opening (first_lane setups ∷ []) [] (plan_of (setup_in setups 1).content) jobs
