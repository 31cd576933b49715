-- Connections as contracts see them. (Our own.)
use Rattle.std.specs.Prelude.{◌≡◌, ⊤, ℕ, List, [], ◌∷◌, map, slice_get, Some, None}
use Rattle.hr_base.specs.declared.number.RegNo.{RegNo}
use Rattle.hr_adapter.specs.Reg.{Reg}
use Rattle.hr_line.specs.State.{Link, link_at}
use Rattle.hr_lane.specs.declared.conn.Conn.{Conn}

-- a connection, by the number of its registry
abbrev pub link_of : {A : Type 0} → (A → Reg) → Conn A → Link
link_of seen conn = record { reg = conn.reg; seen = seen conn.link }

-- connections in their order
abbrev pub links_of : {A : Type 0} → (A → Reg) → List (Conn A) → List Link
links_of seen conns = map (link_of seen) conns

-- the connection to a registry stands at a place
pub record StandsAt {A : Type 0} (seen : A → Reg) (conns : List (Conn A)) (reg : RegNo) (at : ℕ)
    : Type 0 where
  pub conn : Conn A
  pub there : slice_get conns at ≡ Some conn
  pub named : conn.reg ≡ reg

-- no two connections are to one registry
abbrev pub AreDistinct : List Link → Type 0
AreDistinct [] = ⊤
AreDistinct (l ∷ more) = (link_at more l.reg ≡ None) × AreDistinct more
