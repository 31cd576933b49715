-- Where bytes lead from a stage, what they give of the body, and the body that they hold. (Our
-- own, over the chunked coding of RFC 9112, section 7.1.)
use Rattle.std.specs.Prelude.{⊤, ◌≡◌, ℕ, ◌+◌, ◌≤◌, [], ◌∷◌, ◌++◌, length, Option, Some, None}
use Rattle.hr_base.specs.Bytes.{ByteList}
use Rattle.hr_body.specs.declared.stage.Coding.TheVariants.{Line, DataEnd, DataFeed}
use Rattle.hr_body.specs.declared.stage.Stage.{Stage}
use Rattle.hr_body.specs.declared.stage.Stage.TheVariants.{Between, Chunk, Sized, ToEnd, Done}
use Rattle.hr_body.specs.Stage.{step_of, data_of}

-- the stage behind a byte, where there is a stage before it
abbrev pub step_from : Option Stage → ℕ → Option Stage
step_from None b = None
step_from (Some p) b = step_of p b

-- the stage to which bytes lead, or none where no body goes on with them
abbrev pub end_of : ByteList → Option Stage → Option Stage
end_of [] stage = stage
end_of (b ∷ bytes) stage = end_of bytes (step_from stage b)

-- what a byte gives of the body, where there is a stage before it
abbrev pub data_from : Option Stage → ℕ → ByteList
data_from None b = []
data_from (Some p) b = data_of p b

-- those of the bytes that are of the body
abbrev pub data_in : ByteList → Option Stage → ByteList
data_in [] stage = []
data_in (b ∷ bytes) stage = data_from stage b ++ data_in bytes (step_from stage b)

-- from p the bytes lead to q, and give this piece of the body
pub record Leads (p : Stage) (front piece : ByteList) (q : Stage) : Type 0 where
  pub ends : end_of front (Some p) ≡ Some q
  pub gives : data_in front (Some p) ≡ piece

-- more bytes have to come
abbrev pub IsUnended : Stage → Type 0
IsUnended (Between coding) = ⊤
IsUnended (Chunk more) = ⊤
IsUnended (Sized more) = ⊤
IsUnended ToEnd = ⊥
IsUnended Done = ⊥

-- the body may end here, with these bytes left
abbrev pub MayEnd : Stage → ByteList → Type 0
MayEnd (Between coding) rest = ⊥
MayEnd (Chunk more) rest = ⊥
MayEnd (Sized more) rest = ⊥
MayEnd ToEnd rest = rest ≡ []
MayEnd Done rest = ⊤

-- from p the bytes begin with this body, and the rest follows it
pub record HoldsBody (p : Stage) (bytes body rest : ByteList) : Type 0 where
  pub front : ByteList
  pub end : Stage
  pub cut : bytes ≡ front ++ rest
  pub leads : Leads p front body end
  pub may_end : MayEnd end rest

-- no continuation of the bytes holds a body
abbrev pub BeginsNoBody : Stage → ByteList → Type 0
BeginsNoBody p bytes = (more body rest : ByteList) → ¬ (HoldsBody p (bytes ++ more) body rest)

-- the last of the bytes is the first that leads nowhere; those before it give at most this much
pub record Strays (p : Stage) (room : ℕ) (front : ByteList) : Type 0 where
  pub before : ByteList
  pub piece : ByteList
  pub q : Stage
  pub b : ℕ
  pub cut : front ≡ before ++ b ∷ []
  pub leads : Leads p before piece q
  pub within : length piece ≤ room
  pub unended : IsUnended q
  pub none : step_of q b ≡ None

-- the bytes give at most this much, and lead to where more bytes have to come
pub record IsShort (p : Stage) (room : ℕ) (front : ByteList) : Type 0 where
  pub q : Stage
  pub piece : ByteList
  pub leads : Leads p front piece q
  pub within : length piece ≤ room
  pub unended : IsUnended q

-- the bytes give one byte more of the body than this
pub record IsPast (p : Stage) (room : ℕ) (front : ByteList) : Type 0 where
  pub q : Stage
  pub piece : ByteList
  pub leads : Leads p front piece q
  pub one_more : length piece ≡ room + 1

-- the line, or the trailer section, has room for what it needs to end
abbrev pub HasLineRoom : Stage → Type 0
HasLineRoom (Between (Line room part)) = 3 ≤ room
HasLineRoom (Between DataEnd) = ⊤
HasLineRoom (Between DataFeed) = ⊤
HasLineRoom (Chunk more) = ⊤
HasLineRoom (Sized more) = ⊤
HasLineRoom ToEnd = ⊤
HasLineRoom Done = ⊤
