-- How a list of signs covers a list of things, in order. (Our own.)
use Rattle.std.specs.Prelude.{◌≡◌, ℕ, Bool, List, [], ◌∷◌, drop, MatchBool}

-- What is left of some things behind some run of them, also none, meets a fact.
abbrev pub AfterRun : {T : Type 0} → (List T → Type 0) → List T → Type 0
AfterRun Left things = (n : ℕ) × Left (drop n things)

-- The first thing meets one fact, and what is left behind it another.
abbrev pub AfterOne : {T : Type 0} → (T → Type 0) → (List T → Type 0) → List T → Type 0
AfterOne Meets Left [] = ⊥
AfterOne Meets Left (thing ∷ things) = Meets thing × Left things

-- Signs cover things: a sign that is a star covers any run of things, also none, and any
-- other sign covers one thing that it meets.
abbrev pub CoversInOrder : {S T : Type 0} → (S → Bool) → (S → T → Type 0) → List S → List T → Type 0
CoversInOrder is_star Meets [] things = things ≡ []
CoversInOrder is_star Meets (sign ∷ signs) things =
    MatchBool (is_star sign)
    (AfterRun (CoversInOrder is_star Meets signs) things)
    (AfterOne (Meets sign) (CoversInOrder is_star Meets signs) things)
