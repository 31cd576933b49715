-- Lemmas on what the bytes of a head end in: an empty line.
use Rattle.std.proofs.Common.{◌≡◌, ℕ, Bool, true, false, List, [], ◌∷◌, ◌++◌, refl, sym, subst, ◌∙◌}
use Rattle.std.specs.Prelude.{if◌then◌else◌, ◌==◌}
use Rattle.std.specs.List.{flat_map}
use Rattle.httparse.specs.Grammar.{LineEnd, crlf, lf, print_end, Field, print_field, print_section}
use Rattle.hr_base.specs.Bytes.{ByteList}
use Rattle.hr_head.specs.declared.ending.Ending.{Ending}
use Rattle.hr_head.specs.declared.ending.Ending.TheVariants.{Lead, Within, Feed, Return, Empty}
use Rattle.hr_head.specs.Ending.{ending_after, ending_of}

pub ending_on : (e : Ending) (xs ys : ByteList) → ending_of e (xs ++ ys) ≡ ending_of (ending_of e xs) ys
ending_on e [] ys = refl
ending_on e (x ∷ xs) ys = ending_on (ending_after e x) xs ys

-- a byte other than a line's end has come
abbrev Begun : Ending → Type 0
Begun Lead = ⊥
Begun Within = Unit {0}
Begun Feed = Unit {0}
Begun Return = Unit {0}
Begun Empty = Unit {0}

-- the last byte is a line feed, behind such a byte
abbrev IsFed : Ending → Type 0
IsFed Lead = ⊥
IsFed Within = ⊥
IsFed Feed = Unit {0}
IsFed Return = ⊥
IsFed Empty = Unit {0}

begun_if : (c : Bool) (x y : Ending) → Begun x → Begun y → Begun (if c then x else y)
begun_if true x y a b = a
begun_if false x y a b = b

begun_after : (e : Ending) (b : ℕ) → Begun e → Begun (ending_after e b)
begun_after Lead b begun = absurd begun
begun_after Within b begun = begun_if (b == 10) Feed Within tt tt
begun_after Feed b begun = begun_if (b == 10) Empty (if b == 13 then Return else Within) tt (begun_if (b == 13) Return Within tt tt)
begun_after Return b begun = begun_if (b == 10) Empty Within tt tt
begun_after Empty b begun = begun_if (b == 10) Empty (if b == 13 then Return else Within) tt (begun_if (b == 13) Return Within tt tt)

begun_on : (bytes : ByteList) (e : Ending) → Begun e → Begun (ending_of e bytes)
begun_on [] e begun = begun
begun_on (b ∷ bytes) e begun = begun_on bytes (ending_after e b) (begun_after e b begun)

begun_space : (e : Ending) → Begun (ending_after e 32)
begun_space Lead = tt
begun_space Within = tt
begun_space Feed = tt
begun_space Return = tt
begun_space Empty = tt

-- a space among the bytes
pub begun_at : (x y : ByteList) (e : Ending) → Begun (ending_of e (x ++ 32 ∷ y))
begun_at x y e = subst Begun (sym (ending_on e x (32 ∷ y))) (begun_on y (ending_after (ending_of e x) 32) (begun_space (ending_of e x)))

fed_after : (e : Ending) → Begun e → IsFed (ending_after e 10)
fed_after Lead begun = absurd begun
fed_after Within begun = tt
fed_after Feed begun = tt
fed_after Return begun = tt
fed_after Empty begun = tt

fed_begun : (e : Ending) → IsFed e → Begun e
fed_begun Lead fed = fed
fed_begun Within fed = absurd fed
fed_begun Feed fed = tt
fed_begun Return fed = absurd fed
fed_begun Empty fed = tt

-- the end of a line behind such a byte
pub line_fed : (end : LineEnd) (e : Ending) → Begun e → IsFed (ending_of e (print_end end))
line_fed crlf e begun = fed_after (ending_after e 13) (begun_after e 13 begun)
line_fed lf e begun = fed_after e begun

field_fed : (f : Field) (e : Ending) → IsFed e → IsFed (ending_of e (print_field f))
field_fed f e fed =
    let text = f.name ++ 58 ∷ f.raw in
    subst IsFed (sym (ending_on e text (print_end f.end))) (line_fed f.end (ending_of e text) (begun_on text e (fed_begun e fed)))

fields_fed : (fields : List Field) (e : Ending) → IsFed e → IsFed (ending_of e (flat_map print_field fields))
fields_fed [] e fed = fed
fields_fed (f ∷ fields) e fed =
    subst IsFed (sym (ending_on e (print_field f) (flat_map print_field fields))) (fields_fed fields (ending_of e (print_field f)) (field_fed f e fed))

last_empty : (end : LineEnd) (e : Ending) → IsFed e → ending_of e (print_end end) ≡ Empty
last_empty crlf Lead fed = absurd fed
last_empty crlf Within fed = absurd fed
last_empty crlf Feed fed = refl
last_empty crlf Return fed = absurd fed
last_empty crlf Empty fed = refl
last_empty lf Lead fed = absurd fed
last_empty lf Within fed = absurd fed
last_empty lf Feed fed = refl
last_empty lf Return fed = absurd fed
last_empty lf Empty fed = refl

-- field lines and the empty line behind them
pub section_empty : (fields : List Field) (last : LineEnd) (e : Ending) → IsFed e → ending_of e (print_section fields last) ≡ Empty
section_empty fields last e fed =
    ending_on e (flat_map print_field fields) (print_end last) ∙ last_empty last (ending_of e (flat_map print_field fields)) (fields_fed fields e fed)

-- a start line with a space in it, and the section behind it
pub head_empty : (x y : ByteList) (line_end last : LineEnd) (fields : List Field) → ending_of Lead (((x ++ 32 ∷ y) ++ print_end line_end) ++ print_section fields last) ≡ Empty
head_empty x y line_end last fields =
    let line = (x ++ 32 ∷ y) ++ print_end line_end in
    let fed : IsFed (ending_of Lead line) = subst IsFed (sym (ending_on Lead (x ++ 32 ∷ y) (print_end line_end))) (line_fed line_end (ending_of Lead (x ++ 32 ∷ y)) (begun_at x y Lead)) in
    ending_on Lead line (print_section fields last) ∙ section_empty fields last (ending_of Lead line) fed
