-- The texts of refusals, each a line ended by a line feed. (Our own.)
use Rattle.std.specs.Prelude.{ℕ, [], ◌∷◌, ◌++◌, codes}
use Rattle.std.specs.Fmt.{decimal}
use Rattle.hr_base.specs.Bytes.{Text}
use Rattle.hr_script.specs.declared.refusal.Why.{Why}
use Rattle.hr_script.specs.declared.refusal.Why.TheVariants as why

-- a text as a line, ended by a line feed
abbrev pub line : Text → Text
line text = text ++ 10 ∷ []

-- why a line is refused, as a word
abbrev pub why_text : Why → Text
why_text why.Word = codes "word"
why_text why.Order = codes "order"
why_text why.Count = codes "count"
why_text why.Number = codes "number"
why_text why.Name = codes "name"
why_text why.Tag = codes "tag"
why_text why.Hex = codes "hex"
why_text why.Policy = codes "policy"
why_text why.NotYet = codes "not yet"

-- what is said of the first bad line of a script
abbrev pub bad_text : ℕ → Text → Text
bad_text number why = line (codes "line " ++ decimal number ++ 32 ∷ why)
