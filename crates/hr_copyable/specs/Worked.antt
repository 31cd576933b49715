-- Worked scripts, of which all can be copied. (Our own.)
use Rattle.std.specs.Prelude.{ℕ, List, [], ◌∷◌, codes}
use Rattle.hr_base.specs.declared.number.RegNo.{RegNo}
use Rattle.hr_event.specs.declared.event.Event.TheVariants as event
use Rattle.hr_name.specs.Name.{RepoName}
use Rattle.hr_name.specs.Tag.{TagName}
use Rattle.hr_script.specs.declared.line.Line.{Line}
use Rattle.hr_script.specs.declared.line.Line.TheVariants as line
use Rattle.hr_script.specs.declared.reading.Numbered.{Numbered}

-- the repository `a/b`, which registry 1 has
abbrev pub worked_repo : RepoName
worked_repo = codes "a/b"

-- registry 1
abbrev pub worked_reg : RegNo
worked_reg = record { 0 = 1 }

-- the tag that names an index
abbrev pub both : TagName
both = codes "both"

-- a line that stores an image of one layer, which has one byte
abbrev pub worked_image : TagName → ℕ → Line
worked_image tag byte = line.Image worked_reg worked_repo tag ((byte ∷ []) ∷ [])

-- two images and an index of them: `image 1 a/b one aa`, `image 1 a/b two bb`,
-- `index 1 a/b both one two` and `trigger 1`
abbrev pub worked_lines : List Numbered
worked_lines =
    record { number = 1; line = worked_image (codes "one") 0xAA }
    ∷ record { number = 2; line = worked_image (codes "two") 0xBB }
    ∷ record {
      number = 3;
      line = line.Index worked_reg worked_repo both (codes "one" ∷ codes "two" ∷ []);
    }
    ∷ record { number = 4; line = line.Event (event.Trigger (record { 0 = 1 })) } ∷ []

-- an index of nothing, which stores one text alone: `index 1 a/b both`
abbrev pub lone_lines : List Numbered
lone_lines =
    record { number = 1; line = line.Index worked_reg worked_repo both [] } ∷ []
