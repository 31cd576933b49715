-- How many jobs there may be, line by line.
use Rattle.std.proofs.Common.{◌≡◌, ◌<◌, ◌+◌, ℕ, List, [], ◌∷◌, length, get_or, take, refl, sym, ap, subst, ◌∙◌, arith}
use Rattle.std.proofs.lemmas.List.{take_more}
use Rattle.std.specs.Prelude.{◌++◌}
use Rattle.hr_script.specs.declared.line.Line.{Line}
use Rattle.hr_script.specs.declared.line.Line.TheVariants as line
use Rattle.hr_script.specs.declared.reading.Numbered.{Numbered}
use Rattle.hr_opening.specs.Fit.{AreFit, IsFit, IsJobLimit}
use Rattle.hr_opening.specs.Opening.{Opens, jobs_after, jobs_said, jobs_unsaid}
use Rattle.hr_opening.specs.declared.opening.Opened.{Opened}

said_snoc : (before : ℕ) (lines : List Numbered) (one : Numbered) → jobs_said before (lines ++ one ∷ []) ≡ jobs_after (jobs_said before lines) one.line
said_snoc before [] one = refl
said_snoc before (l ∷ lines) one = said_snoc (jobs_after before l.line) lines one

-- one line more
pub said_more : (before : ℕ) (lines : List Numbered) (at : ℕ) (one : Numbered) (jobs new : ℕ) → jobs ≡ jobs_said before (take at lines)
    → at < length lines → one ≡ get_or lines at one → new ≡ jobs_after jobs one.line → new ≡ jobs_said before (take (at + 1) lines)
said_more before lines at one jobs new so_far within is made =
    made ∙ ap (λ (n : ℕ). jobs_after n one.line) so_far ∙ sym (said_snoc before (take at lines) one)
    ∙ ap (jobs_said before) (ap (λ (n : Numbered). take at lines ++ n ∷ []) is ∙ sym (take_more lines at one within))

-- ---- there may be some jobs, and not too many

after_few : (before : ℕ) (l : Line) → IsJobLimit before → IsFit l → IsJobLimit (jobs_after before l)
after_few before (line.Image reg repo tag layers) few fit = few
after_few before (line.Index reg repo tag children) few fit = few
after_few before (line.Orphan reg repo layers) few fit = few
after_few before (line.Manifest reg repo tag media text) few fit = few
after_few before (line.Break reg repo honest stored) few fit = few
after_few before (line.Fault lane reg op lands) few fit = few
after_few before (line.Change lane reg op repo tag to) few fit = few
after_few before (line.Jobs jobs) few fit = fit
after_few before (line.Event event) few fit = few

said_few : (before : ℕ) (lines : List Numbered) → IsJobLimit before → AreFit lines → IsJobLimit (jobs_said before lines)
said_few before [] few fit = few
said_few before (one ∷ rest) few fit = said_few (jobs_after before one.line) rest (after_few before one.line few fit.0) fit.1

pub opened_few : (lines : List Numbered) (opened : Opened) → AreFit lines → Opens lines opened → IsJobLimit opened.jobs
opened_few lines opened fit is =
    subst IsJobLimit (sym is.jobs) (said_few jobs_unsaid lines (record { some = omega arith; few = omega arith }) fit)
