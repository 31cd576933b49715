-- How the next match is found: by the day, and within it by hour, minute and second. (Our own.)
use Rattle.std.specs.Prelude.{◌≡◌, ℕ, ◌/◌, ◌%◌, ◌<◌, ◌≤◌, Bool, true, false, ◌&&◌, pos, Option, MatchOption}
use Rattle.jiff_core.specs.declared.civil.date.Date.{Date}
use Rattle.jiff_core.specs.Date.{epoch_day}
use Rattle.hr_periodic.specs.declared.cron.Cron.{Cron}
use Rattle.hr_periodic.specs.Field.{has}
use Rattle.hr_periodic.specs.Cron.{fits_date, Matches}

-- No number from one on and below another passes a test.
abbrev pub NonePasses : (ℕ → Bool) → ℕ → ℕ → Type 0
NonePasses test low high = (k : ℕ) → low ≤ k → k < high → test k ≡ false

-- A number is the least from one on and below another that passes a test.
pub record IsLeast (test : ℕ → Bool) (low high found : ℕ) : Type 0 where
  pub from : low ≤ found
  pub below : found < high
  pub passes : test found ≡ true
  pub least : NonePasses test low found

-- What is found is the least number from one on and below another that passes a test, and nothing
-- where none does.
abbrev pub Searches : (ℕ → Bool) → ℕ → ℕ → Option ℕ → Type 0
Searches test low high answer =
    MatchOption answer (NonePasses test low high) (IsLeast test low high)

-- Whether a number passes two tests, one of how many whole units it has and one of the rest.
abbrev pub both : (ℕ → Bool) → (ℕ → Bool) → ℕ → ℕ → Bool
both units rest unit k = units (k / unit) && rest (k % unit)

-- Whether a schedule has a second of an hour.
abbrev pub fits_hour : Cron → ℕ → Bool
fits_hour cron = both (has cron.minute) (has cron.second) 60

-- Whether a schedule has a second of a day.
abbrev pub fits_day : Cron → ℕ → Bool
fits_day cron = both (has cron.hour) (fits_hour cron) 3600

-- The answer is whether a schedule has the day of a number, counted from 1970-01-01.
pub record DayFits (cron : Cron) (day : ℕ) (answer : Bool) : Type 0 where
  pub date : Date
  pub is : epoch_day date ≡ pos day
  pub fits : fits_date cron date ≡ answer

-- No moment from one on and below another matches.
abbrev pub NoMatch : Cron → ℕ → ℕ → Type 0
NoMatch cron low high = (moment : ℕ) → low ≤ moment → moment < high → ¬ Matches cron moment

-- A moment is the least match from another on.
pub record IsFirst (cron : Cron) (low found : ℕ) : Type 0 where
  pub from : low ≤ found
  pub matches : Matches cron found
  pub least : NoMatch cron low found
