-- When a schedule matches, and which moment is the next one. A moment is in whole seconds since
-- 1970-01-01T00:00:00Z. (Our own, after the six fields of cron.)
use Rattle.std.specs.Prelude.{◌≡◌, ℕ, ◌+◌, ◌%◌, ◌<◌, ◌≤◌, Bool, ◌&&◌, ◌||◌, if◌then◌else◌, pos, IsTrue, Option, MatchOption}
use Rattle.jiff_core.specs.declared.civil.date.Date.{Date}
use Rattle.jiff_core.specs.declared.civil.time.Time.{Time}
use Rattle.jiff_core.specs.declared.civil.datetime.DateTime.{DateTime}
use Rattle.jiff_core.specs.Date.{weekday_of}
use Rattle.jiff_core.specs.DateTime.{civil_seconds}
use Rattle.hr_base.specs.declared.number.Moment.{Moment}
use Rattle.hr_periodic.specs.declared.cron.Cron.{Cron}
use Rattle.hr_periodic.specs.Field.{has}

-- Whether a day fits, by whether its day of the month and its day of the week match: where both
-- fields are restricted either may, else both must.
abbrev pub days_fit : Cron → Bool → Bool → Bool
days_fit cron day weekday =
    if cron.day.restricted && cron.weekday.restricted then day || weekday else day && weekday

-- Whether a schedule has a date: its month, and its day of the month and of the week from Sunday.
abbrev pub fits_date : Cron → Date → Bool
fits_date cron date =
    has cron.month date.month
    && days_fit cron (has cron.day date.day) (has cron.weekday ((weekday_of date + 1) % 7))

-- Whether a schedule has a time of day.
abbrev pub fits_time : Cron → Time → Bool
fits_time cron time =
    has cron.hour time.hour && (has cron.minute time.minute && has cron.second time.second)

-- A schedule has the date and the time that a clock in UTC shows at a moment.
pub record Matches (cron : Cron) (moment : ℕ) : Type 0 where
  pub civil : DateTime
  pub is : civil_seconds civil ≡ pos moment
  pub date : IsTrue (fits_date cron civil.date)
  pub time : IsTrue (fits_time cron civil.time)

-- A moment is the least match above another and at most a third.
pub record IsNextMatch (cron : Cron) (after until next : ℕ) : Type 0 where
  pub above : after < next
  pub within : next ≤ until
  pub matches : Matches cron next
  pub least : (moment : ℕ) → after < moment → Matches cron moment → next ≤ moment

-- No moment above one and at most another matches.
abbrev pub HasNoMatch : Cron → ℕ → ℕ → Type 0
HasNoMatch cron after until =
    (moment : ℕ) → after < moment → moment ≤ until → ¬ Matches cron moment

-- What is found between two moments is the least match above the first and at most the second, and
-- nothing where there is none.
abbrev pub FindsNext : Cron → ℕ → ℕ → Option Moment → Type 0
FindsNext cron after until found =
    MatchOption found
    (HasNoMatch cron after until) (λ next. IsNextMatch cron after until next.0)
