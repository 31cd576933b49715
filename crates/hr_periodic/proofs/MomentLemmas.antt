-- A moment's date is that of its day number, and its time of day what is left.
use Rattle.std.proofs.Common.{◌≡◌, ℕ, ◌+◌, ◌*◌, ◌/◌, ◌%◌, ◌<◌, ◌≤◌, Bool, true, false, ◌&&◌, refl, sym, ap, ◌∙◌, subst, arith, inl, inr, pos, ◌+ℤ◌, ◌*ℤ◌}
use Rattle.std.proofs.lemmas.Bool.{both_ways, cases_lt}
use Rattle.jiff_core.specs.declared.civil.date.Date.{Date}
use Rattle.jiff_core.specs.declared.civil.time.Time.{Time}
use Rattle.jiff_core.specs.declared.civil.datetime.DateTime.{DateTime}
use Rattle.jiff_core.specs.Date.{epoch_day, weekday_of}
use Rattle.jiff_core.specs.Calendar.{weekday_number}
use Rattle.jiff_core.specs.DateTime.{civil_seconds}
use Rattle.jiff_core.specs.Time.{time_seconds}
use Rattle.jiff_core.proofs.DateLemmas.{epoch_day_injective}
use Rattle.jiff_core.proofs.SignedLemmas.{signed_arith}
use Rattle.hr_periodic.specs.declared.cron.Cron.{Cron}
use Rattle.hr_periodic.specs.Cron.{fits_date, fits_time, days_fit, Matches, IsNextMatch, HasNoMatch}
use Rattle.hr_periodic.specs.Field.{has}
use Rattle.hr_periodic.specs.Steps.{fits_day, DayFits, NonePasses, IsLeast, IsFirst, NoMatch}

-- what a clock shows so many seconds after midnight
abbrev clock_at : (s : ℕ) → s < 86_400 → Time
clock_at s h = record {
  hour = s / 3600;
  minute = s % 3600 / 60;
  second = s % 3600 % 60;
  subsec_nanosecond = 0;
  hour_in = omega arith;
  minute_in = omega arith;
  second_in = omega arith;
  subsec_in = omega arith;
}

civil_seconds-parts : (civil : DateTime) → civil_seconds civil ≡ epoch_day civil.date *ℤ pos 86_400 +ℤ pos (time_seconds civil.time)
unfolding civil_seconds
civil_seconds-parts civil = refl

-- two dates of one day number fit alike
fits_date-same : (cron : Cron) (a b : Date) → epoch_day a ≡ epoch_day b → fits_date cron a ≡ fits_date cron b
fits_date-same cron a b e =
    let same = epoch_day_injective a b e in
    let weekday : weekday_of a ≡ weekday_of b = ap weekday_number e in
    let month : has cron.month a.month ≡ has cron.month b.month = ap (has cron.month) same.1 in
    let day : has cron.day a.day ≡ has cron.day b.day = ap (has cron.day) same.2 in
    let week : has cron.weekday ((weekday_of a + 1) % 7) ≡ has cron.weekday ((weekday_of b + 1) % 7) = ap (λ n. has cron.weekday ((n + 1) % 7)) weekday in
    ap (λ x. x && days_fit cron (has cron.day a.day) (has cron.weekday ((weekday_of a + 1) % 7))) month
    ∙ ap (λ x. has cron.month b.month && days_fit cron x (has cron.weekday ((weekday_of a + 1) % 7))) day
    ∙ ap (λ x. has cron.month b.month && days_fit cron (has cron.day b.day) x) week

-- a second of a day that fits is a match
pub matches_from : (cron : Cron) (day s : ℕ) → s < 86_400 → DayFits cron day true → fits_day cron s ≡ true → Matches cron (day * 86_400 + s)
matches_from cron day s h on time =
    let civil : DateTime = record { date = on.date; time = clock_at s h } in
    let parts : civil_seconds civil ≡ epoch_day on.date *ℤ pos 86_400 +ℤ pos (time_seconds (clock_at s h)) = civil_seconds-parts civil in
    let number : epoch_day on.date ≡ pos day = on.is in
    record {
      civil = civil;
      is = parts ∙ ap (λ n. n *ℤ pos 86_400 +ℤ pos (time_seconds (clock_at s h))) number ∙ ap pos (omega arith);
      date = on.fits;
      time = time;
    }

time_seconds-at : (t : Time) (s : ℕ) → time_seconds t ≡ s → (t.hour ≡ s / 3600) × (t.minute ≡ s % 3600 / 60) × (t.second ≡ s % 3600 % 60)
time_seconds-at t s e = (omega arith, omega arith, omega arith)

-- a match is on a day that fits, at a second that fits
pub parts_from : (cron : Cron) (moment : ℕ) (answer : Bool) → Matches cron moment → DayFits cron (moment / 86_400) answer → (answer ≡ true) × (fits_day cron (moment % 86_400) ≡ true)
parts_from cron moment answer m on =
    let civil = m.civil in
    let parts = civil_seconds-parts m.civil in
    let is = m.is in
    let seconds : time_seconds m.civil.time < 86_400 = omega arith in
    let day : epoch_day m.civil.date ≡ pos (moment / 86_400) = omega (arith, signed_arith) in
    let rest : time_seconds m.civil.time ≡ moment % 86_400 = omega (arith, signed_arith) in
    let shown = time_seconds-at m.civil.time (moment % 86_400) rest in
    let time : fits_time cron m.civil.time ≡ fits_day cron (moment % 86_400) =
    ap (λ x. has cron.hour x && (has cron.minute m.civil.time.minute && has cron.second m.civil.time.second)) shown.0
    ∙ ap (λ x. has cron.hour (moment % 86_400 / 3600) && (has cron.minute x && has cron.second m.civil.time.second)) shown.1
    ∙ ap (λ x. has cron.hour (moment % 86_400 / 3600) && (has cron.minute (moment % 86_400 % 3600 / 60) && has cron.second x)) shown.2 in
    (sym on.fits ∙ fits_date-same cron on.date m.civil.date (on.is ∙ sym day) ∙ m.date, sym time ∙ m.time)

-- a date in a month that matches fits as its two days do
pub fits_date-when : (cron : Cron) (date : Date) (day weekday answer : Bool) (number : ℕ) → has cron.month date.month ≡ true → day ≡ has cron.day date.day → number ≡ (weekday_of date + 1) % 7 → weekday ≡ has cron.weekday number → answer ≡ days_fit cron day weekday → fits_date cron date ≡ answer
fits_date-when cron date day weekday answer number month d n w a =
    let week : weekday ≡ has cron.weekday ((weekday_of date + 1) % 7) = w ∙ ap (has cron.weekday) n in
    ap (λ x. x && days_fit cron (has cron.day date.day) (has cron.weekday ((weekday_of date + 1) % 7))) month
    ∙ ap (λ x. days_fit cron x (has cron.weekday ((weekday_of date + 1) % 7))) (sym d)
    ∙ ap (λ x. days_fit cron day x) (sym week)
    ∙ sym a

on_day : (cron : Cron) (a b : ℕ) (answer : Bool) → a ≡ b → DayFits cron a answer → DayFits cron b answer
on_day cron a b answer e on = let P : ℕ → Type 0 = λ n. DayFits cron n answer in subst P e on

-- the least second that fits, on a day that fits, is the first match of the day
pub first_from : (cron : Cron) (moment second : ℕ) (answer : Bool) → DayFits cron (moment / 86_400) answer → answer ≡ true → IsLeast (fits_day cron) (moment % 86_400) 86_400 second → IsFirst cron moment (moment / 86_400 * 86_400 + second)
first_from cron moment second answer on fit found =
    let P : Bool → Type 0 = λ b. DayFits cron (moment / 86_400) b in
    let fits : DayFits cron (moment / 86_400) true = subst P fit on in
    let low = found.from in
    let high = found.below in
    record {
      from = omega arith;
      matches = matches_from cron (moment / 86_400) second found.below fits found.passes;
      least = λ k from below m.
          let same : moment / 86_400 ≡ k / 86_400 = omega arith in
          let passes = (parts_from cron k true m (on_day cron _ _ true same fits)).1 in
          let fails : fits_day cron (k % 86_400) ≡ false = found.least (k % 86_400) (omega arith) (omega arith) in
          both_ways _ fails passes;
    }

-- where the day doesn't fit, no moment of it matches
pub none_on_day : (cron : Cron) (moment : ℕ) (answer : Bool) → DayFits cron (moment / 86_400) answer → answer ≡ false → NoMatch cron moment ((moment / 86_400 + 1) * 86_400)
none_on_day cron moment answer on unfit k from below m =
    let same : moment / 86_400 ≡ k / 86_400 = omega arith in
    both_ways answer unfit (parts_from cron k answer m (on_day cron _ _ answer same on)).0

-- where no second of the day is left that fits, no moment of it is left that matches
pub none_left : (cron : Cron) (moment : ℕ) (answer : Bool) → DayFits cron (moment / 86_400) answer → NonePasses (fits_day cron) (moment % 86_400) 86_400 → NoMatch cron moment ((moment / 86_400 + 1) * 86_400)
none_left cron moment answer on none k from below m =
    let same : moment / 86_400 ≡ k / 86_400 = omega arith in
    let fails : fits_day cron (k % 86_400) ≡ false = none (k % 86_400) (omega arith) (omega arith) in
    both_ways _ fails (parts_from cron k answer m (on_day cron _ _ answer same on)).1

-- the first match from the moment after is the next one, where it is near enough
pub next_from : (cron : Cron) (after moment until found : ℕ) → after < moment → NoMatch cron (after + 1) moment → IsFirst cron moment found → found ≤ until → IsNextMatch cron after until found
next_from cron after moment until found above none first within =
    let from = first.from in
    record {
      above = omega arith;
      within = within;
      matches = first.matches;
      least = λ k low m. elim (cases_lt k found) [
        | inr reached ↦ reached
        | inl less ↦ elim (cases_lt k moment) [
          | inl before ↦ absurd (none k (omega arith) before m)
          | inr later ↦ absurd (first.least k later less m)
        ]
      ];
    }

-- what is not found up to a later moment is not found
pub none_later : (cron : Cron) (low middle high : ℕ) → NoMatch cron low middle → NoMatch cron middle high → NoMatch cron low high
none_later cron low middle high first then k from below m =
    elim (cases_lt k middle) [ inl before ↦ first k from before m | inr later ↦ then k later below m ]

-- where the first match is too far, there is no next one
pub no_next_from : (cron : Cron) (after until moment found : ℕ) → NoMatch cron (after + 1) moment → IsFirst cron moment found → until < found → HasNoMatch cron after until
no_next_from cron after until moment found none first far k low high m =
    none_later cron (after + 1) moment found none first.least k (omega arith) (omega arith) m

pub no_next_left : (cron : Cron) (after until moment : ℕ) → NoMatch cron (after + 1) moment → until < moment → HasNoMatch cron after until
no_next_left cron after until moment none far k low high m = none k (omega arith) (omega arith) m
