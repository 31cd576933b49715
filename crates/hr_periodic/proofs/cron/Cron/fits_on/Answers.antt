-- The day number's date is the one that jiff gives.
use Rattle.std.proofs.Common.{◌≡◌, ◌+◌, ◌%◌, ap, sym, ◌∙◌, arith, w64}
use Rattle.std.proofs.lemmas.Int.{to_z_pos}
use Rattle.jiff_core.specs.Date.{weekday_of}
use Rattle.hr_periodic.proofs.MomentLemmas.{fits_date-when}
use Rattle.hr_periodic.proofs.cron.Cron.fits_on.Goals as goal

pub returns-then-has : goal.returns-then-has
returns-then-has c =
    let number = rw c.unwrap-date.ensures at c.from_unix_epoch_day.ensures.value in
    let weekday : c.index-weekday.result ≡ (weekday_of c.unwrap-date.result + 1) % 7 =
    c.index-weekday.ensures.value ∙ c.next.ensures ∙ ap (λ n. (n + 1) % 7) c.weekday.ensures in
    record {
      date = c.unwrap-date.result;
      is = number ∙ to_z_pos w64 _ (omega arith);
      fits = fits_date-when c.args.self.now c.unwrap-date.result c.has-then-has.result c.has-then-has-2.result c.either_day.result c.index-weekday.result (sym c.has.ensures ∙ c.if-has.true) c.has-then-has.ensures weekday c.has-then-has-2.ensures c.either_day.ensures;
    }

pub returns-else-has : goal.returns-else-has
returns-else-has c =
    let number = rw c.unwrap-date.ensures at c.from_unix_epoch_day.ensures.value in
    let off = sym c.has.ensures ∙ c.if-has.false in
    record {
      date = c.unwrap-date.result;
      is = number ∙ to_z_pos w64 _ (omega arith);
      fits = rw off (sym c.if-has.false);
    }
