-- Each field that was taken leaves the fault where it is, and the one that was not is the fault.
use Rattle.std.proofs.Common.{[], ◌∷◌, ◌≡◌, ◌∙◌, ap, refl, sym, Err, None, option_copied}
use Rattle.std.proofs.lemmas.Result.{err_from_is_err_and}
use Rattle.hr_text.specs.Cutting.{pieces_left}
use Rattle.hr_periodic.specs.declared.cron.CronRefused.TheVariants.{Field as BadField}
use Rattle.hr_periodic.specs.Reading.{space, AreFields, first_fault, fault_of}
use Rattle.hr_periodic.proofs.ReadingLemmas.{refused_exit, nothing_left, seventh_left, after_1, after_2, after_3, after_4, after_5}
use Rattle.hr_periodic.proofs.cron.Cron.read.Goals as goal

pub returns-in_err-second : goal.returns-in_err-second
returns-in_err-second c =
    let p = err_from_is_err_and c.from_residual.result c.from_residual.ensures.1 in
    let fault = c.in_err-second.ensures.fault after_1 in
    let exit = refused_exit c.args.text.now c.from_residual.result 1 p.0 p.1 (p.2 ∙ fault.1) (fault.0) in
    record { ok = exit.0; faults = exit.1; err = exit.2 }

pub returns-in_err-minute : goal.returns-in_err-minute
returns-in_err-minute c =
    let p = err_from_is_err_and c.from_residual-in_err-minute.result c.from_residual-in_err-minute.ensures.1 in
    let fault = c.in_err-minute.ensures.fault after_2 in
    let exit = refused_exit c.args.text.now c.from_residual-in_err-minute.result 2 p.0 p.1 (p.2 ∙ fault.1) (c.in_ok-second.ensures.fault after_1 ∙ fault.0) in
    record { ok = exit.0; faults = exit.1; err = exit.2 }

pub returns-in_err-hour : goal.returns-in_err-hour
returns-in_err-hour c =
    let p = err_from_is_err_and c.from_residual-in_err-hour.result c.from_residual-in_err-hour.ensures.1 in
    let fault = c.in_err-hour.ensures.fault after_3 in
    let exit = refused_exit c.args.text.now c.from_residual-in_err-hour.result 3 p.0 p.1 (p.2 ∙ fault.1) (c.in_ok-second.ensures.fault after_1 ∙ c.in_ok-minute.ensures.fault after_2 ∙ fault.0) in
    record { ok = exit.0; faults = exit.1; err = exit.2 }

pub returns-in_err-day : goal.returns-in_err-day
returns-in_err-day c =
    let p = err_from_is_err_and c.from_residual-in_err-day.result c.from_residual-in_err-day.ensures.1 in
    let fault = c.in_err-day.ensures.fault after_4 in
    let exit = refused_exit c.args.text.now c.from_residual-in_err-day.result 4 p.0 p.1 (p.2 ∙ fault.1) (c.in_ok-second.ensures.fault after_1 ∙ c.in_ok-minute.ensures.fault after_2 ∙ c.in_ok-hour.ensures.fault after_3 ∙ fault.0) in
    record { ok = exit.0; faults = exit.1; err = exit.2 }

pub returns-in_err-month : goal.returns-in_err-month
returns-in_err-month c =
    let p = err_from_is_err_and c.from_residual-in_err-month.result c.from_residual-in_err-month.ensures.1 in
    let fault = c.in_err-month.ensures.fault after_5 in
    let exit = refused_exit c.args.text.now c.from_residual-in_err-month.result 5 p.0 p.1 (p.2 ∙ fault.1) (c.in_ok-second.ensures.fault after_1 ∙ c.in_ok-minute.ensures.fault after_2 ∙ c.in_ok-hour.ensures.fault after_3 ∙ c.in_ok-day.ensures.fault after_4 ∙ fault.0) in
    record { ok = exit.0; faults = exit.1; err = exit.2 }

pub returns-in_err-weekday : goal.returns-in_err-weekday
returns-in_err-weekday c =
    let p = err_from_is_err_and c.from_residual-in_err-weekday.result c.from_residual-in_err-weekday.ensures.1 in
    let fault = c.in_err-weekday.ensures.fault [] in
    let exit = refused_exit c.args.text.now c.from_residual-in_err-weekday.result 6 p.0 p.1 (p.2 ∙ fault.1) (c.in_ok-second.ensures.fault after_1 ∙ c.in_ok-minute.ensures.fault after_2 ∙ c.in_ok-hour.ensures.fault after_3 ∙ c.in_ok-day.ensures.fault after_4 ∙ c.in_ok-month.ensures.fault after_5 ∙ fault.0) in
    record { ok = exit.0; faults = exit.1; err = exit.2 }

pub returns-then-is_some : goal.returns-then-is_some
returns-then-is_some c =
    let left = seventh_left c.in_ok-weekday.rest (sym c.is_some.ensures ∙ c.if-is_some.true) in
    let exit = refused_exit c.args.text.now (Err (BadField 7)) 7 (BadField 7) refl refl (c.in_ok-second.ensures.fault after_1 ∙ c.in_ok-minute.ensures.fault after_2 ∙ c.in_ok-hour.ensures.fault after_3 ∙ c.in_ok-day.ensures.fault after_4 ∙ c.in_ok-month.ensures.fault after_5 ∙ c.in_ok-weekday.ensures.fault [] ∙ left) in
    record { ok = exit.0; faults = exit.1; err = exit.2 }

pub returns-clause-ok : goal.returns-clause-ok
returns-clause-ok c =
    let nothing = nothing_left c.in_ok-weekday.rest (sym c.is_some.ensures ∙ c.if-is_some.false) in
    let last : AreFields [] (pieces_left space (option_copied c.in_ok-weekday.rest)) [] = rw nothing tt in
    c.in_ok-second.ensures.ok after_1 (c.in_ok-minute.minute ∷ c.in_ok-hour.hour ∷ c.in_ok-day.day ∷ c.in_ok-month.month ∷ c.in_ok-weekday.weekday ∷ []) (c.in_ok-minute.ensures.ok after_2 (c.in_ok-hour.hour ∷ c.in_ok-day.day ∷ c.in_ok-month.month ∷ c.in_ok-weekday.weekday ∷ []) (c.in_ok-hour.ensures.ok after_3 (c.in_ok-day.day ∷ c.in_ok-month.month ∷ c.in_ok-weekday.weekday ∷ []) (c.in_ok-day.ensures.ok after_4 (c.in_ok-month.month ∷ c.in_ok-weekday.weekday ∷ []) (c.in_ok-month.ensures.ok after_5 (c.in_ok-weekday.weekday ∷ []) (c.in_ok-weekday.ensures.ok [] [] (last))))))

pub returns-clause-faults : goal.returns-clause-faults
returns-clause-faults c =
    let nothing = nothing_left c.in_ok-weekday.rest (sym c.is_some.ensures ∙ c.if-is_some.false) in
    let none : fault_of c.args.text.now ≡ None = c.in_ok-second.ensures.fault after_1 ∙ c.in_ok-minute.ensures.fault after_2 ∙ c.in_ok-hour.ensures.fault after_3 ∙ c.in_ok-day.ensures.fault after_4 ∙ c.in_ok-month.ensures.fault after_5 ∙ c.in_ok-weekday.ensures.fault [] ∙ ap (first_fault [] 7) nothing in
    (λ _. none, λ _. refl)
