use Rattle.hr_ruled.proofs.tests.one_job_gets_the_same_answers_on_both_boards.Given as goal

abbrev pub ghosts-by_seats : goal.ghosts-by_seats
ghosts-by_seats g a = record { table = a.opened.table }
