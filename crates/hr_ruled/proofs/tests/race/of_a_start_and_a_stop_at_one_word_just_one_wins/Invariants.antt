use Rattle.hr_ruled.proofs.tests.race.of_a_start_and_a_stop_at_one_word_just_one_wins.Given as goal

abbrev pub ghosts-raced : goal.ghosts-raced
ghosts-raced g a = record { table = a.opened.table }
