use Rattle.hr_ruled.proofs.tests.stress.the_words_at_the_end_are_what_each_thread_was_told.Given as goal

abbrev pub ghosts-stressed : goal.ghosts-stressed
ghosts-stressed g a = record { table = a.opened.table }
