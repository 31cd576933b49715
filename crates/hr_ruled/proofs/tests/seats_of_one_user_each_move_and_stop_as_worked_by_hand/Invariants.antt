use Rattle.hr_ruled.proofs.tests.seats_of_one_user_each_move_and_stop_as_worked_by_hand.Given as goal

abbrev pub ghosts-worked : goal.ghosts-worked
ghosts-worked g a = record { table = a.opened.table }
