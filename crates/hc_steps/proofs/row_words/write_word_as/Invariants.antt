-- The page and the word of both steps.
use Rattle.hc_steps.proofs.row_words.write_word_as.Given as goal

abbrev pub ghosts-load_row_as : goal.ghosts-load_row_as
ghosts-load_row_as a = record { page = a.p.0; word = a.word }

abbrev pub ghosts-store_row_as : goal.ghosts-store_row_as
ghosts-store_row_as a = record { page = a.p.0; word = a.word }
