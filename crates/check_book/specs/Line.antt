-- The line that the program prints. "From standard input a program reads 16 key bytes (fewer give refusal 2), then a book of at most 65,504
-- bytes, and prints one line ended by a line feed: `ok units=1 calls=7` (decimal; case 8's book) or `refused 8` (the refusal), or `too long`
-- for a longer book."
use Rattle.std.specs.Prelude.{cond, List, ◌++◌, ℕ, ◌+◌, leb, length, take, drop, Ok, Err}
use Rattle.decimal.specs.Ascii.{ascii}
use Rattle.decimal.specs.Decimal.{digits}
use Rattle.suites.specs.Refusal.{number}
use Rattle.checker.specs.Check.{check_answer, CheckAnswer}

abbrev pub longest_book : ℕ
longest_book = 65504

-- the line for an answer of check
abbrev pub answer_line : CheckAnswer → List ℕ
answer_line (Ok t) = ascii "ok units=" ++ digits t.units ++ ascii " calls=" ++ digits t.calls ++ ascii "\n"
answer_line (Err why) = ascii "refused " ++ digits (number why) ++ ascii "\n"

-- the line for the bytes that were read: the key is the first 16 of them, or as many as there are
unfoldable pub line : List ℕ → List ℕ
line input = cond (leb (length input) (16 + longest_book)) (answer_line (check_answer (take 16 input) (drop 16 input))) (ascii "too long\n")
