-- Scores of short segments, each worked out by hand from the request's words.
use Rattle.std.specs.Prelude.{◌≡◌, List, [], ◌∷◌, ℕ}
use Prim.Native.String.{String}
use Rattle.decimal.specs.Ascii.{ascii}
use Rattle.score.specs.Score.{score}

-- a source, a typed sentence, and the score of the two
pub record Case : Type 0 where
  pub source : String
  pub typed : String
  pub scored : ℕ

abbrev case : String → String → ℕ → Case
case s t n = record { source = s; typed = t; scored = n }

unfoldable pub cases : List Case
cases =
    -- the request's: val alv lve and val alv lve ves, 3 shared: 6,000 / 7
    case "valve" "valves" 857 ∷
    -- no runs: equal segments and others
    case "" "" 1000 ∷
    case "a" "a" 1000 ∷
    case "ab" "cd" 0 ∷
    case "a" "" 0 ∷
    -- no runs on one side only
    case "ab" "abc" 0 ∷
    case "" "valve" 0 ∷
    -- a run that one side has more often: aaa twice and 4 times, 2 shared: 4,000 / 6
    case "aaaa" "aaaaaa" 666 ∷
    case "aaaaaa" "aaaa" 666 ∷
    -- abc bca cab abc and abc, 1 shared: 2,000 / 5
    case "abcabc" "abc" 400 ∷
    -- ban ana nan ana and ana nan ana nas, 3 shared: 6,000 / 8
    case "banana" "ananas" 750 ∷
    []

-- every case holds
abbrev pub CasesHold : List Case → Type 0
CasesHold [] = Unit {0}
CasesHold (c ∷ l) = (score (ascii c.source) (ascii c.typed) ≡ c.scored) × CasesHold l
