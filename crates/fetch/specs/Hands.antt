-- What the code of fetch hands on; no entry point's contract speaks of it.
use Rattle.suites.specs.Answer.{Answer}
use Rattle.std.specs.Prelude.{◌≡◌, List, ℕ, Ok, Err}
use Rattle.sealing.specs.Seal.{written}
use Rattle.fetch.specs.Fetch.{handed_out, fetch_report, placed_report, FetchAnswer, PlacedAnswer}

-- an answer, and what is left of the output, as an outcome and a text give them
abbrev pub Hands : Answer → List ℕ → List ℕ → FetchAnswer → List ℕ → Type 0
Hands a t out r left = (r ≡ fetch_report a t) × (left ≡ written a (handed_out t) out)

-- and with the place of the next unit
abbrev pub HandsNext : Answer → List ℕ → ℕ → List ℕ → PlacedAnswer → List ℕ → Type 0
HandsNext a t next out r left = (r ≡ placed_report a t next) × (left ≡ written a (handed_out t) out)

abbrev pub with_next : FetchAnswer → ℕ → PlacedAnswer
with_next (Ok l) next = Ok (record { lengths = l; next = next })
with_next (Err why) next = Err why

abbrev pub without_next : PlacedAnswer → FetchAnswer
without_next (Ok f) = Ok f.lengths
without_next (Err why) = Err why
