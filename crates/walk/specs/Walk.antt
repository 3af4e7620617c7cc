-- "Fetch k walks units 0 to k−1 without their seals, opens unit k .."
use Rattle.parser.specs.FrameAnswer.{FrameAnswer}
use Rattle.parser.specs.declared.frame.Frame.TheVariants.{Close, Unit}
use Rattle.std.specs.Prelude.{List, ℕ, zero, suc, ◌+◌, drop, Ok, Err}
use Rattle.fields.specs.Kind.{Kind}
use Rattle.kinds.specs.Lengths.{frame_length}
use Rattle.parser.specs.Frame.{frame_at}
use Rattle.walk.specs.declared.Place.{Place}

-- past a unit whose ciphertext has m bytes
abbrev pub next_place : Kind → ℕ → Place → Place
next_place kind m p = record { number = suc p.number; at = p.at + frame_length kind m }

-- the walk goes on past a unit and stops at anything else
abbrev pub past_unit : FrameAnswer → (ℕ → Place) → Place → Place
past_unit (Ok (Unit m)) past here = past m
past_unit (Ok Close) past here = here
past_unit (Err why) past here = here

-- past k units at most, from a place of s on
unfoldable pub walk_on : Kind → ℕ → Place → List ℕ → Place
walk_on kind zero p s = p
walk_on kind (suc k) p s = past_unit (frame_at kind p.number (drop p.at s)) (λ (m : ℕ). walk_on kind k (next_place kind m p) s) p

abbrev pub first_place : Place
first_place = record { number = 0; at = 0 }

-- where the walk to unit k ends; s are the bytes of a book behind its opening fields
unfoldable pub walk_to : Kind → ℕ → List ℕ → Place
walk_to kind k s = walk_on kind k first_place s
