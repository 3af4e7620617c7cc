-- Besides the scope: what the fields of a unit say in the clear. No key is needed, and no seal is tested.
use Rattle.suites.specs.Answer.{Answer}
use Rattle.parser.specs.FrameAnswer.{FrameAnswer}
use Rattle.parser.specs.declared.frame.Frame.TheVariants.{Close, Unit}
use Rattle.std.specs.Prelude.{List, ◌++◌, ℕ, ◌+◌, length, take, drop, replicate, Result, Ok, Err}
use Rattle.suites.specs.declared.refusal.Refusal.{Refusal}
use Rattle.suites.specs.declared.refusal.Refusal.TheVariants.{NoSuchUnit}
use Rattle.fields.specs.Kind.{Kind}
use Rattle.kinds.specs.Kind.{kind_of, book_kind}
use Rattle.kinds.specs.Lengths.{frame_length}
use Rattle.parser.specs.Frame.{frame_from, frame_to, frame_at}
use Rattle.opening_fields.specs.Opening.{after_opening, opening_tests}
use Rattle.walk.specs.declared.clear.Code.{Code}
use Rattle.walk.specs.declared.clear.Clear.{Clear}
use Rattle.walk.specs.Ciphertext.{part_at}
use Rattle.walk.specs.Walk.{walk_to}

-- what the fields of a unit say, or the refusal
abbrev pub ClearAnswer : Type 0
ClearAnswer = Result Clear Refusal

-- a language code: its letters, then zeros up to 4 bytes, and how many letters it has
abbrev pub code_of : List ℕ → Code
code_of c = record { bytes = take 4 (c ++ replicate 4 0); len = length c }

-- of a unit that begins at byte `at` of the book, where the bytes s stand, and whose ciphertext has m bytes: its place, its language codes, the
-- place and the length of its ciphertext, and where the next unit or the close begins
abbrev pub unit_says : Kind → ℕ → List ℕ → ℕ → Clear
unit_says kind at s m =
    record {
      at = at;
      from = code_of (frame_from kind s);
      to = code_of (frame_to kind s);
      ciphertext = part_at kind at (Ok (Unit m));
      next = at + frame_length kind m;
    }

-- of a frame there; nothing is said with a refusal
abbrev pub clear_of : Kind → ℕ → List ℕ → FrameAnswer → ClearAnswer
clear_of kind at s (Ok (Unit m)) = Ok (unit_says kind at s m)
clear_of kind at s (Ok Close) = Err NoSuchUnit
clear_of kind at s (Err why) = Err why

abbrev pub clear_unless : Answer → ClearAnswer → ClearAnswer
clear_unless (Ok tt) clear = clear
clear_unless (Err why) clear = Err why

-- of unit n, where its header stands at byte `at` of a book s of a kind: refused as fetch refuses the opening fields and the frame; 16 where a
-- close stands there
unfoldable pub placed_clear_of : Kind → ℕ → ℕ → List ℕ → ClearAnswer
placed_clear_of kind n at s = clear_unless (opening_tests s) (clear_of kind at (drop at s) (frame_at kind n (drop at s)))

-- of unit k, to which a walk leads
unfoldable pub unit_clear_of : Kind → ℕ → List ℕ → ClearAnswer
unit_clear_of kind k s = let p = walk_to kind k (after_opening s) in placed_clear_of kind p.number (16 + p.at) s

-- the same of a book s, whose bytes say its kind
unfoldable pub placed_clear : ℕ → ℕ → List ℕ → ClearAnswer
placed_clear n at s = placed_clear_of (kind_of (book_kind s)) n at s

unfoldable pub unit_clear : ℕ → List ℕ → ClearAnswer
unit_clear k s = unit_clear_of (kind_of (book_kind s)) k s
