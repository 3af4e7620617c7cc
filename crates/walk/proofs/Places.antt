-- The places of a walk: its turns, and that what they lead to stands within the book.
use Rattle.suites.specs.Answer.{Answer}
use Rattle.parser.specs.FrameAnswer.{FrameAnswer}
use Rattle.parser.specs.declared.frame.Frame.TheVariants.{Close, Unit}
use Rattle.std.specs.Prelude.{Some, None, Ok, Err}
use mathlib.Core.Path.{◌≡◌, refl, sym, ap, ◌∙◌}
use mathlib.Core.Bool.{Bool, true, false}
use mathlib.Core.List.{List}
use Prim.Native.Nat.{ℕ, zero, suc, ◌+◌, ◌-◌, ◌≤◌, ◌<◌, min}
use native.Mathlib.Nat.{zero-add}
use native.Mathlib.Omega.{arith}
use borrow.Author.Tests.{leb-true, leb-false}
use lib.Dec.{leb}
use lib.ListN.{length, drop, length-drop, drop_of_length-le}
use lib.Seq.{drop-drop}
use Rattle.fields.specs.Kind.{Kind}
use Rattle.kinds.specs.Kind.{kind_of, book_kind}
use Rattle.kinds.specs.Lengths.{frame_length}
use Rattle.parser.specs.Frame.{frame_at, ciphertext_of}
use Rattle.opening_fields.specs.Opening.{after_opening, opening_tests}
use Rattle.parser.proofs.Frames.{unit_told}
use Rattle.opening_fields.proofs.Openings.{opening_passed}
use Rattle.walk.specs.declared.Place.{Place}
use Rattle.walk.specs.Walk.{next_place, past_unit, walk_on, first_place, walk_to}
use Rattle.walk.specs.declared.ciphertext.Part.{Part}
use Rattle.walk.specs.Clear.{ClearAnswer, clear_of, clear_unless, placed_clear_of, unit_clear_of, unit_clear}
use Rattle.walk.specs.Ciphertext.{empty_part, part_at, part_from, part_unless, ciphertext_place_of, ciphertext_place}

-- from a place past the end on, as from the end, nothing stands
pub drop_least : (at : ℕ) (s : List ℕ) → drop (min at (length s)) s ≡ drop at s
drop_least at s = by (leb at (length s)) refl
  where
    by : (b : Bool) → leb at (length s) ≡ b → drop (min at (length s)) s ≡ drop at s
    by true e = let within : min at (length s) ≡ at = omega (arith, leb-true at (length s) e) in ap (λ (k : ℕ). drop k s) within
    by false e =
        let past = leb-false at (length s) e in
        drop_of_length-le s {i = min at (length s)} (omega arith) ∙ sym (drop_of_length-le s {i = at} (omega arith))

-- a frame with a ciphertext is a unit, and one without stops the walk
pub unit_of_lem : (f : FrameAnswer) (m : ℕ) → Some m ≡ ciphertext_of f → f ≡ Ok (Unit m)
unit_of_lem (Ok (Unit k)) m e = cc
unit_of_lem (Ok Close) m e = let z : ◌≡◌ {A = ℕ} 0 1 = cc in absurd (omega arith)
unit_of_lem (Err why) m e = let z : ◌≡◌ {A = ℕ} 0 1 = cc in absurd (omega arith)

pub stops : (f : FrameAnswer) (past : ℕ → Place) (here : Place) → None ≡ ciphertext_of f → past_unit f past here ≡ here
stops (Ok (Unit m)) past here e = let z : ◌≡◌ {A = ℕ} 0 1 = cc in absurd (omega arith)
stops (Ok Close) past here e = refl
stops (Err why) past here e = refl

module _ (kind : Kind) (s : List ℕ) where
  -- by the frame at the place
  pub walk_step : (k : ℕ) (p : Place) (f : FrameAnswer) → frame_at kind p.number (drop p.at s) ≡ f
      → walk_on kind (suc k) p s ≡ past_unit f (λ (m : ℕ). walk_on kind k (next_place kind m p) s) p
  unfolding walk_on
  walk_step k p f e = λ i. past_unit (e i) (λ (m : ℕ). walk_on kind k (next_place kind m p) s) p

  -- a unit ends within the bytes that it stands in
  pub unit_within : (n at m : ℕ) → at ≤ length s → frame_at kind n (drop at s) ≡ Ok (Unit m) → at + frame_length kind m ≤ length s
  unit_within n at m h e = omega (arith, (unit_told kind n m (drop at s) e).length_is, length-drop at s)

  -- the walk stays within them
  past-within : (p : Place) (past : ℕ → Place) (f : FrameAnswer) → frame_at kind p.number (drop p.at s) ≡ f → p.at ≤ length s
      → ((m : ℕ) → (next_place kind m p).at ≤ length s → (past m).at ≤ length s) → (past_unit f past p).at ≤ length s
  past-within p past (Ok (Unit m)) e h on = on m (unit_within p.number p.at m h e)
  past-within p past (Ok Close) e h on = h
  past-within p past (Err why) e h on = h

  walk-within : (k : ℕ) (p : Place) → p.at ≤ length s → (walk_on kind k p s).at ≤ length s
  unfolding walk_on
  walk-within zero p h = h
  walk-within (suc k) p h =
      past-within p (λ (m : ℕ). walk_on kind k (next_place kind m p) s) (frame_at kind p.number (drop p.at s)) refl h
      (λ m next. walk-within k (next_place kind m p) next)

  -- a walk that ends at a unit has gone past as many as it was to
  past-count : (k : ℕ) (p : Place) (past : ℕ → Place) (f : FrameAnswer) → frame_at kind p.number (drop p.at s) ≡ f
      → ((m l : ℕ) → frame_at kind (past m).number (drop (past m).at s) ≡ Ok (Unit l) → (past m).number ≡ suc p.number + k)
      → (l : ℕ) → frame_at kind (past_unit f past p).number (drop (past_unit f past p).at s) ≡ Ok (Unit l) → (past_unit f past p).number ≡ p.number + suc k
  past-count k p past (Ok (Unit m)) e on l u = on m l u ∙ omega arith
  past-count k p past (Ok Close) e on l u = let z : ◌≡◌ {A = ℕ} 0 1 = cc in absurd (omega arith)
  past-count k p past (Err why) e on l u = let z : ◌≡◌ {A = ℕ} 0 1 = cc in absurd (omega arith)

  walk-count : (k : ℕ) (p : Place) (l : ℕ) → frame_at kind (walk_on kind k p s).number (drop (walk_on kind k p s).at s) ≡ Ok (Unit l)
      → (walk_on kind k p s).number ≡ p.number + k
  unfolding walk_on
  walk-count zero p l u = omega arith
  walk-count (suc k) p l u =
      past-count k p (λ (m : ℕ). walk_on kind k (next_place kind m p) s) (frame_at kind p.number (drop p.at s)) refl
      (λ m. walk-count k (next_place kind m p)) l u

  pub walked_to : (k l : ℕ) → frame_at kind (walk_to kind k s).number (drop (walk_to kind k s).at s) ≡ Ok (Unit l) → (walk_to kind k s).number ≡ k
  unfolding walk_to
  walked_to k l u = walk-count k first_place l u ∙ zero-add k

  pub walked_within : (k : ℕ) → (walk_to kind k s).at ≤ length s
  unfolding walk_to
  walked_within k = walk-within k _ (omega arith)

  -- and so does the part of the frame at a place, where a bytes stand before them
  part-within : (a n at : ℕ) (f : FrameAnswer) → frame_at kind n (drop at s) ≡ f → at ≤ length s
      → (part_at kind (a + at) f).at + (part_at kind (a + at) f).len ≤ a + length s
  part-within a n at (Ok (Unit m)) e h = omega (arith, unit_within n at m h e)
  part-within a n at (Ok Close) e h = omega arith
  part-within a n at (Err why) e h = omega arith

-- the ciphertext of unit k stands within the book
pub ciphertext_within : (k : ℕ) (s : List ℕ) → (ciphertext_place k s).at + (ciphertext_place k s).len ≤ length s
unfolding ciphertext_place ciphertext_place_of part_from after_opening
ciphertext_within k s = by (opening_tests s) refl
  where
    by : (a : Answer) → opening_tests s ≡ a
        → let part = part_unless a (part_from (kind_of (book_kind s)) (walk_to (kind_of (book_kind s)) k (after_opening s)) s) in part.at + part.len ≤ length s
    by (Ok tt) e =
        let kind = kind_of (book_kind s) in
        let p = walk_to kind k (drop 16 s) in
        omega (
          arith,
          part-within kind (drop 16 s) 16 p.number p.at (frame_at kind p.number (drop p.at (drop 16 s))) refl
              (walked_within kind (drop 16 s) k),
          (opening_passed s e).1,
          length-drop 16 s,
        )
    by (Err why) e = omega arith

-- it is among what is said in the clear, and empty where nothing is
abbrev pub part_said : ClearAnswer → Part
part_said (Ok clear) = clear.ciphertext
part_said (Err why) = empty_part

clear_frame : (kind : Kind) (at : ℕ) (s : List ℕ) (f : FrameAnswer) → part_said (clear_of kind at s f) ≡ part_at kind at f
clear_frame kind at s (Ok (Unit m)) = refl
clear_frame kind at s (Ok Close) = refl
clear_frame kind at s (Err why) = refl

clear_part_of : (kind : Kind) (k : ℕ) (s : List ℕ) → part_said (unit_clear_of kind k s) ≡ ciphertext_place_of kind k s
unfolding unit_clear_of placed_clear_of ciphertext_place_of part_from after_opening
clear_part_of kind k s = by (opening_tests s)
  where
    by : (a : Answer)
        → let p = walk_to kind k (drop 16 s) in
        part_said (clear_unless a (clear_of kind (16 + p.at) (drop (16 + p.at) s) (frame_at kind p.number (drop (16 + p.at) s))))
        ≡ part_unless a (part_at kind (16 + p.at) (frame_at kind p.number (drop p.at (drop 16 s))))
    by (Ok tt) =
        let p = walk_to kind k (drop 16 s) in
        clear_frame kind (16 + p.at) (drop (16 + p.at) s) (frame_at kind p.number (drop (16 + p.at) s))
        ∙ ap (λ (r : List ℕ). part_at kind (16 + p.at) (frame_at kind p.number r)) (sym (drop-drop p.at 16 s))
    by (Err why) = refl

pub clear_part : (k : ℕ) (s : List ℕ) → part_said (unit_clear k s) ≡ ciphertext_place k s
unfolding unit_clear ciphertext_place
clear_part k s = clear_part_of (kind_of (book_kind s)) k s

-- the turns of the loop

abbrev pub place_of : ℕ → ℕ → Place
place_of number at = record { number = number; at = at }

module _ (kind : Kind) (k : ℕ) where
  -- the walk to unit k from a place of s on, where number units stand before it
  abbrev pub walk_from : ℕ → ℕ → List ℕ → Place
  walk_from number at s = walk_on kind (k - number) (place_of number at) s

  pub turn_first : (s : List ℕ) → walk_from 0 0 s ≡ walk_to kind k s
  unfolding walk_to
  turn_first s =
      let all : k - 0 ≡ k = omega arith in
      ap (λ (left : ℕ). walk_on kind left (place_of 0 0) s) all

  module _ (number at : ℕ) (s : List ℕ) where
    pub turn_last : k ≤ number → walk_from number at s ≡ place_of number at
    unfolding walk_on
    turn_last h =
        let none : k - number ≡ 0 = omega arith in
        ap (λ (left : ℕ). walk_on kind left (place_of number at) s) none

    pub turn : number < k → (f : FrameAnswer) → frame_at kind number (drop at s) ≡ f
        → walk_from number at s ≡ past_unit f (λ (m : ℕ). walk_from (number + 1) (at + frame_length kind m) s) (place_of number at)
    turn more f e =
        let left : k - number ≡ suc (k - (number + 1)) = omega arith in
        let next : suc number ≡ number + 1 = omega arith in
        ap (λ (j : ℕ). walk_on kind j (place_of number at) s) left
        ∙ walk_step kind s (k - (number + 1)) (place_of number at) f e
        ∙ (λ i. past_unit f (λ (m : ℕ). walk_on kind (k - (number + 1)) (place_of (next i) (at + frame_length kind m)) s) (place_of number at))
