-- A page of which the rows of the first n units are put.
use mathlib.Core.Path.{◌≡◌, refl, sym, ap, ◌∙◌}
use mathlib.Core.List.{List, [], ◌++◌, append_assoc, append-nil}
use Prim.Native.Nat.{ℕ, suc, ◌+◌, ◌-◌, ◌*◌, ◌≤◌, ◌<◌}
use native.Mathlib.Omega.{arith}
use lib.ListN.{length, take, drop, length-drop, take-append-drop}
use lib.Seq.{drop-drop}
use Rattle.kinds.specs.declared.Kind.{Kind as BookKind}
use Rattle.kinds.specs.Kind.{kind_of}
use Rattle.kinds.specs.Lengths.{frame_length}
use Rattle.fields.specs.Kind.{Kind}
use Rattle.parser.specs.Frame.{after_unit}
use Rattle.seals.specs.Parts.{Under}
use Rattle.seals.proofs.Verified.{after_unit_is}
use Rattle.page.specs.Page.{row, rows, ciphertext_length, source_at, sources_from}
use Rattle.page.specs.Units.{UnitThere, Units, more}
use Rattle.page.proofs.Pages.{told_there, row_long, with_line, line_front, line_back, line_long}

pub record RowsDone (kind : Kind) (key o typed s : List ℕ) (units : ℕ) (old : List ℕ) (place at n : ℕ) (out : List ℕ) : Type 0 where
  pub few : n ≤ units
  pub at_is : at ≡ 12 * n
  pub within : place ≤ length s
  pub rest : Units kind key o (units - n) n (drop place s)
  pub whole : take at out ++ rows typed (sources_from kind key o (units - n) n (drop place s)) ≡ rows typed (sources_from kind key o units 0 s)
  pub behind : drop at out ≡ drop at old
  pub long : length out ≡ length old

-- the first of some units, and the others
first : {kind : Kind} {key o : List ℕ} {count n : ℕ} {s : List ℕ} → Units kind key o (suc count) n s
    → UnitThere kind key o n s × Units kind key o count (suc n) (after_unit kind (ciphertext_length kind s) s)
first (more u us) = (u, us)

rows_first : (kind : Kind) (key o typed : List ℕ) (count n : ℕ) (s : List ℕ)
    → rows typed (sources_from kind key o (suc count) n s)
    ≡ row typed (source_at kind key o n s) ++ rows typed (sources_from kind key o count (suc n) (after_unit kind (ciphertext_length kind s) s))
unfolding rows sources_from
rows_first kind key o typed count n s = refl

rows_none : (kind : Kind) (key o typed : List ℕ) (n : ℕ) (s : List ℕ) → rows typed (sources_from kind key o 0 n s) ≡ []
unfolding rows sources_from
rows_none kind key o typed n s = refl

module _ (k : BookKind) (key o typed s : List ℕ) (units : ℕ) (old : List ℕ) where
  pub done_none : Units (kind_of k) key o units 0 s → RowsDone (kind_of k) key o typed s units old 0 0 0 old
  done_none u =
      let all : units - 0 ≡ units = omega arith in
      record {
        few = omega arith;
        at_is = omega arith;
        within = omega arith;
        rest = rw all u;
        whole = ap (λ (j : ℕ). rows typed (sources_from (kind_of k) key o j 0 s)) all;
        behind = refl;
        long = refl;
      }

  module _ (under : Under key o) {place at n : ℕ} {out : List ℕ} (done : RowsDone (kind_of k) key o typed s units old place at n out) (less : n < units) where
    one : units - n ≡ suc (units - suc n)
    one = omega arith

    both : UnitThere (kind_of k) key o n (drop place s)
        × Units (kind_of k) key o (units - suc n) (suc n) (after_unit (kind_of k) (ciphertext_length (kind_of k) (drop place s)) (drop place s))
    both = first (rw one at done.rest)

    -- the next unit
    pub done_there : UnitThere (kind_of k) key o n (drop place s)
    done_there = both.0

    abbrev pub step_here : ℕ
    step_here = frame_length (kind_of k) (ciphertext_length (kind_of k) (drop place s))

    pub done_within : place + step_here ≤ length s
    done_within =
        let t = told_there (kind_of k) key o n (drop place s) done_there in
        omega (arith, t.length_is, length-drop place s, done.within)

    next-is : after_unit (kind_of k) (ciphertext_length (kind_of k) (drop place s)) (drop place s) ≡ drop (place + step_here) s
    next-is = after_unit_is (kind_of k) (drop place s) (ciphertext_length (kind_of k) (drop place s)) ∙ drop-drop step_here place s

    module _ (line : List ℕ) (is : line ≡ row typed (source_at (kind_of k) key o n (drop place s))) (room : at + 12 ≤ length out) where
      line-is-long : length line ≡ 12
      line-is-long = ap length is ∙ row_long k key o under typed n (drop place s) done_there

      pub done_more : RowsDone (kind_of k) key o typed s units old (place + step_here) (at + 12) (n + 1) (with_line at out line)
      done_more =
          let next : suc n ≡ n + 1 = omega arith in
          let later : units - suc n ≡ units - (n + 1) = omega arith in
          let rest-is : rows typed (sources_from (kind_of k) key o (units - (n + 1)) (n + 1) (drop (place + step_here) s))
          ≡ rows typed (sources_from (kind_of k) key o (units - suc n) (suc n)
          (after_unit (kind_of k) (ciphertext_length (kind_of k) (drop place s)) (drop place s))) =
          λ i. rows typed (sources_from (kind_of k) key o (sym later i) (sym next i) (sym next-is i)) in
          record {
            few = omega arith;
            at_is = omega (arith, done.at_is);
            within = done_within;
            rest = rw (next, next-is) at both.1;
            whole =
                (λ i. line_front at out line line-is-long room i ++ rest-is i)
                ∙ append_assoc (take at out) line _
                ∙ ap (λ (l : List ℕ). take at out ++ l)
                (ap (λ (l : List ℕ). l ++ rows typed (sources_from (kind_of k) key o (units - suc n) (suc n)
                (after_unit (kind_of k) (ciphertext_length (kind_of k) (drop place s)) (drop place s)))) is
                ∙ sym (rows_first (kind_of k) key o typed (units - suc n) n (drop place s))
                ∙ ap (λ (j : ℕ). rows typed (sources_from (kind_of k) key o j n (drop place s))) (sym one))
                ∙ done.whole;
            behind =
                line_back at out line line-is-long room
                ∙ sym (drop-drop 12 at out) ∙ ap (drop 12) done.behind ∙ drop-drop 12 at old;
            long = line_long at out line line-is-long room ∙ done.long;
          }

  -- all rows are put
  pub done_all : {place at n : ℕ} {out : List ℕ} → RowsDone (kind_of k) key o typed s units old place at n out → units ≤ n
      → out ≡ rows typed (sources_from (kind_of k) key o units 0 s) ++ drop (12 * units) old
  done_all {place = place} {at = at} {n = n} {out = out} done all =
      let none_left : units - n ≡ 0 = omega arith in
      let at-end : at ≡ 12 * units = omega (arith, done.few, done.at_is) in
      let empty : rows typed (sources_from (kind_of k) key o (units - n) n (drop place s)) ≡ [] =
      ap (λ (j : ℕ). rows typed (sources_from (kind_of k) key o j n (drop place s))) none_left ∙ rows_none (kind_of k) key o typed n (drop place s) in
      let front : take at out ≡ rows typed (sources_from (kind_of k) key o units 0 s) =
      sym (append-nil (take at out)) ∙ ap (λ (l : List ℕ). take at out ++ l) (sym empty) ∙ done.whole in
      sym (take-append-drop at out) ∙ (λ i. front i ++ done.behind i) ∙ ap (λ (j : ℕ). rows typed (sources_from (kind_of k) key o units 0 s) ++ drop j old) at-end
