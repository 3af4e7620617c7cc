-- Bytes written at a place of the buffer.
use mathlib.Core.Path.{◌≡◌, sym, ap, ◌∙◌}
use mathlib.Core.List.{List, ◌++◌, append_assoc, append-nil}
use Prim.Native.Nat.{ℕ, ◌+◌, ◌-◌, ◌≤◌}
use native.Mathlib.Nat.{le_of_eq}
use native.Mathlib.Omega.{arith}
use lib.ListN.{length, take, drop, length-append, length-drop, drop_of_length-le}
use lib.Seq.{take_at, drop_at, drop-drop, length-take-le}
use Rattle.bits.proofs.Lists.{part_rest}
use Rattle.writer_calls.specs.Writer.{put_at}

module _ (place n : ℕ) (bytes buf : List ℕ) (long : length bytes ≡ n) (within : place ≤ length buf) where
  front_long : length (take place buf ++ bytes) ≡ place + n
  front_long = length-append (take place buf) bytes ∙ omega (arith, length-take-le place buf within)

  in_two : put_at place bytes buf ≡ (take place buf ++ bytes) ++ drop (place + n) buf
  in_two =
      sym (append_assoc (take place buf) bytes (drop (place + length bytes) buf))
      ∙ ap (λ (k : ℕ). (take place buf ++ bytes) ++ drop (place + k) buf) long

  pub take_put : take (place + n) (put_at place bytes buf) ≡ take place buf ++ bytes
  take_put = ap (take (place + n)) in_two ∙ take_at (take place buf ++ bytes) (drop (place + n) buf) (place + n) front_long

  pub drop_put_lem : drop (place + n) (put_at place bytes buf) ≡ drop (place + n) buf
  drop_put_lem = ap (drop (place + n)) in_two ∙ drop_at (take place buf ++ bytes) (drop (place + n) buf) (place + n) front_long

  pub length_put : place + n ≤ length buf → length (put_at place bytes buf) ≡ length buf
  length_put room =
      ap length in_two
      ∙ length-append (take place buf ++ bytes) (drop (place + n) buf)
      ∙ omega (arith, front_long, length-drop (place + n) buf)

  -- written at the start of what the buffer has from the place on
  pub put_part : (x : List ℕ) → x ≡ bytes ++ drop n (take (length buf - place) (drop place buf))
      → take place buf ++ (x ++ drop (length buf - place) (drop place buf)) ≡ put_at place bytes buf
  put_part x is =
      (λ j. take place buf ++ (is j ++ drop_of_length-le (drop place buf) {i = length buf - place} (le_of_eq (length-drop place buf)) j))
      ∙ ap (λ (r : List ℕ). take place buf ++ r) (append-nil (bytes ++ drop n (take (length buf - place) (drop place buf))))
      ∙ ap (λ (r : List ℕ). take place buf ++ (bytes ++ r)) (ap (drop n) (part_rest place buf) ∙ drop-drop n place buf)
      ∙ ap (λ (k : ℕ). take place buf ++ (bytes ++ drop (place + k) buf)) (sym long)
