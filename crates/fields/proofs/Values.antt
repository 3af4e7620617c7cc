-- Laws of fields whose value has n bytes, and of the code that looks for one.
use mathlib.Core.Path.{◌≡◌, sym, ap, ◌∙◌}
use mathlib.Core.Bool.{Bool, true, false}
use mathlib.Core.List.{List, ◌++◌}
use Prim.Native.Nat.{ℕ, ◌+◌, ◌-◌, ◌<◌}
use native.Mathlib.Omega.{arith}
use lib.ListN.{length, take, drop, length-drop}
use lib.Seq.{take_all}
use Rattle.bits.specs.Bytes.{Bytes}
use Rattle.bits.proofs.Bytes.{bytes_take, bytes_drop}
use Rattle.fields.specs.Field.{field, field_length, has_field, field_value, after_field}
use Rattle.fields.proofs.Fields.{value_here, after_here, length_here, field_here, field_told}

-- bytes

pub bytes_value : (n : ℕ) (s : List ℕ) → Bytes s → Bytes (field_value n s)
unfolding field_value
bytes_value n s h = bytes_take n (drop 3 s) (bytes_drop 3 s h)

pub bytes_after : (n : ℕ) (s : List ℕ) → Bytes s → Bytes (after_field n s)
unfolding after_field
bytes_after n s h = bytes_drop (3 + n) s h

-- one that is written
module _ (tag n : ℕ) (v rest : List ℕ) (long : length v ≡ n) where
  pub value_at : field_value n (field tag v ++ rest) ≡ v
  value_at = ap (λ (k : ℕ). field_value k (field tag v ++ rest)) (sym long) ∙ value_here tag v rest

  pub after_at : after_field n (field tag v ++ rest) ≡ rest
  after_at = ap (λ (k : ℕ). after_field k (field tag v ++ rest)) (sym long) ∙ after_here tag v rest

  pub length_at : n < 65536 → field_length (field tag v ++ rest) ≡ n
  length_at h = length_here tag v rest (omega arith) ∙ long

  pub field_at : n < 65536 → has_field tag n (field tag v ++ rest) ≡ true
  field_at h = ap (λ (k : ℕ). has_field tag k (field tag v ++ rest)) (sym long) ∙ field_here tag v rest (omega arith)

-- one that is read, and what follows it
pub length_after : (tag n : ℕ) (s : List ℕ) → has_field tag n s ≡ true → length s ≡ 3 + n + length (after_field n s)
unfolding after_field
length_after tag n s has = rw length-drop (omega (arith, field_told tag n s has))

-- the code has a test's answer r, and asks whether it is false
module _ {r t : Bool} (e : r ≡ t) where
  pub found : r ≡ true → t ≡ true
  found h = sym e ∙ h

  pub missed : r ≡ false → t ≡ false
  missed h = sym e ∙ h

-- the part of a string that follows a field
pub after_is : (n : ℕ) (s : List ℕ) → take (length s - (3 + n)) (drop (3 + n) s) ≡ after_field n s
unfolding after_field
after_is n s = take_all (length s - (3 + n)) (drop (3 + n) s) (rw length-drop (omega arith))
