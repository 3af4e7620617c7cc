-- The circuits on words, by the values of the words.
use mathlib.Core.Path.{◌≡◌, sym, ap, ◌∙◌}
use mathlib.Core.List.{List, map}
use Prim.Native.Nat.{ℕ, ◌-◌, ◌^◌, ◌<◌}
use native.Mathlib.Omega.{arith}
use lib.Bits.{bit_and, bit_or, bit_xor}
use lib.ListN.{length, get_or}
use Rattle.std.proofs.lemmas.List.{get_or-map, map-id}
use Rattle.sbox.specs.Sbox.{layer, layer_at}
use Rattle.sbox.specs.Words.{Bitwise}

-- the value of the word that stands at i, of eight
pub value_at : {W : Type 0} (f : W → ℕ) (w : List W) → length w ≡ 8 → (i : ℕ) → i < 8 → (d : W) → f (get_or w i d) ≡ get_or (map f w) i 0
value_at f w long i h d = sym (get_or-map f w i d 0 (omega arith))

-- an operator's value, by those of its operands
module _
    {W : Type 0}
    {width : ℕ}
    {number : W → ℕ}
    {can_and can_or can_xor : W → W → Type 0}
    {can_not : W → Type 0}
    {does_and does_or does_xor : W → W → W → Type 0}
    {does_not : W → W → Type 0}
    (l : Bitwise width number can_and can_or can_xor can_not does_and does_or does_xor does_not)
  where
    pub and : {x y r : W} {a b : ℕ} → does_and x y r → number x ≡ a → number y ≡ b → number r ≡ bit_and a b
    and s p q = l.and_is s ∙ (λ i. bit_and (p i) (q i))

    pub or : {x y r : W} {a b : ℕ} → does_or x y r → number x ≡ a → number y ≡ b → number r ≡ bit_or a b
    or s p q = l.or_is s ∙ (λ i. bit_or (p i) (q i))

    pub xor : {x y r : W} {a b : ℕ} → does_xor x y r → number x ≡ a → number y ≡ b → number r ≡ bit_xor a b
    xor s p q = l.xor_is s ∙ (λ i. bit_xor (p i) (q i))

    pub not : {x r : W} {a : ℕ} → does_not x r → number x ≡ a → number r ≡ 2 ^ width - 1 - a
    not s p = l.not_is s ∙ (λ i. 2 ^ width - 1 - p i)

-- where a word is its value, the circuit's result is the layer
pub plain : (k : ℕ) (t w : List ℕ) {r : List ℕ} → map (λ x. x) r ≡ layer_at k t (map (λ x. x) w) → r ≡ layer_at k t w
plain k t w {r} e = sym (map-id r) ∙ e ∙ ap (layer_at k t) (map-id w)

-- at sixteen columns it is the layer of a state
pub of_state : (t w : List ℕ) {r : List ℕ} → map (λ x. x) r ≡ layer_at 16 t (map (λ x. x) w) → r ≡ layer t w
unfolding layer layer_at
of_state = plain 16
