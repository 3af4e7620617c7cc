-- Bit equations at two widths: at k bits they are the code on rows of k columns, at 1 bit the same on one column.
use mathlib.Core.Path.{◌≡◌, refl, sym, ap, ◌∙◌}
use mathlib.Core.Bool.{Bool}
use mathlib.Core.List.{List, [], ◌∷◌, map}
use Prim.Native.Nat.{ℕ, zero, suc, ◌-◌, ◌^◌, ◌<◌}
use lib.Bits.{and_lt, or_lt, xor_lt}
use lib.Dec.{T, eqb, eqb→eq, lit<}
use lib.ListN.{get_or, set, get_or-map}
use lib.Pow.{pow_pos, ones_sub-lt}
use Rattle.bits.specs.Bit.{bit, gather}
use Rattle.bits.specs.Table.{tab}
use Rattle.bits.proofs.Bits.{bit_lt, bit_ext, bit_of_and, bit_of_or, bit_of_xor, bit_not, bit_of_zero, bit_gather, gather_lt}
use Rattle.bits.proofs.Lists.{tab_ext}
use Rattle.bits.proofs.Tests.{all, all_at}
use Rattle.sbox.specs.Sbox.{column, layer_at}
use Rattle.sbox.specs.Circuit.{Expr, reg, xor, and, or, not, Instruction, put, eval, run, start, outcome}

-- each register fits k bits
pub record Fit (k : ℕ) (w : List ℕ) : Type 0 where
  pub at : (i : ℕ) → get_or w i 0 < 2 ^ k

eval_fit : {k : ℕ} {w : List ℕ} (e : Expr) → Fit k w → eval k e w < 2 ^ k
eval_fit (reg i) f = f.at i
eval_fit {k} {w} (xor a b) f = xor_lt k (eval k a w) (eval k b w) (eval_fit a f) (eval_fit b f)
eval_fit {k} {w} (and a b) f = and_lt k (eval k a w) (eval k b w) (eval_fit a f) (eval_fit b f)
eval_fit {k} {w} (or a b) f = or_lt k (eval k a w) (eval k b w) (eval_fit a f) (eval_fit b f)
eval_fit {k} {w} (not a) f = ones_sub-lt k (eval k a w)

set_at : (k : ℕ) (w : List ℕ) (d v : ℕ) → v < 2 ^ k → ((i : ℕ) → get_or w i 0 < 2 ^ k) → (i : ℕ) → get_or (set w d v) i 0 < 2 ^ k
set_at k [] d v hv h i = h i
set_at k (x ∷ w) zero v hv h zero = hv
set_at k (x ∷ w) zero v hv h (suc i) = h (suc i)
set_at k (x ∷ w) (suc d) v hv h zero = h zero
set_at k (x ∷ w) (suc d) v hv h (suc i) = set_at k w d v hv (λ i. h (suc i)) i

run_fit : {k : ℕ} {w : List ℕ} (p : List Instruction) → Fit k w → Fit k (run k p w)
run_fit [] f = f
run_fit {k} {w} (put d e ∷ p) f =
    run_fit {k = k} {w = set w d (eval k e w)} p (record { at = set_at k w d (eval k e w) (eval_fit e f) f.at })

map_set : (f : ℕ → ℕ) (w : List ℕ) (d v : ℕ) → map f (set w d v) ≡ set (map f w) d (f v)
map_set f [] d v = refl
map_set f (x ∷ w) zero v = refl
map_set f (x ∷ w) (suc d) v = ap (λ (l : List ℕ). f x ∷ l) (map_set f w d v)

-- bit j of what a circuit gives is what the circuit gives of the bits j
module _ (k j : ℕ) (hj : j < k) where
  bits-eval : {w : List ℕ} (e : Expr) → Fit k w → bit (eval k e w) j ≡ eval 1 e (map (λ x. bit x j) w)
  bits-eval {w} (reg i) f =
      sym (get_or-map (λ x. bit x j) w i 0) ∙ ap (get_or (map (λ x. bit x j) w) i) (bit_of_zero j)
  bits-eval {w} (xor a b) f = bit_of_xor (eval k a w) (eval k b w) j ∙ cc (bits-eval a f, bits-eval b f)
  bits-eval {w} (and a b) f = bit_of_and (eval k a w) (eval k b w) j ∙ cc (bits-eval a f, bits-eval b f)
  bits-eval {w} (or a b) f = bit_of_or (eval k a w) (eval k b w) j ∙ cc (bits-eval a f, bits-eval b f)
  bits-eval {w} (not a) f = bit_not k (eval k a w) j (eval_fit a f) hj ∙ ap (λ (n : ℕ). 1 - n) (bits-eval a f)

  bits-run : {w : List ℕ} (p : List Instruction) → Fit k w → map (λ x. bit x j) (run k p w) ≡ run 1 p (map (λ x. bit x j) w)
  bits-run [] f = refl
  bits-run {w} (put d e ∷ p) f =
      bits-run {w = set w d (eval k e w)} p (record { at = set_at k w d (eval k e w) (eval_fit e f) f.at })
      ∙ ap (run 1 p) (map_set (λ x. bit x j) w d (eval k e w) ∙ ap (set (map (λ x. bit x j) w) d) (bits-eval e f))

-- the circuit gives the table's entry at each of the 256 columns
abbrev pub right : List Instruction → List ℕ → Bool
right p t = all 256 (λ c. eqb (outcome p c) (get_or t c 0))

zeros : (k i : ℕ) → get_or (0 ∷ 0 ∷ 0 ∷ 0 ∷ []) i 0 < 2 ^ k
zeros k zero = pow_pos k
zeros k (suc zero) = pow_pos k
zeros k (suc (suc zero)) = pow_pos k
zeros k (suc (suc (suc zero))) = pow_pos k
zeros k (suc (suc (suc (suc i)))) = pow_pos k

start_fit : (f : ℕ → ℕ) (k : ℕ) → ((i : ℕ) → f i < 2 ^ k) → Fit k (start f)
start_fit f k h = record { at = at }
  where
    at : (i : ℕ) → get_or (start f) i 0 < 2 ^ k
    at zero = h 0
    at (suc zero) = h 1
    at (suc (suc zero)) = h 2
    at (suc (suc (suc zero))) = h 3
    at (suc (suc (suc (suc zero)))) = h 4
    at (suc (suc (suc (suc (suc zero))))) = h 5
    at (suc (suc (suc (suc (suc (suc zero)))))) = h 6
    at (suc (suc (suc (suc (suc (suc (suc zero))))))) = h 7
    at (suc (suc (suc (suc (suc (suc (suc (suc i)))))))) = zeros k i

pub column_bit : (w : List ℕ) (j i : ℕ) → i < 8 → bit (get_or w i 0) j ≡ bit (column w j) i
unfolding column
column_bit w j i h = sym (bit_gather 8 (λ i. bit (get_or w i 0) j) (λ i. bit_lt (get_or w i 0) j) i h)

pub column_lt : (w : List ℕ) (j : ℕ) → column w j < 256
unfolding column
column_lt w j = gather_lt 8 (λ i. bit (get_or w i 0) j) (λ i. bit_lt (get_or w i 0) j)

-- the bits j of the rows are the bits of column j
column_bits : (w : List ℕ) (j : ℕ) → map (λ x. bit x j) (start (λ i. get_or w i 0)) ≡ start (bit (column w j))
column_bits w j = λ k.
    column_bit w j 0 (lit< tt) k
    ∷ column_bit w j 1 (lit< tt) k
    ∷ column_bit w j 2 (lit< tt) k
    ∷ column_bit w j 3 (lit< tt) k
    ∷ column_bit w j 4 (lit< tt) k
    ∷ column_bit w j 5 (lit< tt) k
    ∷ column_bit w j 6 (lit< tt) k
    ∷ column_bit w j 7 (lit< tt) k
    ∷ bit_of_zero j k
    ∷ bit_of_zero j k
    ∷ bit_of_zero j k
    ∷ bit_of_zero j k
    ∷ []

module _ (k : ℕ) (t : List ℕ) (p : List Instruction) (test : T (right p t)) (w : List ℕ) (words : (i : ℕ) → get_or w i 0 < 2 ^ k) where
  fit : Fit k (start (λ i. get_or w i 0))
  fit = start_fit (λ i. get_or w i 0) k words

  bit_is : (i : ℕ) → i < 8 → (j : ℕ) → j < k → bit (get_or t (column w j) 0) i ≡ bit (get_or (run k p (start (λ i. get_or w i 0))) i 0) j
  bit_is i hi j hj =
      let c : ℕ = column w j in
      let from : List ℕ = start (λ i. get_or w i 0) in
      ap (λ (x : ℕ). bit x i) (sym (eqb→eq (outcome p c) (get_or t c 0) (all_at 256 (λ c. eqb (outcome p c) (get_or t c 0)) test c (column_lt w j))))
      ∙ bit_gather 8 (λ i. get_or (run 1 p (start (bit c))) i 0) (run_fit {k = 1} {w = start (bit c)} p (start_fit (bit c) 1 (bit_lt c))).at i hi
      ∙ ap (λ (l : List ℕ). get_or (run 1 p l) i 0) (sym (column_bits w j))
      ∙ ap (λ (l : List ℕ). get_or l i 0) (sym (bits-run k j hj p fit))
      ∙ ap (get_or (map (λ x. bit x j) (run k p from)) i) (sym (bit_of_zero j))
      ∙ get_or-map (λ x. bit x j) (run k p from) i 0

  row_is : (i : ℕ) → i < 8 → gather k (λ j. bit (get_or t (column w j) 0) i) ≡ get_or (run k p (start (λ i. get_or w i 0))) i 0
  row_is i hi =
      bit_ext k
      (gather_lt k (λ j. bit (get_or t (column w j) 0) i) (λ j. bit_lt (get_or t (column w j) 0) i))
      ((run_fit {k = k} {w = start (λ i. get_or w i 0)} p fit).at i)
      (λ j hj. bit_gather k (λ j. bit (get_or t (column w j) 0) i) (λ j. bit_lt (get_or t (column w j) 0) i) j hj ∙ bit_is i hi j hj)

-- A circuit that passes the test is the S-box layer, on any number of columns and whatever the rows.
pub circuit_at : (k : ℕ) (t : List ℕ) (p : List Instruction) → T (right p t) → (w : List ℕ) → ((i : ℕ) → get_or w i 0 < 2 ^ k)
    → tab 8 (λ i. get_or (run k p (start (λ i. get_or w i 0))) i 0) ≡ layer_at k t w
unfolding layer_at
circuit_at k t p test w words =
    sym
    (tab_ext 8 (λ i. gather k (λ j. bit (get_or t (column w j) 0) i)) (λ i. get_or (run k p (start (λ i. get_or w i 0))) i 0)
    (row_is k t p test w words))
