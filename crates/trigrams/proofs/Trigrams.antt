-- The trigrams of a segment, one after the other, and what a trigram's number says of its bytes.
use mathlib.Core.Path.{◌≡◌, ap, ◌∙◌}
use mathlib.Core.List.{List, [], ◌∷◌, ◌++◌}
use Prim.Native.Nat.{ℕ, suc, ◌+◌, ◌-◌, ◌^◌, ◌≤◌, ◌<◌}
use native.Mathlib.Decide.{dec_lt}
use native.Mathlib.Numerals.{add-one}
use native.Mathlib.Omega.{arith}
use lib.ListN.{length, get_or, take, drop, drop_of_length-le}
use lib.Seq.{take_all, take-suc, drop-cons}
use Rattle.bits.specs.Bytes.{Bytes}
use Rattle.bits.proofs.Lists.{length_tab, get_or_tab, get_or_tab_out}
use Rattle.trigrams.specs.Trigrams.{trigram, trigrams}

pub length_trigrams : (s : List ℕ) → length (trigrams s) ≡ length s - 2
unfolding trigrams
length_trigrams s = length_tab (length s - 2) (trigram s)

pub get_or_trigrams : (s : List ℕ) (i : ℕ) → i + 2 < length s → get_or (trigrams s) i 0 ≡ trigram s i
unfolding trigrams
get_or_trigrams s i h = get_or_tab (length s - 2) (trigram s) i (omega arith)

-- the first i, and one more
pub take_trigrams : (s : List ℕ) (i : ℕ) → i + 2 < length s → take (suc i) (trigrams s) ≡ take i (trigrams s) ++ trigram s i ∷ []
take_trigrams s i h =
    take-suc (trigrams s) i 0 (omega (arith, length_trigrams s)) ∙ ap (λ v. take i (trigrams s) ++ v ∷ []) (get_or_trigrams s i h)

-- those from place i on: the first of them, and the others
pub drop_trigrams : (s : List ℕ) (i : ℕ) → i + 2 < length s → drop i (trigrams s) ≡ trigram s i ∷ drop (suc i) (trigrams s)
drop_trigrams s i h =
    drop-cons (trigrams s) i 0 (omega (arith, length_trigrams s)) ∙ ap (λ v. v ∷ drop (suc i) (trigrams s)) (get_or_trigrams s i h)

-- both by what was read
pub take_next : (s : List ℕ) (i v : ℕ) → i + 2 < length s → v ≡ trigram s i → take (i + 1) (trigrams s) ≡ take i (trigrams s) ++ v ∷ []
take_next s i v h e = rw (add-one i, e) (take_trigrams s i h)

pub drop_next : (s : List ℕ) (i v : ℕ) → i + 2 < length s → v ≡ trigram s i → drop i (trigrams s) ≡ v ∷ drop (i + 1) (trigrams s)
drop_next s i v h e = rw (add-one i, e) (drop_trigrams s i h)

pub take_trigrams_all : (s : List ℕ) (i : ℕ) → length s ≤ i + 2 → take i (trigrams s) ≡ trigrams s
take_trigrams_all s i h = take_all i (trigrams s) (omega (arith, length_trigrams s))

pub drop_trigrams_all : (s : List ℕ) (i : ℕ) → length s ≤ i + 2 → drop i (trigrams s) ≡ []
drop_trigrams_all s i h = drop_of_length-le (trigrams s) {i = i} (omega (arith, length_trigrams s))

pub trigram_small : {s : List ℕ} → Bytes s → (i : ℕ) → trigram s i < 2 ^ 24
unfolding trigram
trigram_small b i = omega (arith, b.fit i, b.fit (i + 1), b.fit (i + 2))

pub trigrams_small : {s : List ℕ} → Bytes s → (i : ℕ) → get_or (trigrams s) i 0 < 2 ^ 24
unfolding trigrams
trigrams_small {s} b i = at (dec_lt i (length s - 2))
  where
    at : Dec (i < length s - 2) → get_or (trigrams s) i 0 < 2 ^ 24
    at (yes h) = omega (arith, get_or_tab (length s - 2) (trigram s) i h, trigram_small b i)
    at (no h) = omega (arith, get_or_tab_out (length s - 2) (trigram s) i (omega arith))

-- trigrams that are the same number are the same three bytes
pub trigram_same : {x y : List ℕ} → Bytes x → Bytes y → (i j : ℕ) → trigram x i ≡ trigram y j
    → (get_or x i 0 ≡ get_or y j 0) × (get_or x (i + 1) 0 ≡ get_or y (j + 1) 0) × (get_or x (i + 2) 0 ≡ get_or y (j + 2) 0)
unfolding trigram
trigram_same b c i j e =
    let b0 = b.fit i in
    let b1 = b.fit (i + 1) in
    let b2 = b.fit (i + 2) in
    let c0 = c.fit j in
    let c1 = c.fit (j + 1) in
    let c2 = c.fit (j + 2) in
    (omega arith, omega arith, omega arith)
