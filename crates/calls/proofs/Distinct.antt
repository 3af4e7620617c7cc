-- The tweaks of one sealing are all different, and different from the tweaks under another nonce of the same length.
use mathlib.Core.Path.{◌≡◌, refl, sym, ap, ◌∙◌, subst}
use mathlib.Core.HLevel.{⊥_prop, ¬_prop}
use mathlib.Core.Logic.{◌≢◌, ◌⊎◌, inl, inr, ∥∥₁_elim}
use mathlib.Core.Bool.{Bool, true, false, cond}
use mathlib.Core.List.Memᴰ
use mathlib.Core.List.Pairwise
use mathlib.Core.List.{
  List,
  [],
  ◌∷◌,
  ◌++◌,
  map,
  map-append,
  Mem,
  Memᴰ,
  Disjoint,
  Pairwise-singleton,
  Nodup,
  Nodup-append,
}
use Prim.Native.Nat.{ℕ, zero, suc, ◌+◌, ◌-◌, ◌*◌, ◌^◌, ◌≤◌, ◌<◌, suc-le-suc}
use native.Mathlib.Nat.{zero-lt-suc, mul-le-mul_right, pow-succ'}
use native.Mathlib.Omega.{arith}
use lib.Dec.{ltb}
use lib.ListN.{length, length-append, length-map}
use lib.Pow.{pow-add}
use borrow.Author.Tests.{ltb-true, ltb-false}
use Rattle.bits.specs.Table.{tab}
use Rattle.bits.proofs.BigEndian.{pow_256_pos}
use Rattle.bits.proofs.Lists.{length_tab}
use Rattle.calls.specs.Tweak.{tweak, blocks_of, inner, full, last_text_mark, last_header_mark, tag_mark}
use Rattle.calls.specs.Calls.{CipherCall, header_call, text_call, tag_call, block_calls, calls}
use Rattle.calls.proofs.Tweaks.{tweak_nonce, tweak_inj, tweak_number}

map_tab : {A B : Type 0} (g : A → B) (k : ℕ) (f : ℕ → A) → map g (tab k f) ≡ tab k (λ i. g (f i))
map_tab g zero f = refl
map_tab {B} g (suc k) f = ap (λ (l : List B). g (f 0) ∷ l) (map_tab g k (λ i. f (suc i)))

-- what stands in a list given by index has an index
mem_tab : {A : Type 0} (k : ℕ) (f : ℕ → A) {a : A} → Memᴰ a (tab k f) → (i : ℕ) × (i < k) × (a ≡ f i)
mem_tab zero f m = absurd (Memᴰ.not-nil m)
mem_tab (suc k) f (Memᴰ.head e) = (0, zero-lt-suc k, e)
mem_tab (suc k) f (Memᴰ.tail m) = let s = mem_tab k (λ i. f (suc i)) m in (suc s.0, suc-le-suc s.1, s.2)

nodup_tab : {A : Type 0} (k : ℕ) (f : ℕ → A) → ((i j : ℕ) → i < j → j < k → f i ≢ f j) → Nodup (tab k f)
nodup_tab zero f h = Pairwise.nil
nodup_tab (suc k) f h =
    Pairwise.cons
    (λ a m e. ∥∥₁_elim m ⊥_prop (λ d. let s = mem_tab k (λ i. f (suc i)) d in h 0 (suc s.0) (zero-lt-suc s.0) (suc-le-suc s.1) (e ∙ s.2)))
    (nodup_tab k (λ i. f (suc i)) (λ i j l b. h (suc i) (suc j) (suc-le-suc l) (suc-le-suc b)))

-- for a contradiction, two elements may be taken at their places
both : {A : Type 0} {a b : A} {l₁ l₂ : List A} → Mem a l₁ → Mem b l₂ → (Memᴰ a l₁ → Memᴰ b l₂ → ⊥) → ⊥
both m₁ m₂ h = ∥∥₁_elim m₁ ⊥_prop (λ d₁. ∥∥₁_elim m₂ ⊥_prop (h d₁))

pub length_calls : (nonce h t : List ℕ) → length (calls nonce h t) ≡ blocks_of (length h) + blocks_of (length t) + 1
unfolding calls block_calls
length_calls nonce h t = simp (length-append, count)
  where
    count : (k : ℕ) (f : ℕ → CipherCall) → length (tab k f) ≡ k
    count k f = sym (length-map (tab k f) (λ c. 0)) ∙ ap length (map_tab (λ c. 0) k f) ∙ length_tab k (λ i. 0)

-- the number after the nonce, at block i of n: lo + i, and at the last block another
number : ℕ → ℕ → ℕ → ℕ → ℕ
number n lo last i = cond (ltb (suc i) n) (lo + i) last

-- v is that number
data Number (n lo last i v : ℕ) : Type 0 where
  inside : suc i < n → v ≡ lo + i → Number n lo last i v
  final : suc i ≡ n → v ≡ last → Number n lo last i v

numbered : (n lo last i : ℕ) → i < n → Number n lo last i (number n lo last i)
unfolding number
numbered n lo last i h = at (ltb (suc i) n) refl
  where
    at : (b : Bool) → ltb (suc i) n ≡ b → Number n lo last i (cond b (lo + i) last)
    at true e = inside (ltb-true (suc i) n e) refl
    at false e = final (omega (arith, ltb-false (suc i) n e)) refl

mem_number : (n lo last : ℕ) {v : ℕ} → Memᴰ v (tab n (number n lo last)) → (i : ℕ) × Number n lo last i v
mem_number n lo last m = let s = mem_tab n (number n lo last) m in (s.0, subst (Number n lo last s.0) (sym s.2) (numbered n lo last s.0 s.1))

number_le : {n lo last i v : ℕ} → lo + n ≤ last → Number n lo last i v → v ≤ last
number_le l (inside p q) = omega arith
number_le l (final p q) = omega arith

number_ne : {n lo last i j v w : ℕ} → lo + n ≤ last → i < j → Number n lo last i v → Number n lo last j w → v ≢ w
number_ne l h (inside p q) (inside r s) e = omega arith
number_ne l h (inside p q) (final r s) e = omega arith
number_ne l h (final p q) (inside r s) e = omega arith
number_ne l h (final p q) (final r s) e = omega arith

nodup_number : (n lo last : ℕ) → lo + n ≤ last → Nodup (tab n (number n lo last))
nodup_number n lo last l =
    nodup_tab n (number n lo last) (λ i j h k. number_ne l h (numbered n lo last i (omega arith)) (numbered n lo last j k))

-- The numbers of all calls: a header blocks, b text blocks, the tag; w is the weight of a mark, and x, y and z are the marked numbers.
module _ (w a b x y z : ℕ) where
  header_numbers : List ℕ
  header_numbers = tab a (number a (0x80 * w) x)

  text_numbers : List ℕ
  text_numbers = tab b (number b (0x00 * w) y)

  numbers : List ℕ
  numbers = (header_numbers ++ text_numbers) ++ z ∷ []

  record Limits : Type 0 where
    headers : a ≤ 64 * w
    texts : b ≤ 128 * w
    heavy : 0 < w
    header : (0xD0 * w ≤ x) × (x ≤ 0xD8 * w)
    text : (0xC0 * w ≤ y) × (y ≤ 0xC8 * w)
    tag : (0xE0 * w ≤ z) × (z ≤ 0xE8 * w)

  module _ (k : Limits) where
    blocks-le : {v : ℕ} → Memᴰ v (header_numbers ++ text_numbers) → v ≤ 0xD8 * w
    unfolding header_numbers text_numbers
    blocks-le {v} m = at (Memᴰ.append_cases header_numbers m)
      where
        at : Memᴰ v header_numbers ⊎ Memᴰ v text_numbers → v ≤ 0xD8 * w
        at (inl d) = omega (arith, number_le (omega arith) (mem_number a (0x80 * w) x d).1)
        at (inr d) = omega (arith, number_le (omega arith) (mem_number b (0x00 * w) y d).1)

    numbers-lt : {v : ℕ} → Memᴰ v numbers → v < 256 * w
    unfolding numbers
    numbers-lt {v} m = at (Memᴰ.append_cases (header_numbers ++ text_numbers) m)
      where
        at : Memᴰ v (header_numbers ++ text_numbers) ⊎ Memᴰ v (z ∷ []) → v < 256 * w
        at (inl d) = omega (arith, blocks-le d)
        at (inr d) = omega (arith, Memᴰ.eq_of_singleton d)

    -- a header block and a text block
    cross : {i j v : ℕ} → Number a (0x80 * w) x i v → Number b (0x00 * w) y j v → ⊥
    cross (inside p q) (inside r s) = omega arith
    cross (inside p q) (final r s) = omega arith
    cross (final p q) (inside r s) = omega arith
    cross (final p q) (final r s) = omega arith

    numbers-nodup : Nodup numbers
    unfolding header_numbers text_numbers numbers
    numbers-nodup =
        Nodup-append.1 (
          Nodup-append.1 (
            nodup_number a (0x80 * w) x (omega arith),
            nodup_number b (0x00 * w) y (omega arith),
            λ v m₁ m₂. both m₁ m₂ (λ d₁ d₂. cross (mem_number a (0x80 * w) x d₁).1 (mem_number b (0x00 * w) y d₂).1),
          ),
          Pairwise-singleton (λ v u. v ≢ u) z,
          λ v m₁ m₂. both m₁ m₂ (λ d₁ d₂. omega (arith, blocks-le d₁, Memᴰ.eq_of_singleton d₂)),
        )

-- the weight of the first byte after the nonce
abbrev weight : List ℕ → ℕ
weight nonce = 256 ^ (15 - length nonce)

call_numbers : List ℕ → List ℕ → List ℕ → List ℕ
call_numbers nonce h t =
    numbers (weight nonce) (blocks_of (length h)) (blocks_of (length t))
    (last_header_mark (length h) * weight nonce + 0) (last_text_mark (length t) * weight nonce + 0) (tag_mark (length t) * weight nonce + 0)

-- a mark counts as a part of the number
tweaks_are : (nonce h t : List ℕ) → map (λ c. c.tweak) (calls nonce h t) ≡ map (tweak nonce 0) (call_numbers nonce h t)
unfolding calls block_calls header_call text_call tag_call call_numbers numbers header_numbers text_numbers number
tweaks_are nonce h t =
    simp (map-append, map_tab)
    (λ j.
    (tab (blocks_of (length h)) (λ i. picked (inner (length h) i) 0x80 i (last_header_mark (length h)) j)
    ++ tab (blocks_of (length t)) (λ i. picked (inner (length t) i) 0x00 i (last_text_mark (length t)) j))
    ++ tweak_number nonce (tag_mark (length t)) 0 j ∷ [])
  where
    picked : (b : Bool) (m i x : ℕ) → cond b (tweak nonce m i) (tweak nonce x 0) ≡ tweak nonce 0 (cond b (m * weight nonce + i) (x * weight nonce + 0))
    picked true m i x = tweak_number nonce m i
    picked false m i x = tweak_number nonce x 0

-- under another nonce no tweak comes again
pub tweaks_apart : (n₁ n₂ h₁ t₁ h₂ t₂ : List ℕ) → length n₁ ≡ length n₂ → n₁ ≢ n₂
    → Disjoint (map (λ c. c.tweak) (calls n₁ h₁ t₁)) (map (λ c. c.tweak) (calls n₂ h₂ t₂))
tweaks_apart n₁ n₂ h₁ t₁ h₂ t₂ l d =
    rw (tweaks_are n₁ h₁ t₁, tweaks_are n₂ h₂ t₂)
    (λ a m₁ m₂. both m₁ m₂
    (λ d₁ d₂.
    let p = Memᴰ.of_map (tweak n₁ 0) (call_numbers n₁ h₁ t₁) d₁ in
    let q = Memᴰ.of_map (tweak n₂ 0) (call_numbers n₂ h₂ t₂) d₂ in
    d (tweak_nonce n₁ n₂ 0 p.0 0 q.0 l (p.2 ∙ sym q.2))))

-- a limit of the text or the header, by the weight
power : (j n : ℕ) → n ≤ 15 → 2 ^ (j + 120 - 8 * n) ≡ 2 ^ j * 256 ^ (15 - n)
power j n h = ap (λ (e : ℕ). 2 ^ e) (omega arith) ∙ pow-add 2 j (8 * (15 - n)) ∙ ap (λ (x : ℕ). 2 ^ j * x) (bytes (15 - n))
  where
    bytes : (k : ℕ) → 2 ^ (8 * k) ≡ 256 ^ k
    bytes zero = refl
    bytes (suc k) =
        ap (λ (e : ℕ). 2 ^ e) (omega arith) ∙ pow-add 2 8 (8 * k) ∙ ap (λ (x : ℕ). 256 * x) (bytes k) ∙ sym (pow-succ' 256 k)

-- no tweak comes twice, up to the limits of header and text
pub tweaks_distinct : (nonce h t : List ℕ) → length nonce ≤ 15 → length h ≤ 2 ^ (130 - 8 * length nonce) → length t ≤ 2 ^ (131 - 8 * length nonce)
    → Nodup (map (λ c. c.tweak) (calls nonce h t))
unfolding call_numbers Pairwise.map'
tweaks_distinct nonce h t hn hh ht =
    rw (tweaks_are nonce h t)
    (Pairwise.map' {S = λ u v. u ≢ v} (tweak nonce 0) (λ u v. ¬_prop)
    (Pairwise.imp_of_mem
    (λ v u m₁ m₂ d e. both m₁ m₂
    (λ d₁ d₂.
    let p = numbers-lt _ _ _ _ _ _ limits d₁ in
    let q = numbers-lt _ _ _ _ _ _ limits d₂ in
    d (omega (arith, tweak_inj nonce hn 0 v 0 u (omega arith) (omega arith) e))))
    (numbers-nodup _ _ _ _ _ _ limits)))
  where
    between : (b : Bool) (x y : ℕ) → x ≤ y → (x * weight nonce ≤ cond b x y * weight nonce + 0) × (cond b x y * weight nonce + 0 ≤ y * weight nonce)
    between true x y l = let k = mul-le-mul_right (weight nonce) l in (omega arith, omega arith)
    between false x y l = let k = mul-le-mul_right (weight nonce) l in (omega arith, omega arith)

    limits : Limits (weight nonce) (blocks_of (length h)) (blocks_of (length t))
        (last_header_mark (length h) * weight nonce + 0) (last_text_mark (length t) * weight nonce + 0) (tag_mark (length t) * weight nonce + 0)
    limits =
        record {
          headers = omega (arith, power 10 (length nonce) hn);
          texts = omega (arith, power 11 (length nonce) hn);
          heavy = pow_256_pos (15 - length nonce);
          header = between (full (length h)) 0xD0 0xD8 (omega arith);
          text = between (full (length t)) 0xC0 0xC8 (omega arith);
          tag = between (full (length t)) 0xE0 0xE8 (omega arith);
        }
