-- A part of a text, and the start of one put together from its first block and what follows.
use mathlib.Core.Path.{◌≡◌, sym, ap, ◌∙◌}
use mathlib.Core.Logic.{◌⊎◌, inl, inr}
use mathlib.Core.List.{List, ◌++◌, append_assoc}
use Prim.Native.Nat.{ℕ, ◌+◌, ◌-◌, ◌*◌, ◌%◌, ◌^◌, ◌≤◌, ◌<◌, min}
use native.Mathlib.Decide.{ℕ_discrete}
use native.Mathlib.Omega.{arith}
use lib.ListN.{length, get_or, take, drop, get_or-append, length-append, length-drop}
use lib.Seq.{take_all, take-add, drop_at, take-take, take-append-le, get_or-take, length-take-le}
use Rattle.calls.specs.Pieces.{through}
use Rattle.calls.proofs.ByBlocks.{length_through}
use Rattle.suites.specs.declared.suite.Suite.{Suite}
use Rattle.text_blocks.specs.Text.{Part}
use Rattle.text_blocks.specs.Under.{enciphers, deciphers}
use Rattle.text_blocks.proofs.Chunks.{enciphers_blockwise, deciphers_blockwise}
use Rattle.sealing.specs.Passes.{text_of, text_part}
use Rattle.text_blocks.proofs.Parts.{through_split}
use Rattle.verifying.proofs.Windows.{window_front}
use Rattle.fields.specs.Unit.{source_length}
use Rattle.seals.proofs.Verified.{stated}

module _ (s : Suite) (key nonce : List ℕ) (short : length nonce ≤ 15) (c : List ℕ) (small : length c ≤ 2 ^ 24) where
  pub text_long : length (text_of s key nonce c) ≡ length c
  text_long = length_through (deciphers s key) (enciphers s key) (deciphers_blockwise s key) (enciphers_blockwise s key) nonce short c

  -- whole blocks at the start
  lead : (n : ℕ) → n % 16 ≡ 0 → n ≤ length c → text_part s key nonce c 0 n ≡ take n (text_of s key nonce c)
  lead n whole room =
      let least : n ≡ min (length c) n = omega arith in
      ap (text_part s key nonce c 0) least ∙ window_front s key nonce short c small n whole

  -- or all
  pub text_front : (n : ℕ) → Part (length c) 0 n → text_part s key nonce c 0 n ≡ take n (text_of s key nonce c)
  text_front n p = by p.whole
    where
      by : (16 * 0 + n ≡ length c) ⊎ (n % 16 ≡ 0) → text_part s key nonce c 0 n ≡ take n (text_of s key nonce c)
      by (inl e) =
          let all : n ≡ length c = omega arith in
          ap (through (deciphers s key) (enciphers s key) nonce (length c) 0) (take_all n c (omega arith))
          ∙ sym (take_all n (text_of s key nonce c) (omega (arith, text_long)))
      by (inr w) = lead n w (omega (arith, p.within))

  -- a part's text is that part of the text
  pub text_part_lem : (first n : ℕ) → Part (length c) first n → text_part s key nonce c first n ≡ take n (drop (16 * first) (text_of s key nonce c))
  text_part_lem first n p =
      let a : ℕ = 16 * first in
      let T = text_of s key nonce c in
      let room : a + n ≤ length c = p.within in
      let cut : take (a + n) c ≡ take a c ++ take n (drop a c) = take-add a n c in
      let a-long : length (take a c) ≡ a = length-take-le a c (omega arith) in
      let before : take a (take (a + n) c) ≡ take a c = take-take a (a + n) c (omega arith) in
      let behind : drop a (take (a + n) c) ≡ take n (drop a c) = ap (drop a) cut ∙ drop_at (take a c) (take n (drop a c)) a a-long in
      let split : text_part s key nonce c 0 (a + n) ≡ text_part s key nonce c 0 a ++ text_part s key nonce c first n =
      through_split (deciphers s key) (enciphers s key) nonce (length c) (take (a + n) c) first (omega (arith, length-take-le (a + n) c room))
      ∙ (λ i. through (deciphers s key) (enciphers s key) nonce (length c) 0 (before i)
      ++ through (deciphers s key) (enciphers s key) nonce (length c) first (behind i)) in
      let start : text_part s key nonce c 0 a ≡ take a T = lead a (omega arith) (omega arith) in
      let T-long : length (take a T) ≡ a = length-take-le a T (omega (arith, text_long)) in
      sym (drop_at (text_part s key nonce c 0 a) (text_part s key nonce c first n) a (ap length start ∙ T-long))
      ∙ ap (drop a) (sym split ∙ text_front (a + n) (record { small = p.small; within = omega arith; whole = by p.whole }) ∙ take-add a n T)
      ∙ drop_at (take a T) (take n (drop a T)) a T-long
    where
      by : (16 * first + n ≡ length c) ⊎ (n % 16 ≡ 0) → (16 * 0 + (16 * first + n) ≡ length c) ⊎ ((16 * first + n) % 16 ≡ 0)
      by (inl e) = inl (omega arith)
      by (inr w) = inr (omega arith)

-- n bytes of t, then others: what is said by the first two
pub stated_front : (t r : List ℕ) (n : ℕ) → 2 ≤ n → n ≤ length t
    → get_or (take n t ++ r) 0 0 * 256 + get_or (take n t ++ r) 1 0 ≡ source_length t
stated_front t r n two room =
    let long : length (take n t) ≡ n = length-take-le n t room in
    let at : (i : ℕ) → i < 2 → get_or (take n t ++ r) i 0 ≡ get_or t i 0 =
    λ i h. get_or-append (take n t) r 0 i (omega arith) ∙ get_or-take n t i 0 (omega arith) in
    (λ i. at 0 (omega arith) i * 256 + at 1 (omega arith) i) ∙ stated t (omega arith)

-- the first k bytes of t, where n are there, and where n more are put behind the first 16
pub front_enough : (t r : List ℕ) (n k : ℕ) → k ≤ n → n ≤ length t → take k (take n t ++ r) ≡ take k t
front_enough t r n k less room =
    take-append-le k (take n t) r (omega (arith, length-take-le n t room)) ∙ take-take k n t less

pub front_joined : (t w r : List ℕ) (n k : ℕ) → take 16 w ≡ take 16 t → k ≤ 16 + n → 16 + n ≤ length t
    → take k (take 16 w ++ (take n (drop 16 t) ++ r)) ≡ take k t
front_joined t w r n k same less room =
    ap (take k) (sym (append_assoc (take 16 w) (take n (drop 16 t)) r)
    ∙ ap (λ (l : List ℕ). (l ++ take n (drop 16 t)) ++ r) same
    ∙ ap (λ (l : List ℕ). l ++ r) (sym (take-add 16 n t)))
    ∙ front_enough t r (16 + n) k less room

-- n bytes of m at the start: whole blocks, or all
pub start-part : (m n : ℕ) → m ≤ 2 ^ 24 → n ≡ min m 16 → Part m 0 n
start-part m n small e = record { small = small; within = omega arith; whole = by (ℕ_discrete n m) }
  where
    by : Dec (n ≡ m) → (16 * 0 + n ≡ m) ⊎ (n % 16 ≡ 0)
    by (yes d) = inl (omega arith)
    by (no d) = let whole : n ≡ 16 = omega arith in inr (ap (λ (k : ℕ). k % 16) whole)

-- and behind the first block up to the end e
pub rest_part : (m n e k : ℕ) → m ≤ 2 ^ 24 → e ≡ min m (16 * k) → 16 < e → n ≡ e - 16 → Part m 1 n
rest_part m n e k small is more long = record { small = small; within = omega arith; whole = by (ℕ_discrete e m) }
  where
    by : Dec (e ≡ m) → (16 * 1 + n ≡ m) ⊎ (n % 16 ≡ 0)
    by (yes d) = inl (omega arith)
    by (no d) = inr (omega arith)

-- what the first window leaves: the first n bytes of the text t, and behind them what was there
pub record Held (t work held : List ℕ) (n : ℕ) : Type 0 where
  pub is : held ≡ take n t ++ drop n work
  pub long : length held ≡ length work
  pub says : 2 ≤ n → get_or held 0 0 * 256 + get_or held 1 0 ≡ source_length t

pub first_held : (s : Suite) (key nonce : List ℕ) → length nonce ≤ 15 → (c : List ℕ) → length c ≤ 2 ^ 24 → (work w : List ℕ) (n : ℕ)
    → n ≡ min (length c) 16 → 16 ≤ length work → w ≡ text_part s key nonce c 0 n → Held (text_of s key nonce c) work (w ++ drop n work) n
first_held s key nonce short c small work w n least room e =
    let t = text_of s key nonce c in
    let t-long : length t ≡ length c = text_long s key nonce short c small in
    let held : w ++ drop n work ≡ take n t ++ drop n work =
    ap (λ (l : List ℕ). l ++ drop n work) (e ∙ text_front s key nonce short c small n (start-part (length c) n small least)) in
    record {
      is = held;
      long =
          ap length held
          ∙ length-append (take n t) (drop n work)
          ∙ omega (arith, length-take-le n t (omega arith), length-drop n work);
      says = λ two.
          ap (λ (l : List ℕ). get_or l 0 0 * 256 + get_or l 1 0) held ∙ stated_front t (drop n work) n two (omega arith);
    }
