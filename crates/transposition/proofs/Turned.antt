-- Six levels turn the squares.
use mathlib.Core.Path.{◌≡◌, ◌∙◌}
use mathlib.Core.Bool.{Bool, ◌&&◌}
use mathlib.Core.List.{List}
use Prim.Native.Nat.{ℕ, ◌+◌, ◌*◌, ◌/◌, ◌%◌, ◌<◌}
use lib.Dec.{T, eqb, ltb, eqb→eq, ltb→lt}
use Rattle.bits.specs.Bit.{bit}
use Rattle.bits.proofs.Tests.{all, all_at, and_left, and_right}
use Rattle.transposition.specs.Levels.{word_at, level, within, turned}
use Rattle.transposition.proofs.Levels.{suits, word_from, bit_from, level_bit}

-- the way of bit k of word n through one level, then by `f`
abbrev onward : ℕ → (ℕ → ℕ → Bool) → ℕ → ℕ → Bool
onward d f n k = ltb (word_from d n k) 128 && (ltb (bit_from d n k) 64 && f (word_from d n k) (bit_from d n k))

-- it comes from word k of the same square, and there from bit n mod 64
abbrev arrives : ℕ → ℕ → Bool
arrives n k =
    onward 32 (onward 16 (onward 8 (onward 4 (onward 2 (onward 1 (λ i j. eqb i (64 * (n / 64) + k) && eqb j (n % 64))))))) n k

all_arrive : T (all 128 (λ n. all 64 (arrives n)))
all_arrive = tt

suits_1 : T (all 64 (suits 1 0x5555555555555555))
unfolding bit
suits_1 = tt

suits_2 : T (all 64 (suits 2 0x3333333333333333))
unfolding bit
suits_2 = tt

suits_4 : T (all 64 (suits 4 0x0F0F0F0F0F0F0F0F))
unfolding bit
suits_4 = tt

suits_8 : T (all 64 (suits 8 0x00FF00FF00FF00FF))
unfolding bit
suits_8 = tt

suits_16 : T (all 64 (suits 16 0x0000FFFF0000FFFF))
unfolding bit
suits_16 = tt

suits_32 : T (all 64 (suits 32 0x00000000FFFFFFFF))
unfolding bit
suits_32 = tt

-- one level on the way: what is left is the same question one level below
one_level : (d m : ℕ) → T (all 64 (suits d m)) → (x : List (List ℕ)) (f : ℕ → ℕ → Bool) (v : ℕ)
    → ((n k : ℕ) → n < 128 → k < 64 → T (f n k) → bit (word_at x n) k ≡ v)
    → (n k : ℕ) → n < 128 → k < 64 → T (onward d f n k) → bit (word_at (level d m x) n) k ≡ v
one_level d m t x f v below n k hn hk on =
    let i = word_from d n k in
    let j = bit_from d n k in
    let rest = and_right (ltb i 128) (ltb j 64 && f i j) on in
    level_bit d m t x n hn k hk
    ∙ below i j (ltb→lt i 128 (and_left (ltb i 128) (ltb j 64 && f i j) on)) (ltb→lt j 64 (and_left (ltb j 64) (f i j) rest))
    (and_right (ltb j 64) (f i j) rest)

pub turned_bit : (x : List (List ℕ)) (n : ℕ) → n < 128 → (k : ℕ) → k < 64
    → bit (word_at (turned x) n) k ≡ bit (word_at x (64 * (n / 64) + k)) (n % 64)
unfolding turned within
turned_bit x n hn k hk =
    one_level 32 0x00000000FFFFFFFF suits_32 _ (onward 16 (onward 8 (onward 4 (onward 2 (onward 1 last))))) v
    (one_level 16 0x0000FFFF0000FFFF suits_16 _ (onward 8 (onward 4 (onward 2 (onward 1 last)))) v
    (one_level 8 0x00FF00FF00FF00FF suits_8 _ (onward 4 (onward 2 (onward 1 last))) v
    (one_level 4 0x0F0F0F0F0F0F0F0F suits_4 _ (onward 2 (onward 1 last)) v
    (one_level 2 0x3333333333333333 suits_2 _ (onward 1 last) v
    (one_level 1 0x5555555555555555 suits_1 x last v
    (λ i j hi hj e. λ z. bit (word_at x (word i j e z)) (place i j e z)))))))
    n k hn hk (all_at 64 (arrives n) (all_at 128 (λ n. all 64 (arrives n)) all_arrive n hn) k hk)
  where
    v : ℕ
    v = bit (word_at x (64 * (n / 64) + k)) (n % 64)

    last : ℕ → ℕ → Bool
    last i j = eqb i (64 * (n / 64) + k) && eqb j (n % 64)

    word : (i j : ℕ) → T (last i j) → i ≡ 64 * (n / 64) + k
    word i j e = eqb→eq i (64 * (n / 64) + k) (and_left (eqb i (64 * (n / 64) + k)) (eqb j (n % 64)) e)

    place : (i j : ℕ) → T (last i j) → j ≡ n % 64
    place i j e = eqb→eq j (n % 64) (and_right (eqb i (64 * (n / 64) + k)) (eqb j (n % 64)) e)
