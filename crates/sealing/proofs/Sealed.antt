-- The sealed bytes as they are written, and the answers of `seal` and `seal_in_place`.
use Rattle.suites.specs.Answer.{Answer}
use Rattle.std.specs.Prelude.{Ok, Err}
use mathlib.Core.Path.{◌≡◌, sym, ap, ◌∙◌}
use mathlib.Core.List.{List, ◌++◌, append_assoc}
use Prim.Native.Nat.{ℕ, ◌+◌, ◌-◌, ◌*◌, ◌^◌, ◌≤◌}
use native.Mathlib.Nat.{le_of_eq, le_trans}
use native.Mathlib.Omega.{arith}
use lib.ListN.{length, take, drop, replicate}
use lib.Seq.{paste, take_all, take_at, take-add, take-take, drop_at, drop-drop, length-take-le}
use Rattle.calls.specs.Calls.{filled, checksum, calls}
use Rattle.calls.specs.Pieces.{through, header_sum, tag_from}
use Rattle.calls.specs.Tweak.{blocks_of}
use Rattle.calls.proofs.ByBlocks.{sealing_is, length_sealing, length_through, length_tag_from, length_checksum, length_header_sum}
use Rattle.calls.proofs.Distinct.{length_calls}
use Rattle.suites.specs.declared.refusal.Refusal.{Refusal}
use Rattle.suites.specs.declared.suite.Suite.{Suite}
use Rattle.limits.specs.Tests.{seal_tests}
use Rattle.limits.proofs.Passed.{seal_passed, header_limit_most, text_limit_most}
use Rattle.sums.specs.Sums.{sum_from}
use Rattle.text_blocks.specs.Under.{enciphers, deciphers}
use Rattle.text_blocks.proofs.Chunks.{enciphers_blockwise}
use Rattle.text_blocks.proofs.Parts.{through_split}
use Rattle.sums.proofs.Sums.{sum_of_lem}
use Rattle.blockwise.specs.Blocks.{block}
use Rattle.sealing.specs.Passes.{Passable}
use Rattle.sealing.specs.Seal.{sealed, written, seal_report, made_sealed}

pub checksum_is : (t : List ℕ) → sum_from (replicate 16 0) (blocks_of (length t)) (λ i. filled 0 (block t i)) ≡ checksum t
unfolding checksum
checksum_is t = sum_of_lem (blocks_of (length t)) (λ i. filled 0 (block t i))

-- a text at the output's start, whose first n bytes, whole blocks, have become x
module _ (m n : ℕ) (out x : List ℕ) (within : n ≤ m) (room : m ≤ length out) (long : length x ≡ n) where
  ends : n + (m - n) ≡ m
  ends = omega arith

  -- the others are as they were
  pub second_is : take (m - n) (drop n (x ++ drop n out)) ≡ drop n (take m out)
  second_is =
      ap (take (m - n)) (drop_at x (drop n out) n long)
      ∙ sym (drop_at (take n out) (take (m - n) (drop n out)) n (length-take-le n out (omega arith)))
      ∙ ap (drop n) (sym (take-add n (m - n) out) ∙ ap (λ (k : ℕ). take k out) ends)

  -- and become y
  pub through_parts : (f e : List ℕ → List ℕ → List ℕ) (nonce : List ℕ) (k : ℕ) → n ≡ 16 * k → (y : List ℕ)
      → x ≡ through f e nonce m 0 (take n out) → y ≡ through f e nonce m k (drop n (take m out))
      → take n (x ++ drop n out) ++ (y ++ drop (m - n) (drop n (x ++ drop n out))) ≡ through f e nonce m 0 (take m out) ++ drop m out
  through_parts f e nonce k blocks y ex ey =
      let t = take m out in
      let rest = drop n out in
      let behind : drop (m - n) (drop n (x ++ rest)) ≡ drop m out =
      ap (drop (m - n)) (drop_at x rest n long) ∙ drop-drop (m - n) n out ∙ ap (λ (j : ℕ). drop j out) ends in
      let whole : x ++ y ≡ through f e nonce m 0 t =
      (λ j. (ex ∙ ap (through f e nonce m 0) (sym (take-take n m out within))) j ++ ey j)
      ∙ ap (λ (j : ℕ). through f e nonce m 0 (take j t) ++ through f e nonce m k (drop j t)) blocks
      ∙ sym (through_split f e nonce m t k (omega (arith, length-take-le m out room))) in
      (λ j. take_at x rest n long j ++ (y ++ behind j)) ∙ sym (append_assoc x y (drop m out)) ∙ ap (λ (z : List ℕ). z ++ drop m out) whole

-- a ciphertext takes the place of a text at the output's start, and a tag is put behind it
tagged : (m : ℕ) (out x g : List ℕ) → length x ≡ m → length g ≡ 16 → paste (x ++ drop m out) m g 16 ≡ x ++ g ++ drop (m + 16) out
tagged m out x g lx lg =
    let w = x ++ drop m out in
    let behind : drop (m + 16) w ≡ drop (m + 16) out = sym (drop-drop 16 m w) ∙ ap (drop 16) (drop_at x (drop m out) m lx) ∙ drop-drop 16 m out in
    λ j. take_at x (drop m out) m lx j ++ take_all 16 g (le_of_eq lg) j ++ behind j

module _ (s : Suite) (key nonce h t : List ℕ) (short : length nonce ≤ 15) (m : ℕ) (long : length t ≡ m) where
  pub length_sealed : length (sealed s.cipher s.steps key nonce h t) ≡ m + 16
  unfolding sealed
  length_sealed = length_sealing (enciphers s key) (deciphers s key) (enciphers_blockwise s key) nonce short h t ∙ ap (λ (n : ℕ). n + 16) long

  pub sealed_written : (out : List ℕ)
      → paste (through (enciphers s key) (enciphers s key) nonce m 0 t ++ drop m out) m
      (tag_from (enciphers s key) nonce m (checksum t) (header_sum (enciphers s key) nonce h)) 16
      ≡ sealed s.cipher s.steps key nonce h t ++ drop (m + 16) out
  unfolding sealed
  sealed_written out =
      let e = enciphers s key in
      let k = enciphers_blockwise s key in
      let sum = header_sum e nonce h in
      let x = through e e nonce m 0 t in
      let g = tag_from e nonce m (checksum t) sum in
      let long-x : length x ≡ m = ap (λ (n : ℕ). length (through e e nonce n 0 t)) (sym long) ∙ length_through e e k k nonce short t ∙ long in
      let long-g : length g ≡ 16 = length_tag_from e k nonce short m (checksum t) sum (length_checksum t) (length_header_sum e k nonce short h) in
      tagged m out x g long-x long-g
      ∙ ap (λ (n : ℕ). (through e e nonce n 0 t ++ tag_from e nonce n (checksum t) sum) ++ drop (m + 16) out) (sym long)
      ∙ ap (λ (x : List ℕ). x ++ drop (m + 16) out) (sym (sealing_is e (deciphers s key) k nonce short h t))

-- what the tests of sealing m bytes leave true
pub record Passed (s : Suite) (key nonce h : List ℕ) (m : ℕ) (out : List ℕ) : Type 0 where
  pub whole : length key ≡ 16
  pub header : Passable s nonce h
  pub small : m ≤ 2 ^ 24
  pub room : m + 16 ≤ length out

module _ (s : Suite) (key nonce h : List ℕ) (m : ℕ) (out : List ℕ) where
  -- what the tests answer
  abbrev pub tests : Answer
  tests = seal_tests s.cipher s.steps (length key) (length nonce) (length h) m (length out)

  pub seal_refused : (why : Refusal) → tests ≡ Err why → (t : List ℕ)
      → (Err why ≡ seal_report tests (m + 16) (length (calls nonce h t))) × (out ≡ written tests (sealed s.cipher s.steps key nonce h t) out)
  seal_refused why e t = (
    sym (ap (λ (a : Answer). seal_report a (m + 16) (length (calls nonce h t))) e),
    sym (ap (λ (a : Answer). written a (sealed s.cipher s.steps key nonce h t) out) e),
  )

  module _ (e : tests ≡ Ok tt) where
    pub passed : Passed s key nonce h m out
    passed =
        let p = seal_passed s.cipher s.steps (length key) (length nonce) (length h) m (length out) e in
        record {
          whole = p.inputs.key;
          header =
              record {
                usable = record { suite = p.inputs.suite; short = p.inputs.short };
                small = le_trans p.inputs.header (header_limit_most (length nonce));
              };
          small = le_trans p.text (text_limit_most (length nonce));
          room = p.room;
        }

    pub seal_done : (t : List ℕ) → length t ≡ m
        → (made_sealed (m + 16) (blocks_of (length h) + blocks_of m + 1) ≡ seal_report tests (m + 16) (length (calls nonce h t)))
        × (sealed s.cipher s.steps key nonce h t ++ drop (m + 16) out ≡ written tests (sealed s.cipher s.steps key nonce h t) out)
    seal_done t long =
        let all = sealed s.cipher s.steps key nonce h t in (
          ap (λ (n : ℕ). made_sealed (m + 16) (blocks_of (length h) + blocks_of n + 1)) (sym long)
              ∙ ap (made_sealed (m + 16)) (sym (length_calls nonce h t))
              ∙ sym (ap (λ (a : Answer). seal_report a (m + 16) (length (calls nonce h t))) e),
          ap (λ (n : ℕ). all ++ drop n out) (sym (length_sealed s key nonce h t passed.header.usable.short m long))
              ∙ sym (ap (λ (a : Answer). written a all out) e),
        )
