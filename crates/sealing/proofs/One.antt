-- Sealed bytes are those of at most one text.
use mathlib.Core.Path.{◌≡◌}
use mathlib.Core.List.{List}
use Prim.Native.Nat.{ℕ, ◌≤◌}
use lib.ListN.{length}
use Rattle.bits.specs.Bytes.{Bytes}
use Rattle.calls.proofs.Exact.{Inverse, sealing_one}
use Rattle.suites.specs.declared.suite.Suite.{Suite}
use Rattle.suites.specs.Suite.{cipher_of}
use Rattle.rounds.proofs.Inverse.{encipher_block, decipher_block, decipher_encipher, encipher_decipher}
use Rattle.state.specs.Block.{Block}
use Rattle.text_blocks.specs.Under.{enciphers, deciphers}
use Rattle.text_blocks.proofs.Chunks.{enciphers_blockwise, deciphers_blockwise}
use Rattle.sealing.specs.Seal.{sealed}

module _ (s : Suite) (key : List ℕ) (long : length key ≡ 16) (bytes : Bytes key) where
  pub inverse : Inverse (enciphers s key) (deciphers s key)
  inverse =
      let k : Block key = record { long = long; fit = bytes.fit } in
      let c = cipher_of s.cipher in
      record {
        ahead = λ t b ht hb. encipher_block c s.steps key t k ht b hb;
        behind = λ t b ht hb. decipher_block c s.steps key t k ht b hb;
        undo = λ t b ht hb. decipher_encipher c s.steps key t k ht b hb;
        redo = λ t b ht hb. encipher_decipher c s.steps key t k ht b hb;
      }

  pub sealed_one : (nonce header : List ℕ) → length nonce ≤ 15 → Bytes nonce → (t₁ t₂ : List ℕ) → Bytes t₁ → Bytes t₂
      → sealed s.cipher s.steps key nonce header t₁ ≡ sealed s.cipher s.steps key nonce header t₂ → t₁ ≡ t₂
  unfolding sealed
  sealed_one nonce header short plain t₁ t₂ b₁ b₂ q =
      sealing_one (enciphers s key) (deciphers s key) (enciphers_blockwise s key) (deciphers_blockwise s key) inverse nonce short plain header t₁ t₂ b₁ b₂ q
