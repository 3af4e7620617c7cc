-- What the code that tests seals asks for and hands on; no entry point's contract speaks of it.
use Rattle.std.specs.Prelude.{◌≡◌, true, List, ◌++◌, ℕ, ◌+◌, ◌-◌, ◌≤◌, length, take, drop}
use Rattle.suites.specs.Suite.{listed}
use Rattle.opening_fields.specs.Opening.{opening_suite}
use Rattle.seals.specs.declared.Parts.{Parts}

-- a key of 16 bytes, and the bytes o of opening fields that were tested
pub record Under (key o : List ℕ) : Type 0 where
  pub key_long : length key ≡ 16
  pub opening_long : length o ≡ 16
  pub listed_suite : listed (opening_suite o).cipher (opening_suite o).steps ≡ true

-- the parts r of a frame s: its nonce, the header sealed along, and its sealed bytes, ciphertext and tag apart
pub record PartsOf (nonce along sealed s : List ℕ) (r : Parts) : Type 0 where
  pub nonce_is : r.nonce ≡ nonce
  pub along_is : r.along ≡ along
  pub sealed_is : take (r.end - r.start) (drop r.start s) ++ r.tag ≡ sealed
  pub starts : r.start ≤ r.end
  pub ends : r.end ≤ length s

-- places in a frame s: a header of h bytes, a ciphertext from `start` to `end`, a tag at `at`
pub record Placed (s : List ℕ) (h start end at : ℕ) : Type 0 where
  pub short : h ≤ 32
  pub within : h ≤ length s
  pub starts : start ≤ end
  pub ends : end ≤ length s
  pub tagged : at + 16 ≤ length s
