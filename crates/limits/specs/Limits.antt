-- How long header and text may be.
use Rattle.std.specs.Prelude.{ℕ, ◌-◌, ◌*◌, ◌^◌, min}

-- "Limits: header min(2^(130−8n), 2^24) bytes, text min(2^(131−8n), 2^24)", under a nonce of n bytes
unfoldable pub header_limit : ℕ → ℕ
header_limit n = min (2 ^ (130 - 8 * n)) (2 ^ 24)

unfoldable pub text_limit : ℕ → ℕ
text_limit n = min (2 ^ (131 - 8 * n)) (2 ^ 24)
