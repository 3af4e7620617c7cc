-- Cipher calls put one behind the other into two buffers, one for tweaks and one for blocks, so that they are run at once. No entry point's
-- contract cites this crate.
use Rattle.std.specs.Prelude.{cond, List, ◌++◌, ℕ, ◌*◌, length, drop}
use Rattle.blockwise.specs.Blocks.{strung}
use Rattle.calls.specs.Calls.{length_block}
use Rattle.calls.specs.Tweak.{text_tweak, special_tweak, inner, last_text_mark}

-- k blocks at a buffer's start; the bytes behind them stay
unfoldable pub put_first : ℕ → (ℕ → List ℕ) → List ℕ → List ℕ
put_first k g buffer = strung k g ++ drop (16 * k) buffer

-- of a text of m bytes, whose block i is b: the tweak and the block of the call for it, what `text_call` has of a whole text
abbrev pub text_tweak_of : List ℕ → ℕ → ℕ → List ℕ
text_tweak_of nonce m i = cond (inner m i) (text_tweak nonce i) (special_tweak nonce (last_text_mark m))

abbrev pub text_block_of : ℕ → ℕ → List ℕ → List ℕ
text_block_of m i b = cond (inner m i) b (length_block (length b))
