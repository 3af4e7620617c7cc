-- By what it calls.
use mathlib.Core.Path.{◌∙◌}
use lib.ListN.{length}
use Rattle.calls.specs.Calls.{filled}
use Rattle.calls.specs.Tweak.{blocks_of}
use Rattle.sums.specs.Sums.{sum_from}
use Rattle.blockwise.specs.Blocks.{block}
use Rattle.passes.proofs.Windows.{text, window_sum}
use Rattle.passes.proofs.Ciphertext.add_window.Goals as goal

pub returns : goal.returns
unfolding text
returns c =
    let a = c.args in
    let t = a.self.now in (
      c.add_all.ensures
          ∙ (λ i. sum_from (c.requires.1 i) (blocks_of (length (c.window.ensures i))) (λ j. filled 0x00 (block (c.window.ensures i) j)))
          ∙ window_sum t.setting.suite t.setting.key t.setting.nonce.now t.setting.nonce_short t.bytes.now a.first.0 (length a.work.now) c.requires.0,
      c.window.ensures,
    )
