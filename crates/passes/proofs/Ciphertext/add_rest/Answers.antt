-- The loop has added the blocks before the next, at most 64 at each turn.
use mathlib.Core.Path.{◌≡◌, refl, ap, ◌∙◌}
use Prim.Native.Nat.{◌+◌, ◌-◌, ◌*◌, ◌<◌, min}
use native.Mathlib.Omega.{arith}
use lib.ListN.{length, take}
use lib.Seq.{length-take-le}
use Rattle.std.proofs.lemmas.Grind.{common_steps}
use Rattle.calls.specs.Tweak.{blocks_of}
use Rattle.sealing.specs.Passes.{text_sum}
use Rattle.passes.proofs.Windows.{part_of_rest}
use Rattle.passes.proofs.Ciphertext.add_rest.Goals as goal

pub loop-i-init : goal.loop-i-init
loop-i-init c =
    let a = c.args in
    let t = a.self.now in
    let none : a.first.0 ≡ min (a.first.0 + 64 * 0) (blocks_of (length t.bytes.now)) = omega arith in
    c.requires.1 ∙ ap (text_sum t.setting.suite t.setting.key t.setting.nonce.now t.bytes.now) none

pub add_window-more-requires : goal.add_window-more-requires
add_window-more-requires c =
    let a = c.args in
    let t = a.self.now in
    let m = length t.bytes.now in
    let f = c.after.result.0 in
    let left : c.saturating_sub-left.result ≡ m - 16 * a.first.0 = omega arith in
    let some : 1024 * c.loop-i.i < m - 16 * a.first.0 = omega arith in
    let count : c.min-n.result ≡ min (c.saturating_sub-left.result - 1024 * c.loop-i.i) 1024 = grind (arith, common_steps) in
    let n : length (take c.min-n.result c.loop-i.work) ≡ min (m - 16 * f) 1024 =
    length-take-le c.min-n.result c.loop-i.work (omega arith) ∙ omega arith in
    let far : min (a.first.0 + 64 * c.loop-i.i) (blocks_of m) ≡ f = omega arith in (
      rw n (part_of_rest m f 1024 (omega arith) t.small refl),
      c.loop-i.invariant ∙ ap (text_sum t.setting.suite t.setting.key t.setting.nonce.now t.bytes.now) far,
    )

pub loop-i-preserved : goal.loop-i-preserved
loop-i-preserved c =
    let a = c.args in
    let t = a.self.now in
    let m = length t.bytes.now in
    let f = c.after.result.0 in
    let left : c.saturating_sub-left.result ≡ m - 16 * a.first.0 = omega arith in
    let some : 1024 * c.loop-i.i < m - 16 * a.first.0 = omega arith in
    let count : c.min-n.result ≡ min (c.saturating_sub-left.result - 1024 * c.loop-i.i) 1024 = grind (arith, common_steps) in
    let n : length (take c.min-n.result c.loop-i.work) ≡ c.min-n.result = length-take-le c.min-n.result c.loop-i.work (omega arith) in
    let further : f + blocks_of (length (take c.min-n.result c.loop-i.work)) ≡ min (a.first.0 + 64 * (c.loop-i.i + 1)) (blocks_of m) = omega arith in
    c.add_window-more.ensures.0 ∙ ap (text_sum t.setting.suite t.setting.key t.setting.nonce.now t.bytes.now) further

pub returns : goal.returns
returns c =
    let a = c.args in
    let t = a.self.now in
    let m = length t.bytes.now in
    let left : c.saturating_sub-left.result ≡ m - 16 * a.first.0 = omega arith in
    let all : min (a.first.0 + 64 * c.loop-i.i) (blocks_of m) ≡ blocks_of m = omega arith in
    c.loop-i.invariant ∙ ap (text_sum t.setting.suite t.setting.key t.setting.nonce.now t.bytes.now) all
