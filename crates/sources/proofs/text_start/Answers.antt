-- The first block, which says how far the source goes; then the blocks behind it, if it goes further.
use mathlib.Core.Path.{◌≡◌, refl, sym, ap, ◌∙◌}
use mathlib.Core.List.{List, ◌++◌}
use Prim.Native.Nat.{ℕ, ◌+◌, ◌-◌, ◌/◌}
use native.Mathlib.Omega.{arith}
use borrow.Rule.Slice.PartMut.{same_len_mid}
use lib.ListN.{length, take, drop, length-drop}
use lib.Seq.{length-take-le}
use Rattle.fields.specs.Unit.{source_length}
use Rattle.text_blocks.specs.Text.{Part}
use Rattle.sealing.specs.Passes.{text_of, text_part}
use Rattle.sources.proofs.Text.{text_long, text_part_lem, front_enough, front_joined, rest_part, Held, first_held}
use Rattle.sources.proofs.text_start.Goals as goal

pub slice_bounds-window-end-then-end-gt16 : goal.slice_bounds-window-end-then-end-gt16
slice_bounds-window-end-then-end-gt16 c =
    let a = c.args in
    let t = text_of a.suite a.key a.nonce.now a.c.now in
    let t-long : length t ≡ length a.c.now = text_long a.suite a.key a.nonce.now c.requires.0.usable.short a.c.now c.requires.0.small in
    let n = c.lesser-first.result in
    let front : length (take n a.work.now) ≡ n = length-take-le n a.work.now (omega arith) in
    let x = c.window.new.work ++ drop n a.work.now in
    let held : Held t a.work.now x n =
    first_held a.suite a.key a.nonce.now c.requires.0.usable.short a.c.now c.requires.0.small a.work.now c.window.new.work n
    c.lesser-first.ensures (omega arith)
    (c.window.ensures ∙ (λ i. text_part a.suite a.key a.nonce.now a.c.now (c.start-start.ensures i) (front i))) in
    -- the source's length
    let said : c.pair-len.result ≡ source_length t = c.pair-len.ensures ∙ held.says (omega arith) in
    omega arith

pub returns-then-end-gt16 : goal.returns-then-end-gt16
returns-then-end-gt16 c =
    let a = c.args in
    let t = text_of a.suite a.key a.nonce.now a.c.now in
    let t-long : length t ≡ length a.c.now = text_long a.suite a.key a.nonce.now c.requires.0.usable.short a.c.now c.requires.0.small in
    let n = c.lesser-first.result in
    let front : length (take n a.work.now) ≡ n = length-take-le n a.work.now (omega arith) in
    let x = c.window.new.work ++ drop n a.work.now in
    let held : Held t a.work.now x n =
    first_held a.suite a.key a.nonce.now c.requires.0.usable.short a.c.now c.requires.0.small a.work.now c.window.new.work n
    c.lesser-first.ensures (omega arith)
    (c.window.ensures ∙ (λ i. text_part a.suite a.key a.nonce.now a.c.now (c.start-start.ensures i) (front i))) in
    -- the source's length
    let said : c.pair-len.result ≡ source_length t = c.pair-len.ensures ∙ held.says (omega arith) in
    let e = c.lesser-end.result in
    let r = c.pair-len.result in
    let y = c.window-then-end-gt16.new.work in
    let behind : Part (length a.c.now) 1 (e - 16) =
    rest_part (length a.c.now) (e - 16) e ((r + 17) / 16) c.requires.0.small c.lesser-end.ensures c.if-end-gt16.true refl in
    let second-long : length (take (e - 16) (drop 16 x)) ≡ e - 16 = length-take-le (e - 16) (drop 16 x) (rw length-drop (omega arith)) in
    let second-number : c.after.result.0 ≡ 1 = omega arith in
    let second : y ≡ take (e - 16) (drop 16 t) =
    c.window-then-end-gt16.ensures
    ∙ (λ i. text_part a.suite a.key a.nonce.now a.c.now (second-number i) (second-long i))
    ∙ text_part_lem a.suite a.key a.nonce.now c.requires.0.usable.short a.c.now c.requires.0.small 1 (e - 16) behind in
    let first : take 16 x ≡ take 16 t = ap (take 16) held.is ∙ front_enough t (drop n a.work.now) n 16 (omega arith) (omega arith) in
    let more : length y ≡ length (take (e - 16) (drop 16 x)) =
    ap length second ∙ length-take-le (e - 16) (drop 16 t) (rw length-drop (omega arith)) ∙ sym second-long in
    record {
      length_is = said;
      front =
          ap (λ (l : List ℕ). take (2 + r) (take 16 x ++ (l ++ drop (e - 16) (drop 16 x)))) second
          ∙ front_joined t x (drop (e - 16) (drop 16 x)) (e - 16) (2 + r) first (omega arith) (omega arith);
      long = same_len_mid 16 (e - 16) x y more ∙ held.long;
    }

pub returns-else-end-gt16 : goal.returns-else-end-gt16
returns-else-end-gt16 c =
    let a = c.args in
    let t = text_of a.suite a.key a.nonce.now a.c.now in
    let t-long : length t ≡ length a.c.now = text_long a.suite a.key a.nonce.now c.requires.0.usable.short a.c.now c.requires.0.small in
    let n = c.lesser-first.result in
    let front : length (take n a.work.now) ≡ n = length-take-le n a.work.now (omega arith) in
    let x = c.window.new.work ++ drop n a.work.now in
    let held : Held t a.work.now x n =
    first_held a.suite a.key a.nonce.now c.requires.0.usable.short a.c.now c.requires.0.small a.work.now c.window.new.work n
    c.lesser-first.ensures (omega arith)
    (c.window.ensures ∙ (λ i. text_part a.suite a.key a.nonce.now a.c.now (c.start-start.ensures i) (front i))) in
    -- the source's length
    let said : c.pair-len.result ≡ source_length t = c.pair-len.ensures ∙ held.says (omega arith) in
    let r = c.pair-len.result in
    record {
      length_is = said;
      front = ap (take (2 + r)) held.is ∙ front_enough t (drop n a.work.now) n (2 + r) (omega arith) (omega arith);
      long = held.long;
    }
