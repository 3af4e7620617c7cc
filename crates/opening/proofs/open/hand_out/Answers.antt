-- The first window is copied; what follows it is deciphered in the output itself.
use mathlib.Core.Path.{◌≡◌, sym, ap, ◌∙◌}
use mathlib.Core.List.{◌++◌, append_assoc}
use Prim.Native.Nat.{◌+◌, ◌-◌, ◌*◌, ◌/◌, min}
use native.Mathlib.Omega.{arith}
use lib.ListN.{length, take, drop, length-append, length-drop}
use lib.Seq.{length-take-le, take_at, drop_at, drop-drop}
use Rattle.std.proofs.lemmas.Grind.{common_steps}
use Rattle.calls.specs.Pieces.{through}
use Rattle.text_blocks.specs.Under.{enciphers, deciphers}
use Rattle.sealing.specs.Passes.{text_part}
use Rattle.bits.proofs.Lists.{part_rest}
use Rattle.text_blocks.proofs.Parts.{through_split}
use Rattle.opening.proofs.open.hand_out.Goals as goal

pub returns-then-n-m : goal.returns-then-n-m
returns-then-n-m c =
    let a = c.args in
    let m = length a.c.now in
    let n = c.min-n.result in
    let least : n ≡ min m (length a.work.now) = grind (arith, common_steps) in
    let f = deciphers a.u.now.suite a.u.now.key in
    let e = enciphers a.u.now.suite a.u.now.key in
    let part = text_part a.u.now.suite a.u.now.key a.u.now.nonce.now a.c.now 0 in
    let C = c.copy.new.d in
    let A = take n a.work.now in
    let at = 16 * (n / 16) in
    -- the first window, whole blocks, and how it was copied
    let front : length A ≡ n = length-take-le n a.work.now (omega arith) in
    let all_work : n ≡ length a.work.now = omega arith in
    let b : at ≡ n = omega (arith, c.requires.2) in
    let first : A ≡ part n = ap (λ k. take k a.work.now) least ∙ c.requires.3 ∙ ap part (sym least) in
    let copied : C ≡ A ++ drop n a.out.now = c.copy.ensures ∙ ap (λ k. A ++ drop k a.out.now) front in
    let kept : length C ≡ length a.out.now =
    ap length copied ∙ length-append A (drop n a.out.now) ∙ omega (arith, front, length-drop n a.out.now) in
    let start : take n C ≡ part at = ap (take n) copied ∙ take_at A (drop n a.out.now) n front ∙ first ∙ ap part (sym b) in
    -- what follows it
    let left : length (take (m - n) (drop n C)) ≡ m - n = length-take-le (m - n) (drop n C) (rw (length-drop, kept) (omega arith)) in
    let number : c.after-next.result.0 ≡ n / 16 = omega arith in
    let rest : take (length (take (m - n) (drop n C))) (drop (16 * c.after-next.result.0) a.c.now) ≡ drop at a.c.now =
    ap (λ k. take (length (take (m - n) (drop n C))) (drop (16 * k) a.c.now)) number
    ∙ ap (λ j. take j (drop at a.c.now)) (left ∙ ap (λ j. m - j) (sym b))
    ∙ part_rest at a.c.now in
    let all : n + (m - n) ≡ m = omega arith in
    let behind : drop (m - n) (drop n C) ≡ drop m a.out.now =
    ap (λ l. drop (m - n) (drop n l)) copied
    ∙ ap (drop (m - n)) (drop_at A (drop n a.out.now) n front)
    ∙ drop-drop (m - n) n a.out.now
    ∙ ap (λ j. drop j a.out.now) all in
    (λ i. start i ++ ((c.window.ensures ∙ (λ j. through f e a.u.now.nonce.now m (number j) (rest j))) i ++ behind i))
    ∙ sym (append_assoc (part at) (through f e a.u.now.nonce.now m (n / 16) (drop at a.c.now)) (drop m a.out.now))
    ∙ ap (λ l. l ++ drop m a.out.now) (sym (through_split f e a.u.now.nonce.now m a.c.now (n / 16) (omega arith)))
