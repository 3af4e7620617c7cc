-- The circuit on words is the S-box layer by its table: each line below is one of the code's.
use mathlib.Core.List.{[], ◌∷◌, map}
use mathlib.Core.Path.{◌≡◌, ◌∙◌}
use borrow.Author.Rules.{rules}
use lib.Dec.{lit<}
use lib.ListN.{length}
use Rattle.sbox.specs.Sbox
use Rattle.sbox.specs.Equations
use Rattle.sbox.proofs.Circuit.{circuit_at}
use Rattle.sbox.proofs.Listings.{scream_right}
use Rattle.sbox.proofs.Words.{value_at, and, not, xor}
use Rattle.sbox.proofs.scream.circuit.Goals as goal

pub returns : goal.returns
returns g c =
    let l = g.met.W.Word.laws in
    let number = g.W.Word.number in
    let w = c.args.w in
    let long : length w ≡ 8 = search rules in
    let w0 = value_at number w long 0 (lit< tt) c.index-w-0.result in
    let w1 = value_at number w long 1 (lit< tt) c.index-w-1.result in
    let w2 = value_at number w long 2 (lit< tt) c.index-w-2.result in
    let w3 = value_at number w long 3 (lit< tt) c.index-w-3.result in
    let w4 = value_at number w long 4 (lit< tt) c.index-w-4.result in
    let w5 = value_at number w long 5 (lit< tt) c.index-w-5.result in
    let w6 = value_at number w long 6 (lit< tt) c.index-w-6.result in
    let w7 = value_at number w long 7 (lit< tt) c.index-w-7.result in
    let w2 = xor l c.bitxor-w2.ensures w2 (and l c.bitand.ensures w0 w1) in
    let w1 = xor l c.bitxor-w1.ensures w1 w2 in
    let w3 = xor l c.bitxor-w3.ensures w3 (and l c.bitand-2.ensures w0 w4) in
    let w2 = xor l c.bitxor-w2-2.ensures w2 w3 in
    let w0 = xor l c.bitxor-w0.ensures w0 (and l c.bitand-3.ensures w3 w1) in
    let w4 = xor l c.bitxor-w4.ensures w4 w1 in
    let w1 = xor l c.bitxor-w1-2.ensures w1 (and l c.bitand-4.ensures w2 w4) in
    let w1 = xor l c.bitxor-w1-3.ensures w1 w0 in
    let w0 = xor l c.bitxor-w0-2.ensures w0 w5 in
    let w1 = xor l c.bitxor-w1-4.ensures w1 w6 in
    let w2 = xor l c.bitxor-w2-3.ensures w2 w7 in
    let w3 = not l c.not-w3.ensures w3 in
    let w4 = not l c.not-w4.ensures w4 in
    let t5 = w5 in
    let t6 = w6 in
    let t7 = w7 in
    let w5 = xor l c.bitxor-w5.ensures w5 (and l c.bitand-5.ensures (not l c.not.ensures t6) t7) in
    let w6 = xor l c.bitxor-w6.ensures w6 (and l c.bitand-6.ensures (not l c.not-2.ensures t7) t5) in
    let w7 = xor l c.bitxor-w7.ensures w7 (and l c.bitand-7.ensures (not l c.not-3.ensures t5) t6) in
    let w5 = xor l c.bitxor-w5-2.ensures w0 w5 in
    let w6 = xor l c.bitxor-w6-2.ensures w1 w6 in
    let w7 = xor l c.bitxor-w7-2.ensures w2 w7 in
    let w2 = xor l c.bitxor-w2-4.ensures w2 (and l c.bitand-8.ensures w0 w1) in
    let w1 = xor l c.bitxor-w1-5.ensures w1 w2 in
    let w3 = xor l c.bitxor-w3-2.ensures w3 (and l c.bitand-9.ensures w0 w4) in
    let w2 = xor l c.bitxor-w2-5.ensures w2 w3 in
    let w0 = xor l c.bitxor-w0-3.ensures w0 (and l c.bitand-10.ensures w3 w1) in
    let w4 = xor l c.bitxor-w4-2.ensures w4 w1 in
    let w1 = xor l c.bitxor-w1-6.ensures w1 (and l c.bitand-11.ensures w2 w4) in
    let w1 = xor l c.bitxor-w1-7.ensures w1 w0 in
    (λ i. w0 i ∷ w1 i ∷ w2 i ∷ w3 i ∷ w4 i ∷ w5 i ∷ w6 i ∷ w7 i ∷ [])
    ∙ circuit_at g.W.Word.width Sbox.scream Equations.scream scream_right (map number w) c.requires
