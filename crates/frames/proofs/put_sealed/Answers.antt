-- The text behind three bytes, field 11's head in their place, and the text sealed where it stands.
use mathlib.Core.Path.{◌≡◌, refl, sym, ap, ◌∙◌}
use mathlib.Core.List.{List, ◌++◌, append_assoc}
use Prim.Native.Nat.{ℕ, ◌+◌, ◌-◌}
use native.Mathlib.Omega.{arith}
use lib.ListN.{length, take, drop, length-append, take-append-drop}
use lib.Seq.{take_at, drop_at, length-take-le}
use Rattle.calls.specs.Calls.{calls}
use Rattle.sealing.specs.Seal.{sealed}
use Rattle.fields.specs.Field.{field_head}
use Rattle.format.specs.Layout.{sealed_fields}
use Rattle.format.specs.Sealings.{sealed_bytes, sealing_calls}
use Rattle.fields.specs.Unit.{unit_text}
use Rattle.fields.proofs.Fields.{length_field_head}
use Rattle.fields.proofs.Texts.{length_unit_text}
use Rattle.frames.specs.Parts.{tag_apart}
use Rattle.format.proofs.Behind.{copied, later, of_part, behind}
use Rattle.sealing.proofs.Sealed.{length_sealed}
use Rattle.frames.proofs.Sealed.{fields_joined_lem}
use Rattle.frames.proofs.put_sealed.Goals as goal

pub returns : goal.returns
unfolding sealed_bytes sealing_calls
returns c =
    let a = c.args in
    let out = a.out.now in
    let text : List ℕ = unit_text a.source.now a.target.now in
    let n : ℕ = length a.source.now + length a.target.now in
    let m : ℕ = 2 + n in
    let long : length text ≡ m = length_unit_text a.source.now a.target.now in
    let all : List ℕ → List ℕ = λ t. sealed a.suite.cipher a.suite.steps a.key a.nonce.now a.header.now t in
    let gap : length (take 3 out) ≡ 3 = length-take-le 3 out (omega arith) in
    let x : List ℕ = take 3 out ++ (c.put_text.new.out ++ drop (length out - 3) (drop 3 out)) in
    let put : x ≡ (take 3 out ++ text) ++ drop (3 + m) out =
    behind 3 (take 3 out) out out gap (sym (take-append-drop 3 out)) m (3 + m) refl (λ q. text) c.put_text.new.out c.put_text.ensures in
    let there : take m (drop 3 x) ≡ text =
    ap (λ (z : List ℕ). take m (drop 3 z)) (put ∙ append_assoc (take 3 out) text (drop (3 + m) out))
    ∙ ap (take m) (drop_at (take 3 out) (text ++ drop (3 + m) out) 3 gap)
    ∙ take_at text (drop (3 + m) out) m long in
    let front : length (take 3 out ++ text) ≡ 3 + m = length-append (take 3 out) text ∙ omega arith in
    let y = c.copy.new.d in
    let head : List ℕ = field_head 0x11 m in
    let three : length head ≡ 3 = length_field_head 0x11 m in
    let is : y ≡ head ++ drop 3 x = copied 3 head c.head-head.result x y three c.head-head.ensures c.copy.ensures in
    let sealed-long = length_sealed a.suite a.key a.nonce.now a.header.now text (omega (arith, c.requires.0.nonce_long)) (length text) refl in
    record {
      calls =
          of_part 3 head x y three is (λ q. length (calls a.nonce.now a.header.now (take m q))) c.seal_here.result c.seal_here.ensures.calls
          ∙ ap (λ (t : List ℕ). length (calls a.nonce.now a.header.now t)) there;
      is =
          behind 3 head x y three is (m + 19) (24 + n) (omega arith) (λ q. tag_apart m (all (take m q)))
          c.seal_here.new.out c.seal_here.ensures.is
          ∙ (λ j. (head ++ tag_apart m (all (there j))) ++ later (3 + m) (take 3 out ++ text) out x front put (24 + n) (omega arith) j)
          ∙ ap (λ (z : List ℕ). z ++ drop (24 + n) out) (fields_joined_lem m (all text) (omega (arith, sealed-long)))
          ∙ ap (λ (i : ℕ). sealed_fields i (all text) ++ drop (24 + n) out) (sym long);
    }
