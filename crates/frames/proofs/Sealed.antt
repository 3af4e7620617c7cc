-- The header sealed along, sealing in place where nothing is refused, and the fields of the sealed bytes.
use Rattle.suites.specs.Answer.{Answer}
use Rattle.std.specs.Prelude.{Ok}
use mathlib.Core.Path.{◌≡◌, sym, ap, ◌∙◌}
use mathlib.Core.List.{List, ◌++◌, append_assoc}
use Prim.Native.Nat.{ℕ, ◌+◌, ◌-◌, ◌^◌, ◌≤◌}
use native.Mathlib.Omega.{arith}
use lib.ListN.{length, take, drop, length-append, length-drop, take-append-drop}
use lib.Seq.{take_at, drop_at, take-append-le, drop-append-le, length-take-le}
use Rattle.calls.specs.Calls.{calls}
use Rattle.suites.specs.declared.suite.Suite.{Suite}
use Rattle.limits.specs.Limits.{header_limit, text_limit}
use Rattle.limits.proofs.Passed.{seal_passes}
use Rattle.sealing.specs.Seal.{sealed, written, made_sealed, seal_report, in_place_outcome, in_place_answer, in_place_buffer}
use Rattle.fields.specs.Field.{field_head, field}
use Rattle.bits.proofs.Lists.{part_rest}
use Rattle.format.specs.Layout.{sealed_fields}
use Rattle.format.specs.Sealings.{Sealing, opening_fields, sealed_bytes, sealing_calls}
use Rattle.sealing.proofs.Sealed.{length_sealed}
use Rattle.format.proofs.Lengths.{length_opening_fields}
use Rattle.frames.specs.Parts.{Within, tag_apart, Put, PutSealed, sealing_of}
use Rattle.format.proofs.Behind.{copied, later, behind}

-- the header of a unit or a close, n bytes, behind the opening fields
module _ (suite : Suite) (number n : ℕ) (head r : List ℕ) (is : r ≡ opening_fields suite number ++ head) (long : length r ≡ 16 + n) where
  length-head : length head ≡ n
  length-head = omega (arith, ap length is, length-append (opening_fields suite number) head, length_opening_fields suite number)

  -- copied to the start of an output
  head-put : (out x : List ℕ) → let h = take (length r - 16) (drop 16 r) in x ≡ h ++ drop (length h) out → x ≡ head ++ drop n out
  head-put out x e =
      let behind-fields : drop 16 r ≡ head = ap (drop 16) is ∙ drop_at (opening_fields suite number) head 16 (length_opening_fields suite number) in
      copied n head (take (length r - 16) (drop 16 r)) out x length-head (part_rest 16 r ∙ behind-fields) e

  -- and k bytes behind it, which f makes of the sealing's sealed bytes
  pub framed : {nonce y : List ℕ} {c : ℕ} (key : List ℕ) (s : Sealing) → opening_fields suite number ++ head ≡ s.header → nonce ≡ s.nonce
      → (out x : List ℕ) → let h = take (length r - 16) (drop 16 r) in x ≡ h ++ drop (length h) out
      → (f : List ℕ → List ℕ) (k end : ℕ) → n + k ≡ end
      → let q = take (length x - n) (drop n x) in PutSealed suite key (sealing_of nonce r s.text) f k q y c
      → Put s (head ++ f (sealed_bytes suite key s)) end out (take n x ++ (y ++ drop (length x - n) (drop n x))) c
  framed {nonce} {y} key s eh en out x e f k end h p =
      let made : Sealing = sealing_of nonce r s.text in
      let same : made ≡ s = λ j. record { nonce = en j; header = (is ∙ eh) j; text = s.text } in
      record {
        calls = p.calls ∙ ap (λ (z : Sealing). length (sealing_calls z)) same;
        is =
            behind n head out x length-head (head-put out x e) k end h (λ q. f (sealed_bytes suite key made)) y p.is
            ∙ ap (λ (z : Sealing). (head ++ f (sealed_bytes suite key z)) ++ drop end out) same;
      }

-- the limits under a nonce of 12 bytes
header_limit_lem : {n : ℕ} → n ≡ 12 → header_limit n ≡ 2 ^ 24
unfolding header_limit
header_limit_lem e = ap header_limit e

text_limit_lem : {n : ℕ} → n ≡ 12 → text_limit n ≡ 2 ^ 24
unfolding text_limit
text_limit_lem e = ap text_limit e

module _ (suite : Suite) (key nonce header : List ℕ) (m : ℕ) (out : List ℕ)
    (s : Within suite nonce header m) (long : length key ≡ 16) (room : m + 16 ≤ length out) where
  abbrev all : List ℕ
  all = sealed suite.cipher suite.steps key nonce header (take m out)

  pub length_all : length all ≡ m + 16
  length_all =
      length_sealed suite key nonce header (take m out) (omega (arith, s.nonce_long)) m (length-take-le m out (omega arith))

  done : in_place_outcome suite.cipher suite.steps key nonce header m out ≡ Ok tt
  unfolding in_place_outcome
  done =
      seal_passes suite.cipher suite.steps (length key) (length nonce) (length header) m (length out)
      (record {
        inputs =
            record {
              suite = s.listed_suite;
              key = long;
              nonce = omega (arith, s.nonce_long);
              short = omega (arith, s.nonce_long);
              header = rw (header_limit_lem s.nonce_long) s.header_short;
            };
        text = rw (text_limit_lem s.nonce_long) s.text_short;
        room = room;
      })

  pub answered : in_place_answer suite.cipher suite.steps key nonce header m out ≡ made_sealed (m + 16) (length (calls nonce header (take m out)))
  unfolding in_place_answer
  answered = ap (λ (a : Answer). seal_report a (m + 16) (length (calls nonce header (take m out)))) done

  pub sealed_there : (x : List ℕ) → x ≡ in_place_buffer suite.cipher suite.steps key nonce header m out → x ≡ all ++ drop (m + 16) out
  unfolding in_place_buffer
  sealed_there x e = e ∙ ap (λ (a : Answer). written a all out) done ∙ ap (λ (n : ℕ). all ++ drop n out) length_all

-- the tag of sealed bytes at the start of x goes to field 12
module _ (m : ℕ) (s out x : List ℕ) (long : length s ≡ m + 16) (is : x ≡ s ++ drop (m + 16) out) where
  pub tag_put : (y : List ℕ)
      → y ≡ field 0x12 (take 16 (take (length x - m) (drop m x))) ++ drop 19 (take (length x - m) (drop m x))
      → take m x ++ (y ++ drop (length x - m) (drop m x)) ≡ tag_apart m s ++ drop (m + 19) out
  unfolding tag_apart
  tag_put y e =
      let within : m ≤ length s = omega arith in
      let start : x ≡ take m s ++ drop m x =
      sym (take-append-drop m x) ∙ ap (λ (z : List ℕ). z ++ drop m x) (ap (take m) is ∙ take-append-le m s (drop (m + 16) out) within) in
      let tag : take 16 (drop m x) ≡ drop m s =
      ap (λ (z : List ℕ). take 16 (drop m z)) is
      ∙ ap (take 16) (drop-append-le m s (drop (m + 16) out) within)
      ∙ take_at (drop m s) (drop (m + 16) out) 16 (length-drop m s ∙ omega arith) in
      behind m (take m s) x x (length-take-le m s within) start 19 (m + 19) (omega arith) (λ p. field 0x12 (take 16 p)) y e
      ∙ (λ j. (take m s ++ field 0x12 (tag j)) ++ later (m + 16) s out x long is (m + 19) (omega arith) j)

-- and the ciphertext is field 11's value
pub fields_joined_lem : (m : ℕ) (s : List ℕ) → m ≤ length s → field_head 0x11 m ++ tag_apart m s ≡ sealed_fields m s
unfolding tag_apart sealed_fields field
fields_joined_lem m s h =
    sym (append_assoc (field_head 0x11 m) (take m s) (field 0x12 (drop m s)))
    ∙ ap (λ (n : ℕ). (field_head 0x11 n ++ take m s) ++ field 0x12 (drop m s)) (sym (length-take-le m s h))
