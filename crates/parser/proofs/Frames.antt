-- Frames: fields that are written are read back, and those that are read were written.
use Rattle.suites.specs.Answer.{Answer}
use Rattle.parser.specs.declared.frame.Frame.TheVariants.{Close, Unit}
use Rattle.std.specs.Prelude.{cond, Some, None, Ok, Err}
use mathlib.Core.Path.{◌≡◌, refl, sym, ap, subst, ◌∙◌}
use mathlib.Core.Bool.{Bool, true, false, ◌&&◌, and-eq-true_iff, and-false}
use mathlib.Core.List.{List, ◌++◌, append_assoc}
use Prim.Native.Nat.{ℕ, ◌+◌, ◌^◌, ◌≤◌, ◌<◌}
use native.Mathlib.Omega.{arith}
use borrow.Author.Tests.{ltb-true, leb-true, eqb-true, lt-ltb, le-leb, eq-eqb, ne_eqb}
use lib.Dec.{eqb, leb, ltb}
use lib.ListN.{length, get_or, take, drop, length-append, length-drop, take-append-drop}
use lib.Seq.{take_at, drop_at, take_all, take-add, drop-drop, length-take-le}
use Rattle.bits.specs.Bytes.{Bytes, big_endian, number_of}
use Rattle.bits.proofs.BigEndian.{length_big_endian, number_of_lt, big_endian_number_of, number_of_big_endian}
use Rattle.bits.proofs.Bytes.{bytes_take, bytes_drop}
use Rattle.suites.specs.declared.refusal.Refusal.TheVariants.{FieldMalformed}
use Rattle.limits.specs.Tests.{unless}
use Rattle.limits.proofs.Passed.{unless_passed, unless_passes}
use Rattle.fields.specs.Field.{field_head, field, field_length, has_field, field_value, after_field}
use Rattle.fields.specs.Kind.{Kind, WellFormed}
use Rattle.fields.specs.Languages.{pair_allowed}
use Rattle.format.specs.Layout.{sealed_fields}
use Rattle.format.specs.Sealings.{unit_header, close_header}
use Rattle.fields.specs.Unit.{details_length}
use Rattle.kinds.specs.declared.Kind.{Kind as BookKind}
use Rattle.kinds.specs.declared.Kind.TheVariants.{Tag10, Tag14}
use Rattle.kinds.specs.Kind.{kind_of}
use Rattle.kinds.specs.Lengths.{header_bytes}
use Rattle.kinds.proofs.Formed.{formed}
use Rattle.fields.proofs.Fields.{field_told, value_long, field_held}
use Rattle.parser.specs.Frame.{
  most_units,
  ciphertext_allowed,
  frame_number,
  frame_details,
  frame_from,
  frame_to,
  after_header,
  has_sealed,
  frame_sealed,
  after_unit,
  close_sealed,
  after_close,
  unit_tests,
  close_tests,
  frame_of,
  begins_close,
  frame_at,
  ciphertext_of,
  Readable,
}
use Rattle.fields.proofs.Values.{bytes_after, value_at, after_at, length_at, field_at, length_after}

-- a unit's fields as they are written
abbrev pub unit_frame : Kind → ℕ → List ℕ → ℕ → List ℕ → List ℕ → List ℕ
unit_frame kind n d m x rest = unit_header kind n d ++ (sealed_fields m x ++ rest)

-- fields 11 and 12, of a ciphertext's length, sealed bytes, and what follows

abbrev fields_joined : ℕ → List ℕ → List ℕ
fields_joined m r = field_value m r ++ field_value 16 (after_field m r)

module _ (m : ℕ) (x rest : List ℕ) (least : 3 ≤ m) (most : m ≤ 8194) (long : length x ≡ m + 16) where
  sealed-here : (has_sealed (sealed_fields m x ++ rest) ≡ true)
      × (field_length (sealed_fields m x ++ rest) ≡ m)
      × (fields_joined m (sealed_fields m x ++ rest) ≡ x)
      × (after_field 16 (after_field m (sealed_fields m x ++ rest)) ≡ rest)
  unfolding has_sealed sealed_fields
  sealed-here =
      let c = take m x in
      let t = drop m x in
      let lc : length c ≡ m = length-take-le m x (omega arith) in
      let lt : length t ≡ 16 = length-drop m x ∙ omega arith in
      let q = field 0x12 t ++ rest in
      let r = field 0x11 c ++ q in
      let stated : field_length r ≡ m = length_at 0x11 m c q lc (omega arith) in
      let after : after_field m r ≡ q = after_at 0x11 m c q lc in
      rw (append_assoc (field 0x11 c) (field 0x12 t) rest, stated, after) (
        (and-eq-true_iff (ciphertext_allowed m) (has_field 0x11 m r && has_field 0x12 16 q)).1 (
          (and-eq-true_iff (leb 3 m) (leb m 8194)).1 (le-leb 3 m least, le-leb m 8194 most),
          (and-eq-true_iff (has_field 0x11 m r) (has_field 0x12 16 q)).1
              (field_at 0x11 m c q lc (omega arith), field_at 0x12 16 t rest lt (omega arith)),
        ),
        refl,
        (λ i. value_at 0x11 m c q lc i ++ value_at 0x12 16 t rest lt i) ∙ take-append-drop m x,
        after_at 0x12 16 t rest lt,
      )

module _ (r : List ℕ) (has : has_sealed r ≡ true) where
  sealed-told : (3 ≤ field_length r) × (field_length r ≤ 8194)
      × (has_field 0x11 (field_length r) r ≡ true) × (has_field 0x12 16 (after_field (field_length r) r) ≡ true)
  unfolding has_sealed
  sealed-told =
      let m = field_length r in
      let all = (and-eq-true_iff (ciphertext_allowed m) (has_field 0x11 m r && has_field 0x12 16 (after_field m r))).0 has in
      let range = (and-eq-true_iff (leb 3 m) (leb m 8194)).0 all.0 in
      let both = (and-eq-true_iff (has_field 0x11 m r) (has_field 0x12 16 (after_field m r))).0 all.1 in
      (leb-true 3 m range.0, leb-true m 8194 range.1, both.0, both.1)

  sealed-long : length (fields_joined (field_length r) r) ≡ field_length r + 16
  sealed-long =
      let m = field_length r in
      length-append (field_value m r) (field_value 16 (after_field m r))
      ∙ (λ i. value_long 0x11 m r sealed-told.2 i + value_long 0x12 16 (after_field m r) sealed-told.3 i)

  sealed-length : length r ≡ 22 + field_length r + length (after_field 16 (after_field (field_length r) r))
  sealed-length =
      let m = field_length r in
      omega (arith, length_after 0x11 m r sealed-told.2, length_after 0x12 16 (after_field m r) sealed-told.3)

  sealed-held : Bytes r → r ≡ sealed_fields (field_length r) (fields_joined (field_length r) r) ++ after_field 16 (after_field (field_length r) r)
  unfolding sealed_fields
  sealed-held b =
      let m = field_length r in
      let c = field_value m r in
      let q = after_field m r in
      let t = field_value 16 q in
      let long : length c ≡ m = value_long 0x11 m r sealed-told.2 in
      field_held 0x11 m r sealed-told.2 b
      ∙ ap (λ (l : List ℕ). field 0x11 c ++ l) (field_held 0x12 16 q sealed-told.3 (bytes_after m r b))
      ∙ sym (append_assoc (field 0x11 c) (field 0x12 t) (after_field 16 q))
      ∙ (λ i. (field 0x11 (sym (take_at c t m long) i) ++ field 0x12 (sym (drop_at c t m long) i)) ++ after_field 16 q)

-- headers: their number, their first byte and the unit's details

-- the number whose bytes begin a string
number_at : (k n : ℕ) (l : List ℕ) → n < 256 ^ k → number_of (take k (big_endian k n ++ l)) ≡ n
number_at k n l h = ap number_of (take_at (big_endian k n) l k (length_big_endian k n)) ∙ number_of_big_endian k n h

-- the number's bytes, of a string that is long enough
module _ (kind : Kind) (s : List ℕ) (long : 3 + kind.number_bytes ≤ length s) (bytes : Bytes s) where
  number-long : length (take kind.number_bytes (drop 3 s)) ≡ kind.number_bytes
  number-long = length-take-le kind.number_bytes (drop 3 s) (rw length-drop (omega arith))

  pub number_fits : frame_number kind s < 256 ^ kind.number_bytes
  unfolding frame_number
  number_fits =
      let v = take kind.number_bytes (drop 3 s) in
      subst (λ (k : ℕ). number_of v < 256 ^ k) number-long (number_of_lt v (bytes_take kind.number_bytes (drop 3 s) (bytes_drop 3 s bytes)))

  number-held : take kind.number_bytes (drop 3 s) ≡ big_endian kind.number_bytes (frame_number kind s)
  unfolding frame_number
  number-held =
      let v = take kind.number_bytes (drop 3 s) in
      sym (big_endian_number_of v (bytes_take kind.number_bytes (drop 3 s) (bytes_drop 3 s bytes)))
      ∙ ap (λ (k : ℕ). big_endian k (number_of v)) number-long

module _ (kind : Kind) (n : ℕ) (d rest : List ℕ) where
  unit-number : n < 256 ^ kind.number_bytes → frame_number kind (unit_header kind n d ++ rest) ≡ n
  unfolding frame_number unit_header field field_head big_endian
  unit-number h =
      let k = kind.number_bytes in
      ap (λ (l : List ℕ). number_of (take k l)) (append_assoc (big_endian k n) d rest) ∙ number_at k n (d ++ rest) h

  details-here : length d ≡ details_length kind → frame_details kind (unit_header kind n d ++ rest) ≡ d
  unfolding frame_details unit_header field field_head big_endian
  details-here long =
      let k = kind.number_bytes in
      let b = big_endian k n in
      let s = unit_header kind n d ++ rest in
      ap (take (details_length kind)) (sym (drop-drop k 3 s) ∙ ap (drop k) (append_assoc b d rest) ∙ drop_at b (d ++ rest) k (length_big_endian k n))
      ∙ take_at d rest (details_length kind) long

  header-here : WellFormed kind → length d ≡ details_length kind
      → (has_field kind.header_tag (header_bytes kind) (unit_header kind n d ++ rest) ≡ true) × (after_header kind (unit_header kind n d ++ rest) ≡ rest)
  unfolding unit_header after_header
  header-here wf l =
      let b = big_endian kind.number_bytes n in
      let long : length (b ++ d) ≡ header_bytes kind = length-append b d ∙ (λ i. length_big_endian kind.number_bytes n i + l i) in
      let small : header_bytes kind < 65536 = omega (arith, wf.numbers_short, wf.codes_short) in
      (field_at kind.header_tag (header_bytes kind) (b ++ d) rest long small, after_at kind.header_tag (header_bytes kind) (b ++ d) rest long)

  unit-begins : WellFormed kind → begins_close kind (unit_header kind n d ++ rest) ≡ false
  unfolding begins_close unit_header field field_head
  unit-begins wf = ne_eqb kind.header_tag kind.close_tag wf.tags_differ

module _ (kind : Kind) (n : ℕ) (rest : List ℕ) where
  close-number : n < 256 ^ kind.number_bytes → frame_number kind (close_header kind n ++ rest) ≡ n
  unfolding frame_number close_header field field_head big_endian
  close-number h = number_at kind.number_bytes n rest h

  close-begins : begins_close kind (close_header kind n ++ rest) ≡ true
  unfolding begins_close close_header field field_head
  close-begins = eq-eqb kind.close_tag kind.close_tag refl

-- a unit's header that is read
module _ (kind : Kind) (s : List ℕ) (has : has_field kind.header_tag (header_bytes kind) s ≡ true) where
  details-long : length (frame_details kind s) ≡ details_length kind
  unfolding frame_details
  details-long =
      length-take-le (details_length kind) (drop (3 + kind.number_bytes) s)
      (rw length-drop (omega (arith, field_told kind.header_tag (header_bytes kind) s has)))

  from-long : length (frame_from kind s) ≡ kind.code_bytes
  unfolding frame_from
  from-long = length-take-le kind.code_bytes (frame_details kind s) (omega (arith, details-long))

  rest-long : length (drop kind.code_bytes (frame_details kind s)) ≡ kind.code_bytes
  rest-long = length-drop kind.code_bytes (frame_details kind s) ∙ omega (arith, details-long)

  to-long : length (frame_to kind s) ≡ kind.code_bytes
  unfolding frame_to
  to-long = length-take-le kind.code_bytes (drop kind.code_bytes (frame_details kind s)) (omega (arith, rest-long))

  details-codes : frame_details kind s ≡ frame_from kind s ++ frame_to kind s
  unfolding frame_from frame_to
  details-codes =
      let k = kind.code_bytes in
      let d = frame_details kind s in
      sym (take-append-drop k d) ∙ ap (λ (l : List ℕ). take k d ++ l) (sym (take_all k (drop k d) (omega (arith, rest-long))))

  header-held : Bytes s → s ≡ unit_header kind (frame_number kind s) (frame_details kind s) ++ after_header kind s
  unfolding frame_details unit_header after_header field_value
  header-held bytes =
      let k = kind.number_bytes in
      let long : 3 + k ≤ length s = omega (arith, field_told kind.header_tag (header_bytes kind) s has) in
      let value : field_value (header_bytes kind) s ≡ big_endian k (frame_number kind s) ++ frame_details kind s =
      take-add k (details_length kind) (drop 3 s)
      ∙ (λ i. number-held kind s long bytes i ++ take (details_length kind) (drop-drop k 3 s i)) in
      field_held kind.header_tag (header_bytes kind) s has bytes
      ∙ ap (λ (v : List ℕ). field kind.header_tag v ++ after_header kind s) value

-- frames by their first byte
module _ (kind : Kind) (n : ℕ) (s : List ℕ) where
  frame_unit : begins_close kind s ≡ false → frame_at kind n s ≡ frame_of (unit_tests kind n s) (Ok (Unit (field_length (after_header kind s))))
  unfolding frame_at
  frame_unit e = rw e

  frame_close : begins_close kind s ≡ true → frame_at kind n s ≡ frame_of (close_tests kind n s) (Ok Close)
  unfolding frame_at
  frame_close e = rw e

  -- a unit or a close is what passed its tests
  unit_passed : (m : ℕ) → frame_at kind n s ≡ Ok (Unit m) → (unit_tests kind n s ≡ Ok tt) × (field_length (after_header kind s) ≡ m)
  unit_passed m e = by (begins_close kind s) refl
    where
      of : (a : Answer) (k : ℕ) → frame_of a (Ok (Unit k)) ≡ Ok (Unit m) → (a ≡ Ok tt) × (k ≡ m)
      of (Ok tt) k q = (refl, cc)
      of (Err why) k q = let z : ◌≡◌ {A = ℕ} 0 1 = cc in absurd (omega arith)

      other : (a : Answer) → frame_of a (Ok Close) ≡ Ok (Unit m) → ⊥
      other (Ok tt) q = let z : ◌≡◌ {A = ℕ} 0 1 = cc in omega arith
      other (Err why) q = let z : ◌≡◌ {A = ℕ} 0 1 = cc in omega arith

      by : (v : Bool) → begins_close kind s ≡ v → (unit_tests kind n s ≡ Ok tt) × (field_length (after_header kind s) ≡ m)
      by true q = absurd (other (close_tests kind n s) (sym (frame_close q) ∙ e))
      by false q = of (unit_tests kind n s) (field_length (after_header kind s)) (sym (frame_unit q) ∙ e)

  close_passed : frame_at kind n s ≡ Ok Close → close_tests kind n s ≡ Ok tt
  close_passed e = by (begins_close kind s) refl
    where
      of : (a : Answer) → frame_of a (Ok Close) ≡ Ok Close → a ≡ Ok tt
      of (Ok tt) q = refl
      of (Err why) q = let z : ◌≡◌ {A = ℕ} 0 1 = cc in absurd (omega arith)

      other : (a : Answer) (k : ℕ) → frame_of a (Ok (Unit k)) ≡ Ok Close → ⊥
      other (Ok tt) k q = let z : ◌≡◌ {A = ℕ} 0 1 = cc in omega arith
      other (Err why) k q = let z : ◌≡◌ {A = ℕ} 0 1 = cc in omega arith

      by : (v : Bool) → begins_close kind s ≡ v → close_tests kind n s ≡ Ok tt
      by true q = of (close_tests kind n s) (sym (frame_close q) ∙ e)
      by false q = absurd (other (unit_tests kind n s) (field_length (after_header kind s)) (sym (frame_unit q) ∙ e))

-- a frame's ciphertext is that of the unit there: what begins as a close is no unit
module _ (kind : Kind) (wf : WellFormed kind) (n : ℕ) (s : List ℕ) where
  pub no_header : begins_close kind s ≡ true → has_field kind.header_tag (header_bytes kind) s ≡ false
  unfolding begins_close has_field
  no_header e =
      let tag = eqb-true (get_or s 0 0) kind.close_tag e in
      rw (ne_eqb (get_or s 0 0) kind.header_tag (λ q. wf.tags_differ (sym q ∙ tag)), and-false) refl

  no-unit : begins_close kind s ≡ true → unit_tests kind n s ≡ Err FieldMalformed
  unfolding unit_tests
  no-unit e = rw (no_header e) refl

  close-none : (a : Answer) → ciphertext_of (frame_of a (Ok Close)) ≡ None
  close-none (Ok tt) = refl
  close-none (Err why) = refl

  pub ciphertext_by_unit : ciphertext_of (frame_at kind n s) ≡ ciphertext_of (frame_of (unit_tests kind n s) (Ok (Unit (field_length (after_header kind s)))))
  ciphertext_by_unit = by (begins_close kind s) refl
    where
      by : (v : Bool) → begins_close kind s ≡ v
          → ciphertext_of (frame_at kind n s) ≡ ciphertext_of (frame_of (unit_tests kind n s) (Ok (Unit (field_length (after_header kind s)))))
      by true q =
          ap ciphertext_of (frame_close kind n s q)
          ∙ close-none (close_tests kind n s)
          ∙ sym (ap (λ (a : Answer). ciphertext_of (frame_of a (Ok (Unit (field_length (after_header kind s)))))) (no-unit q))
      by false q = ap ciphertext_of (frame_unit kind n s q)

-- fields 11 and 12 as they were looked for
pub ciphertext_there : (b : Bool) (m : ℕ) → cond b (Some m) None ≡ ciphertext_of (frame_of (unless b FieldMalformed (Ok tt)) (Ok (Unit m)))
ciphertext_there true m = refl
ciphertext_there false m = refl

-- a unit, of a kind, a number, the details, a ciphertext's length, sealed bytes, and what follows
module _ (kind : Kind) (wf : WellFormed kind) (n : ℕ) (d : List ℕ) (m : ℕ) (x rest : List ℕ) where
  pub unit_here : n < 256 ^ kind.number_bytes → n < most_units → length d ≡ details_length kind
      → pair_allowed (take kind.code_bytes d) (take kind.code_bytes (drop kind.code_bytes d)) ≡ true
      → 3 ≤ m → m ≤ 8194 → length x ≡ m + 16
      → (frame_at kind n (unit_frame kind n d m x rest) ≡ Ok (Unit m))
      × (frame_details kind (unit_frame kind n d m x rest) ≡ d)
      × (frame_sealed kind m (unit_frame kind n d m x rest) ≡ x)
      × (after_unit kind m (unit_frame kind n d m x rest) ≡ rest)
  unfolding unit_tests frame_from frame_to frame_sealed after_unit
  unit_here fits few ld pair least most lx =
      let s = unit_frame kind n d m x rest in
      let r = sealed_fields m x ++ rest in
      let header = header-here kind n d r wf ld in
      let details : frame_details kind s ≡ d = details-here kind n d r ld in
      let sealed = sealed-here m x rest least most lx in
      let number : frame_number kind s ≡ n = unit-number kind n d r fits in
      let passed : unit_tests kind n s ≡ (Ok tt) =
      unless_passes (has_field kind.header_tag (header_bytes kind) s) _ _ header.0
      (unless_passes (ltb n most_units) _ _ (lt-ltb n most_units few)
      (unless_passes (eqb (frame_number kind s) n) _ _ (eq-eqb (frame_number kind s) n number)
      (unless_passes (pair_allowed (frame_from kind s) (frame_to kind s)) _ _ (rw details pair)
      (unless_passes (has_sealed (after_header kind s)) _ _ (ap has_sealed header.1 ∙ sealed.0) refl)))) in (
        frame_unit kind n s (unit-begins kind n d r wf) ∙ (λ i. frame_of (passed i) (Ok (Unit ((ap field_length header.1 ∙ sealed.1) i)))),
        details,
        ap (fields_joined m) header.1 ∙ sealed.2,
        ap (λ (l : List ℕ). after_field 16 (after_field m l)) header.1 ∙ sealed.3,
      )

-- what is told of a unit that is read
pub record UnitTold (kind : Kind) (n m : ℕ) (s : List ℕ) : Type 0 where
  pub few : n < most_units
  pub languages : pair_allowed (frame_from kind s) (frame_to kind s) ≡ true
  pub least : 3 ≤ m
  pub most : m ≤ 8194
  -- both codes have the kind's length, and the details are the codes
  pub from_long : length (frame_from kind s) ≡ kind.code_bytes
  pub to_long : length (frame_to kind s) ≡ kind.code_bytes
  pub details : frame_details kind s ≡ frame_from kind s ++ frame_to kind s
  pub sealed_long : length (frame_sealed kind m s) ≡ m + 16
  pub length_is : length s ≡ 25 + header_bytes kind + m + length (after_unit kind m s)
  -- the fields were written
  pub written : Bytes s → s ≡ unit_frame kind n (frame_details kind s) m (frame_sealed kind m s) (after_unit kind m s)

unit_read : (kind : Kind) (n : ℕ) (s : List ℕ) → unit_tests kind n s ≡ Ok tt → UnitTold kind n (field_length (after_header kind s)) s
unfolding unit_tests frame_sealed after_unit after_header
unit_read kind n s e =
    let r = after_header kind s in
    let header = unless_passed (has_field kind.header_tag (header_bytes kind) s) _ _ e in
    let few = unless_passed (ltb n most_units) _ _ header.1 in
    let number = unless_passed (eqb (frame_number kind s) n) _ _ few.1 in
    let pair = unless_passed (pair_allowed (frame_from kind s) (frame_to kind s)) _ _ number.1 in
    let sealed = unless_passed (has_sealed r) _ _ pair.1 in
    let told = sealed-told r sealed.0 in
    let stated : frame_number kind s ≡ n = eqb-true (frame_number kind s) n number.0 in
    record {
      few = ltb-true n most_units few.0;
      languages = pair.0;
      least = told.0;
      most = told.1;
      from_long = from-long kind s header.0;
      to_long = to-long kind s header.0;
      details = details-codes kind s header.0;
      sealed_long = sealed-long r sealed.0;
      length_is = omega (arith, length_after kind.header_tag (header_bytes kind) s header.0, sealed-length r sealed.0);
      written = λ b.
          header-held kind s header.0 b
          ∙ (λ i. unit_header kind (stated i) (frame_details kind s) ++ sealed-held r sealed.0 (bytes_after (header_bytes kind) s b) i);
    }

pub unit_told : (kind : Kind) (n m : ℕ) (s : List ℕ) → frame_at kind n s ≡ Ok (Unit m) → UnitTold kind n m s
unit_told kind n m s e =
    let passed = unit_passed kind n s m e in
    subst (λ (k : ℕ). UnitTold kind n k s) passed.1 (unit_read kind n s passed.0)

-- its ciphertext has the length that field 11 states
pub unit_length_lem : (kind : Kind) (n m : ℕ) (s : List ℕ) → frame_at kind n s ≡ Ok (Unit m) → field_length (after_header kind s) ≡ m
unit_length_lem kind n m s e = (unit_passed kind n s m e).1

-- a close's fields, likewise
module _ (kind : Kind) (wf : WellFormed kind) (n : ℕ) (x rest : List ℕ) where
  pub close_here : n < 256 ^ kind.number_bytes → length x ≡ 16
      → (frame_at kind n (close_header kind n ++ (field 0x12 x ++ rest)) ≡ Ok Close)
      × (close_sealed kind (close_header kind n ++ (field 0x12 x ++ rest)) ≡ x)
      × (after_close kind (close_header kind n ++ (field 0x12 x ++ rest)) ≡ rest)
  unfolding close_header close_tests close_sealed after_close
  close_here fits lx =
      let k = kind.number_bytes in
      let b = big_endian k n in
      let r = field 0x12 x ++ rest in
      let s = close_header kind n ++ r in
      let long : length b ≡ k = length_big_endian k n in
      let after : after_field k s ≡ r = after_at kind.close_tag k b r long in
      let passed : close_tests kind n s ≡ (Ok tt) =
      unless_passes (has_field kind.close_tag k s && has_field 0x12 16 (after_field k s)) _ _
      ((and-eq-true_iff (has_field kind.close_tag k s) (has_field 0x12 16 (after_field k s))).1 (
        field_at kind.close_tag k b r long (omega (arith, wf.numbers_short)),
        ap (has_field 0x12 16) after ∙ field_at 0x12 16 x rest lx (omega arith),
      ))
      (unless_passes (eqb (frame_number kind s) n) _ _ (eq-eqb (frame_number kind s) n (close-number kind n r fits)) refl) in (
        frame_close kind n s (close-begins kind n r) ∙ ap (λ (a : Answer). frame_of a (Ok Close)) passed,
        ap (field_value 16) after ∙ value_at 0x12 16 x rest lx,
        ap (after_field 16) after ∙ after_at 0x12 16 x rest lx,
      )

-- what is told of a close that is read
pub record CloseTold (kind : Kind) (n : ℕ) (s : List ℕ) : Type 0 where
  pub sealed_long : length (close_sealed kind s) ≡ 16
  pub length_is : length s ≡ 22 + kind.number_bytes + length (after_close kind s)
  pub fits : Bytes s → n < 256 ^ kind.number_bytes
  pub written : Bytes s → s ≡ close_header kind n ++ (field 0x12 (close_sealed kind s) ++ after_close kind s)

pub close_told : (kind : Kind) (n : ℕ) (s : List ℕ) → frame_at kind n s ≡ Ok Close → CloseTold kind n s
unfolding close_header close_tests close_sealed after_close field_value
close_told kind n s e =
    let k = kind.number_bytes in
    let r = after_field k s in
    let has = unless_passed (has_field kind.close_tag k s && has_field 0x12 16 r) _ _ (close_passed kind n s e) in
    let number = unless_passed (eqb (frame_number kind s) n) _ _ has.1 in
    let both = (and-eq-true_iff (has_field kind.close_tag k s) (has_field 0x12 16 r)).0 has.0 in
    let stated : frame_number kind s ≡ n = eqb-true (frame_number kind s) n number.0 in
    let long : 3 + k ≤ length s = (field_told kind.close_tag k s both.0).0 in
    record {
      sealed_long = value_long 0x12 16 r both.1;
      length_is = omega (arith, length_after kind.close_tag k s both.0, length_after 0x12 16 r both.1);
      fits = λ b. subst (λ (v : ℕ). v < 256 ^ k) stated (number_fits kind s long b);
      written = λ b.
          field_held kind.close_tag k s both.0 b
          ∙ (λ i. field kind.close_tag ((number-held kind s long b ∙ ap (big_endian k) stated) i) ++ field_held 0x12 16 r both.1 (bytes_after k s b) i);
    }

-- every kind can be read
pub readable : (k : BookKind) → Readable (kind_of k)
readable Tag10 = record { well_formed = formed Tag10; limit = refl }
readable Tag14 = record { well_formed = formed Tag14; limit = refl }
