-- The seals of a frame: nothing but the tag can be refused.
use Rattle.suites.specs.Answer.{Answer}
use Rattle.std.specs.Prelude.{Ok, Err}
use mathlib.Core.Path.{◌≡◌, refl, sym, ap, ◌∙◌}
use mathlib.Core.Bool.{Bool, true, false}
use mathlib.Core.List.{List, [], ◌∷◌, ◌++◌}
use Prim.Native.Nat.{ℕ, ◌+◌, ◌-◌, ◌*◌, ◌^◌, ◌≤◌}
use native.Mathlib.Omega.{arith}
use lib.Dec.{eqb}
use lib.ListN.{length, get_or, take, drop, length-append, length-take}
use lib.Seq.{drop-drop, length-take-le}
use Rattle.suites.specs.declared.refusal.Refusal.{Refusal}
use Rattle.suites.specs.declared.refusal.Refusal.TheVariants.{TagDiffers, SegmentLength, FieldMalformed}
use Rattle.suites.specs.declared.suite.Suite.{Suite}
use Rattle.suites.specs.Suite.{listed}
use Rattle.limits.specs.Limits.{header_limit, text_limit}
use Rattle.limits.specs.Tests.{unless, verify_tests}
use Rattle.limits.proofs.Passed.{verify_passes}
use Rattle.opening.specs.Open.{opened, agrees, then_tag}
use Rattle.opening.proofs.Opened.{opened_long}
use Rattle.verifying.specs.Verify.{verify_report, verify_answer, VerifyAnswer}
use Rattle.verifying.proofs.Answers.{verify_done}
use Rattle.fields.proofs.Pair.{pair_at}
use Rattle.fields.specs.Field.{field_value, after_field}
use Rattle.fields.specs.Kind.{Kind}
use Rattle.kinds.specs.declared.Kind.{Kind as BookKind}
use Rattle.kinds.specs.Kind.{kind_of}
use Rattle.kinds.specs.Lengths.{header_length, close_header_length, ciphertext_at, frame_length}
use Rattle.kinds.proofs.Formed.{formed}
use Rattle.format.specs.Sealings.{nonce_of}
use Rattle.fields.specs.Unit.{source_length, text_in_range}
use Rattle.format.proofs.Lengths.{length_nonce_of}
use Rattle.parser.specs.Frame.{after_header, frame_sealed, after_unit, close_sealed, after_close}
use Rattle.opening_fields.specs.Opening.{opening_number, opening_suite}
use Rattle.parser.proofs.Frames.{UnitTold, CloseTold}
use Rattle.seals.specs.Parts.{Under, PartsOf}
use Rattle.seals.specs.declared.Parts.{Parts}
use Rattle.seals.specs.Seal.{unit_along, close_along, unit_opened, unit_agrees, close_agrees, unit_seal_tests, close_seal_tests}

-- places in a unit or a close, as numbers

module _ (kind : Kind) (s : List ℕ) where
  -- a unit's ciphertext and tag, with the ends that the code has
  pub unit_sealed_is : (m start end : ℕ) → start ≡ ciphertext_at kind → end ≡ start + m
      → take (end - start) (drop start s) ++ take 16 (drop (end + 3) s) ≡ frame_sealed kind m s
  unfolding frame_sealed field_value after_header after_field
  unit_sealed_is m start end a e =
      let h : ℕ = header_length kind in
      let long : end - start ≡ m = omega arith in
      let at : h + (3 + m + 3) ≡ end + 3 = omega arith in
      let tag : drop 3 (drop (3 + m) (drop h s)) ≡ drop (end + 3) s =
      drop-drop 3 (3 + m) (drop h s) ∙ drop-drop (3 + m + 3) h s ∙ ap (λ (k : ℕ). drop k s) at in
      (λ i. take (long i) (drop (a i) s) ++ take 16 (sym tag i))
      ∙ ap (λ (l : List ℕ). take m l ++ take 16 (drop 3 (drop (3 + m) (drop h s)))) (sym (drop-drop 3 h s))

  pub after_unit_is : (m : ℕ) → after_unit kind m s ≡ drop (frame_length kind m) s
  unfolding after_unit after_header after_field
  after_unit_is m =
      let h : ℕ = header_length kind in
      let at : h + (3 + m + 19) ≡ frame_length kind m = omega arith in
      drop-drop 19 (3 + m) (drop h s) ∙ drop-drop (3 + m + 19) h s ∙ ap (λ (k : ℕ). drop k s) at

  pub close_sealed_is : (h : ℕ) → h ≡ close_header_length kind → take (h - h) (drop h s) ++ take 16 (drop (h + 3) s) ≡ close_sealed kind s
  unfolding close_sealed field_value after_field
  close_sealed_is h e =
      let none : h - h ≡ 0 = omega arith in
      (λ i. take (none i) (drop h s) ++ take 16 (drop (e i + 3) s)) ∙ ap (take 16) (sym (drop-drop 3 (close_header_length kind) s))

-- parts of a frame are those of the same strings
pub parts_same : {a b x y : List ℕ} {s n : List ℕ} {r : Parts} → a ≡ b → x ≡ y → PartsOf n a x s r → PartsOf n b y s r
parts_same e f p =
    record { nonce_is = p.nonce_is; along_is = p.along_is ∙ e; sealed_is = p.sealed_is ∙ f; starts = p.starts; ends = p.ends }

-- opening by the parts of a frame is opening by the strings that they are
pub by_parts : {n a x s : List ℕ} {p : Parts} (suite : Suite) (key : List ℕ) → PartsOf n a x s p
    → verify_answer suite.cipher suite.steps key p.nonce p.along (take (p.end - p.start) (drop p.start s) ++ p.tag)
    ≡ verify_answer suite.cipher suite.steps key n a x
by_parts suite key r = λ i. verify_answer suite.cipher suite.steps key (r.nonce_is i) (r.along_is i) (r.sealed_is i)

-- the source length is in the text's first two bytes
pub stated : (t : List ℕ) → 2 ≤ length t → get_or t 0 0 * 256 + get_or t 1 0 ≡ source_length t
unfolding source_length
stated t h = pair_at t 0 h

-- what a report tells of the tag and the text
tag_differs : (v : Bool) (t : List ℕ) (why : Refusal) (rest : Answer) → verify_report (then_tag (Ok tt) v) t ≡ Err why
    → Err why ≡ unless v TagDiffers rest
tag_differs true t why rest e = let z : ◌≡◌ {A = ℕ} 0 1 = cc in absurd (omega arith)
tag_differs false t why rest e = let w : why ≡ TagDiffers = cc in ap Err w

tag_agrees : (v : Bool) (t two : List ℕ) → verify_report (then_tag (Ok tt) v) t ≡ Ok two
    → (v ≡ true) × (get_or t 0 0 ≡ get_or two 0 0) × (get_or t 1 0 ≡ get_or two 1 0)
tag_agrees true t two e =
    let same : get_or t 0 0 ∷ get_or t 1 0 ∷ [] ≡ two = cc in
    (refl, ap (λ (l : List ℕ). get_or l 0 0) same, ap (λ (l : List ℕ). get_or l 1 0) same)
tag_agrees false t two e = let z : ◌≡◌ {A = ℕ} 0 1 = cc in absurd (omega arith)

-- the limits under a nonce of 12 bytes
header_limit_lem : header_limit 12 ≡ 2 ^ 24
unfolding header_limit
header_limit_lem = refl

text_limit_lem : text_limit 12 ≡ 2 ^ 24
unfolding text_limit
text_limit_lem = refl

-- sealed bytes of m and 16, under a nonce of 12 and with a header of at most 48
module _ (suite : Suite) (key nonce header x : List ℕ) (m : ℕ) (allowed : listed suite.cipher suite.steps ≡ true) (whole : length key ≡ 16)
    (twelve : length nonce ≡ 12) (short : length header ≤ 48) (long : length x ≡ m + 16) (most : m ≤ 8194) where
  tested : verify_tests suite.cipher suite.steps (length key) (length nonce) (length header) (length x) ≡ Ok tt
  tested =
      verify_passes suite.cipher suite.steps (length key) (length nonce) (length header) (length x)
      (record {
        inputs = record { suite = allowed; key = whole; nonce = omega arith; short = omega arith; header = rw (twelve, header_limit_lem) (omega arith) };
        long = omega arith;
        text = rw (twelve, text_limit_lem) (omega arith);
      })

  verified : verify_answer suite.cipher suite.steps key nonce header x
      ≡ verify_report (then_tag (Ok tt) (agrees suite.cipher suite.steps key nonce header x)) (opened suite.cipher suite.steps key nonce header x)
  verified = sym (verify_done suite key nonce header x tested)

  opened-is-long : length (opened suite.cipher suite.steps key nonce header x) ≡ m
  opened-is-long =
      opened_long suite key nonce header x [] (omega arith) ∙ length-take-le (length x - 16) x (omega arith) ∙ omega arith

  pub differs : (why : Refusal) (rest : Answer) → verify_answer suite.cipher suite.steps key nonce header x ≡ Err why
      → Err why ≡ unless (agrees suite.cipher suite.steps key nonce header x) TagDiffers rest
  differs why rest e =
      tag_differs (agrees suite.cipher suite.steps key nonce header x) (opened suite.cipher suite.steps key nonce header x) why rest
      (sym verified ∙ e)

  pub agreed : (two : List ℕ) → verify_answer suite.cipher suite.steps key nonce header x ≡ Ok two
      → (agrees suite.cipher suite.steps key nonce header x ≡ true)
      × (get_or (opened suite.cipher suite.steps key nonce header x) 0 0 ≡ get_or two 0 0)
      × (get_or (opened suite.cipher suite.steps key nonce header x) 1 0 ≡ get_or two 1 0)
  agreed two e =
      tag_agrees (agrees suite.cipher suite.steps key nonce header x) (opened suite.cipher suite.steps key nonce header x) two
      (sym verified ∙ e)

-- a frame of a book whose opening fields were tested
module _ (k : BookKind) (key o : List ℕ) (n : ℕ) (under : Under key o) where
  -- the header sealed along is short
  along-short : (h : ℕ) (s : List ℕ) → h ≤ 32 → length (o ++ take h s) ≤ 48
  along-short h s e = rw (length-append, length-take) (omega (arith, under.opening_long))

  -- of a unit: the tag, then the range
  module _ (m : ℕ) (s : List ℕ) (told : UnitTold (kind_of k) n m s) where
    abbrev pub unit_verified : VerifyAnswer
    unit_verified =
        verify_answer (opening_suite o).cipher (opening_suite o).steps key (nonce_of (opening_number o) n) (unit_along (kind_of k) o s) (frame_sealed (kind_of k) m s)

    unit-short : length (unit_along (kind_of k) o s) ≤ 48
    unfolding unit_along
    unit-short = let w = formed k in along-short (header_length (kind_of k)) s (omega arith)

    pub unit-tested :
        verify_tests (opening_suite o).cipher (opening_suite o).steps (length key) (length (nonce_of (opening_number o) n)) (length (unit_along (kind_of k) o s))
        (length (frame_sealed (kind_of k) m s)) ≡ Ok tt
    unit-tested =
        tested (opening_suite o) key (nonce_of (opening_number o) n) (unit_along (kind_of k) o s) (frame_sealed (kind_of k) m s) m under.listed_suite
        under.key_long (length_nonce_of (opening_number o) n) unit-short told.sealed_long told.most

    pub unit_opened_long : length (unit_opened (kind_of k) key o n m s) ≡ m
    unfolding unit_opened
    unit_opened_long =
        opened-is-long (opening_suite o) key (nonce_of (opening_number o) n) (unit_along (kind_of k) o s) (frame_sealed (kind_of k) m s) m under.listed_suite
        under.key_long (length_nonce_of (opening_number o) n) unit-short told.sealed_long told.most

    pub unit_refused : (why : Refusal) → unit_verified ≡ Err why → Err why ≡ unit_seal_tests (kind_of k) key o n m s
    unfolding unit_seal_tests unit_agrees
    unit_refused why e =
        differs (opening_suite o) key (nonce_of (opening_number o) n) (unit_along (kind_of k) o s) (frame_sealed (kind_of k) m s) m under.listed_suite
        under.key_long (length_nonce_of (opening_number o) n) unit-short told.sealed_long told.most
        why (unless (text_in_range m (source_length (unit_opened (kind_of k) key o n m s))) SegmentLength (Ok tt)) e

    pub unit_passed : (two : List ℕ) → unit_verified ≡ Ok two
        → unless (text_in_range m (get_or two 0 0 * 256 + get_or two 1 0)) SegmentLength (Ok tt) ≡ unit_seal_tests (kind_of k) key o n m s
    unfolding unit_seal_tests unit_agrees unit_opened
    unit_passed two e =
        let h = unit_along (kind_of k) o s in
        let x = frame_sealed (kind_of k) m s in
        let t = opened (opening_suite o).cipher (opening_suite o).steps key (nonce_of (opening_number o) n) h x in
        let told_of = agreed (opening_suite o) key (nonce_of (opening_number o) n) h x m under.listed_suite under.key_long
        (length_nonce_of (opening_number o) n) unit-short told.sealed_long told.most two e in
        let long : 2 ≤ length t = omega (arith, told.least, unit_opened_long) in
        let s-is : get_or two 0 0 * 256 + get_or two 1 0 ≡ source_length t = (λ i. sym told_of.1 i * 256 + sym told_of.2 i) ∙ stated t long in
        λ i. unless (sym told_of.0 i) TagDiffers (unless (text_in_range m (s-is i)) SegmentLength (Ok tt))

  -- of a close: the tag, then its end
  module _ (s : List ℕ) (told : CloseTold (kind_of k) n s) where
    abbrev pub close_verified : VerifyAnswer
    close_verified =
        verify_answer (opening_suite o).cipher (opening_suite o).steps key (nonce_of (opening_number o) n) (close_along (kind_of k) o s) (close_sealed (kind_of k) s)

    close-short : length (close_along (kind_of k) o s) ≤ 48
    unfolding close_along
    close-short = let w = formed k in along-short (close_header_length (kind_of k)) s (omega arith)

    pub close_refused : (why : Refusal) → close_verified ≡ Err why → Err why ≡ close_seal_tests (kind_of k) key o n s
    unfolding close_seal_tests close_agrees
    close_refused why e =
        differs (opening_suite o) key (nonce_of (opening_number o) n) (close_along (kind_of k) o s) (close_sealed (kind_of k) s) 0 under.listed_suite
        under.key_long (length_nonce_of (opening_number o) n) close-short told.sealed_long (omega arith)
        why (unless (eqb (length (after_close (kind_of k) s)) 0) FieldMalformed (Ok tt)) e

    pub close_passed : (two : List ℕ) → close_verified ≡ Ok two
        → unless (eqb (length (after_close (kind_of k) s)) 0) FieldMalformed (Ok tt) ≡ close_seal_tests (kind_of k) key o n s
    unfolding close_seal_tests close_agrees
    close_passed two e =
        let told_of = agreed (opening_suite o) key (nonce_of (opening_number o) n) (close_along (kind_of k) o s) (close_sealed (kind_of k) s) 0 under.listed_suite
        under.key_long (length_nonce_of (opening_number o) n) close-short told.sealed_long (omega arith) two e in
        ap (λ (v : Bool). unless v TagDiffers (unless (eqb (length (after_close (kind_of k) s)) 0) FieldMalformed (Ok tt))) (sym told_of.0)
