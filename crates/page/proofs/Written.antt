-- The sources of a book that was written.
use mathlib.Core.Path.{◌≡◌, refl, sym, ap, ◌∙◌}
use mathlib.Core.List.{List, [], ◌∷◌, ◌++◌, map, append_assoc}
use Prim.Native.Nat.{ℕ, suc, ◌+◌, ◌^◌, ◌≤◌, ◌<◌}
use native.Mathlib.Omega.{arith}
use lib.ListN.{length}
use lib.Seq.{drop_at}
use Rattle.bits.specs.Bytes.{Bytes}
use Rattle.suites.specs.declared.suite.Suite.{Suite}
use Rattle.fields.specs.Each.{EachFrom, more_from}
use Rattle.fields.specs.Kind.{Kind, WellFormed}
use Rattle.fields.specs.Unit.{BookUnit, Allowed, unit_text, source_of}
use Rattle.fields.proofs.Texts.{range_told, source_of_unit_text}
use Rattle.format.specs.Layout.{unit_bytes, close_bytes, units_bytes, book_bytes, Bookable}
use Rattle.format.specs.Sealings.{opening_fields}
use Rattle.format.proofs.Lengths.{length_opening_fields}
use Rattle.kinds.specs.declared.Kind.{Kind as BookKind}
use Rattle.kinds.specs.Kind.{kind_of, book_kind}
use Rattle.kinds.proofs.Formed.{formed}
use Rattle.parser.specs.Frame.{most_units, after_unit}
use Rattle.opening_fields.specs.Opening.{opening_number, opening_suite, opening_bytes, after_opening}
use Rattle.parser.proofs.Frames.{readable}
use Rattle.opening_fields.proofs.Openings.{front_here, front_says}
use Rattle.seals.specs.Seal.{unit_opened}
use Rattle.checker.proofs.BookKinds.{own_kind}
use Rattle.checker.proofs.Units.{unit_written, unit_opened_lem}
use Rattle.page.specs.Page.{ciphertext_length, source_at, sources_from}
use Rattle.page.proofs.Pages.{there}

-- the sources of units
abbrev pub sources : List BookUnit → List (List ℕ)
sources us = map (λ u. u.source) us

-- under the opening fields o, as a writer makes them
module _ (kind : Kind) (key o : List ℕ) (held : o ≡ opening_fields (opening_suite o) (opening_number o)) (long : length key ≡ 16) (key_bytes : Bytes key)
    (wf : WellFormed kind) where
  abbrev suite : Suite
  suite = opening_suite o

  abbrev number : ℕ
  number = opening_number o

  module _ (n : ℕ) (fits : n < 256 ^ kind.number_bytes) (few : n < most_units) (u : BookUnit) (a : Allowed kind n u) (rest : List ℕ) where
    abbrev s : List ℕ
    s = unit_bytes kind suite key number n u ++ rest

    abbrev t : List ℕ
    t = unit_text u.source u.target

    here : length t ≡ ciphertext_length kind s
    here = there kind key o n (length t) s (unit_written kind key o held long key_bytes n wf fits few u a rest).0

    source-here : source_at kind key o n s ≡ u.source
    unfolding source_at
    source-here =
        ap (λ (m : ℕ). source_of (unit_opened kind key o n m s)) (sym here)
        ∙ ap source_of (unit_opened_lem kind key o held long key_bytes n wf fits few u a rest)
        ∙ source_of_unit_text u.source u.target (omega (arith, range_told (length u.source) (length u.target) a.range))

    rest-here : after_unit kind (ciphertext_length kind s) s ≡ rest
    rest-here = ap (λ (m : ℕ). after_unit kind m s) (sym here) ∙ (unit_written kind key o held long key_bytes n wf fits few u a rest).1

  sources-here : (n : ℕ) (us : List BookUnit) (rest : List ℕ) → EachFrom (Allowed kind) n us → n + length us < 256 ^ kind.number_bytes
      → n + length us ≤ most_units → sources_from kind key o (length us) n (units_bytes kind suite key number n us ++ rest) ≡ sources us
  unfolding sources_from units_bytes
  sources-here n [] rest each fits few = refl
  sources-here n (u ∷ us) rest (more_from a each) fits few =
      let r = units_bytes kind suite key number (suc n) us ++ rest in
      let cut = append_assoc (unit_bytes kind suite key number n u) (units_bytes kind suite key number (suc n) us) rest in
      ap (sources_from kind key o (suc (length us)) n) cut
      ∙ (λ i. source-here n (omega arith) (omega arith) u a r i
      ∷ sources_from kind key o (length us) (suc n) (rest-here n (omega arith) (omega arith) u a r i))
      ∙ ap (λ (l : List (List ℕ)). u.source ∷ l) (sources-here (suc n) us rest each (omega arith) (omega arith))

module _ (suite : Suite) (number : ℕ) (rest : List ℕ) where
  behind-here : after_opening (opening_fields suite number ++ rest) ≡ rest
  unfolding after_opening
  behind-here = drop_at (opening_fields suite number) rest 16 (length_opening_fields suite number)

module _ (k : BookKind) (suite : Suite) (key : List ℕ) (number : ℕ) (us : List BookUnit) (b : Bookable (kind_of k) suite key number us) where
  abbrev x : List ℕ
  x = book_bytes (kind_of k) suite key number us

  -- the sources that are read from a book are those of its units
  pub book_sources : sources_from (kind_of (book_kind x)) key (opening_bytes x) (length us) 0 (after_opening x) ≡ sources us
  unfolding book_bytes
  book_sources =
      let q = book_kind x in
      let kind = kind_of q in
      let own = own_kind k suite key number us b in
      let fit = own.bookable in
      let o = opening_fields suite number in
      let says = front_says suite number b.number_fits in
      let held : o ≡ opening_fields (opening_suite o) (opening_number o) = λ i. opening_fields (sym says.0 i) (sym says.1 i) in
      let close = close_bytes (kind_of k) suite key number (length us) in
      let units : units_bytes (kind_of k) suite key number 0 us ≡ units_bytes kind (opening_suite o) key (opening_number o) 0 us =
      sym own.units ∙ (λ i. units_bytes kind (sym says.0 i) key (sym says.1 i) 0 us) in
      (λ i. sources_from kind key (front_here suite number (units_bytes (kind_of k) suite key number 0 us ++ close) i) (length us) 0
      (behind-here suite number (units_bytes (kind_of k) suite key number 0 us ++ close) i))
      ∙ ap (λ (l : List ℕ). sources_from kind key o (length us) 0 (l ++ close)) units
      ∙ sources-here kind key o held b.key_long b.key_bytes (formed q) 0 us close fit.units
      (omega (arith, (formed q).numbers_fit, fit.few)) (omega (arith, (readable q).limit, fit.few))
