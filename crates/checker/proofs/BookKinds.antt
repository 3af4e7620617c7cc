-- A book is read by its own kind: the kind that its bytes say, or one with the same close where it has no units.
use mathlib.Core.Path.{◌≡◌, refl, sym, ap, subst, ◌∙◌}
use mathlib.Core.List.{List, [], ◌∷◌, ◌++◌}
use Prim.Native.Nat.{ℕ}
use native.Mathlib.Omega.{arith}
use lib.ListN.{get_or}
use Rattle.bits.specs.Bytes.{big_endian}
use Rattle.suites.specs.declared.suite.Suite.{Suite}
use Rattle.fields.specs.Each.{none_from}
use Rattle.fields.specs.Field.{field, field_head}
use Rattle.fields.specs.Kind.{Kind}
use Rattle.fields.specs.Unit.{BookUnit}
use Rattle.kinds.specs.declared.Kind.{Kind as BookKind}
use Rattle.kinds.specs.Kind.{kind_of, kind_by, book_kind}
use Rattle.kinds.proofs.Formed.{by_header, SameClose, by_close}
use Rattle.format.specs.Layout.{unit_bytes, close_bytes, units_bytes, book_bytes, Bookable}
use Rattle.format.specs.Sealings.{Sealing, opening_fields, unit_header, close_header, close_sealing, unit_sealings, sealed_bytes, call_total}
use Rattle.checker.specs.Exact.{book_sealings, IsBook}

-- the byte behind the opening fields
pub behind : (suite : Suite) (number : ℕ) (rest : List ℕ) → get_or (opening_fields suite number ++ rest) 16 0 ≡ get_or rest 0 0
unfolding opening_fields field field_head big_endian
behind suite number rest = refl

-- two kinds with the same close tag and number bytes have the same close: its bytes and its sealing
module _ {a b : Kind} (same : SameClose a b) where
  header-same : (n : ℕ) → close_header a n ≡ close_header b n
  unfolding close_header
  header-same n = λ i. field (same.tag i) (big_endian (same.number i) n)

  sealing-same : (suite : Suite) (number n : ℕ) → close_sealing a suite number n ≡ close_sealing b suite number n
  unfolding close_sealing
  sealing-same suite number n = λ i. record { nonce = (close_sealing b suite number n).nonce; header = opening_fields suite number ++ header-same n i; text = [] }

  close-same : (suite : Suite) (key : List ℕ) (number n : ℕ) → close_bytes a suite key number n ≡ close_bytes b suite key number n
  unfolding close_bytes
  close-same suite key number n = λ i. header-same n i ++ field 0x12 (sealed_bytes suite key (sealing-same suite number n i))

module _ (k : BookKind) (suite : Suite) (key : List ℕ) (number : ℕ) where
  -- a book with units has their kind
  units-kind : (u : BookUnit) (us : List BookUnit) → book_kind (book_bytes (kind_of k) suite key number (u ∷ us)) ≡ k
  unfolding book_kind book_bytes units_bytes unit_bytes unit_header field field_head
  units-kind u us = ap kind_by (behind suite number _) ∙ by_header k

  pub unit_kind : (before : List BookUnit) (u : BookUnit) (after : List BookUnit) → book_kind (book_bytes (kind_of k) suite key number (before ++ u ∷ after)) ≡ k
  unit_kind [] u after = units-kind u after
  unit_kind (b ∷ before) u after = units-kind b (before ++ u ∷ after)

  -- one without units has a kind with this close
  none-kind : book_kind (book_bytes (kind_of k) suite key number []) ≡ kind_by (kind_of k).close_tag
  unfolding book_kind book_bytes units_bytes close_bytes close_header field field_head
  none-kind = ap kind_by (behind suite number _)

  none-same : book_bytes (kind_of (kind_by (kind_of k).close_tag)) suite key number [] ≡ book_bytes (kind_of k) suite key number []
  unfolding book_bytes units_bytes
  none-same = ap (λ (c : List ℕ). opening_fields suite number ++ c) (close-same (by_close k) suite key number 0)

  none-sealings : book_sealings (kind_of (kind_by (kind_of k).close_tag)) suite number [] ≡ book_sealings (kind_of k) suite number []
  unfolding book_sealings unit_sealings
  none-sealings = ap (λ (s : Sealing). s ∷ []) (sealing-same (by_close k) suite number 0)

  -- what a book's own kind says of it
  pub record OwnKind (us : List BookUnit) (q : BookKind) : Type 0 where
    pub bookable : Bookable (kind_of q) suite key number us
    pub bytes : book_bytes (kind_of q) suite key number us ≡ book_bytes (kind_of k) suite key number us
    pub sealings : book_sealings (kind_of q) suite number us ≡ book_sealings (kind_of k) suite number us
    pub units : units_bytes (kind_of q) suite key number 0 us ≡ units_bytes (kind_of k) suite key number 0 us

  pub own_kind : (us : List BookUnit) → Bookable (kind_of k) suite key number us → OwnKind us (book_kind (book_bytes (kind_of k) suite key number us))
  unfolding units_bytes
  own_kind [] b =
      subst (OwnKind []) (sym none-kind)
      (record {
        bookable =
            record {
              listed_suite = b.listed_suite;
              key_long = b.key_long;
              key_bytes = b.key_bytes;
              number_fits = b.number_fits;
              units = none_from;
              few = omega arith;
            };
        bytes = none-same;
        sealings = none-sealings;
        units = refl;
      })
  own_kind (u ∷ us) b = subst (OwnKind (u ∷ us)) (sym (units-kind u us)) (record { bookable = b; bytes = refl; sealings = refl; units = refl })

-- so every book is one of its own kind
pub is_own : {key x : List ℕ} {n t : ℕ} (k : BookKind) → IsBook (kind_of k) key x n t → IsBook (kind_of (book_kind x)) key x n t
is_own {key} {x} {n} {t} k i =
    let own = own_kind k i.suite key i.number i.units i.bookable in
    subst (λ (y : List ℕ). IsBook (kind_of (book_kind y)) key y n t) i.bytes
    (record {
      suite = i.suite;
      number = i.number;
      units = i.units;
      bookable = own.bookable;
      bytes = own.bytes;
      count = i.count;
      total = ap call_total own.sealings ∙ i.total;
    })
