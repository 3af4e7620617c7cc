-- What holds of every kind.
use mathlib.Core.Logic.{◌≢◌}
use mathlib.Core.Path.{◌≡◌, refl, ap, ◌∙◌}
use Prim.Native.Nat.{◌≤◌}
use native.Mathlib.Omega.{arith}
use Rattle.fields.specs.Kind.{Kind, WellFormed, writer_kind}
use Rattle.kinds.specs.declared.Kind.{Kind as BookKind}
use Rattle.kinds.specs.declared.Kind.TheVariants.{Tag10, Tag14}
use Rattle.kinds.specs.Kind.{kind_of, newest, kind_by}
use Rattle.kinds.specs.Lengths.{header_length}

pub formed : (k : BookKind) → WellFormed (kind_of k)
formed Tag10 =
    record {
      header_byte = omega arith;
      close_byte = omega arith;
      tags_differ = λ e. omega arith;
      numbers_fit = omega arith;
      numbers_short = omega arith;
      codes_short = omega arith;
    }
formed Tag14 =
    record {
      header_byte = omega arith;
      close_byte = omega arith;
      tags_differ = λ e. omega arith;
      numbers_fit = omega arith;
      numbers_short = omega arith;
      codes_short = omega arith;
    }

-- a number has two bytes or four, so that a unit's header has four from where its number begins
pub two_or_four : (k : BookKind) → (kind_of k).number_bytes ≢ 4 → (kind_of k).number_bytes ≡ 2
two_or_four Tag10 h = refl
two_or_four Tag14 h = absurd (h refl)

pub header_long : (k : BookKind) → 7 ≤ header_length (kind_of k)
header_long Tag10 = omega arith
header_long Tag14 = omega arith

pub two_letters : (k : BookKind) → (kind_of k).code_bytes ≡ 2
two_letters Tag10 = refl
two_letters Tag14 = refl

-- the byte behind the opening fields says the kind: the tag of a unit's header says which it is
pub by_header : (k : BookKind) → kind_by (kind_of k).header_tag ≡ k
unfolding kind_by
by_header Tag10 = refl
by_header Tag14 = refl

-- and the tag of a close says one with this close
pub record SameClose (a b : Kind) : Type 0 where
  pub tag : a.close_tag ≡ b.close_tag
  pub number : a.number_bytes ≡ b.number_bytes

pub by_close : (k : BookKind) → SameClose (kind_of (kind_by (kind_of k).close_tag)) (kind_of k)
unfolding kind_by
by_close Tag10 = record { tag = refl; number = refl }
by_close Tag14 = record { tag = refl; number = refl }

-- the kind that the writer makes has the numbers of which its contracts speak
pub newest_is : kind_of newest ≡ writer_kind
newest_is = refl

pub newest_kind : {k : BookKind} → k ≡ newest → kind_of k ≡ writer_kind
newest_kind e = ap kind_of e ∙ newest_is
