-- The fields are read one by one.
use mathlib.Core.Path.{◌≡◌, ap, ◌∙◌}
use mathlib.Core.Bool.{not}
use mathlib.Core.List.{List}
use Prim.Native.Nat.{ℕ}
use native.Mathlib.Nat.{le_refl}
use lib.Dec.{eqb}
use lib.ListN.{get_or, take, drop}
use lib.Seq.{take-take}
use Rattle.bits.specs.Bytes.{number_of}
use Rattle.writer_bytes.specs.WriterBytes.{writer_of}
use Rattle.writer_bytes.proofs.from_bytes.Goals as goal

eight : {r : ℕ} (s : List ℕ) → r ≡ number_of (take 8 (take 8 s)) → r ≡ number_of (take 8 s)
eight s e = e ∙ ap number_of (take-take 8 8 s (le_refl 8))

pub returns : goal.returns
unfolding writer_of
returns c =
    let b = c.args.b in
    λ i. record {
      suite = record { cipher = get_or b 0 0; steps = get_or b 1 0 };
      key = c.block_at.ensures i;
      number = eight (drop 8 b) c.of.ensures i;
      place = eight (drop 32 b) c.of-2.ensures i;
      count = eight (drop 40 b) c.of-3.ensures i;
      total = eight (drop 48 b) c.of-4.ensures i;
      closed = not (eqb (get_or b 2 0) 1);
    }
