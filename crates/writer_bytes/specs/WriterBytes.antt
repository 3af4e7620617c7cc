-- The writer as the 64 bytes that C keeps, as include/sealed_book.h has them. Numbers are big-endian.
use Rattle.std.specs.Prelude.{cond, not, List, ◌∷◌, ◌++◌, ℕ, eqb, get_or, take, drop, replicate}
use Rattle.bits.specs.Bytes.{big_endian, number_of}
use Rattle.writer_state.specs.declared.Writer.{Writer}

-- any 64 bytes are a writer; it is open where byte 2 is 1
unfoldable pub writer_of : List ℕ → Writer
writer_of b =
    record {
      suite = record { cipher = get_or b 0 0; steps = get_or b 1 0 };
      key = take 16 (drop 16 b);
      number = number_of (take 8 (drop 8 b));
      place = number_of (take 8 (drop 32 b));
      count = number_of (take 8 (drop 40 b));
      total = number_of (take 8 (drop 48 b));
      closed = not (eqb (get_or b 2 0) 1);
    }

-- what is written of one; bytes that are not used are 0
unfoldable pub writer_bytes : Writer → List ℕ
writer_bytes w =
    (w.suite.cipher ∷ w.suite.steps ∷ cond w.closed 0 1 ∷ replicate 5 0)
    ++ (big_endian 8 w.number
    ++ (w.key
    ++ (big_endian 8 w.place
    ++ (big_endian 8 w.count
    ++ (big_endian 8 w.total
    ++ replicate 8 0)))))
