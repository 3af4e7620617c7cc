-- "The writer holds suite, key, book number, place, unit count, call total, and whether it is closed": the struct `Writer` of the code.
use Rattle.std.specs.Prelude.{true, replicate}
use Rattle.writer_state.specs.declared.Writer.{Writer}

-- "refused, it hands back a closed writer of zeros"
abbrev pub no_writer : Writer
no_writer =
    record {
      suite = record { cipher = 0; steps = 0 };
      key = replicate 16 0;
      number = 0;
      place = 0;
      count = 0;
      total = 0;
      closed = true;
    }
