-- By computing.
use mathlib.Core.Path.{refl}
use mathlib.Core.List.{flatten}
use Rattle.sbox.specs.Sbox
use Rattle.printed.specs.Lboxes
use Rattle.printed.specs.Printed.{tables, table}
use Rattle.table_text.specs.Text.{hex_digit, table_text}
use Rattle.table_text.specs.Examples.{TextExamples}

pub text_examples : TextExamples
unfolding flatten hex_digit table_text tables table Lboxes.table8 Sbox.scream Sbox.iscream
text_examples = record { first = refl; last = refl; read = refl; long = λ t. refl; all = refl }
