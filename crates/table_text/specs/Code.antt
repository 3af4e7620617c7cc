-- What the code writes between the entries. No public contract cites it.
use Rattle.std.specs.Prelude.{cond, ℕ, ◌%◌, eqb}

-- behind the entry i: a line feed behind the last of a line, else a blank
abbrev pub behind : ℕ → ℕ
behind i = cond (eqb (i % 16) 15) 0x0A 0x20
