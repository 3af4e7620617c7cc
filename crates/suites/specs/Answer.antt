-- The answer of a call that has nothing to hand back but what it wrote: that it did its job, or the refusal.
use Rattle.std.specs.Prelude.{Result, ⊤}
use Rattle.suites.specs.declared.refusal.Refusal.{Refusal}

abbrev pub Answer : Type 0
Answer = Result ⊤ Refusal
