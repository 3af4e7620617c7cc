-- The first s tweakeys are there.
use Rattle.groups.proofs.Ciphered.{Tweakeys}
use Rattle.groups.proofs.group.Given as goal

abbrev pub invariant-loop-s : goal.invariant-loop-s
invariant-loop-s l = Tweakeys l.way.cipher l.way.shared.now l.w l.s l.t-items
