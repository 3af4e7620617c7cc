-- The loop has done the first i blocks.
use Rattle.runs.specs.Run.{block_by}
use Rattle.runs.proofs.Loop.{Done}
use Rattle.runs.proofs.all.Given as goal

abbrev pub invariant-loop-i : goal.invariant-loop-i
invariant-loop-i g l = Done (block_by g.W.Way.ahead (g.W.Way.cipher l.way) l.r.done l.r.steps l.r.wanted l.key) l.tweaks l.initial.blocks l.m l.i l.blocks
