-- One digit, or the last one behind those of the tenth part. The measure is the number.
use Rattle.decimal.proofs.+put_all.Given as goal

abbrev pub decreases-put_all : goal.decreases-put_all
decreases-put_all l = l.n
