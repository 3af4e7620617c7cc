-- The computed tests over all columns: the equations give the tables.
use lib.Dec.{T}
use Rattle.bits.specs.Bit.{bit, gather}
use Rattle.sbox.specs.Sbox
use Rattle.sbox.specs.Equations
use Rattle.sbox.proofs.Circuit.{right}

pub scream_right : T (right Equations.scream Sbox.scream)
unfolding Sbox.scream bit gather
scream_right = tt

pub scream_inverse_right : T (right Equations.scream_inverse Sbox.scream_inverse)
unfolding Sbox.scream_inverse bit gather
scream_inverse_right = tt

pub iscream_right : T (right Equations.iscream Sbox.iscream)
unfolding Sbox.iscream bit gather
iscream_right = tt
