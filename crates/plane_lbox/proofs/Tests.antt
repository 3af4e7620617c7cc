-- The computed tests at all single bits: the networks are the matrices.
use lib.Dec.{T}
use Rattle.bits.specs.Bit.{bit}
use Rattle.lbox.specs.Lbox
use Rattle.plane_lbox.proofs.Networks
use Rattle.plane_lbox.proofs.Network.{right}

pub scream_right : T (right Networks.scream Lbox.scream)
unfolding Lbox.scream Lbox.times Lbox.dot bit
scream_right = tt

pub scream_inverse_right : T (right Networks.scream_inverse Lbox.scream_inverse)
unfolding Lbox.scream_inverse Lbox.times Lbox.dot bit
scream_inverse_right = tt

pub iscream_right : T (right Networks.iscream Lbox.iscream)
unfolding Lbox.iscream Lbox.times Lbox.dot bit
iscream_right = tt
