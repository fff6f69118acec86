use native.Mathlib.Omega.{arith}
use Rattle.conversion.proofs.Cases.{accepted}
use Rattle.conversion.proofs.Ends.{raised_bytes}
use Rattle.conversion.proofs.raised.Goals as goal
use Rattle.conversion.proofs.raised.Goals.{Start}

pub bounds-s-4 : goal.bounds-s-4
bounds-s-4 c = omega (arith, ((accepted _ c.requires)).long)

pub bounds-s-5 : goal.bounds-s-5
bounds-s-5 c = omega (arith, ((accepted _ c.requires)).long)

pub bounds-s-6 : goal.bounds-s-6
bounds-s-6 c = omega (arith, ((accepted _ c.requires)).long)

pub bounds-s-7 : goal.bounds-s-7
bounds-s-7 c = omega (arith, ((accepted _ c.requires)).long)

pub bounds-s-8 : goal.bounds-s-8
bounds-s-8 c = omega (arith, ((accepted _ c.requires)).long)

pub bounds-s-9 : goal.bounds-s-9
bounds-s-9 c = omega (arith, ((accepted _ c.requires)).long)

pub overflow_add-result : goal.overflow_add-result
overflow_add-result c = omega (arith, ((accepted _ c.requires)).name)

pub returns : goal.returns
returns c = raised_bytes _ ((accepted _ c.requires))
