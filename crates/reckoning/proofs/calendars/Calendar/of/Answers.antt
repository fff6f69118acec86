use mathlib.Core.Path.{subst, sym}
use Rattle.reckoning.specs.WordBounds.{YearsInRegister}
use Rattle.reckoning.proofs.ScopeInRegister.{years_in_register}
use Rattle.reckoning.proofs.calendars.Calendar.of.Goals as goal

pub invariant_of-result-clause-fits : goal.invariant_of-result-clause-fits
invariant_of-result-clause-fits c = subst YearsInRegister (sym c.requires) (years_in_register c.args.system)
