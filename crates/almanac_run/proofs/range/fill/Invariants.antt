use Rattle.std.proofs.Common.{◌≤◌}
use Rattle.almanac_run.proofs.Filling.{Filling}
use Rattle.almanac_run.proofs.range.fill.Given as goal

abbrev pub invariant-loop-pages : goal.invariant-loop-pages
invariant-loop-pages l = (l.pages ≤ l.count) × Filling l.request l.first l.fn.out l.out l.pages l.next l.end
