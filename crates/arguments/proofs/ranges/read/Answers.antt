-- By what the two texts are read as.
use Rattle.std.proofs.Common.{rules}
use Rattle.arguments.proofs.RangeCases.{no_first, no_last, range_digits, a_range}
use Rattle.arguments.proofs.ranges.read.Goals as goal

pub returns-in_err-start : goal.returns-in_err-start
returns-in_err-start c = search (rules, no_first)

pub returns-in_err-read : goal.returns-in_err-read
returns-in_err-read c = search (rules, no_last)

pub count-requires : goal.count-requires
count-requires c = search (rules, range_digits)

pub returns : goal.returns
returns c = search (rules, a_range)
