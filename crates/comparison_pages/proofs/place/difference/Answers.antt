use native.Mathlib.Omega.{arith}
use Rattle.text.proofs.Putting.{all_put, put_last}
use Rattle.comparison_pages.proofs.PlaceText.{days_small, wrote_days, put_first_lacks, put_second_lacks}
use borrow.Author.Rules.{rules}
use Rattle.comparison_pages.proofs.place.difference.Goals as goal

pub days-requires : goal.days-requires
days-requires c = (search rules, search days_small)

pub returns-in-Days : goal.returns-in-Days
returns-in-Days c = (search wrote_days, omega arith)

pub returns-in-FirstLacks : goal.returns-in-FirstLacks
returns-in-FirstLacks c = all_put (search (put_first_lacks, put_last)) (omega arith)

pub returns-in-SecondLacks : goal.returns-in-SecondLacks
returns-in-SecondLacks c = all_put (search (put_second_lacks, put_last)) (omega arith)
