use Rattle.printed_heads.proofs.EachEntry.{each_entry}
use Rattle.printed_heads.proofs.entry.Goals as goal

-- The page is tested here. Which number is wrong, where one is, tests/printed_heads.sh tells.
pub returns : goal.returns
returns c = search each_entry
