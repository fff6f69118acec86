-- What is asked of a number has room.
use Rattle.almanac_run.proofs.RequestedPages.{wrote_requested}
use Rattle.almanac_run.proofs.range.requested_page.Goals as goal

pub returns-in-Compare : goal.returns-in-Compare
returns-in-Compare c = search wrote_requested

pub returns-in-Sun : goal.returns-in-Sun
returns-in-Sun c = search wrote_requested
