-- What each page puts has room.
use Rattle.almanac_run.proofs.RequestedPages.{wrote_page}
use Rattle.almanac_run.proofs.range.system_page.Goals as goal

pub returns-in-Year : goal.returns-in-Year
returns-in-Year c = search wrote_page

pub returns-in-Pentads : goal.returns-in-Pentads
returns-in-Pentads c = search wrote_page

pub returns-in-Pentad : goal.returns-in-Pentad
returns-in-Pentad c = search wrote_page

pub returns-in-Submerged : goal.returns-in-Submerged
returns-in-Submerged c = search wrote_page

pub returns-in-Extinguished : goal.returns-in-Extinguished
returns-in-Extinguished c = search wrote_page
