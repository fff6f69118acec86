use Rattle.reckoning.proofs.AnswerUnless.{year_tested}
use Rattle.reckoning.proofs.HeadLaws.{head_of}
use Rattle.reckoning.proofs.calendars.Calendar.head_of_common_year.Goals as goal

pub reckoned_head-requires : goal.reckoned_head-requires
reckoned_head-requires c =
    head_of (c.args.self.fits.in_register _ (year_tested c.args.year c.out_of_years.ensures c.if-out_of_years.false))
