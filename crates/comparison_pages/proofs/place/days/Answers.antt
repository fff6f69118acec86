use mathlib.Core.Path.{refl}
use native.Mathlib.Omega.{arith}
use Rattle.text.proofs.Putting.{all_put, put_then, put_last}
use Rattle.comparison_pages.proofs.DaysText.{put_negative, put_other}
use Rattle.comparison_pages.proofs.place.days.Goals as goal

pub returns-then-days-lt0 : goal.returns-then-days-lt0
returns-then-days-lt0 c =
    let told = put_then c.word-at.ensures refl (put_last c.number.ensures refl) in
    all_put (put_negative _ c.requires.1 c.unsigned_abs-size.ensures.value c.if-days-lt0.true told) (omega arith)

pub returns : goal.returns
returns c = all_put (search (put_other, put_last)) (omega arith)
