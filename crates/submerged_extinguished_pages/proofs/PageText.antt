-- The pages from their lines.
use Prim.Native.Nat.{ℕ, ◌+◌, ◌≤◌, ◌<◌}
use mathlib.Core.Path.{◌≡◌, refl, ap}
use mathlib.Core.List.{List, ◌++◌}
use native.Mathlib.Omega.{arith}
use lib.ListN.{length, take, get_or}
use Rattle.std.proofs.lemmas.List.{get_or-take}
use Rattle.std.proofs.Common.{Result, Ok, Err}
use Rattle.std.specs.Prelude.{IsOk}
use Rattle.reckoning.specs.declared.refusal.Refusal.{Refusal}
use Rattle.reckoning.specs.Scope.{YearInScope}
use Rattle.reckoning.proofs.ToldCases.{number_not_0}
use Rattle.submerged_extinguished.specs.declared.data.DayDistance.{DayDistance}
use Rattle.submerged_extinguished.specs.Rules.{HasRule}
use Rattle.submerged_extinguished.specs.Outcomes.{SubmergedOutcome}
use Rattle.submerged_extinguished.specs.Told.{told_day}
use Rattle.submerged_extinguished.proofs.DaysRight.{submerged_answered}
use Rattle.submerged_extinguished.specs.Records.{DayAnswer, MoonsAnswer}
use Rattle.submerged_extinguished.specs.Answers.{unused, submerged_of, extinguished_days_of}
use Rattle.submerged_extinguished.proofs.ExtinguishedEnds.{thirteen_most}
use Rattle.text.specs.Piece.{title, refused_line, texts_up_to}
use Rattle.text.specs.Put.{Put}
use Rattle.text.specs.Wrote.{Wrote}
use Rattle.text.proofs.Writing.{wrote_as, wrote_then, wrote_one_more}
use Rattle.text.proofs.Putting.{Puts, put_wrote, put_refusal, wrote_told}
use Rattle.submerged_extinguished_pages.specs.DistancePages.{page_with, qi_told, qi_line, moon_line, moon_line_at, moon_lines}

-- The line of the answer for a qi that was asked for.
pub wrote_asked : {b a : List ℕ} {at e : ℕ} {got : DayAnswer} (system n i : ℕ) → got ≡ submerged_of system n i
    → Wrote b at (qi_told i got) a e
    → Wrote b at (qi_line system n i) a e
wrote_asked system n i is w = wrote_as (ap (qi_told i) is) w

-- Where qi 0 is answered, so is each.
pub each_answered : {system year i : ℕ} (r : Result DayDistance Refusal) → (submerged_of system year 0).refusal ≡ 0 → i < 25
    → SubmergedOutcome system year i (told_day r)
    → IsOk r
each_answered {system} {year} {i} r none below this = by_first (submerged_answered system year 0)
  where
    answered : (r : Result DayDistance Refusal) → (told_day r).refusal ≡ 0 → IsOk r
    answered (Ok a) e = refl
    answered (Err x) e = absurd (number_not_0 x e)

    by_this : HasRule system → YearInScope year → SubmergedOutcome system year i (told_day r) → IsOk r
    by_this has inside (SubmergedOutcome.system_refused other refused) = absurd (other has)
    by_this has inside (SubmergedOutcome.year_refused has_lem other refused) = absurd (other inside)
    by_this has inside (SubmergedOutcome.qi_refused has_lem inside_lem past refused) = absurd (omega (arith, past))
    by_this has inside (SubmergedOutcome.found f) = answered r f.not_refused

    by_first : SubmergedOutcome system year 0 (submerged_of system year 0) → IsOk r
    by_first (SubmergedOutcome.system_refused other refused) = absurd (omega (arith, refused.carries))
    by_first (SubmergedOutcome.year_refused has other refused) = absurd (omega (arith, refused.carries))
    by_first (SubmergedOutcome.qi_refused has inside past refused) = absurd (omega (arith, past))
    by_first (SubmergedOutcome.found f) = by_this f.has_rule f.year_inside this

-- A moon's line more.
pub wrote_moon_more : {b m a : List ℕ} {at p e : ℕ} (days : MoonsAnswer) (i : ℕ)
    → Wrote b at (texts_up_to (moon_line_at days) i) m p
    → Wrote m p (moon_line (i + 1) (get_or (take days.count days.moons) i unused)) a e
    → i < days.count
    → Wrote b at (texts_up_to (moon_line_at days) (i + 1)) a e
wrote_moon_more days i w v more =
    wrote_one_more (moon_line_at days) i w (wrote_as (ap (moon_line (i + 1)) (get_or-take days.count days.moons i unused more)) v)

-- A page: refused and answered.
module _ {b a : List ℕ} {at e : ℕ} (bytes : List ℕ) (system n : ℕ) (lines : List ℕ) {got asked : ℕ} (is : got ≡ asked) where
  pub put_refused : {rooms : ℕ} → (got ≡ 0 → ⊥) → Puts b at rooms (refused_line got) a e
      → Puts b at rooms (page_with bytes system n asked lines) a e
  unfolding page_with
  put_refused h w = put_refusal (λ refusal. refusal) (λ refusal. title bytes system n ++ lines) is h w

  pub wrote_page : {m : List ℕ} {p room : ℕ} → got ≡ 0 → Put b at room (title bytes system n) m p
      → at + room ≤ length b
      → Wrote m p lines a e
      → Wrote b at (page_with bytes system n asked lines) a e
  unfolding page_with
  wrote_page h first room w =
      wrote_told (λ refusal. refusal) (λ refusal. title bytes system n ++ lines) is h (wrote_then (put_wrote first room) w)

-- The days that were asked for.
module _ (system n : ℕ) {days : MoonsAnswer} (asked : days ≡ extinguished_days_of system n) where
  pub days_most : days.count ≤ 13
  days_most = omega (arith, ap (λ d. d.count) asked, thirteen_most system n)

  pub wrote_asked_moons : {b a : List ℕ} {at e : ℕ} → Wrote b at (moon_lines days) a e
      → Wrote b at (moon_lines (extinguished_days_of system n)) a e
  wrote_asked_moons w = wrote_as (ap moon_lines asked) w
