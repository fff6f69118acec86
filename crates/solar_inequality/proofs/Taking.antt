-- What is taken of a day, and that it is within the limit that is used.
use Prim.Native.Nat.{ℕ, ◌+◌, ◌*◌, ◌-◌, ◌≤◌, ◌<◌}
use mathlib.Core.Path.{◌≡◌, refl, subst, ◌∙◌}
use native.Mathlib.Omega.{arith}
use borrow.Author.Tests.{le-leb, lt-leb}
use Rattle.calendar.proofs.Rising.{by_order}
use Rattle.solar_inequality.specs.declared.data.Season.{Season}
use Rattle.solar_inequality.specs.declared.data.Season.TheVariants.{Winter, Summer}
use Rattle.solar_inequality.specs.declared.taken.Taken.{Taken}
use Rattle.solar_inequality.specs.Limits.{in_day, limit_of, half_year, other}
use Rattle.solar_inequality.specs.LimitHolds.{LimitHolds}
use Rattle.solar_inequality.specs.Outcome.{Takes}
use Rattle.solar_inequality.specs.Answers.{as_it_is, left_of_half_year, taken_of}

-- The list, checked for each season.
pub limit_holds : (season : Season) → LimitHolds (limit_of season)
limit_holds Winter = omega arith
limit_holds Summer = omega arith

-- The two limits make up the half year.
pub limits_meet : (season : Season) → (limit_of season).parts + (limit_of (other season)).parts ≡ half_year
limits_meet Winter = refl
limits_meet Summer = refl

-- What is taken of a day, by the test on it.
module _ (season : Season) (x : ℕ) where
  pub taken_as_it_is : x * in_day ≤ (limit_of season).parts → as_it_is season x ≡ taken_of season x
  unfolding taken_of
  taken_as_it_is h = simp (le-leb (x * in_day) (limit_of season).parts h)

  pub taken_beyond : (limit_of season).parts < x * in_day → left_of_half_year season x ≡ taken_of season x
  unfolding taken_of
  taken_beyond h = simp (lt-leb (x * in_day) (limit_of season).parts h)

  -- Of either it has to be shown.
  by_limit : (P : Taken → Type 0)
      → (x * in_day ≤ (limit_of season).parts → P (as_it_is season x))
      → ((limit_of season).parts < x * in_day → P (left_of_half_year season x))
      → P (taken_of season x)
  by_limit P up_to_lem beyond =
      by_order (limit_of season).parts (x * in_day)
      (λ h. subst P (taken_beyond h) (beyond h))
      (λ h. subst P (taken_as_it_is h) (up_to_lem h))

  module _ (day : x ≤ 182) where
    pub takes : Takes season x (taken_of season x)
    takes =
        by_limit (Takes season x)
        (λ h. Takes.stays_as_it_is h refl refl)
        (λ h. Takes.beyond h (omega arith) refl)

    pub takes_alone : (t : Taken) → Takes season x t → t ≡ taken_of season x
    takes_alone t (Takes.stays_as_it_is h parts is) = (λ j. record { parts = parts j; season = is j }) ∙ taken_as_it_is h
    takes_alone t (Takes.beyond h parts is) =
        let left : t.parts ≡ half_year - x * in_day = omega arith in
        (λ j. record { parts = left j; season = is j }) ∙ taken_beyond h

    pub within : (taken_of season x).parts ≤ (limit_of (taken_of season x).season).parts
    within =
        by_limit (λ t. t.parts ≤ (limit_of t.season).parts)
        (λ h. h)
        (λ h. omega (arith, limits_meet season))

    -- But for day 0, the least is that of day 182.
    pub taken_least : 0 < x → 7480 ≤ (taken_of season x).parts
    taken_least some = by_limit (λ t. 7480 ≤ t.parts) (λ h. omega arith) (λ h. omega arith)
