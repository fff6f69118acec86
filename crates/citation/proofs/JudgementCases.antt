-- The cases of each kind's judgement: refused by the reckoning, at a wrong place, or accepted.
use Prim.Native.Nat.{ℕ, ◌+◌, ◌-◌, ◌≤◌, ◌<◌}
use mathlib.Core.Path.{◌≡◌, refl, ap, ap₂, sym, ◌∙◌}
use mathlib.Core.Bool.{Bool, true, false, cond, ◌||◌}
use mathlib.Core.Logic.{⊎_elim}
use mathlib.Core.List.{List}
use native.Mathlib.Decide.{ℕ_discrete}
use native.Mathlib.Omega.{arith}
use Rattle.reckoning.specs.RefusalNumbers.{DAY}
use Rattle.citation.specs.Record.{kind_of, system_of}
use Rattle.citation.specs.Record.{year_field, month_field, leap_field, day_field, name_field, ordinal_field, register_day_field}
use lib.Dec.{leb}
use borrow.Author.Tests.{eq-eqb, ne_eqb, le-leb, lt-leb}
use Rattle.reckoning.specs.ComputedRefusals.{outside}
use Rattle.reckoning.specs.Answers.{MonthAnswer, OrdinalAnswer, DateAnswer}
use Rattle.reckoning.specs.Requests.{ordinal_day_of, month_of, date_of}
use Rattle.citation.specs.Answers.{JudgementAnswer}
use Rattle.citation.specs.Store.{refuse_telling, refuse, accept, unless_refused, unless_wrong, judge_date, judge_register_day, judge_ordinal_day}
use Rattle.citation.specs.Store.{judge_ordinal, judge_in_month, judge_day, judge_name_in_month, judge_name, days_to_name, name_wrong}
use Rattle.citation.specs.Store.{judge_kind}
use Rattle.citation.specs.CitationRefusals.{HasMonth}

pub by_equal : {P : Type 0} (m n : ℕ) → (m ≡ n → P) → ((m ≡ n → ⊥) → P) → P
by_equal m n f g = elim (ℕ_discrete m n) [ yes e ↦ f e | no e ↦ g e ]

-- One law for every kind.
module _ (refusal told : ℕ) (wrong : Bool) (j : JudgementAnswer) where
  refused_by : (refusal ≡ 0 → ⊥) → refuse_telling refusal told ≡ unless_refused refusal told j
  refused_by h = simp (ne_eqb refusal 0 h)

  accepted_by : refusal ≡ 0 → j ≡ unless_refused refusal told j
  accepted_by h = ap (λ accepted. cond accepted j (refuse_telling refusal told)) (sym (eq-eqb refusal 0 h))

  wrong_place : refusal ≡ 0 → wrong ≡ true → refuse DAY ≡ unless_refused refusal told (unless_wrong wrong j)
  wrong_place h e = simp (eq-eqb refusal 0 h, e)

  right_place : refusal ≡ 0 → wrong ≡ false → j ≡ unless_refused refusal told (unless_wrong wrong j)
  right_place h e = simp (eq-eqb refusal 0 h, e)

-- Kind 4, with the day's date.
module _ (system r : ℕ) (d : DateAnswer) (e : d ≡ date_of system r) where
  abbrev on_date : JudgementAnswer
  on_date = accept r system d.year d.month d.leap d.day

  dated : judge_date d system r ≡ judge_register_day system r
  unfolding judge_register_day
  dated = ap (λ x. judge_date x system r) e

  pub date_refused : (d.refusal ≡ 0 → ⊥) → refuse d.refusal ≡ judge_register_day system r
  date_refused h = refused_by d.refusal 0 false on_date h ∙ dated

  pub date_accepted : d.refusal ≡ 0 → on_date ≡ judge_register_day system r
  date_accepted h = accepted_by d.refusal 0 false on_date h ∙ dated

-- Kind 3, with the day of the year.
module _ (system year ordinal : ℕ) (d : OrdinalAnswer) (e : d ≡ ordinal_day_of system year ordinal) where
  abbrev on_ordinal : JudgementAnswer
  on_ordinal = accept d.day.0 system year d.month d.leap d.place

  in_year : judge_ordinal_day d system year ≡ judge_ordinal system year ordinal
  unfolding judge_ordinal
  in_year = ap (λ x. judge_ordinal_day x system year) e

  pub ordinal_refused : (d.refusal ≡ 0 → ⊥) → refuse d.refusal ≡ judge_ordinal system year ordinal
  ordinal_refused h = refused_by d.refusal 0 false on_ordinal h ∙ in_year

  pub ordinal_accepted : d.refusal ≡ 0 → on_ordinal ≡ judge_ordinal system year ordinal
  ordinal_accepted h = accepted_by d.refusal 0 false on_ordinal h ∙ in_year

-- Kind 1, with its month.
module _ (system year month leap day : ℕ) (m : MonthAnswer) (e : m ≡ month_of system year month leap) where
  abbrev on_day : JudgementAnswer
  on_day = accept (m.head.0 + day - 1) system year month leap day

  in_month : judge_in_month m system year month leap day ≡ judge_day system year month leap day
  unfolding judge_day
  in_month = ap (λ x. judge_in_month x system year month leap day) e

  pub month_refused : (m.refusal ≡ 0 → ⊥) → refuse_telling m.refusal m.told ≡ judge_day system year month leap day
  month_refused h = refused_by m.refusal m.told false (unless_wrong (outside 1 m.length day) on_day) h ∙ in_month

  pub day_wrong_lem : m.refusal ≡ 0 → outside 1 m.length day ≡ true → refuse DAY ≡ judge_day system year month leap day
  day_wrong_lem h w = wrong_place m.refusal m.told (outside 1 m.length day) on_day h w ∙ in_month

  pub day_right : m.refusal ≡ 0 → outside 1 m.length day ≡ false → on_day ≡ judge_day system year month leap day
  day_right h w = right_place m.refusal m.told (outside 1 m.length day) on_day h w ∙ in_month

-- Kind 5, with its month.
module _ (system year month leap name : ℕ) (m : MonthAnswer) (e : m ≡ month_of system year month leap) where
  abbrev days : ℕ
  days = days_to_name m.head.0 name

  abbrev on_name : JudgementAnswer
  on_name = accept (m.head.0 + days) system year month leap (days + 1)

  name_in_month : judge_name_in_month m system year month leap name ≡ judge_name system year month leap name
  unfolding judge_name
  name_in_month = ap (λ x. judge_name_in_month x system year month leap name) e

  pub name_month_refused : (m.refusal ≡ 0 → ⊥) → refuse_telling m.refusal m.told ≡ judge_name system year month leap name
  name_month_refused h = refused_by m.refusal m.told false (unless_wrong (name_wrong m name) on_name) h ∙ name_in_month

  pub no_name : m.refusal ≡ 0 → outside 1 60 name ≡ true → refuse DAY ≡ judge_name system year month leap name
  no_name z w =
      wrong_place m.refusal m.told (name_wrong m name) on_name z (ap (λ b. b || leb m.length days) w) ∙ name_in_month

  pub name_past : m.refusal ≡ 0 → outside 1 60 name ≡ false → m.length ≤ days → refuse DAY ≡ judge_name system year month leap name
  name_past z w l =
      wrong_place m.refusal m.told (name_wrong m name) on_name z (ap₂ ◌||◌ w (le-leb m.length days l)) ∙ name_in_month

  pub name_right : m.refusal ≡ 0 → outside 1 60 name ≡ false → days < m.length → on_name ≡ judge_name system year month leap name
  name_right z w l =
      right_place m.refusal m.told (name_wrong m name) on_name z (ap₂ ◌||◌ w (lt-leb m.length days l)) ∙ name_in_month

  -- the same, with the days at hand
  pub name_right_after : {after : ℕ} → after ≡ days → m.refusal ≡ 0 → outside 1 60 name ≡ false → after < m.length
      → accept (m.head.0 + after) system year month leap (after + 1) ≡ judge_name system year month leap name
  name_right_after is z w l =
      ap (λ n. accept (m.head.0 + n) system year month leap (n + 1)) is ∙ name_right z w (omega arith)

-- Which judgement a kind gets, from what was read of the fields.
module _ (s : List ℕ) {j : JudgementAnswer} {system : ℕ} (system_is : system ≡ system_of s) where
  pub kind_one : {year month leap day : ℕ} → kind_of s ≡ 1 → j ≡ judge_day system year month leap day
      → year ≡ year_field s
      → month ≡ month_field s
      → leap ≡ leap_field s
      → day ≡ day_field s
      → j ≡ judge_kind s
  unfolding judge_kind
  kind_one k e year month leap day =
      e ∙ (λ i. judge_day (system_is i) (year i) (month i) (leap i) (day i)) ∙ simp (eq-eqb (kind_of s) 1 k)

  pub kind_five : {year month leap name : ℕ} → kind_of s ≡ 5 → j ≡ judge_name system year month leap name
      → year ≡ year_field s
      → month ≡ month_field s
      → leap ≡ leap_field s
      → name ≡ name_field s
      → j ≡ judge_kind s
  unfolding judge_kind
  kind_five k e year month leap name =
      e
      ∙ (λ i. judge_name (system_is i) (year i) (month i) (leap i) (name i))
      ∙ simp (ne_eqb (kind_of s) 1 (omega arith), eq-eqb (kind_of s) 5 k)

  pub kind_three : {year ordinal : ℕ} → kind_of s ≡ 3 → j ≡ judge_ordinal system year ordinal
      → year ≡ year_field s
      → ordinal ≡ ordinal_field s
      → j ≡ judge_kind s
  unfolding judge_kind
  kind_three k e year ordinal =
      e
      ∙ (λ i. judge_ordinal (system_is i) (year i) (ordinal i))
      ∙ simp (ne_eqb (kind_of s) 1 (omega arith), ne_eqb (kind_of s) 5 (omega arith), eq-eqb (kind_of s) 3 k)

  pub kind_four : {r : ℕ} → kind_of s ≡ 4 → j ≡ judge_register_day system r → r ≡ register_day_field s → j ≡ judge_kind s
  unfolding judge_kind
  kind_four k e r =
      e
      ∙ (λ i. judge_register_day (system_is i) (r i))
      ∙ simp (ne_eqb (kind_of s) 1 (omega arith), ne_eqb (kind_of s) 5 (omega arith), ne_eqb (kind_of s) 3 (omega arith))

  -- kinds 1 and 5 are refused as their month is
  pub kind_with_month : {year month leap : ℕ} {m : MonthAnswer} → HasMonth s → m ≡ month_of system year month leap
      → (m.refusal ≡ 0 → ⊥)
      → j ≡ refuse_telling m.refusal m.told
      → year ≡ year_field s
      → month ≡ month_field s
      → leap ≡ leap_field s
      → j ≡ judge_kind s
  kind_with_month {year} {month} {leap} {m} k is some e year_is month_is leap_is =
      ⊎_elim
      (λ one. kind_one one (e ∙ month_refused system year month leap (day_field s) m is some) year_is month_is leap_is refl)
      (λ five. kind_five five (e ∙ name_month_refused system year month leap (name_field s) m is some) year_is month_is leap_is refl)
      k
