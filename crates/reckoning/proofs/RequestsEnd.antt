-- How the requests for a year's days, for one of them, for one month and for a date end, in the paper's words.
use Prim.Native.Nat.{ℕ, ◌+◌, ◌-◌, ◌<◌}
use mathlib.Core.Path.{◌≡◌, refl, subst, sym, ap, ◌∙◌}
use mathlib.Core.Bool.{true, false, true≢false}
use mathlib.Core.Logic.{inl, inr, ⊎_elim}
use native.Mathlib.Omega.{arith}
use Rattle.calendar.specs.Inside.{Inside}
use Rattle.calendar.specs.Systems.{last_system, constants_of, years_elapsed, IsRegisterDay, count_day}
use Rattle.calendar.specs.Month.{month_head}
use Rattle.calendar.specs.Year.{DayOfYear, MonthNumbered, HasLeap}
use Rattle.calendar.specs.ClosedForms.{month_of_day, first_month, year_of_month, head_of_year, month_number, leap_mark, month_cited, leap_follows}
use Rattle.calendar.specs.LeapMonth.{leap_number}
use Rattle.calendar.proofs.EachSystem.{consistent}
use Rattle.calendar.proofs.Cases.{by_bool}
use Rattle.calendar.proofs.Rising.{by_order}
use Rattle.calendar.proofs.Reckoned.{reckoned, month_from, month_before}
use Rattle.calendar.proofs.Spans.{span, span_first, span_next, in_year, within}
use Rattle.calendar.proofs.EveryCalendar.{in_its_year, years_rise, year_from, year_before}
use Rattle.calendar.proofs.LeapMonths.{leap_number_lem}
use Rattle.calendar.proofs.Laws.{numbered, leap_follows_lem, ordinary_cited, leap_cited}
use Rattle.reckoning.specs.Scope.{SystemInScope, InScope, DayInScope}
use Rattle.reckoning.specs.CommonYears.{common_year}
use Rattle.reckoning.specs.ComputedRefusals.{year_refusal, day_wrong}
use Rattle.reckoning.specs.Requests.{days_in, no_days, days_of, ordinal_day_at, no_ordinal_day, ordinal_day_in, ordinal_day_of, month_at, no_month, month_telling, month_of, date_at, date_in, date_of}
use Rattle.reckoning.specs.Outcomes as O
use Rattle.reckoning.specs.RefusalNumbers.{SYSTEM, YEAR}
use Rattle.reckoning.proofs.RefusalCases.{by_inside, by_scope}
use Rattle.reckoning.proofs.ScopeInRegister.{year_in_register}
use Rattle.reckoning.proofs.AnswerUnless.{refused_year, answered_year}
use Rattle.reckoning.proofs.YearOfDay.{by_years}
use Rattle.reckoning.proofs.RegisterLaws.{first_head, next_head_lem}
use Rattle.reckoning.proofs.MonthRequest.{number_wrong, mark_wrong, ordinary_month, leap_month, leap_lacks}

pub days_outcome : (system year : ℕ) → O.DaysOutcome system year (days_of system year)
unfolding days_of
days_outcome system year =
    by_scope system year
    (λ no_system e. O.DaysOutcome.system_refused no_system (refused_year days_in no_days system year SYSTEM e (omega arith)))
    (λ s no_year_lem e. O.DaysOutcome.year_refused s no_year_lem (refused_year days_in no_days system year YEAR e (omega arith)))
    (λ s.
    let c = constants_of system in
    let n = years_elapsed c year in
    let r = year_in_register system year s.year_inside in
    let a = first_head c n r in
    let b = next_head_lem c n r in
    subst (O.DaysOutcome system year) (answered_year days_in no_days system year s)
    (O.DaysOutcome.found
    (record { in_scope = s; span = span c (consistent system) n; not_refused = refl; head_is = omega arith; length_is = omega arith })))

-- A day of a year in scope, by its ordinal.
found_day : (system year ordinal : ℕ) → InScope system year
    → Inside 1 (head_of_year (constants_of system) (years_elapsed (constants_of system) year + 1) - head_of_year (constants_of system) (years_elapsed (constants_of system) year)) ordinal
    → O.OrdinalOutcome system year ordinal
    (ordinal_day_at (constants_of system) (head_of_year (constants_of system) (years_elapsed (constants_of system) year) + ordinal - 1))
found_day system year ordinal s i =
    let c = constants_of system in
    let ok = consistent system in
    let K = reckoned c ok in
    let n = years_elapsed c year in
    let r = year_in_register system year s.year_inside in
    let d = head_of_year c n + ordinal - 1 in
    let k = month_of_day c d in
    let from = month_from c ok (first_month c n) d (omega (arith, i)) in
    let before = month_before c ok (first_month c (n + 1)) d (omega (arith, i)) in
    O.OrdinalOutcome.found
    (record {
      in_scope = s;
      span = span c ok n;
      inside = i;
      k = k;
      numbered = numbered c ok n k (in_year c ok n k (from, before));
      not_refused = refl;
      is_day = omega (arith, i, first_head c n r);
      in_month = (K.day_from d, K.day_before d);
      place_is = refl;
    })

pub ordinal_outcome : (system year ordinal : ℕ) → O.OrdinalOutcome system year ordinal (ordinal_day_of system year ordinal)
unfolding ordinal_day_of ordinal_day_in
ordinal_outcome system year ordinal =
    let answer = ordinal_day_in ordinal in
    by_scope system year
    (λ no_system e. O.OrdinalOutcome.system_refused no_system (refused_year answer no_ordinal_day system year SYSTEM e (omega arith)))
    (λ s no_year_lem e. O.OrdinalOutcome.year_refused s no_year_lem (refused_year answer no_ordinal_day system year YEAR e (omega arith)))
    (λ s.
    let c = constants_of system in
    let n = years_elapsed c year in
    subst (O.OrdinalOutcome system year ordinal) (answered_year answer no_ordinal_day system year s)
    (by_inside 1 (head_of_year c (n + 1) - head_of_year c n) ordinal
    (λ e out. O.OrdinalOutcome.day_refused s (span c (consistent system) n) out (simp e))
    (λ e into. subst (O.OrdinalOutcome system year ordinal) (simp e) (found_day system year ordinal s into))))

-- A month of a year in scope, answered.
found_month : (system year number leap k : ℕ) → InScope system year → Inside 1 12 number → Inside 0 1 leap
    → MonthNumbered (constants_of system) (years_elapsed (constants_of system) year) number leap k
    → month_at (constants_of system) k ≡ month_of system year number leap
    → O.MonthOutcome system year number leap (month_of system year number leap)
found_month system year number leap k s a b m e =
    let c = constants_of system in
    let n = years_elapsed c year in
    let w = within c (consistent system) n k m.in_year in
    let r = (year_in_register system year s.year_inside).head k w.0 (omega arith) in
    subst (O.MonthOutcome system year number leap) e
    (O.MonthOutcome.found
    (record {
      in_scope = s;
      number_inside = a;
      mark_inside = b;
      k = k;
      numbered = m;
      not_refused = refl;
      head_is = omega arith;
      length_is = refl;
      nothing_told = refl;
    }))

month_refused : (system year number leap refusal : ℕ) → year_refusal system year ≡ refusal → 0 < refusal
    → month_of system year number leap ≡ no_month refusal
unfolding month_of
month_refused system year number leap refusal e some =
    refused_year (month_telling number leap) no_month system year refusal e some

month_answered : (system year number leap : ℕ) → InScope system year
    → month_telling number leap (constants_of system) (years_elapsed (constants_of system) year) ≡ month_of system year number leap
unfolding month_of
month_answered system year number leap s = answered_year (month_telling number leap) no_month system year s

pub month_outcome : (system year number leap : ℕ) → O.MonthOutcome system year number leap (month_of system year number leap)
month_outcome system year number leap =
    let c = constants_of system in
    let n = years_elapsed c year in
    let ok = consistent system in
    let told = leap_number c n in
    let answer = month_answered system year number leap in
    by_scope system year
    (λ no_system e. O.MonthOutcome.system_refused no_system (month_refused system year number leap SYSTEM e (omega arith)))
    (λ s no_year_lem e. O.MonthOutcome.year_refused s no_year_lem (month_refused system year number leap YEAR e (omega arith)))
    (λ s.
    by_inside 1 12 number
    (λ e no_number. O.MonthOutcome.month_refused s (inl no_number) (sym (number_wrong c n number leap told e ∙ answer s)))
    (λ e number_inside.
    by_inside 0 1 leap
    (λ f no_mark. O.MonthOutcome.month_refused s (inr no_mark) (sym (mark_wrong c n number leap told e f ∙ answer s)))
    (λ f mark_inside.
    by_order leap 1
    (λ l.
    let zero_mark : leap ≡ 0 = omega arith in
    found_month system year number leap (month_cited c n number 0) s number_inside mark_inside
    (subst (λ x. MonthNumbered c n number x (month_cited c n number 0)) (sym zero_mark) (ordinary_cited c ok n number number_inside))
    (ap (month_at c) (omega arith) ∙ ordinary_month c n number leap told e zero_mark ∙ answer s))
    (λ l.
    let one : leap ≡ 1 = omega arith in
    by_bool (leap_follows c n number)
    (λ g.
    found_month system year number leap (month_cited c n number 1) s number_inside mark_inside
    (subst (λ x. MonthNumbered c n number x (month_cited c n number 1)) (sym one) (leap_cited c ok n number number_inside g))
    (leap_month c n number leap told e f (λ z. omega arith) g ∙ answer s))
    (λ g.
    let no_leap : HasLeap c n number → ⊥ =
    λ h. true≢false (sym (leap_follows_lem c ok n number h.month number_inside.at_most h.is_leap) ∙ g)
    in
    O.MonthOutcome.leap_refused s
    (⊎_elim (λ out. out number_inside) (λ out. out mark_inside))
    (one, no_leap)
    told
    (leap_number_lem c ok n)
    (sym (leap_lacks c n number leap told e f (λ z. omega arith) g ∙ answer s)))))))

-- A register day is one of years 1 to 3000, or refused.
by_day_scope : {P : Type 0} (system r : ℕ)
    → (day_wrong (constants_of system) r ≡ true → (DayInScope system r → ⊥) → P)
    → (day_wrong (constants_of system) r ≡ false → (p : DayInScope system r) → p.day ≡ count_day (constants_of system) r → P)
    → P
by_day_scope system r out into =
    let c = constants_of system in
    let ok = consistent system in
    by_years (head_of_year c) c r
    (λ e no_day.
    out e
    (λ p.
    no_day p.day p.is_day (
      omega (arith, p.from, ap (month_head c) (span_first c ok p.first)),
      omega (arith, p.before, ap (month_head c) (span_first c ok p.past)),
    )))
    (λ e is w.
    into e
    (record {
      day = count_day c r;
      is_day = is;
      first = span c ok (years_elapsed c 1);
      past = span c ok (years_elapsed c 3001);
      from = w.0;
      before = w.1;
    })
    refl)

-- The date of a day in scope, by the closed forms.
found_date : (system r : ℕ) → SystemInScope system → (p : DayInScope system r)
    → O.DateOutcome system r (date_at (constants_of system) p.day)
found_date system r system_inside p =
    let c = constants_of system in
    let ok = consistent system in
    let K = reckoned c ok in
    let d = p.day in
    let k = month_of_day c d in
    let n = year_of_month c k in
    let early = year_from K (years_elapsed c 1) d (omega (arith, p.from, ap (month_head c) (span_first c ok p.first))) in
    let late = year_before K (years_elapsed c 3001) d (omega (arith, p.before, ap (month_head c) (span_first c ok p.past))) in
    let epoch = ok.epoch_before in
    let year = common_year c n in
    let same : n ≡ years_elapsed c year = omega arith in
    O.DateOutcome.found
    (record {
      in_scope = record { system_inside = system_inside; year_inside = record { at_least = omega arith; at_most = omega arith } };
      day_in_scope = p;
      k = k;
      numbered = subst (λ m. MonthNumbered c m (month_number c k) (leap_mark c k) k) same (numbered c ok n k (in_year c ok n k (in_its_year K k)));
      not_refused = refl;
      in_month = (K.day_from d, K.day_before d);
      day_is = refl;
    })

pub date_outcome : (system r : ℕ) → O.DateOutcome system r (date_of system r)
unfolding date_of date_in
date_outcome system r =
    by_inside 1 last_system system
    (λ e no_system. O.DateOutcome.system_refused no_system (simp e))
    (λ e system_inside.
    by_day_scope system r
    (λ f no_day. O.DateOutcome.day_refused system_inside no_day (simp (e, f)))
    (λ f day is. subst (O.DateOutcome system r) (ap (date_at (constants_of system)) is ∙ simp (e, f)) (found_date system r system_inside day)))

-- The days of a year in scope are in scope.
pub year_day_in_scope : (system year r d : ℕ) → InScope system year → IsRegisterDay (constants_of system) r d
    → DayOfYear (constants_of system) (years_elapsed (constants_of system) year) d
    → DayInScope system r
year_day_in_scope system year r d i is y =
    let c = constants_of system in
    let ok = consistent system in
    let K = reckoned c ok in
    let n = years_elapsed c year in
    let epoch = ok.epoch_before in
    let from = years_rise K {n = years_elapsed c 1} {m = n} (omega (arith, i.year_inside)) in
    let before = years_rise K {n = n + 1} {m = years_elapsed c 3001} (omega (arith, i.year_inside)) in
    record {
      day = d;
      is_day = is;
      first = span c ok (years_elapsed c 1);
      past = span c ok (years_elapsed c 3001);
      from = omega (arith, y.from, ap (month_head c) (span_first c ok y.span));
      before = omega (arith, y.before, ap (month_head c) (span_next c ok y.span));
    }
