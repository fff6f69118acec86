-- What is answered from the page.
use Prim.Native.Nat.{ℕ, ◌+◌, ◌-◌}
use mathlib.Core.Path.{◌≡◌, sym, ap, subst, ◌∙◌}
use mathlib.Core.Bool.{true, false, true≢false, ◌&&◌}
use native.Mathlib.Omega.{arith}
use lib.Dec.{eqb, leb}
use Rattle.std.specs.Prelude.{Option, Some, None}
use borrow.Author.Tests.{eqb-true, eq-eqb, leb-true, le-leb}
use Rattle.calendar.specs.declared.data.Constants.{Constants}
use Rattle.calendar.specs.declared.data.RegisterDay.{RegisterDay}
use Rattle.calendar.specs.Systems.{guantian, constants_of, years_elapsed, register_day}
use Rattle.calendar.specs.Month.{month_head}
use Rattle.calendar.specs.Consistent.{Consistent}
use Rattle.calendar.specs.ClosedForms.{head_of_year, register_head}
use Rattle.calendar.proofs.Cases.{both, by_bool}
use Rattle.calendar.proofs.Spans.{span, span_first}
use Rattle.calendar.proofs.EachSystem.{consistent}
use Rattle.printed_heads.specs.PrintedHeads.{first_year, last_year, OnPage, IsHead, Says, on_page, printed_head}

-- Which years are on the page, by its test.
pub is_on : (system year : ℕ) → on_page system year ≡ true → OnPage system year
is_on system year t =
    let tests = both (eqb system 1) (leb first_year year && leb year last_year) t in
    let years = both (leb first_year year) (leb year last_year) tests.1 in
    record {
      is_guantian = eqb-true system 1 tests.0;
      year_inside = record { at_least = leb-true _ _ years.0; at_most = leb-true _ _ years.1 };
    }

tested : {system year : ℕ} → OnPage system year → on_page system year ≡ true
tested {system} p =
    simp (eq-eqb system 1 p.is_guantian, le-leb _ _ p.year_inside.at_least, le-leb _ _ p.year_inside.at_most)

-- The constants of a year on it are Guantian's.
of_guantian : {system year : ℕ} → OnPage system year → constants_of system ≡ guantian
of_guantian p = ap constants_of p.is_guantian

-- A year has one head.
head_is : (c : Constants) → Consistent c → (n r : ℕ) → IsHead c n r → r ≡ register_day c (head_of_year c n)
head_is c ok n r h = omega (arith, h.is_register_day, ap (month_head c) (span_first c ok h.span))

-- The entry of a year on the page is its head.
pub at_year : {system year r : ℕ} → OnPage system year
    → IsHead guantian (years_elapsed guantian (first_year + (year - first_year))) r → IsHead guantian (years_elapsed guantian year) r
at_year {system} {year} {r} p h =
    let there : first_year + (year - first_year) ≡ year = omega (arith, p.year_inside) in
    subst (λ a. IsHead guantian (years_elapsed guantian a) r) there h

pub answers : {system year : ℕ} {r : RegisterDay} → OnPage system year
    → IsHead guantian (years_elapsed guantian year) r.0 → Some r ≡ printed_head system year
unfolding printed_head
answers {system} {year} {r} p h =
    let head = head_is guantian (consistent 1) (years_elapsed guantian year) r.0 h in
    let of_system = ap (λ c. Some (register_head c (years_elapsed c year))) (sym (of_guantian p)) in
    ap Some (λ j. record { 0 = head j }) ∙ of_system ∙ simp (tested p)

pub is_silent : (system year : ℕ) → on_page system year ≡ false → None ≡ printed_head system year
unfolding printed_head
is_silent system year off = simp off

-- In words: no other year's head is on it, and those that are, are right.
pub says : (system year : ℕ) → Says system year (printed_head system year)
says system year =
    by_bool (on_page system year)
    (λ on.
    let p = is_on system year on in
    let n = years_elapsed guantian year in
    let head : IsHead guantian n (register_day guantian (head_of_year guantian n)) =
    record { span = span guantian (consistent 1) n; is_register_day = omega (arith, p.year_inside) }
    in
    let of_system = subst (λ c. IsHead c (years_elapsed c year) (register_day guantian (head_of_year guantian n))) (sym (of_guantian p)) head in
    subst (Says system year) (answers {r = register_head guantian n} p head) (p, of_system))
    (λ off. subst (Says system year) (is_silent system year off) (λ p. true≢false (sym (tested p) ∙ off)))

-- The words leave one answer.
pub says_only : (system year : ℕ) (p : Option RegisterDay) → Says system year p → p ≡ printed_head system year
says_only system year (Some r) s =
    answers s.0 (subst (λ c. IsHead c (years_elapsed c year) r.0) (of_guantian s.0) s.1)
says_only system year None s =
    by_bool (on_page system year) (λ on. absurd (s (is_on system year on))) (λ off. is_silent system year off)

pub answered : (system year : ℕ) {p : Option RegisterDay} → p ≡ printed_head system year → (p ≡ printed_head system year) × Says system year p
answered system year e = (e, subst (Says system year) (sym e) (says system year))

-- What is found on the page is the head of its year.
pub found_is_head : (system year : ℕ) {c : Constants} {p : Option RegisterDay} {r : RegisterDay} → c ≡ constants_of system
    → Says system year p → p ≡ Some r → r ≡ register_head c (years_elapsed c year)
found_is_head system year {r = r} e said found =
    let k = constants_of system in
    let head = head_is k (consistent system) (years_elapsed k year) r.0 (subst (Says system year) found said).1 in
    (λ j. record { 0 = head j }) ∙ ap (λ k. register_head k (years_elapsed k year)) (sym e)
