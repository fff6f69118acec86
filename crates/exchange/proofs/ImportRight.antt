-- Every import ends as the paper says.
use Prim.Native.Nat.{ℕ, ◌+◌, ◌*◌, ◌^◌, ◌<◌}
use mathlib.Core.Path.{◌≡◌, refl, ap, subst}
use mathlib.Core.Logic.{◌⊎◌, inl, inr, ⊎_elim}
use mathlib.Core.List.{List}
use native.Mathlib.Omega.{arith}
use native.Mathlib.Decide.{ℕ_discrete}
use Rattle.std.specs.Prelude.{Result, Ok, Err}
use lib.Dec.{T}
use lib.ListN.{length}
use lib.Ieee.{Float, binary64}
use lib.Ieee.Bits.{of_bits-fits}
use borrow.Author.Tests.{lt-ltb, le-ltb, eq-eqb, ne_eqb}
use Rattle.calendar.proofs.Rising.{by_order}
use Rattle.reckoning.specs.declared.refusal.Refusal.{Refusal}
use Rattle.reckoning.specs.declared.refusal.Refusal.TheVariants as Refused
use Rattle.reckoning.specs.RefusalNumbers.{number_of}
use Rattle.reckoning.specs.WordedRefusals.{FirstOf}
use Rattle.reckoning.proofs.ToldCases.{number_some}
use Rattle.day_fraction.specs.Settling.{is_fraction, count_of}
use Rattle.day_fraction.proofs.Ends.{settled_fraction, settled_none}
use Rattle.day_fraction.proofs.NoFractions.{by_fraction, never_both}
use Rattle.day_fraction.proofs.Largest.{count_is_largest}
use Rattle.exchange.specs.declared.data.Time.TheVariants.{Fraction, Parts}
use Rattle.exchange.specs.declared.data.Imported.{Imported}
use Rattle.exchange.specs.Systems.{HasExchange, parts_in_day}
use Rattle.exchange.specs.Row.{day_field, tag_field, pattern_field, fraction_field, parts_field, filler_field}
use Rattle.exchange.specs.ExchangeRefusals.{ZeroFiller, WrongTime, import_refusals}
use Rattle.exchange.specs.Import.{row_taken, answer_with, fraction_answer, parts_answer, import_of, import_answer, refusal_told}
use Rattle.exchange.specs.Outcomes.{ImportOutcome}
use Rattle.exchange.proofs.DayParts.{by_exchange}
use Rattle.exchange.proofs.Importing.{wrong_length, no_exchange, tagged_1, tagged_2, no_tag}

module _ (system : ℕ) (s : List ℕ) where
  abbrev D : ℕ
  D = parts_in_day system

  abbrev f : Float
  f = fraction_field s

  -- With what is told to C.
  abbrev Ends : Result Imported Refusal → Type 0
  Ends i = ImportOutcome system s i (import_answer i)

  refused : (refusal : Refusal) → FirstOf (import_refusals system s) (number_of refusal) → Ends (Err refusal)
  refused refusal first =
      let told : number_of refusal * 2 ^ 32 ≡ import_answer (Err refusal) = omega arith in
      subst (ImportOutcome system s (Err refusal)) told (ImportOutcome.refused refusal (number_some refusal) first)

  -- A row of thirteen bytes, by a system that has an exchange.
  module _ (long : length s ≡ 13) (has : HasExchange system) (some : 0 < D) (few : D < 2 ^ 16) where
    not_0 : D ≡ 0 → ⊥
    not_0 z = omega arith

    -- With a tag, it is refused TIME or by none.
    refused_time : (tag_field s ≡ 1) ⊎ (tag_field s ≡ 2) → WrongTime D s → Ends (Err Refused.Time)
    refused_time tagged wrong =
        refused Refused.Time
        (inr (λ v. v long, inr (λ v. v has, inr (λ v. v tagged, inl (refl, wrong)))))

    by_none : (tag_field s ≡ 1) ⊎ (tag_field s ≡ 2) → (WrongTime D s → ⊥) → FirstOf (import_refusals system s) 0
    by_none tagged right = inr (λ v. v long, inr (λ v. v has, inr (λ v. v tagged, inr (right, refl))))

    fraction_ends : tag_field s ≡ 1 → Ends (fraction_answer D s)
    fraction_ends tag =
        by_fraction f
        (λ t.
        subst Ends (ap (answer_with (day_field s) (Fraction f)) (settled_fraction D f some t))
        (told_fraction t))
        (λ none.
        subst Ends (ap (answer_with (day_field s) (Fraction f)) (settled_none D f (λ t. never_both f t none)))
        (refused_time (inl tag) (inl (tag, none))))
      where
        told_fraction : T (is_fraction f) → Ends (Ok (row_taken (day_field s) (Fraction f) (count_of D f)))
        told_fraction t =
            let row : Result Imported Refusal = Ok (row_taken (day_field s) (Fraction f) (count_of D f)) in
            let told : day_field s + count_of D f * 2 ^ 40 + 1 * 2 ^ 56 ≡ import_answer row = omega arith in
            subst (ImportOutcome system s row) told
            (ImportOutcome.fraction
            (by_none (inl tag) (⊎_elim (λ a. never_both f t a.1) (λ b. omega (arith, b.0))))
            tag
            (count_of D f)
            (count_is_largest D some few f (of_bits-fits binary64 (pattern_field s)) t))

    parts_end : tag_field s ≡ 2 → Ends (parts_answer D s)
    parts_end tag =
        elim (ℕ_discrete (filler_field s) 0) [
          | yes zero ↦
              by_order (parts_field s) D
              (λ below.
              subst Ends (simp (eq-eqb (filler_field s) 0 zero, lt-ltb (parts_field s) D below))
              (told_parts zero below))
              (λ past.
              subst Ends (simp (eq-eqb (filler_field s) 0 zero, le-ltb (parts_field s) D past))
              (refused_time (inr tag) (inr (tag, inl past))))
          | no filled ↦
              subst Ends (simp (ne_eqb (filler_field s) 0 filled))
              (refused_time (inr tag) (inr (tag, inr (λ zeros. filled (empty zeros)))))
        ]
      where
        empty : ZeroFiller s → filler_field s ≡ 0
        empty zeros = omega (arith, zeros.0, zeros.1, zeros.2, zeros.3, zeros.4, zeros.5)

        right : filler_field s ≡ 0 → parts_field s < D → WrongTime D s → ⊥
        right zero below wrong =
            ⊎_elim
            (λ a. omega (arith, a.0))
            (λ b. ⊎_elim (λ past. omega arith) (λ some. some (omega arith, omega arith, omega arith, omega arith, omega arith, omega arith)) b.1)
            wrong

        told_parts : filler_field s ≡ 0 → parts_field s < D → Ends (Ok (row_taken (day_field s) (Parts (parts_field s)) (parts_field s)))
        told_parts zero below =
            let row : Result Imported Refusal = Ok (row_taken (day_field s) (Parts (parts_field s)) (parts_field s)) in
            let told : day_field s + parts_field s * 2 ^ 40 + 2 * 2 ^ 56 ≡ import_answer row = omega arith in
            subst (ImportOutcome system s row) told (ImportOutcome.parts (by_none (inr tag) (right zero below)) tag)

  -- Any bytes.
  pub import_ends : ImportOutcome system s (import_of system s) (import_answer (import_of system s))
  import_ends =
      elim (ℕ_discrete (length s) 13) [
        | no other ↦
            subst Ends (wrong_length system s other) (refused Refused.Length (inl (refl, other)))
        | yes long ↦
            by_exchange system
            (λ has some few.
            let not_0 = not_0 long has some few in
            elim (ℕ_discrete (tag_field s) 1) [
              | yes one ↦ subst Ends (tagged_1 system s long not_0 one) (fraction_ends long has some few one)
              | no not_1 ↦
                  elim (ℕ_discrete (tag_field s) 2) [
                    | yes two ↦ subst Ends (tagged_2 system s long not_0 not_1 two) (parts_end long has some few two)
                    | no not-2 ↦
                        subst Ends (no_tag system s long not_0 not_1 not-2)
                        (refused Refused.Kind
                        (inr (λ v. v long, inr (λ v. v has, inl (refl, ⊎_elim not_1 not-2)))))
                  ]
            ])
            (λ never z.
            subst Ends (no_exchange system s long z)
            (refused Refused.System (inr (λ v. v long, inl (refl, never)))))
      ]

-- So the number told is that of the first refusal that applies, and 0 where none does.
told_first : {system : ℕ} {s : List ℕ} {i : Result Imported Refusal} {answer : ℕ} → ImportOutcome system s i answer → FirstOf (import_refusals system s) (refusal_told i)
told_first (ImportOutcome.refused refusal some first) = first
told_first (ImportOutcome.fraction first tag count largest) = first
told_first (ImportOutcome.parts first tag) = first

pub import_refusal_is_the_first : (system : ℕ) (s : List ℕ) → FirstOf (import_refusals system s) (refusal_told (import_of system s))
import_refusal_is_the_first system s = told_first (import_ends system s)
