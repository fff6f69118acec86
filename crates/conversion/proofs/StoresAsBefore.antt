-- A converted record stores as the old one did.
use Prim.Native.Nat.{ℕ, ◌+◌, ◌*◌, ◌^◌, ◌≤◌}
use mathlib.Core.Path.{◌≡◌, refl, subst, ap, ap₂, sym, ◌∙◌}
use mathlib.Core.Logic.{◌↔◌, inl, inr, ⊎_elim}
use mathlib.Core.List.{List, [], ◌∷◌, ◌++◌}
use native.Mathlib.Omega.{arith}
use lib.ListN.{length, drop, take-append-drop}
use Rattle.calendar.proofs.Rising.{by_order}
use Rattle.reckoning.specs.RefusalNumbers.{OUTPUT}
use Rattle.reckoning.specs.WordedRefusals.{Row, ◌when◌, FirstOf}
use Rattle.citation.specs.Record.{kind_of, system_of, kind_length, record_of}
use Rattle.citation.specs.DayCited.{elapsed_in, NamesDay, OnDate}
use Rattle.citation.specs.CitationRefusals.{TooShort, WrongKind, RetiredKind, WrongLength, HasMonth, Placed, NoRoom, content_rows, citation_rows, storing_rows, Accepted, Tells}
use Rattle.citation.specs.Store.{judge_of, refusal_of, told_of, answer_of, stored_into}
use Rattle.citation.proofs.JudgementCases.{by_equal}
use Rattle.citation.proofs.RowLaws.{Alike, first_past, first_alike, alike_back}
use Rattle.citation.proofs.TenBytes.{elements, elements_all}
use Rattle.citation.proofs.FirstRefusal.{judgement_first}
use Rattle.citation.proofs.Storing.{refusal_kept, refusal_output}
use Rattle.citation.proofs.Demands as Demands
use Rattle.conversion.specs.Conversion.{conversion_refusal, converted}
use Rattle.conversion.specs.KindTwo.{NamedDay, former_rows, FormerlyStored}
use Rattle.conversion.proofs.Cases.{Convertible, accepted}

-- Whatever the output: what storing the old record gave is what storing the converted one gives, answer and bytes.
abbrev pub StoresAsBefore : List ℕ → Type 0
StoresAsBefore s =
    (before : List ℕ) (answer : ℕ) (after : List ℕ)
    → FormerlyStored s before answer after
    ↔ ((answer ≡ answer_of (converted s) (length before)) × (after ≡ stored_into (converted s) before))

-- A record of kind 2, byte by byte.
module _ (b0 b1 b2 b3 b4 b5 b6 b7 b8 b9 : ℕ) where
  abbrev s : List ℕ
  s = b0 ∷ b1 ∷ b2 ∷ b3 ∷ b4 ∷ b5 ∷ b6 ∷ b7 ∷ b8 ∷ b9 ∷ []

  abbrev t : List ℕ
  t = converted s

  module _ (old : Convertible s) where
    five : HasMonth t
    five = inr (omega (arith, old.two))

    -- it names the same day
    names : (r : ℕ) → NamedDay s r → NamesDay t r
    names r n =
        NamesDay.by_name (omega (arith, old.two)) n.k n.d n.cited n.in_month n.is_day (omega (arith, n.bears))

    named : (r : ℕ) → NamesDay t r → NamedDay s r
    named r (NamesDay.by_day e k m d) = absurd (omega (arith, old.two))
    named r (NamesDay.by_name e k d m i p n) =
        record { k = k; d = d; cited = m; in_month = i; is_day = p; bears = omega arith }
    named r (NamesDay.by_ordinal e y d) = absurd (omega (arith, old.two))
    named r (NamesDay.by_register_day e d) = absurd (omega (arith, old.two))

    placed : (r : ℕ) → NamedDay s r → Placed t
    placed r n =
        Placed.name_in_month (omega (arith, old.two)) n.k n.d r n.cited n.in_month n.is_day (omega (arith, n.bears))

    place : Placed t → (r : ℕ) × NamedDay s r
    place (Placed.day_in_month e k m i) = absurd (omega (arith, old.two))
    place (Placed.name_in_month e k d r m i p n) =
        (r, record { k = k; d = d; cited = m; in_month = i; is_day = p; bears = omega arith })
    place (Placed.ordinal_in_year e y i) = absurd (omega (arith, old.two))
    place (Placed.day_in_scope e d) = absurd (omega (arith, old.two))

    -- the rows on what it says apply alike, and those before them not at all
    module _ (room : ℕ) where
      abbrev saying : List Row
      saying = content_rows t ++ (OUTPUT when NoRoom room ∷ [])

      alike : Alike saying (former_rows s room)
      alike = (
        refl,
        (λ w. w, λ w. w),
        (
          refl,
          (λ w. w.1, λ w. (inl five, w)),
          (
            refl,
            (λ w. w.1, λ w. (five, w)),
            (
              refl,
              (λ w. w.1, λ w. (five, w)),
              (
                refl,
                (λ w r n. w (placed r n), λ w v. let n = place v in w n.0 n.1),
                (refl, (λ w. w, λ w. w), tt),
              ),
            ),
          ),
        ),
      )

      long_enough : TooShort t → ⊥
      long_enough w = omega arith

      kind_right : WrongKind t → ⊥
      kind_right w = w (record { at_least = omega (arith, old.two); at_most = omega (arith, old.two) })

      not_retired : RetiredKind t → ⊥
      not_retired w = omega (arith, old.two)

      length_right_lem : WrongLength t → ⊥
      length_right_lem w = w (old.field ∙ sym (ap kind_length kind), sym old.field)
        where
          kind : kind_of t ≡ 5
          kind = omega (arith, old.two)

      to_former : (n : ℕ) → FirstOf (storing_rows t room) n → FirstOf (former_rows s room) n
      to_former n p =
          first_alike saying (former_rows s room) n alike
          (first_past length_right_lem (first_past not_retired (first_past kind_right (first_past long_enough p))))

      from_former : (n : ℕ) → FirstOf (former_rows s room) n → FirstOf (storing_rows t room) n
      from_former n p =
          let said = first_alike (former_rows s room) saying n (alike_back saying (former_rows s room) alike) p in
          inr (long_enough, inr (kind_right, inr (not_retired, inr (length_right_lem, said))))

    module _ (before : List ℕ) where
      abbrev room : ℕ
      room = length before

      -- what is not refused is accepted, and has room
      accepts : refusal_of t room ≡ 0 → Accepted t × (10 ≤ room)
      accepts z =
          by_equal (judge_of t).refusal 0
          (λ none.
          by_order room 10
          (λ h. absurd (omega (arith, refusal_output t room (judge_of t) refl none h)))
          (λ h. (subst (FirstOf (citation_rows t)) none (judgement_first t), h)))
          (λ some. absurd (some (sym (refusal_kept t room (judge_of t) refl some) ∙ z)))

      whole : Accepted t → 10 ≤ room → (r : ℕ) → NamesDay t r → (year month leap day : ℕ) → OnDate (system_of s) r year month leap day
          → stored_into t before ≡ record_of (system_of s) year month leap day ++ drop 10 before
      whole a h r m year month leap day d =
          sym (take-append-drop 10 (stored_into t before))
          ∙ ap₂ ◌++◌ (Demands.stores_its_date t before a h r m year month leap day d) (Demands.leaves_the_rest t before a h r m)

      -- it did so
      stored_so : FormerlyStored s before (answer_of t room) (stored_into t before)
      stored_so =
          let first = to_former room (refusal_of t room) (Demands.refusal_is_the_first t room) in
          by_equal (refusal_of t room) 0
          (λ z.
          let a = accepts z in
          let one = Demands.names_one_day t a.0 in
          let r = one.it in
          let date = Demands.has_its_date t a.0 r one.has in
          let is : answer_of t room ≡ r = Demands.answers_its_day t before a.0 a.1 r one.has in
          FormerlyStored.accepted (subst (FirstOf (former_rows s room)) z first) date.year date.month date.leap date.day
          (subst (NamedDay s) (sym is) (named r one.has))
          (subst (λ x. OnDate (system_of s) x date.year date.month date.leap date.day) (sym is) date.on)
          (whole a.0 a.1 r one.has date.year date.month date.leap date.day date.on))
          (λ some.
          FormerlyStored.refused (refusal_of t room) (told_of t) (omega arith) first (Demands.tells_the_leap_month t room)
          (sym (Demands.refused_answer t room some))
          (sym (Demands.refused_changes_nothing t before some)))

      -- and nothing else: the rules told one answer
      told_once : (number told other : ℕ) → Tells s number told → Tells s number other → told ≡ other
      told_once number told other p q =
          ⊎_elim
          (λ a. ⊎_elim (λ b. Demands.one_number_to_tell (system_of s) (elapsed_in s) told other a.1 b.1) (λ b. absurd (b.0 a.0)) q)
          (λ a. ⊎_elim (λ b. absurd (a.0 b.0)) (λ b. a.1 ∙ sym b.1) q)
          p

      only_so : (answer : ℕ) (after : List ℕ) → FormerlyStored s before answer after
          → (answer ≡ answer_of t room) × (after ≡ stored_into t before)
      only_so answer after (FormerlyStored.refused number told some first tells is left) =
          let same = Demands.no_other_refusal t room number (from_former room number first) in
          let refused : refusal_of t room ≡ 0 → ⊥ = λ z. omega arith in
          let month = told_once number told (told_of t) tells (subst (λ n. Tells s n (told_of t)) (sym same) (Demands.tells_the_leap_month t room)) in
          (is ∙ ap₂ (λ n m. n * 2 ^ 32 + m * 2 ^ 40) same month ∙ Demands.refused_answer t room refused, left ∙ Demands.refused_changes_nothing t before refused)
      only_so answer after (FormerlyStored.accepted first year month leap day n d is) =
          let a = accepts (sym (Demands.no_other_refusal t room 0 (from_former room 0 first))) in
          let m = names answer n in
          (sym (Demands.answers_its_day t before a.0 a.1 answer m), is ∙ sym (whole a.0 a.1 answer m year month leap day d))

  by_bytes : Convertible s → StoresAsBefore s
  by_bytes old before answer after = (
    only_so old before answer after,
    λ same. subst (λ x. FormerlyStored s before x after) (sym same.0) (subst (FormerlyStored s before (answer_of t (length before))) (sym same.1) (stored_so old before)),
  )

-- So it is for every record that the conversion accepts.
pub stores_as_before : (s : List ℕ) → conversion_refusal s ≡ 0 → StoresAsBefore s
unfolding elements
stores_as_before s z =
    let old = accepted s z in
    let bytes = elements_all s 10 (sym old.long) in
    subst StoresAsBefore (sym bytes) (by_bytes _ _ _ _ _ _ _ _ _ _ (subst Convertible bytes old))
