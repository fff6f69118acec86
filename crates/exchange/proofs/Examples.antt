-- Rows and answers, computed.
use Prim.Native.Nat.{ℕ, ◌+◌, ◌*◌, ◌^◌}
use mathlib.Core.Path.{◌≡◌, refl, sym, ap, ◌∙◌}
use mathlib.Core.Logic.{inl}
use mathlib.Core.List.{List, [], ◌∷◌, ◌++◌, map}
use native.Mathlib.Omega.{arith}
use lib.ListN.{length, replicate}
use lib.Ieee.{of_int, div, to_bits, of_bits, le, lt}
use Rattle.std.specs.Prelude.{Some}
use Rattle.day_fraction.specs.Settling.{is_fraction, settled_of}
use Rattle.day_fraction.proofs.Examples.{guantian_settles}
use Rattle.exchange.specs.declared.data.Time.TheVariants.{Fraction}
use Rattle.exchange.specs.Row.{day_field, tag_field, fraction_field}
use Rattle.exchange.specs.Export.{export_refusal, export_answer, exported_into}
use Rattle.exchange.specs.Import.{answer_with, import_of, import_answer}
use Rattle.exchange.proofs.Importing.{tagged_1}
use Rattle.exchange.proofs.RowsBack.{row_comes_back}

-- Register day 2120808, and half a day of Guantian as a fraction and as a count, 6,015 parts.
abbrev day : List ℕ
day = 0x68 ∷ 0x5C ∷ 0x20 ∷ 0x00 ∷ []

abbrev half : List ℕ
half = 0x00 ∷ 0x00 ∷ 0x00 ∷ 0x00 ∷ 0x00 ∷ 0x00 ∷ 0xE0 ∷ 0x3F ∷ []

abbrev count : List ℕ
count = 0x7F ∷ 0x17 ∷ 0x00 ∷ 0x00 ∷ 0x00 ∷ 0x00 ∷ 0x00 ∷ 0x00 ∷ []

-- One part of Guantian on register day 67305985: a row of which most bytes differ.
abbrev one_part : List ℕ
one_part = 0x01 ∷ 0x02 ∷ 0x03 ∷ 0x04 ∷ 1 ∷ 0x8F ∷ 0x22 ∷ 0x2C ∷ 0x8D ∷ 0x75 ∷ 0xCA ∷ 0x15 ∷ 0x3F ∷ []

-- Rows that are exported, in front of what the output held.
pub half_exported : exported_into 1 2120808 6015 (replicate 14 0xA5) ≡ day ++ (1 ∷ half) ++ (0xA5 ∷ [])
unfolding exported_into export_refusal to_bits of_int div
half_exported = refl

pub one_part_exported : exported_into 1 67305985 1 (replicate 13 0) ≡ one_part
unfolding exported_into export_refusal to_bits of_int div
one_part_exported = refl

-- Answers of an export by system, parts, small units and room: with none and with some cut off; each refusal with the next;
-- other systems.
pub export_answers : export_answer 1 6015 0 13 ∷ export_answer 2 7289 3 13
    ∷ export_answer 3 12_030 1 12 ∷ export_answer 1 12_030 1 12 ∷ export_answer 2 7290 0 13 ∷ export_answer 1 12_029 1 12
    ∷ export_answer 0 0 0 13 ∷ export_answer 5 0 0 13 ∷ export_answer 257 0 0 13 ∷ []
    ≡ 0 ∷ 1 ∷ 17179869184 ∷ 51539607552 ∷ 51539607552 ∷ 34359738368 ∷ 17179869184 ∷ 17179869184 ∷ 17179869184 ∷ []
unfolding export_answer export_refusal
export_answers = refl

-- Fractions of counts, imported,
pub half_imported : import_answer (import_of 1 (day ++ (1 ∷ half))) ≡ 78671156481121384
unfolding to_bits of_int div
half_imported = ap import_answer (row_comes_back 1 2120808 6015 (inl refl) (omega arith) (omega arith))

pub one_part_imported : import_answer (import_of 1 one_part) ≡ 72058693616861697
unfolding to_bits of_int div
one_part_imported = ap import_answer (row_comes_back 1 67305985 1 (inl refl) (omega arith) (omega arith))

-- and others: negative zero, the smallest float, and the last one below one.
settled_answer : (s : List ℕ) (count : ℕ) → length s ≡ 13 → tag_field s ≡ 1 → settled_of 12_030 (fraction_field s) ≡ Some count
    → import_answer (import_of 1 s) ≡ day_field s + 2 ^ 40 * count + 2 ^ 56
settled_answer s count long tag is =
    ap import_answer
    (sym (tagged_1 1 s long (λ z. omega arith) tag) ∙ ap (answer_with (day_field s) (Fraction (fraction_field s))) is)
    ∙ omega arith

-- A row of that day with such a time.
abbrev timed : List ℕ → List ℕ
timed time = day ++ (1 ∷ time)

pub minus_zero_imported : import_answer (import_of 1 (timed (0x00 ∷ 0x00 ∷ 0x00 ∷ 0x00 ∷ 0x00 ∷ 0x00 ∷ 0x00 ∷ 0x80 ∷ [])))
    ≡ 72057594040048744
minus_zero_imported = settled_answer (timed _) 0 refl refl guantian_settles.1.0

pub smallest_imported : import_answer (import_of 1 (timed (0x01 ∷ 0x00 ∷ 0x00 ∷ 0x00 ∷ 0x00 ∷ 0x00 ∷ 0x00 ∷ 0x00 ∷ [])))
    ≡ 72057594040048744
smallest_imported = settled_answer (timed _) 0 refl refl guantian_settles.1.1.0

pub last_imported : import_answer (import_of 1 (timed (0xFF ∷ 0xFF ∷ 0xFF ∷ 0xFF ∷ 0xFF ∷ 0xFF ∷ 0xEF ∷ 0x3F ∷ [])))
    ≡ 85283619410566248
last_imported = settled_answer (timed _) 12_029 refl refl guantian_settles.1.1.1.1.1.1.1.1.1.0

-- Counts: half a day, none and the last.
pub counts_imported : map import_answer
    (import_of 1 (day ++ (2 ∷ count))
    ∷ import_of 1 (day ++ (2 ∷ replicate 8 0x00))
    ∷ import_of 1 (day ++ (2 ∷ 0xFD ∷ 0x2E ∷ replicate 6 0x00))
    ∷ [])
    ≡ 150728750519049320 ∷ 144115188077976680 ∷ 157341213448494184 ∷ []
unfolding import_of
counts_imported = refl

-- Refused, each with what would be refused next: a length, systems, tags,
pub rows_refused : map import_answer
    (import_of 3 (day ++ (3 ∷ half) ++ (0 ∷ []))
    ∷ import_of 1 (day ++ (1 ∷ 0xE0 ∷ 0x3F ∷ []))
    ∷ import_of 3 (day ++ (3 ∷ half))
    ∷ import_of 0 (day ++ (1 ∷ half))
    ∷ import_of 5 (day ++ (1 ∷ half))
    ∷ import_of 257 (day ++ (1 ∷ half))
    ∷ import_of 1 (day ++ (0 ∷ 0x00 ∷ 0x00 ∷ 0x00 ∷ 0x00 ∷ 0x00 ∷ 0x00 ∷ 0xF8 ∷ 0x7F ∷ []))
    ∷ import_of 1 (day ++ (3 ∷ half))
    ∷ import_of 1 (day ++ (129 ∷ half))
    ∷ import_of 1 (day ++ (130 ∷ count))
    ∷ import_of 1 (day ++ (255 ∷ half))
    ∷ [])
    ≡ 12884901888 ∷ 12884901888 ∷ 17179869184 ∷ 17179869184 ∷ 17179869184 ∷ 17179869184
    ∷ 8589934592 ∷ 8589934592 ∷ 8589934592 ∷ 8589934592 ∷ 8589934592 ∷ []
unfolding import_of
rows_refused = refl

-- and times: one, a half below zero, the float next below zero, both infinities, and two that are not numbers; the parts of a
-- day by either system; and a filler.
pub times_refused : map import_answer
    (import_of 2 (timed (0x00 ∷ 0x00 ∷ 0x00 ∷ 0x00 ∷ 0x00 ∷ 0x00 ∷ 0xF0 ∷ 0x3F ∷ []))
    ∷ import_of 1 (timed (0x00 ∷ 0x00 ∷ 0x00 ∷ 0x00 ∷ 0x00 ∷ 0x00 ∷ 0xE0 ∷ 0xBF ∷ []))
    ∷ import_of 1 (timed (0x01 ∷ 0x00 ∷ 0x00 ∷ 0x00 ∷ 0x00 ∷ 0x00 ∷ 0x00 ∷ 0x80 ∷ []))
    ∷ import_of 1 (timed (0x00 ∷ 0x00 ∷ 0x00 ∷ 0x00 ∷ 0x00 ∷ 0x00 ∷ 0xF0 ∷ 0x7F ∷ []))
    ∷ import_of 1 (timed (0x00 ∷ 0x00 ∷ 0x00 ∷ 0x00 ∷ 0x00 ∷ 0x00 ∷ 0xF0 ∷ 0xFF ∷ []))
    ∷ import_of 1 (timed (0x00 ∷ 0x00 ∷ 0x00 ∷ 0x00 ∷ 0x00 ∷ 0x00 ∷ 0xF8 ∷ 0x7F ∷ []))
    ∷ import_of 1 (timed (0x01 ∷ 0x00 ∷ 0x00 ∷ 0x00 ∷ 0x00 ∷ 0x00 ∷ 0xF0 ∷ 0xFF ∷ []))
    ∷ import_of 1 (day ++ (2 ∷ 0xFE ∷ 0x2E ∷ replicate 6 0x00))
    ∷ import_of 2 (day ++ (2 ∷ 0x7A ∷ 0x1C ∷ replicate 6 0x00))
    ∷ import_of 2 (day ++ (2 ∷ 0x00 ∷ 0x00 ∷ 0x00 ∷ 0x00 ∷ 0x00 ∷ 0x00 ∷ 0x00 ∷ 0x01 ∷ []))
    ∷ [])
    ≡ replicate 10 51539607552
unfolding import_of settled_of is_fraction of_bits le lt
times_refused = refl
