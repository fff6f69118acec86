-- Months: their days, the middle qi that they hold, their numbers and leap marks. Month k begins with mean new moon k.
use Rattle.std.specs.Prelude.{ℕ, zero, suc, ◌+◌, ◌*◌, ◌-◌, ◌/◌, ◌%◌, ◌≤◌, ◌<◌, ◌≡◌, ◌⊎◌, cond, List, [], ◌∷◌, ◌++◌, eqb}
use Rattle.calendar.specs.declared.data.Constants.{Constants}
use Rattle.calendar.specs.Steps.{day_of}
use Rattle.calendar.specs.Qi.{qi}

-- Reckoning, mean new moon: k times M parts from the epoch.
abbrev pub new_moon : Constants → ℕ → ℕ
new_moon c k = k * c.month

-- A month's head is its first day: the new moon's count day.
abbrev pub month_head : Constants → ℕ → ℕ
month_head c k = new_moon c k / c.lunar

-- Paper 02, Q-9, the new moon's remainder: what is left after whole days, in the moon's parts.
abbrev pub new_moon_remainder : Constants → ℕ → ℕ
new_moon_remainder c k = new_moon c k % c.lunar

-- Reckoning, the days of month k: from the day of its new moon on, and before that of the next.
abbrev pub InMonth : Constants → ℕ → ℕ → Type 0
InMonth c k d = (month_head c k ≤ d) × (d < month_head c (k + 1))

-- How many days it has.
abbrev pub month_length : Constants → ℕ → ℕ
month_length c k = month_head c (k + 1) - month_head c k

-- The day of a month by its place in it, from 1.
abbrev pub day_of_month : Constants → ℕ → ℕ → ℕ
day_of_month c k place = month_head c k + place - 1

-- Even qi are middle qi: middle qi j of year n, j from 0 to 11, is its qi 2 j.
abbrev pub middle_qi : Constants → ℕ → ℕ → ℕ
middle_qi c n j = qi c n (2 * j)

-- Paper 02, Q-2, held middle qi: month k holds middle qi j of year n when the qi's day is one of the month's days.
abbrev pub Holds : Constants → ℕ → ℕ → ℕ → Type 0
Holds c k n j = InMonth c k (day_of c c.units (middle_qi c n j))

-- Month k holds a middle qi, of whichever year.
pub record HoldsSome (c : Constants) (k : ℕ) : Type 0 where
  pub year : ℕ
  pub index : ℕ
  pub is_middle : index < 12
  pub holds : Holds c k year index

-- Month k lacks a middle qi: it holds none of any year. Such a month is leap.
abbrev pub Lacks : Constants → ℕ → Type 0
Lacks c k = HoldsSome c k → ⊥

-- A month that holds middle qi 2j has number 11, 12, 1, 2 .. 10, in the order of j = 0 to 11.
abbrev pub number_of : ℕ → ℕ
number_of j = (j + 10) % 12 + 1

-- The number that month k bears: that of the middle qi it holds; if leap, that of the month before it.
pub data Bears (c : Constants) : ℕ → ℕ → Type 0 where
  ordinary : {k m : ℕ} → (h : HoldsSome c k) → m ≡ number_of h.index → Bears c k m
  leap : {k l m : ℕ} → l ≡ k + 1 → Lacks c l → Bears c k m → Bears c l m

-- The leap mark of month k: 1 if it lacks a middle qi, 0 if it holds one.
abbrev pub Marked : Constants → ℕ → ℕ → Type 0
Marked c k mark = ((mark ≡ 0) × HoldsSome c k) ⊎ ((mark ≡ 1) × Lacks c k)

-- Paper 02, Q-9, a mark that a month holds no middle qi. The number is ours, and is no index.
abbrev pub none_held : ℕ
none_held = 255

-- What is told of the middle qi of year n that month k holds: its index, 0 to 11; the mark if the month lacks one.
abbrev pub HeldTold : Constants → ℕ → ℕ → ℕ → Type 0
HeldTold c k n told = ((told < 12) × Holds c k n told) ⊎ ((told ≡ none_held) × Lacks c k)

-- With `told i` told of month i, from 0: the indexes told of so many months, in order; the mark is passed over.
unfoldable pub indexes_told : (ℕ → ℕ) → ℕ → List ℕ
indexes_told told zero = []
indexes_told told (suc i) = indexes_told told i ++ cond (eqb (told i) none_held) [] (told i ∷ [])
