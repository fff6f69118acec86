-- The options that every program has.
use Rattle.std.specs.Prelude.{ℕ, ◌≡◌, List, [], ◌∷◌}
use Rattle.arguments.specs.declared.options.Wish.{Wish}
use Rattle.arguments.specs.declared.options.Wish.TheVariants.{Help, Version, Other}

-- "--help"
abbrev pub help : List ℕ
help = 45 ∷ 45 ∷ 104 ∷ 101 ∷ 108 ∷ 112 ∷ []

-- "--version"
abbrev pub version : List ℕ
version = 45 ∷ 45 ∷ 118 ∷ 101 ∷ 114 ∷ 115 ∷ 105 ∷ 111 ∷ 110 ∷ []

-- An argument asks for help or for the version just where it is that word.
abbrev pub Reads : List ℕ → Wish → Type 0
Reads text Help = text ≡ help
Reads text Version = text ≡ version
Reads text Other = (text ≡ help → ⊥) × (text ≡ version → ⊥)
