-- What is written of a whole input: as many bytes as it has, whichever way it comes.
use Prim.Native.Nat.{ℕ, ◌+◌}
use mathlib.Core.Path.{◌≡◌, refl, ap, ap₂, sym, ◌∙◌}
use mathlib.Core.List.{List, [], ◌∷◌}
use lib.ListN.{length, length-append}
use Rattle.conversion.specs.Conversion.{renewed}
use Rattle.conversion.proofs.Ends.{renewed_length}
use Rattle.framing.specs.Framing.{framing, rest_of}
use Rattle.framing.specs.Run.{text_of, EndsThere}
use Rattle.framing.proofs.Rest.{rest_length}
use Rattle.renewal.specs.Renewal.{renewer, renewed_of}

pub records_length : (records : List (List ℕ)) → length (text_of renewed records) ≡ length (text_of (λ r. r) records)
unfolding text_of
records_length [] = refl
records_length (r ∷ records) =
    length-append (renewed r) (text_of renewed records)
    ∙ ap₂ ◌+◌ (renewed_length r) (records_length records)
    ∙ sym (length-append r (text_of (λ x. x) records))

pub same_length : (s : List ℕ) → length (renewed_of s) ≡ length s
same_length s =
    length-append (text_of renewed (framing s).records) (rest_of s)
    ∙ ap (λ n. n + length (rest_of s)) (records_length (framing s).records)
    ∙ sym (rest_length s)

-- From where it stops being records on, an input is written as it is.
pub ends_there : EndsThere renewer
ends_there r t bad = refl
