use mathlib.Core.Path.{◌≡◌, subst}
use native.Mathlib.Omega.{arith}
use Rattle.text.specs.Piece.{last_field}
use Rattle.text.specs.Put.{Put}
use Rattle.submerged_extinguished_pages.proofs.LineText.{widened, wrote_line}
use Rattle.submerged_extinguished_pages.proofs.line.put.Goals as goal

pub returns : goal.returns
returns c =
    let same : c.map.result ≡ c.args.found.distance = widened c.args.found.distance c.map.result c.map.ensures.cases (λ x y p. p) in
    let last : Put c.field-at.new.out c.field-at.result 12 (last_field c.args.found.distance) c.last_field.new.out c.last_field.result =
    subst (λ d. Put c.field-at.new.out c.field-at.result 12 (last_field d) c.last_field.new.out c.last_field.result) same c.last_field.ensures
    in
    (wrote_line c.args.bytes.now c.args.number c.args.found.day.0 c.args.found.distance c.numbered-at.ensures c.field-at.ensures last (omega arith), omega (arith, last.near))
