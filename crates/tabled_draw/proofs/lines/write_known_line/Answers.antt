use Rattle.tabled_draw.proofs.Common.{List, [], ap, arith, encode_utf8_all, length, sym, ℕ, ◌==◌, ◌∙◌, ◌≡◌, ◌≢◌, false≢true}
use Rattle.tabled_held.proofs.Pens.{draws-bytes}
use Rattle.tabled_draw.proofs.Unmerged.{between-is}
use Rattle.tabled_draw.specs.Unmerged.{unmerged_line}
use Rattle.tabled_draw.proofs.lines.write_known_line.Goals as goal

pub returns : goal.returns
returns g c =
    let sheet = c.args.sheet.now in
    let some : sheet.between.now ≢ [] = λ none. false≢true (sym c.if-is_empty.false ∙ c.is_empty.ensures ∙ ap (λ (xs : List ℕ). length xs == 0) none) in
    let line = unmerged_line sheet.look.style sheet.rows sheet.columns c.args.i sheet.edges.now in
    let bytes : sheet.between.now ≡ encode_utf8_all line = sheet.is_between.is some ∙ ap encode_utf8_all (between-is sheet.look.style sheet.rows sheet.columns c.args.i sheet.edges.now (omega (arith, c.if-i-eq0.false)) (omega (arith, c.if-sheet-i.false))) in
    record { draws = draws-bytes bytes c.send.ensures }
