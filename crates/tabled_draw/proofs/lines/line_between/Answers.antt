use Rattle.std.proofs.Common.{rules}
use Rattle.tabled_draw.proofs.Common.{ap, arith, encode_utf8_all, sym, ◌∙◌, ◌≡◌}
use Rattle.tabled_draw.proofs.Unmerged.{between-is}
use Rattle.tabled_draw.specs.Unmerged.{unmerged_line}
use Rattle.tabled_draw.proofs.lines.line_between.Goals as goal

pub returns : goal.returns
returns c =
    let sheet = c.args.sheet.now in
    let bytes : c.write_first_line_between.new.writer.items ≡ encode_utf8_all (unmerged_line sheet.look.style sheet.rows sheet.columns 1 sheet.edges.now) = search rules in
    record { is = λ some. bytes ∙ ap encode_utf8_all (sym (between-is sheet.look.style sheet.rows sheet.columns 1 sheet.edges.now (omega arith) (omega (arith, c.if-sheet-lt3.false)))) }
