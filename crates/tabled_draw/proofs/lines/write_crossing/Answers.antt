use Rattle.tabled_draw.proofs.Common.{[], ap, bytes_in, get_or, left_inside, text_inside, ◌∙◌, ◌≡◌}
use Rattle.tabled_draw.proofs.Each.{cut-set, text-in}
use Rattle.tabled_held.proofs.Pens.{draws-as}
use Rattle.tabled_draw.proofs.lines.write_crossing.Goals as goal

pub returns : goal.returns
returns g c =
    let j = c.args.j in
    let text : c.index.result.now.now ≡ get_or (bytes_in c.args.rests.now.items) j [] = text-in c.args.rests.now.items j c.index.result.now c.requires.rest c.index.ensures in
    record {
      draws = draws-as (ap (text_inside c.args.sheet.now c.args.drawn j c.args.owner) text) c.write_inside.ensures.draws;
      rests = cut-set j c.args.owner c.args.rests.now.items c.write_inside.result c.requires.rest (c.write_inside.ensures.rest ∙ ap (left_inside j c.args.owner) text);
    }
