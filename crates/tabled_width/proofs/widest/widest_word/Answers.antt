use Rattle.std.proofs.Common.{[], List, ℕ, ◌∙◌, ◌≡◌, ap, arith, length, map, rules}
use Rattle.std.specs.List.{concat}
use Rattle.std.specs.Prelude.{chars}
use Rattle.tabled_width.proofs.PieceTexts.{chars-pieces, concat-pieces_in}
use Rattle.tabled_width.proofs.Spaces.{widest-words, widest_from}
use Rattle.tabled_width.specs.Pieces.{pieces}
use Rattle.tabled_width.proofs.widest.widest_word.Goals as goal

pub loop-piece-init : goal.loop-piece-init
loop-piece-init c =
    let given = c.into_iter-piece-iterator.ensures.into_iter_gives ∙ c.new-piece-items.ensures in
    record {
      widest = ap (λ ps. widest_from 0 0 ps) (ap (map chars) given ∙ chars-pieces c.args.text.now c.utf8.text);
      bound = omega (arith, ap (λ ps. length (concat ps)) given, ap length (concat-pieces_in c.args.text.now c.utf8.text));
    }

pub returns : goal.returns
returns c =
    let none : ◌≡◌ {A = List (List ℕ)} c.loop-piece.piece-iterator [] = search rules in
    c.max.ensures ∙ (rw none at c.loop-piece.invariant.widest) ∙ widest-words (pieces (chars c.args.text.now))
