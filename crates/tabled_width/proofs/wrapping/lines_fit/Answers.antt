use Rattle.std.proofs.Common.{[], ◌+◌, ◌<◌, ◌∙◌, ◌≡◌, List, ap, arith, false, map, rules, sym, ℕ}
use Rattle.std.proofs.lemmas.Bool.{lt-leb}
use Rattle.std.specs.Prelude.{chars}
use Rattle.tabled_width.proofs.PieceTexts.{chars-pieces}
use Rattle.tabled_width.proofs.PlainPieces.{plain-fits}
use Rattle.tabled_width.proofs.WrapFits.{fit-lines}
use Rattle.tabled_width.specs.Columns.{text_width}
use Rattle.tabled_width.specs.Pieces.{is_just}
use Rattle.tabled_width.specs.WrapSteps.{all_fit}
use Rattle.tabled_width.proofs.wrapping.lines_fit.Goals as goal

pub loop-piece-init : goal.loop-piece-init
loop-piece-init c = record {
  within = omega arith;
  same = ap (λ ps. all_fit c.args.width 0 ps) (ap (map chars) (c.into_iter-piece-iterator.ensures.into_iter_gives ∙ c.new-piece-items.ensures) ∙ chars-pieces c.args.text.now c.utf8.text);
}

pub returns : goal.returns
returns c =
    let none : ◌≡◌ {A = List (List ℕ)} c.loop-piece.piece-iterator [] = search rules in
    (rw none at c.loop-piece.invariant.same) ∙ fit-lines c.args.width (chars c.args.text.now)

pub returns-then-columns-width : goal.returns-then-columns-width
returns-then-columns-width c =
    let same = rw c.in-Some.ensures.steps at c.loop-piece.invariant.same in
    let apart : is_just 10 (chars c.in-Some.piece.now) ≡ false = sym c.is_newline.ensures ∙ c.if-is_newline.false in
    let over : c.args.width < c.loop-piece.used + text_width (chars c.in-Some.piece.now) = omega (arith, c.if-columns-width.true, c.columns_of-columns.ensures.value, c.loop-piece.invariant.within) in
    (rw (apart, lt-leb _ _ over) at same) ∙ fit-lines c.args.width (chars c.args.text.now)

pub returns-then-is_plain : goal.returns-then-is_plain
returns-then-is_plain c = plain-fits c.args.width c.args.text.now (c.is_plain.ensures.0 c.if-is_plain.true)
