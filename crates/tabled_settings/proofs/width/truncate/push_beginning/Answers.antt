use Rattle.std.proofs.Common.{◌++◌, ◌∙◌, ◌≡◌, [], List, ap, arith, rules, ℕ}
use Rattle.std.specs.List.{concat}
use Rattle.std.specs.String.{string_bytes}
use Rattle.tabled_settings.proofs.Beginnings.{begin-done, begin-full, begin-more}
use Rattle.tabled_settings.specs.Truncates.{first_within}
use Rattle.tabled_settings.proofs.width.truncate.push_beginning.Goals as goal

pub loop-piece-init : goal.loop-piece-init
loop-piece-init c = ap (λ ps. string_bytes c.args.out.now ++ concat (first_within c.args.width ps)) (c.into_iter-piece-iterator.ensures.into_iter_gives ∙ c.new-piece-items.ensures)

pub loop-piece-preserved : goal.loop-piece-preserved
loop-piece-preserved c = begin-more c.loop-piece.left c.in-Some.piece.now c.next.new.self (string_bytes c.loop-piece.out) _ _ _ (omega (arith, c.if-columns-left.false, c.columns_of-columns.ensures.value)) c.columns_of-columns.ensures.value c.in_ok-push_str.ensures.bytes (rw c.in-Some.ensures.steps at c.loop-piece.invariant)

pub returns-then-columns-left : goal.returns-then-columns-left
returns-then-columns-left c = begin-full c.loop-piece.left c.in-Some.piece.now c.next.new.self (string_bytes c.loop-piece.out) _ (omega (arith, c.if-columns-left.true, c.columns_of-columns.ensures.value)) (rw c.in-Some.ensures.steps at c.loop-piece.invariant)

pub returns : goal.returns
returns c =
    let none : ◌≡◌ {A = List (List ℕ)} c.loop-piece.piece-iterator [] = search rules in
    begin-done c.loop-piece.left (string_bytes c.loop-piece.out) _ (rw none at c.loop-piece.invariant)
