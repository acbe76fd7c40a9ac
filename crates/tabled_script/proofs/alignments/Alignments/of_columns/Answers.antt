use Rattle.std.proofs.lemmas.List.FromFn.{map-range_with_len_more}
use Rattle.std.specs.List.{range_with_len}
use Rattle.tabled_draw.specs.declared.alignment.Alignment.{Alignment}
use Rattle.tabled_script.proofs.Common.{[], ◌++◌, ◌∙◌, ◌∷◌, ◌≡◌, List, ap, arith, map, map_grid, sym}
use Rattle.tabled_script.specs.Aligners.{alignment_by, rule_in}
use Rattle.tabled_script.specs.declared.alignments.AlignmentRule.{AlignmentRule}
use Rattle.tabled_script.proofs.alignments.Alignments.of_columns.Goals as goal

pub loop-column-preserved : goal.loop-column-preserved
loop-column-preserved g c =
    let texts = map_grid g.R.Cell.CellText.text_of (g.R.GridStore.grid c.args.records.now) in
    let aligned = alignment_by (map rule_in c.in-Rules.rules.items) texts in
    let column = c.loop-column.column in
    let said : c.alignment_by.result ≡ aligned column =
    c.alignment_by.ensures ∙ ap (λ (rules : List AlignmentRule). alignment_by (map rule_in rules) texts column) c.deref-in-loop-column.ensures.value in
    record {
      items = c.in_ok-push-in-Rules.ensures.items
          ∙ ap (λ (xs : List Alignment). xs ++ c.alignment_by.result ∷ []) c.loop-column.invariant.items
          ∙ ap (λ (x : Alignment). map aligned (range_with_len 0 column) ++ x ∷ []) said
          ∙ sym (map-range_with_len_more aligned 0 column column (omega arith));
      few = omega (arith, c.loop-column-test.true, c.count_columns-column-end.ensures.columns);
    }
