use Rattle.tabled_table.proofs.Common.{◌+◌, ◌∙◌, ◌≡◌, ◌≤◌, All-lens, arith, false, length, replicate, sym, take}
use Rattle.std.proofs.lemmas.List.Sums.{count_by-le-length, length-filter}
use Rattle.tabled_table.proofs.Cleaned.{few_marks, unmarked, gathered_rows_none, gathered_rows_next, gathered_rows_even, gathered_rows_more, gathered_rows_all}
use Rattle.tabled_table.proofs.builder.columns.gather.Goals as goal

pub loop-start-init : goal.loop-start-init
loop-start-init c = record { gathered = gathered_rows_none _ _ c.requires; within = omega arith }

pub mark_columns-requires-clause-within : goal.mark_columns-requires-clause-within
mark_columns-requires-clause-within c =
    All-lens (λ n. c.loop-start.start + length (take c.min.result (replicate 1024 false)) ≤ n) c.args.columns c.loop-start.rows (omega (arith, few_marks c.min.result 1024)) (gathered_rows_even c.args.columns _ _ _ _ c.loop-start.invariant.gathered)

pub mark_columns-requires-clause-unmarked : goal.mark_columns-requires-clause-unmarked
mark_columns-requires-clause-unmarked c i within = unmarked c.min.result 1024 i

pub bring_each_forward-requires-clause-within : goal.bring_each_forward-requires-clause-within
bring_each_forward-requires-clause-within c =
    All-lens (λ n. c.loop-start.start + length c.mark_columns.new.marks ≤ n) c.args.columns c.loop-start.rows (omega (arith, few_marks c.min.result 1024, c.mark_columns.auto.marks)) (gathered_rows_even c.args.columns _ _ _ _ c.loop-start.invariant.gathered)

pub overflow_add-kept : goal.overflow_add-kept
overflow_add-kept c =
    omega (arith, few_marks c.min.result 1024, c.mark_columns.auto.marks, c.loop-start.invariant.gathered.below, count_by-le-length (λ mark. mark) c.mark_columns.new.marks)

pub loop-start-preserved : goal.loop-start-preserved
loop-start-preserved c =
    let marks = c.mark_columns.new.marks in
    let gathered = c.loop-start.invariant.gathered in
    rw (c.bring_each_forward.ensures, c.count_marks-kept.ensures, sym (length-filter (λ mark. mark) marks)) (record {
      gathered = gathered_rows_more c.args.columns marks _ _ _ _ (omega (arith, few_marks c.min.result 1024, c.mark_columns.auto.marks)) (λ k inside. c.mark_columns.ensures k inside ∙ gathered_rows_next c.args.columns _ _ k _ _ gathered) gathered;
      within = omega (arith, few_marks c.min.result 1024, c.mark_columns.auto.marks);
    })

pub returns-clause-count : goal.returns-clause-count
returns-clause-count c =
    let end : c.loop-start.start ≡ c.args.columns = omega arith in
    (rw end at c.loop-start.invariant.gathered).count

pub returns-clause-front : goal.returns-clause-front
returns-clause-front c =
    let end : c.loop-start.start ≡ c.args.columns = omega arith in
    gathered_rows_all c.args.columns _ _ _ (rw end at c.loop-start.invariant.gathered)
