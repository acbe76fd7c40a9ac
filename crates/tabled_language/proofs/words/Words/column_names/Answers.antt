use Rattle.tabled_language.proofs.Common.{[], ◌<◌, ◌∙◌, ◌≡◌, Ok, OutOfMemory, Some, ap, arith, eqb-true, inl, inr, length, length-map, map, map-append, refl, sym}
use Rattle.tabled_language.proofs.AllTold.{all_are_told, asked_by, first_read, lines_asked, lines_missing, lines_read, no_items, no_words, none_told, one_told, some_items, columns_together}
use Rattle.tabled_language.proofs.Asking.{handed_on}
use Rattle.tabled_language.specs.LineNames.{columns_of_word, columns_told, reads_named_lines}
use Rattle.tabled_language.specs.Parsing.{column_lines}
use Rattle.tabled_settings.specs.Named.{all_columns_named}
use Rattle.tabled_language.proofs.words.Words.column_names.Goals as goal

pub loop-alloc-init : goal.loop-alloc-init
loop-alloc-init c = record { told = rw c.new-names.ensures.items (none_told columns_told c.args.self.now); asked = inl refl }

pub returns-in_err-column_name : goal.returns-in_err-column_name
returns-in_err-column_name c =
    let here = first_read c.loop-alloc.self c.word.new.self c.in_ok-word.word.now c.in_ok-word.ensures in
    let tells : columns_told c.in_ok-word.word.now ≡ Some (columns_of_word c.in_ok-word.word.now) = refl in
    handed_on all_columns_named (reads_named_lines columns_told) c.args.self.now c.from_residual-in_err-column_name.result c.word.new.self OutOfMemory c.from_residual-in_err-column_name.ensures.1
    (lines_asked columns_told c.args.self.now (asked_by columns_told c.args.self.now c.loop-alloc.self c.word.new.self c.in_ok-word.word.now (columns_of_word c.in_ok-word.word.now) here tells c.loop-alloc.invariant.asked))

pub loop-alloc-smaller : goal.loop-alloc-smaller
loop-alloc-smaller c =
    let here = first_read c.loop-alloc.self c.word.new.self c.in_ok-word.word.now c.in_ok-word.ensures in
    let counts = ap length here in
    omega (arith, counts)

pub loop-alloc-preserved : goal.loop-alloc-preserved
loop-alloc-preserved c =
    let here = first_read c.loop-alloc.self c.word.new.self c.in_ok-word.word.now c.in_ok-word.ensures in
    let tells : columns_told c.in_ok-word.word.now ≡ Some (column_lines c.in_ok-column_name.field-0) = ap Some (sym c.in_ok-column_name.ensures) in
    record {
      told = rw (c.in_ok-push.ensures.items, map-append) (one_told columns_told c.args.self.now c.word.new.self (map column_lines c.loop-alloc.names.items) c.in_ok-word.word.now (column_lines c.in_ok-column_name.field-0) tells (rw here at c.loop-alloc.invariant.told));
      asked = inr (asked_by columns_told c.args.self.now c.loop-alloc.self c.word.new.self c.in_ok-word.word.now (column_lines c.in_ok-column_name.field-0) here tells c.loop-alloc.invariant.asked);
    }

pub returns-in_err-push : goal.returns-in_err-push
returns-in_err-push c =
    let here = first_read c.loop-alloc.self c.word.new.self c.in_ok-word.word.now c.in_ok-word.ensures in
    let tells : columns_told c.in_ok-word.word.now ≡ Some (columns_of_word c.in_ok-word.word.now) = refl in
    handed_on all_columns_named (reads_named_lines columns_told) c.args.self.now c.from_residual-in_err-push.result c.word.new.self OutOfMemory c.from_residual-in_err-push.ensures.1
    (lines_asked columns_told c.args.self.now (asked_by columns_told c.args.self.now c.loop-alloc.self c.word.new.self c.in_ok-word.word.now (columns_of_word c.in_ok-word.word.now) here tells c.loop-alloc.invariant.asked))

pub returns-then-is_empty : goal.returns-then-is_empty
returns-then-is_empty c =
    let end = no_words c.loop-alloc.self (omega (arith, c.loop-alloc-test.false, c.left.ensures)) in
    let none = no_items c.loop-alloc.names (sym c.is_empty.ensures ∙ c.if-is_empty.true) in
    rw c.into.ensures (lines_missing columns_told c.args.self.now (rw (end, none) at c.loop-alloc.invariant.told))

pub returns : goal.returns
returns c =
    let end = no_words c.loop-alloc.self (omega (arith, c.loop-alloc-test.false, c.left.ensures)) in
    let items = c.loop-alloc.names.items in
    let some : 0 < length (map column_lines items) = omega (arith, length-map items column_lines, some_items c.loop-alloc.names (sym c.is_empty.ensures ∙ c.if-is_empty.false)) in
    rw (c.new.ensures, end) (lines_read columns_told c.args.self.now (map column_lines items) some (all_are_told columns_told c.args.self.now (map column_lines items) (rw end at c.loop-alloc.invariant.told)) ∙ ap (λ lines. Ok (lines, [])) (columns_together items))
