use Rattle.tabled_language.proofs.Common.{◌∙◌}
use Rattle.tabled_language.proofs.LineWords.{operator_boundary, tested}
use Rattle.tabled_language.proofs.line_words.row_test.Goals as goal

pub split_at-requires : goal.split_at-requires
split_at-requires c = rw c.operator_index.ensures (operator_boundary c.args.word.now)
