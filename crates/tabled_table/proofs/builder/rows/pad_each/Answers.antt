use Rattle.tabled_table.proofs.Common.{◌∙◌, arith, on_err, sym, texts_taken}
use Rattle.tabled_table.proofs.Padded.{padded_all}
use Rattle.tabled_table.proofs.builder.rows.pad_each.Goals as goal

pub returns-then-columns-from-clause-ok : goal.returns-then-columns-from-clause-ok
returns-then-columns-from-clause-ok c = sym (padded_all c.args.from c.args.columns _ _ (omega arith) c.requires)

pub returns-then-is_err-clause-err : goal.returns-then-is_err-clause-err
returns-then-is_err-clause-err c = on_err c.try_pad_each-padded.result (texts_taken _ _ c.args.from c.truncate_each.ensures ∙ c.try_pad_each-padded.ensures.front c.args.from c.requires)
