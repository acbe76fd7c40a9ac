use Rattle.tabled_language.proofs.Common.{◌<◌, arith, err_from_is_err_and, length, string_bytes}
use Rattle.tabled_language.proofs.TableRows.{only_memory, row_more, word_read}
use Rattle.tabled_language.proofs.words.Words.row.Goals as goal

pub returns-in_err-text : goal.returns-in_err-text
returns-in_err-text c =
    let below : c.loop.counter < length c.args.self.now = omega (arith, c.loop-test.true, c.requires) in
    let only = only_memory c.args.self.now c.loop.self c.loop.counter c.in_err-text.field-0.0 c.loop.invariant.left below c.in_err-text.ensures in
    let p = err_from_is_err_and c.from_residual-in_err-text.result c.from_residual-in_err-text.ensures.1 in
    rw (p.1, p.2) only

pub loop-preserved : goal.loop-preserved
loop-preserved c =
    let below : c.loop.counter < length c.args.self.now = omega (arith, c.loop-test.true, c.requires) in
    let read = word_read c.args.self.now c.loop.self c.loop.counter (string_bytes c.in_ok-text.text) c.text.new.self c.loop.invariant.left below c.in_ok-text.ensures in
    record {
      texts = rw (c.in_ok-push.ensures.items, c.new.ensures) (row_more string_bytes c.args.self.now c.loop.counter c.loop.row.items c.in_ok-text.text below c.loop.invariant.texts read.0);
      left = read.1;
    }
