use Rattle.std.proofs.Common.{◌++◌, ◌∙◌, None, ap, arith, encode_utf8_all}
use Rattle.std.proofs.lemmas.Bool.Decides.{nat_tests}
use Rattle.std.proofs.lemmas.List.{nil_from_length}
use Rattle.std.specs.Prelude.{chars}
use Rattle.std.specs.String.{string_bytes}
use Rattle.tabled_width.proofs.PlainWraps.{put-fits, put-none, put-turns}
use Rattle.tabled_width.specs.Pieces.{pieces}
use Rattle.tabled_width.specs.Wraps.{broken}
use Rattle.tabled_width.proofs.plain_wraps.push_word.Goals as goal

pub returns-then-word-width-clause-put : goal.returns-then-word-width-clause-put
returns-then-word-width-clause-put c = λ words. put-fits c.args.width c.args.used (string_bytes c.args.out.now) c.args.word.now words c.requires.plain (string_bytes c.push_str.new.self) (omega (arith, c.if-word-width.true, c.requires.within)) (c.in_ok-push_str.ensures.bytes ∙ ap (λ bs. bs ++ c.args.word.now) c.in_ok-push.ensures.bytes)

pub returns-then-is_empty-clause-put : goal.returns-then-is_empty-clause-put
returns-then-is_empty-clause-put c = λ words. put-none c.args.width c.args.used (string_bytes c.args.out.now) c.args.word.now words c.requires.plain (nil_from_length c.args.word.now (grind (arith, nat_tests, c.is_empty.ensures, c.if-is_empty.true))) (grind (arith, nat_tests, c.is_empty.ensures, c.if-is_empty.true, c.if-word-width.false, c.requires.within))

pub returns-clause-put : goal.returns-clause-put
returns-clause-put c = λ words. put-turns c.args.width c.args.used (string_bytes c.args.out.now) c.args.word.now words c.requires.plain (string_bytes c.push_cut.new.out) c.in_ok-columns.columns (grind (arith, nat_tests, c.is_empty.ensures, c.if-is_empty.false)) (omega (arith, c.if-word-width.false, c.requires.within)) (c.in_ok-columns.ensures.put ∙ ap (λ bs. bs ++ encode_utf8_all (broken c.args.width None (pieces (chars c.args.word.now)))) c.in_ok-push-2.ensures.bytes) c.in_ok-columns.ensures.used
