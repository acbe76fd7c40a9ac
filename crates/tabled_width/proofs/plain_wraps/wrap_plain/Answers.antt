use Rattle.std.proofs.Common.{◌++◌, ◌∙◌, ap, arith, encode_utf8_all, false, sym, true}
use Rattle.std.specs.Prelude.{chars}
use Rattle.std.specs.String.{string_bytes}
use Rattle.tabled_width.proofs.PlainPieces.{plain-fits}
use Rattle.tabled_width.proofs.PlainWraps.{wrapped-plain}
use Rattle.tabled_width.proofs.WrapFits.{text-same}
use Rattle.tabled_width.specs.Pieces.{pieces}
use Rattle.tabled_width.specs.Wraps.{wrapped, wrapped_line}
use borrow.Author.Tests.{le-leb}
use Rattle.tabled_width.proofs.plain_wraps.wrap_plain.Goals as goal
use Rattle.tabled_width.proofs.plain_wraps.wrap_plain.Goals.{then-keep_words+in_ok-push_words, else-keep_words+in_ok-push_cut}

pub returns-then-text-width : goal.returns-then-text-width
returns-then-text-width c = c.in_ok-whole.ensures.ok ∙ text-same c.args.width c.requires.width c.args.keep_words c.args.text.now c.utf8.text (sym (plain-fits c.args.width c.args.text.now c.requires.plain) ∙ le-leb _ _ (omega (arith, c.if-text-width.true)))

pub returns : goal.returns
returns c = elim c.if-keep_words.branch [
  | then-keep_words+in_ok-push_words w ↦ ap string_bytes w.out-is ∙ w.in_ok-push_words.ensures ∙ ap (λ bs. bs ++ encode_utf8_all (wrapped_line c.args.width true (pieces (chars c.args.text.now)))) c.in_ok-out.ensures.bytes ∙ wrapped-plain c.args.width true c.args.text.now c.requires.width c.requires.plain ∙ ap (λ keeps. wrapped (c.args.width, keeps) c.args.text.now) (sym w.if-keep_words.true)
  | else-keep_words+in_ok-push_cut w ↦ ap string_bytes w.out-is ∙ w.in_ok-push_cut.ensures.put ∙ ap (λ bs. bs ++ encode_utf8_all (wrapped_line c.args.width false (pieces (chars c.args.text.now)))) c.in_ok-out.ensures.bytes ∙ wrapped-plain c.args.width false c.args.text.now c.requires.width c.requires.plain ∙ ap (λ keeps. wrapped (c.args.width, keeps) c.args.text.now) (sym w.if-keep_words.false)
]
