use Rattle.tabled_script.proofs.EachOf.{each_of-more, each_of-none_at}
use Rattle.tabled_script.proofs.Common.{◌∙◌, Some, ap, sym, take, take_more}
use Rattle.tabled_script.specs.Aligners.{alignment_of, each_of}
use Rattle.tabled_script.proofs.alignment_words.alignments_of.Goals as goal

pub loop-letter-preserved : goal.loop-letter-preserved
loop-letter-preserved c =
    let letters = c.args.letters.now in
    let i = c.loop-letter.letter-index in
    ap (each_of alignment_of) (take_more letters i 0 c.loop-letter-test.true)
    ∙ each_of-more alignment_of (take i letters) _ c.loop-letter.alignments.items c.in-Some.alignment c.loop-letter.invariant (sym c.alignment_of.ensures ∙ c.in-Some.is)
    ∙ ap Some (sym c.in_ok-push.ensures.items)

pub returns-in_default : goal.returns-in_default
returns-in_default c = sym (each_of-none_at alignment_of c.args.letters.now c.loop-letter.letter-index 0 c.loop-letter.alignments.items c.loop-letter-test.true c.loop-letter.invariant (sym c.alignment_of.ensures ∙ c.in_default.is))
