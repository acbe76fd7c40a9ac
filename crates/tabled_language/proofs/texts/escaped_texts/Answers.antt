use Rattle.tabled_language.proofs.Common.{arith, common_steps, parts_lack, parts_lack_separator, rules}
use Rattle.tabled_language.proofs.texts.escaped_texts.Goals as goal

pub loop-word-init : goal.loop-word-init
loop-word-init c = record {
  texts = search rules;
  no_tab = search (rules, parts_lack_separator 9 c.args.line.now);
  no_newline = search (rules, parts_lack 10 9 c.args.line.now c.requires);
}

pub lent_text-requires : goal.lent_text-requires
lent_text-requires c = ((rw c.in-Some.ensures.steps at c.loop-word.invariant.no_tab).0, (rw c.in-Some.ensures.steps at c.loop-word.invariant.no_newline).0)

pub loop-word-preserved : goal.loop-word-preserved
loop-word-preserved c = record {
  texts = grind (arith, common_steps);
  no_tab = (rw c.in-Some.ensures.steps at c.loop-word.invariant.no_tab).1;
  no_newline = (rw c.in-Some.ensures.steps at c.loop-word.invariant.no_newline).1;
}
