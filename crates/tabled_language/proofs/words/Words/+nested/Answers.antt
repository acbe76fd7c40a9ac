use Rattle.tabled_language.proofs.Common.{◌-◌, ◌≡◌, arith, named_by, suc}
use Rattle.tabled_language.proofs.DeeperSelectors.{read_deeper}
use Rattle.tabled_language.proofs.words.Words.+nested.Goals as goal

pub selector-returns : goal.selector-returns
selector-returns t c =
    let deeper : c.args.depth ≡ suc (c.args.depth - 1) = omega arith in
    read_deeper named_by c.args.depth (c.args.depth - 1) c.in_ok-word.word.now c.args.self.now _ c.selector_behind.result _ deeper c.in_ok-word.ensures c.selector_behind.ensures
