use Rattle.tabled_language.proofs.Common.{rules, texts_in_records}
use Rattle.tabled_language.proofs.BetweenLines.{draft_of-records}
use Rattle.tabled_language.proofs.draft.Draft.of_records.Goals as goal

pub returns : goal.returns
returns c = rw (draft_of-records (texts_in_records c.args.records.items)) (search rules)
