use Rattle.tabled_table.proofs.Common.{◌≡◌, AreWide, arith, changed_all, changed_more, get_or, length-map, map, refl, row_texts, set, string_bytes, take, texts_of, ℕ}
use Rattle.tabled_table.proofs.Padded.{fronts_kept, fronts_all}
use Rattle.tabled_table.proofs.builder.rows.try_pad_each.Goals as goal
use Rattle.tabled_table.proofs.builder.rows.try_pad_each.Goals.{After-pad}

pub loop-row-init : goal.loop-row-init
loop-row-init c = record { padded = record { is = refl }; front = λ from even. fronts_all from _ even }

-- the rows still have in front what was there
front : (c : After-pad) (from : ℕ) → AreWide from (row_texts c.args.rows.now) → map (take from) (row_texts (set c.loop-row.rows c.loop-row.row-index c.pad.new.row)) ≡ row_texts c.args.rows.now
front c from even =
    let row = get_or c.loop-row.rows c.loop-row.row-index c.row-item.result in
    fronts_kept texts_of from _ c.loop-row.rows c.loop-row.row-index _ c.row-item.result c.pad.new.row even (omega arith) (c.loop-row.invariant.front from even) (omega (arith, row.ok.0, length-map row.items string_bytes)) c.pad.ensures.front

pub returns-in_err-pad-clause-front : goal.returns-in_err-pad-clause-front
returns-in_err-pad-clause-front c = front (goal.at.returns-in_err-pad-clause-front c).After-pad

pub loop-row-preserved : goal.loop-row-preserved
loop-row-preserved c = record {
  padded = changed_more _ _ _ _ _ c.row-item.result c.pad.new.row (omega arith) c.loop-row.invariant.padded c.in_ok-pad.ensures.ok;
  front = front (goal.at.loop-row-preserved c).After-pad;
}

pub returns-clause-ok : goal.returns-clause-ok
returns-clause-ok c = changed_all _ _ _ _ _ (omega arith) c.loop-row.invariant.padded
