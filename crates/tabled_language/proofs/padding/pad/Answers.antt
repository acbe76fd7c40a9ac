use Rattle.tabled_language.proofs.Common.{[], ◌∙◌, arith, bytes_of, length-map, map, map_push}
use Rattle.tabled_table.proofs.Padded.{padded_to-push}
use Rattle.tabled_language.proofs.padding.pad.Goals as goal

pub loop-row-preserved : goal.loop-row-preserved
loop-row-preserved c =
    let was = c.loop-row.row.items in
    rw (c.in_ok-push.ensures.items, map_push bytes_of was _, c.new.ensures) (padded_to-push c.args.columns [] (map bytes_of was) (omega (arith, length-map was bytes_of)) ∙ c.loop-row.invariant)
