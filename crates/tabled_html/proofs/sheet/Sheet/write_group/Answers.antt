use Rattle.std.proofs.Common.{append_assoc}
use Rattle.tabled_held.proofs.Pens.{sends-as, sends-then}
use Rattle.tabled_html_reading.specs.Bytes.{group_end, group_start}
use Rattle.tabled_html.proofs.sheet.Sheet.write_group.Goals as goal

pub returns-clause-sent : goal.returns-clause-sent
returns-clause-sent g c =
    sends-as (append_assoc (group_start c.args.is_head) _ (group_end c.args.is_head))
    (sends-then (sends-then c.write_start.ensures c.write_rows.ensures.sent) c.write_end.ensures)
