use Rattle.tabled_held.proofs.Pens.{sends-as, sends-then}
use Rattle.tabled_html.proofs.Sent.{body-sent, head-sent}
use Rattle.tabled_html.proofs.sheet.Sheet.write_groups.Goals as goal

pub returns-then-has_head : goal.returns-then-has_head
returns-then-has_head g c =
    sends-as (head-sent c.self.view_is c.count_rows-rows.ensures.rows c.header_rows-header.ensures c.has_head.ensures.has c.if-has_head.true)
    (sends-then c.write_group.ensures.sent c.write_group-then-has_head.ensures.sent)

pub returns : goal.returns
returns g c =
    sends-as (body-sent c.self.view_is c.count_rows-rows.ensures.rows c.header_rows-header.ensures c.has_head.ensures.has c.if-has_head.false)
    c.write_group-2.ensures.sent
