use Rattle.tabled_csv.proofs.Common.{get_or}
use Rattle.tabled_csv.proofs.Fielding.{line-feed, plain-line}
use Rattle.tabled_csv.proofs.field.plain_field.Goals as goal

pub returns : goal.returns
returns c =
    let d = c.args.dialect in
    let bytes = c.args.bytes.now in
    let i = c.in-Some.i in
    let f = rw c.separator-separator.ensures.byte at c.in-Some.ensures in
    let other = rw c.separator-separator.ensures.byte at c.if-bytes-i.false in
    plain-line d bytes i c.without_return.result.now f.inside c.requires f.within (line-feed d.separator (get_or bytes i 0) f.outside other) c.without_return.ensures
