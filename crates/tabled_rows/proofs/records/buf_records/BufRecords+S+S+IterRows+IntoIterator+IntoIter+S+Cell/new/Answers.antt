use mathlib.Core.Bool.{true≢false}
use Rattle.tabled_rows.proofs.Common.{[], ◌++◌, ◌∙◌, EachSourceMayBeAsked, Shows, SourceMayBeAsked, Vec, all_shown, ap, arith, fuse_steps, inl, inr, map_items, map_push, refl, sym}
use Rattle.tabled_rows.proofs.Buffered.{first-read, gives-fuse, gives-fused, gives-unread, read-row}
use Rattle.tabled_rows.proofs.GaveBuffered.{listed-asked, next-asked, none-asked, none-came, others-asked, others-came, read-more}
use Rattle.tabled_rows.proofs.Listed.{gives-ended}
use Rattle.tabled_rows.proofs.records.buf_records.BufRecords+S+S+IterRows+IntoIterator+IntoIter+S+Cell.new.Goals as goal

pub loop-alloc-init : goal.loop-alloc-init
loop-alloc-init g c =
    let row = g.S.IterColumns.IntoIterator.into_iter_gives in
    let cell = g.S.IterColumns.IntoIter.Iterator in
    let rows = g.S.IterRows.IntoIter.Iterator in
    let becomes = g.S.IterRows.IntoIterator.into_iter_gives in
    let each : EachSourceMayBeAsked becomes rows.can_next rows.remaining rows.next_gives (SourceMayBeAsked row cell.can_next cell.remaining) c.iter_rows.result = elim c.requires [
      | inl may ↦ c.iter_rows.ensures.asked may
      | inr some ↦ listed-asked becomes rows.can_next rows.next_gives rows.remaining row cell.can_next cell.next_gives cell.remaining (Shows g.S.IntoRecords.shown) c.iter_rows.result some.0 (c.iter_rows.ensures.given some.0 some.1)
    ] in
    let asked = each c.into_iter.result c.into_iter.ensures.into_iter_gives in (
      c.fuse-rows.ensures.done,
      rw c.fuse-rows.ensures.source asked.0,
      rw c.fuse-rows.ensures.source asked.1,
      omega (arith, c.new-buffer.ensures.len),
      (λ rows given.
          let listed = c.iter_rows.ensures.given rows given c.into_iter.result c.into_iter.ensures.into_iter_gives in
          record {
            others = rows;
            gives = gives-fuse g.S.IterRows.IntoIter.Iterator.next_gives _ rows c.fuse-rows.result c.fuse-rows.ensures.done (rw c.fuse-rows.ensures.source listed.gives);
            are = rw c.new-buffer.ensures.items refl;
          }),
      record {
        source = c.iter_rows.result;
        start = c.into_iter.result;
        is = c.into_iter.ensures.into_iter_gives;
        came = c.iter_rows.ensures.came;
        along = asked.2;
        read = [];
        ran = sym c.fuse-rows.ensures.source;
        gave = rw c.new-buffer.ensures.items tt;
      },
    )

pub collect-requires-clause-can : goal.collect-requires-clause-can
collect-requires-clause-can g c =
    let inv = c.loop-alloc.invariant in
    (next-asked g.S.IterRows.IntoIterator.into_iter_gives g.S.IterRows.IntoIter.Iterator.next_gives _ _ _ _ _ _ _ _ inv.5 (rw inv.0 at c.in-Some.ensures.steps.0) _ c.into_iter-in-loop-alloc.ensures.into_iter_gives).0

pub collect-requires-clause-finite : goal.collect-requires-clause-finite
collect-requires-clause-finite g c =
    let inv = c.loop-alloc.invariant in
    (next-asked g.S.IterRows.IntoIterator.into_iter_gives g.S.IterRows.IntoIter.Iterator.next_gives _ _ _ _ _ _ _ _ inv.5 (rw inv.0 at c.in-Some.ensures.steps.0) _ c.into_iter-in-loop-alloc.ensures.into_iter_gives).1

pub loop-alloc-preserved : goal.loop-alloc-preserved
loop-alloc-preserved g c =
    let cell = g.S.IterColumns.IntoIter.Iterator in
    let inv = c.loop-alloc.invariant in
    let on = c.in-Some.ensures.steps.1 in
    let ran = c.in_ok-collect.ensures.ran in (
      on,
      c.in-Some.ensures.goes.keeps on,
      rw on at (c.in-Some.ensures.goes.on (rw inv.0 inv.2)).1,
      omega (arith, c.in_ok-push.ensures.len, c.loop-alloc-test.true, c.len.ensures),
      (λ rows given. rw c.in_ok-push.ensures.items (read-row (fuse_steps g.S.IterRows.IntoIter.Iterator.next_gives) g.S.IterColumns.IntoIterator.into_iter_gives cell.can_next cell.next_gives cell.remaining g.S.IntoRecords.shown _ _ _ _ _ _ _ _ _ ran.0 (inv.4 rows given) c.in-Some.ensures.steps c.into_iter-in-loop-alloc.ensures.into_iter_gives ran.1.1 (ran.1.2 tt).1 ran.2.0)),
      rw (c.in_ok-push.ensures.items, map_push (λ (row : Vec g.row.S-Cell.Denot). row.items) c.loop-alloc.buffer.items c.in_ok-collect.field-0) (read-more _ _ _ _ _ _ _ _ _ c.in-Some.row c.in_ok-collect.field-0.items inv.5 (rw inv.0 at c.in-Some.ensures.steps.0) (c.into_iter-in-loop-alloc.result, c.into_iter-in-loop-alloc.ensures.into_iter_gives, rw ran.2.0 (ran.1.0, ran.1.1, λ e. ran.1.2 tt))),
    )

pub returns-clause-buffered : goal.returns-clause-buffered
returns-clause-buffered g c =
    let cell = g.S.IterColumns.IntoIter.Iterator in
    let steps = fuse_steps g.S.IterRows.IntoIter.Iterator.next_gives in
    let inv = c.loop-alloc.invariant in
    λ rows given.
    let ahead = inv.4 rows given in
    first-read steps g.S.IterColumns.IntoIterator.into_iter_gives cell.can_next cell.next_gives cell.remaining g.S.IntoRecords.shown c.args.n _ _ rows ahead (omega (arith, inv.3, c.loop-alloc.buffer.ok.0)) (elim c.loop-alloc-test.branch [
      | goal.else-loop-alloc-test w ↦ λ h. absurd (omega (arith, w.loop-alloc-test.false, c.len.ensures, c.loop-alloc.buffer.ok.0))
      | goal.then-loop-alloc-test+in_default w ↦ λ h. gives-ended steps _ ahead.others _ _ ahead.gives w.in_default.ensures.steps
    ])

pub returns-clause-same : goal.returns-clause-same
returns-clause-same g c =
    let cell = g.S.IterColumns.IntoIter.Iterator in
    let next = g.S.IterRows.IntoIter.Iterator.next_gives in
    let inv = c.loop-alloc.invariant in
    λ rows given.
    let ahead = inv.4 rows given in
    elim c.loop-alloc-test.branch [
      | goal.else-loop-alloc-test w ↦ (
        ahead.others,
        rw w.rows-is (record {
          can = λ on. inv.1;
          ends = rw inv.0 inv.2;
          gives = ahead.gives;
        }),
        ahead.are,
      )
      | goal.then-loop-alloc-test+in_default w ↦ (
        [],
        rw w.rows-is (record {
          can = λ on. absurd (true≢false (sym w.in_default.ensures.steps.1 ∙ on));
          ends = rw w.in_default.ensures.steps.1 tt;
          gives = gives-fused next (gives-unread (fuse_steps next) g.S.IterColumns.IntoIterator.into_iter_gives cell.can_next cell.next_gives cell.remaining g.S.IntoRecords.shown) _ w.in_default.ensures.steps.1;
        }),
        ahead.are ∙ ap (λ others. all_shown g.S.IntoRecords.shown (map_items c.loop-alloc.buffer.items) ++ others) (gives-ended (fuse_steps next) _ ahead.others _ _ ahead.gives w.in_default.ensures.steps),
      )
    ]

pub returns-clause-asked : goal.returns-clause-asked
returns-clause-asked g c =
    let inv = c.loop-alloc.invariant in
    elim c.loop-alloc-test.branch [
      | goal.else-loop-alloc-test w ↦ rw w.rows-is ((λ on. inv.1), rw inv.0 inv.2, others-asked _ _ _ _ _ _ _ _ inv.5 inv.0)
      | goal.then-loop-alloc-test+in_default w ↦
          let over = w.in_default.ensures.steps.1 in
          rw w.rows-is ((λ on. absurd (true≢false (sym over ∙ on))), rw over tt, none-asked g.S.IterRows.IntoIterator.into_iter_gives g.S.IterRows.IntoIter.Iterator.next_gives (SourceMayBeAsked g.S.IterColumns.IntoIterator.into_iter_gives g.S.IterColumns.IntoIter.Iterator.can_next g.S.IterColumns.IntoIter.Iterator.remaining) g.S.IterColumns.IntoIterator.into_iter_gives g.S.IterColumns.IntoIter.Iterator.next_gives (g.S.IntoRecords.may_give c.args.records) _ over)
    ]

pub returns-clause-came : goal.returns-clause-came
returns-clause-came g c =
    let inv = c.loop-alloc.invariant in (
      inv.5.read,
      inv.5.gave,
      elim c.loop-alloc-test.branch [
        | goal.else-loop-alloc-test w ↦ rw w.rows-is (others-came _ _ _ _ _ _ _ _ inv.5 inv.0)
        | goal.then-loop-alloc-test+in_default w ↦ rw w.rows-is (none-came _ _ _ _ _ _ c.loop-alloc.rows _ _ inv.5 inv.0 w.in_default.ensures.steps)
      ],
    )
