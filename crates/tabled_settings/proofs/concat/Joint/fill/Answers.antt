use Rattle.tabled_settings.proofs.Common.{◌∙◌, ◌≡◌, ◌≤◌, ◌⊎◌, None, Size, Some, ap, arith, inl, inr, sym, text_of_joint}
use Rattle.std.specs.String.{string_bytes}
use Rattle.tabled_settings.proofs.Joins.{fills_more, fills_over}
use Rattle.tabled_settings.proofs.concat.Joint.fill.Goals as goal

pub loop-j-preserved : goal.loop-j-preserved
loop-j-preserved g c =
    let joint = c.args.self.now in
    let i = c.loop-j.invariant in
    let size : c.self.inside.size ≡ joint.size = ap (λ j. j.size) c.self.view_is in
    let rows = ap (λ (s : Size). s.height) size in
    let columns = ap (λ (s : Size). s.width) size in
    let outside : (joint.size.height ≤ c.loop-i.i) ⊎ (joint.size.width ≤ c.loop-j.j) = elim c.if-i-self.branch [ goal.then-i-self w ↦ inr (omega (arith, columns, w.start-is, c.loop-j.auto.j)) | goal.else-i-self w ↦ inl (omega (arith, rows, w.if-i-self.false)) ] in
    elim c.match-text_at.branch [
      | goal.in-Some+in_ok-from_str+in_ok-set w ↦
          let text = string_bytes w.in_ok-from_str.field-0 in
          let put : text_of_joint joint c.loop-i.i c.loop-j.j ≡ Some text = sym (rw w.in-Some.is at c.text_at.ensures) ∙ ap Some (sym w.in_ok-from_str.ensures.ok) in
          rw w.records-is (record {
            well = w.set.ensures.well;
            fills = fills_more _ _ joint.size.height joint.size.width _ _ c.loop-i.i c.loop-j.j i.fills _ text (omega (arith, c.loop-i-test.true, c.count_rows-i-end.ensures.rows, i.fills.rows_are)) (omega (arith, c.loop-j-test.true, c.count_columns-count.ensures.columns, i.fills.columns_are)) outside put w.in_ok-set.ensures.ok;
          })
      | goal.in_default w ↦
          let none : text_of_joint joint c.loop-i.i c.loop-j.j ≡ None = sym (rw w.in_default.is at c.text_at.ensures) in
          rw w.records-is (record {
            well = i.well;
            fills = fills_over _ _ joint.size.height joint.size.width _ _ c.loop-i.i c.loop-j.j i.fills none;
          })
    ]
