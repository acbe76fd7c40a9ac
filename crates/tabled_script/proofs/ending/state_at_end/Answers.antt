use Rattle.tabled_script.proofs.Common.{◌∙◌, ◌≡◌, after_all, ap, bytes_of, grid_of, map_items, refl, script_in, start, state_of}
use Rattle.tabled_script.proofs.Changes.{after_all-changed}
use Rattle.tabled_script.proofs.ending.state_at_end.Goals as goal

pub returns-then-looks-clause-state : goal.returns-then-looks-clause-state
returns-then-looks-clause-state g c =
    let steps = c.args.script.steps.items in
    let script = script_in c.args.script.records.items c.args.script.spans steps in
    let begin : state_of bytes_of (grid_of (map_items c.in_ok-records.records.items)) c.args.script.spans ≡ start script = rw c.in_ok-records.ensures.cells refl in
    c.in_ok-run_checked.ensures.state ∙ ap (after_all steps) begin ∙ after_all-changed steps (start script)

pub returns-in-Ok-clause-state : goal.returns-in-Ok-clause-state
returns-in-Ok-clause-state g c =
    let steps = c.args.script.steps.items in
    let script = script_in c.args.script.records.items c.args.script.spans steps in
    let begin : state_of bytes_of (grid_of (map_items c.in_ok-records.records.items)) c.args.script.spans ≡ start script = rw c.in_ok-records.ensures.cells refl in
    c.in-Ok.ensures.state ∙ ap (after_all steps) begin ∙ after_all-changed steps (start script)
