use Rattle.tabled_uses.proofs.geometry.spans_back.Goals as goal

-- `search` stops at a limit among what spans do
pub changes_flat-requires-clause-keeps : goal.changes_flat-requires-clause-keeps
changes_flat-requires-clause-keeps g c = c.spans_along_lines_fit.ensures.columns _
