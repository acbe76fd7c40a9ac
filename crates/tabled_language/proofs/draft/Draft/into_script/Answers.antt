use Rattle.tabled_language.proofs.Common.{Draft, bytes_of, draft_in, err_from_is_err_and, length-map, map_items, refl, rules}
use Rattle.tabled_language.proofs.ScriptChecks.{HasShape, checked_all, checked_shape, draft_ends, has_shape}
use Rattle.tabled_language.proofs.draft.Draft.into_script.Goals as goal

pub returns-in-Some : goal.returns-in-Some
returns-in-Some c = λ lines fine is.
    let d : Draft = draft_in c.args.self in
    let shape : HasShape d.records c.len-rows.result c.longest-columns.result = has_shape bytes_of (map_items c.args.self.records.items) c.len-rows.result c.longest-columns.result (search (rules, length-map)) c.longest-columns.ensures in
    checked_shape lines fine d is c.len-rows.result c.longest-columns.result shape c.misshaped.result c.misshaped.ensures c.in-Some.line c.in-Some.is

pub returns-in_err-spans : goal.returns-in_err-spans
returns-in_err-spans c =
    let d : Draft = draft_in c.args.self in
    let shape : HasShape d.records c.len-rows.result c.longest-columns.result = has_shape bytes_of (map_items c.args.self.records.items) c.len-rows.result c.longest-columns.result (search (rules, length-map)) c.longest-columns.ensures in
    let p = err_from_is_err_and c.from_residual.result c.from_residual.ensures.1 in
    rw (p.1, p.2) (draft_ends d c.len-rows.result c.longest-columns.result shape c.misshaped.result c.misshaped.ensures c.in_default.is c.in_err-spans.field-0.0 c.in_err-spans.ensures)

pub returns : goal.returns
returns c =
    let d : Draft = draft_in c.args.self in
    let shape : HasShape d.records c.len-rows.result c.longest-columns.result = has_shape bytes_of (map_items c.args.self.records.items) c.len-rows.result c.longest-columns.result (search (rules, length-map)) c.longest-columns.ensures in
    ((λ lines fine is. checked_all lines fine d is c.len-rows.result c.longest-columns.result shape c.misshaped.result c.misshaped.ensures c.in_ok-spans.spans c.in_default.is c.in_ok-spans.ensures.0 c.in_ok-spans.ensures.1), refl)
