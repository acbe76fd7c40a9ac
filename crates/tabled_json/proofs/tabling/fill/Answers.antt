use Rattle.std.proofs.Common.{rules}
use Rattle.std.proofs.lemmas.List.{map-set}
use Rattle.tabled_json.proofs.Columns.{found-inside}
use Rattle.tabled_json.proofs.Common.{◌≡◌, ◌<◌, ◌∙◌, [], ℕ, List, ap, length, map, subst, sym, take}
use Rattle.tabled_json.proofs.Parts.{length-map}
use Rattle.tabled_json.proofs.Taken.{put-next, skip-next}
use Rattle.tabled_json.specs.Records.{list_of, member_of}
use Rattle.tabled_json.specs.Tables.{last_text}
use Rattle.tabled_texts.specs.Texts.{text_of, texts_of}
use Rattle.tabled_json.proofs.tabling.fill.Goals as goal
use Rattle.tabled_json.proofs.tabling.fill.Goals.{in-Some, in_default}

pub loop-member-preserved : goal.loop-member-preserved
loop-member-preserved c =
    let keys = texts_of c.args.keys.now.texts in
    let row = c.loop-member.row in
    elim c.match-column.branch [
      | in-Some w ↦
          rw w.row-is
          (map-set text_of row w.in-Some.column _
          ∙ put-next member_of keys c.args.object.now c.loop-member.member-index _ c.loop-member-test.true (map text_of row) c.loop-member.invariant c.requires.listed.distinct w.in-Some.column (sym c.column.ensures ∙ w.in-Some.is))
      | in_default w ↦
          rw w.row-is
          (skip-next member_of keys c.args.object.now c.loop-member.member-index _ c.loop-member-test.true (map text_of row) c.loop-member.invariant (sym c.column.ensures ∙ w.in_default.is))
    ]

pub bounds-row-column : goal.bounds-row-column
bounds-row-column c =
    let keys = texts_of c.args.keys.now.texts in
    let row = c.loop-member.row in
    let ms = list_of (take c.loop-member.member-index c.args.object.now) in
    let same : length row ≡ length keys = sym (length-map text_of row) ∙ ap length c.loop-member.invariant ∙ length-map (λ (key : List ℕ). last_text key [] ms) keys in
    subst (λ (n : ℕ). c.in-Some.column < n) (sym same) (found-inside _ keys c.in-Some.column (sym c.column.ensures ∙ c.in-Some.is))

pub offset_bounds-row-column : goal.offset_bounds-row-column
offset_bounds-row-column c =
    let keys = texts_of c.args.keys.now.texts in
    let row = c.loop-member.row in
    let ms = list_of (take c.loop-member.member-index c.args.object.now) in
    let same : length row ≡ length keys = sym (length-map text_of row) ∙ ap length c.loop-member.invariant ∙ length-map (λ (key : List ℕ). last_text key [] ms) keys in
    let inside : c.in-Some.column < length row = subst (λ (n : ℕ). c.in-Some.column < n) (sym same) (found-inside _ keys c.in-Some.column (sym c.column.ensures ∙ c.in-Some.is)) in
    search rules
