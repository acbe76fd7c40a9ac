-- How a name ends.
use Rattle.std.proofs.lemmas.Str.Pattern.{ends_text}
use Rattle.std.specs.List.{ends_with}
use Rattle.std.specs.Prelude.{◌==◌, Bool, codes, false, if◌then◌else◌, true}
use Rattle.tabled_script.proofs.Common.{◌∙◌, ◌≡◌, List, None, Option, Some, ap₂, refl, sym, ℕ}
use Rattle.tabled_script.proofs.setting.read_by.Goals as goal
use Rattle.tabled_script.specs.Settings.{read_by}

abbrev chosen : Bool → Bool → Bool → Bool → Option (List ℕ)
chosen csv tsv json jsonl =
    if csv then Some (codes "--csv")
    else (if tsv then Some (codes "--separator tab --csv")
    else (if json then Some (codes "--json")
    else (if jsonl then Some (codes "--json") else None)))

read_by_ends : (name : List ℕ) (csv tsv json jsonl : Bool) → ends_with ◌==◌ name (codes ".csv") ≡ csv → ends_with ◌==◌ name (codes ".tsv") ≡ tsv
    → ends_with ◌==◌ name (codes ".json") ≡ json → ends_with ◌==◌ name (codes ".jsonl") ≡ jsonl → read_by name ≡ chosen csv tsv json jsonl
read_by_ends name csv tsv json jsonl is_csv is_tsv is_json is_jsonl =
    ap₂ (λ (x y : Bool). chosen x y (ends_with ◌==◌ name (codes ".json")) (ends_with ◌==◌ name (codes ".jsonl"))) is_csv is_tsv
    ∙ ap₂ (λ (x y : Bool). chosen csv tsv x y) is_json is_jsonl

pub returns-then-ends_with-3 : goal.returns-then-ends_with-3
returns-then-ends_with-3 c =
    sym (read_by_ends c.args.name.now false false true _
    (sym (ends_text c.ends_with.result (codes ".csv") c.args.name.now c.ends_with.ensures.cases) ∙ c.if-ends_with.false)
    (sym (ends_text c.ends_with-2.result (codes ".tsv") c.args.name.now c.ends_with-2.ensures.cases) ∙ c.if-ends_with-2.false)
    (sym (ends_text c.ends_with-3.result (codes ".json") c.args.name.now c.ends_with-3.ensures.cases) ∙ c.if-ends_with-3.true)
    refl)

pub returns-then-ends_with-4 : goal.returns-then-ends_with-4
returns-then-ends_with-4 c =
    sym (read_by_ends c.args.name.now false false false true
    (sym (ends_text c.ends_with.result (codes ".csv") c.args.name.now c.ends_with.ensures.cases) ∙ c.if-ends_with.false)
    (sym (ends_text c.ends_with-2.result (codes ".tsv") c.args.name.now c.ends_with-2.ensures.cases) ∙ c.if-ends_with-2.false)
    (sym (ends_text c.ends_with-3.result (codes ".json") c.args.name.now c.ends_with-3.ensures.cases) ∙ c.if-ends_with-3.false)
    (sym (ends_text c.ends_with-4.result (codes ".jsonl") c.args.name.now c.ends_with-4.ensures.cases) ∙ c.if-ends_with-4.true))

pub returns : goal.returns
returns c =
    sym (read_by_ends c.args.name.now false false false false
    (sym (ends_text c.ends_with.result (codes ".csv") c.args.name.now c.ends_with.ensures.cases) ∙ c.if-ends_with.false)
    (sym (ends_text c.ends_with-2.result (codes ".tsv") c.args.name.now c.ends_with-2.ensures.cases) ∙ c.if-ends_with-2.false)
    (sym (ends_text c.ends_with-3.result (codes ".json") c.args.name.now c.ends_with-3.ensures.cases) ∙ c.if-ends_with-3.false)
    (sym (ends_text c.ends_with-4.result (codes ".jsonl") c.args.name.now c.ends_with-4.ensures.cases) ∙ c.if-ends_with-4.false))
