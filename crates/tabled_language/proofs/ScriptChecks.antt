-- The checks of a whole draft.
use Rattle.tabled_language.proofs.Common.{[], ◌++◌, ◌+◌, ◌<◌, ◌∙◌, ◌∷◌, ◌≡◌, Draft, DraftMeans, EndsDraft, EndsBetween, EndsMerge, EndsScript, Err, Fault, Grid, IfOk, IsFirstMisfit, Line, List, None, Ok, Option, ParseError, Result, Script, Shape, ShapeDiffers, Some, SpanMap, SpanMisfits, Vec, ap, ap₂, arith, asks_between, draft_of, fault_of, first_fault, all_fit, from_rectangles, get_or, inl, inr, length, length-map, lines_between, lines_of, longest, longest-push, map, map-append, map_items, max, numbers_of, option_map, parse, parse_between, refl, says_line, script_or_fault, shape_misfit, step_in, subst, sym, table_from, take, take_more, true, ℕ}
use Rattle.std.specs.Prelude.{IfErr}
use Rattle.tabled_language.specs.Parsing.{BecomesScript, HasStepLines, IsScript, script_in}
use Rattle.tabled_language.specs.declared.fault.ParseError.TheVariants as parse_error
use Rattle.tabled_language.specs.declared.script.Script.{Script as Scripted}
use Rattle.tabled_language.proofs.BetweenLines.{ReadsBetween}
use Rattle.tabled_language.proofs.EndedLines.{asks_between-alone, parse_between-alone, step_lines-alone}
use Rattle.tabled_language.proofs.DraftSteps.{all_fits, shape_differs, span_misfits}

pub longest-map : {A B : Type 0} (f : A → B) (rows : List (List A)) → longest (map (map f) rows) ≡ longest rows
longest-map f [] = refl
longest-map f (row ∷ rows) = ap₂ (λ (a b : ℕ). max a b) (length-map row f) (longest-map f rows)

table_rows : (rows : List (List (List ℕ))) → (table_from rows).rows ≡ length rows
table_rows [] = refl
table_rows (row ∷ rows) = length-map (row ∷ rows) _

table_columns : (rows : List (List (List ℕ))) → (table_from rows).columns ≡ longest rows
table_columns [] = refl
table_columns (row ∷ rows) = refl

-- the shape of a table of rows in memory
pub record HasShape (records : List (List (List ℕ))) (rows columns : ℕ) : Type 0 where
  pub tall : rows ≡ (table_from records).rows
  pub wide : columns ≡ (table_from records).columns

pub has_shape : {A : Type 0} (f : A → List ℕ) (rows : List (List A)) (r c : ℕ) → r ≡ length rows → c ≡ longest rows → HasShape (map (map f) rows) r c
has_shape f rows r c tall wide = record { tall = tall ∙ sym (length-map rows (map f)) ∙ sym (table_rows (map (map f) rows)); wide = wide ∙ sym (longest-map f rows) ∙ sym (table_columns (map (map f) rows)) }

-- what a shape beside a table is depends on the table's shape alone
misfit-alike : (g : Grid (List ℕ)) (rows columns : ℕ) (s : Option Shape) → rows ≡ g.rows → columns ≡ g.columns → shape_misfit (record { rows = rows; columns = columns; cells = [] }) s ≡ shape_misfit g s
misfit-alike g rows columns None tall wide = refl
misfit-alike g rows columns (Some shape) tall wide = rw (tall, wide) refl

module _ (lines : List Line) (fine : first_fault fault_of [] lines ≡ None) (d : Draft) (is : d ≡ draft_of lines) (rows columns : ℕ) (shape : HasShape d.records rows columns) (said : Option ℕ) (told : option_map (λ n. (n, ShapeDiffers)) said ≡ shape_misfit (record { rows = rows; columns = columns; cells = [] }) d.shape) where
  whole : option_map (λ n. (n, ShapeDiffers)) said ≡ shape_misfit (table_from (draft_of lines).records) (draft_of lines).shape
  whole = told ∙ misfit-alike (table_from d.records) rows columns d.shape shape.tall shape.wide ∙ ap (λ (e : Draft). shape_misfit (table_from e.records) e.shape) is

  pub checked_shape : (n : ℕ) → said ≡ Some n → script_or_fault lines ≡ Err (n, ShapeDiffers)
  unfolding whole
  checked_shape n e = shape_differs lines fine (n, ShapeDiffers) (sym whole ∙ ap (option_map (λ n. (n, ShapeDiffers))) e)

  pub checked_span : (i n : ℕ) → said ≡ None → IsFirstMisfit rows columns d.anchors i → n ≡ get_or d.lines i 0 → script_or_fault lines ≡ Err (n, SpanMisfits)
  checked_span i n e misfit number =
      span_misfits lines fine i (sym whole ∙ ap (option_map (λ n. (n, ShapeDiffers))) e)
      (subst (λ (f : Draft). IsFirstMisfit (table_from f.records).rows (table_from f.records).columns f.anchors i) is (subst (λ r. IsFirstMisfit r (table_from d.records).columns d.anchors i) shape.tall (subst (λ c. IsFirstMisfit rows c d.anchors i) shape.wide misfit)))
      ∙ ap (λ m. Err (m, SpanMisfits)) (sym (number ∙ ap (λ (f : Draft). get_or f.lines i 0) is))

  pub checked_all : (m : SpanMap) → said ≡ None → all_fit rows columns d.anchors ≡ true → m ≡ from_rectangles d.anchors → script_or_fault lines ≡ Ok (record { records = d.records; spans = m; steps = d.steps })
  checked_all m e fit made =
      all_fits lines fine (sym whole ∙ ap (option_map (λ n. (n, ShapeDiffers))) e)
      (subst (λ (f : Draft). all_fit (table_from f.records).rows (table_from f.records).columns f.anchors ≡ true) is (subst (λ r. all_fit r (table_from d.records).columns d.anchors ≡ true) shape.tall (subst (λ c. all_fit rows c d.anchors ≡ true) shape.wide fit)))
      ∙ sym (ap (λ (k : SpanMap). Ok (scripted d k)) made ∙ ap (λ (f : Draft). Ok (scripted f (from_rectangles f.anchors))) is)
    where
      scripted : Draft → SpanMap → Script
      scripted f k = record { records = f.records; spans = k; steps = f.steps }

-- why anchors aren't merged is why a draft becomes no script
pub draft_ends : (d : Draft) (rows columns : ℕ) → HasShape d.records rows columns → (said : Option ℕ) → option_map (λ n. (n, ShapeDiffers)) said ≡ shape_misfit (record { rows = rows; columns = columns; cells = [] }) d.shape → said ≡ None → (error : ParseError) → EndsMerge rows columns (record { anchors = d.anchors; numbers = d.lines }) error → EndsDraft d error
draft_ends d rows columns shape said told none (parse_error.Faulty line fault) (is, i, misfit, number) =
    λ lines fine drafted. checked_span lines fine d drafted rows columns shape said told i line none misfit number ∙ ap (λ (f : Fault). Err (line, f)) (sym is)
draft_ends d rows columns shape said told none parse_error.OutOfMemory some = some

-- a script that was read means what its draft does
read_means : {rows : List (List (List ℕ))} {input : List ℕ} {words : List (List (List ℕ))} {d : Draft} {meant : Result Script (ℕ × Fault)} → ReadsBetween rows input words d → DraftMeans d meant → parse_between rows input words ≡ meant
read_means {rows} {input} {words} read means = means (lines_between rows input words) read.faultless read.is

-- what its draft becomes answers it
pub answers_script : {rows : List (List (List ℕ))} {input : List ℕ} {words : List (List (List ℕ))} {d : Draft} (r : Result Scripted ParseError) → ReadsBetween rows input words d → BecomesScript d r → IfOk r (IsScript (parse_between rows input words))
answers_script (Ok s) read becomes = read_means read becomes.0
answers_script (Err error) read ended = tt

pub answers_step_lines : {rows : List (List (List ℕ))} {input : List ℕ} {words : List (List (List ℕ))} {d : Draft} (r : Result Scripted ParseError) → ReadsBetween rows input words d → BecomesScript d r → IfOk r (HasStepLines (lines_between rows input words))
answers_step_lines (Ok s) read becomes = becomes.1 ∙ ap (λ (e : Draft). e.step_lines) read.is
answers_step_lines (Err error) read ended = tt

-- so does why it becomes none
pub answers_end : {rows : List (List (List ℕ))} {input : List ℕ} {words : List (List (List ℕ))} {d : Draft} (r : Result Scripted ParseError) → ReadsBetween rows input words d → BecomesScript d r → IfErr r (EndsBetween rows input words)
answers_end (Ok s) read becomes = tt
answers_end (Err (parse_error.Faulty line fault)) read ended = read_means read ended
answers_end (Err parse_error.OutOfMemory) read some = inl (read.asks some)

-- without rows and words, what answers a script between them answers bytes
pub alone-script : (r : Result Scripted ParseError) (rows words : List (List (List ℕ))) (input : List ℕ) → rows ≡ [] → words ≡ [] → IfOk r (IsScript (parse_between rows input words)) → IfOk r (IsScript (parse input))
alone-script r rows words input no_rows no_words told = subst (λ (meant : Result Script (ℕ × Fault)). IfOk r (IsScript meant)) (ap₂ (λ (rs ws : List (List (List ℕ))). parse_between rs input ws) no_rows no_words ∙ parse_between-alone input) told

pub alone-step_lines : (r : Result Scripted ParseError) (rows words : List (List (List ℕ))) (input : List ℕ) → rows ≡ [] → words ≡ [] → IfOk r (HasStepLines (lines_between rows input words)) → IfOk r (HasStepLines (map says_line (lines_of input)))
alone-step_lines r rows words input no_rows no_words told = subst (λ (ns : List ℕ). IfOk r (λ (s : Scripted). s.step_lines.items ≡ ns)) (ap₂ (λ (rs ws : List (List (List ℕ))). numbers_of step_in 0 (lines_between rs input ws)) no_rows no_words ∙ step_lines-alone input) told

pub alone-end : (r : Result Scripted ParseError) (rows words : List (List (List ℕ))) (input : List ℕ) → rows ≡ [] → words ≡ [] → IfErr r (EndsBetween rows input words) → IfErr r (EndsScript input)
alone-end (Ok s) rows words input no_rows no_words told = tt
alone-end (Err (parse_error.Faulty line fault)) rows words input no_rows no_words told = sym (ap₂ (λ (rs ws : List (List (List ℕ))). parse_between rs input ws) no_rows no_words ∙ parse_between-alone input) ∙ told
alone-end (Err parse_error.OutOfMemory) rows words input no_rows no_words (inl asks) = asks_between-alone input (sym (ap₂ (λ (rs ws : List (List (List ℕ))). asks_between rs input ws) no_rows no_words) ∙ asks)
alone-end (Err parse_error.OutOfMemory) rows words input no_rows no_words (inr many) = absurd (omega (arith, many, ap length no_rows, ap length no_words))

-- one record more
pub longest-more : {A : Type 0} (rows : List (Vec A)) (i old new : ℕ) (row : Vec A) → i < length rows → row ≡ get_or rows i row → old ≡ longest (map_items (take i rows)) → new ≡ max old (length row.items) → new ≡ longest (map_items (take (i + 1) rows))
longest-more {A} rows i old new row here read before is =
    is ∙ ap (λ n. max n (length row.items)) before ∙ sym (longest-push (map_items (take i rows)) row.items)
    ∙ ap longest (sym (map-append (λ (v : Vec A). v.items) (take i rows) (row ∷ [])) ∙ ap (λ (vs : List (Vec A)). map_items (take i rows ++ vs)) (ap (λ (v : Vec A). v ∷ []) read) ∙ ap map_items (sym (take_more rows i row here)))
