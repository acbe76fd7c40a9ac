-- A draft line by line, and what it says at the end.
use Rattle.tabled_language.proofs.Common.{Draft, Err, Fault, IsFirstMisfit, Line, List, None, Ok, Option, Rectangle, Shape, Some, SpanMisfits, State, [], anchor_in, ap, append-nil, append_assoc, arith, draft_of, fault_of, filter_map-append, first_fault, get_or, length, all_fit, number_if, numbers_of, option_map, option_or, record_in, refl, script_or_fault, shape_among, shape_at, shape_in, shape_misfit, from_rectangles, step_in, sym, table_from, true, with_line, ℕ, ◌++◌, ◌+◌, ◌∙◌, ◌∷◌, ◌≡◌}
use Rattle.tabled_language.proofs.DraftLines.{shape_told}
use Rattle.tabled_language.proofs.Misfits.{first_misfit_line, no_misfit}

-- of three values the first there is, in either order of the choices
pub or_assoc : {A : Type 0} (x y z : Option A) → option_or x (option_or y z) ≡ option_or (option_or x y) z
or_assoc None y z = refl
or_assoc (Some x) y z = refl

or_none : {A : Type 0} (x : Option A) → option_or x None ≡ x
or_none None = refl
or_none (Some x) = refl

shape-push : (n m : ℕ) (lines : List Line) (line : Line) → m ≡ n + length lines → shape_among n (lines ++ line ∷ []) ≡ option_or (shape_among n lines) (option_map (shape_at (m + 1)) (shape_in line))
shape-push n m [] line is =
    let same : m ≡ n = omega (arith, is) in
    rw same (or_none (option_map (shape_at (n + 1)) (shape_in line)))
shape-push n m (first ∷ lines) line is =
    ap (option_or (option_map (shape_at (n + 1)) (shape_in first))) (shape-push (n + 1) m lines line (omega (arith, is)))
    ∙ or_assoc (option_map (shape_at (n + 1)) (shape_in first)) (shape_among (n + 1) lines) (option_map (shape_at (m + 1)) (shape_in line))

numbers-push : {A : Type 0} (said : Line → Option A) (n m : ℕ) (lines : List Line) (line : Line) → m ≡ n + length lines → numbers_of said n (lines ++ line ∷ []) ≡ numbers_of said n lines ++ number_if said (m + 1) line
numbers-push said n m [] line is =
    let same : n ≡ m = omega (arith, is) in
    append-nil (number_if said (n + 1) line) ∙ ap (λ k. number_if said (k + 1) line) same
numbers-push said n m (first ∷ lines) line is =
    ap (λ (ns : List ℕ). number_if said (n + 1) first ++ ns) (numbers-push said (n + 1) m lines line (omega (arith, is)))
    ∙ sym (append_assoc (number_if said (n + 1) first) (numbers_of said (n + 1) lines) (number_if said (m + 1) line))

-- the draft of one line more
pub draft_of-push : (lines : List Line) (line : Line) → draft_of (lines ++ line ∷ []) ≡ with_line (draft_of lines) (length lines + 1) line
draft_of-push lines line =
    let last : length lines ≡ 0 + length lines = omega arith in
    same (shape-push 0 (length lines) lines line last) (filter_map-append record_in lines (line ∷ [])) (filter_map-append anchor_in lines (line ∷ [])) (numbers-push anchor_in 0 (length lines) lines line last) (filter_map-append step_in lines (line ∷ [])) (numbers-push step_in 0 (length lines) lines line last)
  where
    made : Option Shape → List (List (List ℕ)) → List Rectangle → List ℕ → List (State → State) → List ℕ → Draft
    made s r a l f k = record { shape = s; records = r; anchors = a; lines = l; steps = f; step_lines = k }

    same : {s t : Option Shape} {r q : List (List (List ℕ))} {a b : List Rectangle} {l k : List ℕ} {f g : List (State → State)} {i j : List ℕ} → s ≡ t → r ≡ q → a ≡ b → l ≡ k → f ≡ g → i ≡ j → made s r a l f i ≡ made t q b k g j
    same u v w x y z = rw (u, v, w, x, y, z) refl

-- without a fault in a line by itself, the checks of the whole are those of the draft

module _ (lines : List Line) (fine : first_fault fault_of [] lines ≡ None) where
  pub shape_differs : (fault : ℕ × Fault) → shape_misfit (table_from (draft_of lines).records) (draft_of lines).shape ≡ Some fault → script_or_fault lines ≡ Err fault
  shape_differs fault is = rw (fine, shape_told (table_from (draft_of lines).records) lines fine ∙ is) refl

  pub span_misfits : (i : ℕ) → shape_misfit (table_from (draft_of lines).records) (draft_of lines).shape ≡ None → IsFirstMisfit (table_from (draft_of lines).records).rows (table_from (draft_of lines).records).columns (draft_of lines).anchors i → script_or_fault lines ≡ Err (get_or (draft_of lines).lines i 0, SpanMisfits)
  span_misfits i is misfit = rw (fine, shape_told (table_from (draft_of lines).records) lines fine ∙ is, first_misfit_line (table_from (draft_of lines).records) lines i misfit) refl

  pub all_fits : shape_misfit (table_from (draft_of lines).records) (draft_of lines).shape ≡ None → all_fit (table_from (draft_of lines).records).rows (table_from (draft_of lines).records).columns (draft_of lines).anchors ≡ true → script_or_fault lines ≡ Ok (record { records = (draft_of lines).records; spans = from_rectangles (draft_of lines).anchors; steps = (draft_of lines).steps })
  all_fits is fit = rw (fine, shape_told (table_from (draft_of lines).records) lines fine ∙ is, no_misfit (table_from (draft_of lines).records) lines fit) refl
