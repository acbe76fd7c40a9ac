-- Nothing behind the last newline of a script changes what it says.
use Rattle.tabled_language.proofs.Common.{[], ◌&&◌, ◌||◌, ◌++◌, ◌+◌, ◌<◌, ◌≤◌, ◌∙◌, ◌∷◌, ◌≡◌, ◌≢◌, ◌⊎◌, Bool, EmptyLine, Fault, InBytes, Line, List, None, Option, RecordLine, anchor_in, ap, append-nil, append_assoc, arith, asks_between, asks_memory, cond, count_by-le-length, drop, ended_lines, eqb, false, fault_of, filter_map, filter_map-append, first_fault, flat_map, given_asks, inl, inr, is_in_place, is_none, length, length-append, length-map, length-slice_split, line, lines_ask, lines_between, lines_of, map, map-append, ne_eqb, numbers_of, option_map, option_or, parse, parse_between, record_in, refl, says_line, says_words, script_or_fault, shape_fault, span_fault, step_in, sym, tab_separated, table_from, true, without_empty_last, ℕ}
use Rattle.std.specs.List.{onto_first}
use Rattle.tabled_language.proofs.BackToTexts.{lines_of-lines}
use Rattle.tabled_language.proofs.LooseLines.{loose_place}

-- lines without the last one, where nothing stands there, or all of them
whole_or_ended : (lines : List (List ℕ)) → (without_empty_last lines ≡ lines) ⊎ (lines ≡ without_empty_last lines ++ [] ∷ [])
whole_or_ended [] = inl refl
whole_or_ended ([] ∷ []) = inr refl
whole_or_ended ((b ∷ bs) ∷ []) = inl refl
whole_or_ended (line ∷ next ∷ lines) = onward (whole_or_ended (next ∷ lines))
  where
    onward : (without_empty_last (next ∷ lines) ≡ next ∷ lines) ⊎ (next ∷ lines ≡ without_empty_last (next ∷ lines) ++ [] ∷ []) → (line ∷ without_empty_last (next ∷ lines) ≡ line ∷ next ∷ lines) ⊎ (line ∷ next ∷ lines ≡ line ∷ (without_empty_last (next ∷ lines) ++ [] ∷ []))
    onward (inl whole) = inl (ap (λ others. line ∷ others) whole)
    onward (inr ended) = inr (ap (λ others. line ∷ others) ended)

-- an empty line at the end has no fault
first_fault-end : (fault_at : List Line → Line → Option Fault) → ((earlier : List Line) → fault_at earlier EmptyLine ≡ None) → (earlier lines : List Line) → first_fault fault_at earlier (lines ++ EmptyLine ∷ []) ≡ first_fault fault_at earlier lines
first_fault-end fault_at fine earlier [] = rw (fine earlier) refl
first_fault-end fault_at fine earlier (line ∷ lines) = ap (option_or (option_map (λ fault. (_, fault)) (fault_at earlier line))) (first_fault-end fault_at fine (earlier ++ line ∷ []) lines)

empty_fine : (earlier : List Line) → fault_of earlier EmptyLine ≡ None
empty_fine earlier = rw (loose_place EmptyLine earlier tt) refl

said-end : {A : Type 0} (said : Line → Option A) → said EmptyLine ≡ None → (lines : List Line) → filter_map said (lines ++ EmptyLine ∷ []) ≡ filter_map said lines
said-end said none lines = filter_map-append said lines (EmptyLine ∷ []) ∙ rw none (append-nil (filter_map said lines))

-- an empty line at the end changes nothing of a script
script-end : (lines : List Line) → script_or_fault (lines ++ EmptyLine ∷ []) ≡ script_or_fault lines
script-end lines =
    let g = table_from (filter_map record_in lines) in
    rw (said-end record_in refl lines, said-end anchor_in refl lines, said-end step_in refl lines, first_fault-end fault_of empty_fine [] lines, first_fault-end (shape_fault g) (λ earlier. refl) [] lines, first_fault-end (span_fault g) (λ earlier. refl) [] lines) refl

-- nor a number of a line
numbers-end : {A : Type 0} (said : Line → Option A) → said EmptyLine ≡ None → (n : ℕ) (lines : List Line) → numbers_of said n (lines ++ EmptyLine ∷ []) ≡ numbers_of said n lines
numbers-end said none n [] = rw none refl
numbers-end said none n (line ∷ lines) = ap (λ (ns : List ℕ). map (λ x. n + 1) (filter_map said (line ∷ [])) ++ ns) (numbers-end said none (n + 1) lines)

-- what an empty line changes nothing of is that of the lines with which bytes end
ended-same : {A : Type 0} (f : List Line → A) → ((lines : List Line) → f (lines ++ EmptyLine ∷ []) ≡ f lines) → (input : List ℕ) → f (lines_between [] input []) ≡ f (map says_line (lines_of input))
ended-same f same input = ap f (append-nil (map says_line (ended_lines input))) ∙ whole (whole_or_ended (lines_of input))
  where
    whole : (ended_lines input ≡ lines_of input) ⊎ (lines_of input ≡ ended_lines input ++ [] ∷ []) → f (map says_line (ended_lines input)) ≡ f (map says_line (lines_of input))
    whole (inl is) = ap (λ lines. f (map says_line lines)) is
    whole (inr is) = sym (ap (λ lines. f (map says_line lines)) is ∙ ap f (map-append says_line (ended_lines input) ([] ∷ [])) ∙ same (map says_line (ended_lines input)))

-- bytes alone are a script between no rows and no words
pub parse_between-alone : (input : List ℕ) → parse_between [] input [] ≡ parse input
parse_between-alone = ended-same script_or_fault script-end

pub step_lines-alone : (input : List ℕ) → numbers_of step_in 0 (lines_between [] input []) ≡ numbers_of step_in 0 (map says_line (lines_of input))
step_lines-alone = ended-same (numbers_of step_in 0) (numbers-end step_in refl 0)

lines_ask-ended : (earlier : List Line) (lines : List (List ℕ)) → lines_ask earlier (map InBytes (without_empty_last lines)) ≡ true → lines_ask earlier (map InBytes lines) ≡ true
lines_ask-ended earlier [] asks = asks
lines_ask-ended earlier ([] ∷ []) asks = cc (asks)
lines_ask-ended earlier ((b ∷ bs) ∷ []) asks = asks
lines_ask-ended earlier (line ∷ next ∷ lines) asks = kept (given_asks (is_in_place earlier) (InBytes line)) (is_none (fault_of earlier (says_line line))) _ _ asks (lines_ask-ended (earlier ++ says_line line ∷ []) (next ∷ lines))
  where
    kept : (here fine less more : Bool) → (here || (fine && less)) ≡ true → (less ≡ true → more ≡ true) → (here || (fine && more)) ≡ true
    kept true fine less more e k = refl
    kept false true less more e k = k e
    kept false false less more e k = e

-- they ask for no memory but that of the whole
pub asks_between-alone : (input : List ℕ) → asks_between [] input [] ≡ true → asks_memory input ≡ true
asks_between-alone input asks = lines_ask-ended [] (lines_of input) (rw (append-nil (map InBytes (ended_lines input))) at asks)

-- bytes have a line
some_line : (bytes : List ℕ) → 0 < length (lines_of bytes)
some_line bytes = omega (arith, length-slice_split (λ (b : ℕ). eqb b 10) bytes)

-- bytes have no more lines than a newline each, and one
pub few_lines : (bytes : List ℕ) → length (lines_of bytes) ≤ length bytes + 1
few_lines bytes =
    let newline = λ (b : ℕ). eqb b 10 in
    omega (arith, length-slice_split newline bytes, count_by-le-length newline bytes)

pub few_ended_lines : (bytes : List ℕ) → length (ended_lines bytes) ≤ length bytes + 1
few_ended_lines bytes = whole (whole_or_ended (lines_of bytes))
  where
    whole : (ended_lines bytes ≡ lines_of bytes) ⊎ (lines_of bytes ≡ ended_lines bytes ++ [] ∷ []) → length (ended_lines bytes) ≤ length bytes + 1
    whole (inl is) = omega (arith, few_lines bytes, ap length is)
    whole (inr is) = omega (arith, few_lines bytes, ap length is, length-append (ended_lines bytes) ([] ∷ []))

pub few_given_lines : (bytes : List ℕ) → length (map InBytes (ended_lines bytes)) ≤ length bytes + 1
few_given_lines bytes = omega (arith, few_ended_lines bytes, length-map (ended_lines bytes) InBytes)

-- bytes before a newline at the end have lines of their own, and then an empty one
split-newline : (bytes : List ℕ) (b : ℕ) → eqb b 10 ≡ true → lines_of (bytes ++ b ∷ []) ≡ lines_of bytes ++ [] ∷ []
split-newline [] b is = rw is refl
split-newline (c ∷ bytes) b is = newline_or_not (eqb c 10) (split-newline bytes b is)
  where
    onto-end : (parts : List (List ℕ)) → 0 < length parts → onto_first c (parts ++ [] ∷ []) ≡ onto_first c parts ++ [] ∷ []
    onto-end [] some = absurd (omega (arith, some))
    onto-end (part ∷ parts) some = refl

    newline_or_not : (here : Bool) → lines_of (bytes ++ b ∷ []) ≡ lines_of bytes ++ [] ∷ [] → cond here ([] ∷ lines_of (bytes ++ b ∷ [])) (onto_first c (lines_of (bytes ++ b ∷ []))) ≡ cond here ([] ∷ lines_of bytes) (onto_first c (lines_of bytes)) ++ [] ∷ []
    newline_or_not true later = ap (λ lines. [] ∷ lines) later
    newline_or_not false later = ap (onto_first c) later ∙ onto-end (lines_of bytes) (some_line bytes)

without-end : (lines : List (List ℕ)) → without_empty_last (lines ++ [] ∷ []) ≡ lines
without-end [] = refl
without-end (line ∷ []) = refl
without-end (line ∷ next ∷ lines) = ap (λ others. line ∷ others) (without-end (next ∷ lines))

without-cons : (line : List ℕ) (lines : List (List ℕ)) → 0 < length lines → without_empty_last (line ∷ lines) ≡ line ∷ without_empty_last lines
without-cons line [] some = absurd (omega (arith, some))
without-cons line (next ∷ lines) some = refl

-- lines before others stay
without-append : (lines others : List (List ℕ)) → 0 < length others → without_empty_last (lines ++ others) ≡ lines ++ without_empty_last others
without-append [] others some = refl
without-append (line ∷ lines) others some = without-cons line (lines ++ others) (omega (arith, some, length-append lines others)) ∙ ap (λ all. line ∷ all) (without-append lines others some)

-- a newline at the end ends the last line
pub ended-newline : (bytes : List ℕ) (b : ℕ) → eqb b 10 ≡ true → ended_lines (bytes ++ b ∷ []) ≡ lines_of bytes
ended-newline bytes b is = ap without_empty_last (split-newline bytes b is) ∙ without-end (lines_of bytes)

-- without one all lines are ended
pub ended-other : (bytes : List ℕ) (b : ℕ) → eqb b 10 ≡ false → ended_lines (bytes ++ b ∷ []) ≡ lines_of (bytes ++ b ∷ [])
ended-other [] b is = rw is refl
ended-other (c ∷ bytes) b is = newline_or_not (eqb c 10) (ended-other bytes b is)
  where
    onto-first : (parts : List (List ℕ)) → 0 < length parts → without_empty_last parts ≡ parts → without_empty_last (onto_first c parts) ≡ onto_first c parts
    onto-first [] some whole = absurd (omega (arith, some))
    onto-first (part ∷ []) some whole = refl
    onto-first (part ∷ next ∷ parts) some whole = ap (λ (others : List (List ℕ)). (c ∷ part) ∷ drop 1 others) whole

    newline_or_not : (here : Bool) → ended_lines (bytes ++ b ∷ []) ≡ lines_of (bytes ++ b ∷ []) → without_empty_last (cond here ([] ∷ lines_of (bytes ++ b ∷ [])) (onto_first c (lines_of (bytes ++ b ∷ [])))) ≡ cond here ([] ∷ lines_of (bytes ++ b ∷ [])) (onto_first c (lines_of (bytes ++ b ∷ [])))
    newline_or_not true later = without-cons [] (lines_of (bytes ++ b ∷ [])) (some_line (bytes ++ b ∷ [])) ∙ ap (λ lines. [] ∷ lines) later
    newline_or_not false later = onto-first (lines_of (bytes ++ b ∷ [])) (some_line (bytes ++ b ∷ [])) later

-- a newline behind the last byte, which is none, changes no line
pub last_newline : (rows : List (List (List ℕ))) (input : List ℕ) (b : ℕ) (words : List (List (List ℕ))) → b ≢ 10 → lines_between rows (input ++ b ∷ 10 ∷ []) words ≡ lines_between rows (input ++ b ∷ []) words
last_newline rows input b words other =
    ap (λ lines. map RecordLine rows ++ (map says_line lines ++ map says_words words))
    (ap ended_lines (sym (append_assoc input (b ∷ []) (10 ∷ []))) ∙ ended-newline (input ++ b ∷ []) 10 refl ∙ sym (ended-other input b (ne_eqb b 10 other)))

-- lines that are written before bytes are ended before theirs
pub ended-lines : {A : Type 0} (texts_in : A → List (List ℕ)) (xs : List A) (rest : List ℕ) → ended_lines (flat_map (λ x. line (texts_in x)) xs ++ rest) ≡ map (λ x. tab_separated (texts_in x)) xs ++ ended_lines rest
ended-lines texts_in xs rest = ap without_empty_last (lines_of-lines texts_in xs rest) ∙ without-append (map (λ x. tab_separated (texts_in x)) xs) (lines_of rest) (some_line rest)
