-- Runs merged on one entity after another are those of their lines, merged at once.
use Rattle.std.proofs.Common.{◌||◌}
use Rattle.std.specs.FinMap.{find}
use Rattle.std.specs.FinMap.Entries.{find-where_key}
use Rattle.tabled_grid.proofs.Members.{sorted-filter}
use Rattle.tabled_grid.proofs.SortedEntries.{find_at, pairs-filter}
use Rattle.tabled_spans.proofs.Common.{[], ◌<◌, ◌∙◌, ◌∷◌, ◌≡◌, ◌≤◌, ◌⊎◌, AllByRecursion, AreSorted, Axis, Bool, Columns, Entity, Grid, HasArea, In, IsInside, IsOfRun, IsRun, Joins, List, MergesRuns, None, Option, Position, Rectangle, Rows, RunsFrom, RunsOf, Size, Some, SpanMap, across, ap, ap₂, arith, before_first, cases_Bool, cond, count_along, false, false≢true, filter, find, further, get, inl, inr, lines_in, map_grid, none-some, not, positions_exact, refl, same_map, size_of_run, subst, sym, true, with_sizes, ℕ}
use Rattle.tabled_grid.specs.declared.config.entity.Entity.TheVariants.{Global}
use Rattle.tabled_grid.specs.Spans.{pairs, position_cmp, rectangle}
use Rattle.tabled_options.specs.Does.{Change, Each, EachUntil, Same, SameOr}
use Rattle.tabled_spans.proofs.LineRuns.{none_left, run_all, run_before, run_named, run_on, run_still}
use Rattle.tabled_spans.proofs.RunLists.{all_then, begins_named, set_run, sizes_full}
use Rattle.tabled_spans.proofs.Runs.{further_none}
use Rattle.tabled_spans.proofs.SetSizes.{found_in, get-with_sizes, set_or}
use Rattle.tabled_spans.specs.Lines.{MergesEach, RunsIn, is_named_by, line_at, names_line}

-- the rectangles that are anchored where a test of places says yes
abbrev kept_at : (Position → Bool) → List Rectangle → List Rectangle
kept_at test es = filter (λ (e : Rectangle). test e.first) es

-- a test of places leaves what is found at one, or nothing
find_kept : (test : Position → Bool) (p : Position) (es : List Rectangle) → find_at p (kept_at test es) ≡ cond (test p) (find_at p es) None
find_kept test p es = ap (find position_cmp p) (pairs-filter test es) ∙ find-where_key position_cmp test p (λ x e. sym (ap test (positions_exact p x e))) (pairs es)

-- texts have as many lines as their cells
pub same_lines : {A : Type 0} (text_of : A → List ℕ) (axis x : Axis) (g : Grid A) (many line : ℕ) → x ≡ across axis → many ≡ count_along x g → line < count_along (across axis) (map_grid text_of g) → line < many
same_lines text_of axis x g many line is count within = subst (λ (n : ℕ). line < n) (same_count axis ∙ ap (λ (y : Axis). count_along y g) (sym is) ∙ sym count) within
  where
    same_count : (a : Axis) → count_along (across a) (map_grid text_of g) ≡ count_along (across a) g
    same_count Rows = refl
    same_count Columns = refl

module _ (axis : Axis) (g : Grid (List ℕ)) where
  -- the runs in some lines, as they are found
  pub record AreFound (is_in : ℕ → Bool) (m : SpanMap) (es : List Rectangle) : Type 0 where
    pub sorted : AreSorted es
    pub each : (p : Position) (s : Size) → find_at p es ≡ Some s → (is_in (line_at axis p) ≡ true) × IsOfRun axis Global g m (rectangle p s)
    pub all : (p : Position) (many : ℕ) → is_in (line_at axis p) ≡ true → IsRun axis Global g m p many → find_at p es ≡ Some (size_of_run axis many)

  pub are_found : (is_in : ℕ → Bool) (m : SpanMap) (es : List Rectangle) → RunsIn axis is_in g m es → AreFound is_in m es
  are_found is_in m es listed = record { sorted = listed.sorted; each = found_in (λ (e : Rectangle). (is_in (line_at axis e.first) ≡ true) × IsOfRun axis Global g m e) es listed.each; all = listed.all }

  -- one entity before others
  module _ (e : Entity) (others : ℕ → Bool) (m : SpanMap) (es : List Rectangle) (found : AreFound (λ line. names_line axis e line || others line) m es) where
    abbrev test : Position → Bool
    test p = names_line axis e (line_at axis p)

    abbrev here : List Rectangle
    here = kept_at test es

    abbrev rest : List Rectangle
    rest = kept_at (λ p. not (test p)) es

    abbrev middle : SpanMap
    middle = with_sizes m here

    in_middle : (p : Position) → get middle p ≡ set_or (cond (test p) (find_at p es) None) (get m p)
    in_middle p = get-with_sizes here m p (sorted-filter (λ (e : Rectangle). test e.first) es found.sorted) ∙ ap (λ (o : Option Size). set_or o (get m p)) (find_kept test p es)

    merged_here : MergesRuns axis e g m middle
    merged_here = record { each = λ p. merged_at p (cases_Bool (test p)) (find_at p es) refl }
      where
        merged_at : (p : Position) → (test p ≡ true) ⊎ (test p ≡ false) → (o : Option Size) → find_at p es ≡ o → ((many : ℕ) × IsRun axis e g m p many × (get middle p ≡ Some (size_of_run axis many))) ⊎ (((many : ℕ) → IsRun axis e g m p many → ⊥) × (get middle p ≡ get m p))
        merged_at p (inl t) None is = inr (λ many run. none-some (size_of_run axis many) (sym is ∙ found.all p many (ap (λ b. b || others (line_at axis p)) t) (run_all axis g m e p many t run)), in_middle p ∙ ap₂ (λ (b : Bool) (o : Option Size). set_or (cond b o None) (get m p)) t is)
        merged_at p (inl t) (Some s) is =
            let run = (found.each p s is).1 in
            inl (run.0, run_on axis g m e p run.0 t run.1, in_middle p ∙ ap₂ (λ (b : Bool) (o : Option Size). set_or (cond b o None) (get m p)) t is ∙ ap (λ (x : Size). set_or (Some x) (get m p)) run.2 ∙ set_run axis run.0 run.1.some (get m p))
        merged_at p (inr f) o is = inr (λ many run. false≢true (sym f ∙ run_named axis e g m p many run), in_middle p ∙ ap (λ (b : Bool). set_or (cond b (find_at p es) None) (get m p)) f)

    rest_found : AreFound others middle rest
    rest_found = record {
      sorted = sorted-filter (λ (e : Rectangle). not (test e.first)) es found.sorted;
      each = λ p s is. each p s is (cases_Bool (test p));
      all = λ p many is_in run. all p many is_in run (cases_Bool (test p));
    }
      where
        each : (p : Position) (s : Size) → find_at p rest ≡ Some s → (test p ≡ true) ⊎ (test p ≡ false) → (others (line_at axis p) ≡ true) × IsOfRun axis Global g middle (rectangle p s)
        each p s is (inl t) = absurd (none-some s (sym (find_kept (λ q. not (test q)) p es ∙ ap (λ b. cond (not b) (find_at p es) None) t) ∙ is))
        each p s is (inr f) =
            let it = found.each p s (sym (find_kept (λ q. not (test q)) p es ∙ ap (λ b. cond (not b) (find_at p es) None) f) ∙ is) in
            (sym (ap (λ b. b || others (line_at axis p)) f) ∙ it.0, (it.1.0, run_still axis e g m middle merged_here p it.1.0 f it.1.1, it.1.2))

        all : (p : Position) (many : ℕ) → others (line_at axis p) ≡ true → IsRun axis Global g middle p many → (test p ≡ true) ⊎ (test p ≡ false) → find_at p rest ≡ Some (size_of_run axis many)
        all p many is_in run (inl t) = absurd (none_left axis e g m middle merged_here p many t run)
        all p many is_in run (inr f) = find_kept (λ q. not (test q)) p es ∙ ap (λ b. cond (not b) (find_at p es) None) f ∙ found.all p many (ap (λ b. b || others (line_at axis p)) f ∙ is_in) (run_before axis e g m middle merged_here p many f run)

    joined : with_sizes middle rest ≡ with_sizes m es
    joined = same_map _ _ (λ q.
        get-with_sizes rest middle q (sorted-filter (λ (e : Rectangle). not (test e.first)) es found.sorted)
        ∙ ap₂ set_or (find_kept (λ p. not (test p)) q es) (in_middle q)
        ∙ (elim (test q) as (λ b. set_or (cond (not b) (find_at q es) None) (set_or (cond b (find_at q es) None) (get m q)) ≡ set_or (find_at q es) (get m q)) [ true ↦ twice (find_at q es) (get m q) | false ↦ refl ])
        ∙ sym (get-with_sizes es m q found.sorted))
      where
        twice : (o old : Option Size) → set_or None (set_or o old) ≡ set_or o old
        twice o old = refl

  pub each_merged : (es : List Entity) (m : SpanMap) (sizes : List Rectangle) → AreFound (is_named_by axis es) m sizes → MergesEach axis es g m (with_sizes m sizes)
  each_merged [] m sizes found = same_map _ _ (λ q. get-with_sizes sizes m q found.sorted ∙ none q (find_at q sizes) refl)
    where
      none : (q : Position) (o : Option Size) → find_at q sizes ≡ o → set_or (find_at q sizes) (get m q) ≡ get m q
      none q None is = ap (λ (o : Option Size). set_or o (get m q)) is
      none q (Some s) is = absurd (false≢true (found.each q s is).0)
  each_merged (e ∷ es) m sizes found = (
    middle e (is_named_by axis es) m sizes found,
    merged_here e (is_named_by axis es) m sizes found,
    subst (MergesEach axis es g (middle e (is_named_by axis es) m sizes found)) (joined e (is_named_by axis es) m sizes found) (each_merged es (middle e (is_named_by axis es) m sizes found) (rest e (is_named_by axis es) m sizes found) (rest_found e (is_named_by axis es) m sizes found)),
  )

  -- the same lines of the table
  found_alike : (is_in are : ℕ → Bool) (m : SpanMap) (es : List Rectangle) → ((line : ℕ) → line < count_along (across axis) g → is_in line ≡ are line) → AreFound is_in m es → AreFound are m es
  found_alike is_in are m es same found = record {
    sorted = found.sorted;
    each = λ p s is. let it = found.each p s is in (sym (same (line_at axis p) (inside p it.1.0 it.1.1)) ∙ it.0, it.1);
    all = λ p many is run. found.all p many (same (line_at axis p) (inside p many run) ∙ is) run;
  }
    where
      inside : (p : Position) (many : ℕ) → IsRun axis Global g m p many → line_at axis p < count_along (across axis) g
      inside p many run = let at = (begins_named axis Global g m p many run).inside in line_inside axis at.row at.col
        where
          line_inside : (x : Axis) → p.row < g.rows → p.col < g.columns → line_at x p < count_along (across x) g
          line_inside Rows row col = col
          line_inside Columns row col = row

  -- all is merged at once
  pub listed_merged : (is_in : ℕ → Bool) (items : List Entity) (m : SpanMap) (es : List Rectangle) → ((line : ℕ) → line < count_along (across axis) g → is_in line ≡ is_named_by axis items line) → RunsIn axis is_in g m es → MergesEach axis items g m (with_sizes m es)
  listed_merged is_in items m es same listed = each_merged items m es (found_alike is_in (is_named_by axis items) m es same (are_found is_in m es listed))

  -- where no run begins, nothing is merged
  pub none_merged_each : (items : List Entity) (m : SpanMap) → ((p : Position) (many : ℕ) → IsRun axis Global g m p many → ⊥) → MergesEach axis items g m m
  none_merged_each items m none = each_merged items m [] (record { sorted = tt; each = λ p s is. absurd (none-some s is); all = λ p many is run. absurd (none p many run) })

  -- so it is in a table without neighbours
  pub no_neighbours : (m : SpanMap) (size : Size) → size.height ≡ g.rows → size.width ≡ g.columns → (2 ≤ lines_in axis size → 1 ≤ lines_in (across axis) size → ⊥) → (p : Position) (many : ℕ) → IsRun axis Global g m p many → ⊥
  no_neighbours m size high wide never p many run =
      let j = subst (Joins axis Global g m) (further_none axis p) (run.joins 0 (omega (arith, run.some))) in
      no_room axis j.here.inside j.next.inside never
    where
      no_room : (x : Axis) → IsInside g p → IsInside g (further x 1 p) → (2 ≤ lines_in x size → 1 ≤ lines_in (across x) size → ⊥) → ⊥
      no_room Rows here next never = never (omega (arith, next.row, high)) (omega (arith, here.col, wide))
      no_room Columns here next never = never (omega (arith, next.col, wide)) (omega (arith, here.row, high))

  -- no runs in no lines
  pub none_in : (m : SpanMap) → RunsIn axis (λ _. false) g m []
  none_in m = record { sorted = tt; each = tt; all = λ p many is run. absurd (false≢true is) }

  -- those of one entity
  pub runs_named : (e : Entity) (m : SpanMap) (es : List Rectangle) → RunsOf axis e g m es → RunsIn axis (names_line axis e) g m es
  runs_named e m es listed = record {
    sorted = listed.sorted;
    each = all_then {Q = λ (a : Rectangle). (names_line axis e (line_at axis a.first) ≡ true) × IsOfRun axis Global g m a} (λ a it. let named = run_named axis e g m a.first it.0 it.1 in (named, (it.0, run_all axis g m e a.first it.0 named it.1, it.2))) es listed.each;
    all = λ p many named run. listed.all p many (run_on axis g m e p many named run);
  }

  -- those of a block, in some lines of which all cells are in it
  pub runs_kept : (is_in : ℕ → Bool) (m : SpanMap) (block : Rectangle) → ((p : Position) → IsInside g p → is_in (line_at axis p) ≡ true → In block p) → (es : List Rectangle) → RunsFrom axis Global g m block 0 0 es → RunsIn axis is_in g m (filter (λ (e : Rectangle). is_in (line_at axis e.first)) es)
  runs_kept is_in m block holds es listed = record {
    sorted = sorted-filter (λ (e : Rectangle). is_in (line_at axis e.first)) es listed.sorted;
    each = kept es listed.each;
    all = λ p many is run. find_kept (λ q. is_in (line_at axis q)) p es ∙ ap (λ b. cond b (find_at p es) None) is ∙ listed.all p many run (holds p (begins_named axis Global g m p many run).inside is) (before_first p);
  }
    where
      kept : (rest : List Rectangle) → AllByRecursion (IsOfRun axis Global g m) rest → AllByRecursion (λ (e : Rectangle). (is_in (line_at axis e.first) ≡ true) × IsOfRun axis Global g m e) (filter (λ (e : Rectangle). is_in (line_at axis e.first)) rest)
      kept [] each = tt
      kept (a ∷ rest) each = elim (is_in (line_at axis a.first)) as (λ b. is_in (line_at axis a.first) ≡ b → AllByRecursion (λ (e : Rectangle). (is_in (line_at axis e.first) ≡ true) × IsOfRun axis Global g m e) (cond b (a ∷ filter (λ (e : Rectangle). is_in (line_at axis e.first)) rest) (filter (λ (e : Rectangle). is_in (line_at axis e.first)) rest))) [
        | true ↦ λ t. ((t, each.0), kept rest each.1)
        | false ↦ λ f. kept rest each.1
      ] refl

  -- their sizes are those of cells or more
  pub runs_full : (is_in : ℕ → Bool) (m : SpanMap) (es : List Rectangle) → RunsIn axis is_in g m es → AllByRecursion HasArea es
  runs_full is_in m es listed = sizes_full axis Global g m es (all_then {Q = IsOfRun axis Global g m} (λ e it. it.1) es listed.each)

-- merges of texts are what the option does on one entity after another
pub each_option : {A : Type 0} (text_of : A → List ℕ) (axis : Axis) (items : List Entity) (g : Grid A) (m n : SpanMap) → MergesEach axis items (map_grid text_of g) m n → Each (λ e. (λ (x : Grid A) (c : SpanMap) (h : Grid A) (d : SpanMap). (h ≡ x) × MergesRuns axis e (map_grid text_of x) c d)) items g m g n
each_option text_of axis [] g m n is = (refl, is)
each_option text_of axis (e ∷ items) g m n each = (g, each.0, (refl, each.1), each_option text_of axis items g each.0 n each.2)

-- what is refused on some entities is refused on the first of them, and leaves all as it was
pub refused_first : {A C X : Type 0} (does : X → Change A C) (items : List X) (g : Grid A) (c : C) → (items ≡ [] → ⊥) → EachUntil does (λ _. SameOr Same) items g c g c
refused_first does [] g c some = absurd (some refl)
refused_first does (x ∷ xs) g c some = (0, record { item = x; is = refl; grid = g; configuration = c; before = (refl, refl); left = inl (refl, refl) })

pub left_first : {A C X : Type 0} (does : X → Change A C) (items : List X) (g : Grid A) (c d : C) → d ≡ c → (items ≡ [] → ⊥) → EachUntil does (λ _. SameOr Same) items g c g d
left_first does items g c d same some = subst (λ k. EachUntil does (λ _. SameOr Same) items g c g k) (sym same) (refused_first does items g c some)
