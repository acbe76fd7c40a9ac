-- The bytes of elements are read as these elements, with the texts as they are shown.
use Rattle.std.proofs.Common.{◌≡◌, ◌∙◌, ◌++◌, ℕ, Bool, true, false, List, [], ◌∷◌, None, Option, Some, ap, append-nil, append_assoc, cond, eqb, fold, map, not, refl, sym}
use Rattle.std.proofs.lemmas.Bool.{and_parts}
use Rattle.std.specs.List.{AllByRecursion, flat_map}
use Rattle.std.specs.Option.{option_map}
use Rattle.std.specs.Prelude.{codes}
use Rattle.tabled_html_reading.proofs.Slots.{fold-then}
use Rattle.tabled_html_reading.proofs.ReadBack.{emit-then, has_no_nul, has_no_return, no_nul-shown, no_return-attributes, no_return-escaped, no_return-then, normal, read-attributes, read-escaped}
use Rattle.tabled_html_reading.specs.Building.{Built, Mode, built_after, closed, end_cell, parsed, table_of}
use Rattle.tabled_html_reading.specs.Building.Mode.{Behind, InBody, InCaption, InCell, InRow, InTable, InTableBody}
use Rattle.tabled_html_reading.specs.Bytes.{attributes_bytes, caption_bytes, cell_bytes, cell_end, cell_start, group_bytes, group_end, group_start, row_bytes, table_bytes}
use Rattle.tabled_html_reading.specs.Elements.{Attribute, Element, Group, Table}
use Rattle.tabled_html_reading.specs.Escaping.{escaped, shown}
use Rattle.tabled_html_reading.specs.Showing.{ArePlain, AreWritable, are_apart, IsTableWritable, IsWritable, shown_element, shown_group, shown_table}
use Rattle.tabled_html_reading.specs.Tokenizing.{Token, characters, emit, tag, tokens, tokens_from}
use Rattle.tabled_html_reading.specs.Tokenizing.State.{Data}
use Rattle.tabled_html_reading.specs.Tokenizing.Token.{Character, Marked}

-- ---- the tokens of elements

abbrev pub cell_name : Bool → List ℕ
cell_name is_header = cond is_header (codes "th") (codes "td")

abbrev pub group_name : Bool → List ℕ
group_name is_head = cond is_head (codes "thead") (codes "tbody")

abbrev pub start : List ℕ → List Attribute → Token
start name attributes = Marked (record { is_end = false; name = name; attributes = attributes })

abbrev pub end : List ℕ → Token
end name = Marked (tag true name)

abbrev pub cell_tokens : Element → List Token
cell_tokens e = start (cell_name e.is_header) e.attributes ∷ (characters (shown e.text) ++ (end (cell_name e.is_header) ∷ []))

abbrev pub row_tokens : List Element → List Token
row_tokens cells = start (codes "tr") [] ∷ (flat_map cell_tokens cells ++ (end (codes "tr") ∷ Character 10 ∷ []))

abbrev pub group_tokens : Group → List Token
group_tokens g = start (group_name g.is_head) [] ∷ Character 10 ∷ (flat_map row_tokens g.rows ++ (end (group_name g.is_head) ∷ Character 10 ∷ []))

abbrev pub caption_tokens : Option (List ℕ) → List Token
caption_tokens None = []
caption_tokens (Some text) = start (codes "caption") [] ∷ (characters (shown text) ++ (end (codes "caption") ∷ Character 10 ∷ []))

abbrev pub table_tokens : Table → List Token
table_tokens t = start (codes "table") t.attributes ∷ Character 10 ∷ (caption_tokens t.caption ++ (flat_map group_tokens t.groups ++ (end (codes "table") ∷ Character 10 ∷ [])))

-- ---- bytes are read as tokens

-- bytes are read as tokens, before any others
abbrev pub ReadsAs : List ℕ → List Token → Type 0
ReadsAs bytes ts = (bs : List ℕ) → tokens_from (bytes ++ bs) Data ≡ emit ts (tokens_from bs Data)

none-read : (read : Option (List Token)) → read ≡ emit [] read
none-read None = refl
none-read (Some more) = refl

read-then : (xs ys : List ℕ) (ss ts : List Token) → ReadsAs xs ss → ReadsAs ys ts → ReadsAs (xs ++ ys) (ss ++ ts)
read-then xs ys ss ts first second bs =
    ap (λ zs. tokens_from zs Data) (append_assoc xs ys bs) ∙ first (ys ++ bs) ∙ ap (emit ss) (second bs) ∙ emit-then ss ts (tokens_from bs Data)

read-all : {A : Type 0} (P : A → Type 0) (bytes : A → List ℕ) (ts : A → List Token) → ((x : A) → P x → ReadsAs (bytes x) (ts x)) → (xs : List A) → AllByRecursion P xs → ReadsAs (flat_map bytes xs) (flat_map ts xs)
read-all P bytes ts each [] all bs = none-read (tokens_from bs Data)
read-all P bytes ts each (x ∷ xs) all bs = read-then (bytes x) (flat_map bytes xs) (ts x) (flat_map ts xs) (each x all.0) (read-all P bytes ts each xs all.1) bs

read-text : (text : List ℕ) → ReadsAs (escaped text) (characters (shown text))
read-text text bs = read-escaped text bs

read-start : (is_header : Bool) (attributes : List Attribute) → ArePlain attributes → are_apart attributes ≡ true → ReadsAs (cell_start is_header ++ attributes_bytes attributes) (start (cell_name is_header) attributes ∷ [])
read-start true attributes plain apart bs = read-attributes false (codes "th") attributes bs plain apart
read-start false attributes plain apart bs = read-attributes false (codes "td") attributes bs plain apart

read-end : (is_header : Bool) → ReadsAs (cell_end is_header) (end (cell_name is_header) ∷ [])
read-end true bs = refl
read-end false bs = refl

read-cell : (e : Element) → IsWritable e → ReadsAs (cell_bytes e) (cell_tokens e)
read-cell e well bs =
    ap (λ xs. tokens_from (xs ++ bs) Data) (sym (append_assoc (cell_start e.is_header) (attributes_bytes e.attributes) (escaped e.text ++ cell_end e.is_header)))
    ∙ read-then (cell_start e.is_header ++ attributes_bytes e.attributes) (escaped e.text ++ cell_end e.is_header) (start (cell_name e.is_header) e.attributes ∷ []) (characters (shown e.text) ++ (end (cell_name e.is_header) ∷ []))
    (read-start e.is_header e.attributes well.plain well.apart)
    (read-then (escaped e.text) (cell_end e.is_header) (characters (shown e.text)) (end (cell_name e.is_header) ∷ []) (read-text e.text) (read-end e.is_header)) bs

read-row-start : ReadsAs (codes "<tr>") (start (codes "tr") [] ∷ [])
read-row-start bs = refl

read-row-end : ReadsAs (codes "</tr>\n") (end (codes "tr") ∷ Character 10 ∷ [])
read-row-end bs = emit-then (end (codes "tr") ∷ []) (Character 10 ∷ []) (tokens_from bs Data)

read-row : (cells : List Element) → AllByRecursion IsWritable cells → ReadsAs (row_bytes cells) (row_tokens cells)
read-row cells well =
    read-then (codes "<tr>") (flat_map cell_bytes cells ++ codes "</tr>\n") (start (codes "tr") [] ∷ []) (flat_map cell_tokens cells ++ (end (codes "tr") ∷ Character 10 ∷ [])) read-row-start
    (read-then (flat_map cell_bytes cells) (codes "</tr>\n") (flat_map cell_tokens cells) (end (codes "tr") ∷ Character 10 ∷ []) (read-all IsWritable cell_bytes cell_tokens read-cell cells well) read-row-end)

read-group-start : (is_head : Bool) → ReadsAs (group_start is_head) (start (group_name is_head) [] ∷ Character 10 ∷ [])
read-group-start true bs = emit-then (start (codes "thead") [] ∷ []) (Character 10 ∷ []) (tokens_from bs Data)
read-group-start false bs = emit-then (start (codes "tbody") [] ∷ []) (Character 10 ∷ []) (tokens_from bs Data)

read-group-end : (is_head : Bool) → ReadsAs (group_end is_head) (end (group_name is_head) ∷ Character 10 ∷ [])
read-group-end true bs = emit-then (end (codes "thead") ∷ []) (Character 10 ∷ []) (tokens_from bs Data)
read-group-end false bs = emit-then (end (codes "tbody") ∷ []) (Character 10 ∷ []) (tokens_from bs Data)

read-group : (g : Group) → AreWritable g.rows → ReadsAs (group_bytes g) (group_tokens g)
read-group g well =
    let last : List Token = end (group_name g.is_head) ∷ Character 10 ∷ [] in
    read-then (group_start g.is_head) (flat_map row_bytes g.rows ++ group_end g.is_head) (start (group_name g.is_head) [] ∷ Character 10 ∷ []) (flat_map row_tokens g.rows ++ last) (read-group-start g.is_head)
    (read-then (flat_map row_bytes g.rows) (group_end g.is_head) (flat_map row_tokens g.rows) last (read-all (AllByRecursion IsWritable) row_bytes row_tokens read-row g.rows well) (read-group-end g.is_head))

read-caption-start : ReadsAs (codes "<caption>") (start (codes "caption") [] ∷ [])
read-caption-start bs = refl

read-caption-end : ReadsAs (codes "</caption>\n") (end (codes "caption") ∷ Character 10 ∷ [])
read-caption-end bs = emit-then (end (codes "caption") ∷ []) (Character 10 ∷ []) (tokens_from bs Data)

read-caption : (caption : Option (List ℕ)) → ReadsAs (caption_bytes caption) (caption_tokens caption)
read-caption None bs = none-read (tokens_from bs Data)
read-caption (Some text) bs =
    let last : List Token = end (codes "caption") ∷ Character 10 ∷ [] in
    read-then (codes "<caption>") (escaped text ++ codes "</caption>\n") (start (codes "caption") [] ∷ []) (characters (shown text) ++ last) read-caption-start
    (read-then (escaped text) (codes "</caption>\n") (characters (shown text)) last (read-text text) read-caption-end) bs

read-table-start : (attributes : List Attribute) → ArePlain attributes → are_apart attributes ≡ true → ReadsAs (codes "<table" ++ attributes_bytes attributes) (start (codes "table") attributes ∷ [])
read-table-start attributes plain apart bs = read-attributes false (codes "table") attributes bs plain apart

read-feed : ReadsAs (10 ∷ []) (Character 10 ∷ [])
read-feed bs = refl

read-table-end : ReadsAs (codes "</table>\n") (end (codes "table") ∷ Character 10 ∷ [])
read-table-end bs = emit-then (end (codes "table") ∷ []) (Character 10 ∷ []) (tokens_from bs Data)

read-table : (t : Table) → IsTableWritable t → tokens_from (table_bytes t) Data ≡ Some (table_tokens t)
read-table t well =
    let c = caption_bytes t.caption in
    let g = flat_map group_bytes t.groups in
    let last : List Token = end (codes "table") ∷ Character 10 ∷ [] in
    let behind : ReadsAs (c ++ (g ++ codes "</table>\n")) (caption_tokens t.caption ++ (flat_map group_tokens t.groups ++ last)) =
    read-then c (g ++ codes "</table>\n") (caption_tokens t.caption) (flat_map group_tokens t.groups ++ last) (read-caption t.caption)
    (read-then g (codes "</table>\n") (flat_map group_tokens t.groups) last (read-all (λ (g : Group). AreWritable g.rows) group_bytes group_tokens read-group t.groups well.groups) read-table-end) in
    let all = read-then (codes "<table" ++ attributes_bytes t.attributes) (10 ∷ (c ++ (g ++ codes "</table>\n"))) (start (codes "table") t.attributes ∷ []) (Character 10 ∷ (caption_tokens t.caption ++ (flat_map group_tokens t.groups ++ last))) (read-table-start t.attributes well.attributes well.apart)
    (read-then (10 ∷ []) (c ++ (g ++ codes "</table>\n")) (Character 10 ∷ []) (caption_tokens t.caption ++ (flat_map group_tokens t.groups ++ last)) read-feed behind) [] in
    ap (λ xs. tokens_from xs Data) (sym (append-nil (table_bytes t)) ∙ ap (λ xs. xs ++ []) (sym (append_assoc (codes "<table") (attributes_bytes t.attributes) (10 ∷ (c ++ (g ++ codes "</table>\n"))))))
    ∙ all
    ∙ ap Some (append-nil (table_tokens t))

-- ---- no carriage return is written

no_return-each : {A : Type 0} (P : A → Type 0) (bytes : A → List ℕ) → ((x : A) → P x → has_no_return (bytes x) ≡ true) → (xs : List A) → AllByRecursion P xs → has_no_return (flat_map bytes xs) ≡ true
no_return-each P bytes each [] all = refl
no_return-each P bytes each (x ∷ xs) all = no_return-then (bytes x) (flat_map bytes xs) (each x all.0) (no_return-each P bytes each xs all.1)

no_return-cell : (e : Element) → IsWritable e → has_no_return (cell_bytes e) ≡ true
no_return-cell e well =
    no_return-then (cell_start e.is_header) _ (starts e.is_header)
    (no_return-then (attributes_bytes e.attributes) _ (no_return-attributes e.attributes well.plain)
    (no_return-then (escaped e.text) (cell_end e.is_header) (no_return-escaped e.text) (ends e.is_header)))
  where
    starts : (h : Bool) → has_no_return (cell_start h) ≡ true
    starts true = refl
    starts false = refl

    ends : (h : Bool) → has_no_return (cell_end h) ≡ true
    ends true = refl
    ends false = refl

no_return-row : (cells : List Element) → AllByRecursion IsWritable cells → has_no_return (row_bytes cells) ≡ true
no_return-row cells well = no_return-then (flat_map cell_bytes cells) (codes "</tr>\n") (no_return-each IsWritable cell_bytes no_return-cell cells well) refl

no_return-group : (g : Group) → AreWritable g.rows → has_no_return (group_bytes g) ≡ true
no_return-group g well =
    no_return-then (group_start g.is_head) _ (starts g.is_head)
    (no_return-then (flat_map row_bytes g.rows) (group_end g.is_head) (no_return-each (AllByRecursion IsWritable) row_bytes no_return-row g.rows well) (ends g.is_head))
  where
    starts : (h : Bool) → has_no_return (group_start h) ≡ true
    starts true = refl
    starts false = refl

    ends : (h : Bool) → has_no_return (group_end h) ≡ true
    ends true = refl
    ends false = refl

no_return-caption : (caption : Option (List ℕ)) → has_no_return (caption_bytes caption) ≡ true
no_return-caption None = refl
no_return-caption (Some text) = no_return-then (escaped text) (codes "</caption>\n") (no_return-escaped text) refl

no_return-table : (t : Table) → IsTableWritable t → has_no_return (table_bytes t) ≡ true
no_return-table t well =
    no_return-then (attributes_bytes t.attributes) _ (no_return-attributes t.attributes well.attributes)
    (no_return-then (caption_bytes t.caption) _ (no_return-caption t.caption)
    (no_return-then (flat_map group_bytes t.groups) (codes "</table>\n") (no_return-each (λ (g : Group). AreWritable g.rows) group_bytes no_return-group t.groups well.groups) refl))

table-tokens : (t : Table) → IsTableWritable t → tokens (table_bytes t) ≡ Some (table_tokens t)
table-tokens t well = ap (λ bs. tokens_from bs Data) (normal (table_bytes t) (no_return-table t well)) ∙ read-table t well

-- ---- tokens are built into elements

-- where a row group is open
abbrev pub in_group : Mode → Table → Bool → List (List Element) → List Element → Built
in_group mode table is_head rows cells = record { mode = mode; table = table; is_head = is_head; rows = rows; cells = cells; is_header = false; attributes = []; text = [] }

-- what is built, in a cell or a caption
abbrev pub in_text : Built → List ℕ → Built
in_text b text = record b { text = text }

-- a mode of texts
abbrev pub IsTextMode : Mode → Type 0
IsTextMode InCell = Unit {0}
IsTextMode InCaption = Unit {0}
IsTextMode _ = ⊥

characters-built : (b : Built) (text bs : List ℕ) → IsTextMode b.mode → has_no_nul bs ≡ true → fold built_after (Some (in_text b text)) (characters bs) ≡ Some (in_text b (text ++ bs))
characters-built b text [] mode none = ap (λ x. Some (in_text b x)) (sym (append-nil text))
characters-built b text (c ∷ bs) mode none =
    ap (λ o. fold built_after o (characters bs)) (one b.mode mode (eqb c 0) refl (and_parts _ _ none).0)
    ∙ characters-built b (text ++ (c ∷ [])) bs mode (and_parts _ _ none).1
    ∙ ap (λ x. Some (in_text b x)) (append_assoc text (c ∷ []) bs)
  where
    one : (m : Mode) → IsTextMode m → (z : Bool) → eqb c 0 ≡ z → not (eqb c 0) ≡ true → built_after (Some (in_text (record b { mode = m }) text)) (Character c) ≡ Some (in_text (record b { mode = m }) (text ++ (c ∷ [])))
    one InCell mode true e h = let f : false ≡ true = ap not (sym e) ∙ h in cc
    one InCell mode false e h = rw e refl
    one InCaption mode true e h = let f : false ≡ true = ap not (sym e) ∙ h in cc
    one InCaption mode false e h = rw e refl
    one InBody mode z e h = absurd mode
    one InTable mode z e h = absurd mode
    one InTableBody mode z e h = absurd mode
    one InRow mode z e h = absurd mode
    one Behind mode z e h = absurd mode

cell-built : (table : Table) (is_head : Bool) (rows : List (List Element)) (done : List Element) (e : Element) → IsWritable e → fold built_after (Some (in_group InRow table is_head rows done)) (cell_tokens e) ≡ Some (in_group InRow table is_head rows (done ++ (shown_element e ∷ [])))
cell-built table is_head rows done e well = of-kind e.is_header
  where
    open_cell : Bool → Built
    open_cell h = record { mode = InCell; table = table; is_head = is_head; rows = rows; cells = done; is_header = h; attributes = e.attributes; text = [] }

    end-built : (h : Bool) → end_cell (in_text (open_cell h) (shown e.text)) ≡ Some (in_group InRow table is_head rows (done ++ (record { is_header = h; attributes = e.attributes; text = shown e.text } ∷ [])))
    end-built h = rw well.spans refl

    of-kind : (h : Bool) → fold built_after (Some (in_group InRow table is_head rows done)) (start (cell_name h) e.attributes ∷ (characters (shown e.text) ++ (end (cell_name h) ∷ []))) ≡ Some (in_group InRow table is_head rows (done ++ (record { is_header = h; attributes = e.attributes; text = shown e.text } ∷ [])))
    of-kind true =
        fold-then built_after (Some (open_cell true)) (characters (shown e.text)) (end (codes "th") ∷ [])
        ∙ ap (λ b. built_after b (end (codes "th"))) (characters-built (open_cell true) [] (shown e.text) tt (no_nul-shown e.text)) ∙ end-built true
    of-kind false =
        fold-then built_after (Some (open_cell false)) (characters (shown e.text)) (end (codes "td") ∷ [])
        ∙ ap (λ b. built_after b (end (codes "td"))) (characters-built (open_cell false) [] (shown e.text) tt (no_nul-shown e.text)) ∙ end-built false

cells-built : (table : Table) (is_head : Bool) (rows : List (List Element)) (done cells : List Element) → AllByRecursion IsWritable cells → fold built_after (Some (in_group InRow table is_head rows done)) (flat_map cell_tokens cells) ≡ Some (in_group InRow table is_head rows (done ++ map shown_element cells))
cells-built table is_head rows done [] well = ap (λ x. Some (in_group InRow table is_head rows x)) (sym (append-nil done))
cells-built table is_head rows done (e ∷ cells) well =
    fold-then built_after (Some (in_group InRow table is_head rows done)) (cell_tokens e) (flat_map cell_tokens cells)
    ∙ ap (λ b. fold built_after b (flat_map cell_tokens cells)) (cell-built table is_head rows done e well.0)
    ∙ cells-built table is_head rows (done ++ (shown_element e ∷ [])) cells well.1
    ∙ ap (λ x. Some (in_group InRow table is_head rows x)) (append_assoc done (shown_element e ∷ []) (map shown_element cells))

row-built : (table : Table) (is_head : Bool) (rows : List (List Element)) (cells : List Element) → AllByRecursion IsWritable cells → fold built_after (Some (in_group InTableBody table is_head rows [])) (row_tokens cells) ≡ Some (in_group InTableBody table is_head (rows ++ (map shown_element cells ∷ [])) [])
row-built table is_head rows cells well =
    fold-then built_after (Some (in_group InRow table is_head rows [])) (flat_map cell_tokens cells) (end (codes "tr") ∷ Character 10 ∷ [])
    ∙ ap (λ b. fold built_after b (end (codes "tr") ∷ Character 10 ∷ [])) (cells-built table is_head rows [] cells well)

rows-built : (table : Table) (is_head : Bool) (done rows : List (List Element)) → AreWritable rows → fold built_after (Some (in_group InTableBody table is_head done [])) (flat_map row_tokens rows) ≡ Some (in_group InTableBody table is_head (done ++ map (map shown_element) rows) [])
rows-built table is_head done [] well = ap (λ x. Some (in_group InTableBody table is_head x [])) (sym (append-nil done))
rows-built table is_head done (cells ∷ rows) well =
    fold-then built_after (Some (in_group InTableBody table is_head done [])) (row_tokens cells) (flat_map row_tokens rows)
    ∙ ap (λ b. fold built_after b (flat_map row_tokens rows)) (row-built table is_head done cells well.0)
    ∙ rows-built table is_head (done ++ (map shown_element cells ∷ [])) rows well.1
    ∙ ap (λ x. Some (in_group InTableBody table is_head x [])) (append_assoc done (map shown_element cells ∷ []) (map (map shown_element) rows))

-- where no row group is open
abbrev pub in_table : List Attribute → Option (List ℕ) → List Group → Built
in_table attributes caption groups = in_group InTable (record { attributes = attributes; caption = caption; groups = groups }) false [] []

module _ (attributes : List Attribute) (caption : Option (List ℕ)) where
  abbrev table_with : List Group → Table
  table_with groups = record { attributes = attributes; caption = caption; groups = groups }

  group-built : (done : List Group) (g : Group) → AreWritable g.rows → fold built_after (Some (in_table attributes caption done)) (group_tokens g) ≡ Some (in_table attributes caption (done ++ (shown_group g ∷ [])))
  group-built done g well = of-kind g.is_head
    where
      of-kind : (h : Bool) → fold built_after (Some (in_table attributes caption done)) (start (group_name h) [] ∷ Character 10 ∷ (flat_map row_tokens g.rows ++ (end (group_name h) ∷ Character 10 ∷ []))) ≡ Some (in_table attributes caption (done ++ (record { is_head = h; rows = map (map shown_element) g.rows } ∷ [])))
      of-kind true =
          fold-then built_after (Some (in_group InTableBody (table_with done) true [] [])) (flat_map row_tokens g.rows) (end (codes "thead") ∷ Character 10 ∷ [])
          ∙ ap (λ b. fold built_after b (end (codes "thead") ∷ Character 10 ∷ [])) (rows-built (table_with done) true [] g.rows well)
      of-kind false =
          fold-then built_after (Some (in_group InTableBody (table_with done) false [] [])) (flat_map row_tokens g.rows) (end (codes "tbody") ∷ Character 10 ∷ [])
          ∙ ap (λ b. fold built_after b (end (codes "tbody") ∷ Character 10 ∷ [])) (rows-built (table_with done) false [] g.rows well)

  groups-built : (done groups : List Group) → AllByRecursion (λ (g : Group). AreWritable g.rows) groups → fold built_after (Some (in_table attributes caption done)) (flat_map group_tokens groups) ≡ Some (in_table attributes caption (done ++ map shown_group groups))
  groups-built done [] well = ap (λ x. Some (in_table attributes caption x)) (sym (append-nil done))
  groups-built done (g ∷ groups) well =
      fold-then built_after (Some (in_table attributes caption done)) (group_tokens g) (flat_map group_tokens groups)
      ∙ ap (λ b. fold built_after b (flat_map group_tokens groups)) (group-built done g well.0)
      ∙ groups-built (done ++ (shown_group g ∷ [])) groups well.1
      ∙ ap (λ x. Some (in_table attributes caption x)) (append_assoc done (shown_group g ∷ []) (map shown_group groups))

caption-built : (attributes : List Attribute) (caption : Option (List ℕ)) → fold built_after (Some (in_table attributes None [])) (caption_tokens caption) ≡ Some (in_table attributes (option_map shown caption) [])
caption-built attributes None = refl
caption-built attributes (Some text) =
    fold-then built_after (Some open_caption) (characters (shown text)) (end (codes "caption") ∷ Character 10 ∷ [])
    ∙ ap (λ b. fold built_after b (end (codes "caption") ∷ Character 10 ∷ [])) (characters-built open_caption [] (shown text) tt (no_nul-shown text))
  where
    open_caption : Built
    open_caption = record (in_table attributes None []) { mode = InCaption }

table-built : (t : Table) → IsTableWritable t → table_of (Some (table_tokens t)) ≡ Some (shown_table t)
table-built t well =
    let last : List Token = end (codes "table") ∷ Character 10 ∷ [] in
    let opened = in_table t.attributes None [] in
    ap closed (
    fold-then built_after (Some opened) (caption_tokens t.caption) (flat_map group_tokens t.groups ++ last)
    ∙ ap (λ b. fold built_after b (flat_map group_tokens t.groups ++ last)) (caption-built t.attributes t.caption)
    ∙ fold-then built_after (Some (in_table t.attributes (option_map shown t.caption) [])) (flat_map group_tokens t.groups) last
    ∙ ap (λ b. fold built_after b last) (groups-built t.attributes (option_map shown t.caption) [] t.groups well.groups))

pub table-parsed : (t : Table) → IsTableWritable t → parsed (table_bytes t) ≡ Some (shown_table t)
table-parsed t well = ap table_of (table-tokens t well) ∙ table-built t well
