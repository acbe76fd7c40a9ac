-- What lines say and ask for, by their words.
use Rattle.tabled_language.proofs.Common.{[], ◌&&◌, ◌++◌, ◌+◌, ◌<◌, ◌∙◌, ◌∷◌, ◌≡◌, ◌≢◌, ◌≤◌, Bool, Draft, Err, Fault, Faulty, IsUtf8-from_is_utf8, Line, List, None, Ok, Option, OutOfMemory, OutOfPlace, LineError, ReadsLine, RecordLine, Rectangle, Result, ShapeLine, Some, SpanLine, State, anchor_in, and_from, and_parts, ap, arith, behind, bytes_eq, cond, false, false_from_ne_true, fault_of, first_fault, is_in_place, is_ok, is_plain, keeping_asks, length, meaning_of, none-some, not-true, or_right, reads_anchor, reads_shape, refl, remove, says_line, slice_index_or, step_line, steps, sym, texts_of, true, whole, words_fault, words_of, ℕ, GivenLine, InBytes, InWords, EmptyLine, given_asks, lines_ask, line_asks, words_ask, verb_asks, step_asks, says_given, make_empty_line, filter_map, map, ◌||◌}
use Rattle.std.specs.Prelude.{codes}
use Rattle.std.proofs.lemmas.Slice.Eq.{bytes_eq-Decides}
use Rattle.tabled_language.specs.Verb.{says_step, says_verb}
use Rattle.tabled_language.proofs.DraftLines.{parts_none}
use Rattle.tabled_language.proofs.PlainLines.{texts_of-plain}

-- a line without a fault stands in its place
in_its_place : (earlier : List Line) (line : Line) → fault_of earlier line ≡ None → is_in_place earlier line ≡ true
in_its_place earlier line fine = told_in_place (is_in_place earlier line) fine
  where
    told_in_place : (b : Bool) → cond b (words_fault line) (Some OutOfPlace) ≡ None → b ≡ true
    told_in_place true e = refl
    told_in_place false e = absurd (none-some OutOfPlace (sym e))

-- words that say an anchor ask for memory in their place
words_ask-span : (in_place : Line → Bool) (words : List (List ℕ)) (anchor : Rectangle) → anchor_in (meaning_of (Some words)) ≡ Some anchor → in_place (meaning_of (Some words)) ≡ true → words_ask in_place words ≡ true
words_ask-span in_place [] anchor is here = absurd (none-some anchor is)
words_ask-span in_place (verb ∷ texts) anchor is here = whichever_verb (bytes_eq verb (codes "row")) (bytes_eq verb (codes "shape")) (bytes_eq verb (codes "span")) is here
  where
    anchor_is_read : (read : Result Rectangle Fault) → anchor_in (SpanLine read) ≡ Some anchor → is_ok read ≡ true
    anchor_is_read (Ok e) is = refl
    anchor_is_read (Err fault) is = absurd (none-some anchor is)

    step_has_no_anchor : (read : Result (State → State) Fault) → anchor_in (step_line read) ≡ None
    step_has_no_anchor (Ok step) = refl
    step_has_no_anchor (Err fault) = refl

    whichever_verb : (row shape span : Bool) → anchor_in (cond row (RecordLine texts) (cond shape (ShapeLine (whole reads_shape texts)) (cond span (SpanLine (whole reads_anchor texts)) (step_line (whole (behind steps verb) texts))))) ≡ Some anchor → in_place (cond row (RecordLine texts) (cond shape (ShapeLine (whole reads_shape texts)) (cond span (SpanLine (whole reads_anchor texts)) (step_line (whole (behind steps verb) texts))))) ≡ true → cond row (in_place (RecordLine texts)) (cond shape false (cond span (in_place (SpanLine (whole reads_anchor texts)) && keeping_asks reads_anchor texts) (keeping_asks (behind steps verb) texts))) ≡ true
    whichever_verb true shape span is here = here
    whichever_verb false true span is here = absurd (none-some anchor is)
    whichever_verb false false true is here = and_from _ _ here (or_right (reads_anchor.asks texts) _ (anchor_is_read (whole reads_anchor texts) is))
    whichever_verb false false false is here = absurd (none-some anchor (sym (step_has_no_anchor (whole (behind steps verb) texts)) ∙ is))

-- so does a line
line_asks-span : (in_place : Line → Bool) (line : List ℕ) (anchor : Rectangle) → anchor_in (says_line line) ≡ Some anchor → in_place (says_line line) ≡ true → line_asks in_place line ≡ true
line_asks-span in_place [] anchor is here = absurd (none-some anchor is)
line_asks-span in_place (b ∷ bs) anchor is here = plain_or_not (is_plain (b ∷ bs)) refl
  where
    plain_or_not : (plain : Bool) → is_plain (b ∷ bs) ≡ plain → cond plain (words_ask in_place (words_of (b ∷ bs))) true ≡ true
    plain_or_not false e = refl
    plain_or_not true e =
        let parts = and_parts _ _ e in
        let said : says_line (b ∷ bs) ≡ meaning_of (Some (words_of (b ∷ bs))) = ap meaning_of (texts_of-plain (b ∷ bs) (IsUtf8-from_is_utf8 (b ∷ bs) parts.0) (not-true _ parts.1)) in
        words_ask-span in_place (words_of (b ∷ bs)) anchor (ap anchor_in (sym said) ∙ is) (ap in_place (sym said) ∙ here)

-- so does a line as it is given
given_asks-span : (in_place : Line → Bool) (line : GivenLine) (anchor : Rectangle) → anchor_in (says_given line) ≡ Some anchor → in_place (says_given line) ≡ true → given_asks in_place line ≡ true
given_asks-span in_place (InBytes line) anchor is here = line_asks-span in_place line anchor is here
given_asks-span in_place (InWords words) anchor is here = empty_or_not (make_empty_line words) is here
  where
    empty_or_not : (empty : Bool) → anchor_in (cond empty EmptyLine (meaning_of (Some words))) ≡ Some anchor → in_place (cond empty EmptyLine (meaning_of (Some words))) ≡ true → words_ask in_place words ≡ true
    empty_or_not true is here = absurd (none-some anchor is)
    empty_or_not false is here = words_ask-span in_place words anchor is here

-- a line asks alike by two tests that answer alike
pub given_asks-alike : (p q : Line → Bool) (line : GivenLine) → ((l : Line) → p l ≡ q l) → given_asks p line ≡ given_asks q line
given_asks-alike p q line same = given line
  where
    words_alike : (texts : List (List ℕ)) → words_ask p texts ≡ words_ask q texts
    words_alike [] = refl
    words_alike (verb ∷ texts) = rw (same (RecordLine texts), same (SpanLine (whole reads_anchor texts))) refl

    given : (line : GivenLine) → given_asks p line ≡ given_asks q line
    given (InBytes line) = ap (λ b. cond (is_plain line) b true) (words_alike (words_of line))
    given (InWords words) = words_alike words

-- lines without a fault by themselves ask for memory where one says an anchor
pub lines_ask-anchors : (earlier : List Line) (lines : List GivenLine) → first_fault fault_of earlier (map says_given lines) ≡ None → 0 < length (filter_map anchor_in (map says_given lines)) → lines_ask earlier lines ≡ true
lines_ask-anchors earlier [] fine some = absurd (omega (arith, some))
lines_ask-anchors earlier (line ∷ lines) fine some =
    let parts = parts_none fault_of earlier (says_given line) (map says_given lines) fine in
    anchor_or_not (anchor_in (says_given line)) refl parts.0 (lines_ask-anchors (earlier ++ says_given line ∷ []) lines parts.1)
  where
    anchor_or_not : (o : Option Rectangle) → anchor_in (says_given line) ≡ o → fault_of earlier (says_given line) ≡ None → (0 < length (filter_map anchor_in (map says_given lines)) → lines_ask (earlier ++ says_given line ∷ []) lines ≡ true) → lines_ask earlier (line ∷ lines) ≡ true
    anchor_or_not None e here later = or_right (given_asks (is_in_place earlier) line) _ (rw here (later (rw e at some)))
    anchor_or_not (Some anchor) e here later = rw (given_asks-span (is_in_place earlier) line anchor e (in_its_place earlier (says_given line) here)) refl

-- a line with bytes says what its texts say
pub line_of-texts : (line : List ℕ) (texts : List (List ℕ)) → length line ≢ 0 → texts_of (words_of line) ≡ Some texts → says_line line ≡ meaning_of (Some texts)
line_of-texts [] texts some is = absurd (some refl)
line_of-texts (b ∷ bs) texts some is = ap meaning_of is

-- a plain line asks for memory as its words do
pub line_asks-plain : (in_place : Line → Bool) (line : List ℕ) → is_plain line ≡ true → line_asks in_place line ≡ words_ask in_place (words_of line)
line_asks-plain in_place line plain = rw plain refl

-- any other does
pub line_asks-texts : (in_place : Line → Bool) (line : List ℕ) → is_plain line ≡ false → line_asks in_place line ≡ true
line_asks-texts in_place line plain = rw plain refl

-- another word isn't this one
differ : (verb name : List ℕ) → verb ≢ name → bytes_eq verb name ≡ false
differ verb name other = false_from_ne_true (bytes_eq verb name) (λ same. other ((bytes_eq-Decides verb name).0 same))

-- texts whose verb isn't `row` say what it says with those after it
pub meaning_of-verb : (texts : List (List ℕ)) (verb : List ℕ) (others : List (List ℕ)) → texts ≡ verb ∷ others → verb ≢ codes "row" → meaning_of (Some texts) ≡ says_verb verb others
meaning_of-verb texts verb others is row = rw (is, differ verb (codes "row") row) refl

-- they ask for memory as the verb does
pub words_ask-verb : (in_place : Line → Bool) (texts : List (List ℕ)) (verb : List ℕ) (others : List (List ℕ)) → texts ≡ verb ∷ others → verb ≢ codes "row" → words_ask in_place texts ≡ verb_asks in_place verb others
words_ask-verb in_place texts verb others is row = rw (is, differ verb (codes "row") row) refl

-- a verb that is none of `row`, `shape` and `span` says a step
pub says_verb-step : (verb : List ℕ) (texts : List (List ℕ)) → verb ≢ codes "shape" → verb ≢ codes "span" → says_verb verb texts ≡ says_step verb texts
says_verb-step verb texts shape span = rw (differ verb (codes "shape") shape, differ verb (codes "span") span) refl

-- it asks for memory as the step does
pub verb_asks-step : (in_place : Line → Bool) (verb : List ℕ) (texts : List (List ℕ)) → verb ≢ codes "shape" → verb ≢ codes "span" → verb_asks in_place verb texts ≡ step_asks verb texts
verb_asks-step in_place verb texts shape span = rw (differ verb (codes "shape") shape, differ verb (codes "span") span) refl

-- what is read of a line, the line said in other words
pub same_line : {X : Type 0} (old new : Draft) (n : ℕ) (r : Result X LineError) (line other : Line) (asks others : Bool) → line ≡ other → asks ≡ others → ReadsLine old n other others r new → ReadsLine old n line asks r new
same_line old new n r line other asks others e k told = rw (e, k) told

-- a line that asks for memory in any case
pub asks_anyway : {X : Type 0} (old new : Draft) (n : ℕ) (line : Line) (asks : Bool) (r : Result X LineError) → ReadsLine old n line asks r new → ReadsLine old n line true r new
asks_anyway old new n line asks (Ok x) told = told
asks_anyway old new n line asks (Err (Faulty fault)) told = told
asks_anyway old new n line asks (Err OutOfMemory) told = refl

-- the first of values is taken away
pub first_removed : {A : Type 0} (view : A → List ℕ) (xs : List A) (x : A) → length xs ≢ 0 → x ≡ slice_index_or xs 0 x → map view xs ≡ view x ∷ map view (remove xs 0)
first_removed view [] x some is = absurd (some refl)
first_removed view (y ∷ ys) x some is = ap (λ z. view z ∷ map view ys) (sym is)
