-- What a draft says of lines behind records is what the script of all of them means.
use Rattle.tabled_language.proofs.Common.{[], ◌&&◌, ◌||◌, ◌++◌, ◌+◌, ◌<◌, ◌≤◌, ◌⊎◌, ◌^◌, ◌∙◌, ◌∷◌, ◌≡◌, AllByRecursion, Bool, Draft, EndsBetween, EndsGiven, Err, Fault, GivenLine, HasGiven, InBytes, InWords, Line, List, None, Ok, Option, ParseError, ReadsGiven, Result, RecordLine, Some, all-append, anchor_in, ap, ap₂, append-nil, append_assoc, asks_behind, asks_between, draft_in, draft_of, ended_lines, fault_behind, fault_of, filter_map, filter_map-append, first_behind, first_fault, given_asks, given_lines, inl, is_in_place, is_none, length, length-append, length-map, lines_ask, lines_between, map, map-append, map-map, numbers_of, option_map, option_or, record_in, refl, says_given, says_line, says_words, shape_among, step_in, subst, sym, takes, true, with_line, with_lines, ℕ}
use Rattle.tabled_language.specs.declared.draft.Draft.{Draft as Drafted}
use Rattle.tabled_language.specs.declared.fault.ParseError.TheVariants as parse_error
use Rattle.tabled_language.proofs.DraftLines.{IsSound, fault_told, place_told, sound_line}
use Rattle.tabled_language.proofs.DraftSteps.{draft_of-push}
use Rattle.tabled_language.proofs.GivenLines.{ends-left, reads-behind}
use Rattle.tabled_language.proofs.QuietLines.{all-push, passed, picked}
use Rattle.tabled_language.proofs.ScriptLines.{given_asks-alike, lines_ask-anchors}

-- one line more without a fault
sound-push : (earlier : List Line) (line : Line) → AllByRecursion IsSound earlier → fault_of earlier line ≡ None → AllByRecursion IsSound (earlier ++ line ∷ [])
sound-push earlier line sound fine = all-append IsSound earlier (line ∷ []) sound (sound_line earlier line fine, tt)

-- the draft of lines tells the first fault behind them
first_told : (earlier lines : List Line) → AllByRecursion IsSound earlier → first_behind (draft_of earlier) (length earlier) lines ≡ first_fault fault_of earlier lines
first_told earlier [] sound = refl
first_told earlier (line ∷ lines) sound = fault_or_none (fault_of earlier line) refl (λ more. first_told (earlier ++ line ∷ []) lines more)
  where
    fault_or_none : (o : Option Fault) → fault_of earlier line ≡ o → (AllByRecursion IsSound (earlier ++ line ∷ []) → first_behind (draft_of (earlier ++ line ∷ [])) (length (earlier ++ line ∷ [])) lines ≡ first_fault fault_of (earlier ++ line ∷ []) lines) → first_behind (draft_of earlier) (length earlier) (line ∷ lines) ≡ first_fault fault_of earlier (line ∷ lines)
    fault_or_none (Some fault) e later = rw (sym (fault_told earlier line sound), e) refl
    fault_or_none None e later =
        let next : first_behind (with_line (draft_of earlier) (length earlier + 1) line) (length earlier + 1) lines ≡ first_fault fault_of (earlier ++ line ∷ []) lines =
        ap₂ (λ (d : Draft) (n : ℕ). first_behind d n lines) (sym (draft_of-push earlier line)) (sym (length-append earlier (line ∷ []))) ∙ later (sound-push earlier line sound e) in
        rw (sym (fault_told earlier line sound), e) next

-- it tells whether reading lines behind them asks for memory
asks_told : (earlier : List Line) (lines : List GivenLine) → AllByRecursion IsSound earlier → asks_behind (draft_of earlier) (length earlier) lines ≡ lines_ask earlier lines
asks_told earlier [] sound = refl
asks_told earlier (line ∷ lines) sound = fault_or_none (fault_of earlier (says_given line)) refl (λ more. asks_told (earlier ++ says_given line ∷ []) lines more)
  where
    here : given_asks (takes (draft_of earlier)) line ≡ given_asks (is_in_place earlier) line
    here = given_asks-alike (takes (draft_of earlier)) (is_in_place earlier) line (λ l. sym (place_told earlier l sound))

    fault_or_none : (o : Option Fault) → fault_of earlier (says_given line) ≡ o → (AllByRecursion IsSound (earlier ++ says_given line ∷ []) → asks_behind (draft_of (earlier ++ says_given line ∷ [])) (length (earlier ++ says_given line ∷ [])) lines ≡ lines_ask (earlier ++ says_given line ∷ []) lines) → asks_behind (draft_of earlier) (length earlier) (line ∷ lines) ≡ lines_ask earlier (line ∷ lines)
    fault_or_none (Some fault) e later = rw (here, sym (fault_told earlier (says_given line) sound), e) refl
    fault_or_none None e later =
        let next : asks_behind (with_line (draft_of earlier) (length earlier + 1) (says_given line)) (length earlier + 1) lines ≡ lines_ask (earlier ++ says_given line ∷ []) lines =
        ap₂ (λ (d : Draft) (n : ℕ). asks_behind d n lines) (sym (draft_of-push earlier (says_given line))) (sym (length-append earlier (says_given line ∷ []))) ∙ later (sound-push earlier (says_given line) sound e) in
        rw (here, sym (fault_told earlier (says_given line) sound), e, next) refl

-- with lines behind them it is the draft of all
lines_told : (earlier lines : List Line) → with_lines (draft_of earlier) (length earlier) lines ≡ draft_of (earlier ++ lines)
lines_told earlier [] = ap draft_of (sym (append-nil earlier))
lines_told earlier (line ∷ lines) =
    ap₂ (λ (d : Draft) (n : ℕ). with_lines d n lines) (sym (draft_of-push earlier line)) (sym (length-append earlier (line ∷ [])))
    ∙ lines_told (earlier ++ line ∷ []) lines ∙ ap draft_of (append_assoc earlier (line ∷ []) lines)

-- a record may stand behind these lines
TakesRecords : List Line → Type 0
TakesRecords earlier = (texts : List (List ℕ)) → is_in_place earlier (RecordLine texts) ≡ true

-- no record is faulty
records_pass : (rows : List (List (List ℕ))) (earlier lines : List Line) → TakesRecords earlier → first_fault fault_of earlier (map RecordLine rows ++ lines) ≡ first_fault fault_of (earlier ++ map RecordLine rows) lines
unfolding TakesRecords
records_pass [] earlier lines may = ap (λ before. first_fault fault_of before lines) (sym (append-nil earlier))
records_pass (row ∷ rows) earlier lines may =
    let still : TakesRecords (earlier ++ RecordLine row ∷ []) = λ texts. all-push (RecordLine texts) (RecordLine row) earlier (may texts) refl in
    rw (may row) (records_pass rows (earlier ++ RecordLine row ∷ []) lines still ∙ ap (λ before. first_fault fault_of before lines) (append_assoc earlier (RecordLine row ∷ []) (map RecordLine rows)))

pub first-records : (rows : List (List (List ℕ))) (lines : List Line) → first_fault fault_of [] (map RecordLine rows ++ lines) ≡ first_fault fault_of (map RecordLine rows) lines
unfolding TakesRecords
first-records rows lines = records_pass rows [] lines (λ texts. refl)

records_sound : (rows : List (List (List ℕ))) → AllByRecursion IsSound (map RecordLine rows)
records_sound [] = tt
records_sound (row ∷ rows) = (tt, records_sound rows)

records_first : (n : ℕ) (rows : List (List (List ℕ))) → shape_among n (map RecordLine rows) ≡ None
records_first n [] = refl
records_first n (row ∷ rows) = records_first (n + 1) rows

no_numbers : {A : Type 0} (said : Line → Option A) → ((texts : List (List ℕ)) → said (RecordLine texts) ≡ None) → (n : ℕ) (rows : List (List (List ℕ))) → numbers_of said n (map RecordLine rows) ≡ []
no_numbers said none n [] = refl
no_numbers said none n (row ∷ rows) = rw (none row) (no_numbers said none (n + 1) rows)

records_said : (rows : List (List (List ℕ))) → filter_map record_in (map RecordLine rows) ≡ rows
records_said [] = refl
records_said (row ∷ rows) = ap (λ texts. row ∷ texts) (records_said rows)

none_said : {A : Type 0} (said : Line → Option A) → ((texts : List (List ℕ)) → said (RecordLine texts) ≡ None) → (rows : List (List (List ℕ))) → filter_map said (map RecordLine rows) ≡ []
none_said said none [] = refl
none_said said none (row ∷ rows) = rw (none row) (none_said said none rows)

-- the draft of records
pub draft_of-records : (rows : List (List (List ℕ))) → draft_of (map RecordLine rows) ≡ record { shape = None; records = rows; anchors = []; lines = []; steps = []; step_lines = [] }
draft_of-records rows = rw (records_first 0 rows, records_said rows, none_said anchor_in (λ texts. refl) rows, none_said step_in (λ texts. refl) rows, no_numbers anchor_in (λ texts. refl) 0 rows, no_numbers step_in (λ texts. refl) 0 rows) refl

-- what is given says the lines that stand between rows and words
said_between : (rows : List (List (List ℕ))) (input : List ℕ) (words : List (List (List ℕ))) → map RecordLine rows ++ map says_given (given_lines input words) ≡ lines_between rows input words
said_between rows input words =
    ap (λ lines. map RecordLine rows ++ lines)
    (map-append says_given (map InBytes (ended_lines input)) (map InWords words)
    ∙ ap₂ (λ (xs ys : List Line). xs ++ ys) (map-map says_given InBytes (ended_lines input)) (map-map says_given InWords words))

-- a script between rows and words is read into a draft, and none of its lines is faulty by itself
pub record ReadsBetween (rows : List (List (List ℕ))) (input : List ℕ) (words : List (List (List ℕ))) (draft : Draft) : Type 0 where
  pub faultless : first_fault fault_of [] (lines_between rows input words) ≡ None
  pub is : draft ≡ draft_of (lines_between rows input words)
  pub asks : 0 < length draft.anchors → asks_between rows input words ≡ true

module _ (rows : List (List (List ℕ))) (input : List ℕ) (words : List (List (List ℕ))) where
  first_faults : first_behind (draft_of (map RecordLine rows)) (length rows) (map says_given (given_lines input words)) ≡ first_fault fault_of (map RecordLine rows) (map says_given (given_lines input words))
  first_faults = ap (λ n. first_behind (draft_of (map RecordLine rows)) n (map says_given (given_lines input words))) (sym (length-map rows RecordLine)) ∙ first_told (map RecordLine rows) (map says_given (given_lines input words)) (records_sound rows)

  faults_between : first_behind (draft_of (map RecordLine rows)) (length rows) (map says_given (given_lines input words)) ≡ first_fault fault_of [] (lines_between rows input words)
  unfolding first_faults
  faults_between = first_faults ∙ sym (first-records rows (map says_given (given_lines input words))) ∙ ap (first_fault fault_of []) (said_between rows input words)

  pub reads_between : (read : Drafted × ℕ) → HasGiven (draft_of (map RecordLine rows)) (length rows) (given_lines input words) read → ReadsBetween rows input words (draft_in read.0)
  unfolding faults_between first_faults
  reads_between read h =
      let given = map says_given (given_lines input words) in
      let is : draft_in read.0 ≡ draft_of (map RecordLine rows ++ given) = h.is ∙ ap (λ n. with_lines (draft_of (map RecordLine rows)) n given) (sym (length-map rows RecordLine)) ∙ lines_told (map RecordLine rows) given in
      let anchors : (draft_in read.0).anchors ≡ filter_map anchor_in given = ap (λ (d : Draft). d.anchors) is ∙ filter_map-append anchor_in (map RecordLine rows) given ∙ ap (λ es. es ++ filter_map anchor_in given) (none_said anchor_in (λ texts. refl) rows) in
      record {
        faultless = sym faults_between ∙ h.faultless;
        is = is ∙ ap draft_of (said_between rows input words);
        asks = λ some. lines_ask-anchors (map RecordLine rows) (given_lines input words) (sym first_faults ∙ h.faultless) (rw anchors at some);
      }

  pub ends_between : (error : ParseError) → EndsGiven (draft_of (map RecordLine rows)) (length rows) (given_lines input words) error → EndsBetween rows input words error
  unfolding faults_between
  ends_between (parse_error.Faulty line fault) ended = let first = sym faults_between ∙ ended in rw first refl
  ends_between parse_error.OutOfMemory asks =
      inl (sym (ap (λ n. asks_behind (draft_of (map RecordLine rows)) n (given_lines input words)) (sym (length-map rows RecordLine)) ∙ asks_told (map RecordLine rows) (given_lines input words) (records_sound rows)) ∙ asks)

  -- why the lines of bytes behind records aren't read
  pub ends_in_bytes : (old : Draft) (n : ℕ) → old ≡ draft_of (map RecordLine rows) → n ≡ length rows → (error : ParseError) → EndsGiven old n (map InBytes (ended_lines input)) error → EndsBetween rows input words error
  ends_in_bytes old n is counted error ended =
      ends_between error (ends-left (draft_of (map RecordLine rows)) (length rows) (map InBytes (ended_lines input)) (map InWords words) error
      (subst (λ (d : Draft). EndsGiven d (length rows) (map InBytes (ended_lines input)) error) is (subst (λ k. EndsGiven old k (map InBytes (ended_lines input)) error) counted ended)))

  -- these lines, and words behind them
  read_words : (old : Draft) (n : ℕ) → old ≡ draft_of (map RecordLine rows) → n ≡ length rows → (draft : Drafted) (number : ℕ) → HasGiven old n (map InBytes (ended_lines input)) (draft, number) → (result : Result (Drafted × ℕ) ParseError) → ReadsGiven (draft_in draft) number (map InWords words) result → ReadsGiven (draft_of (map RecordLine rows)) (length rows) (given_lines input words) result
  read_words old n is counted draft number h result reads =
      reads-behind (draft_of (map RecordLine rows)) (length rows) (map InBytes (ended_lines input)) (map InWords words) draft number result
      (subst (λ (d : Draft). HasGiven d (length rows) (map InBytes (ended_lines input)) (draft, number)) is (subst (λ k. HasGiven old k (map InBytes (ended_lines input)) (draft, number)) counted h)) reads

  -- why words aren't read
  pub ends_in_words : (old : Draft) (n : ℕ) → old ≡ draft_of (map RecordLine rows) → n ≡ length rows → (draft : Drafted) (number : ℕ) → HasGiven old n (map InBytes (ended_lines input)) (draft, number) → (error : ParseError) → EndsGiven (draft_in draft) number (map InWords words) error → EndsBetween rows input words error
  unfolding read_words
  ends_in_words old n is counted draft number h error ended = ends_between error (read_words old n is counted draft number h (Err error) ended)

  -- all are read
  pub has_read : (old : Draft) (n : ℕ) → old ≡ draft_of (map RecordLine rows) → n ≡ length rows → (draft : Drafted) (number : ℕ) → HasGiven old n (map InBytes (ended_lines input)) (draft, number) → (last : Drafted) (end : ℕ) → HasGiven (draft_in draft) number (map InWords words) (last, end) → ReadsBetween rows input words (draft_in last)
  unfolding read_words
  has_read old n is counted draft number h last end reads = reads_between (last, end) (read_words old n is counted draft number h (Ok (last, end)) reads)
