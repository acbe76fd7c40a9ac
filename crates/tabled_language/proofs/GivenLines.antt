-- Lines read into a draft, one after another.
use Rattle.tabled_language.proofs.Common.{[], ◌&&◌, ◌||◌, ◌++◌, ◌+◌, ◌∙◌, ◌∷◌, ◌≡◌, Bool, Draft, EndsGiven, Err, Fault, Faulty, GivenLine, HasGiven, InWords, LentText, Line, LineEnds, List, None, Ok, Option, OutOfMemory, ParseError, LineError, ReadsGiven, Result, Some, and_from, and_parts, ap, arith, asks_behind, draft_in, false, fault_behind, first_behind, given_asks, in_line, is_none, length, length-append, length-map, map, map-append, option_map, option_or, or_right, refl, says_given, subst, sym, takes, texts_in_records, true, Vec, with_line, with_lines, ℕ}
use Rattle.tabled_language.specs.declared.draft.Draft.{Draft as Drafted}
use Rattle.tabled_language.specs.declared.fault.ParseError.TheVariants as parse_error
use Rattle.tabled_language.proofs.DraftSteps.{or_assoc}

-- of lines after n the last ones are left, and the others, the last of which has a number, were read into a draft
pub record LeavesLines (old : Draft) (n : ℕ) (all rest : List GivenLine) (number : ℕ) (draft : Draft) : Type 0 where
  pub counted : number + length rest ≡ n + length all
  pub is : with_lines draft number (map says_given rest) ≡ with_lines old n (map says_given all)
  pub faults : first_behind draft number (map says_given rest) ≡ first_behind old n (map says_given all)
  pub memory : asks_behind draft number rest ≡ true → asks_behind old n all ≡ true

-- at first all are left
pub leaves-all : (old : Draft) (n : ℕ) (all : List GivenLine) → LeavesLines old n all all n old
leaves-all old n all = record { counted = refl; is = refl; faults = refl; memory = λ asks. asks }

-- one line more without a fault
pub leaves-less : {old draft : Draft} {n number : ℕ} {all rest : List GivenLine} (line : GivenLine) → LeavesLines old n all (line ∷ rest) number draft → fault_behind draft (says_given line) ≡ None → LeavesLines old n all rest (number + 1) (with_line draft (number + 1) (says_given line))
leaves-less {old} {draft} line h fine = record {
  counted = omega (arith, h.counted);
  is = h.is;
  faults = rw fine at h.faults;
  memory = λ asks. h.memory (or_right (given_asks (takes draft) line) _ (rw fine asks));
}

-- the first line that isn't read
pub leaves-end : {old draft : Draft} {n number : ℕ} {all rest : List GivenLine} (line : GivenLine) (error : LineError) → LeavesLines old n all (line ∷ rest) number draft → LineEnds (fault_behind draft (says_given line)) (given_asks (takes draft) line) error → EndsGiven old n all (in_line (number + 1) error)
leaves-end line (Faulty fault) h told = sym h.faults ∙ rw told refl
leaves-end line OutOfMemory h told = h.memory (rw told refl)

-- at last none is left
pub leaves-none : {old : Draft} {n number : ℕ} {all : List GivenLine} (draft : Drafted) → LeavesLines old n all [] number (draft_in draft) → HasGiven old n all (draft, number)
leaves-none draft h = record { faultless = sym h.faults; is = h.is; counted = omega (arith, h.counted) }

with_lines-append : (d : Draft) (n m : ℕ) (lines others : List Line) → m ≡ n + length lines → with_lines d n (lines ++ others) ≡ with_lines (with_lines d n lines) m others
with_lines-append d n m [] others is =
    let same : m ≡ n = omega (arith, is) in
    rw same refl
with_lines-append d n m (line ∷ lines) others is = with_lines-append (with_line d (n + 1) line) (n + 1) m lines others (omega (arith, is))

first_behind-append : (d : Draft) (n m : ℕ) (lines others : List Line) → m ≡ n + length lines → first_behind d n (lines ++ others) ≡ option_or (first_behind d n lines) (first_behind (with_lines d n lines) m others)
first_behind-append d n m [] others is =
    let same : m ≡ n = omega (arith, is) in
    rw same refl
first_behind-append d n m (line ∷ lines) others is =
    let here : Option (ℕ × Fault) = option_map (λ fault. (n + 1, fault)) (fault_behind d line) in
    ap (option_or here) (first_behind-append (with_line d (n + 1) line) (n + 1) m lines others (omega (arith, is)))
    ∙ or_assoc here (first_behind (with_line d (n + 1) line) (n + 1) lines) (first_behind (with_lines (with_line d (n + 1) line) (n + 1) lines) m others)

-- what lines ask for is asked for with others behind them
asks-left : (d : Draft) (n : ℕ) (lines others : List GivenLine) → asks_behind d n lines ≡ true → asks_behind d n (lines ++ others) ≡ true
asks-left d n [] others asks = cc (asks)
asks-left d n (line ∷ lines) others asks = kept (given_asks (takes d) line) (is_none (fault_behind d (says_given line))) _ _ asks (asks-left (with_line d (n + 1) (says_given line)) (n + 1) lines others)
  where
    kept : (here fine less more : Bool) → (here || (fine && less)) ≡ true → (less ≡ true → more ≡ true) → (here || (fine && more)) ≡ true
    kept true fine less more e k = refl
    kept false true less more e k = k e
    kept false false less more e k = e

-- so is what the others ask for, where no line before them has a fault
asks-right : (d : Draft) (n m : ℕ) (lines others : List GivenLine) → m ≡ n + length lines → first_behind d n (map says_given lines) ≡ None → asks_behind (with_lines d n (map says_given lines)) m others ≡ true → asks_behind d n (lines ++ others) ≡ true
asks-right d n m [] others is fine asks =
    let same : m ≡ n = omega (arith, is) in
    rw same at asks
asks-right d n m (line ∷ lines) others is fine asks =
    let here = fault_behind d (says_given line) in
    first_fine here refl fine (λ later. asks-right (with_line d (n + 1) (says_given line)) (n + 1) m lines others (omega (arith, is)) later asks)
  where
    first_fine : (o : Option Fault) → fault_behind d (says_given line) ≡ o → option_or (option_map (λ fault. (n + 1, fault)) o) (first_behind (with_line d (n + 1) (says_given line)) (n + 1) (map says_given lines)) ≡ None → (first_behind (with_line d (n + 1) (says_given line)) (n + 1) (map says_given lines) ≡ None → asks_behind (with_line d (n + 1) (says_given line)) (n + 1) (lines ++ others) ≡ true) → asks_behind d n ((line ∷ lines) ++ others) ≡ true
    first_fine None e fine later = or_right (given_asks (takes d) line) _ (rw e (later fine))
    first_fine (Some fault) e fine later = cc (fine)

-- lines that aren't read are not read with others behind them
pub ends-left : (old : Draft) (n : ℕ) (lines others : List GivenLine) (error : ParseError) → EndsGiven old n lines error → EndsGiven old n (lines ++ others) error
ends-left old n lines others (parse_error.Faulty line fault) ended =
    ap (first_behind old n) (map-append says_given lines others)
    ∙ first_behind-append old n (n + length (map says_given lines)) (map says_given lines) (map says_given others) refl
    ∙ rw ended refl
ends-left old n lines others parse_error.OutOfMemory asks = asks-left old n lines others asks

-- lines that are read, and others behind them
pub reads-behind : (old : Draft) (n : ℕ) (lines others : List GivenLine) (draft : Drafted) (number : ℕ) (result : Result (Drafted × ℕ) ParseError) → HasGiven old n lines (draft, number) → ReadsGiven (draft_in draft) number others result → ReadsGiven old n (lines ++ others) result
reads-behind old n lines others draft number result h reads = onward result reads
  where
    counted : number ≡ n + length (map says_given lines)
    counted = h.counted ∙ ap (λ k. n + k) (sym (length-map lines says_given))

    split : first_behind old n (map says_given (lines ++ others)) ≡ first_behind (draft_in draft) number (map says_given others)
    split =
        ap (first_behind old n) (map-append says_given lines others)
        ∙ first_behind-append old n number (map says_given lines) (map says_given others) counted
        ∙ rw (h.faultless, ← h.is) refl

    onward : (result : Result (Drafted × ℕ) ParseError) → ReadsGiven (draft_in draft) number others result → ReadsGiven old n (lines ++ others) result
    onward (Ok (last, end)) read = record {
      faultless = split ∙ read.faultless;
      is = read.is ∙ ap (λ d. with_lines d number (map says_given others)) h.is ∙ sym (with_lines-append old n number (map says_given lines) (map says_given others) counted) ∙ ap (with_lines old n) (sym (map-append says_given lines others));
      counted = omega (arith, h.counted, read.counted, length-append lines others);
    }
    onward (Err (parse_error.Faulty line fault)) ended = split ∙ ended
    onward (Err parse_error.OutOfMemory) asks = asks-right old n number lines others h.counted h.faultless (subst (λ d. asks_behind d number others ≡ true) h.is asks)

-- lists of words are a line each
pub length-words : (words : List (Vec LentText)) → length (map InWords (texts_in_records words)) ≡ length words
length-words [] = refl
length-words (texts ∷ words) = omega (arith, length-words words)

pub length-records : (records : List (Vec LentText)) → length (texts_in_records records) ≡ length records
length-records [] = refl
length-records (texts ∷ records) = omega (arith, length-records records)
