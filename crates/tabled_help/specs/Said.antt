-- What is said of words and of faults.
use Rattle.std.specs.Prelude.{◌++◌, ◌∷◌, ℕ, [], List, codes, if◌then◌else◌}
use Rattle.std.specs.Fmt.{decimal}
use Rattle.std.specs.List.{flat_map}
use Rattle.std.specs.Str.{bytes_eq}
use Rattle.tabled_help.specs.declared.entry.Entry.{Entry}
use Rattle.tabled_help.specs.declared.entry.FaultText.{FaultText}

-- the lines of each entry that is called so, one behind another
abbrev pub said_of : List ℕ → List Entry → List ℕ
said_of word entries = flat_map (λ (e : Entry). if bytes_eq e.word.now word then e.text.now else []) entries

-- `Fault N: TITLE`, when it comes, its cure and its example
abbrev pub with_example : ℕ → FaultText → List ℕ
with_example number fault = codes "Fault " ++ (decimal number ++ (codes ": " ++ (fault.title.now ++ (10 ∷ 10 ∷ fault.when.now ++ (10 ∷ 10 ∷ codes "Cure: " ++ (fault.cure.now ++ (10 ∷ 10 ∷ fault.example.now)))))))
