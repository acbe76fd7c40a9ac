-- The texts of records.
use Rattle.std.specs.Borrow.{Bor}
use Rattle.std.specs.Global.{Vec}
use Rattle.std.specs.Prelude.{◌≡◌, ℕ, List, map, IsUtf8}
use Rattle.tabled_json.specs.Grammar.{AreLines, IsRecords}
use Rattle.tabled_json.specs.declared.member.Member.{Member}
use Rattle.tabled_texts.specs.Marks.{behind_mark}

-- a text is these bytes
pub record HoldsText (bytes : List ℕ) (text : Bor (List ℕ)) : Type 0 where
  pub is : text.now ≡ bytes
  pub utf8 : IsUtf8 bytes

-- a member, as its key and its text
abbrev pub member_of : Member → List ℕ × List ℕ
member_of member = (member.key.now, member.text.now)

-- an object, as its members
abbrev pub members_of : Vec Member → List (List ℕ × List ℕ)
members_of members = map member_of members.items

-- objects, each as its members
abbrev pub objects_of : Vec (Vec Member) → List (List (List ℕ × List ℕ))
objects_of objects = map members_of objects.items

-- the members in a slice
abbrev pub list_of : List Member → List (List ℕ × List ℕ)
list_of members = map member_of members

-- the objects in a slice
abbrev pub all_of : List (Vec Member) → List (List (List ℕ × List ℕ))
all_of objects = map members_of objects

-- bytes are no objects one after another
abbrev pub NoLines : List ℕ → Type 0
NoLines bytes = (objects : List (List (List ℕ × List ℕ))) → AreLines bytes objects → ⊥

-- bytes are no records
abbrev pub NoRecords : List ℕ → Type 0
NoRecords bytes = (objects : List (List (List ℕ × List ℕ))) → IsRecords bytes objects → ⊥

-- bytes mean records, a byte order mark in front or not
abbrev pub MeansRecords : List ℕ → List (List (List ℕ × List ℕ)) → Type 0
MeansRecords bytes objects = IsRecords (behind_mark bytes) objects

-- bytes mean no records
abbrev pub MeansNoRecords : List ℕ → Type 0
MeansNoRecords bytes = NoRecords (behind_mark bytes)
