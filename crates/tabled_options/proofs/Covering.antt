-- Entities that cover others.
use Rattle.tabled_options.proofs.Common.{◌+◌, ◌≡◌, Bool, Covers, Entity, IsCombined, ap, arith, common_steps, false, if◌then◌else◌, names_all_of, place, refl, true}
use Rattle.std.proofs.lemmas.Bool.Decides.{nat_tests}
use Rattle.tabled_grid.specs.declared.config.entity.Entity.TheVariants.{Global, Column, Row, Cell}

-- what the test finds, covers
pub covers_means : (a b : Entity) → names_all_of a b ≡ true → Covers a b
covers_means Global b t p n = refl
covers_means (Column j) (Column l) t p n = grind (arith, nat_tests)
covers_means (Column j) (Cell k l) t p n = grind (arith, nat_tests)
covers_means (Column j) Global t p n = grind (arith, nat_tests)
covers_means (Column j) (Row k) t p n = grind (arith, nat_tests)
covers_means (Row i) (Row k) t p n = grind (arith, nat_tests)
covers_means (Row i) (Cell k l) t p n = grind (arith, nat_tests)
covers_means (Row i) Global t p n = grind (arith, nat_tests)
covers_means (Row i) (Column l) t p n = grind (arith, nat_tests)
covers_means (Cell i j) (Cell k l) t p n = grind (arith, nat_tests)
covers_means (Cell i j) Global t p n = grind (arith, nat_tests)
covers_means (Cell i j) (Row k) t p n = grind (arith, nat_tests)
covers_means (Cell i j) (Column l) t p n = grind (arith, nat_tests)

-- what covers, the test finds
pub covers_from : (a b : Entity) → Covers a b → names_all_of a b ≡ true
covers_from Global b t = refl
covers_from (Column j) (Column l) t = let h = t (place 0 l) in grind (arith, nat_tests)
covers_from (Column j) (Cell k l) t = let h = t (place k l) in grind (arith, nat_tests)
covers_from (Column j) Global t = let h = t (place 0 (j + 1)) in grind (arith, nat_tests)
covers_from (Column j) (Row k) t = let h = t (place k (j + 1)) in grind (arith, nat_tests)
covers_from (Row i) (Row k) t = let h = t (place k 0) in grind (arith, nat_tests)
covers_from (Row i) (Cell k l) t = let h = t (place k l) in grind (arith, nat_tests)
covers_from (Row i) Global t = let h = t (place (i + 1) 0) in grind (arith, nat_tests)
covers_from (Row i) (Column l) t = let h = t (place (i + 1) l) in grind (arith, nat_tests)
covers_from (Cell i j) (Cell k l) t = let h = t (place k l) in grind (arith, nat_tests)
covers_from (Cell i j) Global t = let h = t (place (i + 1) 0) in grind (arith, nat_tests)
covers_from (Cell i j) (Row k) t = let h = t (place k (j + 1)) in grind (arith, nat_tests)
covers_from (Cell i j) (Column l) t = let h = t (place (i + 1) l) in grind (arith, nat_tests)

-- entities that cover each other are one
alike : (a b : Entity) → names_all_of a b ≡ true → names_all_of b a ≡ true → a ≡ b
alike Global Global s t = refl
alike (Column j) (Column l) s t = ap Column (grind (arith, nat_tests))
alike (Row i) (Row k) s t = ap Row (grind (arith, nat_tests))
alike (Cell i j) (Cell k l) s t = grind (arith, nat_tests)
alike a b s t = grind (arith, nat_tests)

-- what two entities combine to, by the two tests
pub combined_means : (a b : Entity) (s t : Bool) → names_all_of a b ≡ s → names_all_of b a ≡ t → IsCombined a b (if s then a else (if t then b else Global))
combined_means a b true t e f = grind (arith, common_steps, covers_means, alike, covers_from)
combined_means a b false true e f = grind (arith, common_steps, covers_means, covers_from)
combined_means a b false false e f = grind (arith, common_steps, covers_from)
