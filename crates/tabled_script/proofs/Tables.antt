-- The table of files, with one file more.
use Rattle.std.proofs.lemmas.List.Sums.{fold-append}
use Rattle.std.specs.List.{AllZip}
use Rattle.std.specs.Option.{option_and_then}
use Rattle.tabled_script.proofs.Common.{[], ◌++◌, ◌+◌, ◌<◌, ◌∙◌, ◌∷◌, ◌≡◌, List, None, Option, Some, ap, get_or, length, subst, sym, take, take_more, ℕ}
use Rattle.tabled_script.specs.Inputs.{HasRows, HasTable, HeadsDiffer, NoRowsIn, NoTable, NotBehind, behind, joined}
use Rattle.tabled_script.specs.declared.inputs.JoinError.{JoinError}
use Rattle.tabled_script.specs.declared.inputs.JoinError.TheVariants as join_error
use Rattle.tabled_script.specs.declared.inputs.RowsError.{RowsError}
use Rattle.tabled_script.specs.declared.inputs.RowsError.TheVariants as rows_error
use Rattle.tabled_script.specs.declared.inputs.SourcesError.TheVariants.{Unjoined, Unread}
use Rattle.tabled_script.specs.declared.request.Source.{Source}

-- places of two lists, and one more
module _ {A B : Type 0} (R : A → B → Type 0) where
  zip_push : (xs : List A) (ys : List B) (x : A) (y : B) → AllZip R xs ys → R x y → AllZip R (xs ++ x ∷ []) (ys ++ y ∷ [])
  zip_push [] [] x y all has = (has, tt)
  zip_push [] (b ∷ ys) x y all has = elim all [ ]
  zip_push (a ∷ xs) [] x y all has = elim all [ ]
  zip_push (a ∷ xs) (b ∷ ys) x y all has = (all.0, zip_push xs ys x y all.1 has)

  pub zip_more : (xs : List A) (ys : List B) (i : ℕ) (x : A) (y : B) → i < length xs → x ≡ get_or xs i x → AllZip R (take i xs) ys → R x y → AllZip R (take (i + 1) xs) (ys ++ y ∷ [])
  zip_more xs ys i x y here is all has = subst (λ (front : List A). AllZip R front (ys ++ y ∷ [])) (ap (λ z. take i xs ++ z ∷ []) is ∙ sym (take_more xs i x here)) (zip_push (take i xs) ys x y all has)

-- one more table behind the others
pub joined-more : (tables : List (List (List (List ℕ)))) (whole rows : List (List (List ℕ))) → joined tables ≡ Some whole → joined (tables ++ rows ∷ []) ≡ behind whole rows
joined-more tables whole rows is = fold-append (λ (before : Option (List (List (List ℕ)))) (rows : List (List (List ℕ))). option_and_then (λ whole. behind whole rows) before) (Some []) tables (rows ∷ []) ∙ ap (λ (before : Option (List (List (List ℕ)))). option_and_then (λ whole. behind whole rows) before) is

-- the table of one more file
module _ (sources : List Source) (i : ℕ) (source : Source) (here : i < length sources) (is : source ≡ get_or sources i source) where
  pub table_more : (rows others all : List (List (List ℕ))) → HasTable (take i sources) rows → HasRows source others → behind rows others ≡ Some all → HasTable (take (i + 1) sources) all
  table_more rows others all table has joins = (table.0 ++ others ∷ [], zip_more HasRows sources table.0 i source others here is table.1 has, joined-more table.0 rows others table.2 ∙ joins)

  -- one more file begins with another row
  pub heads_differ : (rows others : List (List (List ℕ))) → HasTable (take i sources) rows → HasRows source others → behind rows others ≡ None → HeadsDiffer sources
  heads_differ rows others table has differs = record {
    many = i + 1;
    tables = table.0 ++ others ∷ [];
    rows = zip_more HasRows sources table.0 i source others here is table.1 has;
    differ = joined-more table.0 rows others table.2 ∙ differs;
  }

  -- why there is no table, where one more file has no rows, or they don't stand behind those before
  pub unread : (index : ℕ) (error : RowsError) → NoRowsIn source.format source.bytes.items error → NoTable sources (Unread index error)
  unread index (rows_error.Faulty line fault) none = record { index = i; within = here; source = source; is = is; line = line; fault = fault; faulty = none }
  unread index rows_error.OutOfMemory none = tt

  pub unjoined : (index : ℕ) (error : JoinError) (rows others : List (List (List ℕ))) → HasTable (take i sources) rows → HasRows source others → NotBehind rows others error → NoTable sources (Unjoined index error)
  unjoined index (join_error.Differs head first file) rows others table has differs = heads_differ rows others table has differs
  unjoined index join_error.OutOfMemory rows others table has differs = tt
