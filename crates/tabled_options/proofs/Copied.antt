-- Copies of lists.
use Rattle.tabled_options.proofs.Common.{[], ◌∷◌, AllByRecursion, AllZip, CopiesAlike, List}

-- where copies of each item are like it, copies of all are like them
pub zip_alike : {X : Type 0} (is_clone is_like : X → X → Type 0) (xs ys : List X) → AllByRecursion (CopiesAlike is_clone is_like) xs → AllZip is_clone xs ys → AllZip is_like xs ys
zip_alike is_clone is_like [] [] each copied = tt
zip_alike is_clone is_like [] (y ∷ ys) each copied = absurd copied
zip_alike is_clone is_like (x ∷ xs) [] each copied = absurd copied
zip_alike is_clone is_like (x ∷ xs) (y ∷ ys) each copied = (each.0 y copied.0, zip_alike is_clone is_like xs ys each.1 copied.1)
