-- Whether entities name a cell of a table.
use Rattle.tabled_steps.proofs.Common.{[], ◌++◌, ◌+◌, ◌<◌, ◌∙◌, ◌∷◌, ◌≡◌, Entity, List, Position, ap, ap₂, arith, drop, flat, flat_map-append, get_or, inside, length, length-append, suc, sym, take, ℕ}
use Rattle.std.proofs.Math.Seq.{drop-cons}
use Rattle.std.proofs.lemmas.List.{take-append-drop, take_more}
use Rattle.tabled_grid.specs.declared.config.entity.Entity.TheVariants.{Global}

module _ (es : List Entity) (i rows columns : ℕ) (here : i < length es) where
  abbrev places : Entity → List Position
  places e = inside e rows columns

  -- one more that names none
  pub none_more : flat (take i es) rows columns ≡ [] → inside (get_or es i Global) rows columns ≡ [] → flat (take (i + 1) es) rows columns ≡ []
  none_more before none =
      ap (λ fs. flat fs rows columns) (take_more es i Global here) ∙ flat_map-append places (take i es) (get_or es i Global ∷ [])
      ∙ ap₂ (λ (ps ts : List Position). ps ++ ts) before (ap (λ (ps : List Position). ps ++ []) none)

  -- one that names a cell
  pub some_named : (p : Position) (ps : List Position) → inside (get_or es i Global) rows columns ≡ p ∷ ps → 0 < length (flat es rows columns)
  some_named p ps is =
      let e = get_or es i Global in
      let later = drop (suc i) es in
      let parts : es ≡ take i es ++ e ∷ later = sym (take-append-drop i es) ∙ ap (λ fs. take i es ++ fs) (drop-cons es i Global here) in
      let flats : flat es rows columns ≡ flat (take i es) rows columns ++ (places e ++ flat later rows columns) = ap (λ fs. flat fs rows columns) parts ∙ flat_map-append places (take i es) (e ∷ later) in
      let lengths : length (flat es rows columns) ≡ length (flat (take i es) rows columns) + (length (places e) + length (flat later rows columns)) =
      ap length flats ∙ length-append (flat (take i es) rows columns) (places e ++ flat later rows columns) ∙ ap (λ n. length (flat (take i es) rows columns) + n) (length-append (places e) (flat later rows columns)) in
      let some = ap length is in
      omega (arith, lengths, some)
