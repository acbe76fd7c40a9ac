-- Cells that are drawn.
use Rattle.tabled_draw.proofs.Common.{Alignment, Draws, List, Option, Pen, [], aligned, ap, ap₂, arith, cell, first_line, indent, refl, replicate, replicate-append-replicate, text_width, ℕ, ◌++◌, ◌+◌, ◌-◌, ◌∙◌, ◌∷◌, ◌≡◌}
use Rattle.tabled_held.proofs.Pens.{draws-as, draws-then}

aligned-is : (alignment : Alignment) (space free before after : ℕ) (line shown : List ℕ) → line ≡ shown → free ≡ space - text_width line → before ≡ indent alignment free → after ≡ free - before
    → replicate (before + 1) 32 ++ (line ++ replicate (after + 1) 32) ≡ aligned alignment space shown
aligned-is alignment space free before after line shown is many indents rest = rw (rest, indents, many, is) refl

module _ {W : Type 0} {contents : W → Option (List ℕ)} where
  pub draws-aligned : {a b c d e f : Pen W} (alignment : Alignment) (space free before after : ℕ) (line shown : List ℕ) → line ≡ shown → free ≡ space - text_width line → before ≡ indent alignment free → after ≡ free - before
      → Draws contents a b (32 ∷ []) → Draws contents b c (replicate before 32) → Draws contents c d line → Draws contents d e (replicate after 32) → Draws contents e f (32 ∷ []) → Draws contents a f (aligned alignment space shown)
  draws-aligned alignment space free before after line shown is many indents rest first second third fourth fifth =
      draws-as (ap₂ (λ x y. x ++ (line ++ y)) (replicate-append-replicate 1 before 32 ∙ ap (λ n. replicate n 32) (let e : 1 + before ≡ before + 1 = omega arith in e)) (replicate-append-replicate after 1 32) ∙ aligned-is alignment space free before after line shown is many indents rest)
      (draws-then (draws-then first second) (draws-then third (draws-then fourth fifth)))

  pub draws-cell : {a b c d e f : Pen W} (alignment : Alignment) (text : List ℕ) (space free before after : ℕ) (line : List ℕ) → line ≡ first_line text → free ≡ space - text_width line → before ≡ indent alignment free → after ≡ free - before
      → Draws contents a b (32 ∷ []) → Draws contents b c (replicate before 32) → Draws contents c d line → Draws contents d e (replicate after 32) → Draws contents e f (32 ∷ []) → Draws contents a f (cell alignment space text 0)
  draws-cell alignment text space free before after line = draws-aligned alignment space free before after line (first_line text)
