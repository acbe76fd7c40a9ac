-- What is drawn in at most so many columns.
use Rattle.std.specs.Io.KnownBytes.{Appends}
use Rattle.std.specs.List.{AllByRecursion}
use Rattle.std.specs.Prelude.{IsSome}
use Rattle.tabled_draw.proofs.Common.{Some, None, nat_tests}
use Rattle.tabled_draw.specs.Picture.{drawn_with}
use Rattle.tabled_draw.specs.Texts.{text_width}
use Rattle.tabled_draw.specs.Width.{HasItsWidth, picture_width}
use Rattle.tabled_draw.specs.declared.alignment.Alignment.{Alignment}
use Rattle.tabled_draw.specs.declared.style.Style.{Style}
use Rattle.tabled_grid.specs.Grid.{Grid}
use Rattle.tabled_grid.specs.Spans.{SpanMap}
use Rattle.tabled_script.proofs.Common.{[], ◌<◌, ◌∷◌, ◌≡◌, ◌≤◌, List, Option, arith, refl, sym, ℕ}
use Rattle.tabled_script.specs.Narrow.{WritesNarrowPicture, at_widest_pieces, cut_to, narrowed}

-- lines of a width have at most any width that isn't less
all_narrow : (n width : ℕ) → width ≤ n → (lines : List (List ℕ)) → AllByRecursion (λ line. text_width line ≡ width) lines → AllByRecursion (λ line. text_width line ≤ n) lines
all_narrow n width le [] all = tt
all_narrow n width le (line ∷ lines) all = (rw (sym all.0) at le, all_narrow n width le lines all.1)

module _ (style : Style) (m : SpanMap) (g : Grid (List ℕ)) where
  pub undrawn-wider : (n : ℕ) → narrowed n style m g ≡ None → (n < picture_width style g m) × (n < picture_width style (at_widest_pieces g) m)
  unfolding narrowed
  undrawn-wider n none = grind (arith, nat_tests)

  pub wider-undrawn : (n : ℕ) → n < picture_width style g m → n < picture_width style (at_widest_pieces g) m → narrowed n style m g ≡ None
  unfolding narrowed
  wider-undrawn n whole pieces = grind (arith, nat_tests)

  pub drawn-in-more : (n more : ℕ) → n ≤ more → IsSome (narrowed n style m g) → IsSome (narrowed more style m g)
  drawn-in-more n more le drawn = drawn_or_not (narrowed more style m g) refl
    where
      drawn_or_not : (found : Option (Grid (List ℕ))) → narrowed more style m g ≡ found → IsSome (narrowed more style m g)
      drawn_or_not None none =
          let wider = undrawn-wider more none in
          let undrawn : narrowed n style m g ≡ None = wider-undrawn n (omega (arith, wider.0, le)) (omega (arith, wider.1, le)) in
          cc (rw undrawn at drawn)
      drawn_or_not (Some texts) is = rw is refl

  -- ---- which table is drawn

  module _ (n : ℕ) where
    pub whole-drawn : picture_width style g m ≤ n → narrowed n style m g ≡ Some g
    unfolding narrowed
    whole-drawn fits = grind (arith, nat_tests)

    pub cut-drawn : n < picture_width style g m → picture_width style (at_widest_pieces g) m ≤ n → picture_width style (cut_to n style m g) m ≤ n → narrowed n style m g ≡ Some (cut_to n style m g)
    unfolding narrowed
    cut-drawn wide pieces fits = grind (arith, nat_tests)

    pub pieces-drawn : n < picture_width style g m → picture_width style (at_widest_pieces g) m ≤ n → n < picture_width style (cut_to n style m g) m → narrowed n style m g ≡ Some (at_widest_pieces g)
    unfolding narrowed
    pieces-drawn wide pieces cut = grind (arith, nat_tests)

    -- its picture, written
    pub picture-written : (aligns : List Alignment) (table : Grid (List ℕ)) (bytes : List ℕ) (old new : Option (List ℕ)) → narrowed n style m g ≡ Some table → picture_width style table m ≤ n → HasItsWidth style aligns table m → bytes ≡ drawn_with style aligns table m → Appends old new bytes → WritesNarrowPicture n style aligns g m old new
    picture-written aligns table bytes old new is fits wide drawn wrote = (
      bytes,
      record {
        table = table;
        narrowed = is;
        narrow = λ fine. all_narrow n (picture_width style table m) fits _ (wide fine);
        drawn = drawn;
      },
      wrote,
    )
