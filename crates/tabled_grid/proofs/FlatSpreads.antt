-- Columns of blanks inserted into joined rows, one row after another from the last.
use Rattle.tabled_grid.proofs.Common.{[], ◌*◌, ◌++◌, ◌+◌, ◌-◌, ◌<◌, ◌∙◌, ◌∷◌, ◌≡◌, ◌≤◌, AllByRecursion, AllZip, AreBlanks, AreWide, InsertsBlanks, List, PutsBlanks, SlidBack, add-mul, all-drop, all-take, ap, append-nil, append_assoc, ap₂, arith, chunks, common_steps, drop, drop_all, drop_more, get_or, joined, length, length-append, length-chunks, length-drop, length-take-le, length_permutation, nil_from_length, refl, sym, take, take-append-drop, take_all, take_more, ℕ}
use Rattle.tabled_grid.proofs.Flat.{joined-chunks, length-joined}
use Rattle.tabled_grid.proofs.FlatColumns.{joined-push, row_long}
use Rattle.tabled_grid.proofs.FlatSlides.{all-moved}

module _ {A : Type 0} (is_blank : A → Type 0) (c j many : ℕ) where
  -- the rows from the m-th on have their blanks at j, and those of the m rows before lie between both
  pub record Spread (rows : List (List A)) (m : ℕ) (cells : List A) : Type 0 where
    pub wide : List (List A)
    pub each : AllZip (λ (row w : List A). InsertsBlanks is_blank row w j many) (drop m rows) wide
    pub gap : List A
    pub blank : AllByRecursion is_blank gap
    pub room : length gap ≡ m * many
    pub is : cells ≡ joined (take m rows) ++ (gap ++ joined wide)

  pub spread_none : (r m n k : ℕ) (xs : List A) → m ≡ r → n ≡ r * c → k ≡ r * many → length xs ≡ n + k → AreBlanks is_blank k (drop n xs) → Spread (chunks r c (take n xs)) m xs
  spread_none r m n k xs all e f h blanks =
      let cells : List A = take n xs in
      let long : length cells ≡ r * c = length-take-le n xs (omega (arith, h)) ∙ e in
      let tall : length (chunks r c cells) ≡ m = length-chunks r c cells ∙ sym all in
      let rest : drop m (chunks r c cells) ≡ [] = drop_all m (chunks r c cells) (omega (arith, tall)) in
      record {
        wide = [];
        each = rw rest tt;
        gap = drop n xs;
        blank = blanks.blank;
        room = blanks.many ∙ f ∙ ap (λ (i : ℕ). i * many) (sym all);
        is = sym (take-append-drop n xs) ∙ ap₂ (λ us vs. us ++ vs) (sym (joined-chunks r c cells long) ∙ ap joined (sym (take_all m (chunks r c cells) (omega (arith, tall))))) (sym (append-nil (drop n xs)));
      }

  pub spread_more : (i m : ℕ) (rows : List (List A)) (xs ys zs : List A) (from_first count gap_first from_second gap_second : ℕ) → AreWide c rows → j ≤ c → i < length rows → m ≡ i + 1 → Spread rows m xs →
      SlidBack xs ys from_first count gap_first → SlidBack ys zs from_second j gap_second → from_first ≡ i * c + j → count ≡ c - j → gap_first ≡ i * many + many → from_second ≡ i * c → gap_second ≡ i * many → Spread rows i zs
  spread_more i m rows xs ys zs from_first count gap_first from_second gap_second w j_in h next s one two e1 e2 e3 e4 e5 =
      let done : List A = joined (take i rows) in
      let row : List A = get_or rows i [] in
      let rest : List A = joined s.wide in
      let long : length row ≡ c = row_long c rows i w h in
      let tall : length (take i rows) ≡ i = length-take-le i rows (omega (arith, h)) in
      let done_long : length done ≡ i * c = length-joined c (take i rows) (all-take _ i rows w) ∙ ap (λ n. n * c) tall in
      let front : List A = take j row in
      let back : List A = drop j row in
      let front_long : length front ≡ j = length-take-le j row (omega (arith, long, j_in)) in
      let back_long : length back ≡ count = length-drop j row ∙ omega (arith, long, e2) in
      let taken : joined (take m rows) ≡ done ++ row = ap (λ n. joined (take n rows)) next ∙ ap joined (take_more rows i [] h) ∙ joined-push (take i rows) row in
      let start : xs ≡ (done ++ front) ++ (back ++ (s.gap ++ rest)) =
      s.is ∙ ap (λ us. us ++ (s.gap ++ rest)) (taken ∙ ap (λ us. done ++ us) (sym (take-append-drop j row)) ∙ sym (append_assoc done front back)) ∙ append_assoc (done ++ front) back (s.gap ++ rest) in
      let whole : length s.gap ≡ i * many + many = s.room ∙ ap (λ (n : ℕ). n * many) next ∙ add-mul i 1 many ∙ omega arith in
      let first = one.is (done ++ front) back s.gap rest start (length-append done front ∙ omega (arith, done_long, front_long, e1)) back_long (whole ∙ sym e3) in
      let blanks : List A = first.moved in
      let blank : AllByRecursion is_blank blanks = all-moved is_blank s.gap blanks first.same s.blank in
      let blanks_long : length blanks ≡ i * many + many = length_permutation s.gap blanks first.same ∙ whole in
      let near : List A = take (i * many) blanks in
      let far : List A = drop (i * many) blanks in
      let near_long : length near ≡ i * many = length-take-le (i * many) blanks (omega (arith, blanks_long)) in
      let far_long : length far ≡ many = length-drop (i * many) blanks ∙ omega (arith, blanks_long) in
      let apart : ys ≡ done ++ (front ++ (near ++ (far ++ (back ++ rest)))) =
      first.is ∙ append_assoc done front (blanks ++ (back ++ rest)) ∙ ap (λ us. done ++ (front ++ us)) (ap (λ us. us ++ (back ++ rest)) (sym (take-append-drop (i * many) blanks)) ∙ append_assoc near far (back ++ rest)) in
      let second = two.is done front near (far ++ (back ++ rest)) apart (done_long ∙ sym e4) front_long (near_long ∙ sym e5) in
      let more : drop i rows ≡ row ∷ drop m rows = drop_more rows i [] h ∙ ap (λ n. row ∷ drop n rows) (sym next) in
      record {
        wide = (front ++ (far ++ back)) ∷ s.wide;
        each = rw more (record { cells = far; blanks = record { blank = all-drop _ (i * many) blanks blank; many = far_long }; is = refl }, s.each);
        gap = second.moved;
        blank = all-moved is_blank near second.moved second.same (all-take _ (i * many) blanks blank);
        room = length_permutation near second.moved second.same ∙ near_long;
        is = second.is ∙ ap (λ us. done ++ (second.moved ++ us)) (sym (append_assoc front (far ++ back) rest ∙ ap (λ us. front ++ us) (append_assoc far back rest)));
      }

  pub spread_all : (rows : List (List A)) (m : ℕ) (cells : List A) → m ≡ 0 → Spread rows m cells → PutsBlanks is_blank rows cells j many
  spread_all rows m cells e s = grind (arith, common_steps, nil_from_length)
