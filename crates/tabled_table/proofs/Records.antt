-- A builder with one record more.
use Rattle.tabled_table.proofs.Common.{◌+◌, ◌-◌, ◌≡◌, ◌≤◌, AreWide, Builder, List, all-insert, ap, arith, common_steps, insert, length, map, max, padded_to, replicate, with_items, with_last_column, with_record, ℕ}
use Rattle.tabled_table.proofs.Padded.{length-padded_to, even-padded}

padded_to-longest : {A : Type 0} (columns : ℕ) (filler : A) (given : List A) → padded_to columns filler given ≡ padded_to (max columns (length given)) filler given
padded_to-longest columns filler given = grind (arith, common_steps)

-- a padded record inserted among the others
pub with_record-padded : (b : Builder) (i n : ℕ) (given row : List (List ℕ)) → row ≡ padded_to b.columns b.empty given → n ≡ length row →
    (let c : Builder = record b { columns = n; rows = insert (map (padded_to n b.empty) b.rows) i row } in c) ≡ with_record b i given
with_record-padded b i n given row is long = grind (arith, common_steps, length-padded_to, padded_to-longest)

pub even-with_record : {A : Type 0} (from n : ℕ) (filler : A) (rows : List (List A)) (i : ℕ) (row : List A) → from ≤ n → AreWide from rows → length row ≡ n → AreWide n (insert (map (padded_to n filler) rows) i row)
even-with_record {A} from n filler rows i row short even long = all-insert (λ (r : List A). length r ≡ n) (map (padded_to n filler) rows) i row (even-padded from n filler rows short even) long

pub padded-long : {A : Type 0} (columns : ℕ) (filler : A) (given row : List A) → row ≡ padded_to columns filler given → columns ≤ length row
padded-long columns filler given row is = omega (arith, ap length is, length-padded_to columns filler given)

-- a column of padded items after the others
pub with_last_column-padded : (b : Builder) (n : ℕ) (given items : List (List ℕ)) → items ≡ padded_to (length b.rows) b.empty given → n ≡ length items →
    (let c : Builder = record b { columns = b.columns + 1; rows = with_items b.columns (padded_to n (replicate b.columns b.empty) b.rows) items } in c) ≡ with_last_column b given
with_last_column-padded b n given items is many = grind (arith, common_steps, length-padded_to)
