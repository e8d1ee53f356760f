-- Tables that are filled with the bits of a test, one row after another.
use Rattle.std.proofs.Common.{◌≡◌, ◌≢◌, ℕ, ◌+◌, ◌<◌, Bool, true, false, ◌&&◌, ◌||◌, ◌==◌, nat_lt, ap, sym, ◌∙◌, inl, inr, arith}
use Rattle.std.proofs.lemmas.Bool.{cases_eq, cases_Bool}
use Rattle.std.proofs.lemmas.Bool.Decides.{nat_tests}
use Rattle.yew_lad.specs.Bits.{BitTable, in_row, empty_table, PutsBit}
use Rattle.yew_lad.specs.Tables.{IsFilled, HasTest}
use Rattle.yew_lad.proofs.BitLaws.{in_row-empty}

module _ (rows width : ℕ) (test : ℕ → ℕ → Bool) where
  -- nothing is filled yet
  pub filled-none : (table : BitTable) → table ≡ empty_table rows width → IsFilled rows width test 0 0 table
  filled-none table is = record {
    rows_are = ap (λ (t : BitTable). t.rows) is;
    width_is = ap (λ (t : BitTable). t.width) is;
    bits = λ a b l. ap (λ t. in_row t a b) is ∙ in_row-empty rows width a b ∙ none a b (test a b);
  }
    where
      none : (a b : ℕ) (c : Bool) → false ≡ ((nat_lt a 0 || (a == 0 && nat_lt b 0)) && c)
      none a b c = grind (arith, nat_tests)

  module _ (row column : ℕ) (table : BitTable) (filled : IsFilled rows width test row column table) where
    -- one bit more
    pub filled-put : (value : Bool) (new : BitTable) → value ≡ test row column → PutsBit table row column value new → IsFilled rows width test row (column + 1) new
    filled-put value new is puts = record {
      rows_are = puts.same_rows ∙ filled.rows_are;
      width_is = puts.same_width ∙ filled.width_is;
      bits = λ a b l.
          puts.bits a b (let w = filled.width_is in omega (arith, w))
          ∙ ap (λ c. c || ((a == row && b == column) && value)) (filled.bits a b l)
          ∙ ap (λ c. ((nat_lt a row || (a == row && nat_lt b column)) && test a b) || ((a == row && b == column) && c)) is
          ∙ step a b;
    }
      where
        here : (b : ℕ) (d : Bool) → (((nat_lt row row || (row == row && nat_lt b column)) && d) || ((row == row && b == column) && d)) ≡ ((nat_lt row row || (row == row && nat_lt b (column + 1))) && d)
        here b d = grind (arith, nat_tests)

        elsewhere : (a b : ℕ) (c d : Bool) → (a == row && b == column) ≡ false → (((nat_lt a row || (a == row && nat_lt b column)) && d) || ((a == row && b == column) && c)) ≡ ((nat_lt a row || (a == row && nat_lt b (column + 1))) && d)
        elsewhere a b c d e = grind (arith, nat_tests, e)

        same_value : (a b : ℕ) → (a == row && b == column) ≡ true → test row column ≡ test a b
        same_value a b e =
            let u : a ≡ row = first a b e in
            let v : b ≡ column = second a b e in
            ap (λ x. test x column) (sym u) ∙ ap (test a) (sym v)
          where
            first : (a b : ℕ) → (a == row && b == column) ≡ true → a ≡ row
            first a b e = grind (arith, nat_tests, e)

            second : (a b : ℕ) → (a == row && b == column) ≡ true → b ≡ column
            second a b e = grind (arith, nat_tests, e)

        itself : (a b : ℕ) (d : Bool) → (a == row && b == column) ≡ true → (((nat_lt a row || (a == row && nat_lt b column)) && d) || ((a == row && b == column) && d)) ≡ ((nat_lt a row || (a == row && nat_lt b (column + 1))) && d)
        itself a b d e = grind (arith, nat_tests, e)

        step : (a b : ℕ) → (((nat_lt a row || (a == row && nat_lt b column)) && test a b) || ((a == row && b == column) && test row column)) ≡ ((nat_lt a row || (a == row && nat_lt b (column + 1))) && test a b)
        step a b =
            elim (cases_Bool (a == row && b == column)) [
              | inl e ↦ ap (λ c. ((nat_lt a row || (a == row && nat_lt b column)) && test a b) || ((a == row && b == column) && c)) (same_value a b e) ∙ itself a b (test a b) e
              | inr e ↦ elsewhere a b (test row column) (test a b) e
            ]

    -- a row is whole where no later column passes
    pub filled-row : ((b : ℕ) → test row b ≡ true → b < column) → IsFilled rows width test (row + 1) 0 table
    filled-row last = record {
      rows_are = filled.rows_are;
      width_is = filled.width_is;
      bits = λ a b l. filled.bits a b l ∙ step a b;
    }
      where
        other : (a b : ℕ) (d : Bool) → a ≢ row → ((nat_lt a row || (a == row && nat_lt b column)) && d) ≡ ((nat_lt a (row + 1) || (a == row + 1 && nat_lt b 0)) && d)
        other a b d e = grind (arith, nat_tests, e)

        own : (b : ℕ) (d : Bool) → (d ≡ true → b < column) → ((nat_lt row row || (row == row && nat_lt b column)) && d) ≡ ((nat_lt row (row + 1) || (row == row + 1 && nat_lt b 0)) && d)
        own b true h = let l : b < column = h (λ i. true) in grind (arith, nat_tests, l)
        own b false h = grind (arith, nat_tests)

        step : (a b : ℕ) → ((nat_lt a row || (a == row && nat_lt b column)) && test a b) ≡ ((nat_lt a (row + 1) || (a == row + 1 && nat_lt b 0)) && test a b)
        step a b =
            elim (cases_eq a row) [
              | inl same ↦
                  ap (λ x. (nat_lt x row || (x == row && nat_lt b column)) && test x b) same
                  ∙ own b (test row b) (last b)
                  ∙ ap (λ x. (nat_lt x (row + 1) || (x == row + 1 && nat_lt b 0)) && test x b) (sym same)
              | inr e ↦ other a b (test a b) e
            ]

  -- all rows are filled
  pub filled-all : (table : BitTable) → IsFilled rows width test rows 0 table → HasTest rows width test table
  filled-all table filled = record {
    rows_are = filled.rows_are;
    width_is = filled.width_is;
    bits = λ a b l m. filled.bits a b m ∙ whole a b (test a b) l;
  }
    where
      whole : (a b : ℕ) (c : Bool) → a < rows → ((nat_lt a rows || (a == rows && nat_lt b 0)) && c) ≡ c
      whole a b c l = grind (arith, nat_tests, l)

-- a value with the test that its column is there
pub passes : (column n : ℕ) (value test : Bool) → column < n → value ≡ test → value ≡ (nat_lt column n && test)
passes column n value test l e = grind (arith, nat_tests, l, e)
