-- What contracts see of the two kinds of log.
use Rattle.std.specs.Prelude.{◌≡◌, ℕ, ◌≤◌, ◌^◌, List, length}
use Rattle.yew_log.specs.declared.entry.Totals.{Totals}
use Rattle.yew_log.specs.declared.entry.Entry.{Entry}
use Rattle.yew_log.specs.Notes.{Note, path_numbers}
use Rattle.yew_log.specs.Entries.{entry_notes}

-- a log of totals alone: the number of its worker, and how many entries of each kind there were
pub record CountsLog : Type 0 where
  pub number : ℕ
  pub totals : Totals

-- a log that keeps its entries: the number of its worker, its entries, and how many of each kind there were
pub record FullLog : Type 0 where
  pub number : ℕ
  pub notes : List Note
  pub totals : Totals

-- the entries and the count of their path numbers, within the limits
pub record IsKept (entries : List Entry) (numbers : ℕ) : Type 0 where
  pub numbers_are : numbers ≡ path_numbers (entry_notes entries)
  pub entries_fit : length entries ≤ 2 ^ 18
  pub numbers_fit : numbers ≤ 2 ^ 22
