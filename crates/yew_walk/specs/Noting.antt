-- A log while entries for a list of paths are recorded.
use Rattle.std.specs.Prelude.{◌≡◌, ℕ, List, take}
use Rattle.yew_log.specs.declared.entry.What.{What}
use Rattle.yew_walk.specs.LogViews.{LogView, all_noted, IsWithin}

-- the entries for the first of these paths, so many of them, were recorded
pub record HasNoted (old : LogView) (what : What) (paths : List (List ℕ)) (count : ℕ) (now : LogView) : Type 0 where
  pub log_is : now ≡ all_noted old what (take count paths)
  pub within : IsWithin old.told → IsWithin now.told
