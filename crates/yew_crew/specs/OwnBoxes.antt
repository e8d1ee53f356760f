-- What a worker knows of its own box while it runs.
use Rattle.std.specs.Prelude.{◌≡◌, ℕ}
use Rattle.yew_mail.specs.declared.view.OwnBox.{OwnBox}
use Rattle.yew_mail.specs.declared.view.OwnBox.TheVariants.{KnownShut, Saw}
use Rattle.yew_crew.specs.declared.handing.Known.{Known}
use Rattle.yew_crew.specs.declared.handing.Known.TheVariants.{Nothing, Shut, Asker}

-- what it knows is true
abbrev pub IsKnown : Known → OwnBox → Type 0
IsKnown Nothing own = Unit {0}
IsKnown Shut own = own ≡ KnownShut
IsKnown Asker own = (worker : ℕ) × (own ≡ Saw worker)
