-- The derived equality of mechanisms by the definitions' words. Assumes nothing.
use mathlib.Core.Path.{◌≡◌, refl}
use denote.Enum.Bare.{sameb}
use Rattle.model.specs.contracts.Mode.{the_type}
use Rattle.model.specs.declared.Mode.{Mode}
use Rattle.model.specs.declared.Mode.TheVariants.{Pin, Msi, Msix}
use Rattle.model.specs.Release.{is_pin}
use Rattle.model.specs.Vectors.{same_mode}

pub equals_pin : (m : Mode) → sameb the_type m Pin ≡ is_pin m
unfolding is_pin
equals_pin Pin = refl
equals_pin Msi = refl
equals_pin Msix = refl

pub equals_msix : (m : Mode) → sameb the_type m Msix ≡ same_mode Msix m
unfolding same_mode
equals_msix Pin = refl
equals_msix Msi = refl
equals_msix Msix = refl
