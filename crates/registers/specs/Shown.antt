-- What a read shows of one byte, the contract of a function. Assumes nothing.
use Rattle.std.specs.Prelude.{◌≡◌, Bool, true, cond, ◌&&◌, List, ℕ, ◌+◌, ◌-◌, ◌*◌, ◌≤◌, eqb}
use Rattle.words.specs.Bits.{of_bool}
use Rattle.words.specs.Bytes.{byte, bytes_of}
use Rattle.model.specs.declared.Form.{Form}
use Rattle.model.specs.declared.Shape.{Shape}
use Rattle.model.specs.Shape.{form_of}
use Rattle.model.specs.Registers.{in_msi, in_pending_register, stored_zero}
use Rattle.model.specs.Sound.{zero_bits}

-- configuration byte i, which is stored as b
unfoldable pub byte_shown : Shape → (line : Bool) → (waiting i b : ℕ) → ℕ
byte_shown s line waiting i b =
    cond (eqb i 6) (b + 8 * of_bool line)
    (cond (in_msi s i && in_pending_register s (i - s.msi.at)) (byte (bytes_of 4 waiting) (i - s.msi.at - (form_of s).pending)) b)

-- each byte of a configuration
abbrev pub config_shown : Shape → (line : Bool) → (waiting : ℕ) → List ℕ → ℕ → ℕ
config_shown s line waiting config i = byte_shown s line waiting i (byte config i)

-- n bytes from place `at` on can be read of a configuration whose bits that are stored as 0 are 0, where MSI's form is f
pub record Readable (config : List ℕ) (s : Shape) (f : Form) (at n : ℕ) : Type 0 where
  pub within : at + n ≤ 256
  pub few : n ≤ 4
  pub ends : s.msi.at + (form_of s).size ≤ 256
  pub form : f ≡ form_of s
  pub clean : zero_bits (stored_zero s) config ≡ true
