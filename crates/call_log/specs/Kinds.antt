-- The kinds of records, and the bytes that stand for them. Assumes nothing.
use Rattle.std.specs.Prelude.{◌≡◌, cond, ℕ, eqb, Option, Some, None, Result, MatchResult}
use Rattle.call_log.specs.declared.kind.Kind.{Kind}
use Rattle.call_log.specs.declared.kind.Kind.TheVariants.{Event, Line, ConfigWrite, BarWrite, Reset}
use Rattle.call_log.specs.declared.kind.UnknownKind.{UnknownKind}
use Rattle.call_log.specs.Logs.{size_of}

-- the byte that stands for a kind
abbrev pub kind_byte : Kind → ℕ
kind_byte Event = 1
kind_byte Line = 2
kind_byte ConfigWrite = 3
kind_byte BarWrite = 4
kind_byte Reset = 5

-- the kind with this byte, or an error with a byte that no kind has
abbrev pub Decodes : ℕ → Result Kind UnknownKind → Type 0
Decodes b r = MatchResult r (λ kind. kind_byte kind ≡ b) (λ e. (e.0 ≡ b) × (size_of b ≡ 0))

-- how many bytes a record of a kind has; none for what is no kind
abbrev pub size_in : (kind : ℕ) → Option ℕ
size_in kind = cond (eqb (size_of kind) 0) None (Some (size_of kind))
