-- A bit of the registers by a past is what the demand's words say of it. Assumes nothing.
use mathlib.Core.Path.{◌≡◌, refl, ap, ◌∙◌}
use mathlib.Core.Bool.{Bool, true, false, cond}
use mathlib.Core.List.{[], ◌∷◌}
use mathlib.Core.Logic.{◌↔◌}
use mathlib.Core.Option.{Option, none, some, get_or, map, none-ne-some}
use Prim.Native.Nat.{ℕ}
use Rattle.words.specs.Bits.{bit, merge}
use Rattle.words.proofs.BitLaws.{bit-merge}
use Rattle.model.specs.declared.Shape.{Shape}
use Rattle.model.specs.Shape.{shape_of}
use Rattle.model.specs.Start.{Given}
use Rattle.model.specs.Calls.{Call, config_read, config_write, bar_read, bar_write, event, line, reset, save, withdraw}
use Rattle.model.specs.History.{Entry, Past, Location, config_byte, table_byte, is_reset, resets, puts, wrote, start_registers, writable_at, latest, registers_by, byte_at, Has, wrote_bit, Holds}
use Rattle.model.proofs.History.HistoryBytes.{byte_by}
use Rattle.model.proofs.History.HistoryRegisters.{idle-resets, idle-wrote}
use Rattle.model.proofs.History.LatestLaws.{latest_bit, latest-iff}

-- no entry is both an accepted write and an accepted reset
apart : (s : Shape) (a : Location) (k : ℕ) (y : Bool) (x : Entry) → wrote_bit s x a k ≡ some y → resets x ≡ false
unfolding wrote_bit is_reset puts
apart s a k y x e = go x.call refl
  where
    silent : (b : Bool) → ◌≡◌ {A = Option Bool} (cond b none none) (some y) → ⊥
    silent true e = none-ne-some y e
    silent false e = none-ne-some y e

    go : (c : Call) → x.call ≡ c → resets x ≡ false
    go (config_read o n) q = idle-resets x (ap is_reset q)
    go (config_write o n v out) q = idle-resets x (ap is_reset q)
    go (bar_read b o n) q = idle-resets x (ap is_reset q)
    go (bar_write b o n v out) q = idle-resets x (ap is_reset q)
    go (event n out) q = idle-resets x (ap is_reset q)
    go (line level out) q = idle-resets x (ap is_reset q)
    go (reset out) q =
        let w : wrote s x a ≡ none = idle-wrote s x a (ap (λ (c : Call). puts s c a) q) in
        absurd (silent (bit (writable_at s a) k) (rw w at e))
    go (save out) q = idle-resets x (ap is_reset q)
    go (withdraw v) q = idle-resets x (ap is_reset q)

-- byte a of the registers, and its bits
byte-registers : (g : Given) (past : Past) (a : Location) → Has (start_registers g) a
    → byte_at (registers_by g past) a
    ≡ merge (writable_at (shape_of g.config) a) (byte_at (start_registers g) a) (latest (shape_of g.config) past a (byte_at (start_registers g) a))
unfolding registers_by byte_at Has
byte-registers g past (config_byte i) h = byte_by (shape_of g.config) past config_byte (start_registers g).config i h
byte-registers g past (table_byte i) h = byte_by (shape_of g.config) past table_byte (start_registers g).table i h

bit-latest : (s : Shape) (a : Location) (d k : ℕ) (past : Past)
    → cond (bit (writable_at s a) k) (bit (latest s past a d) k) (bit d k) ≡ latest_bit (λ x. wrote_bit s x a k) resets (bit d k) past
unfolding latest wrote_bit
bit-latest s a d k past = go (bit (writable_at s a) k) past
  where
    one : (r : Bool) (w : Option ℕ) (l : ℕ) → bit (cond r d (get_or w l)) k ≡ cond r (bit d k) (get_or (map (λ b. bit b k) w) (bit l k))
    one true w l = refl
    one false none l = refl
    one false (some b) l = refl

    same : (r : Bool) → bit d k ≡ cond r (bit d k) (bit d k)
    same true = refl
    same false = refl

    go : (m : Bool) (past : Past) → cond m (bit (latest s past a d) k) (bit d k)
        ≡ latest_bit {A = Entry} (λ x. cond m (map (λ b. bit b k) (wrote s x a)) none) resets (bit d k) past
    go true [] = refl
    go true (x ∷ past) =
        one (resets x) (wrote s x a) (latest s past a d)
        ∙ ap (λ (b : Bool). cond (resets x) (bit d k) (get_or (map (λ b. bit b k) (wrote s x a)) b)) (go true past)
    go false [] = refl
    go false (x ∷ past) = same (resets x) ∙ ap (cond (resets x) (bit d k)) (go false past)

-- bit k of byte a is y exactly if the past says so
pub register_bit : (g : Given) (past : Past) (a : Location) → Has (start_registers g) a → (k : ℕ) (y : Bool)
    → (bit (byte_at (registers_by g past) a) k ≡ y) ↔ Holds g past a k y
register_bit g past a h k y =
    rw (byte-registers g past a h, bit-merge, bit-latest s a d k past)
    (latest-iff (λ x. wrote_bit s x a k) resets (bit d k) y (apart s a k y) past)
  where
    s : Shape
    s = shape_of g.config

    d : ℕ
    d = byte_at (start_registers g) a
