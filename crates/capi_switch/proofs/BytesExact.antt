-- A switch and its 10 bytes determine each other, and a port's byte has the wires of its port as bits. Assumes nothing.
use mathlib.Core.Path.{◌≡◌, refl, sym, ap, ap₂, ◌∙◌}
use mathlib.Core.Bool.{Bool, true, false}
use mathlib.Core.List.{List, [], ◌∷◌, ◌++◌, map}
use Prim.Native.Nat.{ℕ, ◌+◌, ◌-◌, ◌*◌, ◌^◌, ◌≤◌, ◌<◌}
use native.Mathlib.Omega.{arith}
use lib.Dec.{ltb, eqb}
use lib.ListN.{length, drop, get_or, length-drop, take-append-drop}
use lib.Seq.{get_or-append-add, get_or-drop}
use borrow.Author.Tests.{eq-eqb, eqb-true, ltb-true, lt-ltb}
use Rattle.words.specs.Lists.{count, all}
use Rattle.words.specs.Bits.{bit, of_bool}
use Rattle.words.specs.Bytes.{byte, number, part, word16, bytes_of, Bytes}
use Rattle.words.proofs.BoolLaws.{both, and_intro}
use Rattle.words.proofs.BitLaws.{of_bool-small}
use Rattle.words.proofs.ListLaws.{member-count, map-count, map-listed, all-below, holds_all}
use Rattle.words.proofs.ByteLaws.{bytes-number}
use Rattle.model.proofs.Image.ImageLaws.{word16_of}
use Rattle.switch.specs.declared.Port.{Port}
use Rattle.switch.specs.declared.Switch.{Switch}
use Rattle.switch.specs.Switches.{port_of, switch_of, idle, wires_of, wire_of, level}
use Rattle.switch.specs.Claims.{Shaped}
use Rattle.switch.proofs.SwitchLaws.{level-wire}
use Rattle.capi_switch.specs.Crossing.{port_byte, switch_bytes, wires_in, switch_in, ports_clean, is_switch}
use Rattle.capi_switch.specs.Hosts.{wire_bit}
use Rattle.capi_switch.proofs.CrossingFor.{switch-length, switch_ten}

-- ---- the byte of a port

four_bits : (a b c d : Bool) → wires_in (of_bool a + 2 * of_bool b + 4 * of_bool c + 8 * of_bool d) ≡ a ∷ b ∷ c ∷ d ∷ []
unfolding wires_in bit of_bool count
four_bits true true true true = refl
four_bits true true true false = refl
four_bits true true false true = refl
four_bits true true false false = refl
four_bits true false true true = refl
four_bits true false true false = refl
four_bits true false false true = refl
four_bits true false false false = refl
four_bits false true true true = refl
four_bits false true true false = refl
four_bits false true false true = refl
four_bits false true false false = refl
four_bits false false true true = refl
four_bits false false true false = refl
four_bits false false false true = refl
four_bits false false false false = refl

-- its bits are the wires
bits_wires : (wires : List Bool) → wires_in (port_byte wires) ≡ map (λ i. get_or wires i false) (count 0 4)
unfolding port_byte count
bits_wires wires = four_bits (wire_of wires 1) (wire_of wires 2) (wire_of wires 3) (wire_of wires 4)

wires_read : (wires : List Bool) → length wires ≡ 4 → wires_in (port_byte wires) ≡ wires
wires_read wires e = bits_wires wires ∙ map-listed (λ i. get_or wires i false) false wires 4 e (λ _ _. refl)

bit-wire : (wires : List Bool) (i : ℕ) → i < 4 → bit (port_byte wires) i ≡ get_or wires i false
unfolding wires_in
bit-wire wires i h =
    sym (map-count (bit (port_byte wires)) false 4 i h) ∙ ap (λ (l : List Bool). get_or l i false) (bits_wires wires) ∙ map-count (λ i. get_or wires i false) false 4 i h

-- and there are no others
port-small : (wires : List Bool) → port_byte wires < 16
unfolding port_byte
port-small wires = omega (arith, of_bool-small (wire_of wires 1), of_bool-small (wire_of wires 2), of_bool-small (wire_of wires 3), of_bool-small (wire_of wires 4))

byte-kept : (x : ℕ) → x < 16 → port_byte (wires_in x) ≡ x
unfolding port_byte wires_in all count bit of_bool
byte-kept x h = eqb-true (port_byte (wires_in x)) x (all-below (λ x. eqb (port_byte (wires_in x)) x) 16 x refl h)

-- ---- the bytes of a switch

byte_at : (s : Switch) (k : ℕ) → k < 8 → byte (switch_bytes s) (2 + k) ≡ port_byte (wires_of s k)
unfolding switch_bytes bytes_of
byte_at s k h =
    let f : ℕ → ℕ = λ k. port_byte (wires_of s k) in
    get_or-append-add (bytes_of 2 s.requester) (map f (count 0 8)) k 0 ∙ map-count f 0 8 k h

requester_read : (s : Switch) → s.requester < 2 ^ 16 → word16 (switch_bytes s) 0 ≡ s.requester
unfolding switch_bytes bytes_of word16 number
requester_read s w = word16_of s.requester w

port_read : (l : List ℕ) (k : ℕ) → k < 8 → wires_of (switch_in l) k ≡ wires_in (byte l (2 + k))
unfolding switch_in
port_read l k h = ap (λ (x : Port). x.wires) (map-count (λ k. port_of (wires_in (byte l (2 + k)))) idle 8 k h)

clean-port : (l : List ℕ) (k : ℕ) → is_switch l ≡ true → k < 8 → byte l (2 + k) < 16
unfolding is_switch ports_clean
clean-port l k e h =
    ltb-true (byte l (2 + k)) 16 (all-below (λ k. ltb (byte l (2 + k)) 16) 8 k (both (eqb (length l) 10) (ports_clean l) e).1 h)

-- A switch is read back from the bytes that are written of it
pub switch-reads : (s : Switch) → Shaped s → s.requester < 2 ^ 16 → switch_in (switch_bytes s) ≡ s
unfolding switch_in
switch-reads s h w =
    let read : ℕ → Port = λ k. port_of (wires_in (byte (switch_bytes s) (2 + k))) in
    let port : (k : ℕ) → k < 8 → read k ≡ get_or s.ports k idle =
    λ k j. ap (λ (b : ℕ). port_of (wires_in b)) (byte_at s k j) ∙ ap port_of (wires_read (wires_of s k) (h.wires k)) in
    λ i. switch_of (requester_read s w i) (map-listed read idle s.ports 8 h.ports port i)

-- The bytes that are written of a switch are a switch's: 10, and no port has more than four wires
pub switch-clean : (s : Switch) → is_switch (switch_bytes s) ≡ true
unfolding is_switch ports_clean
switch-clean s =
    and_intro (eqb (length (switch_bytes s)) 10) (ports_clean (switch_bytes s)) (eq-eqb (length (switch_bytes s)) 10 (switch_ten s))
    (holds_all (λ k. ltb (byte (switch_bytes s) (2 + k)) 16) (count 0 8)
    (λ k m.
    let h : k < 8 = omega (arith, (member-count 0 8 k m).1) in
    lt-ltb (byte (switch_bytes s) (2 + k)) 16 (rw (byte_at s k h) (port-small (wires_of s k)))))

-- Bytes of a switch are those written of the switch that they hold
pub switch_kept : (l : List ℕ) → is_switch l ≡ true → Bytes l → switch_bytes (switch_in l) ≡ l
unfolding switch_bytes switch_in word16 part
switch_kept l e b =
    let ten = switch-length l e in
    ap₂ ◌++◌ (bytes-number l b 0 2 (omega arith))
    (map-listed (λ k. port_byte (wires_of (switch_in l) k)) 0 (drop 2 l) 8 (length-drop 2 l ∙ omega arith)
    (λ k h. ap port_byte (port_read l k h) ∙ byte-kept (byte l (2 + k)) (clean-port l k e h) ∙ sym (get_or-drop 2 l k 0)))
    ∙ take-append-drop 2 l

-- What the bytes of a switch say of a port's wire is its level
pub switch_bits : (s : Switch) (k p : ℕ) → k < 8 → 1 ≤ p → p ≤ 4 → wire_bit (switch_bytes s) k p ≡ level s k p
unfolding wire_bit
switch_bits s k p port first last = ap (λ (x : ℕ). bit x (p - 1)) (byte_at s k port) ∙ bit-wire (wires_of s k) (p - 1) (omega arith) ∙ sym (level-wire s k p)
