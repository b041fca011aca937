-- The wires of a switch after a change of one of them, or of a port's, and the upstream wires by the wires of the ports.
-- A changed switch keeps its shape whatever the numbers are. Assumes nothing.
use mathlib.Core.Path.{◌≡◌, refl, sym, ap, ◌∙◌}
use mathlib.Core.Bool.{Bool, true, false, cond, ◌&&◌, false≢true}
use mathlib.Core.List.{List}
use mathlib.Core.Logic.{◌↔◌}
use Prim.Native.Nat.{ℕ, ◌-◌, ◌≤◌, ◌<◌}
use native.Mathlib.Omega.{arith}
use lib.Dec.{ltb, eqb}
use lib.ListN.{length, set, length-set}
use lib.Seq.{get_or-set_same, get_or-set_other}
use borrow.Author.Tests.{eqb-true, eqb-false, eq-eqb, lt-ltb}
use Rattle.words.specs.Lists.{count}
use Rattle.words.proofs.BoolLaws.{by_test, both, and_intro, second_false, same_test, cond_elim}
use Rattle.words.proofs.ListLaws.{Passing, any-true, true-any, member-count, count-member}
use Rattle.words.proofs.ElementLaws.{all-equal, set_elim, element_set}
use Rattle.switch.specs.declared.Port.{Port}
use Rattle.switch.specs.declared.Switch.{Switch}
use Rattle.switch.specs.Switches.{port_of, switch_of, idle, fresh, wires_of, wire_of, level, with_level, without_port, upstream_pin, drives, upstream}
use Rattle.switch.specs.Claims.{Shaped}

-- ---- eight ports of four wires

shaped-set : (s : Switch) (j : ℕ) (wires : List Bool) → length wires ≡ 4 → Shaped s → Shaped (switch_of s.requester (set s.ports j (port_of wires)))
shaped-set s j wires e h = record {
  ports = length-set s.ports j (port_of wires) ∙ h.ports;
  wires = λ k. set_elim (λ (p : Port). length p.wires ≡ 4) s.ports j k (port_of wires) idle e (h.wires k);
}

-- a fresh switch has this shape
pub shaped_fresh : (requester : ℕ) → Shaped (fresh requester)
unfolding fresh
shaped_fresh requester = record { ports = refl; wires = λ k. ap (λ (p : Port). length p.wires) (all-equal 8 k idle) }

-- a wire at another level, and a port without wires, leave it
pub shaped-level : (s : Switch) (j p : ℕ) (b : Bool) → Shaped s → Shaped (with_level s j p b)
unfolding with_level
shaped-level s j p b h = shaped-set s j (set (wires_of s j) (p - 1) b) (length-set (wires_of s j) (p - 1) b ∙ h.wires j) h

pub shaped-down : (s : Switch) (j : ℕ) → Shaped s → Shaped (without_port s j)
unfolding without_port
shaped-down s j h = shaped-set s j idle.wires refl h

-- ---- the level of a wire

-- it is the port's wire of that pin
pub level-wire : (s : Switch) (k p : ℕ) → level s k p ≡ wire_of (wires_of s k) p
unfolding level
level-wire s k p = refl

idle-wire : (p : ℕ) → wire_of idle.wires p ≡ false
idle-wire p = all-equal 4 (p - 1) false

-- no wire of a fresh switch is active
pub level-fresh : (requester k p : ℕ) → level (fresh requester) k p ≡ false
unfolding fresh level
level-fresh requester k p = ap (λ (x : Port). wire_of x.wires p) (all-equal 8 k idle) ∙ idle-wire p

-- the wires of a port, one of them at another level
wire-set : (wires : List Bool) (q p : ℕ) (b : Bool) → length wires ≡ 4 → 1 ≤ q → q ≤ 4 → 1 ≤ p
    → wire_of (set wires (q - 1) b) p ≡ cond (eqb q p) b (wire_of wires p)
wire-set wires q p b n q1 q4 p1 =
    by_test (eqb q p) (λ e. rw (← eqb-true q p e, eq-eqb q q refl) (get_or-set_same wires (q - 1) b false (omega arith)))
    (λ e. let ne : q ≡ p → ⊥ = eqb-false q p e in rw e (get_or-set_other wires (q - 1) (p - 1) b false (λ x. ne (omega arith))))

-- port j with other wires, if there is a port j
level-port : (s : Switch) (j : ℕ) (wires : List Bool) (k p : ℕ)
    → level (switch_of s.requester (set s.ports j (port_of wires))) k p ≡ cond (eqb j k && ltb j (length s.ports)) (wire_of wires p) (level s k p)
unfolding level
level-port s j wires k p =
    ap (λ (x : Port). wire_of x.wires p) (element_set s.ports j k (port_of wires) idle)
    ∙ by_test (eqb j k && ltb j (length s.ports)) (λ e. rw e) (λ e. rw e)

module _ (s : Switch) (h : Shaped s) (j : ℕ) (i : j < 8) where
  in_range : ltb j (length s.ports) ≡ true
  in_range = lt-ltb j (length s.ports) (omega (arith, h.ports))

  -- the wire of pin q at port j has its new level, and every other one its old
  pub level-set : (q : ℕ) (b : Bool) (k p : ℕ) → 1 ≤ q → q ≤ 4 → 1 ≤ p → level (with_level s j q b) k p ≡ cond (eqb j k && eqb q p) b (level s k p)
  unfolding with_level level
  level-set q b k p q1 q4 p1 =
      level-port s j (set (wires_of s j) (q - 1) b) k p
      ∙ by_test (eqb j k) (λ e. rw (← eqb-true j k e, eq-eqb j j refl, in_range) (wire-set (wires_of s j) q p b (h.wires j) q1 q4 p1)) (λ e. rw e)

  -- the wires of port j are inactive, and every other one has its old level
  pub level-down : (k p : ℕ) → level (without_port s j) k p ≡ cond (eqb j k) false (level s k p)
  unfolding without_port
  level-down k p = level-port s j idle.wires k p ∙ by_test (eqb j k) (λ e. rw (e, in_range, idle-wire p)) (λ e. rw e)

-- ---- of any switch, also where the port is none of its

-- another wire than the one that is set has its old level
pub level_other : (s : Switch) (j q k p : ℕ) (b : Bool) → 1 ≤ q → 1 ≤ p → (eqb j k && eqb q p) ≡ false → level (with_level s j q b) k p ≡ level s k p
unfolding with_level level
level_other s j q k p b q1 p1 n =
    level-port s j (set (wires_of s j) (q - 1) b) k p
    ∙ cond_elim (λ (x : Bool). x ≡ level s k p) (eqb j k && ltb j (length s.ports)) same (λ e. refl)
  where
    same : (eqb j k && ltb j (length s.ports)) ≡ true → wire_of (set (wires_of s j) (q - 1) b) p ≡ level s k p
    same e =
        let here = (both (eqb j k) (ltb j (length s.ports)) e).0 in
        let apart : q ≡ p → ⊥ = eqb-false q p (second_false (eqb j k) (eqb q p) here n) in
        get_or-set_other (wires_of s j) (q - 1) (p - 1) b false (λ x. apart (omega (arith, q1, p1, x))) ∙ ap (λ (x : ℕ). wire_of (wires_of s x) p) (eqb-true j k here)

-- a wire that is active after a port has gone down was active before
pub level_was : (s : Switch) (j k p : ℕ) → level (without_port s j) k p ≡ true → level s k p ≡ true
unfolding without_port
level_was s j k p e =
    cond_elim (λ (x : Bool). x ≡ true → level s k p ≡ true) (eqb j k && ltb j (length s.ports))
    (λ t x. absurd (false≢true (sym (idle-wire p) ∙ x))) (λ t x. x) (sym (level-port s j idle.wires k p) ∙ e)

-- ---- the upstream wires

-- a wire of a port that becomes upstream pin q and is active
pub record Driven (s : Switch) (q : ℕ) : Type 0 where
  pub port : ℕ
  pub pin : ℕ
  pub is_port : port < 8
  pub first : 1 ≤ pin
  pub last : pin ≤ 4
  pub mapped : upstream_pin port pin ≡ q
  pub active : level s port pin ≡ true

-- "The upstream wire is active while any port's mapped wire is": exactly then
pub upstream_iff : (s : Switch) (q : ℕ) → (upstream s q ≡ true) ↔ Driven s q
unfolding upstream drives level
upstream_iff s q = (λ e. found (any-true (λ k. drives k (wires_of s k) q) (count 0 8) e), drive)
  where
    test : (k p : ℕ) → Bool
    test k p = eqb (upstream_pin k p) q && wire_of (wires_of s k) p

    found : Passing (λ k. drives k (wires_of s k) q) (count 0 8) → Driven s q
    found a =
        let k = a.number in
        let b = any-true (test k) (count 1 4) a.passes in
        let ports = member-count 0 8 k a.listed in
        let pins = member-count 1 4 b.number b.listed in
        let on = both (eqb (upstream_pin k b.number) q) (wire_of (wires_of s k) b.number) b.passes in
        record {
          port = k;
          pin = b.number;
          is_port = omega (arith, ports.1);
          first = pins.0;
          last = omega (arith, pins.1);
          mapped = eqb-true (upstream_pin k b.number) q on.0;
          active = on.1;
        }

    drive : Driven s q → upstream s q ≡ true
    drive d =
        true-any (λ k. drives k (wires_of s k) q) (count 0 8) d.port (count-member 0 8 d.port (omega arith) (omega (arith, d.is_port)))
        (true-any (test d.port) (count 1 4) d.pin (count-member 1 4 d.pin d.first (omega (arith, d.last)))
        (and_intro (eqb (upstream_pin d.port d.pin) q) (wire_of (wires_of s d.port) d.pin) (eq-eqb (upstream_pin d.port d.pin) q d.mapped) d.active))

-- the two ways of it, by port and pin
module _ (s : Switch) (q : ℕ) where
  pub upstream-active : (k p : ℕ) → k < 8 → 1 ≤ p → p ≤ 4 → upstream_pin k p ≡ q → level s k p ≡ true → upstream s q ≡ true
  upstream-active k p port first last m e =
      (upstream_iff s q).1 (record { port = k; pin = p; is_port = port; first = first; last = last; mapped = m; active = e })

  pub upstream_elim : {P : Type 0} → ((k p : ℕ) → k < 8 → 1 ≤ p → p ≤ 4 → upstream_pin k p ≡ q → level s k p ≡ true → P) → upstream s q ≡ true → P
  upstream_elim f e = let d = (upstream_iff s q).0 e in f d.port d.pin d.is_port d.first d.last d.mapped d.active

-- an upstream wire that is active by one switch is so by another, where each wire that becomes it is
pub upstream_mono : (s t : Switch) (q : ℕ) → ((k p : ℕ) → k < 8 → 1 ≤ p → p ≤ 4 → upstream_pin k p ≡ q → level s k p ≡ true → level t k p ≡ true)
    → upstream s q ≡ true → upstream t q ≡ true
upstream_mono s t q f = upstream_elim s q (λ k p a b c m e. upstream-active t q k p a b c m (f k p a b c m e))

-- two switches at which each wire that becomes an upstream wire has the same level
pub upstream-same : (s t : Switch) (q : ℕ) → ((k p : ℕ) → k < 8 → 1 ≤ p → p ≤ 4 → upstream_pin k p ≡ q → level s k p ≡ level t k p)
    → upstream s q ≡ upstream t q
upstream-same s t q f =
    same_test (upstream s q) (upstream t q) (upstream_mono s t q (λ k p a b c m e. sym (f k p a b c m) ∙ e))
    (upstream_mono t s q (λ k p a b c m e. f k p a b c m ∙ e))

-- no upstream wire of a fresh switch is active
pub upstream-fresh : (requester q : ℕ) → upstream (fresh requester) q ≡ false
upstream-fresh requester q =
    by_test (upstream (fresh requester) q)
    (upstream_elim (fresh requester) q (λ k p _ _ _ _ e. absurd (false≢true (sym (level-fresh requester k p) ∙ e))))
    (λ e. e)

-- an upstream pin is 1 to 4
pub upstream-pin : (k p : ℕ) → (1 ≤ upstream_pin k p) × (upstream_pin k p ≤ 4)
unfolding upstream_pin
upstream-pin k p = (omega arith, omega arith)
