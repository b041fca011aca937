-- The eight by four levels as the code makes them, row by row. Assumes nothing.
use mathlib.Core.Path.{◌≡◌, refl, ap, ◌∙◌}
use mathlib.Core.Bool.{Bool, false, ◌||◌, or_assoc, or-false}
use mathlib.Core.List.{List, [], ◌∷◌, map}
use Prim.Native.Nat.{ℕ, zero, suc, ◌+◌, ◌-◌, ◌%◌, ◌<◌}
use native.Mathlib.Omega.{arith}
use lib.ListN.{length, get_or}
use Rattle.words.specs.Lists.{count, any}
use Rattle.words.proofs.BoolLaws.{eight_joined}
use Rattle.switch.specs.declared.Switch.{Switch}
use Rattle.switch.specs.Switches.{drives, upstream_pin, upstream}
use Rattle.switch.specs.Joined.{levels_of, turned_by, mapped_of, active_in, joined_of, upstream_of}

-- a list of n elements, of which each is what f gives for its place, counted from i
pub listed : {A : Type 0} (f : ℕ → A) (d : A) (i n : ℕ) (l : List A) → length l ≡ n → ((k : ℕ) → k < n → get_or l k d ≡ f (i + k)) → l ≡ map f (count i n)
unfolding count
listed f d i zero [] e h = refl
listed f d i zero (x ∷ l) e h = absurd (omega (arith, e))
listed f d i (suc n) [] e h = absurd (omega (arith, e))
listed f d i (suc n) (x ∷ l) e h =
    let first : x ≡ f i = h 0 (omega arith) ∙ ap f (omega arith) in
    let rest : l ≡ map f (count (suc i) n) = listed f d (suc i) n l (omega (arith, e)) (λ k j. h (suc k) (omega arith) ∙ ap f (omega arith)) in
    rw (first, rest)

four : (a b c d : Bool) → (a ∷ b ∷ c ∷ d ∷ []) ≡ ((a || false) ∷ (b || false) ∷ (c || false) ∷ (d || false) ∷ [])
four a b c d = rw (or-false, or-false, or-false, or-false)

-- the wires of port k by upstream pins: each port by itself
pub turned-row : (k : ℕ) (w : List Bool) → k < 8
    → (get_or w ((8 - k) % 4) false ∷ get_or w ((9 - k) % 4) false ∷ get_or w ((10 - k) % 4) false ∷ get_or w ((11 - k) % 4) false ∷ []) ≡ turned_by k w
unfolding turned_by drives any count upstream_pin
turned-row zero w h = four (get_or w 0 false) (get_or w 1 false) (get_or w 2 false) (get_or w 3 false)
turned-row (suc zero) w h = four (get_or w 3 false) (get_or w 0 false) (get_or w 1 false) (get_or w 2 false)
turned-row (suc (suc zero)) w h = four (get_or w 2 false) (get_or w 3 false) (get_or w 0 false) (get_or w 1 false)
turned-row (suc (suc (suc zero))) w h = four (get_or w 1 false) (get_or w 2 false) (get_or w 3 false) (get_or w 0 false)
turned-row (suc (suc (suc (suc zero)))) w h = four (get_or w 0 false) (get_or w 1 false) (get_or w 2 false) (get_or w 3 false)
turned-row (suc (suc (suc (suc (suc zero))))) w h = four (get_or w 3 false) (get_or w 0 false) (get_or w 1 false) (get_or w 2 false)
turned-row (suc (suc (suc (suc (suc (suc zero)))))) w h = four (get_or w 2 false) (get_or w 3 false) (get_or w 0 false) (get_or w 1 false)
turned-row (suc (suc (suc (suc (suc (suc (suc zero))))))) w h = four (get_or w 1 false) (get_or w 2 false) (get_or w 3 false) (get_or w 0 false)
turned-row (suc (suc (suc (suc (suc (suc (suc (suc k)))))))) w h = absurd (omega (arith, h))

pub active-row : (m : List (List Bool)) (q : ℕ)
    → let at : ℕ → Bool = λ k. get_or (get_or m k []) q false in
    (((((((at 0 || at 1) || at 2) || at 3) || at 4) || at 5) || at 6) || at 7) ≡ active_in m (q + 1)
unfolding active_in any count
active-row m q =
    let at : ℕ → Bool = λ k. get_or (get_or m k []) q false in
    let place : q ≡ q + 1 - 1 = omega arith in
    eight_joined ◌||◌ false or_assoc or-false (at 0) (at 1) (at 2) (at 3) (at 4) (at 5) (at 6) (at 7) ∙ ap (λ (x : ℕ). any (λ k. get_or (get_or m k []) x false) (count 0 8)) place

-- mapped and joined, they are the upstream wires
pub joined_wires : (s : Switch) → joined_of (mapped_of (levels_of s)) ≡ upstream_of s
unfolding joined_of mapped_of levels_of upstream_of active_in turned_by upstream any count
joined_wires s = refl
