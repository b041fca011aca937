-- Where listed capabilities stand in a configuration of bytes. Assumes nothing.
use mathlib.Core.Path.{◌≡◌, refl}
use mathlib.Core.Bool.{Bool, true, false}
use mathlib.Core.List.{List, [], ◌∷◌}
use mathlib.Core.Option.{Option, none, some}
use Prim.Native.Nat.{ℕ, zero, suc, ◌+◌, ◌<◌}
use native.Mathlib.Omega.{arith}
use lib.Dec.{eqb, ltb}
use Rattle.words.specs.Bits.{bit}
use Rattle.words.specs.Bytes.{byte}
use Rattle.words.proofs.BoolLaws.{cond_elim}
use Rattle.words.proofs.ListLaws.{Holds, holds_nil, holds_cons}
use Rattle.model.specs.Capabilities.{pointer, walk_step, walk, capabilities, listed, with_id}
use Rattle.model.proofs.Shapes.CapabilityLaws.{first-listed}
use Rattle.layout.specs.Places.{found_of}
use Rattle.layout.specs.Shapes.{Place, Placed}

pointer_place : (p : ℕ) → p < 256 → Place (pointer p)
unfolding pointer
pointer_place p h = record { aligned = omega arith; below = omega arith }

step_place : (a : ℕ) (ends low : Bool) (r : Option (List ℕ)) → Place a → Holds Place (listed r) → Holds Place (listed (walk_step ends low a r))
unfolding walk_step listed
step_place a true low r p h = holds_nil Place
step_place a false true r p h = holds_nil Place
step_place a false false none p h = holds_nil Place
step_place a false false (some l) p h = holds_cons Place a l p h

none_place : Holds Place (listed none)
unfolding listed
none_place = holds_nil Place

module _ (c : List ℕ) (bytes : (i : ℕ) → byte c i < 256) where
  walk_place : (n p : ℕ) → p < 256 → Holds Place (listed (walk c n p))
  unfolding walk
  walk_place zero p h = step_place (pointer p) (eqb (pointer p) 0) (ltb (pointer p) 64) none (pointer_place p h) none_place
  walk_place (suc n) p h =
      step_place (pointer p) (eqb (pointer p) 0) (ltb (pointer p) 64) (walk c n (byte c (pointer p + 1))) (pointer_place p h)
      (walk_place n (byte c (pointer p + 1)) (bytes (pointer p + 1)))

  pub listed_place : Holds Place (listed (capabilities c))
  unfolding capabilities listed
  listed_place =
      cond_elim (λ (r : Option (List ℕ)). Holds Place (listed r)) (bit (byte c 6) 4) (λ _. walk_place 48 (byte c 0x34) (bytes 0x34)) (λ _. holds_nil Place)

  -- the first capability with an ID
  pub first_place : (id : ℕ) → Placed (found_of (with_id c (listed (capabilities c)) id))
  unfolding found_of
  first_place id = go (with_id c (listed (capabilities c)) id) refl
    where
      go : (l : List ℕ) → with_id c (listed (capabilities c)) id ≡ l → Placed (found_of l)
      go [] e = tt
      go (a ∷ []) e = listed_place a (first-listed c (listed (capabilities c)) id a [] e)
      go (a ∷ b ∷ l) e = listed_place a (first-listed c (listed (capabilities c)) id a (b ∷ l) e)
