-- The walk looks only at the pointers of the capabilities that it lists, and each stands at a multiple of 4, at 40h or above. Assumes nothing.
use mathlib.Core.Path.{◌≡◌, refl, sym, ap, ◌∙◌}
use mathlib.Core.Bool.{Bool, true, false, not, true≢false}
use mathlib.Core.Option.{Option, none, some}
use mathlib.Core.List.{List, [], ◌∷◌}
use Prim.Native.Nat.{ℕ, zero, suc, ◌+◌, ◌%◌, ◌≤◌}
use native.Mathlib.Omega.{arith}
use lib.Dec.{ltb, eqb}
use borrow.Author.Tests.{ltb-false, ne_eqb}
use Rattle.words.specs.Lists.{member}
use Rattle.words.specs.Bits.{bit}
use Rattle.words.specs.Bytes.{byte}
use Rattle.words.proofs.BoolLaws.{both, cond_elim}
use Rattle.words.proofs.ListLaws.{Holds, holds_nil, holds_cons, holds_head, holds_tail, member-keep, member_head}
use Rattle.model.specs.Capabilities.{pointer, walk_step, walk, capabilities, listed, broken, with_id}

-- ---- the walk of two configurations with the same pointers

step_same : (P : ℕ → Type 0) (a : ℕ) (ends low : Bool) (r q : Option (List ℕ))
    → (P a → Holds P (listed r) → broken r ≡ false → q ≡ r)
    → Holds P (listed (walk_step ends low a r)) → broken (walk_step ends low a r) ≡ false → walk_step ends low a q ≡ walk_step ends low a r
unfolding walk_step broken listed
step_same P a true low r q k h b = refl
step_same P a false true r q k h b = refl
step_same P a false false none q k h b = absurd (true≢false b)
step_same P a false false (some l) q k h b = rw (k (holds_head P a l h) (holds_tail P a l h) refl)

pub walk_same : (c d : List ℕ) (n p : ℕ) → Holds (λ a. byte d (a + 1) ≡ byte c (a + 1)) (listed (walk c n p)) → broken (walk c n p) ≡ false
    → walk d n p ≡ walk c n p
unfolding walk
walk_same c d zero p h b = refl
walk_same c d (suc n) p h b =
    let a : ℕ = pointer p in
    step_same (λ a. byte d (a + 1) ≡ byte c (a + 1)) a (eqb a 0) (ltb a 64) (walk c n (byte c (a + 1))) (walk d n (byte d (a + 1)))
    (λ e hs k. ap (walk d n) e ∙ walk_same c d n (byte c (a + 1)) hs k) h b

-- ---- what is true of every pointer to 40h or above is true of every listed place

module _ (P : ℕ → Type 0) (each : (p : ℕ) → ltb (pointer p) 64 ≡ false → P (pointer p)) where
  step-all : (p : ℕ) (ends low : Bool) (r : Option (List ℕ)) → ltb (pointer p) 64 ≡ low → Holds P (listed r) → Holds P (listed (walk_step ends low (pointer p) r))
  unfolding walk_step listed
  step-all p true low r e h = holds_nil P
  step-all p false true r e h = holds_nil P
  step-all p false false none e h = holds_nil P
  step-all p false false (some l) e h = holds_cons P (pointer p) l (each p e) h

  none-all : Holds P (listed none)
  unfolding listed
  none-all = holds_nil P

  walk-all : (c : List ℕ) (n p : ℕ) → Holds P (listed (walk c n p))
  unfolding walk
  walk-all c zero p = step-all p (eqb (pointer p) 0) (ltb (pointer p) 64) none refl none-all
  walk-all c (suc n) p =
      step-all p (eqb (pointer p) 0) (ltb (pointer p) 64) (walk c n (byte c (pointer p + 1))) refl (walk-all c n (byte c (pointer p + 1)))

  pub capabilities-all : (c : List ℕ) → Holds P (listed (capabilities c))
  unfolding capabilities listed
  capabilities-all c =
      cond_elim (λ (r : Option (List ℕ)). Holds P (listed r)) (bit (byte c 6) 4) (λ _. walk-all c 48 (byte c 0x34)) (λ _. holds_nil P)

pub capabilities-high : (c : List ℕ) → Holds (λ x. 64 ≤ x) (listed (capabilities c))
capabilities-high = capabilities-all (λ x. 64 ≤ x) (λ p e. ltb-false (pointer p) 64 e)

-- a pointer has no low two bits
pub capabilities-aligned : (c : List ℕ) → Holds (λ x. x % 4 ≡ 0) (listed (capabilities c))
unfolding pointer
capabilities-aligned = capabilities-all (λ x. x % 4 ≡ 0) (λ p e. omega arith)

-- ---- the first capability with an ID

-- it is listed
pub first-listed : (c places : List ℕ) (id a : ℕ) (r : List ℕ) → with_id c places id ≡ a ∷ r → member a places ≡ true
unfolding with_id
first-listed c places id a r e =
    let f : ℕ → Bool = λ x. eqb (byte c x) id in
    (both (f a) (member a places) (sym (member-keep f places a) ∙ ap (member a) e ∙ member_head a r)).1

-- so it stands at 40h or above
pub first-high : (c : List ℕ) (id a : ℕ) (r : List ℕ) → with_id c (listed (capabilities c)) id ≡ a ∷ r → 64 ≤ a
first-high c id a r e = capabilities-high c a (first-listed c (listed (capabilities c)) id a r e)

-- there is none where its place is 0: what holds with none holds
pub if_absent : (c : List ℕ) (id : ℕ) (at : List ℕ → ℕ) (P : List ℕ → Type 0) → ((a : ℕ) (r : List ℕ) → at (a ∷ r) ≡ a)
    → not (eqb (at (with_id c (listed (capabilities c)) id)) 0) ≡ false → P [] → P (with_id c (listed (capabilities c)) id)
if_absent c id at P place p q = go (with_id c (listed (capabilities c)) id) refl p
  where
    go : (l : List ℕ) → with_id c (listed (capabilities c)) id ≡ l → not (eqb (at l) 0) ≡ false → P l
    go [] e p = q
    go (a ∷ r) e p =
        let h : 64 ≤ a = first-high c id a r e in
        let n : at (a ∷ r) ≡ a = place a r in
        absurd (true≢false (sym (ap not (ne_eqb (at (a ∷ r)) 0 (omega arith))) ∙ p))
