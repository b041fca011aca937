-- Waiting bits set and cleared, one by one and in a sweep. Assumes nothing.
use mathlib.Core.Path.{◌≡◌, refl, sym, ap, ap₂, ◌∙◌}
use mathlib.Core.Bool.{Bool, true, false, not, ◌&&◌, ◌||◌, and-true, true≢false}
use mathlib.Core.List.{List, [], ◌∷◌}
use Prim.Native.Nat.{ℕ, ◌*◌, ◌/◌, ◌%◌, ◌<◌}
use native.Mathlib.Omega.{arith}
use lib.Dec.{eqb}
use lib.ListN.{length, set, length-set}
use lib.Seq.{get_or-set_same, get_or-set_other, set-set, set-get_or}
use borrow.Author.Tests.{eq-eqb, ne_eqb, eqb-true, eqb-false}
use Rattle.words.specs.Lists.{member}
use Rattle.words.specs.Bits.{bit, set_bit, clear_bit}
use Rattle.words.specs.Bytes.{byte}
use Rattle.words.proofs.BitLaws.{bit-set, bit-cleared, clear_unset}
use Rattle.words.proofs.BoolLaws.{by_test}
use Rattle.words.proofs.ListLaws.{Holds, holds_head, holds_tail}
use Rattle.model.specs.declared.Mode.{Mode}
use Rattle.model.specs.declared.Mode.TheVariants.{Pin, Msi, Msix}
use Rattle.model.specs.World.{Endpoint, registers, with_waiting}
use Rattle.model.specs.Vectors.{waits, change_waiting, same_mode, pending_bit}
use Rattle.model.specs.Release.{clear_all}

-- vector v of the mechanism m has a waiting bit in this function's state
abbrev pub InRange : Mode → Endpoint → ℕ → Type 0
InRange Pin u v = ⊥
InRange Msi u v = Unit {0}
InRange Msix u v = v < 8 * length u.pending

-- waiting bits are those of the state and of the pending array
pub waits-pin : (u : Endpoint) (v : ℕ) → waits Pin u v ≡ false
unfolding waits
waits-pin u v = refl

pub waits-msi : (u : Endpoint) (v : ℕ) → waits Msi u v ≡ bit u.function.waiting v
unfolding waits
waits-msi u v = refl

pub waits-msix : (u : Endpoint) (v : ℕ) → waits Msix u v ≡ pending_bit u.pending v
unfolding waits
waits-msix u v = refl

pub waits-same : (m : Mode) (u u' : Endpoint) (v : ℕ) → u'.function.waiting ≡ u.function.waiting → u'.pending ≡ u.pending → waits m u' v ≡ waits m u v
unfolding waits pending_bit
waits-same Pin u u' v e p = refl
waits-same Msi u u' v e p = rw e
waits-same Msix u u' v e p = rw p

-- of MSI-X in the pending array alone
pub waits-pending : (u u' : Endpoint) (v : ℕ) → u'.pending ≡ u.pending → waits Msix u' v ≡ waits Msix u v
unfolding waits pending_bit
waits-pending u u' v p = rw p

-- ---- what a change of a waiting bit changes

module _ (change : ℕ → ℕ → ℕ) (u : Endpoint) (v : ℕ) where
  pub change_pin : change_waiting change Pin u v ≡ u
  unfolding change_waiting
  change_pin = refl

  pub change_msi : change_waiting change Msi u v ≡ with_waiting u (change u.function.waiting v) u.pending
  unfolding change_waiting
  change_msi = refl

  pub change_msix : change_waiting change Msix u v ≡ with_waiting u u.function.waiting (set u.pending (v / 8) (change (byte u.pending (v / 8)) (v % 8)))
  unfolding change_waiting
  change_msix = refl

-- ---- bit x of a list of bytes after bit v was changed

digit_same : (x v : ℕ) → x / 8 ≡ v / 8 → eqb (x % 8) (v % 8) ≡ eqb x v
digit_same x v e =
    by_test (eqb x v) (λ q. eq-eqb (x % 8) (v % 8) (ap (λ (n : ℕ). n % 8) (eqb-true x v q)) ∙ sym q)
    (λ q. ne_eqb (x % 8) (v % 8) (λ r. eqb-false x v q (omega arith)) ∙ sym q)

-- `effect` says what `change` does to a bit, and leaves another bit
module _ (change : ℕ → ℕ → ℕ) (effect : Bool → Bool → Bool) (law : (b i k : ℕ) → bit (change b i) k ≡ effect (eqb k i) (bit b k))
    (still : (b : Bool) → effect false b ≡ b) where
  list_bit : (l : List ℕ) (v x : ℕ) → v < 8 * length l
      → bit (byte (set l (v / 8) (change (byte l (v / 8)) (v % 8))) (x / 8)) (x % 8) ≡ effect (eqb x v) (bit (byte l (x / 8)) (x % 8))
  list_bit l v x h = go (eqb (x / 8) (v / 8)) refl
    where
      b : ℕ
      b = byte l (v / 8)

      go : (t : Bool) → eqb (x / 8) (v / 8) ≡ t → bit (byte (set l (v / 8) (change b (v % 8))) (x / 8)) (x % 8) ≡ effect (eqb x v) (bit (byte l (x / 8)) (x % 8))
      go true q =
          let e : x / 8 ≡ v / 8 = eqb-true (x / 8) (v / 8) q in
          ap (λ (n : ℕ). bit (byte (set l (v / 8) (change b (v % 8))) n) (x % 8)) e
          ∙ ap (λ (n : ℕ). bit n (x % 8)) (get_or-set_same l (v / 8) (change b (v % 8)) 0 (omega arith))
          ∙ law b (v % 8) (x % 8)
          ∙ ap₂ effect (digit_same x v e) (ap (λ (n : ℕ). bit (byte l n) (x % 8)) (sym e))
      go false q =
          ap (λ (n : ℕ). bit n (x % 8)) (get_or-set_other l (v / 8) (x / 8) (change b (v % 8)) 0 (eqb-false (x / 8) (v / 8) q))
          ∙ sym (still (bit (byte l (x / 8)) (x % 8)))
          ∙ ap (λ (t : Bool). effect t (bit (byte l (x / 8)) (x % 8))) (sym (ne_eqb x v (λ r. eqb-false (x / 8) (v / 8) q (ap (λ (n : ℕ). n / 8) r))))

  -- the waiting bits of the mechanism itself
  changed_here : (m : Mode) (u : Endpoint) (v x : ℕ) → InRange m u v → waits m (change_waiting change m u v) x ≡ effect (eqb x v) (waits m u x)
  unfolding waits change_waiting pending_bit
  changed_here Pin u v x h = absurd h
  changed_here Msi u v x h = law u.function.waiting v x
  changed_here Msix u v x h = list_bit u.pending v x h

-- ---- a change of a waiting bit leaves all else

-- only waiting bits differ
pub record OnlyWaiting (u u' : Endpoint) : Type 0 where
  pub config : u'.function.config ≡ u.function.config
  pub sizes : u'.function.sizes ≡ u.function.sizes
  pub events : u'.function.events ≡ u.function.events
  pub requester : u'.function.requester ≡ u.function.requester
  pub line : u'.function.line ≡ u.function.line
  pub table : u'.table ≡ u.table
  pub pending_length : length u'.pending ≡ length u.pending

pub only_refl : (u : Endpoint) → OnlyWaiting u u
only_refl u = record { config = refl; sizes = refl; events = refl; requester = refl; line = refl; table = refl; pending_length = refl }

pub only_trans : {u v w : Endpoint} → OnlyWaiting u v → OnlyWaiting v w → OnlyWaiting u w
only_trans p q = record {
  config = q.config ∙ p.config;
  sizes = q.sizes ∙ p.sizes;
  events = q.events ∙ p.events;
  requester = q.requester ∙ p.requester;
  line = q.line ∙ p.line;
  table = q.table ∙ p.table;
  pending_length = q.pending_length ∙ p.pending_length;
}

pub only_registers : {u u' : Endpoint} → OnlyWaiting u u' → registers u' ≡ registers u
only_registers o = λ i. record { config = o.config i; table = o.table i }

pub only_waiting : (u : Endpoint) (waiting : ℕ) (pending : List ℕ) → length pending ≡ length u.pending → OnlyWaiting u (with_waiting u waiting pending)
only_waiting u waiting pending n =
    record { config = refl; sizes = refl; events = refl; requester = refl; line = refl; table = refl; pending_length = n }

pub change_only : (change : ℕ → ℕ → ℕ) (m : Mode) (u : Endpoint) (v : ℕ) → OnlyWaiting u (change_waiting change m u v)
unfolding change_waiting
change_only change Pin u v = only_refl u
change_only change Msi u v = only_waiting u (change u.function.waiting v) u.pending refl
change_only change Msix u v =
    only_waiting u u.function.waiting (set u.pending (v / 8) (change (byte u.pending (v / 8)) (v % 8)))
    (length-set u.pending (v / 8) (change (byte u.pending (v / 8)) (v % 8)))

pub range_only : (m : Mode) (u u' : Endpoint) (v : ℕ) → OnlyWaiting u u' → InRange m u v → InRange m u' v
range_only Pin u u' v o h = h
range_only Msi u u' v o h = h
range_only Msix u u' v o h = omega (arith, o.pending_length)

-- a waiting bit set, and cleared
pub waits-set : (m : Mode) (u : Endpoint) (v x : ℕ) → InRange m u v → waits m (change_waiting set_bit m u v) x ≡ (eqb x v || waits m u x)
waits-set m u v x h = changed_here set_bit ◌||◌ bit-set (λ b. refl) m u v x h

pub waits-cleared : (m : Mode) (u : Endpoint) (v x : ℕ) → InRange m u v → waits m (change_waiting clear_bit m u v) x ≡ (waits m u x && not (eqb x v))
waits-cleared m u v x h = changed_here clear_bit (λ a b. b && not a) bit-cleared and-true m u v x h

-- a bit that was not set, set and cleared again
pub change_back : (m : Mode) (u : Endpoint) (v : ℕ) → InRange m u v → waits m u v ≡ false → change_waiting clear_bit m (change_waiting set_bit m u v) v ≡ u
unfolding waits change_waiting pending_bit
change_back Pin u v r h = refl
change_back Msi u v r h = ap (λ (x : ℕ). with_waiting u x u.pending) (clear_unset u.function.waiting v h)
change_back Msix u v r h =
    let b : ℕ = byte u.pending (v / 8) in
    ap (with_waiting u u.function.waiting)
    (set-set u.pending (v / 8) (set_bit b (v % 8)) (clear_bit (byte (set u.pending (v / 8) (set_bit b (v % 8))) (v / 8)) (v % 8))
    ∙ ap (λ (x : ℕ). set u.pending (v / 8) (clear_bit x (v % 8))) (get_or-set_same u.pending (v / 8) (set_bit b (v % 8)) 0 (omega arith))
    ∙ ap (set u.pending (v / 8)) (clear_unset b (v % 8) h)
    ∙ set-get_or u.pending (v / 8) 0)

-- ---- the waiting bits of another mechanism stay

pub waits-apart : (change : ℕ → ℕ → ℕ) (m n : Mode) (u : Endpoint) (v x : ℕ) → same_mode n m ≡ false → waits n (change_waiting change m u v) x ≡ waits n u x
unfolding waits change_waiting same_mode pending_bit
waits-apart change Pin n u v x a = refl
waits-apart change Msi Pin u v x a = refl
waits-apart change Msi Msi u v x a = absurd (true≢false a)
waits-apart change Msi Msix u v x a = refl
waits-apart change Msix Pin u v x a = refl
waits-apart change Msix Msi u v x a = refl
waits-apart change Msix Msix u v x a = absurd (true≢false a)

-- ---- a sweep

pub clear_only : (m : Mode) (u : Endpoint) (vs : List ℕ) → OnlyWaiting u (clear_all m u vs)
unfolding clear_all
clear_only m u [] = only_refl u
clear_only m u (v ∷ vs) = only_trans (change_only clear_bit m u v) (clear_only m (change_waiting clear_bit m u v) vs)

without : (a b c : Bool) → ((b && not a) && not c) ≡ (b && not (a || c))
without true true c = refl
without true false c = refl
without false true c = refl
without false false c = refl

-- after vectors were cleared, those wait that did and were not among them
pub waits-clear : (m : Mode) (u : Endpoint) (vs : List ℕ) (x : ℕ) → Holds (λ v. InRange m u v) vs → waits m (clear_all m u vs) x ≡ (waits m u x && not (member x vs))
unfolding clear_all member
waits-clear m u [] x h = sym (and-true (waits m u x))
waits-clear m u (v ∷ vs) x h =
    waits-clear m (change_waiting clear_bit m u v) vs x
    (λ y k. range_only m u (change_waiting clear_bit m u v) y (change_only clear_bit m u v) (holds_tail (λ w. InRange m u w) v vs h y k))
    ∙ ap (λ (b : Bool). b && not (member x vs)) (waits-cleared m u v x (holds_head (λ w. InRange m u w) v vs h))
    ∙ without (eqb x v) (waits m u x) (member x vs)

pub clear_apart : (m n : Mode) (u : Endpoint) (vs : List ℕ) (x : ℕ) → same_mode n m ≡ false → waits n (clear_all m u vs) x ≡ waits n u x
unfolding clear_all
clear_apart m n u [] x a = refl
clear_apart m n u (v ∷ vs) x a = clear_apart m n (change_waiting clear_bit m u v) vs x a ∙ waits-apart clear_bit m n u v x a
