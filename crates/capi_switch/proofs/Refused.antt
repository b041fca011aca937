-- What a refused function of the switch's interface leaves: every byte as it was; 60 is for bytes that are no switch's, and a start is refused with
-- nothing else. Assumes nothing.
use mathlib.Core.Path.{◌≡◌, refl, sym, ◌∙◌}
use mathlib.Core.Bool.{true, false, ◌&&◌, true≢false}
use mathlib.Core.List.{List, []}
use mathlib.Core.Logic.{◌↔◌}
use Prim.Native.Nat.{ℕ, ◌^◌, ◌<◌}
use native.Mathlib.Omega.{arith}
use lib.Dec.{ltb, eqb}
use lib.ListN.{length}
use borrow.Author.Tests.{eqb-true, eqb-false, eq-eqb, ltb-true, lt-ltb}
use Rattle.words.specs.Writers.{over}
use Rattle.words.proofs.BoolLaws.{both, and_intro, cond_elim}
use Rattle.model.specs.declared.Answer.TheVariants.{Refused, Done}
use Rattle.model.proofs.Calls.AnswerLaws.{numbered, is_refused, is_done}
use Rattle.switch.specs.declared.Switch.{Switch}
use Rattle.switch.specs.Switches.{fresh}
use Rattle.switch.specs.Calls.{SwitchCall, Switched, next_switch, sends, output_of, refusal, switch_step}
use Rattle.switch.proofs.StepLaws.{step_elim}
use Rattle.switch.proofs.Refusals.{refusal-number, other_number}
use Rattle.capi_switch.specs.Crossing.{switch_bytes, switch_in, is_switch, Crossed, handed, back, crossed, started}

-- ---- a call

-- what a refused call hands back: what it was lent
abbrev pub refused_with : List ℕ → SwitchCall → ℕ → Crossed
refused_with l c n = handed n l (output_of c) 0

-- and an accepted one: the next switch, and the bytes that it sent
abbrev pub accepted_on : Switch → SwitchCall → Crossed
accepted_on s c = handed 0 (switch_bytes (next_switch s c)) (over (sends s c) (output_of c)) (length (sends s c))

module _ (l : List ℕ) (c : SwitchCall) where
  -- what is so of a call on the switch that the bytes hold, and of 60, is so of the call
  read_elim : (P : Crossed → Type 0) → (is_switch l ≡ true → P (back l (switch_step (switch_in l) c)))
      → (is_switch l ≡ false → P (refused_with l c 60)) → P (crossed l c)
  unfolding crossed
  read_elim P f g = cond_elim P (is_switch l) f g

  -- what is so of an accepted and of a refused call is so of the call
  pub call_elim : (P : Crossed → Type 0) → (is_switch l ≡ true → refusal (switch_in l) c ≡ 0 → P (accepted_on (switch_in l) c))
      → ((n : ℕ) → (n ≡ 0 → ⊥) → P (refused_with l c n)) → P (crossed l c)
  call_elim P f g =
      read_elim P
      (λ e.
      step_elim (switch_in l) c (λ (r : Switched). P (back l r)) (λ z. rw (numbered Done 0 0 0 is_done).0 (f e z))
      (λ z. rw ((numbered (Refused (refusal (switch_in l) c)) (refusal (switch_in l) c) 0 0 (is_refused (refusal (switch_in l) c))).0, z)
      (g (refusal (switch_in l) c) (eqb-false (refusal (switch_in l) c) 0 z))))
      (λ _. g 60 (λ z. omega arith))

  -- A function on a switch returns 60 exactly if the bytes lent to it are no switch's
  pub sixty_exact : ((crossed l c).refusal ≡ 60) ↔ (is_switch l ≡ false)
  sixty_exact = (
    read_elim (λ (r : Crossed). r.refusal ≡ 60 → is_switch l ≡ false)
        (λ _ e. absurd (eqb-false (refusal (switch_in l) c) 60 (other_number (switch_in l) c 60 refl refl refl) (sym (refusal-number (switch_in l) c) ∙ e)))
        (λ e _. e),
    λ e. read_elim (λ (r : Crossed). r.refusal ≡ 60) (λ t. absurd (true≢false (sym t ∙ e))) (λ _. refl),
  )

  -- A refused function on a switch changes no byte of switch or output, and its count is 0
  pub refused-call : ((crossed l c).refusal ≡ 0 → ⊥) → crossed l c ≡ handed (crossed l c).refusal l (output_of c) 0
  refused-call =
      call_elim (λ (r : Crossed). (r.refusal ≡ 0 → ⊥) → r ≡ refused_with l c r.refusal) (λ _ _ n. absurd (n refl)) (λ _ _ _. refl)

-- ---- a start

module _ (l : List ℕ) (requester : ℕ) where
  -- what is so of a fresh switch and of 60 is so of a start
  start_elim : (P : Crossed → Type 0) → (length l ≡ 10 → requester < 2 ^ 16 → P (handed 0 (switch_bytes (fresh requester)) [] 0))
      → (((length l ≡ 10) × (requester < 2 ^ 16) → ⊥) → P (handed 60 l [] 0)) → P (started l requester)
  unfolding started
  start_elim P f g =
      cond_elim P (eqb (length l) 10 && ltb requester 65536)
      (λ e. let b = both (eqb (length l) 10) (ltb requester 65536) e in f (eqb-true (length l) 10 b.0) (ltb-true requester 65536 b.1))
      (λ e.
      g
      (λ p.
      true≢false
      (sym (and_intro (eqb (length l) 10) (ltb requester 65536) (eq-eqb (length l) 10 p.0) (lt-ltb requester 65536 p.1)) ∙ e)))

  -- A start is accepted exactly if it is lent 10 bytes and the requester ID has 16 bits
  pub started_exact : ((started l requester).refusal ≡ 0) ↔ ((length l ≡ 10) × (requester < 2 ^ 16))
  started_exact = (
    start_elim (λ (r : Crossed). r.refusal ≡ 0 → (length l ≡ 10) × (requester < 2 ^ 16)) (λ n w _. (n, w)) (λ _ e. absurd (omega arith)),
    λ p. start_elim (λ (r : Crossed). r.refusal ≡ 0) (λ _ _. refl) (λ n. absurd (n p)),
  )

  -- A start that is refused has number 60 and leaves the bytes as they were
  pub refused-start : ((started l requester).refusal ≡ 0 → ⊥) → started l requester ≡ handed 60 l [] 0
  refused-start = start_elim (λ (r : Crossed). (r.refusal ≡ 0 → ⊥) → r ≡ handed 60 l [] 0) (λ _ _ n. absurd (n refl)) (λ _ _. refl)

  -- and one that is accepted leaves a fresh switch
  pub start-leaves : (started l requester).refusal ≡ 0 → (started l requester).switch ≡ switch_bytes (fresh requester)
  start-leaves = start_elim (λ (r : Crossed). r.refusal ≡ 0 → r.switch ≡ switch_bytes (fresh requester)) (λ _ _ _. refl) (λ _ e. absurd (omega arith))
