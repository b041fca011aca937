-- The answers of accepted calls, and the numbers of each answer. Assumes nothing.
use mathlib.Core.Path.{◌≡◌, refl, sym, ap₂, ◌∙◌}
use mathlib.Core.Bool.{Bool, true, false, true≢false, false≢true, ◌&&◌}
use mathlib.Core.Option.{Option, none, some}
use Prim.Native.Nat.{ℕ, zero, suc}
use lib.Dec.{eqb}
use borrow.Author.Tests.{eqb-true}
use Rattle.words.proofs.BoolLaws.{both, by_test, cond_elim}
use Rattle.model.specs.declared.Answer.{Answer}
use Rattle.model.specs.declared.Answer.TheVariants.{Refused, Done, Value, Sent, Held, Merged, Lost}
use Rattle.model.specs.declared.Mode.{Mode}
use Rattle.model.specs.declared.Shape.{Shape}
use Rattle.model.specs.Answers.{refusal_of, value_of, event_code, is_accepted, kind_of, detail_of, same_answer}
use Rattle.model.specs.World.{Endpoint, registers}
use Rattle.model.specs.Vectors.{mode_of, vector_of, is_open, waits}
use Rattle.model.specs.Release.{Raised, raise, raise_vector, raised_by}
use Rattle.model.specs.Sound.{shape}
use Rattle.model.specs.Calls.{Call, config_read, config_write, bar_read, bar_write, event, line, reset, save, withdraw, answer_of}

-- ---- the answer of an accepted call

-- those that answer a value
abbrev pub has_value : Call → Bool
has_value (config_read o n) = true
has_value (config_write o n x out) = false
has_value (bar_read b o n) = true
has_value (bar_write b o n x out) = false
has_value (event e out) = false
has_value (line level out) = false
has_value (reset out) = false
has_value (save out) = false
has_value (withdraw v) = true

abbrev pub is_event : Call → Bool
is_event (config_read o n) = false
is_event (config_write o n x out) = false
is_event (bar_read b o n) = false
is_event (bar_write b o n x out) = false
is_event (event e out) = true
is_event (line level out) = false
is_event (reset out) = false
is_event (save out) = false
is_event (withdraw v) = false

-- what holds of every answer of an event
pub record OfEvent (P : Answer → Type 0) : Type 0 where
  pub sent : P Sent
  pub held : P Held
  pub merged : P Merged
  pub lost : P Lost

raised_answer : (P : Answer → Type 0) → OfEvent P → (s : Shape) (u : Endpoint) (e : ℕ) → P (raised_by s u e).answer
unfolding raised_by raise raise_vector
raised_answer P p s u e = go (mode_of s (registers u)) (vector_of (mode_of s (registers u)) s (registers u) e)
  where
    vector : (m : Mode) (v : ℕ) → P (raise_vector m s u v).answer
    vector m v =
        cond_elim (λ (r : Raised). P r.answer) (is_open m s (registers u) v) (λ _. p.sent)
        (λ _. cond_elim (λ (r : Raised). P r.answer) (waits m u v) (λ _. p.merged) (λ _. p.held))

    go : (m : Mode) (x : Option ℕ) → P (raise m s u x).answer
    go m none = p.lost
    go m (some v) = vector m v

-- a value, an event's answer, or done
answer_elim : (P : Answer → Type 0) (u : Endpoint) (c : Call) → (has_value c ≡ true → (x : ℕ) → P (Value x)) → (is_event c ≡ true → OfEvent P) → P Done
    → P (answer_of u c)
unfolding answer_of
answer_elim P u (config_read o n) v e d = v refl _
answer_elim P u (config_write o n x out) v e d = d
answer_elim P u (bar_read b o n) v e d = v refl _
answer_elim P u (bar_write b o n x out) v e d = d
answer_elim P u (event k out) v e d = raised_answer P (e refl) (shape u) u k
answer_elim P u (line level out) v e d = d
answer_elim P u (reset out) v e d = d
answer_elim P u (save out) v e d = d
answer_elim P u (withdraw x) v e d = v refl _

module _ (u : Endpoint) (c : Call) where
  pub answer-accepted : is_accepted (answer_of u c) ≡ true
  unfolding is_accepted
  answer-accepted =
      answer_elim (λ a. is_accepted a ≡ true) u c (λ _ x. refl) (λ _. record { sent = refl; held = refl; merged = refl; lost = refl }) refl

  pub answer-value : has_value c ≡ false → value_of (answer_of u c) ≡ 0
  unfolding value_of
  answer-value n =
      answer_elim (λ a. value_of a ≡ 0) u c (λ h x. absurd (true≢false (sym h ∙ n))) (λ _. record { sent = refl; held = refl; merged = refl; lost = refl }) refl

  pub answer_code : is_event c ≡ false → event_code (answer_of u c) ≡ 0
  unfolding event_code
  answer_code n = answer_elim (λ a. event_code a ≡ 0) u c (λ _ x. refl) (λ h. absurd (true≢false (sym h ∙ n))) refl

-- ---- the numbers of an answer

-- with its refusal, its value and its code
pub data Numbered : Answer → ℕ → ℕ → ℕ → Type 0 where
  is_refused : (n : ℕ) → Numbered (Refused n) n 0 0
  is_done : Numbered Done 0 0 0
  is_value : (x : ℕ) → Numbered (Value x) 0 x 0
  is_sent : Numbered Sent 0 0 1
  is_held : Numbered Held 0 0 2
  is_merged : Numbered Merged 0 0 3
  is_lost : Numbered Lost 0 0 4

pub numbered : (a : Answer) (n x e : ℕ) → Numbered a n x e → (refusal_of a ≡ n) × (value_of a ≡ x) × (event_code a ≡ e)
unfolding refusal_of value_of event_code
numbered a n x e (is_refused k) = (refl, refl, refl)
numbered a n x e is_done = (refl, refl, refl)
numbered a n x e (is_value k) = (refl, refl, refl)
numbered a n x e is_sent = (refl, refl, refl)
numbered a n x e is_held = (refl, refl, refl)
numbered a n x e is_merged = (refl, refl, refl)
numbered a n x e is_lost = (refl, refl, refl)

-- an answer is a refusal, or accepted
pub accepted_elim : (P : Answer → Type 0) (a : Answer) → ((n : ℕ) → P (Refused n)) → (is_accepted a ≡ true → P a) → P a
unfolding is_accepted
accepted_elim P (Refused n) r f = r n
accepted_elim P Done r f = f refl
accepted_elim P (Value x) r f = f refl
accepted_elim P Sent r f = f refl
accepted_elim P Held r f = f refl
accepted_elim P Merged r f = f refl
accepted_elim P Lost r f = f refl

pub accepted-zero : (a : Answer) → is_accepted a ≡ true → refusal_of a ≡ 0
unfolding is_accepted refusal_of
accepted-zero (Refused n) e = absurd (false≢true e)
accepted-zero Done e = refl
accepted-zero (Value x) e = refl
accepted-zero Sent e = refl
accepted-zero Held e = refl
accepted-zero Merged e = refl
accepted-zero Lost e = refl

pub refused-not : (n : ℕ) → is_accepted (Refused n) ≡ false
unfolding is_accepted
refused-not n = refl

pub done-accepted : is_accepted Done ≡ true
unfolding is_accepted
done-accepted = refl

pub not-accepted : (a : Answer) → (refusal_of a ≡ 0 → ⊥) → is_accepted a ≡ false
not-accepted a h = by_test (is_accepted a) (λ e. absurd (h (accepted-zero a e))) (λ e. e)

-- a refusal is no event's answer
pub refused_code : (a : Answer) → is_accepted a ≡ false → event_code a ≡ 0
unfolding event_code
refused_code a e = accepted_elim (λ x. event_code x ≡ 0) a (λ _. refl) (λ t. absurd (true≢false (sym t ∙ e)))

-- ---- two answers are the same by kind and detail, and then they are equal

pub same_answer_lem : (a b : Answer) → same_answer a b ≡ (eqb (kind_of a) (kind_of b) && eqb (detail_of a) (detail_of b))
unfolding same_answer
same_answer_lem a b = refl

-- the answer of a kind with a detail
of_kind : ℕ → ℕ → Answer
of_kind zero n = Refused n
of_kind (suc zero) n = Done
of_kind (suc (suc zero)) n = Value n
of_kind (suc (suc (suc zero))) n = Sent
of_kind (suc (suc (suc (suc zero)))) n = Held
of_kind (suc (suc (suc (suc (suc zero))))) n = Merged
of_kind (suc (suc (suc (suc (suc (suc k)))))) n = Lost

of-kind : (a : Answer) → of_kind (kind_of a) (detail_of a) ≡ a
unfolding of_kind
of-kind (Refused n) = refl
of-kind Done = refl
of-kind (Value x) = refl
of-kind Sent = refl
of-kind Held = refl
of-kind Merged = refl
of-kind Lost = refl

pub same-equal : (a b : Answer) → same_answer a b ≡ true → a ≡ b
unfolding same_answer
same-equal a b e =
    let t = both (eqb (kind_of a) (kind_of b)) (eqb (detail_of a) (detail_of b)) e in
    sym (of-kind a) ∙ ap₂ of_kind (eqb-true (kind_of a) (kind_of b) t.0) (eqb-true (detail_of a) (detail_of b) t.1) ∙ of-kind b
