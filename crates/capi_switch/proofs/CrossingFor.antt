-- From the code's parts to what crosses, one law for each way out. Assumes nothing.
use mathlib.Core.Path.{◌≡◌, refl, sym, ap, ◌∙◌}
use mathlib.Core.Bool.{Bool, true, false, not, ◌&&◌, and_assoc, and-true, true≢false, false≢true}
use mathlib.Core.List.{List, [], ◌∷◌, ◌++◌, append-nil}
use Prim.Native.Nat.{ℕ, suc, ◌+◌, ◌-◌, ◌≤◌, ◌<◌}
use native.Mathlib.Nat.{zero-add}
use native.Mathlib.Omega.{arith}
use lib.Dec.{ltb, eqb}
use lib.ListN.{length, drop, length-drop, drop_of_length-le}
use lib.Seq.{get_or-drop}
use Rattle.std.specs.List.{list_all}
use Rattle.std.proofs.lemmas.List.Folds.{list_all_at}
use borrow.Author.Tests.{eq-eqb, ne_eqb, eqb-true, lt-ltb, le-ltb}
use Rattle.words.specs.Lists.{count, all}
use Rattle.words.specs.Bytes.{byte, bytes_of}
use Rattle.words.specs.Writers.{Wrote}
use Rattle.words.proofs.BoolLaws.{both, eight_joined}
use Rattle.model.specs.declared.Answer.{Answer}
use Rattle.model.specs.declared.Answer.TheVariants.{Refused, Done, Value, Sent, Held, Merged, Lost}
use Rattle.model.specs.Answers.{refusal_of}
use Rattle.model.proofs.Calls.AnswerLaws.{numbered, is_value, is_done, is_sent, is_held, is_merged, is_lost}
use Rattle.switch.specs.declared.Switch.{Switch}
use Rattle.switch.specs.declared.outcome.Outcome.{Outcome}
use Rattle.switch.specs.Switches.{fresh}
use Rattle.switch.specs.Calls.{SwitchCall, output_of, switch_step}
use Rattle.switch.specs.Outcomes.{after}
use Rattle.capi_switch.specs.Crossing.{switch_bytes, switch_in, ports_clean, is_switch, handed, switch_over, back, crossed, started}

-- ---- bytes that a switch has

pub eight-clean : (l : List ℕ)
    → let low : ℕ → Bool = λ k. ltb (byte l k) 16 in
    (((((((low 2 && low 3) && low 4) && low 5) && low 6) && low 7) && low 8) && low 9) ≡ ports_clean l
unfolding ports_clean all count
eight-clean l =
    let low : ℕ → Bool = λ k. ltb (byte l k) 16 in
    eight_joined ◌&&◌ true and_assoc and-true (low 2) (low 3) (low 4) (low 5) (low 6) (low 7) (low 8) (low 9)

-- each of the elements passes a test: counted by their places, from i on
all_row : (p f : ℕ → Bool) (i : ℕ) (m : List ℕ) → ((k : ℕ) → k < length m → f (i + k) ≡ p (byte m k)) → list_all p m ≡ all f (count i (length m))
unfolding all count
all_row p f i [] h = refl
all_row p f i (x ∷ m) h =
    let first : p x ≡ f i = sym (h 0 (omega arith)) ∙ ap f (omega arith) in
    let rest : list_all p m ≡ all f (count (suc i) (length m)) = all_row p f (suc i) m (λ k j. ap f (omega arith) ∙ h (suc k) (omega arith)) in
    rw (first, rest)

pub rest-clean : (l : List ℕ) → length l ≡ 10 → list_all (λ w. ltb w 16) (drop 2 l) ≡ ports_clean l
unfolding ports_clean
rest-clean l e =
    let n : length (drop 2 l) ≡ 8 = length-drop 2 l ∙ omega arith in
    all_row (λ w. ltb w 16) (λ k. ltb (byte l (2 + k)) 16) 0 (drop 2 l) (λ k h. rw (zero-add k, get_or-drop 2 l k 0)) ∙ rw n

-- clean: each port has four wires at most
pub clean_ports : (l : List ℕ) → byte l 2 < 16 → byte l 3 < 16 → byte l 4 < 16 → byte l 5 < 16 → byte l 6 < 16 → byte l 7 < 16 → byte l 8 < 16 → byte l 9 < 16
    → true ≡ ports_clean l
clean_ports l a b c d e f g h =
    let low : (k : ℕ) → byte l k < 16 → ltb (byte l k) 16 ≡ true = λ k. lt-ltb (byte l k) 16 in
    rw (← eight-clean l, low 2 a, low 3 b, low 4 c, low 5 d, low 6 e, low 7 f, low 8 g, low 9 h) refl

-- not clean: some port has more
pub wide_port : (l : List ℕ) → length l ≡ 10 → (k : ℕ) → 2 ≤ k → k < 10 → 16 ≤ byte l k → false ≡ ports_clean l
wide_port l e k a b h =
    let here : byte (drop 2 l) (k - 2) ≡ byte l k = get_or-drop 2 l (k - 2) 0 ∙ ap (byte l) (omega arith) in
    let wide : ltb (byte (drop 2 l) (k - 2)) 16 ≡ false = rw here (le-ltb (byte l k) 16 h) in
    sym (list_all_at (λ w. ltb w 16) (drop 2 l) (k - 2) 0 (omega (arith, length-drop 2 l)) wide) ∙ rest-clean l e

-- the number of an answer that is no refusal
pub unrefused : (a : Answer) → ((n : ℕ) → a ≡ Refused n → ⊥) → 0 ≡ refusal_of a
unrefused (Refused n) h = absurd (h n refl)
unrefused (Value x) h = sym (numbered _ _ _ _ (is_value x)).0
unrefused Done h = sym (numbered _ _ _ _ is_done).0
unrefused Sent h = sym (numbered _ _ _ _ is_sent).0
unrefused Held h = sym (numbered _ _ _ _ is_held).0
unrefused Merged h = sym (numbered _ _ _ _ is_merged).0
unrefused Lost h = sym (numbered _ _ _ _ is_lost).0

pub other_length_lem : (l : List ℕ) → (length l ≡ 10 → ⊥) → false ≡ is_switch l
unfolding is_switch
other_length_lem l n = rw (ne_eqb (length l) 10 n)

pub ten_bytes : (l : List ℕ) (r : Bool) → length l ≡ 10 → r ≡ ports_clean l → r ≡ is_switch l
unfolding is_switch
ten_bytes l r h e = rw (eq-eqb (length l) 10 h) e

-- the test passed
pub found : (l : List ℕ) (r : Bool) → r ≡ is_switch l → not r ≡ false → is_switch l ≡ true
found l true e h = sym e
found l false e h = absurd (true≢false h)

pub switch-length : (l : List ℕ) → is_switch l ≡ true → length l ≡ 10
unfolding is_switch
switch-length l e = eqb-true (length l) 10 (both (eqb (length l) 10) (ports_clean l) e).0

-- ---- a switch written over the one before it

pub switch_ten : (s : Switch) → length (switch_bytes s) ≡ 10
unfolding switch_bytes bytes_of count
switch_ten s = refl

pub written_over : (l new l' : List ℕ) (n : ℕ) (s : Switch) → length l ≡ 10 → new ≡ switch_bytes s → Wrote new l n l' → l' ≡ switch_bytes s
written_over l new l' n s h e w =
    let size : length new ≡ 10 = ap length e ∙ switch_ten s in
    w.bytes ∙ ap (λ (t : List ℕ). new ++ t) (drop_of_length-le l {i = length new} (omega (arith, h, size))) ∙ append-nil new ∙ e

-- ---- the bytes of an outcome

pub stays : (n m : ℕ) (l : List ℕ) (s : Switch) → n ≡ m → (n ≡ 0 → ⊥) → l ≡ switch_over m l s
stays n m l s e h = rw (← e, ne_eqb n 0 h)

pub goes : (n m : ℕ) (l l' : List ℕ) (s : Switch) → n ≡ m → n ≡ 0 → l' ≡ switch_bytes s → l' ≡ switch_over m l s
goes n m l l' s e h q = rw (← e, h) q

-- ---- a call

-- the bytes are no switch's
pub no_switch : (l : List ℕ) (c : SwitchCall) (r : Bool) → r ≡ is_switch l → not r ≡ true → handed 60 l (output_of c) 0 ≡ crossed l c
unfolding crossed
no_switch l c true e h = absurd (false≢true h)
no_switch l c false e h = rw (← e)

-- or the call on the switch that they hold gave the outcome r
pub through : (l : List ℕ) (c : SwitchCall) (held : Switch) (r : Outcome) (l' out' : List ℕ) (n : ℕ) → is_switch l ≡ true → held ≡ switch_in l
    → after r out' ≡ switch_step held c → n ≡ refusal_of r.answer → l' ≡ switch_over (refusal_of r.answer) l r.switch
    → handed n l' out' r.count ≡ crossed l c
unfolding crossed
through l c held r l' out' n e d q en el =
    (λ i. handed (en i) (el i) out' r.count) ∙ ap (back l) (q ∙ ap (λ (s : Switch). switch_step s c) d) ∙ rw e

-- ---- a start

module _ (l : List ℕ) (requester : ℕ) where
  pub start-length : (length l ≡ 10 → ⊥) → handed 60 l [] 0 ≡ started l requester
  unfolding started
  start-length n = rw (ne_eqb (length l) 10 n)

  module _ (h : length l ≡ 10) where
    pub start-wide : 65535 < requester → handed 60 l [] 0 ≡ started l requester
    unfolding started
    start-wide w = rw (eq-eqb (length l) 10 h, le-ltb requester 65536 (omega (arith, w)))

    pub start-done : requester ≤ 65535 → (s : Switch) (l' : List ℕ) → s ≡ fresh requester → l' ≡ switch_bytes s → handed 0 l' [] 0 ≡ started l requester
    unfolding started
    start-done w s l' e q = rw (eq-eqb (length l) 10 h, lt-ltb requester 65536 (omega (arith, w)), q, e)
