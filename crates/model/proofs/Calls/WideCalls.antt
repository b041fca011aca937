-- Numbers wider than a type: a rule that refuses every number from k on gives k and the wide number the same answer, so that the largest number of
-- the type may be handed on in place of a wider one. Assumes nothing.
use mathlib.Core.Path.{◌≡◌, refl, sym, ap, ap₂, ◌∙◌}
use mathlib.Core.Bool.{Bool, true, false, not, ◌&&◌, ◌||◌, or_assoc, or-false, false≢true}
use mathlib.Core.List.{List, [], ◌∷◌}
use Prim.Native.Nat.{ℕ, ◌+◌, ◌%◌, ◌^◌, ◌≤◌, ◌<◌, min}
use native.Mathlib.Nat.{min-eq_left, min_comm, le_of_lt}
use native.Mathlib.Omega.{arith}
use lib.Dec.{ltb, leb, eqb}
use borrow.Author.Tests.{eqb-true, leb-true, leb-false, ltb-false, ltb-true, not-false}
use Rattle.words.specs.Lists.{all, member, first_of, within}
use Rattle.words.specs.Bytes.{byte, Below}
use Rattle.words.proofs.ListLaws.{all_holds}
use Rattle.words.proofs.BytesLaws.{byte-below}
use Rattle.words.proofs.BoolLaws.{both, neither, second_false, by_test, passed}
use Rattle.model.specs.declared.Region.{Region}
use Rattle.model.specs.declared.Shape.{Shape}
use Rattle.model.specs.Shape.{shape_of, msix_present, table_bytes, pending_bytes}
use Rattle.model.specs.Registers.{in_region, in_table, in_pending}
use Rattle.model.specs.World.{World, Endpoint}
use Rattle.model.specs.Start.{Given, given, outside, bad_regions, bad_events, bad_requester, start_refusal}
use Rattle.model.specs.Sound.{sound, shape, given_of}
use Rattle.model.specs.Vectors.{vector_count}
use Rattle.model.specs.Release.{is_pin}
use Rattle.model.specs.Withdrawals.{mode_now, withdraw_rows}
use Rattle.model.specs.Calls.{Call, config_read, config_write, bar_read, bar_write, event, withdraw, rows, bad_config, bad_bar, no_memory, output_of, step, start_of}
use Rattle.model.proofs.Sound.SoundLaws.{accepts, is-sound, events_fit}
use Rattle.model.proofs.Sound.StartLaws.{few-counted}
use Rattle.model.proofs.Calls.CallLaws.{performed-row, step-sound, step_unsound}
use Rattle.model.proofs.Calls.StartCalls.{start-refused}

-- ---- a rule and the largest number of a type

min-right : (x k : ℕ) → k < x → min x k ≡ k
min-right x k h = min_comm x k ∙ min-eq_left (le_of_lt h)

module _ (bad : ℕ → Bool) (k : ℕ) (fits : (x : ℕ) → bad x ≡ false → x < k) where
  -- from k on it refuses
  refuses_from : (x : ℕ) → k ≤ x → bad x ≡ true
  refuses_from x h = by_test (bad x) (λ t. t) (λ f. absurd (omega (arith, fits x f)))

  pub wide_test : (x : ℕ) → bad (min x k) ≡ bad x
  wide_test x =
      by_test (leb x k) (λ t. ap bad (min-eq_left (leb-true x k t)))
      (λ f.
      let h : k < x = leb-false x k f in
      ap bad (min-right x k h) ∙ refuses_from k (omega arith) ∙ sym (refuses_from x (omega arith)))

  -- a number that it lets pass is not cut
  pub wide_kept : (x : ℕ) → bad x ≡ false → min x k ≡ x
  wide_kept x e = min-eq_left (omega (arith, fits x e))

-- ---- calls of a running card

-- two calls with the same refusals, which are one call where they are accepted
alike : (w : World) (c d : Call) → output_of c ≡ output_of d → (sound w ≡ true → first_of (rows w.endpoint c) ≡ first_of (rows w.endpoint d))
    → (sound w ≡ true → first_of (rows w.endpoint d) ≡ 0 → c ≡ d) → step w c ≡ step w d
alike w c d o e i =
    by_test (sound w)
    (λ s.
    let n : ℕ = first_of (rows w.endpoint d) in
    by_test (eqb n 0) (λ z. ap (step w) (i s (eqb-true n 0 z)))
    (λ z.
    step-sound w c s ∙ performed-row w c n (e s) z ∙ rw o (sym (performed-row w d n refl z)) ∙ sym (step-sound w d s)))
    (λ s. step_unsound w c s ∙ rw o (sym (step_unsound w d s)))

-- a width that is one of a list, all below 255
width_fits : (l : List ℕ) → all (λ k. ltb k 255) l ≡ true → (n : ℕ) → member n l ≡ true → n < 255
width_fits l e n m = ltb-true n 255 (all_holds (λ k. ltb k 255) l e n m)

-- 3
config-fits : (o n : ℕ) → bad_config o n ≡ false → (o < 65535) × (n < 255)
unfolding bad_config all member
config-fits o n e =
    let p = neither (not (eqb n 1 || eqb n 2 || eqb n 4) || not (eqb (o % n) 0)) (ltb 255 o) e in
    let q = neither (not (eqb n 1 || eqb n 2 || eqb n 4)) (not (eqb (o % n) 0)) p.0 in
    let m : member n (1 ∷ 2 ∷ 4 ∷ []) ≡ true = rw (or-false, ← or_assoc) (not-false (eqb n 1 || eqb n 2 || eqb n 4) q.0) in
    (omega (arith, ltb-false 255 o p.1), width_fits (1 ∷ 2 ∷ 4 ∷ []) refl n m)

module _ (w : World) (o n : ℕ) where
  same-config : bad_config (min o 65535) (min n 255) ≡ bad_config o n
  same-config =
      wide_test (λ x. bad_config x (min n 255)) 65535 (λ x e. (config-fits x (min n 255) e).0) o
      ∙ wide_test (bad_config o) 255 (λ x e. (config-fits o x e).1) n

  kept-config : bad_config o n ≡ false → (min o 65535 ≡ o) × (min n 255 ≡ n)
  kept-config e =
      (wide_kept (λ x. bad_config x n) 65535 (λ x e. (config-fits x n e).0) o e, wide_kept (bad_config o) 255 (λ x e. (config-fits o x e).1) n e)

  -- o' and n' are handed on
  module _ (o' n' : ℕ) (p : o' ≡ min o 65535) (q : n' ≡ min n 255) where
    same_rows : ◌≡◌ {A = ℕ} (first_of ((3, bad_config o' n') ∷ [])) (first_of ((3, bad_config o n) ∷ []))
    same_rows = ap (λ (b : Bool). first_of ((3, b) ∷ [])) (ap₂ bad_config p q ∙ same-config)

    kept : first_of ((3, bad_config o n) ∷ []) ≡ 0 → (o' ≡ o) × (n' ≡ n)
    kept z = let k = kept-config (passed 3 [] refl z).0 in (p ∙ k.0, q ∙ k.1)

    pub wide-config-read : step w (config_read o' n') ≡ step w (config_read o n)
    unfolding rows
    wide-config-read = alike w (config_read o' n') (config_read o n) refl (λ _. same_rows) (λ _ z. λ i. config_read ((kept z).0 i) ((kept z).1 i))

    pub wide-config-write : (x : ℕ) (out : List ℕ) → step w (config_write o' n' x out) ≡ step w (config_write o n x out)
    unfolding rows
    wide-config-write x out =
        alike w (config_write o' n' x out) (config_write o n x out) refl (λ _. same_rows) (λ _ z. λ i. config_write ((kept z).0 i) ((kept z).1 i) x out)

-- 4: table and pending array lie in BARs of less than 2^32 bytes
region_fits : (sizes : List ℕ) → Below (256 ^ 4) sizes → (r : Region) (n b o : ℕ) → outside sizes r n ≡ false → in_region r n b o ≡ true → o < 4294967295
unfolding outside in_region within
region_fits sizes small r n b o u e =
    let p = both (eqb b r.bar) (leb r.at o && ltb o (r.at + n)) e in
    let inside = ltb-true o (r.at + n) (both (leb r.at o) (ltb o (r.at + n)) p.1).1 in
    let ends = ltb-false (byte sizes r.bar) (r.at + n) (neither (ltb 5 r.bar) (ltb (byte sizes r.bar) (r.at + n)) u).1 in
    omega (arith, inside, ends, byte-below (omega arith) small r.bar)

place_fits : (sizes : List ℕ) → Below (256 ^ 4) sizes → (s : Shape) (b o : ℕ) → bad_regions sizes s ≡ false → (in_table s b o || in_pending s b o) ≡ true
    → o < 4294967295
unfolding bad_regions in_table in_pending
place_fits sizes small s b o u e =
    by_test (msix_present s)
    (λ p.
    let v = second_false (msix_present s) _ p u in
    let a = neither (outside sizes s.msix.table (table_bytes s) || outside sizes s.msix.pending (pending_bytes s)) _ v in
    let c = neither (outside sizes s.msix.table (table_bytes s)) (outside sizes s.msix.pending (pending_bytes s)) a.0 in
    by_test (in_region s.msix.table (table_bytes s) b o) (region_fits sizes small s.msix.table (table_bytes s) b o c.0)
    (λ f. region_fits sizes small s.msix.pending (pending_bytes s) b o c.1 (rw (p, f) at e)))
    (λ p. absurd (false≢true (rw p at e)))

module _ (sizes : List ℕ) (small : Below (256 ^ 4) sizes) (s : Shape) (u : bad_regions sizes s ≡ false) where
  bar_fits : (b o n : ℕ) → bad_bar s b o n ≡ false → (b < 255) × (o < 4294967295) × (n < 255)
  unfolding bad_bar all member
  bar_fits b o n e =
      let p = neither (ltb 5 b || not (eqb n 4 || eqb n 8) || not (eqb (o % n) 0)) (not (in_table s b o || in_pending s b o)) e in
      let q = neither (ltb 5 b || not (eqb n 4 || eqb n 8)) (not (eqb (o % n) 0)) p.0 in
      let r = neither (ltb 5 b) (not (eqb n 4 || eqb n 8)) q.0 in
      let m : member n (4 ∷ 8 ∷ []) ≡ true = rw or-false (not-false (eqb n 4 || eqb n 8) r.1) in (
        omega (arith, ltb-false 5 b r.0),
        place_fits sizes small s b o u (not-false (in_table s b o || in_pending s b o) p.1),
        width_fits (4 ∷ 8 ∷ []) refl n m,
      )

  same_bar : (b o n : ℕ) → bad_bar s (min b 255) (min o 4294967295) (min n 255) ≡ bad_bar s b o n
  same_bar b o n =
      wide_test (λ x. bad_bar s x (min o 4294967295) (min n 255)) 255 (λ x e. (bar_fits x (min o 4294967295) (min n 255) e).0) b
      ∙ wide_test (λ x. bad_bar s b x (min n 255)) 4294967295 (λ x e. (bar_fits b x (min n 255) e).1) o
      ∙ wide_test (bad_bar s b o) 255 (λ x e. (bar_fits b o x e).2) n

  kept_bar : (b o n : ℕ) → bad_bar s b o n ≡ false → (min b 255 ≡ b) × (min o 4294967295 ≡ o) × (min n 255 ≡ n)
  kept_bar b o n e = (
    wide_kept (λ x. bad_bar s x o n) 255 (λ x e. (bar_fits x o n e).0) b e,
    wide_kept (λ x. bad_bar s b x n) 4294967295 (λ x e. (bar_fits b x n e).1) o e,
    wide_kept (bad_bar s b o) 255 (λ x e. (bar_fits b o x e).2) n e,
  )

module _ (w : World) (small : Below (256 ^ 4) w.endpoint.function.sizes) (b o n : ℕ) where
  regions : sound w ≡ true → bad_regions w.endpoint.function.sizes (shape w.endpoint) ≡ false
  regions s = (accepts (given_of w.endpoint) (is-sound w s).endpoint.start).regions

  -- b', o' and n' are handed on
  module _ (b' o' n' : ℕ) (p : b' ≡ min b 255) (q : o' ≡ min o 4294967295) (r : n' ≡ min n 255) where
    abbrev rows_by : Bool → List (ℕ × Bool)
    rows_by t = (4, t) ∷ (5, no_memory w.endpoint) ∷ []

    same-bars : sound w ≡ true → first_of (rows_by (bad_bar (shape w.endpoint) b' o' n')) ≡ first_of (rows_by (bad_bar (shape w.endpoint) b o n))
    same-bars s =
        ap (λ (t : Bool). first_of (rows_by t))
        ((λ i. bad_bar (shape w.endpoint) (p i) (q i) (r i)) ∙ same_bar w.endpoint.function.sizes small (shape w.endpoint) (regions s) b o n)

    kept-bars : sound w ≡ true → first_of (rows_by (bad_bar (shape w.endpoint) b o n)) ≡ 0 → (b' ≡ b) × (o' ≡ o) × (n' ≡ n)
    kept-bars s z =
        let k = kept_bar w.endpoint.function.sizes small (shape w.endpoint) (regions s) b o n (passed 4 _ refl z).0 in
        (p ∙ k.0, q ∙ k.1, r ∙ k.2)

    pub wide-bar-read : step w (bar_read b' o' n') ≡ step w (bar_read b o n)
    unfolding rows
    wide-bar-read =
        alike w (bar_read b' o' n') (bar_read b o n) refl same-bars (λ s z. let k = kept-bars s z in λ i. bar_read (k.0 i) (k.1 i) (k.2 i))

    pub wide-bar-write : (x : ℕ) (out : List ℕ) → step w (bar_write b' o' n' x out) ≡ step w (bar_write b o n x out)
    unfolding rows
    wide-bar-write x out =
        alike w (bar_write b' o' n' x out) (bar_write b o n x out) refl same-bars
        (λ s z. let k = kept-bars s z in λ i. bar_write (k.0 i) (k.1 i) (k.2 i) x out)

-- of a withdrawal, 2: N is at most 2,048, and 2^Capable at most 32
pub wide_withdraw : (w : World) (v v' : ℕ) → v' ≡ min v 65535 → step w (withdraw v') ≡ step w (withdraw v)
unfolding rows withdraw_rows
wide_withdraw w v v' p =
    alike w (withdraw v') (withdraw v) refl
    (λ s. ap (λ (t : Bool). first_of ((7, is_pin (mode_now u)) ∷ (2, t) ∷ [])) (ap (leb count) p ∙ wide_test (leb count) 65535 (fits s) v))
    (λ s z. ap withdraw (p ∙ wide_kept (leb count) 65535 (fits s) v (passed 2 [] refl (passed 7 _ refl z).1).0))
  where
    u : Endpoint
    u = w.endpoint

    count : ℕ
    count = vector_count (mode_now u) (shape u)

    fits : sound w ≡ true → (x : ℕ) → leb count x ≡ false → x < 65535
    fits s x f =
        let few = few-counted (mode_now u) (given_of u) (accepts (given_of u) (is-sound w s).endpoint.start) in
        omega (arith, leb-false count x f, few)

-- 2: E is at most 2,048
pub wide_event : (w : World) (e e' : ℕ) (out : List ℕ) → e' ≡ min e 65535 → step w (event e' out) ≡ step w (event e out)
unfolding rows
wide_event w e e' out p =
    alike w (event e' out) (event e out) refl
    (λ s. ap (λ (t : Bool). first_of ((2, t) ∷ [])) (ap (leb count) p ∙ wide_test (leb count) 65535 (fits s) e))
    (λ s z. ap (λ (x : ℕ). event x out) (p ∙ wide_kept (leb count) 65535 (fits s) e (passed 2 [] refl z).0))
  where
    count : ℕ
    count = w.endpoint.function.events

    fits : sound w ≡ true → (x : ℕ) → leb count x ≡ false → x < 65535
    fits s x f =
        let few = (events_fit count (shape w.endpoint) (accepts (given_of w.endpoint) (is-sound w s).endpoint.start).events).1 in
        omega (arith, leb-false count x f, few)

-- ---- a start: 15 and 16

requester-below : (r : ℕ) → bad_requester r ≡ false → r < 65535
unfolding bad_requester
requester-below r e =
    let p = neither (not (eqb (r % 8) 0)) (ltb 65535 r) e in
    omega (arith, ltb-false 65535 r p.1, eqb-true (r % 8) 0 (not-false (eqb (r % 8) 0) p.0))

module _ (c z : List ℕ) (e q t p : ℕ) where
  abbrev narrowed : Given
  narrowed = given c z (min e 65535) (min q 65535) t p

  abbrev wide : Given
  wide = given c z e q t p

  few : (x : ℕ) → bad_events x (shape_of c) ≡ false → x < 65535
  few x f = omega (arith, (events_fit x (shape_of c) f).1)

  same_start : start_refusal narrowed ≡ start_refusal wide
  unfolding start_refusal
  same_start = rw (wide_test (λ x. bad_events x (shape_of c)) 65535 few e, wide_test bad_requester 65535 requester-below q)

  pub wide_start : (u : Endpoint) → start_of u narrowed ≡ start_of u wide
  wide_start u =
      by_test (eqb (start_refusal wide) 0)
      (λ y.
      let k = accepts wide (eqb-true (start_refusal wide) 0 y) in
      λ i.
      start_of u
      (given c z (wide_kept (λ x. bad_events x (shape_of c)) 65535 few e k.events i) (wide_kept bad_requester 65535 requester-below q k.requester i) t p))
      (λ n. start-refused u narrowed (start_refusal wide) same_start n ∙ sym (start-refused u wide (start_refusal wide) refl n))
