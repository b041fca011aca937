-- A row's call by the program, and the step of the case that it is. Assumes nothing.
use mathlib.Core.Path.{◌≡◌, refl, sym, ap, ap₂, ◌∙◌}
use mathlib.Core.Bool.{Bool, false, ◌&&◌}
use mathlib.Core.Logic.{◌⊎◌, inl, inr}
use mathlib.Core.List.{List, [], ◌∷◌, ◌++◌}
use Prim.Native.Nat.{ℕ, suc, ◌+◌, ◌-◌, ◌*◌, ◌/◌, ◌≤◌, ◌<◌, min}
use native.Mathlib.Omega.{arith}
use lib.ListN.{length, take, drop}
use lib.Seq.{drop-drop, take_at, length-take-le}
use borrow.Author.Tests.{eq-eqb, ne_eqb}
use Rattle.words.proofs.PartLaws.{clipped_part, written-part, equal-bytes}
use Rattle.model.specs.declared.Answer.{Answer}
use Rattle.model.specs.declared.Card.{Card}
use Rattle.model.specs.World.{world_of, endpoint_of, zero_function}
use Rattle.model.specs.Calls.{operate, start_of, start_given, lent_output}
use Rattle.model.specs.Calls as Calls
use Rattle.model.specs.Play.{Played, fresh, right, played, lends, does}
use Rattle.model.proofs.Calls.StartCalls.{start_buffers}
use Rattle.model.proofs.Calls.PlayLaws.{right_anywhere, played-does, played-lends}
use Rattle.card.specs.declared.outcome.Outcome.{Outcome}
use Rattle.card.specs.Outcomes.{after}
use Rattle.cases.specs.declared.row.Kind.{Kind}
use Rattle.cases.specs.declared.row.Kind.TheVariants.{New, Start, Read, Write, BarRead, BarWrite, Event, Line, Image, Keep, Compare}
use Rattle.cases.specs.declared.row.Row.{Row}
use Rattle.cases.specs.declared.run.Run.{Run}
use Rattle.cases.specs.declared.calls.Called.{Called}
use Rattle.cases.specs.Rows.{row_of}
use Rattle.cases.specs.Steps.{is_new, operation_by, room_by, operation_over, operation_of, room_of, step_of, row_steps, case_steps}
use Rattle.cases.specs.Runs.{table_of, pending_of, seen, judged, with_buffers}
use Rattle.cases.specs.Runs as Runs

-- ---- a call by its kind

-- a call that is lent no output
pub no_output : (o : Outcome) (t p out : List ℕ) (r : Calls.Outcome) → length out ≤ 0 → after o t p [] ≡ r → after o t p out ≡ r
no_output o t p [] r h e = e
no_output o t p (x ∷ l) r h e = absurd (omega arith)

-- a start looks at the lent buffers alone
pub start_anywhere : (card : Card) (t p config sizes : List ℕ) (events requester : ℕ)
    → start_of (endpoint_of zero_function t p) (start_given (endpoint_of zero_function t p) config sizes events requester) ≡ operate (world_of card t p) (Calls.start config sizes events requester)
start_anywhere card t p config sizes events requester = start_buffers zero_function card.function t p _

-- the output that a row's call is lent
lent_all : (k : Kind) (bytes : List ℕ) (row : Row) (l : List ℕ) → take (room_by k row) l ≡ lent_output (operation_by k bytes row (take (room_by k row) l))
unfolding operation_by room_by
lent_all New bytes row l = refl
lent_all Start bytes row l = refl
lent_all Read bytes row l = refl
lent_all Write bytes row l = refl
lent_all BarRead bytes row l = refl
lent_all BarWrite bytes row l = refl
lent_all Event bytes row l = refl
lent_all Line bytes row l = refl
lent_all Image bytes row l = refl
lent_all Keep bytes row l = refl
lent_all Compare bytes row l = refl

-- of no other kind, a save
pub saves : (k : Kind) (bytes : List ℕ) (row : Row) (out : List ℕ) → (k ≡ Start → ⊥) → (k ≡ Read → ⊥) → (k ≡ BarRead → ⊥) → (k ≡ Write → ⊥)
    → (k ≡ BarWrite → ⊥) → (k ≡ Line → ⊥) → (k ≡ Event → ⊥) → operation_by k bytes row out ≡ Calls.call (Calls.save out)
unfolding operation_by
saves Start bytes row out a b c d e f g = absurd (a refl)
saves Read bytes row out a b c d e f g = absurd (b refl)
saves BarRead bytes row out a b c d e f g = absurd (c refl)
saves Write bytes row out a b c d e f g = absurd (d refl)
saves BarWrite bytes row out a b c d e f g = absurd (e refl)
saves Line bytes row out a b c d e f g = absurd (f refl)
saves Event bytes row out a b c d e f g = absurd (g refl)
saves New bytes row out a b c d e f g = refl
saves Image bytes row out a b c d e f g = refl
saves Keep bytes row out a b c d e f g = refl
saves Compare bytes row out a b c d e f g = refl

pub no_room_of : (k : Kind) (row : Row) → (k ≡ Start) ⊎ ((k ≡ Read) ⊎ (k ≡ BarRead)) → 0 ≡ room_by k row
unfolding room_by
no_room_of k row (inl e) = rw e
no_room_of k row (inr (inl e)) = rw e
no_room_of k row (inr (inr e)) = rw e

pub packet_room : (k : Kind) (row : Row) → (k ≡ Write) ⊎ ((k ≡ BarWrite) ⊎ (k ≡ Line)) → 64 ≡ room_by k row
unfolding room_by
packet_room k row (inl e) = rw e
packet_room k row (inr (inl e)) = rw e
packet_room k row (inr (inr e)) = rw e

-- of no other kind, as many bytes as the row says
pub own_room : (k : Kind) (row : Row) → (k ≡ Start → ⊥) → (k ≡ Read → ⊥) → (k ≡ BarRead → ⊥) → (k ≡ Write → ⊥) → (k ≡ BarWrite → ⊥) → (k ≡ Line → ⊥)
    → row.b ≡ room_by k row
unfolding room_by
own_room Start row a b c d e f = absurd (a refl)
own_room Read row a b c d e f = absurd (b refl)
own_room BarRead row a b c d e f = absurd (c refl)
own_room Write row a b c d e f = absurd (d refl)
own_room BarWrite row a b c d e f = absurd (e refl)
own_room Line row a b c d e f = absurd (f refl)
own_room Event row a b c d e f = refl
own_room New row a b c d e f = refl
own_room Image row a b c d e f = refl
own_room Keep row a b c d e f = refl
own_room Compare row a b c d e f = refl

pub calls-card : (k : Kind) → (k ≡ New → ⊥) → is_new k ≡ false
calls-card New h = absurd (h refl)
calls-card Start h = refl
calls-card Read h = refl
calls-card Write h = refl
calls-card BarRead h = refl
calls-card BarWrite h = refl
calls-card Event h = refl
calls-card Line h = refl
calls-card Image h = refl
calls-card Keep h = refl
calls-card Compare h = refl

-- ---- a call over parts of the buffers: t and p of their bytes, n of the output, which become t', p' and out'

module _ (run : Run) (bytes : List ℕ) (row : Row) (o : Outcome) (t p n : ℕ) (t' p' out' : List ℕ) where
  abbrev Over : Type 0
  Over = after o t' p' out' ≡ operate (world_of run.card (take t run.table) (take p run.pending)) (operation_over bytes row (take n (fresh 300)))

  abbrev after_call : Called
  after_call =
      let table = t' ++ drop t run.table in
      let pending = p' ++ drop p run.pending in
      let next : Run = record { card = o.card; vectors = run.vectors; table = table; pending = pending; good = run.good } in
      record { run = next; outcome = o; out = out' ++ drop n (fresh 300); room = n }

  pub calls : t ≡ min (16 * run.vectors) (length run.table) → p ≡ min (8 * ((run.vectors + 63) / 64)) (length run.pending) → n ≡ min (room_of row) 300
      → length t' ≡ length (take t run.table) → length p' ≡ length (take p run.pending)
      → length out' ≡ length (take n (fresh 300)) → Over → Runs.Calls run bytes row after_call
  calls et ep en lt lp lo e =
      let a = written-part t (16 * run.vectors) run.table t' et lt in
      let b = written-part p (8 * ((run.vectors + 63) / 64)) run.pending p' ep lp in
      let d = take_at out' (drop n (fresh 300)) n (lo ∙ length-take-le n (fresh 300) (omega arith)) in
      let f = clipped_part n (room_of row) (fresh 300) en in
      record {
        outcome =
            (λ i. after o (a i) (b i) (d i)) ∙ e
            ∙ ap₂ (λ (x y : List ℕ). operate (world_of run.card x y) (operation_over bytes row (take n (fresh 300))))
            (clipped_part t (16 * run.vectors) run.table et) (clipped_part p (8 * ((run.vectors + 63) / 64)) run.pending ep)
            ∙ ap (λ (l : List ℕ). operate (seen run).world (operation_over bytes row l)) f;
        card = refl;
        good = refl;
        fresh = f ∙ lent_all row.kind bytes row (fresh 300);
      }

-- ---- a call that was compared

pub plays : (run : Run) (bytes : List ℕ) (row : Row) (r : Called) → Runs.Calls run bytes row r → (expected : List ℕ) (answer : Answer) (good : Bool)
    → good ≡ right (after r.outcome [] [] (take r.room r.out)) answer expected (take r.room (fresh 300))
    → seen (judged r.run good) ≡ played (seen run) (does (operation_of bytes row) expected answer)
plays run bytes row r h expected answer good e =
    let o = operate (seen run).world (operation_of bytes row) in
    let w = ap (λ (c : Card). world_of c (table_of r.run) (pending_of r.run)) h.card ∙ ap (λ (z : Calls.Outcome). z.world) h.outcome in
    let g =
    e
    ∙ right_anywhere _ o answer expected _ (ap (λ (z : Calls.Outcome). z.answer) h.outcome) (ap (λ (z : Calls.Outcome). z.count) h.outcome)
    (ap (λ (z : Calls.Outcome). z.output) h.outcome)
    ∙ ap (right o answer expected) h.fresh in
    let q : Played = record { world = o.world; good = (seen run).good && right o answer expected (lent_output (operation_of bytes row)) } in
    let f : seen (judged r.run good) ≡ q = λ i. record { world = w i; good = h.good i && g i } in
    f ∙ sym (played-does (seen run) (operation_of bytes row) expected answer)

-- ---- buffers

pub lends_new : (run : Run) (v n : ℕ) → v ≡ min n 10 → seen (with_buffers run v) ≡ played (seen run) (lends (min n 10))
lends_new run v n e =
    let a = equal-bytes (16 * v) 160 0xee (omega arith) ∙ ap (λ (k : ℕ). fresh (16 * k)) e in
    let b = equal-bytes (8 * ((v + 63) / 64)) 8 0xee (omega arith) ∙ ap (λ (k : ℕ). fresh (8 * ((k + 63) / 64))) e in
    let q : Played = record { world = world_of run.card (fresh (16 * min n 10)) (fresh (8 * ((min n 10 + 63) / 64))); good = run.good } in
    let f : seen (with_buffers run v) ≡ q = λ i. record { world = world_of run.card (a i) (b i); good = run.good } in
    f ∙ sym (played-lends (seen run) (min n 10))

-- ---- rows

module _ (n : ℕ) (bytes : List ℕ) where
  pub of_case : (row : Row) → row.number ≡ n → step_of bytes row ∷ [] ≡ row_steps n bytes row
  unfolding row_steps
  of_case row e = rw (eq-eqb row.number n e)

  pub of_other : (row : Row) → (row.number ≡ n → ⊥) → [] ≡ row_steps n bytes row
  unfolding row_steps
  of_other row e = rw (ne_eqb row.number n e)

  -- the row at place 45 i of m rows, and the rows behind it
  pub next_row : (m : ℕ) (rows : List ℕ) (i : ℕ) → i < m
      → row_steps n bytes (row_of (take 45 (drop (45 * i) rows))) ++ case_steps n bytes (m - (i + 1)) (drop (45 * (i + 1)) rows) ≡ case_steps n bytes (m - i) (drop (45 * i) rows)
  unfolding case_steps
  next_row m rows i h =
      let e : m - i ≡ suc (m - (i + 1)) = omega arith in
      let f : 45 * (i + 1) ≡ 45 * i + 45 = omega arith in
      rw (e, f, drop-drop)

  pub no_row : (m : ℕ) (l : List ℕ) (i : ℕ) → m ≤ i → [] ≡ case_steps n bytes (m - i) l
  unfolding case_steps
  no_row m l i h = let e : m - i ≡ 0 = omega arith in rw e
