-- Demand 3, first part, of what a host calls: after every list of calls through the interface the bytes that a host holds have the registers and the
-- waiting bits of the history. Assumes nothing.
use mathlib.Core.Path.{◌≡◌, refl, sym, ap, ◌∙◌, subst}
use mathlib.Core.Bool.{true, false, not}
use mathlib.Core.List.{List, [], ◌∷◌, foldl}
use mathlib.Core.Logic.{◌↔◌}
use mathlib.Core.Logic.Iff
use Prim.Native.Nat.{ℕ, ◌^◌}
use lib.ListN.{length, take}
use borrow.Author.Tests.{eq-eqb, ne_eqb}
use Rattle.words.specs.Bits.{bit}
use Rattle.words.specs.Bytes.{Bytes, Below}
use Rattle.model.specs.declared.Mode.{Mode}
use Rattle.model.specs.declared.Mode.TheVariants.{Pin, Msi, Msix}
use Rattle.model.specs.Answers.{is_accepted}
use Rattle.model.specs.World.{World, Endpoint, world_of, registers}
use Rattle.model.specs.Vectors.{waits}
use Rattle.model.specs.Start.{Given, given, start_refusal}
use Rattle.model.specs.Image.{card_in}
use Rattle.model.specs.Claims.{Typed}
use Rattle.model.specs.Calls.{Call, is_withdrawal, no_withdrawal, Outcome, Operation, start, step, start_of, started_world}
use Rattle.model.specs.History.{Run, entry_of, registers_by, Keeps, WaitsStill, held_by, ended_by}
use Rattle.model.proofs.DemandHistory.{Plain, plain-more}
use Rattle.model.proofs.Withdrawals.{without_withdrawals}
use Rattle.model.proofs.History.SinceLaws.{every-nil}
use Rattle.words.proofs.BoolLaws.{both}
use Rattle.model.proofs.CardExact.{config_in, waiting_in, card-typed}
use Rattle.model.proofs.TypedKept.{started-typed, typed-step}
use Rattle.model.proofs.WaitingHistory.{cleared-not, started-good}
use Rattle.model.proofs.Refusals.{start-number}
use Rattle.model.proofs.Sound.StartLaws.{started-waits}
use Rattle.model.proofs.Vectors.WaitingLaws.{waits-pin, waits-msi, waits-msix}
use Rattle.model.proofs.Calls.AnswerLaws.{refused-not, done-accepted}
use Rattle.model.proofs.Calls.StartCalls.{start-accepted}
use Rattle.model.proofs.History.Machine.{Law, bit-iff, list_keeps}
use Rattle.model.proofs.History.HistoryCalls.{Good, entered}
use Rattle.model.proofs.History.HistoryLaw.{entry_law, refuses}
use Rattle.capi.specs.Crossing.{Crossed, card_after, back, crossed}
use Rattle.capi.specs.Hosts.{Held, Lent, made, left, HostRun, answer_of, running, host_called, host_run, lent_calls, waiting_bit, registers_in}
use Rattle.capi.specs.HostClaims.{left_by, Remembers, RemembersStill}
use Rattle.capi.proofs.CardFor.{read_lengths}
use Rattle.capi.proofs.CrossingFor.{zero_read, read_through}
use Rattle.capi.proofs.HostStep.{host_world, host_bytes, IsCard, Stepped, stays, goes, stepped, card-of, back_of}

-- ---- the law of one call

-- a host's run, as a run of the card in its bytes
abbrev run_of : HostRun → Run
run_of h = record { world = host_world h.held; past = h.past }

-- what every call keeps
record HostGood (g : Given) (h : HostRun) : Type 0 where
  card : IsCard h.held
  good : Good g (run_of h)

module _ (g : Given) (ok : start_refusal g ≡ 0) (m : Mode) (v : ℕ) (h : HostRun) (i : HostGood g h) (x : Lent Call) where
  abbrev r : Crossed
  r = made h.held (running x)

  abbrev bytes : List ℕ
  bytes = take r.count r.output

  -- the law of the call, where it leaves k
  abbrev LawAt : Held → Type 0
  LawAt k =
      Law host_called (λ (h : HostRun). h.past) (λ (h : HostRun). waits m (host_world h.held).endpoint v) (HostGood g) (held_by g m v) (ended_by g m v) h
      (record { held = k; past = entry_of x.calls (answer_of r) bytes ∷ h.past })

  refused_law : (r.refusal ≡ 0 → ⊥) → LawAt h.held
  refused_law e =
      let no : is_accepted (answer_of r) ≡ false = rw (ne_eqb r.refusal 0 e) (refused-not r.refusal) in
      let l = refuses g ok m v (run_of h) i.good bytes x.calls (answer_of r) no in
      record { entry = l.entry; longer = l.longer; good = record { card = i.card; good = l.good }; wait = l.wait }

  accepted_law : r.refusal ≡ 0 → is_accepted (step (host_world h.held) x.calls).answer ≡ true → LawAt (host_bytes (step (host_world h.held) x.calls).world)
  accepted_law e a =
      let w : World = (step (host_world h.held) x.calls).world in
      let t : Typed w = typed-step (host_world h.held) (card-typed h.held.card i.card.bytes i.card.read.size h.held.table h.held.pending) x.calls in
      let yes : is_accepted (answer_of r) ≡ true = rw (eq-eqb r.refusal 0 e) done-accepted in
      let l = entry_law g ok m v (run_of h) i.good bytes x.calls (answer_of r) (yes ∙ sym a) in
      record {
        entry = l.entry;
        longer = l.longer;
        good = record { card = card-of w t; good = subst (λ (u : World). Good g (entered (run_of h) (entry_of x.calls (answer_of r) bytes) u)) (sym (back_of w t)) l.good };
        wait = ap (λ (u : World). waits m u.endpoint v) (back_of w t) ∙ l.wait;
      }

  call_law : LawAt (left h.held (running x) r)
  call_law = by-step (stepped h.held i.card i.good.is_sound x)
    where
      by-step : Stepped h.held x → LawAt (left h.held (running x) r)
      by-step (stays e q) = subst LawAt (sym q) (refused_law e)
      by-step (goes e a q) = subst LawAt (sym q) (accepted_law e a)

-- ---- what the bytes say

bit_in : (m : Mode) (h : Held) (v : ℕ) → waiting_bit m h v ≡ waits m (host_world h).endpoint v
unfolding waiting_bit
bit_in Pin h v = sym (waits-pin (host_world h).endpoint v)
bit_in Msi h v = ap (λ (n : ℕ). bit n v) (sym (waiting_in h.card)) ∙ sym (waits-msi (host_world h).endpoint v)
bit_in Msix h v = sym (waits-msix (host_world h).endpoint v)

registers-in : (h : Held) → registers_in h ≡ registers (host_world h).endpoint
unfolding registers_in
registers-in h = λ i. record { config = sym (config_in h.card) i; table = h.table }

-- ---- the theorem

module _ (g : Given) (ok : start_refusal g ≡ 0) (t : Typed (started_world g)) where
  -- as a start leaves them
  abbrev first : HostRun
  first = record { held = host_bytes (started_world g); past = [] }

  fine : HostGood g first
  fine = record {
    card = card-of (started_world g) t;
    good = subst (λ (w : World). Good g (record { world = w; past = [] })) (sym (back_of (started_world g) t)) (started-good g ok);
  }

  law : (m : Mode) (v : ℕ) (h : HostRun) (x : Lent Call) → HostGood g h
      → Law host_called (λ (h : HostRun). h.past) (λ (h : HostRun). waits m (host_world h.held).endpoint v) (HostGood g) (held_by g m v) (ended_by g m v) h (host_called h x)
  unfolding host_called
  law m v h x i = call_law g ok m v h i x

  registers-kept : (calls : List (Lent Call)) → registers_in (host_run (host_bytes (started_world g)) calls).held ≡ registers_by g (host_run (host_bytes (started_world g)) calls).past
  unfolding host_run
  registers-kept calls =
      let all : HostGood g (foldl host_called first calls) = list_keeps host_called (HostGood g) (λ h x i. (law Msi 0 h x i).good) first calls fine in
      registers-in (foldl host_called first calls).held ∙ all.good.same

  bits_kept : (calls : List (Lent Call)) (m : Mode) (v : ℕ)
      → (waiting_bit m (host_run (host_bytes (started_world g)) calls).held v ≡ true) ↔ WaitsStill g m v (host_run (host_bytes (started_world g)) calls).past
  unfolding host_run
  bits_kept calls m v =
      rw (bit_in m (foldl host_called first calls).held v)
      (bit-iff host_called (λ (h : HostRun). h.past) (λ (h : HostRun). waits m (host_world h.held).endpoint v) (HostGood g) (held_by g m v) (ended_by g m v)
      (Keeps g m v) (λ x before. cleared-not g m v x before) (λ h x i. law m v h x i) first fine refl
      (ap (λ (w : World). waits m w.endpoint v) (back_of (started_world g) t) ∙ started-waits g ok m v) calls)

-- a start that returns 0
module _ (card t p config sizes : List ℕ) (events requester : ℕ) (e : (crossed card t p (start config sizes events requester)).refusal ≡ 0) where
  abbrev o : Operation
  o = start config sizes events requester

  abbrev u : Endpoint
  u = (world_of (card_in card) t p).endpoint

  abbrev input : Given
  input = given config sizes events requester (length t) (length p)

  crossing : crossed card t p o ≡ back card o (start_of u input)
  crossing = read_through card t p o (zero_read card t p o e)

  start_passed : start_refusal input ≡ 0
  start_passed = sym (start-number u input) ∙ sym (ap (λ (r : Crossed). r.refusal) crossing) ∙ e

  start-typed : Bytes config → Below (256 ^ 4) sizes → Typed (started_world input)
  start-typed b z =
      let n = read_lengths card o (zero_read card t p o e) in
      started-typed input start_passed (record { config = n.1; bytes = b; sizes = n.2; small = z })

  start-leaves : left_by (crossed card t p o) ≡ host_bytes (started_world input)
  unfolding card_after
  start-leaves = ap left_by crossing ∙ ap (λ (r : Outcome). left_by (back card o r)) (start-accepted u input start_passed)

-- of all that a host can hand to a start
pub host-still : (card t p config sizes : List ℕ) (events requester : ℕ) → Bytes config → Below (256 ^ 4) sizes
    → RemembersStill card t p config sizes events requester
host-still card t p config sizes events requester b z e calls =
    let g : Given = given config sizes events requester (length t) (length p) in
    let ok = start_passed card t p config sizes events requester e in
    let typed = start-typed card t p config sizes events requester e b z in
    rw (start-leaves card t p config sizes events requester e) (registers-kept g ok typed calls, bits_kept g ok typed calls)

-- no entry of the past of a list without withdrawals is one
plain-past : (h : HostRun) (calls : List (Lent Call)) → no_withdrawal (lent_calls calls) ≡ true → Plain h.past → Plain (foldl host_called h calls).past
unfolding no_withdrawal lent_calls host_called
plain-past h [] n p = p
plain-past h (x ∷ l) n p =
    let b = both (not (is_withdrawal x.calls)) (no_withdrawal (lent_calls l)) n in
    plain-past (host_called h x) l b.1 (plain-more x.calls _ h.past refl b.0 p)

plain-run : (h : Held) (calls : List (Lent Call)) → no_withdrawal (lent_calls calls) ≡ true → Plain (host_run h calls).past
unfolding host_run
plain-run h calls n = plain-past (record { held = h; past = [] }) calls n (every-nil (λ x before. is_withdrawal x.call ≡ false))

-- and of lists without withdrawals
pub host-history : (card t p config sizes : List ℕ) (events requester : ℕ) → Bytes config → Below (256 ^ 4) sizes
    → Remembers card t p config sizes events requester
host-history card t p config sizes events requester b z e calls n =
    let g : Given = given config sizes events requester (length t) (length p) in
    let r : HostRun = host_run (left_by (crossed card t p (start config sizes events requester))) calls in
    let still = host-still card t p config sizes events requester b z e calls in (
      still.0,
      λ m v.
          Iff.trans (still.1 m v)
          (without_withdrawals g m v r.past (plain-run (left_by (crossed card t p (start config sizes events requester))) calls n)),
    )
