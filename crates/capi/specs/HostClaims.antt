-- What the theorems of demand 3 say to a host. Assumes nothing.
use Rattle.std.specs.Prelude.{◌≡◌, true, List, ◌↔◌, ℕ, length, take}
use Rattle.model.specs.declared.Mode.{Mode}
use Rattle.model.specs.Start.{Given, given}
use Rattle.model.specs.Calls.{Call, no_withdrawal, Operation, call, start, save, restore}
use Rattle.model.specs.History.{registers_by, WaitsBy, WaitsStill}
use Rattle.capi.specs.Crossing.{Crossed, crossed}
use Rattle.capi.specs.Hosts.{Held, held_of, Lent, held_after, crossings, HostRun, host_run, lent_calls, waiting_bit, registers_in}

-- what a function leaves, where it was lent the whole of each buffer
abbrev pub left_by : Crossed → Held
left_by r = held_of r.card r.table r.pending

-- A start that returns 0, and then every list of calls, each with any lengths, refused ones included, with 60 too. After it the registers in the bytes
-- that the host holds are those of the history, and each vector's waiting bit in them is one exactly if an accepted event for that vector came while
-- its mechanism was in force and the vector was shut, and since then no call left it open and no reset was accepted
abbrev pub Remembers : (card table pending config sizes : List ℕ) → (events requester : ℕ) → Type 0
Remembers card table pending config sizes events requester =
    let started : Crossed = crossed card table pending (start config sizes events requester) in
    let g : Given = given config sizes events requester (length table) (length pending) in
    started.refusal ≡ 0 → (calls : List (Lent Call)) → no_withdrawal (lent_calls calls) ≡ true
    → let r : HostRun = host_run (left_by started) calls in
    (registers_in r.held ≡ registers_by g r.past)
    × ((m : Mode) (v : ℕ) → (waiting_bit m r.held v ≡ true) ↔ WaitsBy g m v r.past)

-- The same where withdrawals are among the calls: and no withdrawal of that vector was accepted
abbrev pub RemembersStill : (card table pending config sizes : List ℕ) → (events requester : ℕ) → Type 0
RemembersStill card table pending config sizes events requester =
    let started : Crossed = crossed card table pending (start config sizes events requester) in
    let g : Given = given config sizes events requester (length table) (length pending) in
    started.refusal ≡ 0 → (calls : List (Lent Call))
    → let r : HostRun = host_run (left_by started) calls in
    (registers_in r.held ≡ registers_by g r.past)
    × ((m : Mode) (v : ℕ) → (waiting_bit m r.held v ≡ true) ↔ WaitsStill g m v r.past)

-- A save that returns 0, then any list of calls, starts and restores among them, each with any lengths, then a restore of exactly the bytes that the
-- save wrote, over the same buffers: it returns 0, every byte of card, table and pending array is as it was at the save, and every list of calls that
-- follows hands back the same
abbrev pub ResumesBytes : (card table pending : List ℕ) → Type 0
ResumesBytes card table pending =
    (out : List ℕ)
    → let saved : Crossed = crossed card table pending (call (save out)) in
    saved.refusal ≡ 0 → (between : List (Lent Operation))
    → let h : Held = held_after (left_by saved) between in
    let back : Crossed = crossed h.card h.table h.pending (restore (take saved.count saved.output)) in
    (back.refusal ≡ 0) × (left_by back ≡ held_of card table pending)
    × ((rest : List (Lent Operation)) → crossings (left_by back) rest ≡ crossings (held_of card table pending) rest)
