-- Packets read one after another: what is read makes the bytes again, and packets that are put together are read. `Passes` says so of bytes in front
-- of any others, so that it holds of each packet and of what is joined of such. Assumes nothing.
use mathlib.Core.Path.{◌≡◌, refl, sym, ap, ap₂, ◌∙◌, subst}
use mathlib.Core.Bool.{Bool, true, false}
use mathlib.Core.List.{List, [], ◌∷◌, ◌++◌, append_assoc, append-nil}
use Prim.Native.Nat.{ℕ, ◌+◌, ◌*◌, ◌/◌, ◌%◌, ◌^◌, ◌≤◌, ◌<◌}
use native.Mathlib.Omega.{arith}
use lib.ListN.{length, take, drop, take-append-drop}
use lib.Seq.{drop_at}
use Rattle.words.specs.Lists.{join}
use Rattle.words.specs.Bits.{of_bool}
use Rattle.words.proofs.ListLaws.{Holds, holds_head, holds_tail}
use Rattle.model.specs.Packets.{message, wire_message}
use Rattle.model.proofs.Vectors.PacketLaws.{message-length, wire-length}
use Rattle.capi_query.specs.declared.packets.Fields.{Fields}
use Rattle.capi_query.specs.Fields.{first_fields}
use Rattle.capi_query.specs.Claims.{Stands, message_first, wire_first, packet_of, packets_of, Walked, done, next}
use Rattle.capi_query.proofs.FirstPacket.{first-message, first-wire, packet_exact}

-- ---- what is read makes the bytes again

stands_bytes : (l : List ℕ) (f : Fields) → Stands l f → take f.count l ≡ packet_of f
unfolding packet_of of_bool
stands_bytes l f (message_first requester upper address value r u a v aligned e) =
    let high : (upper * 2 ^ 32 + address) / 2 ^ 32 ≡ upper = omega arith in
    let low : (upper * 2 ^ 32 + address) % 2 ^ 32 ≡ address = omega arith in
    e ∙ sym (rw (high, low))
stands_bytes l f (wire_first requester pin true r first last e) = e
stands_bytes l f (wire_first requester pin false r first last e) = e

-- the first bytes, as many as told, are exactly the packet of the fields told
pub packet_bytes : (l : List ℕ) → (first_fields l).refusal ≡ 0 → take (first_fields l).count l ≡ packet_of (first_fields l)
packet_bytes l z = stands_bytes l (first_fields l) (packet_exact l z)

-- bytes that are read packet by packet are those of the packets read
pub walk_rebuilds : {l : List ℕ} {fs : List Fields} → Walked l fs → packets_of fs ≡ l
unfolding packets_of
walk_rebuilds done = refl
walk_rebuilds (next {l = l} z w) = ap₂ ◌++◌ (sym (packet_bytes l z)) (walk_rebuilds w) ∙ take-append-drop (first_fields l).count l

-- ---- packets put together are read

-- the bytes are read packet by packet
abbrev pub Walks : List ℕ → Type 0
Walks l = (fs : List Fields) × Walked l fs

-- in front of bytes that are read they are read, too
abbrev pub Passes : List ℕ → Type 0
Passes p = (l : List ℕ) → Walks l → Walks (p ++ l)

-- a packet that is told with its length
one_passes : (p : List ℕ) (f : Fields) → f.refusal ≡ 0 → length p ≡ f.count → ((l : List ℕ) → first_fields (p ++ l) ≡ f) → Passes p
one_passes p f z n e l w =
    let told : (first_fields (p ++ l)).refusal ≡ 0 = ap (λ (x : Fields). x.refusal) (e l) ∙ z in
    let rest : drop (first_fields (p ++ l)).count (p ++ l) ≡ l = drop_at p l _ (n ∙ sym (ap (λ (x : Fields). x.count) (e l))) in
    (first_fields (p ++ l) ∷ w.0, next told (subst (λ (x : List ℕ). Walked x w.0) (sym rest) w.1))

pub message-passes : (requester upper address value : ℕ) → requester < 2 ^ 16 → upper < 2 ^ 32 → address < 2 ^ 32 → value < 2 ^ 32 → address % 4 ≡ 0
    → Passes (message requester upper address value)
message-passes requester upper address value r u a v aligned =
    one_passes (message requester upper address value) _ refl (message-length requester upper address value)
    (first-message requester upper address value r u a v aligned)

pub wire-passes : (requester pin : ℕ) (active : Bool) → requester < 2 ^ 16 → 1 ≤ pin → pin ≤ 4 → Passes (wire_message requester pin active)
wire-passes requester pin active r first last =
    one_passes (wire_message requester pin active) _ refl (wire-length requester pin active) (first-wire requester pin active r first last)

pub none_passes : Passes []
none_passes l w = w

pub both_pass : (p q : List ℕ) → Passes p → Passes q → Passes (p ++ q)
both_pass p q f g l w = subst Walks (sym (append_assoc p q l)) (f (q ++ l) (g l w))

pub join-passes : (f : ℕ → List ℕ) (l : List ℕ) → Holds (λ x. Passes (f x)) l → Passes (join f l)
unfolding join
join-passes f [] h = none_passes
join-passes f (x ∷ l) h =
    both_pass (f x) (join f l) (holds_head (λ x. Passes (f x)) x l h) (join-passes f l (holds_tail (λ x. Passes (f x)) x l h))

pub walks : (p : List ℕ) → Passes p → Walks p
walks p f = subst Walks (append-nil p) (f [] ([], done))
