-- Vectors released: none, and one run behind another. Assumes nothing.
use mathlib.Core.Path.{◌≡◌, refl, sym, ap, ap₂, ◌∙◌}
use mathlib.Core.List.{List, []}
use Prim.Native.Nat.{ℕ, ◌+◌, ◌-◌, ◌*◌, ◌%◌, ◌^◌, ◌≤◌, ◌<◌}
use native.Mathlib.Omega.{arith}
use lib.Bits.{bit_and}
use lib.ListN.{length}
use borrow.Rule.Slice.PartMut.{put_mid, mid_of}
use Rattle.words.proofs.Writers.{placed}
use Rattle.words.specs.Bytes.{word64, bytes_of, Bytes}
use Rattle.words.specs.Writers.{over, put_at, Wrote}
use Rattle.words.proofs.BitLaws.{and-not}
use Rattle.words.proofs.ByteLaws.{word64-lt}
use Rattle.release.specs.Owed.{entries, owed_entries, entry_packets, clear_pending, Lent, Unmasked, Released, owed_word, word_packets}
use Rattle.words.proofs.ListLaws.{join-none}
use Rattle.release.proofs.PendingWords.{word-packets, owed_from, owed_all_lem, owed_split, owed_end, packets_split}
use Rattle.words.proofs.Sending.{Sending, sending_all, sending_fits, sending_next, sending_done}
use Rattle.release.proofs.WordClear.{word_cleared, owed-after, lent_after}
use Rattle.release.proofs.Clearing.{clear_nothing, clear-append, length-cleared}
use Rattle.model.specs.Packets.{entry_message}

pub released_none : (requester : ℕ) (table vs p o : List ℕ) → vs ≡ [] → Released requester table vs p o 0 p o
released_none requester table vs p o e =
    let n : entry_packets requester table vs ≡ [] = join-none (entry_message requester table) vs e in
    record {
      sent = record { count = sym (ap length n); bytes = ap (λ (q : List ℕ). over q o) (sym n) };
      cleared = sym (ap (clear_pending p) e ∙ clear_nothing p);
    }

-- the word w at byte k: its open bits r are sent, and the others written back
pub released_word : (requester : ℕ) (table p o : List ℕ) (k r w n : ℕ) (p' o' : List ℕ) → Bytes p → k + 8 ≤ length p → r < 2 ^ 64 → w ≡ word64 p k
    → Unmasked table (8 * k) (word64 p k) r → Wrote (word_packets requester table (8 * k) r) o n o'
    → p' ≡ put_at k (bytes_of 8 (bit_and ((2 ^ 64 - 1) - r) w)) p → Released requester table (owed_word table p k) p o n p' o'
released_word requester table p o k r w n p' o' b h l e u s q = record {
  sent = rw (word-packets table p k r b u requester) s;
  cleared =
      q
      ∙ ap (λ (x : ℕ). put_at k (bytes_of 8 x) p) (ap (bit_and ((2 ^ 64 - 1) - r)) e ∙ and-not 64 r (word64 p k) l (word64-lt p k b))
      ∙ word_cleared table p k h r b u;
}

-- ---- a loop over the words

module _ (requester : ℕ) (table p₀ o₀ : List ℕ) where
  abbrev pub all : List ℕ
  all = owed_entries table p₀ (entries table)

  -- the words from byte `at` on are still to be released
  pub record Releasing (o p : List ℕ) (sent at : ℕ) : Type 0 where
    pub whole : at % 8 ≡ 0
    pub within : at ≤ length p
    pub same : length p ≡ length p₀
    pub lent : Lent table p
    pub sending : Sending (entry_packets requester table all) o₀ o (entry_packets requester table (owed_from table p at)) sent
    pub clearing : clear_pending p (owed_from table p at) ≡ clear_pending p₀ all

  pub releasing_all : Lent table p₀ → Releasing o₀ p₀ 0 0
  releasing_all l =
      let e : owed_from table p₀ 0 ≡ all = owed_all_lem table p₀ l in
      record {
        whole = omega arith;
        within = omega arith;
        same = refl;
        lent = l;
        sending = rw e (sending_all (entry_packets requester table all) o₀);
        clearing = ap (clear_pending p₀) e;
      }

  pub releasing_room : (o p : List ℕ) (sent at : ℕ) → Releasing o p sent at → at < length p₀ → at + 8 ≤ length p
  releasing_room o p sent at g h = omega (arith, g.whole, g.same, g.lent.words)

  -- there is room for the packets of the next word
  pub releasing_fits : (o p : List ℕ) (sent at : ℕ) → length (entry_packets requester table all) ≤ length o₀ → Releasing o p sent at → at + 8 ≤ length p
      → sent + length (entry_packets requester table (owed_word table p at)) ≤ length o
  releasing_fits o p sent at f g h =
      sending_fits (entry_packets requester table all) o₀ o (entry_packets requester table (owed_from table p at)) sent
      (entry_packets requester table (owed_word table p at)) (entry_packets requester table (owed_from table p (at + 8))) f g.sending (packets_split requester table p at h)

  pub releasing_next : (o p : List ℕ) (sent at : ℕ) (n : ℕ) (o' p' : List ℕ) → length (entry_packets requester table all) ≤ length o₀ → Releasing o p sent at → at + 8 ≤ length p
      → n ≡ length (entry_packets requester table (owed_word table p at)) → length o' ≡ length o → o' ≡ put_at sent (entry_packets requester table (owed_word table p at)) o
      → p' ≡ clear_pending p (owed_word table p at) → Releasing o' p' (sent + n) (at + 8)
  releasing_next o p sent at n o' p' f g h c l w q =
      let e : owed_from table p' (at + 8) ≡ owed_from table p (at + 8) = ap (λ (x : List ℕ). owed_from table x (at + 8)) q ∙ owed-after table p at h in
      let k : length p' ≡ length p = ap length q ∙ length-cleared p (owed_word table p at) in
      record {
        whole = omega (arith, g.whole);
        within = omega (arith, k);
        same = k ∙ g.same;
        lent = rw q (lent_after table p at h g.lent);
        sending =
            rw e
            (sending_next (entry_packets requester table all) o₀ o (entry_packets requester table (owed_from table p at)) sent
            (entry_packets requester table (owed_word table p at)) (entry_packets requester table (owed_from table p (at + 8))) o' n f g.sending
            (packets_split requester table p at h) c l w);
        clearing =
            ap₂ clear_pending q e ∙ sym (clear-append p (owed_word table p at) (owed_from table p (at + 8)))
            ∙ ap (clear_pending p) (sym (owed_split table p at h)) ∙ g.clearing;
      }

  -- a call that is lent the output behind what was sent
  pub releasing_turn : (o p : List ℕ) (sent at n : ℕ) (ys p' : List ℕ) → length (entry_packets requester table all) ≤ length o₀ → at < length p₀ → Releasing o p sent at
      → Released requester table (owed_word table p at) p (mid_of sent (length o - sent) o) n p' ys
      → length (put_mid sent (length o - sent) o ys) ≡ length o → Releasing (put_mid sent (length o - sent) o ys) p' (sent + n) (at + 8)
  releasing_turn o p sent at n ys p' f h g r l =
      releasing_next o p sent at n _ p' f g (releasing_room o p sent at g h) r.sent.count l
      (placed o sent (entry_packets requester table (owed_word table p at)) ys r.sent.bytes) r.cleared

  pub releasing_done : (o p : List ℕ) (sent at : ℕ) → Releasing o p sent at → length p₀ ≤ at → Released requester table all p₀ o₀ sent p o
  releasing_done o p sent at g h =
      let e : owed_from table p at ≡ [] = owed_end table p at (omega (arith, g.same)) in
      record {
        sent = sending_done (entry_packets requester table all) o₀ o (entry_packets requester table (owed_from table p at)) sent g.sending
            (join-none (entry_message requester table) (owed_from table p at) e);
        cleared = sym (ap (clear_pending p) e ∙ clear_nothing p) ∙ g.clearing;
      }
