-- Stage and bytes taken, the record's bytes and the number, one writer behind the other. Assumes nothing.
use mathlib.Core.Path.{◌≡◌, ap, ◌∙◌}
use mathlib.Core.List.{List, [], ◌∷◌, ◌++◌}
use Prim.Native.Nat.{ℕ, ◌%◌}
use native.Mathlib.Omega.{arith}
use lib.ListN.{length, length-append}
use Rattle.words.specs.Bytes.{bytes_of}
use Rattle.words.proofs.ByteLaws.{length-bytes_of}
use Rattle.words.proofs.PutLaws.{over-all}
use Rattle.words.proofs.Writers.{behind}
use Rattle.capi_log.specs.Crossing.{player_bytes}
use borrow.Author.Rules.{rules}
use Rattle.capi_log.proofs.bytes.put_player.Goals as goal

size : (a b : ℕ) (l : List ℕ) (n : ℕ) → length l ≡ 15 → length ((a ∷ b % 256 ∷ []) ++ l ++ bytes_of 8 n) ≡ 25
size a b l n h = rw (length-append l (bytes_of 8 n), h, length-bytes_of 8 n)

pub returns : goal.returns
unfolding player_bytes
returns c =
    let p = c.args.player in
    let part : length p.part ≡ 15 = search rules in
    let first = c.from.result ∷ p.taken % 256 ∷ [] in
    let o = c.args.out.now in
    let both = behind first p.part o _ _ _ _ c.put_slice-a.ensures c.put_slice.ensures in
    let all = behind (first ++ p.part) (bytes_of 8 p.number) o _ _ _ _ both c.put_le.ensures in
    all.bytes
    ∙ over-all (first ++ p.part ++ bytes_of 8 p.number) o (omega (arith, size c.from.result p.taken p.part p.number part, c.requires))
    ∙ ap (λ (k : ℕ). k ∷ p.taken % 256 ∷ p.part ++ bytes_of 8 p.number) c.from.ensures
