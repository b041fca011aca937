use Rattle.std.proofs.Common.{◌≡◌, ℕ, ◌+◌, ◌-◌, List, take, drop, length, arith, refl, ap, ap₂, sym, ◌∙◌}
use lib.ListN.{length-set, length-drop}
use lib.Seq.{get_or-drop}
use native.Mathlib.Nat.{zero-add}
use Rattle.std.proofs.lemmas.List.Edits.{fill_by_more}
use Rattle.words.specs.Bytes.{byte}
use Rattle.words.proofs.PartLaws.{to_end}
use Rattle.switch.specs.Switches.{idle, port_of, switch_of}
use Rattle.switch.proofs.JoinLaws.{listed}
use Rattle.capi_switch.specs.Crossing.{wires_in, switch_in}
use Rattle.capi_switch.proofs.bytes.switch_of.Goals as goal

pub loop-k-init : goal.loop-k-init
loop-k-init c = (refl, to_end 2 c.args.b.now, λ j h. absurd (omega arith))

pub loop-k-preserved : goal.loop-k-preserved
loop-k-preserved c =
    let b = c.args.b.now in
    let v = c.loop-k in
    let port = λ (k : ℕ). port_of (wires_in (byte b (2 + k))) in
    let n : length (take (length b - 2) (drop 2 b)) ≡ 8 = ap length (to_end 2 b) ∙ length-drop 2 b ∙ omega arith in
    let here = ap (λ (l : List ℕ). byte l v.k) (to_end 2 b) ∙ get_or-drop 2 b v.k 0 in
    let read = c.port_of.ensures ∙ ap (λ (x : ℕ). port_of (wires_in x)) here in
    (simp length-set v.invariant.0, v.invariant.1, rw read (fill_by_more port v.ports v.k idle (omega (arith, n)) v.invariant.2))

pub returns : goal.returns
unfolding switch_in
returns c =
    let b = c.args.b.now in
    let v = c.loop-k in
    let port = λ (k : ℕ). port_of (wires_in (byte b (2 + k))) in
    let n : length (take (length b - 2) (drop 2 b)) ≡ 8 = ap length (to_end 2 b) ∙ length-drop 2 b ∙ omega arith in
    ap₂ switch_of c.word16-requester.ensures
    (listed port idle 0 8 v.ports v.invariant.0 (λ j h. v.invariant.2 j (omega (arith, n)) ∙ ap port (sym (zero-add j))))
