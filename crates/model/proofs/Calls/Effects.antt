-- What an accepted call does to the card: it changes nothing, it makes a change that is then settled, it raises an event, it withdraws a vector, or it
-- starts the card anew. One law for each kind serves every call of that kind. Assumes nothing.
use mathlib.Core.Path.{◌≡◌, refl, ap, ◌∙◌}
use mathlib.Core.Bool.{Bool, true, false}
use mathlib.Core.List.{List, [], ◌++◌}
use Prim.Native.Nat.{ℕ, ◌-◌, ◌<◌}
use lib.ListN.{length}
use borrow.Author.Tests.{leb-false}
use Rattle.words.specs.Lists.{first_of}
use Rattle.words.specs.Bytes.{byte, bytes_of, Bytes}
use Rattle.words.proofs.BoolLaws.{passed, cond_elim}
use Rattle.words.proofs.ByteLaws.{bytes_of_lt}
use Rattle.model.specs.Registers.{writable, stored_zero, entry_writable, entry_zero, written, in_table, config_written, bar_written}
use Rattle.model.specs.World.{World, Endpoint, registers, with_registers, with_line, Registers}
use Rattle.model.specs.Release.{pin_number, raised_by, settled, settle_bytes, wire_change}
use Rattle.model.specs.Start.{given, start_refusal}
use Rattle.model.specs.Sound.{given_of, shape}
use Rattle.model.specs.Ready.{Ready}
use Rattle.model.specs.Image.{image_of}
use Rattle.model.specs.Vectors.{vector_count}
use Rattle.model.specs.Withdrawals.{mode_now, withdraw_rows, withdrawn}
use Rattle.model.specs.Calls.{Call, config_read, config_write, bar_read, bar_write, event, line, reset, save, withdraw, is_save, rows, changed, next, sends, reset_endpoint}
use Rattle.model.proofs.Registers.WriteLaws.{length-written, bytes-written}
use Rattle.model.proofs.Shapes.ShapeLaws.{shape_same, pin-same, refusal-same}
use Rattle.model.proofs.Registers.FixedLaws.{fixed_written}
use Rattle.model.proofs.Registers.ZeroLaws.{disjoint, disjoint_entry, zero-written}
use Rattle.model.proofs.Sound.SoundLaws.{Accepts, accepts, SoundEndpoint, is-sound}
use Rattle.model.proofs.Vectors.SettleLaws.{below-same, ready}
use Rattle.model.proofs.Calls.CallLaws.{Passed}

-- the pin number is in the configuration
pub pin-config : (r q : Registers) → r.config ≡ q.config → pin_number r ≡ pin_number q
unfolding pin_number
pin-config r q e = ap (λ (c : List ℕ). byte c 0x3d) e

-- ---- each change leaves the function ready to be swept, with its shape

module _ (u : Endpoint) (k : SoundEndpoint u) where
  abbrev c : List ℕ
  c = u.function.config

  ok : Accepts (given_of u)
  ok = accepts (given_of u) k.start

  -- a configuration write
  pub ready-config : (o : ℕ) (bs : List ℕ) → Ready (shape u) (with_registers u (config_written (shape u) (registers u) o bs))
  ready-config o bs = record {
    shaped = shape_same c (written (writable (shape u)) c o bs) ok.whole ok.structures (fixed_written (shape u) c o bs);
    start =
        refusal-same c (written (writable (shape u)) c o bs) ok.whole ok.structures (fixed_written (shape u) c o bs) u.function.sizes
        u.function.events u.function.requester (length u.table) (length u.pending)
        ∙ k.start;
    config = zero-written (writable (shape u)) (stored_zero (shape u)) (disjoint (shape u)) c o bs k.config;
    table = k.table;
    below = below-same (shape u) u _ refl refl (ready u k).below;
  }

  -- it leaves the pin number
  pub pin-written : (o : ℕ) (bs : List ℕ) → pin_number (config_written (shape u) (registers u) o bs) ≡ pin_number (registers u)
  unfolding pin_number
  pin-written o bs = pin-same c (written (writable (shape u)) c o bs) ok.whole ok.structures (fixed_written (shape u) c o bs)

  -- a write of the table at place o
  ready-table : (o : ℕ) (bs : List ℕ) → Ready (shape u) (with_registers u (record { config = u.function.config; table = written entry_writable u.table o bs }))
  ready-table o bs = record {
    shaped = refl;
    start =
        ap (λ (n : ℕ). start_refusal (given c u.function.sizes u.function.events u.function.requester n (length u.pending)))
        (length-written entry_writable u.table o bs)
        ∙ k.start;
    config = k.config;
    table = zero-written entry_writable entry_zero disjoint_entry u.table o bs k.table;
    below = below-same (shape u) u _ refl refl (ready u k).below;
  }

  -- a BAR write
  pub ready_bar : (b o : ℕ) (bs : List ℕ) → Ready (shape u) (with_registers u (bar_written (shape u) (registers u) b o bs))
  ready_bar b o bs =
      cond_elim (λ (t : List ℕ). Ready (shape u) (with_registers u (record { config = u.function.config; table = t }))) (in_table (shape u) b o)
      (λ _. ready-table (o - (shape u).msix.table.at) bs) (λ _. ready u k)

  pub ready-line : (level : Bool) → Ready (shape u) (with_line u level)
  ready-line level =
      record { shaped = refl; start = k.start; config = k.config; table = k.table; below = below-same (shape u) u (with_line u level) refl refl (ready u k).below }

-- ---- what an accepted call does

-- a change of a function that leaves it ready to be swept, with its shape, its sizes, and the lengths of its buffers
pub record Change (u u' : Endpoint) : Type 0 where
  pub config : length u'.function.config ≡ length u.function.config
  pub bytes : Bytes u.function.config → Bytes u'.function.config
  pub sizes : u'.function.sizes ≡ u.function.sizes
  pub ready : Ready (shape u) u'
  pub table : length u'.table ≡ length u.table
  pub pending : length u'.pending ≡ length u.pending

-- of a card w: whether it is a save, the card after it, and the bytes that it sends
pub data Effect (w : World) : Bool → World → List ℕ → Type 0 where
  reads : Effect w false w []
  saves : Effect w true w (image_of w)
  settles : (u' : Endpoint) → Change w.endpoint u' → Effect w false (settled (shape w.endpoint) u') (settle_bytes (shape w.endpoint) w.wire u')
  raises : (e : ℕ) → e < w.endpoint.function.events
      → Effect w false (settled (shape w.endpoint) (raised_by (shape w.endpoint) w.endpoint e).endpoint)
      ((raised_by (shape w.endpoint) w.endpoint e).bytes
      ++ settle_bytes (shape w.endpoint) w.wire (raised_by (shape w.endpoint) w.endpoint e).endpoint)
  withdraws : (v : ℕ) → v < vector_count (mode_now w.endpoint) (shape w.endpoint)
      → Effect w false (record { endpoint = withdrawn w.endpoint v; wire = w.wire }) []
  restarts : Effect w false (record { endpoint = reset_endpoint w.endpoint; wire = false })
      (wire_change w.endpoint.function.requester (registers w.endpoint) w.wire false)

-- below E, where row 2 passed
pub event-below : (u : Endpoint) (e : ℕ) (out : List ℕ) → first_of (rows u (event e out)) ≡ 0 → e < u.function.events
unfolding rows
event-below u e out p = leb-false u.function.events e (passed 2 [] refl p).0

-- one of the card's vectors, where row 2 passed
pub vector_below : (u : Endpoint) (v : ℕ) → first_of (rows u (withdraw v)) ≡ 0 → v < vector_count (mode_now u) (shape u)
unfolding rows withdraw_rows
vector_below u v p = leb-false (vector_count (mode_now u) (shape u)) v (passed 2 [] refl (passed 7 _ refl p).1).0

bar_table : (u : Endpoint) (b o : ℕ) (bs : List ℕ) → length (bar_written (shape u) (registers u) b o bs).table ≡ length u.table
bar_table u b o bs =
    cond_elim (λ (l : List ℕ). length l ≡ length u.table) (in_table (shape u) b o)
    (λ _. length-written entry_writable u.table (o - (shape u).msix.table.at) bs) (λ _. refl)

pub effect : (w : World) (c : Call) → Passed w c → Effect w (is_save c) (next w c) (sends w c)
unfolding next changed sends is_save
effect w (config_read o n) p = reads
effect w (config_write o n x out) p =
    settles _
    (record {
      ready = ready-config w.endpoint (is-sound w p.is_sound).endpoint o (bytes_of n x);
      config = length-written (writable (shape w.endpoint)) w.endpoint.function.config o (bytes_of n x);
      bytes = λ b. bytes-written (writable (shape w.endpoint)) w.endpoint.function.config o (bytes_of n x) b (bytes_of_lt n x);
      sizes = refl;
      table = refl;
      pending = refl;
    })
effect w (bar_read b o n) p = reads
effect w (bar_write b o n x out) p =
    settles _
    (record {
      ready = ready_bar w.endpoint (is-sound w p.is_sound).endpoint b o (bytes_of n x);
      config = refl;
      bytes = λ b. b;
      sizes = refl;
      table = bar_table w.endpoint b o (bytes_of n x);
      pending = refl;
    })
effect w (event e out) p = raises e (event-below w.endpoint e out p.own)
effect w (line level out) p =
    settles _
    (record {
      ready = ready-line w.endpoint (is-sound w p.is_sound).endpoint level;
      config = refl;
      bytes = λ b. b;
      sizes = refl;
      table = refl;
      pending = refl;
    })
effect w (reset out) p = restarts
effect w (save out) p = saves
effect w (withdraw v) p = withdraws v (vector_below w.endpoint v p.own)
