-- Each field fits its type. Assumes nothing.
use mathlib.Core.Path.{◌≡◌}
use Prim.Native.Nat.{ℕ, ◌^◌, ◌<◌}
use mir.Val.{Fits}
use mir.Syntax.{w8, w16, w32}
use lib.ListN.{length}
use Rattle.words.specs.Bytes.{byte, Bytes}
use Rattle.words.proofs.BytesLaws.{below-bytes}
use borrow.Author.Rules.{rules}
use Rattle.snapshot.proofs.typed.card_typed.Statement.{statement}
use Rattle.snapshot.proofs.typed.card_typed.Tie as tie

-- the configuration and the sizes
config-length : (c : tie.Start) → length c.args.card.function.config ≡ 256
config-length c = search rules

config-bytes : (c : tie.Start) → Bytes c.args.card.function.config
config-bytes c i = let b : Fits w8 (byte c.args.card.function.config i) = search rules in b.fits

sizes-length : (c : tie.Start) → length c.args.card.function.sizes ≡ 6
sizes-length c = search rules

sizes-small : (c : tie.Start) (i : ℕ) → byte c.args.card.function.sizes i < 256 ^ 4
sizes-small c i = let b : Fits w32 (byte c.args.card.function.sizes i) = search rules in b.fits

-- the numbers
events-small : (c : tie.Start) → c.args.card.function.events < 256 ^ 2
events-small c = let b : Fits w16 c.args.card.function.events = search rules in b.fits

requester-small : (c : tie.Start) → c.args.card.function.requester < 256 ^ 2
requester-small c = let b : Fits w16 c.args.card.function.requester = search rules in b.fits

waiting-small : (c : tie.Start) → c.args.card.function.waiting < 256 ^ 4
waiting-small c = let b : Fits w32 c.args.card.function.waiting = search rules in b.fits

returns : tie.Need-returns
returns c table pending = record {
  arrays =
      record {
        config = config-length c;
        bytes = config-bytes c;
        sizes = sizes-length c;
        small = below-bytes c.args.card.function.sizes (sizes-small c);
      };
  events = events-small c;
  requester = requester-small c;
  waiting = waiting-small c;
}

pub card_typed_spec : {M : Type 1} → statement M
card_typed_spec = tie.close (tie.spec returns)
