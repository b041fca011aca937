-- 6, or the image. Assumes nothing.
use mathlib.Core.Path.{◌≡◌}
use lib.ListN.{length}
use Rattle.snapshot.proofs.SaveFor.{size_fits, output-fits, save-short, save-accepted}
use borrow.Author.Rules.{rules}
use Rattle.snapshot.proofs.save.save_core.Statement.{statement}
use Rattle.snapshot.proofs.save.save_core.Tie as tie

-- the arrays of the card have as many elements as their types say
sizes : (c : tie.Start) → length c.args.card.function.sizes ≡ 6
sizes c = search rules

bytes : (c : tie.Start) → length c.args.card.function.config ≡ 256
bytes c = search rules

-- the image's layout and length are known
module _ (c : tie.After-len-size) where
  abbrev at_new : tie.After-new
  at_new = c.before

  abbrev start : tie.Start
  start = c.before.before.before.before.before

len-requires : tie.Need-len-size-requires
len-requires c κs =
    size_fits _ _ _ _ c.new.ensures _ c.requires

returns : tie.Need-returns-then-out-size
returns c =
    save-short _ _ _ _ c.new.ensures _ c.len-size.ensures _ (sizes (start c.before.before)) (bytes (start c.before.before)) _ c.if-out-size.true
    c.refuse.ensures

put-image-requires : tie.Need-put_image-n-requires
put-image-requires c κs =
    let a = c.args in
    output-fits a.card a.table.now a.pending.now _ c.new.ensures _ c.len-size.ensures a.out.now c.if-out-size.false

returns-2 : tie.Need-returns
returns-2 c =
    save-accepted _ _ _ _ c.new.ensures _ c.len-size.ensures _ (sizes (start c.before.before.before.before.before.before)) (bytes (start c.before.before.before.before.before.before)) _ _ _ c.if-out-size.false
    c.put_image-n.ensures c.accepted.ensures

pub save_core_spec : {M : Type 1} → statement M
save_core_spec =
    tie.close
    (tie.spec
    (λ c κs. search rules)
    len-requires
    (λ c κs. search rules)
    returns
    put-image-requires
    (λ c κs. search rules) (λ c. search rules)
    returns-2)
