-- The checks of a restore in their order, one law for each refusal; then told of the card. Assumes nothing.
use mathlib.Core.Path.{refl, ap, ◌∙◌}
use Rattle.std.proofs.lemmas.Bool.{not_from_false, not_from_true}
use Rattle.model.specs.declared.Card.{Card}
use Rattle.model.specs.Shape.{shape_of, table_bytes}
use Rattle.model.specs.declared.refusal.Refusal.TheVariants.{Mark, Version, Image}
use Rattle.snapshot.proofs.RestoreFor.{no_image, no_mark, other_version, is-image, not_saved, passed}
use Rattle.capi_query.proofs.LengthsFor.{image_refused, image-told}
use Rattle.capi_query.proofs.lengths.image_lengths.Goals as goal

pub returns-then-image-lt-TABLE : goal.returns-then-image-lt-TABLE
returns-then-image-lt-TABLE c = image_refused _ Mark (no_image _ c.if-image-lt-TABLE.true)

pub returns-then-not-is_marked : goal.returns-then-not-is_marked
returns-then-not-is_marked c =
    image_refused _ Mark (no_mark _ c.if-image-lt-TABLE.false _ c.is_marked.ensures (not_from_false _ c.if-not-is_marked.true))

pub returns-then-version-ne-VERSION : goal.returns-then-version-ne-VERSION
returns-then-version-ne-VERSION c =
    image_refused _ Version
    (other_version _ c.if-image-lt-TABLE.false _ c.is_marked.ensures (not_from_true _ c.if-not-is_marked.false) _ c.version.ensures c.if-version-ne-VERSION.true)

pub is_saved-requires : goal.is_saved-requires
is_saved-requires c =
    let e = is-image _ c.if-image-lt-TABLE.false _ c.is_marked.ensures (not_from_true _ c.if-not-is_marked.false) _ c.version.ensures c.if-version-ne-VERSION.false in
    (c.if-image-lt-TABLE.false, e.0, e.1, c.held_card-held.ensures, c.table_length-n.ensures.0, c.table_length-n.ensures.1)

pub returns-then-not-is_saved : goal.returns-then-not-is_saved
returns-then-not-is_saved c =
    let e = is-image _ c.if-image-lt-TABLE.false _ c.is_marked.ensures (not_from_true _ c.if-not-is_marked.false) _ c.version.ensures c.if-version-ne-VERSION.false in
    image_refused _ Image (not_saved _ c.if-image-lt-TABLE.false e _ c.is_saved.ensures (not_from_false _ c.if-not-is_saved.true))

pub held_lengths-requires : goal.held_lengths-requires
held_lengths-requires c = c.if-image-lt-TABLE.false

pub returns : goal.returns
returns c =
    let long = c.if-image-lt-TABLE.false in
    let e = is-image _ long _ c.is_marked.ensures (not_from_true _ c.if-not-is_marked.false) _ c.version.ensures c.if-version-ne-VERSION.false in
    let n = c.table_length-n.ensures.0 ∙ ap (λ (k : Card). table_bytes (shape_of k.function.config)) c.held_card-held.ensures in
    image-told _ _ _ (passed _ long e _ c.is_saved.ensures (not_from_true _ c.if-not-is_saved.false) _ _ refl n) _ c.held_lengths.ensures
