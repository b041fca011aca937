-- Whether the bytes are a saved image: wrong flags, too short, or what the check word says. Assumes nothing.
use Rattle.snapshot.proofs.RestoreFor.{wrong-flags, too_short, by-check}
use Rattle.std.proofs.lemmas.Bool.{not_from_false, not_from_true}
use mathlib.Core.Path.{◌∙◌}
use Rattle.card.proofs.SoundFor.{check-sound}
use Rattle.snapshot.proofs.held.is_saved.Goals as goal

pub returns-then-not-flags_clean : goal.returns-then-not-flags_clean
returns-then-not-flags_clean c =
    wrong-flags _ (λ i. (c.shared_slice_known-1.given i).fits) c.requires.0 c.requires.1 c.requires.2 _ c.flags_clean.ensures (not_from_false _ c.if-not-flags_clean.true)

pub returns-then-image-middle : goal.returns-then-image-middle
returns-then-image-middle c =
    too_short _ (λ i. (c.shared_slice_known-1.given i).fits) c.requires.0 c.requires.1 c.requires.2 _ c.flags_clean.ensures (not_from_true _ c.if-not-flags_clean.false) _ _ c.requires.3 c.requires.4 c.if-image-middle.true

pub returns : goal.returns
returns c =
    by-check _ (λ i. (c.shared_slice_known-1.given i).fits) c.requires.0 c.requires.1 c.requires.2 _ c.flags_clean.ensures (not_from_true _ c.if-not-flags_clean.false) _ _ c.requires.3 c.requires.4 _ c.if-image-middle.false (c.is_some.ensures ∙ check-sound _ _ _ _ c.check.ensures)
