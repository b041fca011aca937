-- By the theorem, of a typed card. Assumes nothing.
use Rattle.model.proofs.RestoreResumes.{restore-resumes}
use Rattle.snapshot.proofs.typed.restore_resumes.Goals as goal

pub returns : goal.returns
returns c table pending = restore-resumes _ (c.card_typed.ensures table pending)
