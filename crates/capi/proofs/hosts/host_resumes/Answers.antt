-- By the theorem, of bytes. Assumes nothing.
use Rattle.capi.proofs.HostResumes.{host-resumes}
use Rattle.capi.proofs.hosts.host_resumes.Goals as goal

pub returns : goal.returns
returns c =
    let bytes = c.lent_bytes.ensures in
    (bytes.0, λ table pending. host-resumes _ table pending bytes.1)
