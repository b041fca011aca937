-- By the theorems, of bytes and of 32-bit numbers. Assumes nothing.
use Rattle.capi.proofs.HostHistory.{host-history, host-still}
use Rattle.capi.proofs.hosts.host_history.Goals as goal

pub returns : goal.returns
returns c =
    let bytes = c.lent_bytes.ensures in
    let words = c.lent_words.ensures in
    record {
      remembers =
          (bytes.0, λ card table pending events requester. host-history card table pending _ _ events requester bytes.1 words.1);
      still = λ card table pending events requester. host-still card table pending _ _ events requester bytes.1 words.1;
    }
