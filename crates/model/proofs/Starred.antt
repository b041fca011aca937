-- The bench cases of document 01 and of requests [6] and [3], and the cases for the errors that tempt, computed. Assumes nothing.
use lib.Dec.{T}
use Rattle.model.specs.Play.{all_pass}
use Rattle.model.specs.Cases.{starred_cases, limit_cases, data_cases, withdraw_cases, tempting_cases}
use Rattle.model.proofs.Definitions.{definitions}

-- cases 1 to 11, byte for byte
pub starred : T (all_pass starred_cases)
unfolding definitions
starred = tt

-- cases 12 and 13
pub limits : T (all_pass limit_cases)
unfolding definitions
limits = tt

-- cases 14 and 15
pub data32 : T (all_pass data_cases)
unfolding definitions
data32 = tt

-- case 16
pub withdrawing : T (all_pass withdraw_cases)
unfolding definitions
withdrawing = tt

-- the errors that tempt
pub tempting : T (all_pass tempting_cases)
unfolding definitions
tempting = tt
