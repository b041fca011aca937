use Rattle.words.proofs.BitLaws.{flag_number, flag_small}
use Rattle.capi_switch.proofs.bytes.flag.Goals as goal

pub returns : goal.returns
returns c = (flag_number _, flag_small c.args.active)
