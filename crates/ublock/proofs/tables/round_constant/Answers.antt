use Rattle.ublock.proofs.TableRules.{constants_from_shift_register}
use Rattle.ublock.proofs.tables.round_constant.Goals as goal

pub returns-clause-rule : goal.returns-clause-rule
returns-clause-rule c = constants_from_shift_register
