-- `free_variables::list_unbound` meets its contract: there is a flag for each number of the table, and none is set.
-- Assumes nothing.
use native.Mathlib.Omega.{arith}
use Rattle.formula.specs.Words.{table_of}
use Rattle.acceptance.proofs.Accepted.{accepted_holds}
use Rattle.prenex_form.proofs.Limits.{highest_limit}
use Rattle.free_variables.proofs.Flags.{flags_none}
use Rattle.free_variables.proofs.list_unbound.Goals as goal

pub list_flagged-requires : goal.list_flagged-requires
list_flagged-requires c =
    record {
      list_value = c.requires.list_value;
      bound = c.requires.bound;
      clear = flags_none (table_of c.args.words.now c.args.list.now) 4096 (omega (arith, c.requires.highest_value)) (omega arith);
    }

pub list_flagged-requires-2 : goal.list_flagged-requires-2
list_flagged-requires-2 c =
    let h = highest_limit c.args.words.now c.args.list.now (accepted_holds c.args.words.now c.args.list.now c.requires.list_value) in record {
      list_value = c.requires.list_value;
      bound = c.requires.bound;
      clear = flags_none (table_of c.args.words.now c.args.list.now) 65536 (omega (arith, h)) (omega arith);
    }
