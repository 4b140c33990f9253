-- `binders::find_binders` meets its contract: it walks with empty chains, of which each number has one.
-- Assumes nothing.
use native.Mathlib.Omega.{arith}
use Rattle.formula.specs.Words.{table_of}
use Rattle.acceptance.proofs.Accepted.{accepted_holds}
use Rattle.prenex_form.proofs.Limits.{highest_limit}
use Rattle.binders.proofs.Outside.{open_outside}
use Rattle.binders.proofs.find_binders.Goals as goal

pub walk-requires : goal.walk-requires
unfolding table_of
walk-requires c =
    let a = accepted_holds _ _ c.args.scopes.now.held.accepts in record {
      bindings_len = c.requires.bindings_len;
      fact = open_outside (table_of c.args.scopes.now.words.now c.args.scopes.now.list.now) a.proper.tree 4096 (omega (arith, c.requires.highest_value, c.if-highest-lt-FEW_NUMBERS.true));
    }

pub walk-requires-2 : goal.walk-requires-2
unfolding table_of
walk-requires-2 c =
    let a = accepted_holds _ _ c.args.scopes.now.held.accepts in record {
      bindings_len = c.requires.bindings_len;
      fact = open_outside (table_of c.args.scopes.now.words.now c.args.scopes.now.list.now) a.proper.tree 65536 (omega (arith, highest_limit _ _ a));
    }
