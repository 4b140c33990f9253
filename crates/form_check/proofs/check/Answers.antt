-- `form_check::check` meets its contract: the verdict on the matrix where it refuses, else that on the prefix, whose names are then flagged.
-- Assumes nothing.
use mathlib.Core.Path.{◌∙◌}
use Rattle.form_check.specs.Verdict.{form_limits}
use Rattle.form_check.proofs.Order.{form_refused, form_passed}
use Rattle.form_check.proofs.Flags.{flagged_none, passed_bind, passed_highest}
use Rattle.form_check.proofs.check.Goals as goal

pub returns-in-Err-clause-verdict : goal.returns-in-Err-clause-verdict
returns-in-Err-clause-verdict c = form_refused form_limits _ _ _ _ c.in-Err.ensures.0 c.in-Err.ensures.1

pub check_prefix-requires : goal.check_prefix-requires
check_prefix-requires c = flagged_none _ c.requires.bound_len c.requires.by_index

pub returns : goal.returns
returns c =
    let r = c.check_prefix.ensures in record {
      verdict = r.verdict ∙ form_passed form_limits _ _ _ c.in_default.ensures;
      bound = passed_bind c.args.prefix.now c.args.variables.now c.check_prefix.new.bound c.check_prefix.result r.names_flagged;
      highest = passed_highest c.args.prefix.now c.args.variables.now c.check_prefix.new.bound c.check_prefix.result r.names_flagged;
    }
