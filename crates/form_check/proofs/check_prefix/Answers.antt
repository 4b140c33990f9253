-- `form_check::check_prefix` meets its contract: each return is one of the answers of `prefix_verdict`.
-- Assumes nothing.
use mathlib.Core.Bool.{not}
use mathlib.Core.Path.{ap}
use borrow.Author.Tests.{eq-eqb, ne_eqb}
use Rattle.form_check.proofs.Flags.{prefix_ragged, prefix_bad, prefix_passed, prefix_flagged}
use Rattle.form_check.proofs.check_prefix.Goals as goal

pub returns-then-prefix-ne0-clause-verdict : goal.returns-then-prefix-ne0-clause-verdict
returns-then-prefix-ne0-clause-verdict c = prefix_ragged _ _ (ap not (ne_eqb _ _ c.if-prefix-ne0.true))

pub returns-in-Some-clause-verdict : goal.returns-in-Some-clause-verdict
returns-in-Some-clause-verdict c =
    prefix_bad _ _ (ap not (eq-eqb _ _ c.if-prefix-ne0.false)) _ c.in-Some.ensures.0 c.in-Some.ensures.1

pub returns-in-None : goal.returns-in-None
returns-in-None c =
    record {
      verdict = prefix_passed _ _ (ap not (eq-eqb _ _ c.if-prefix-ne0.false)) c.in-None.ensures.0;
      names_flagged = prefix_flagged _ _ _ _ c.in-None.ensures.1;
    }
