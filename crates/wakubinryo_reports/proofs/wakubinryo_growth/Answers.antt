-- `wakubinryo_reports::wakubinryo_growth` meets its contract.
-- Assumes nothing.
use mathlib.Core.Path.{sym, ◌∙◌, subst}
use Rattle.refusals.specs.Verdict.{Plain}
use Rattle.refusals.specs.Outcome.{AnswerWith}
use Rattle.growth.specs.declared.Totals.{Totals}
use Rattle.wakubinryo_reports.proofs.Plain.{totals_plain}
use Rattle.wakubinryo_reports.proofs.wakubinryo_growth.Goals as goal

pub put_totals-requires : goal.put_totals-requires
put_totals-requires c = subst (λ (a : AnswerWith Totals). Plain a.verdict) (sym c.total.ensures) (totals_plain _)

pub returns : goal.returns
returns c = c.put_totals.ensures ∙ c.total.ensures
