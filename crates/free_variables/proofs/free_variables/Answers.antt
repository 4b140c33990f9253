-- `free_variables::free_variables` meets its contract: the verdict hands on a refusal, or says that the table is accepted.
-- Assumes nothing.
use mathlib.Core.Path.{◌∙◌, ap}
use native.Mathlib.Omega.{arith}
use Rattle.acceptance.proofs.Accepted.{number_zero}
use Rattle.free_variables.proofs.Listing.{listed_refused, listed_accepted}
use Rattle.free_variables.proofs.free_variables.Goals as goal

pub returns-then-verdict-ne-ACCEPTED : goal.returns-then-verdict-ne-ACCEPTED
returns-then-verdict-ne-ACCEPTED c = record { outcome = listed_refused _ _ _ _ c.check-verdict.ensures.verdict (λ z. omega arith) }

pub list_accepted-requires : goal.list_accepted-requires
list_accepted-requires c =
    let a = c.args in
    let n = ap (λ v. v.number) c.check-verdict.ensures.verdict in
    number_zero a.words.now a.list.now (omega arith)

pub returns : goal.returns
returns c =
    let a = c.args in
    let n = ap (λ v. v.number) c.check-verdict.ensures.verdict in record { outcome = c.list_accepted.ensures ∙ listed_accepted a.words.now a.list.now a.names.now (omega arith) }
