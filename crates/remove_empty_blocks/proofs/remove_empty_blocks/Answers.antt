-- `remove_empty_blocks::remove_empty_blocks` meets its contract: the verdict hands on a refusal, or says that the table is accepted.
-- Assumes nothing.
use mathlib.Core.Path.{◌∙◌, ap}
use native.Mathlib.Omega.{arith}
use Rattle.remove_empty_blocks.proofs.Outcome.{removed_refused, removed_accepted, small, table_left}
use Rattle.remove_empty_blocks.proofs.remove_empty_blocks.Goals as goal

pub returns-then-verdict-ne-ACCEPTED : goal.returns-then-verdict-ne-ACCEPTED
returns-then-verdict-ne-ACCEPTED c =
    let o = removed_refused _ _ _ _ c.check_stored-verdict.ensures.verdict (λ z. omega arith) in record {
      outcome = o;
      table = table_left _ _ _ _ o;
    }

pub store_left-requires : goal.store_left-requires
store_left-requires c =
    let a = c.args in
    let n = ap (λ v. v.number) c.check_stored-verdict.ensures.verdict in
    small a.words.now a.list.now (omega arith)

pub returns : goal.returns
returns c =
    let a = c.args in
    let n = ap (λ v. v.number) c.check_stored-verdict.ensures.verdict in
    let o = c.store_left.ensures ∙ removed_accepted a.words.now a.list.now a.nodes.now (omega arith) in record {
      outcome = o;
      table = table_left _ _ _ _ o;
    }
