-- The verdict in steps: what the functions of the checker decide, one definition each. The public contract cites none of them.
-- Assumes nothing.
use Rattle.std.specs.Prelude.{Bool, not, ◌&&◌, List, ℕ, eqb, ltb, length}
use Rattle.lists.specs.Choice.{pick}
use Rattle.lists.specs.Search.{lowest}
use Rattle.formula.specs.Words.{node_count}
use Rattle.formula.specs.declared.NodeWords.{NodeWords}
use Rattle.refusals.specs.Verdict.{refusal, accepted}
use Rattle.refusals.specs.declared.Verdict.{Verdict}
use Rattle.acceptance.specs.Limits.{TableLimits, table_limits}
use Rattle.acceptance.specs.Verdict.{well_formed, forward_reference, node_fault}
use Rattle.range_check.specs.Chains.{good_range}
use Rattle.block_check.specs.Fault.{block_fault}

-- The first of refusals 3 and 4 that applies to node i with these words, 0 if neither does.
unfoldable pub words_fault : ℕ → NodeWords → ℕ
words_fault i w =
    pick (not (well_formed table_limits w)) 3
    (pick (forward_reference i w) 4
    0)

-- The first of refusals 4, 5, 16, 6 and 7 that applies to a block at node i.
unfoldable pub block_node_fault : List ℕ → ℕ → ℕ → NodeWords → ℕ
block_node_fault ls i before w =
    let fault = block_fault (length ls) i before w in
    pick (eqb fault 0) (pick (not (good_range ls w.a w.b)) 7 0) fault

-- Whether a node's fault, found as in a table without empty blocks, refuses a table with such blocks or without.
abbrev pub refuses : Bool → ℕ → Bool
refuses empty fault = not (eqb fault 0) && not (empty && eqb fault 16)

-- Refusals 3 to 7 and 16: of the lowest node that one applies to.
unfoldable pub nodes_verdict : TableLimits → List ℕ → List ℕ → Verdict
nodes_verdict lim ws ls =
    let n = node_count ws in
    let i = lowest (λ i. not (eqb (node_fault lim ws ls i) 0)) n in
    pick (ltb i n) (refusal (node_fault lim ws ls i) i) accepted
