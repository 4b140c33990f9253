-- `remove_empty_blocks::store_left` meets its contract: too little room, or all nodes that are left written.
-- Assumes nothing.
use mathlib.Core.Path.{sym, ◌∙◌}
use native.Mathlib.Omega.{arith}
use Rattle.formula.specs.Words.{node_count}
use Rattle.empty_blocks.proofs.Left.{left_count}
use Rattle.remove_empty_blocks.proofs.Left.{left_le}
use Rattle.remove_empty_blocks.proofs.Outcome.{storing_short, storing_done, whole_left}
use Rattle.remove_empty_blocks.proofs.store_left.Goals as goal

pub overflow_mul-left : goal.overflow_mul-left
overflow_mul-left c =
    let ws = c.args.words.now in
    omega (arith, c.count_left-left.ensures, left_le ws (node_count ws), c.requires.few)

pub returns-then-nodes-left : goal.returns-then-nodes-left
returns-then-nodes-left c =
    let ws = c.args.words.now in
    storing_short _ _ _ c.refusal-verdict.ensures
    (omega (arith, whole_left ws, left_count ws, left_le ws (node_count ws), c.count_left-left.ensures, c.requires.few, c.if-nodes-left.true))

pub overflow_cast-count : goal.overflow_cast-count
overflow_cast-count c =
    let ws = c.args.words.now in
    omega (arith, c.count_left-left.ensures, left_le ws (node_count ws), c.requires.few)

pub write_left-requires : goal.write_left-requires
write_left-requires c =
    let ws = c.args.words.now in record {
      small_table = c.requires;
      words_in_bounds = omega (arith, c.count_left-left.ensures, left_le ws (node_count ws), c.requires.few, c.if-nodes-left.false);
    }

pub returns : goal.returns
returns c =
    let ws = c.args.words.now in
    let n = c.count_left-left.ensures in
    storing_done _ _ _ c.accepted-verdict.ensures (omega (arith, whole_left ws, left_count ws, left_le ws (node_count ws), n, c.requires.few, c.if-nodes-left.false)) _ (n ∙ sym (left_count ws)) _
    c.write_left.ensures
