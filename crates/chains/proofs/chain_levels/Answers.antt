-- `chains::chain_levels` meets its contract. The loop's invariant: the pass has done the nodes from i up.
-- Assumes nothing.
use mathlib.Core.Path.{◌≡◌, subst}
use Prim.Native.Nat.{◌+◌, ◌-◌, ◌<◌}
use native.Mathlib.Omega.{arith}
use Rattle.formula.specs.Words.{node_count, table_of}
use Rattle.arrays.proofs.Nodes.{accepted_tree}
use Rattle.chains.specs.Chaining.{LevelsFrom}
use Rattle.chains.proofs.Chaining.{levels_none, levels_done}
use Rattle.chains.proofs.chain_levels.Goals.{Start}
use Rattle.chains.proofs.chain_levels.Goals as goal

some_node_lem : (c : Start) → 0 < node_count c.args.words.now
unfolding table_of
some_node_lem c = (accepted_tree c.args.words.now c.args.list.now c.requires.list_value).nonempty

pub overflow_step-i : goal.overflow_step-i
overflow_step-i c = omega (arith, some_node_lem (goal.at.overflow_step-i c).Start)

pub loop-i-init : goal.loop-i-init
loop-i-init c =
    let n = some_node_lem (goal.at.loop-i-init c).Start in
    levels_none c.args.words.now c.args.list.now _ _ _ (omega arith) c.requires.cleared

pub chain_level-requires-clause-levels_from : goal.chain_level-requires-clause-levels_from
chain_level-requires-clause-levels_from c =
    let l = c.loop-i in
    let e : l.i ≡ l.i - 1 + 1 = omega arith in
    subst (λ k. LevelsFrom (table_of c.args.words.now c.args.list.now) k l.firsts l.nexts) e l.invariant

pub returns : goal.returns
returns c =
    levels_done c.args.words.now c.args.list.now _ _ _ (omega (arith, c.loop-i-test.false)) c.loop-i.invariant
