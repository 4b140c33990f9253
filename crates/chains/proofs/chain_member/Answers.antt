-- `chains::chain_member` meets its contract. The step is the law `member_chained`.
-- Assumes nothing.
use native.Mathlib.Omega.{arith}
use Rattle.arrays.proofs.Nodes.{nodes_few}
use Rattle.chains.proofs.Chaining.{parent_small, member_chained}
use Rattle.chains.proofs.chain_member.Goals as goal

pub bounds-parents-i : goal.bounds-parents-i
bounds-parents-i c = omega (arith, nodes_few c.args.words.now c.args.list.now c.requires.list_value)

pub overflow_cast-block : goal.overflow_cast-block
overflow_cast-block c = omega (arith, parent_small c.args.words.now c.args.list.now c.requires.list_value c.args.i c.requires.i_bound.0 _ c.requires.parents)

pub put_first-requires : goal.put_first-requires
put_first-requires c =
    let p = parent_small c.args.words.now c.args.list.now c.requires.list_value c.args.i c.requires.i_bound.0 _ c.requires.parents in
    let n = nodes_few c.args.words.now c.args.list.now c.requires.list_value in
    (omega (arith, p, c.requires.parents_len.1), omega (arith, n, c.requires.parents_len.2), omega (arith, n))

pub returns : goal.returns
returns c =
    let f = c.put_first.ensures in
    member_chained c.args.words.now c.args.list.now c.requires.list_value c.args.i c.requires.i_bound.0 _ c.requires.parents _ _ _ _ c.requires.i_bound.1 c.requires.parents_len.1 c.requires.parents_len.2 c.requires.members_from f.firsts_after f.nexts_after
