-- `leading_blocks::flag_standing` meets its contract. The invariant: the nodes passed are flagged.
-- Assumes nothing.
use mathlib.Core.Path.{◌≡◌}
use native.Mathlib.Omega.{arith}
use Rattle.formula.specs.Words.{node_count}
use Rattle.leading_blocks.proofs.Flags.{flags_start, flags_end}
use Rattle.leading_blocks.proofs.flag_standing.Goals as goal

pub loop-i-init : goal.loop-i-init
loop-i-init c = flags_start c.args.words.now c.args.list.now _ c.requires.flags

pub flag_node-requires : goal.flag_node-requires
flag_node-requires c =
    record {
      list_value = c.requires.list_value;
      i_bound = c.loop-i-test.true;
      flags = c.loop-i.invariant;
    }

pub returns : goal.returns
returns c =
    let all : node_count c.args.words.now ≡ c.loop-i.i = omega arith in
    flags_end c.args.words.now c.args.list.now _ (rw all c.loop-i.invariant)
