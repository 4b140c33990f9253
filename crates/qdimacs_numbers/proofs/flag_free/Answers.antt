-- `qdimacs_numbers::flag_free` meets its contract. The invariant: the nodes below k are done.
-- Assumes nothing.
use native.Mathlib.Omega.{arith}
use mathlib.Core.Path.{◌≡◌}
use mathlib.Core.List.{[]}
use native.Mathlib.Numerals.{add-one}
use Rattle.formula.specs.Words.{node_count, table_of}
use Rattle.qdimacs_numbers.proofs.Flags.{flags_start}
use Rattle.qdimacs_numbers.proofs.flag_free.Goals as goal

pub loop-k-init : goal.loop-k-init
loop-k-init c = flags_start (table_of c.args.nodes.now []) c.args.names.now

pub flag_node-highest-requires : goal.flag_node-highest-requires
flag_node-highest-requires c =
    record {
      accepted_within = c.requires.accepted_within;
      i_bound = (omega arith, omega arith);
    }

pub loop-k-preserved : goal.loop-k-preserved
loop-k-preserved c = rw add-one (c.flag_node-highest.ensures c.args.names.now c.loop-k.invariant)

pub returns : goal.returns
returns c =
    let all : c.loop-k.k ≡ node_count c.args.nodes.now = omega arith in
    rw all at c.loop-k.invariant
