-- `qdimacs_numbers::number_nodes` meets its contract. The invariant: the nodes below i have their variables.
-- Assumes nothing.
use native.Mathlib.Omega.{arith}
use mathlib.Core.Path.{◌≡◌}
use mathlib.Core.List.{[]}
use native.Mathlib.Numerals.{add-one}
use Rattle.formula.specs.Words.{node_count, table_of}
use Rattle.qdimacs_numbers.proofs.Numbers.{number_start}
use Rattle.qdimacs_numbers.proofs.number_nodes.Goals as goal

pub loop-i-init : goal.loop-i-init
loop-i-init c =
    record {
      bounds = (omega (arith, c.requires.nodes_bound), omega arith);
      numbered = number_start (table_of c.args.nodes.now []) c.args.first c.args.words.now;
    }

pub number_node-numbering-requires : goal.number_node-numbering-requires
number_node-numbering-requires c =
    record {
      accepted_within = c.requires.accepted_within;
      i_bound = (omega arith, omega arith);
      next_bound = c.loop-i.invariant.bounds;
    }

pub loop-i-preserved : goal.loop-i-preserved
loop-i-preserved c =
    let step = c.number_node-numbering.ensures in record {
      bounds = rw add-one step.next_bound_2;
      numbered = rw add-one (step.by_index c.args.first c.requires.nodes_bound.0 c.loop-i.invariant.numbered);
    }

pub returns : goal.returns
returns c =
    let l = c.loop-i in
    let all : l.i ≡ node_count c.args.nodes.now = omega arith in record {
      numbered_below = rw all at l.invariant.numbered;
      clauses_bound = omega (arith, l.invariant.bounds, c.requires.accepted_within.nodes_limit);
    }
