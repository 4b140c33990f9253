-- `qdimacs_clauses::put_gates` meets its contract. The invariant: the lines of the nodes below i are put, 104 bytes each at most.
-- Assumes nothing.
use mathlib.Core.Path.{◌≡◌, sym, ap}
use mathlib.Core.List.{[]}
use Prim.Native.Nat.{◌-◌}
use native.Mathlib.Omega.{arith}
use Rattle.formula.specs.Words.{node_count, table_of}
use Rattle.qdimacs_words.proofs.Loose.{loose_as}
use Rattle.qdimacs_clauses.specs.Held.{lines_below}
use Rattle.qdimacs_clauses.proofs.Gates.{below_none, below_next}
use Rattle.qdimacs_clauses.proofs.put_gates.Goals as goal

pub overflow_sub-last : goal.overflow_sub-last
unfolding table_of
overflow_sub-last c = omega (arith, c.requires.accepted_within.proper.tree.nonempty)

pub loop-i-init : goal.loop-i-init
loop-i-init c = record { bound = omega arith; put = λ held. below_none _ _ }

pub put_gate-next-requires : goal.put_gate-next-requires
put_gate-next-requires c =
    record {
      accepted_within = c.requires.accepted_within;
      words_held = c.requires.words_held;
      i_bound = (omega arith, λ k. omega arith, omega (arith, c.requires.accepted_within.nodes_limit));
    }

pub loop-i-preserved : goal.loop-i-preserved
loop-i-preserved c =
    record {
      bound = omega arith;
      put = λ held. below_next _ _ c.loop-i.i (c.loop-i.invariant.put held) (c.put_gate-next.ensures.loose held);
    }

pub returns : goal.returns
returns c =
    let l = c.loop-i in
    let e : l.i ≡ node_count c.args.nodes.now - 1 = omega arith in record {
      loose = λ held. loose_as (ap (lines_below (table_of c.args.nodes.now []) held.variables) (sym e)) (l.invariant.put held);
      upper_bound = omega arith;
    }
