-- `qdimacs_clauses::put_root` meets its contract: what stands in the buffer of its own is put exactly.
-- Assumes nothing.
use mathlib.Core.Path.{◌≡◌}
use mathlib.Core.List.{[]}
use Prim.Native.Nat.{◌-◌}
use native.Mathlib.Omega.{arith}
use lib.ListN.{length, length-take}
use Rattle.formula.specs.Words.{node_count, table_of}
use Rattle.qdimacs_clauses.proofs.Nodes.{word_at, some_word}
use Rattle.qdimacs_clauses.proofs.Gates.{root_put}
use Rattle.qdimacs_clauses.proofs.put_root.Goals as goal

pub overflow_sub-root : goal.overflow_sub-root
unfolding table_of
overflow_sub-root c = omega (arith, c.requires.accepted_within.proper.tree.nonempty)

pub put_root_gate-gate-requires : goal.put_root_gate-gate-requires
unfolding table_of
put_root_gate-gate-requires c =
    record {
      accepted_within = c.requires.accepted_within;
      words_held = c.requires.words_held;
      root_value = omega (arith, c.requires.accepted_within.proper.tree.nonempty);
    }

pub put_no_operand-end-requires : goal.put_no_operand-end-requires
unfolding table_of
put_no_operand-end-requires c = (some_word c.args.nodes.now c.args.words.now c.requires.words_held _ (omega (arith, c.requires.accepted_within.proper.tree.nonempty)), omega (arith, c.put_root_gate-gate.ensures.upper_bound))

pub slice_bounds-put_word-end : goal.slice_bounds-put_word-end
slice_bounds-put_word-end c =
    let whole : length c.put_no_operand-end.new.text ≡ 160 = omega arith in
    simp length-take (omega arith)

pub put_word-requires : goal.put_word-requires
put_word-requires c = (omega arith, simp length-take (omega arith))

pub returns : goal.returns
unfolding table_of
returns c =
    let root = node_count c.args.nodes.now - 1 in
    λ held. root_put (table_of c.args.nodes.now []) held.variables (c.put_root_gate-gate.ensures.loose held)
    (c.put_no_operand-end.ensures.by_index (held.variables root)
    (word_at c.args.nodes.now c.args.words.now held root (omega (arith, c.requires.accepted_within.proper.tree.nonempty))))
    (omega arith)
    c.put_word.ensures
