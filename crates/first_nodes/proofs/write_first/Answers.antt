-- `first_nodes::write_first` meets its contract. The loop's invariant: the first i nodes are written, and the inner blocks among
-- them have their definition variables. A turn writes the node's words by its kind, and takes a name where it is a block.
-- Assumes nothing.
use mathlib.Core.Path.{◌≡◌, ◌∙◌}
use Prim.Native.Nat.{◌<◌}
use native.Mathlib.Omega.{arith}
use native.Mathlib.Numerals.{add-one}
use Rattle.formula.specs.Words.{node_count, table_of}
use Rattle.acceptance.specs.Accepted.{Accepted}
use Rattle.acceptance.proofs.Accepted.{accepted_holds}
use Rattle.prenex_form.specs.Matrix.{kept}
use Rattle.first_nodes.proofs.Defined.{defined_none, defined_all, name_left, named_none, is_definition_lem, named_next}
use Rattle.first_nodes.proofs.Renamed.{write_none, write_next, write_all, kept_lt, kept_node, written, is_inner, not_inner, variable_is, variable_form, block_form, copy_form}
use Rattle.first_nodes.proofs.write_first.Goals.{
  Start,
  In-loop-i,
  then-node-eq-VARIABLE,
  else-node-eq-VARIABLE+then-node-ge-EXISTS_BLOCK,
  else-node-eq-VARIABLE+else-node-ge-EXISTS_BLOCK,
}
use Rattle.first_nodes.proofs.write_first.Goals as goal

-- the table is accepted, and node i is kept
accepted-table : (c : Start) → Accepted c.args.renaming.now.words.now c.args.renaming.now.list.now
accepted-table c = accepted_holds _ _ c.args.renaming.now.given.accepts

is_kept : (c : In-loop-i) → c.loop-i.i < kept (table_of c.args.renaming.now.words.now c.args.renaming.now.list.now)
is_kept c = omega arith

node_in : (c : In-loop-i) → c.loop-i.i < node_count c.args.renaming.now.words.now
node_in c = kept_node _ _ (accepted_holds _ _ c.args.renaming.now.given.accepts) _ (is_kept c)

pub loop-i-init : goal.loop-i-init
loop-i-init c = (write_none _ _, c.requires.counted, defined_none _ _)

pub node_at-node-requires : goal.node_at-node-requires
node_at-node-requires c =
    omega (arith, (accepted-table (goal.at.node_at-node-requires c).Start).whole, node_in (goal.at.node_at-node-requires c).In-loop-i)

pub new_name-name-requires-clause-i_bound_1 : goal.new_name-name-requires-clause-i_bound_1
new_name-name-requires-clause-i_bound_1 c = node_in (goal.at.new_name-name-requires-clause-i_bound_1 c).In-loop-i

pub new_name-name-requires-clause-i_bound_2 : goal.new_name-name-requires-clause-i_bound_2
new_name-name-requires-clause-i_bound_2 c =
    let at = goal.at.new_name-name-requires-clause-i_bound_2 c in
    variable_is _ _ (accepted-table at.Start) _ (is_kept at.In-loop-i) c.node_at-node.ensures c.if-node-eq-VARIABLE.true

pub take-handed-requires : goal.take-handed-requires
take-handed-requires c =
    let at = goal.at.take-handed-requires c in
    name_left _ _ _ c.loop-i.invariant.1 (accepted-table at.Start) (kept_lt _ _ (is_kept at.In-loop-i))

pub bounds-definitions-i : goal.bounds-definitions-i
bounds-definitions-i c =
    let at = goal.at.bounds-definitions-i c in
    omega (arith, (accepted-table at.Start).nodes_limit, node_in at.In-loop-i, c.loop-i.invariant.1.definitions_length)

pub loop-i-preserved : goal.loop-i-preserved
unfolding table_of
loop-i-preserved c =
    let at = goal.at.loop-i-preserved c in
    let d = accepted-table at.Start in
    let h = is_kept at.In-loop-i in
    let inv = c.loop-i.invariant in
    let read = c.node_at-node.ensures in
    elim c.if-node-eq-VARIABLE.branch [
      | then-node-eq-VARIABLE w ↦
          let form = variable_form _ _ d _ h read w.if-node-eq-VARIABLE.true _ w.new_name-name.ensures in
          let n = named_none _ _ _ inv.1 inv.2 (not_inner _ _ d _ h read (omega (arith, w.if-node-eq-VARIABLE.true))) in
          rw (w.nodes-is, w.definitions-is, w.counter-is) (
            write_next _ _ _ _ _ inv.0 (written _ _ d _ h (w.variable_node.ensures ∙ form) _ _ w.put_node.ensures) (omega arith),
            rw add-one n.0,
            rw add-one n.1,
          )
      | else-node-eq-VARIABLE+then-node-ge-EXISTS_BLOCK w ↦
          let taken = w.take-handed.ensures in
          let block = w.if-node-ge-EXISTS_BLOCK.true in
          let form = block_form _ _ d _ h read block _ (is_definition_lem _ _ _ inv.1 _ taken.0) in
          let n = named_next _ _ _ inv.1 _ taken.0 d (kept_lt _ _ h) inv.2 (is_inner _ _ d _ h read block) taken.1 in
          rw (w.nodes-is, w.definitions-is, w.counter-is) (
            write_next _ _ _ _ _ inv.0 (written _ _ d _ h (w.variable_node-then-node-ge-EXISTS_BLOCK.ensures ∙ form) _ _ w.put_node-then-node-ge-EXISTS_BLOCK.ensures) (omega arith),
            rw add-one n.0,
            rw add-one n.1,
          )
      | else-node-eq-VARIABLE+else-node-ge-EXISTS_BLOCK w ↦
          let n = named_none _ _ _ inv.1 inv.2 (not_inner _ _ d _ h read w.if-node-ge-EXISTS_BLOCK.false) in
          rw (w.nodes-is, w.definitions-is, w.counter-is) (
            write_next _ _ _ _ _ inv.0 (written _ _ d _ h (copy_form _ _ d _ h read w.if-node-eq-VARIABLE.false w.if-node-ge-EXISTS_BLOCK.false) _ _ w.put_node-else-node-ge-EXISTS_BLOCK.ensures) (omega arith),
            rw add-one n.0,
            rw add-one n.1,
          )
    ]

pub returns : goal.returns
returns c =
    let p = c.requires in
    let inv = c.loop-i.invariant in
    let e : c.loop-i.i ≡ kept (table_of c.args.renaming.now.words.now c.args.renaming.now.list.now) = omega arith in record {
      nodes_after = write_all _ _ _ _ inv.0 e;
      definitions = defined_all _ (rw e at inv.2);
    }
