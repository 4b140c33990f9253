-- `lift_text::lift_table_in` meets its contract.
-- Assumes nothing.
use mathlib.Core.Path.{sym}
use Prim.Native.Nat.{ℕ}
use lib.ListN.{length-replicate}
use lib.Seq.{length-take-le}
use Rattle.lift_text.proofs.Form.{Lifts, lifts, is_short}
use Rattle.lift_text.proofs.Calls.{short_memory, text_call}
use Rattle.lift_text.proofs.lift_table_in.Goals.{Else-verdict-ne-ACCEPTED}
use Rattle.lift_text.proofs.lift_table_in.Goals as goal

-- the form that the lift left
form : (c : Else-verdict-ne-ACCEPTED)
    → Lifts c.args.words.now c.args.list.now c.requires c.lift_accepted-lifted.result c.args.nodes.now c.lift_accepted-lifted.new.nodes c.lift_accepted-lifted.new.prefix c.lift_accepted-lifted.new.variables
form c =
    lifts c.args.words.now c.args.list.now c.requires c.args.nodes.now _ _ (length-replicate {A = ℕ} 12291 0) (length-replicate {A = ℕ} 12288 0) _ _ _ _ c.lift_accepted-lifted.ensures c.if-verdict-ne-ACCEPTED.false

pub returns-then-verdict-ne-ACCEPTED : goal.returns-then-verdict-ne-ACCEPTED
returns-then-verdict-ne-ACCEPTED c =
    short_memory c.args.words.now c.args.list.now c.requires c.args.format c.args.nodes.now _ c.args.out.now
    (is_short c.args.words.now c.args.list.now c.requires c.args.nodes.now _ _ (length-replicate {A = ℕ} 12291 0) (length-replicate {A = ℕ} 12288 0) _ _ _ _ c.lift_accepted-lifted.ensures c.if-verdict-ne-ACCEPTED.true)
    _ _ c.refusal.ensures c.refused.ensures

pub slice_bounds-write-end : goal.slice_bounds-write-end
slice_bounds-write-end c = (form (goal.at.slice_bounds-write-end c).Else-verdict-ne-ACCEPTED).nodes_fit

pub slice_bounds-write-end-2 : goal.slice_bounds-write-end-2
slice_bounds-write-end-2 c = sym (length-take-le _ _ (form (goal.at.slice_bounds-write-end-2 c).Else-verdict-ne-ACCEPTED).nodes_fit)

pub slice_bounds-prefix-end : goal.slice_bounds-prefix-end
slice_bounds-prefix-end c = (form (goal.at.slice_bounds-prefix-end c).Else-verdict-ne-ACCEPTED).prefix_fits

pub slice_bounds-write-end-3 : goal.slice_bounds-write-end-3
slice_bounds-write-end-3 c = sym (length-take-le _ _ (form (goal.at.slice_bounds-write-end-3 c).Else-verdict-ne-ACCEPTED).prefix_fits)

pub slice_bounds-variables-end : goal.slice_bounds-variables-end
slice_bounds-variables-end c = (form (goal.at.slice_bounds-variables-end c).Else-verdict-ne-ACCEPTED).variables_fit

pub slice_bounds-write-end-4 : goal.slice_bounds-write-end-4
slice_bounds-write-end-4 c = sym (length-take-le _ _ (form (goal.at.slice_bounds-write-end-4 c).Else-verdict-ne-ACCEPTED).variables_fit)

pub shape_of-nodes : goal.shape_of-nodes
shape_of-nodes c = c.lift_accepted-lifted.auto.nodes

pub returns : goal.returns
returns c = text_call c.args.words.now c.args.list.now c.requires c.args.format c.args.nodes.now _ c.args.out.now _ _ _ _ (form (goal.at.returns c).Else-verdict-ne-ACCEPTED) _ c.write-written.ensures _ c.of_writing.ensures
