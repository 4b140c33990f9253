-- `leading_blocks::take_block` meets its contract: the node is no block, a name of it repeats, or it is taken off.
-- Assumes nothing.
use mathlib.Core.Path.{◌≡◌, sym, ◌∙◌}
use mathlib.Core.Bool.{true}
use Prim.Native.Nat.{◌+◌, ◌≤◌}
use native.Mathlib.Omega.{arith}
use lib.Dec.{ltb}
use Rattle.std.proofs.Common.{rules}
use Rattle.std.specs.Prelude.{None}
use lib.ListN.{length}
use Rattle.formula.specs.Words.{is_block_kind, table_of}
use Rattle.kept_prefix.specs.Blocks.{prefix_names}
use Rattle.acceptance.specs.Accepted.{Accepted}
use Rattle.acceptance.proofs.Accepted.{accepted_holds}
use Rattle.kept_prefix.specs.Leading.{outermost, stops}
use Rattle.leading_blocks.specs.Front.{Fresh}
use Rattle.leading_blocks.proofs.Fronts.{Low, front_low, byte_low}
use Rattle.leading_blocks.proofs.Taking.{lent, step_plain, part_fits, part_numbered, step_repeats, kept_low, step_taken}
use Rattle.leading_blocks.proofs.take_block.Goals.{Else-not-is_block_kind, In_ok-kept, Start}
use Rattle.leading_blocks.proofs.take_block.Goals as goal

holds : (c : Start) → Accepted c.args.words.now c.args.list.now
holds c = accepted_holds _ _ c.requires.list_value

low-here : (c : Start) → Low c.args.front
low-here c = front_low c.args.words.now c.args.list.now (holds c) c.args.k c.args.front (omega (arith, c.requires.k_bound)) c.requires.taken.front_is

block_here : (c : Else-not-is_block_kind) → is_block_kind c.node_at-node.result.kind ≡ true
block_here c = sym c.is_block_kind.ensures ∙ c.if-not-is_block_kind.false

fits-here : (c : Else-not-is_block_kind) → c.node_at-node.result.a + c.node_at-node.result.b ≤ length c.args.list.now
fits-here c =
    part_fits c.args.words.now c.args.list.now (accepted_holds _ _ c.requires.list_value) c.args.k c.requires.k_bound _ c.node_at-node.ensures (block_here c)

pub returns-then-not-is_block_kind : goal.returns-then-not-is_block_kind
returns-then-not-is_block_kind c = step_plain c.args.words.now c.args.list.now (holds (goal.at.returns-then-not-is_block_kind c).Start) c.args.k c.requires.k_bound _ c.node_at-node.ensures (sym c.is_block_kind.ensures ∙ c.if-not-is_block_kind.true)

pub slice_bounds-use_names-end : goal.slice_bounds-use_names-end
slice_bounds-use_names-end c = fits-here (goal.at.slice_bounds-use_names-end c).Else-not-is_block_kind

pub use_names-requires : goal.use_names-requires
use_names-requires c =
    record {
      numbered = part_numbered c.args.words.now c.args.list.now (holds (goal.at.use_names-requires c).Start) c.args.k c.requires.k_bound _ c.node_at-node.ensures (block_here (goal.at.use_names-requires c).Else-not-is_block_kind);
      standing_len = (c.requires.flags.size, c.requires.taken.used_are.size);
    }

fresh-here : (c : In_ok-kept) → Fresh (prefix_names (outermost (table_of c.args.words.now c.args.list.now) c.args.k)) (lent c.args.list.now c.node_at-node.result) c.args.standing.now c.use_names.new.used c.in_ok-kept.kept
fresh-here c = let p = c.requires.taken in c.in_ok-kept.ensures _ p.used_are p.apart

pub returns-in_err-kept : goal.returns-in_err-kept
returns-in_err-kept c = let p = c.requires.taken in
    let stop : stops (table_of c.args.words.now c.args.list.now) c.args.k ≡ true = step_repeats c.args.words.now c.args.list.now (holds (goal.at.returns-in_err-kept c).Start) c.args.k c.requires.k_bound _ c.node_at-node.ensures (block_here (goal.at.returns-in_err-kept c).Else-not-is_block_kind) (c.in_err-kept.ensures _ p.used_are p.apart) in
    let none : c.from_residual.result ≡ None = search rules in
    rw none stop

pub overflow_add-result : goal.overflow_add-result
overflow_add-result c = omega (arith, (low-here (goal.at.overflow_add-result c).Start).taken_low)

pub overflow_add-result-2 : goal.overflow_add-result-2
overflow_add-result-2 c = omega (arith, (low-here (goal.at.overflow_add-result-2 c).Start).bound_low, fits-here (goal.at.overflow_add-result-2 c).Else-not-is_block_kind, (holds (goal.at.overflow_add-result-2 c).Start).list_limit)

pub overflow_add-result-3 : goal.overflow_add-result-3
overflow_add-result-3 c = omega (arith, (low-here (goal.at.overflow_add-result-3 c).Start).blocks_low, byte_low (ltb 0 c.in_ok-kept.kept))

pub overflow_add-result-4 : goal.overflow_add-result-4
overflow_add-result-4 c =
    let l = kept_low c.args.words.now c.args.list.now (holds (goal.at.overflow_add-result-4 c).Start) c.args.k c.requires.k_bound _ c.node_at-node.ensures (block_here (goal.at.overflow_add-result-4 c).Else-not-is_block_kind) _ _ _ _ _ c.requires.flags c.requires.taken (fresh-here (goal.at.overflow_add-result-4 c).In_ok-kept) in
    omega (arith, l, (low-here (goal.at.overflow_add-result-4 c).Start).names_low, fits-here (goal.at.overflow_add-result-4 c).Else-not-is_block_kind, (holds (goal.at.overflow_add-result-4 c).Start).list_limit)

pub returns : goal.returns
returns c = step_taken c.args.words.now c.args.list.now (holds (goal.at.returns c).Start) c.args.k c.requires.k_bound _ c.node_at-node.ensures (block_here (goal.at.returns c).Else-not-is_block_kind) _ _ _ _ _ c.requires.flags c.requires.taken (fresh-here (goal.at.returns c).In_ok-kept)
