-- Room for the nodes of a prenex form, and the whole of them from their two parts.
-- Assumes nothing.
use mathlib.Core.Path.{◌≡◌, refl, ◌∙◌, ap}
use mathlib.Core.List.{List, flat_map}
use Prim.Native.Nat.{ℕ, ◌-◌, ◌*◌, ◌≤◌}
use native.Mathlib.Omega.{arith}
use lib.ListN.{length}
use Rattle.lists.specs.Parts.{overwrite}
use Rattle.formula.specs.Node.{Table}
use Rattle.formula.specs.Words.{width, node_count, table_of, node_words}
use Rattle.refusals.specs.Verdict.{accepted}
use Rattle.acceptance.specs.Verdict.{verdict}
use Rattle.acceptance.proofs.Accepted.{accepted_holds}
use Rattle.prenex_form.specs.Levels.{levels}
use Rattle.prenex_form.specs.Matrix.{kept, first_nodes, prenex_nodes, written_nodes}
use Rattle.prenex_form.proofs.NodeLists.{length_words}
use Rattle.prenex_form.proofs.WrittenSizes.{length-prenex_nodes, nodes_few}
use Rattle.prenex_form.proofs.Limits.{bound_limit, size_limit}
use Rattle.matrix_writer.specs.Added.{added_nodes}
use Rattle.matrix_writer.specs.Buffer.{Room}
use Rattle.matrix_writer.proofs.Added.{length_nodes, room_for_added, whole_form}
use Rattle.prenex.proofs.Measured.{root_blocks}

written_length : (t : Table) → length (written_nodes t) ≡ width * length (prenex_nodes t)
unfolding written_nodes
written_length t = length_words (prenex_nodes t)

module _ (ws ls : List ℕ) (ok : verdict ws ls ≡ accepted) where
  pub kept_is : node_count ws - root_blocks (table_of ws ls) ≡ kept (table_of ws ls)
  unfolding kept table_of
  kept_is = refl

  form_small : length (prenex_nodes (table_of ws ls)) ≤ 40960
  form_small =
      let a = accepted_holds ws ls ok in
      let l = length-prenex_nodes (table_of ws ls) a.proper.tree (a.filled refl) in
      omega (arith, nodes_few (table_of ws ls) (size_limit ws ls a) (bound_limit ws ls a))

  module _ (out : List ℕ) (fits : length (written_nodes (table_of ws ls)) ≤ length out) where
    pub first_room : width * kept (table_of ws ls) ≤ length out
    first_room = omega (arith, written_length (table_of ws ls), length_nodes (table_of ws ls))

    -- after the first nodes are written the buffer is as long as before
    pub added_room : (out' : List ℕ) → length out' ≡ length out → Room out' (kept (table_of ws ls)) (length (added_nodes (table_of ws ls) (levels (table_of ws ls))))
    added_room out' e = room_for_added (table_of ws ls) out' (omega (arith, written_length (table_of ws ls))) form_small

    pub whole : (out' out'' : List ℕ) → out' ≡ overwrite out 0 (flat_map node_words (first_nodes (table_of ws ls)))
        → out'' ≡ overwrite out' (width * kept (table_of ws ls)) (flat_map node_words (added_nodes (table_of ws ls) (levels (table_of ws ls))))
        → out'' ≡ overwrite out 0 (written_nodes (table_of ws ls))
    whole out' out'' e f =
        f ∙ ap (λ (o : List ℕ). overwrite o (width * kept (table_of ws ls)) (flat_map node_words (added_nodes (table_of ws ls) (levels (table_of ws ls))))) e
        ∙ whole_form (table_of ws ls) out (omega (arith, written_length (table_of ws ls)))
