-- The written nodes are well formed: their names are from 1 up to `highest_name`, their truth tables from 0 to 15.
-- Assumes nothing.
use mathlib.Core.Path.{◌≡◌, refl, sym, ◌∙◌}
use mathlib.Core.Bool.{true, false}
use Prim.Native.Nat.{ℕ, ◌≤◌, ◌<◌}
use native.Mathlib.Omega.{arith}
use lib.ListN.{length, get_or}
use Rattle.lists.specs.Choice.{clash}
use Rattle.lists.specs.Members.{mem, all}
use Rattle.lists.proofs.Members.{all_mem, all_intro}
use Rattle.formula.specs.Node.{Node, constant, variable, negation, operator, block, Table, is_block}
use Rattle.formula.specs.Form.{binds}
use Rattle.formula.specs.Tree.{Tree}
use Rattle.acceptance.specs.Verdict.{is_number_to}
use Rattle.prenex_form.specs.Matrix.{prenex_nodes}
use Rattle.prenex_form.specs.Prefix.{prefix_blocks, written_variables}
use Rattle.prenex_form.specs.Promise.{highest_name}
use Rattle.prenex_form.proofs.NameLaws.{variable_le}
use Rattle.prenex_form.proofs.PrefixNames.{entries_le, prefix_new, prefix_le}
use Rattle.formula.proofs.Prefix.{binds_mem}
use Rattle.prenex_form.proofs.FreeNames.{Source, of_table_lem, of_prefix, Applied, of_node, of_form, Sourced, prenex_sourced}
use Rattle.prenex_form.proofs.Limits.{number_from, is_number_lem, Within}
use Rattle.prenex_form.proofs.WrittenOrder.{prenex_plain}

module _ (t : Table) (tree : Tree t) where
  -- the names in the prefix
  pub prefix_within : all (is_number_to (highest_name t)) (written_variables t) ≡ true
  prefix_within =
      all_intro _ (written_variables t)
      (λ x m. is_number_lem _ x (omega (arith, prefix_new t tree x m)) (omega (arith, prefix_le t tree x m, entries_le t)))

  prefix_member : (x : ℕ) → binds (prefix_blocks t) x ≡ true → mem x (written_variables t) ≡ true
  unfolding written_variables
  prefix_member x b = sym (binds_mem (prefix_blocks t) x) ∙ b

  -- and those at the nodes, which the prefix binds or the table holds
  module _ (m : ℕ) (within : (i : ℕ) → i < t.size → Within m (t.node i)) where
    source_within : (x : ℕ) → Source t x → is_number_to (highest_name t) x ≡ true
    source_within x (of_table_lem s) =
        let w : is_number_to m x ≡ true = rw s.variable_is at (within s.node s.within) in
        is_number_lem _ x (number_from m x w) (omega (arith, variable_le t s.node x s.within s.variable_is))
    source_within x (of_prefix b) = all_mem _ (written_variables t) x prefix_within (prefix_member x b)

    applied_within : (f : ℕ) → Applied t f → f ≤ 15
    applied_within f (of_node i a b h e) = rw e at (within i h)
    applied_within f (of_form l) = l

    sourced_within : (nd : Node) → Sourced t nd → is_block nd ≡ false → Within (highest_name t) nd
    unfolding is_block
    sourced_within (constant b) s p = tt
    sourced_within (variable x) s p = source_within x s
    sourced_within (negation a) s p = tt
    sourced_within (operator f a b) s p = applied_within f s
    sourced_within (block q xs a) s p = clash refl p

    pub prenex_within : (k : ℕ) → k < length (prenex_nodes t) → Within (highest_name t) (get_or (prenex_nodes t) k (constant false))
    prenex_within k h = sourced_within _ (prenex_sourced t tree k) (prenex_plain t tree k h)
