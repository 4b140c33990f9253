-- What the words of an accepted table say of its nodes.
-- Assumes nothing.
use mathlib.Core.Path.{◌≡◌, sym, ◌∙◌, ap}
use mathlib.Core.Bool.{true, false}
use mathlib.Core.List.{List}
use Prim.Native.Nat.{ℕ, ◌+◌, ◌*◌, ◌≤◌, ◌<◌}
use native.Mathlib.Omega.{arith}
use lib.ListN.{length}
use Rattle.lists.specs.Choice.{clash, Is, is_true, is_false, look}
use Rattle.formula.specs.Node.{Node, constant, variable, negation, operator, block, is_block, bound}
use Rattle.formula.specs.Words.{width, node_count, field, node_at, table_of}
use Rattle.formula.specs.Tree.{count}
use Rattle.formula.proofs.Nodes.{node_variable}
use Rattle.refusals.specs.Verdict.{accepted}
use Rattle.acceptance.specs.Verdict.{verdict}
use Rattle.acceptance.proofs.Accepted.{accepted_holds}
use Rattle.prenex_form.specs.Names.{highest_number}
use Rattle.prenex_form.proofs.NameLaws.{variable_le}
use Rattle.arrays.specs.Held.{is_member}
use Rattle.arrays.proofs.Members.{no_member}

pub variable_no_block : (n : Node) (x : ℕ) → n ≡ variable x → is_block n ≡ false
unfolding is_block
variable_no_block n x e = rw e

pub variable_member : (n : Node) (x : ℕ) → n ≡ variable x → is_member n ≡ true
unfolding is_member
variable_member n x e = rw e

-- the number of a variable node, and 0 of others
variable_number : Node → ℕ
variable_number (constant b) = 0
variable_number (variable x) = x
variable_number (negation a) = 0
variable_number (operator f a b) = 0
variable_number (block q xs a) = 0

module _ (ws ls : List ℕ) (i : ℕ) where
  -- the nodes of the table are those of the words
  pub in_table : i < node_count ws → i < (table_of ws ls).size
  unfolding table_of
  in_table h = h

  pub kind_no_block : field ws i 0 ≡ 2 → is_block (node_at ws ls i) ≡ false
  kind_no_block e = variable_no_block (node_at ws ls i) (field ws i 1) (node_variable ws ls i e)

  -- a variable node binds nothing
  pub kind_binds_none : field ws i 0 ≡ 2 → 0 ≡ count (table_of ws ls) i
  unfolding count table_of bound
  kind_binds_none e = sym (ap (λ (nd : Node). length (bound nd)) (node_variable ws ls i e))

  pub kind_block : (field ws i 0 ≡ 2 → ⊥) → is_member (node_at ws ls i) ≡ true → is_block (node_at ws ls i) ≡ true
  kind_block n h = go (look (is_block (node_at ws ls i)))
    where
      go : Is (is_block (node_at ws ls i)) → is_block (node_at ws ls i) ≡ true
      go (is_true e) = e
      go (is_false e) = clash h (no_member ws ls i n e)

  -- a variable node's number is its first field
  pub variable_field : (x : ℕ) → field ws i 0 ≡ 2 → node_at ws ls i ≡ variable x → field ws i 1 ≡ x
  unfolding variable_number
  variable_field x k e = ap variable_number (sym (node_variable ws ls i k) ∙ e)

  pub field_le : i < node_count ws → field ws i 0 ≡ 2 → field ws i 1 ≤ highest_number (table_of ws ls)
  unfolding table_of
  field_le h k = variable_le (table_of ws ls) i (field ws i 1) h (node_variable ws ls i k)

  module _ (v : verdict ws ls ≡ accepted) (h : i < node_count ws) where
    -- node i can be read
    pub node_within : width * i + width ≤ length ws
    node_within = omega (arith, (accepted_holds ws ls v).whole)
