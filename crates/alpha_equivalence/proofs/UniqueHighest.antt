-- The list of a form tells its table's highest number (request S-12).
-- Assumes nothing.
use mathlib.Core.Path.{◌≡◌, refl, sym, ◌∙◌, ap}
use mathlib.Core.Bool.{false}
use Prim.Native.Nat.{ℕ, ◌+◌, ◌-◌, ◌≤◌, ◌<◌}
use native.Mathlib.Omega.{arith}
use lib.Dec.{ltb}
use lib.ListN.{length}
use borrow.Author.Tests.{ltb-true, ltb-false}
use Rattle.lists.specs.Choice.{Is, is_true, is_false, look, clash, absent}
use Rattle.lists.specs.Parts.{numbers, highest}
use Rattle.lists.proofs.Parts.{length_numbers, mem_numbers, highest_cong, term_le}
use Rattle.lists.proofs.Sums.{distinct_few}
use Rattle.formula.specs.Node.{Node, constant, variable, negation, operator, block, Table, is_block}
use Rattle.formula.specs.Tree.{Tree, NoEmptyBlocks, count, bound_below}
use Rattle.prenex_form.specs.Scope.{binder}
use Rattle.prenex_form.specs.Names.{highest_at, highest_number, bound_count}
use Rattle.prenex_form.specs.Prefix.{written_variables}
use Rattle.prenex_form.proofs.Paths.{binder_block}
use Rattle.prenex_form.proofs.PrefixNames.{prefix_distinct, prefix_new, prefix_le, prefix_entries}
use Rattle.alpha_equivalence.specs.AlphaEquivalence.{unnamed, is_bound_at, AlphaEquivalent}
use Rattle.alpha_equivalence.proofs.Congruence.{unseen, is_variable, variable_unseen, variable_is}

-- The list of a form holds each of the numbers that follow the highest once, so equal lists follow equal numbers: between two that
-- differ there would be too few.
not_above : (t u : Table) → Tree t → Tree u → written_variables t ≡ written_variables u → 0 < length (written_variables t)
    → highest_number u ≤ highest_number t
not_above t u tree tree' e some =
    let xs = written_variables t in
    let room = highest_number t + length xs - highest_number u in
    let few = distinct_few xs (numbers (highest_number u + 1) room) (prefix_distinct t tree)
    (λ x m.
    let low : highest_number u < x = prefix_new u tree' x (rw e at m) in
    let high : x ≤ highest_number t + length xs = omega (arith, prefix_le t tree x m, prefix_entries t tree) in
    mem_numbers (highest_number u + 1) room x (omega arith) (omega arith)) in
    omega (arith, length_numbers (highest_number u + 1) room)

pub listed_highest : (t u : Table) → Tree t → Tree u → written_variables t ≡ written_variables u → 0 < length (written_variables t)
    → highest_number t ≡ highest_number u
listed_highest t u tree tree' e some =
    omega (arith, not_above t u tree tree' e some, not_above u t tree' tree (sym e) (rw e at some))

-- a node that is neither a variable node nor a block
plain_highest : (nd : Node) → is_variable nd ≡ false → is_block nd ≡ false → highest_at (unnamed nd) ≡ highest_at nd
unfolding unnamed is_variable is_block highest_at
plain_highest (constant b) v h = refl
plain_highest (variable x) v h = clash refl v
plain_highest (negation a) v h = refl
plain_highest (operator f a b) v h = refl
plain_highest (block q xs a) v h = clash refl h

variable_highest : (nd : Node) (x : ℕ) → nd ≡ variable x → highest_at nd ≡ x
unfolding highest_at
variable_highest nd x e = ap highest_at e

-- Where nothing is bound all numbers are those of free variable nodes.
module _ (t u : Table) (tree : Tree t) (tree' : Tree u) (filled : NoEmptyBlocks t) (alike : AlphaEquivalent t u) (none : bound_count t ≡ 0) where
  no_block : (i : ℕ) → i < t.size → is_block (t.node i) ≡ false
  unfolding bound_count bound_below
  no_block i h = absent _ (λ b. omega (arith, filled i h b, term_le (count t) t.size i h))

  no_block' : (i : ℕ) → i < u.size → is_block (u.node i) ≡ false
  unfolding unnamed is_block
  no_block' i h =
      let l : i < t.size = omega (arith, alike.same_size) in
      sym (unseen is_block (λ x. refl) (λ q xs a. refl) (u.node i))
      ∙ ap is_block (sym (alike.same_nodes i l))
      ∙ unseen is_block (λ x. refl) (λ q xs a. refl) (t.node i)
      ∙ no_block i l

  unbound : (i x : ℕ) → is_bound_at t i x ≡ false
  unbound i x = absent _ (λ b. let l = ltb-true _ _ b in clash (binder_block t tree i x l) (no_block (binder t i x) l))

  unbound' : (i y : ℕ) → is_bound_at u i y ≡ false
  unbound' i y = absent _ (λ b. let l = ltb-true _ _ b in clash (binder_block u tree' i y l) (no_block' (binder u i y) l))

  highest_at_lem : (i : ℕ) → i < t.size → Is (is_variable (t.node i)) → highest_at (t.node i) ≡ highest_at (u.node i)
  highest_at_lem i h (is_true v) =
      let e = variable_is (t.node i) v in
      let d = variable_is (u.node i) (sym (variable_unseen (u.node i)) ∙ ap is_variable (sym (alike.same_nodes i h)) ∙ variable_unseen (t.node i) ∙ v) in
      variable_highest (t.node i) _ e
      ∙ cc ((alike.same_variables i _ _ h e d).same_number (simp (unbound, unbound')))
      ∙ sym (variable_highest (u.node i) _ d)
  highest_at_lem i h (is_false v) =
      let w : is_variable (u.node i) ≡ false =
      sym (variable_unseen (u.node i)) ∙ ap is_variable (sym (alike.same_nodes i h)) ∙ variable_unseen (t.node i) ∙ v in
      sym (plain_highest (t.node i) v (no_block i h))
      ∙ ap highest_at (alike.same_nodes i h)
      ∙ plain_highest (u.node i) w (no_block' i (omega (arith, alike.same_size)))

  free_highest : highest_number t ≡ highest_number u
  unfolding highest_number
  free_highest =
      highest_cong (λ i. highest_at (t.node i)) (λ i. highest_at (u.node i)) t.size (λ i h. highest_at_lem i h (look (is_variable (t.node i))))
      ∙ ap (highest (λ i. highest_at (u.node i))) alike.same_size

-- with names in the list or without
pub same_highest_of : (t u : Table) → Tree t → Tree u → NoEmptyBlocks t → AlphaEquivalent t u → written_variables t ≡ written_variables u
    → highest_number t ≡ highest_number u
same_highest_of t u tree tree' filled alike e = go (look (ltb 0 (length (written_variables t))))
  where
    go : Is (ltb 0 (length (written_variables t))) → highest_number t ≡ highest_number u
    go (is_true s) = listed_highest t u tree tree' e (ltb-true 0 _ s)
    go (is_false s) =
        let few : length (written_variables t) ≤ 0 = ltb-false 0 _ s in
        free_highest t u tree tree' filled alike (omega (arith, prefix_entries t tree))
