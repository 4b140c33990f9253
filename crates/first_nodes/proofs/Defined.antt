-- The next name and the definition variables of the inner blocks, one node at a time.
-- Assumes nothing.
use mathlib.Core.Path.{◌≡◌, refl, ◌∙◌, subst}
use mathlib.Core.Bool.{true, false, not}
use mathlib.Core.List.{List}
use Prim.Native.Nat.{ℕ, zero, suc, ◌+◌, ◌-◌, ◌≤◌, ◌<◌}
use native.Mathlib.Omega.{arith}
use native.Mathlib.Nat.{not-suc-le-zero}
use lib.Dec.{eqb}
use lib.ListN.{get_or, set, length-set}
use borrow.Author.Tests.{eqb-true, eqb-false, not-true}
use Rattle.lists.specs.Choice.{pick, pick_yes, pick_no, Is, is_true, is_false, look, clash, and_right}
use Rattle.lists.specs.Parts.{sum}
use Rattle.lists.proofs.Stores.{set_all}
use Rattle.lists.proofs.Parts.{pick_le}
use Rattle.formula.specs.Node.{Table, is_block}
use Rattle.formula.specs.Words.{table_of}
use Rattle.acceptance.specs.Accepted.{Accepted}
use Rattle.prenex_form.specs.Scope.{inner}
use Rattle.prenex_form.specs.Names.{bound_count, inner_below, definition_variable}
use Rattle.prenex_form.specs.Matrix.{kept}
use Rattle.prenex_form.proofs.NameLaws.{inner_bound_le_lem}
use Rattle.prenex_form.proofs.Limits.{highest_limit, bound_limit, size_limit}
use Rattle.arrays.specs.Held.{Definitions}
use Rattle.names.specs.declared.NameCounter.{NameCounter}
use Rattle.first_nodes.specs.Given.{Counted, DefinedBelow}

module _ (t : Table) where
  inner_below_next : (i : ℕ) → inner_below t (suc i) ≡ inner_below t i + pick (inner t i) 1 0
  unfolding inner_below sum
  inner_below_next i = refl

  inner_below-le : (i : ℕ) → inner_below t i ≤ i
  unfolding inner_below sum
  inner_below-le zero = omega arith
  inner_below-le (suc i) = omega (arith, inner_below-le i, pick_le (inner t i) 1)

  -- an inner block is kept: it is not the root
  inner_kept : (i : ℕ) → i < t.size → inner t i ≡ true → i < kept t
  unfolding inner kept
  inner_kept i h q =
      let n = eqb-false (suc i) t.size (not-true _ (and_right (is_block (t.node i)) (not (eqb (suc i) t.size)) q)) in
      omega (arith, pick_le (is_block (t.node (t.size - 1))) 1)

  pub defined_none : (definitions : List ℕ) → DefinedBelow t 0 definitions
  defined_none definitions = record { definition_is = λ j h q. absurd (not-suc-le-zero h) }

  -- with all kept nodes passed, every inner block has its definition variable
  pub defined_all : {definitions : List ℕ} → DefinedBelow t (kept t) definitions → Definitions t definitions
  defined_all d = record { definition_is = λ j h q. d.definition_is j (inner_kept j h q) q }

module _ (ws ls : List ℕ) (i : ℕ) {definitions : List ℕ} {counter : NameCounter} (c : Counted ws ls i definitions counter) where
  abbrev t : Table
  t = table_of ws ls

  -- the limits of an accepted table leave a name free
  pub name_left : Accepted ws ls → i < t.size → counter.next < 4294967295
  unfolding bound_count
  name_left a h =
      omega (
        arith,
        c.next_is,
        highest_limit ws ls a,
        bound_limit ws ls a,
        size_limit ws ls a,
        inner_bound_le_lem t t.size,
        inner_below-le t i,
      )

  -- a node that is no inner block takes no name
  pub named_none : DefinedBelow t i definitions → inner t i ≡ false → Counted ws ls (suc i) definitions counter × DefinedBelow t (suc i) definitions
  named_none d plain = (
    record {
      definitions_length = c.definitions_length;
      next_is = omega (arith, c.next_is, inner_below_next t i, pick_no {A = ℕ} (inner t i) 1 0 plain);
    },
    record { definition_is = λ j h q. go j h q (look (eqb j i)) },
  )
    where
      go : (j : ℕ) → j < suc i → inner t j ≡ true → Is (eqb j i) → get_or definitions j 0 ≡ definition_variable t j
      go j h q (is_true e) = clash (subst (λ k. inner t k ≡ true) (eqb-true j i e) q) plain
      go j h q (is_false e) = let n = eqb-false j i e in d.definition_is j (omega arith) q

  -- an inner block takes the next
  module _ (name : ℕ) (handed : name ≡ counter.next) where
    pub is_definition_lem : name ≡ definition_variable t i
    unfolding definition_variable
    is_definition_lem = handed ∙ c.next_is

    pub named_next : Accepted ws ls → i < t.size → DefinedBelow t i definitions → inner t i ≡ true → {after : NameCounter} → after.next ≡ counter.next + 1
        → Counted ws ls (suc i) (set definitions i name) after × DefinedBelow t (suc i) (set definitions i name)
    named_next a h d found {after} n = (
      record {
        definitions_length = length-set definitions i name ∙ c.definitions_length;
        next_is = omega (arith, n, c.next_is, inner_below_next t i, pick_yes {A = ℕ} (inner t i) 1 0 found);
      },
      record {
        definition_is =
            set_all definitions i name 0 (omega (arith, size_limit ws ls a, c.definitions_length))
            (λ j w. j < suc i → inner t j ≡ true → w ≡ definition_variable t j)
            (λ _ _. is_definition_lem) (λ j m l q. d.definition_is j (omega arith) q);
      },
    )
