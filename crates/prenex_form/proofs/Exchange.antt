-- One level moved into the prefix: the matrix before it is the matrix with it, under the level's copies, and under the dual
-- quantifier its names and definition variables.
-- Assumes nothing.
use mathlib.Core.Path.{◌≡◌, refl, sym, ◌∙◌}
use mathlib.Core.Bool.{true, ◌&&◌}
use mathlib.Core.List.{flat_map}
use Prim.Native.Nat.{ℕ, suc, ◌+◌, ◌-◌, ◌<◌}
use native.Mathlib.Omega.{arith}
use lib.Dec.{eqb}
use borrow.Author.Tests.{eqb-true, eq-eqb}
use Rattle.lists.specs.Choice.{and_left, and_right, and_both, absent}
use Rattle.lists.specs.Search.{lowest}
use Rattle.lists.specs.Members.{mem}
use Rattle.lists.proofs.Search.{lowest_is}
use Rattle.formula.specs.Node.{dual, Table}
use Rattle.formula.specs.Tree.{Tree}
use Rattle.formula.specs.Valuation.{Valuation, quant}
use Rattle.prenex_form.specs.Scope.{inner}
use Rattle.prenex_form.specs.Names.{bound_count, new_names, copies, definition_variable}
use Rattle.prenex_form.specs.Levels.{blocks_at, quantifier_at, level_quantifier}
use Rattle.prenex_form.specs.Matrix.{body_of}
use Rattle.prenex_form.specs.Prefix.{leading}
use Rattle.prenex_form.proofs.Cut.{value_at, block_holds, matrix_at}
use Rattle.prenex_form.proofs.Level.{Blocks, Separate, Blind, settled, settled_definition, settled_other, level_truth}
use Rattle.prenex_form.proofs.Paths.{blocks_at-lt, blocks_at-inner}
use Rattle.prenex_form.proofs.NameLaws.{length-new_names, length_copies, copies_shift, new_names-le, copies_above, copies_le, definition_above, new_names_apart, definition_apart}
use Rattle.prenex_form.proofs.Seen.{body_blind, matrix_blind}
use Rattle.prenex_form.proofs.Step.{matrix_step}

-- the block of a definition variable; the block of a new name
definer_of : Table → ℕ → ℕ
definer_of t z = lowest (λ i. inner t i && eqb z (definition_variable t i)) t.size

binder_of : Table → ℕ → ℕ
binder_of t x = lowest (λ i. mem x (new_names t i)) t.size

-- the blocks of level j + 1, their bodies read at that level's cut
abbrev level_blocks : Table → ℕ → Blocks
level_blocks t j =
    record {
      members = blocks_at t (suc j);
      kind = λ i. quantifier_at (t.node i);
      names = new_names t;
      copies = copies t;
      definition = definition_variable t;
      body = λ i. value_at t (suc j) (body_of (t.node i));
      definer = definer_of t;
    }

definer_at : (t : Table) (i : ℕ) → i < t.size → inner t i ≡ true → definer_of t (definition_variable t i) ≡ i
unfolding definer_of
definer_at t i h n =
    lowest_is (λ k. inner t k && eqb (definition_variable t i) (definition_variable t k)) t.size i h
    (and_both _ _ n (eq-eqb (definition_variable t i) (definition_variable t i) refl))
    (λ k l. absent _ (λ e. omega (arith, definition_apart t i k n (and_left _ _ e) (eqb-true _ _ (and_right (inner t k) _ e)))))

binder_at : (t : Table) (i x : ℕ) → i < t.size → mem x (new_names t i) ≡ true → binder_of t x ≡ i
unfolding binder_of
binder_at t i x h m =
    lowest_is (λ k. mem x (new_names t k)) t.size i h m (λ k l. absent _ (λ n. omega (arith, new_names_apart t i k x m n)))

module _ (t : Table) (tree : Tree t) (j : ℕ) where
  -- what the lemma of one level asks
  level_separate : Separate (level_blocks t j)
  level_separate =
      record {
        copy = λ x. x + bound_count t;
        original = λ y. y - bound_count t;
        binder = binder_of t;
        original_copy = λ x. omega arith;
        same_length = λ i m. length-new_names t i ∙ sym (length_copies t i);
        copies_are = λ i k m l. copies_shift t i k 0 (blocks_at-lt t tree (suc j) i m) (omega (arith, length-new_names t i));
        binder_is = λ i x m h. binder_at t i x (blocks_at-lt t tree (suc j) i m) h;
        definer_is = λ i m. definer_at t i (blocks_at-lt t tree (suc j) i m) (blocks_at-inner t tree (suc j) i m);
        names_copies = λ i k x m n p q. omega (arith, new_names-le t i x (blocks_at-lt t tree (suc j) i m) p, copies_above t k x q);
        names_definitions = λ i k m n p. omega (arith, new_names-le t i _ (blocks_at-lt t tree (suc j) i m) p, definition_above t k);
        copies_definitions = λ i k m n p.
            omega (arith, copies_le t i _ (blocks_at-lt t tree (suc j) i m) (blocks_at-inner t tree (suc j) i m) p, definition_above t k);
        body_blind = λ i m v u alike same.
            body_blind t tree j i m v u
            (λ z n c d. alike z (record { unbound = record { no_name = n; no_copy = c }; no_definition = d })) same;
      }

  level_blind : Blind (level_blocks t j) (matrix_at t (suc j) j)
  level_blind v u alike = matrix_blind t tree j v u (λ z n c. alike z (record { no_name = n; no_copy = c }))

  pub exchange : (v : Valuation)
      → matrix_at t j j v ≡ quant (level_quantifier t j) (flat_map (copies t) (blocks_at t (suc j)))
      (quant (dual (level_quantifier t j)) (leading t (suc j)) (matrix_at t (suc j) (suc j))) v
  unfolding matrix_at block_holds leading
  exchange v =
      let b = level_blocks t j in
      matrix_step t tree j v (settled b v) (settled_other b level_separate v) (settled_definition b level_separate v)
      ∙ sym (level_truth b level_separate (level_quantifier t j) (matrix_at t (suc j) j) level_blind v)
