-- One cut deeper: the blocks of one more level are read as their definition variables, given the blocks' values.
-- Assumes nothing.
use mathlib.Core.Path.{◌≡◌, refl, sym, ◌∙◌, ap}
use mathlib.Core.Bool.{Bool, true, false, ◌&&◌}
use Prim.Native.Nat.{ℕ, suc, ◌+◌, ◌-◌, ◌≤◌, ◌<◌}
use native.Mathlib.Omega.{arith}
use lib.Dec.{leb}
use borrow.Author.Tests.{leb-true, leb-false, lt-leb}
use Rattle.lists.specs.Choice.{pick, pick_yes, pick_no, Is, is_true, is_false, look, clash}
use Rattle.lists.specs.Members.{mem}
use Rattle.formula.specs.Node.{variable, Table, operands, is_block}
use Rattle.formula.specs.Tree.{Tree}
use Rattle.formula.specs.Valuation.{Valuation, quant}
use Rattle.formula.proofs.Quantify.{quant_cong}
use Rattle.prenex_form.specs.Scope.{inner, level}
use Rattle.prenex_form.specs.Names.{new_name, new_names, copies, definition_variable}
use Rattle.prenex_form.specs.Levels.{blocks_at, quantifier_at}
use Rattle.prenex_form.specs.Matrix.{kept, body_of}
use Rattle.prenex_form.proofs.Cut.{value_at, block_holds, matrix_at}
use Rattle.prenex_form.proofs.Paths.{body_named, inner_is, not_inner, parent_is, level_root, level_step, mem-blocks_at, blocks_at-lt, blocks_at-inner, blocks_at-level, inner_block}
use Rattle.prenex_form.proofs.NameLaws.{new_names-le, copies_le, definition_above, definition_apart}
use Rattle.prenex_form.proofs.Seen.{value_definition, value_real, along, name_cases, kept_cases, holds_cong, matrix_cong}

-- an inner block deeper than the cut is real, and so is one that is not inner
real : (n : Bool) (l c : ℕ) → pick n 1 0 + c ≤ l → (n && leb l c) ≡ false
unfolding pick
real true l c h = lt-leb l c (omega arith)
real false l c h = refl

module _ (t : Table) (tree : Tree t) where
  -- an operand's level, from that of the node that names it; an operand that is a block is inner
  operand_level : (i a : ℕ) → i < t.size → mem a (operands (t.node i)) ≡ true → level t a ≡ pick (inner t a) 1 0 + level t i
  operand_level i a h m =
      let l = tree.lower i a h m in
      omega (arith, level_step t tree a (omega arith), ap (level t) (parent_is t tree i a h m))

  operand_inner : (i a : ℕ) → i < t.size → mem a (operands (t.node i)) ≡ true → is_block (t.node a) ≡ true → inner t a ≡ true
  operand_inner i a h m b = let l = tree.lower i a h m in inner_is t a (omega arith) ∙ b

  -- Below a block of level j + 1 nothing is read differently at cut j + 1 than at cut j.
  pub deeper_same : (j i : ℕ) → i < t.size → pick (inner t i) 1 0 + suc j ≤ level t i → (v : Valuation) → value_at t j i v ≡ value_at t (suc j) i v
  deeper_same j i h l v =
      along t tree j (suc j) (λ i v u. (v ≡ u) × (pick (inner t i) 1 0 + suc j ≤ level t i))
      (λ i x v u h e r. ap (λ (w : Valuation). w (new_name t i x)) r.0)
      (λ i a v u h b m r. (r.0, omega (arith, r.1, operand_level i a h m)))
      (λ i v u h b rest r.
      value_real t tree j i h b (real (inner t i) (level t i) j (omega (arith, r.1))) v
      ∙ quant_cong (quantifier_at (t.node i)) (new_names t i) (value_at t j (body_of (t.node i))) (value_at t (suc j) (body_of (t.node i))) v
      (λ w. rest w w (refl, omega (arith, r.1, operand_level i (body_of (t.node i)) h (body_named (t.node i) b))))
      ∙ sym (value_real t tree (suc j) i h b (real (inner t i) (level t i) (suc j) r.1) v)
      ∙ ap (value_at t (suc j) i) r.0)
      i h v v (refl, l)

  -- The valuation u differs from v at most at the definition variables of level j + 1, to which it gives the blocks' values.
  module _ (j : ℕ) (v u : Valuation)
      (definitions : (z : ℕ) → ((k : ℕ) → mem k (blocks_at t (suc j)) ≡ true → z ≡ definition_variable t k → ⊥) → u z ≡ v z)
      (values : (k : ℕ) → mem k (blocks_at t (suc j)) ≡ true
      → u (definition_variable t k) ≡ quant (quantifier_at (t.node k)) (new_names t k) (value_at t (suc j) (body_of (t.node k))) v) where
    low_same : (z : ℕ) → ((k : ℕ) → z < definition_variable t k) → v z ≡ u z
    low_same z l = sym (definitions z (λ k m e. omega (arith, l k)))

    bound_same : (b z : ℕ) → b < t.size → mem z (new_names t b) ≡ true → v z ≡ u z
    bound_same b z h m = low_same z (λ k. omega (arith, new_names-le t b z h m, definition_above t k))

    copy_same : (b z : ℕ) → b < t.size → inner t b ≡ true → mem z (copies t b) ≡ true → v z ≡ u z
    copy_same b z h n m = low_same z (λ k. omega (arith, copies_le t b z h n m, definition_above t k))

    definition_same : (b : ℕ) → inner t b ≡ true → level t b ≤ j → v (definition_variable t b) ≡ u (definition_variable t b)
    definition_same b n l =
        sym (definitions (definition_variable t b)
        (λ k m e. omega (arith, ap (level t) (definition_apart t b k n (blocks_at-inner t tree (suc j) k m) e), blocks_at-level t tree (suc j) k m)))

    name_same : (i x : ℕ) → i < t.size → t.node i ≡ variable x → v (new_name t i x) ≡ u (new_name t i x)
    name_same i x h e =
        name_cases t tree (λ y. v y ≡ u y) i x h e
        (λ y l. low_same y (λ k. omega (arith, definition_above t k)))
        (λ b y l n p m. bound_same b y l m)

    -- an inner block of level at most j + 1
    block_step : (i : ℕ) → i < t.size → inner t i ≡ true → level t i ≤ suc j → value_at t j i v ≡ value_at t (suc j) i u
    block_step i h n l = go (look (leb (level t i) j))
      where
        go : Is (leb (level t i) j) → value_at t j i v ≡ value_at t (suc j) i u
        go (is_true e) =
            let k = leb-true (level t i) j e in
            value_definition t tree j i h n k v ∙ definition_same i n k ∙ sym (value_definition t tree (suc j) i h n l u)
        go (is_false e) =
            let k = leb-false (level t i) j e in
            let b = inner_block t i n in
            let o = body_named (t.node i) b in
            let s = tree.lower i (body_of (t.node i)) h o in
            let p = pick_yes {A = ℕ} (inner t i) 1 0 n in
            value_real t tree j i h b (real (inner t i) (level t i) j (omega arith)) v
            ∙ quant_cong (quantifier_at (t.node i)) (new_names t i) (value_at t j (body_of (t.node i))) (value_at t (suc j) (body_of (t.node i))) v
            (deeper_same j (body_of (t.node i)) (omega arith) (omega (arith, operand_level i (body_of (t.node i)) h o)))
            ∙ sym (values i (mem-blocks_at t tree (suc j) i h n (omega arith)))
            ∙ sym (value_definition t tree (suc j) i h n l u)

    -- A node that is not a root block, with at most j inner blocks above it, has the same value one cut deeper.
    pub value_step : (i : ℕ) → i < t.size → (is_block (t.node i) ≡ true → inner t i ≡ true) → level t i ≤ pick (inner t i) 1 0 + j
        → value_at t j i v ≡ value_at t (suc j) i u
    value_step i h n l =
        along t tree j (suc j)
        (λ i w y. (w ≡ v) × (y ≡ u) × (is_block (t.node i) ≡ true → inner t i ≡ true) × (level t i ≤ pick (inner t i) 1 0 + j))
        (λ i x w y h e r. ap (λ (w : Valuation). w (new_name t i x)) r.0 ∙ name_same i x h e ∙ ap (λ (w : Valuation). w (new_name t i x)) (sym r.1))
        (λ i a w y h b m r.
        (r.0, r.1, operand_inner i a h m, omega (arith, r.3, operand_level i a h m, pick_no {A = ℕ} (inner t i) 1 0 (not_inner t i b))))
        (λ i w y h b rest r.
        ap (value_at t j i) r.0
        ∙ block_step i h (r.2 b) (omega (arith, r.3, pick_yes {A = ℕ} (inner t i) 1 0 (r.2 b)))
        ∙ ap (value_at t (suc j) i) (sym r.1))
        i h v u (refl, refl, n, l)

    operand_step : (i a : ℕ) → i < t.size → mem a (operands (t.node i)) ≡ true → level t i ≤ j → value_at t j a v ≡ value_at t (suc j) a u
    operand_step i a h m l =
        let s = tree.lower i a h m in
        value_step a (omega arith) (operand_inner i a h m) (omega (arith, operand_level i a h m))

    kept_step : value_at t j (kept t - 1) v ≡ value_at t (suc j) (kept t - 1) u
    kept_step =
        kept_cases t tree
        (λ e b. value_step (kept t - 1) (omega arith) (λ c. clash c b) (omega (arith, level_root t tree (kept t - 1) e)))
        (λ i h m. operand_step i (kept t - 1) (omega arith) m (omega (arith, level_root t tree i h)))

    constraint_step : (l k : ℕ) → l < j → mem k (blocks_at t (suc l)) ≡ true → block_holds t j v k ≡ block_holds t (suc j) u k
    constraint_step l k h m =
        let s = blocks_at-lt t tree (suc l) k m in
        let n = blocks_at-inner t tree (suc l) k m in
        let e = blocks_at-level t tree (suc l) k m in
        holds_cong t j (suc j) v u k (definition_same k n (omega arith))
        (operand_step k (body_of (t.node k)) s (body_named (t.node k) (inner_block t k n)) (omega arith))
        (λ x p. bound_same k x s p)
        (λ x p. copy_same k x s n p)

    -- And so has the matrix after j levels.
    pub matrix_step : matrix_at t j j v ≡ matrix_at t (suc j) j u
    matrix_step = matrix_cong t j (suc j) v u j kept_step constraint_step
