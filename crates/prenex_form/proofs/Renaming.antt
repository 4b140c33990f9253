-- Renaming keeps truth: a node of the table and the same node at cut 0 have one value under valuations that agree from each
-- number to its new name.
-- Assumes nothing.
use mathlib.Core.Path.{◌≡◌, refl, sym, ◌∙◌, ap, ap₂}
use mathlib.Core.Bool.{Bool, true, false, not, ◌&&◌}
use mathlib.Core.List.{List, [], ◌∷◌}
use Prim.Native.Nat.{ℕ, zero, suc, ◌+◌, ◌-◌, ◌≤◌, ◌<◌}
use native.Mathlib.Omega.{arith}
use lib.Dec.{ltb, leb}
use lib.ListN.{length, get_or}
use borrow.Author.Tests.{ltb-true, ltb-false, lt-leb}
use Rattle.lists.specs.Choice.{pick_yes, pick_no, Is, is_true, is_false, look, and_both}
use Rattle.lists.specs.Members.{mem, place}
use Rattle.lists.proofs.Members.{mem_head, mem_tail, place_lt, get_or-place}
use Rattle.lists.proofs.Parts.{get_or-numbers}
use Rattle.formula.specs.Node.{Quantifier, Node, constant, variable, negation, operator, block, Table, operands, is_block, bound}
use Rattle.formula.specs.Tree.{Proper, count}
use Rattle.formula.specs.Valuation.{Valuation, quant}
use Rattle.formula.specs.Truth.{operator_value, node_value, value, truth}
use Rattle.formula.specs.Meaning.{DiffersAtMostAt}
use Rattle.formula.proofs.Quantify.{quant_two}
use Rattle.prenex_form.specs.Scope.{binder, inner, level}
use Rattle.prenex_form.specs.Names.{highest_number, first_name, new_names, new_name}
use Rattle.prenex_form.proofs.Cut.{cut_node, cut, value_at}
use Rattle.prenex_form.proofs.Paths.{binder_le, above_higher, binder_above, new_name_root, new_name-step, inner_level}
use Rattle.prenex_form.proofs.NameLaws.{variable_le, length-new_names, new_names-above, new_names_apart, distinct-new_names, new_name-free, new_name-bound}

-- Seen from node i, w gives each number's new name what v gives the number.
abbrev Related : Table → ℕ → Valuation → Valuation → Type 0
Related t i v w = (x : ℕ) → x ≤ highest_number t → v x ≡ w (new_name t i x)

new_names_at : (t : Table) (i k : ℕ) → k < count t i → get_or (new_names t i) k 0 ≡ first_name t i + k
unfolding new_names
new_names_at t i k l = get_or-numbers (first_name t i) (count t i) k 0 l

module _ (t : Table) (proper : Proper t) where
  -- the new name that a number has at a block is none of the block's own: it is the number itself, or a higher block's
  new_name_outside : (i x : ℕ) → i < t.size → x ≤ highest_number t → mem (new_name t i x) (new_names t i) ≡ false
  new_name_outside i x h l = go (look (mem (new_name t i x) (new_names t i))) (look (ltb (binder t i x) t.size))
    where
      go : Is (mem (new_name t i x) (new_names t i)) → Is (ltb (binder t i x) t.size) → mem (new_name t i x) (new_names t i) ≡ false
      go (is_false m) b = m
      go (is_true m) (is_true b) =
          let k = ltb-true _ _ b in
          let e = new_names_apart t i (binder t i x) (new_name t i x) m (new_name-bound t i x k) in
          absurd (omega (arith, e, above_higher t proper.tree (binder t i x) i h (binder_above t proper.tree i x k)))
      go (is_true m) (is_false b) =
          let k = ltb-false (binder t i x) t.size b in
          let e : new_name t i x ≡ x = new_name-free t i x (omega (arith, binder_le t i x)) in
          absurd (omega (arith, e, new_names-above t i (new_name t i x) m))

  -- every block is real at cut 0
  real : (i : ℕ) → i < t.size → (q : Quantifier) (xs : List ℕ) (a : ℕ) → cut_node t 0 i (block q xs a) ≡ block q (new_names t i) a
  unfolding cut_node
  real i h q xs a = pick_no _ _ _ (off (look (inner t i)))
    where
      off : Is (inner t i) → (inner t i && leb (level t i) 0) ≡ false
      off (is_true n) = rw n (lt-leb _ _ (inner_level t proper.tree i h n))
      off (is_false n) = rw n refl

  -- from a node to what it names
  module _ (i a : ℕ) (h : i < t.size) (m : mem a (operands (t.node i)) ≡ true) where
    new_name_other : (x : ℕ) → (is_block (t.node i) && mem x (bound (t.node i))) ≡ false → new_name t a x ≡ new_name t i x
    new_name_other x e = new_name-step t proper.tree i a x h m ∙ pick_no _ _ _ e

    new_name_own : (x : ℕ) → is_block (t.node i) ≡ true → mem x (bound (t.node i)) ≡ true → new_name t a x ≡ first_name t i + place x (bound (t.node i))
    new_name_own x b e = new_name-step t proper.tree i a x h m ∙ pick_yes _ _ _ (and_both _ _ b e)

    related_same : is_block (t.node i) ≡ false → (v w : Valuation) → Related t i v w → Related t a v w
    related_same b v w r x l = r x l ∙ ap w (sym (new_name_other x (rw b refl)))

    related_body : is_block (t.node i) ≡ true → (v w v' w' : Valuation) → Related t i v w
        → ((k : ℕ) → k < length (bound (t.node i)) → v' (get_or (bound (t.node i)) k 0) ≡ w' (get_or (new_names t i) k 0))
        → DiffersAtMostAt (bound (t.node i)) v' v → DiffersAtMostAt (new_names t i) w' w → Related t a v' w'
    unfolding count
    related_body b v w v' w' r same ov ow x l = go (look (mem x (bound (t.node i))))
      where
        go : Is (mem x (bound (t.node i))) → v' x ≡ w' (new_name t a x)
        go (is_true e) =
            let k = place_lt x (bound (t.node i)) e in
            ap v' (sym (get_or-place x (bound (t.node i)) 0 e)) ∙ same (place x (bound (t.node i))) k
            ∙ ap w' (new_names_at t i (place x (bound (t.node i))) k ∙ sym (new_name_own x b e))
        go (is_false e) =
            ov x e ∙ r x l ∙ sym (ow (new_name t i x) (new_name_outside i x h l))
            ∙ ap w' (sym (new_name_other x (rw (b, e) refl)))

  -- the values of a node, from those of what it names
  module _ (i : ℕ) (h : i < t.size) (f g : ℕ → Valuation → Bool)
      (below : (a : ℕ) → mem a (operands (t.node i)) ≡ true → (v w : Valuation) → Related t a v w → f a v ≡ g a w) where
    -- at a node that is no block, and at a block
    same_below : is_block (t.node i) ≡ false → (v w : Valuation) → Related t i v w
        → (a : ℕ) → mem a (operands (t.node i)) ≡ true → f a v ≡ g a w
    same_below b v w r a m = below a m v w (related_same i a h m b v w r)

    same_block : is_block (t.node i) ≡ true → (v w : Valuation) → Related t i v w
        → (q : Quantifier) (a : ℕ) → mem a (operands (t.node i)) ≡ true → quant q (bound (t.node i)) (f a) v ≡ quant q (new_names t i) (g a) w
    unfolding count
    same_block b v w r q a m =
        quant_two q (bound (t.node i)) (new_names t i) (sym (length-new_names t i)) (proper.apart i h) (distinct-new_names t i) (f a) (g a) v w
        (λ v' w' same ov ow. below a m v' w' (related_body i a h m b v w v' w' r same ov ow))

    renamed_node : (nd : Node) → t.node i ≡ nd → (v w : Valuation) → Related t i v w → node_value f nd v ≡ node_value g (cut_node t 0 i nd) w
    unfolding node_value cut_node operands is_block bound
    renamed_node (constant b) e v w r = refl
    renamed_node (variable x) e v w r = r x (variable_le t i x h e)
    renamed_node (negation a) e v w r = ap not (same_below (rw e refl) v w r a (rw e (mem_head a [])))
    renamed_node (operator o a b) e v w r =
        let same = same_below (rw e refl) v w r in
        ap₂ (operator_value o) (same a (rw e (mem_head a (b ∷ [])))) (same b (rw e (mem_tail b a (b ∷ []) (mem_head b []))))
    renamed_node (block q xs a) e v w r =
        ap (λ nd. quant q (bound nd) (f a) v) (sym e) ∙ same_block (rw e refl) v w r q a (rw e (mem_head a []))
        ∙ ap (λ nd. node_value g nd w) (sym (real i h q xs a))

  -- the bound of `value` is the same on both sides, and the induction is on it
  renamed_value : (f i : ℕ) → i < t.size → (v w : Valuation) → Related t i v w → value f t i v ≡ value f (cut t 0) i w
  unfolding value cut
  renamed_value zero i h v w r = refl
  renamed_value (suc f) i h v w r =
      renamed_node i h (value f t) (value f (cut t 0)) (λ a m. renamed_value f a (omega (arith, proper.tree.lower i a h m))) (t.node i) refl v w r

-- At the root every number is its own new name, so one valuation serves both sides.
pub renamed_truth : (t : Table) → Proper t → (v : Valuation) → truth t v ≡ value_at t 0 (t.size - 1) v
unfolding truth value_at
renamed_truth t proper v =
    renamed_value t proper t.size (t.size - 1) (omega arith) v v
    (λ x l. ap v (sym (new_name_root t proper.tree (t.size - 1) x (omega arith))))

-- Below a root block: a valuation that gives its variables what another gives their new names, both else as v, gives the body the
-- value that the other gives it at cut 0.
pub renamed_body : (t : Table) → Proper t → (i : ℕ) → suc i ≡ t.size → is_block (t.node i) ≡ true
    → (a : ℕ) → mem a (operands (t.node i)) ≡ true → (v v' w' : Valuation)
    → ((k : ℕ) → k < length (bound (t.node i)) → v' (get_or (bound (t.node i)) k 0) ≡ w' (get_or (new_names t i) k 0))
    → DiffersAtMostAt (bound (t.node i)) v' v → DiffersAtMostAt (new_names t i) w' v
    → value t.size t a v' ≡ value_at t 0 a w'
unfolding value_at
renamed_body t proper i e b a m v v' w' same ov ow =
    let h : i < t.size = omega arith in
    let l = proper.tree.lower i a h m in
    renamed_value t proper t.size a (omega arith) v' w'
    (related_body t proper i a h m b v v v' w' (λ x k. ap v (sym (new_name_root t proper.tree i x e))) same ov ow)
