-- Proofs of the laws of specs/Laws.antt: `truth` and `form_truth` are what document 01 means, and nothing else is.
-- Assumes nothing.
use mathlib.Core.Path.{◌≡◌, refl, sym, ◌∙◌, ap, fun_ext}
use mathlib.Core.Bool.{Bool, true}
use mathlib.Core.List.{List, [], ◌∷◌}
use mathlib.Core.Logic.{◌↔◌}
use Prim.Native.Nat.{ℕ, zero, suc, ◌+◌, ◌-◌, ◌/◌, ◌<◌, ◌≤◌}
use native.Mathlib.Omega.{arith}
use native.Mathlib.Nat.{zero-add, not-suc-le-zero}
use lib.ListN.{length, drop, length-drop, drop_of_length-le}
use lib.Seq.{drop-drop}
use Rattle.lists.specs.Choice.{same_test}
use Rattle.formula.specs.Node.{Quantifier, exists, for_all, Node, constant, variable, negation, operator, block, Table}
use Rattle.formula.specs.Words.{node_count, table_of}
use Rattle.formula.specs.Valuation.{Valuation, quant}
use Rattle.formula.specs.Truth.{node_value, value, truth}
use Rattle.formula.specs.Form.{Block, prefix_width, block_at, blocks_from, blocks_of, quantify, matrix_truth, form_truth}
use Rattle.formula.specs.Tree.{Tree}
use Rattle.formula.specs.Meaning.{UnderSome, UnderEvery, TableMeaning, BlockIs, PrefixMeaning}
use Rattle.formula.specs.Laws.{EveryOperator, OneTruthTable, OperatorNames, ExistsRead, ForAllRead, ValueMeans, OneMeaning, TruthMeans, ValueBound, FreeBound, BlocksRead, BlocksCount, QuantifyMeans, OnePrefixMeaning, FormTruthMeans, TableCoincidence, FormCoincidence}
use Rattle.formula.proofs.Coincidence.{coincidence, form_coincidence}
use Rattle.formula.proofs.Operators.{table_for, operator_of, table_for_lt, table_of_lem, and_is_8, or_is_14, xor_is_6, biconditional_is_9, implies_is_11}
use Rattle.formula.proofs.Quantify.{quant_cong}
use Rattle.formula.proofs.Reading.{exists_reading, for_all_reading, exists_block_lem, for_all_block}
use Rattle.formula.proofs.Unfolding.{node_cong, value_fuel, free_at_fuel, value_constant, value_variable, value_negation, value_operator}

pub every_operator : EveryOperator
every_operator g = (table_for g, table_for_lt g, operator_of g)

pub one_truth_table : OneTruthTable
one_truth_table f g h k same =
    sym (table_of_lem f h) ∙ ap table_for (fun_ext (λ l. fun_ext (λ r. same l r))) ∙ table_of_lem g k

pub operator_names : OperatorNames
operator_names =
    record {
      and_8 = and_is_8;
      or_14 = or_is_14;
      xor_6 = xor_is_6;
      biconditional_9 = biconditional_is_9;
      implies_11 = implies_is_11;
    }

pub exists_read : ExistsRead
exists_read = exists_reading

pub for_all_read : ForAllRead
for_all_read = for_all_reading

-- A value that reads as a quantifier is the quantifier's.
module _ (xs : List ℕ) (f : Valuation → Bool) (v : Valuation) (b : Bool) where
  some_quant : (b ≡ true) ↔ UnderSome xs f v → b ≡ quant exists xs f v
  some_quant reads =
      let q = exists_reading xs f v in
      same_test b (quant exists xs f v) (λ h. q.1 (reads.0 h)) (λ h. reads.1 (q.0 h))

  every_quant : (b ≡ true) ↔ UnderEvery xs f v → b ≡ quant for_all xs f v
  every_quant reads =
      let q = for_all_reading xs f v in
      same_test b (quant for_all xs f v) (λ h. q.1 (reads.0 h)) (λ h. reads.1 (q.0 h))

pub value_means : ValueMeans
value_means t tree =
    let lower = tree.lower in
    record {
      at_constant = λ i c h e v. value_constant t lower i h v c e;
      at_variable = λ i x h e v. value_variable t lower i h v x e;
      at_negation = λ i a h e v. value_negation t lower i h v a e;
      at_operator = λ i f a b h e v. value_operator t lower i h v f a b e;
      at_exists = λ i xs a h e v. exists_block_lem t lower i h xs a v e;
      at_for_all = λ i xs a h e v. for_all_block t lower i h xs a v e;
    }

module _ (t : Table) (tree : Tree t) (val : ℕ → Valuation → Bool) (means : TableMeaning t val) where
  -- The value of a node from those of its operands.
  meant_node : (i : ℕ) → i < t.size → (v : Valuation) (nd : Node) → t.node i ≡ nd → val i v ≡ node_value val nd v
  unfolding node_value
  meant_node i h v (constant c) e = means.at_constant i c h e v
  meant_node i h v (variable x) e = means.at_variable i x h e v
  meant_node i h v (negation a) e = means.at_negation i a h e v
  meant_node i h v (operator f a b) e = means.at_operator i f a b h e v
  meant_node i h v (block exists xs a) e = some_quant xs (val a) v (val i v) (means.at_exists i xs a h e v)
  meant_node i h v (block for_all xs a) e = every_quant xs (val a) v (val i v) (means.at_for_all i xs a h e v)

  -- What is meant is what `value` gives.
  meant_value : (f i : ℕ) → i < f → i < t.size → (v : Valuation) → val i v ≡ value f t i v
  unfolding value
  meant_value zero i k h v = absurd (not-suc-le-zero k)
  meant_value (suc f) i k h v =
      meant_node i h v (t.node i) refl
      ∙ node_cong (t.node i) val (value f t)
      (λ a n. let j : a < i = tree.lower i a h n in meant_value f a (omega arith) (omega arith)) v

pub one_meaning : OneMeaning
one_meaning t tree val val' means means' i h v =
    meant_value t tree val means t.size i h h v ∙ sym (meant_value t tree val' means' t.size i h h v)

pub truth_means : TruthMeans
unfolding truth
truth_means t tree val means v =
    let root : t.size - 1 < t.size = omega (arith, tree.nonempty) in
    sym (meant_value t tree val means t.size (t.size - 1) root root v)

pub value_bound : ValueBound
value_bound t tree = value_fuel t tree.lower

pub free_bound : FreeBound
free_bound t tree = free_at_fuel t tree.lower

-- Block k of those from block j on.
blocks_from_lem : (ps xs : List ℕ) (k j i m : ℕ) → k < m → j + k ≡ i → BlockIs (blocks_from ps xs j m) k (block_at ps xs i)
unfolding blocks_from
blocks_from_lem ps xs k j i zero h e = absurd (not-suc-le-zero h)
blocks_from_lem ps xs zero j i (suc m) h e =
    let same : j ≡ i = omega arith in (blocks_from ps xs (suc j) m, ap (λ n. block_at ps xs n ∷ blocks_from ps xs (suc j) m) same)
blocks_from_lem ps xs (suc k) j i (suc m) h e = blocks_from_lem ps xs k (suc j) i m (omega arith) (omega arith)

pub blocks_read : BlocksRead
unfolding blocks_of
blocks_read ps xs j h = blocks_from_lem ps xs j 0 j (length ps / prefix_width) h (zero-add j)

blocks_length : (ps xs : List ℕ) (j m : ℕ) → length (blocks_from ps xs j m) ≡ m
unfolding blocks_from
blocks_length ps xs j zero = refl
blocks_length ps xs j (suc m) = ap suc (blocks_length ps xs (suc j) m)

pub blocks_count : BlocksCount
unfolding blocks_of
blocks_count ps xs = blocks_length ps xs 0 (length ps / prefix_width)

-- What follows block j.
drop_next : (bs : List Block) (j : ℕ) (b : Block) (rest : List Block) → drop j bs ≡ b ∷ rest → drop (suc j) bs ≡ rest
drop_next bs j b rest e =
    let next : j + 1 ≡ suc j = omega arith in
    ap (λ (k : ℕ). drop k bs) (sym next) ∙ sym (drop-drop 1 j bs) ∙ ap (drop 1) e

-- A block over all that follows it.
quantify_block : (bs : List Block) (f : Valuation → Bool) (j : ℕ) (b : Block) → BlockIs bs j b → (q : Quantifier) → b.quantifier ≡ q
    → (v : Valuation) → quantify (drop j bs) f v ≡ quant q b.variables (quantify (drop (suc j) bs) f) v
unfolding quantify
quantify_block bs f j b (rest, e) q k v = rw (e, drop_next bs j b rest e, k)

pub quantify_means : QuantifyMeans
unfolding quantify
quantify_means bs f =
    record {
      block_exists = λ j b is k v. rw (quantify_block bs f j b is exists k v) (exists_reading _ _ v);
      block_for_all = λ j b is k v. rw (quantify_block bs f j b is for_all k v) (for_all_reading _ _ v);
      last_node = λ v. rw (drop_of_length-le bs {i = length bs} (omega arith));
    }

module _ (bs : List Block) (f : Valuation → Bool) (val : ℕ → Valuation → Bool) (means : PrefixMeaning bs f val) where
  meant_block : (j : ℕ) (b : Block) → BlockIs bs j b → (q : Quantifier) → b.quantifier ≡ q → (v : Valuation)
      → val j v ≡ quant q b.variables (val (suc j)) v
  meant_block j b is exists e v = some_quant b.variables (val (suc j)) v (val j v) (means.block_exists j b is e v)
  meant_block j b is for_all e v = every_quant b.variables (val (suc j)) v (val j v) (means.block_for_all j b is e v)

  -- What is meant is what `quantify` gives: rest are the blocks from block j on.
  meant_quantify : (rest : List Block) (j : ℕ) → drop j bs ≡ rest → j + length rest ≡ length bs
      → (v : Valuation) → val j v ≡ quantify rest f v
  unfolding quantify
  meant_quantify [] j e l v = let k : j ≡ length bs = omega arith in rw k (means.last_node v)
  meant_quantify (b ∷ rest) j e l v =
      meant_block j b (rest, e) b.quantifier refl v
      ∙ quant_cong b.quantifier b.variables (val (suc j)) (quantify rest f) v
      (meant_quantify rest (suc j) (drop_next bs j b rest e) (omega arith))

  meant_prefix : (j : ℕ) → j ≤ length bs → (v : Valuation) → val j v ≡ quantify (drop j bs) f v
  meant_prefix j h = meant_quantify (drop j bs) j refl (let l = length-drop j bs in omega arith)

pub one_prefix_meaning : OnePrefixMeaning
one_prefix_meaning bs f val val' means means' j h v =
    meant_prefix bs f val means j h v ∙ sym (meant_prefix bs f val' means' j h v)

pub form_truth_means : FormTruthMeans
unfolding form_truth matrix_truth table_of
form_truth_means ns ps xs tree node means val prefix v =
    ap (λ f. quantify (blocks_of ps xs) f v) (fun_ext (truth_means (table_of ns []) tree node means))
    ∙ sym (meant_prefix (blocks_of ps xs) (node (node_count ns - 1)) val prefix 0 (omega arith) v)

pub table_coincidence : TableCoincidence
table_coincidence = coincidence

pub form_coincidence_lem : FormCoincidence
form_coincidence_lem = form_coincidence
