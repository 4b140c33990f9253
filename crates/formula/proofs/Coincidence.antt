-- Only the numbers that are free matter (document 01: "what it gives to a number that is nowhere free in the table changes
-- neither value"). It holds of any table, whatever its operands: `value` and `free_at` go down the same way.
-- Assumes nothing.
use mathlib.Core.Path.{◌≡◌, refl, sym, ◌∙◌, ap, ap₂}
use mathlib.Core.Bool.{Bool, true, false, not, ◌&&◌, ◌||◌}
use mathlib.Core.List.{List, [], ◌∷◌}
use Prim.Native.Nat.{ℕ, zero, suc, ◌-◌}
use borrow.Author.Tests.{eq-eqb}
use Rattle.lists.specs.Choice.{Is, is_true, is_false, look, and_both, or_left, or_right}
use Rattle.lists.specs.Members.{mem}
use Rattle.formula.specs.Node.{Node, constant, variable, negation, operator, block, Table}
use Rattle.formula.specs.Words.{table_of}
use Rattle.formula.specs.Valuation.{Valuation}
use Rattle.formula.specs.Truth.{operator_value, node_value, value, truth, node_free, free_at, free}
use Rattle.formula.specs.Form.{Block, quantify, matrix_truth, form_truth, blocks_of, binds, form_free}
use Rattle.formula.specs.Meaning.{DiffersAtMostAt}
use Rattle.formula.proofs.Quantify.{Inside, quant_same}

-- Two valuations that are equal at the numbers that pass the test.
abbrev pub EqualAt : (ℕ → Bool) → Valuation → Valuation → Type 0
EqualAt p v u = (x : ℕ) → p x ≡ true → v x ≡ u x

-- f looks only at the numbers that pass the test.
abbrev pub Only : (ℕ → Bool) → (Valuation → Bool) → Type 0
Only p f = (v u : Valuation) → EqualAt p v u → f v ≡ f u

-- Past a range that two valuations share, they are equal wherever they were.
past : (p r : ℕ → Bool) (xs : List ℕ) (v u v' u' : Valuation)
    → ((x : ℕ) → mem x xs ≡ false → p x ≡ true → r x ≡ true)
    → EqualAt r v u → Inside xs v' u' → DiffersAtMostAt xs v' v → DiffersAtMostAt xs u' u → EqualAt p v' u'
past p r xs v u v' u' sub same shared ov ou x h = go (look (mem x xs))
  where
    go : Is (mem x xs) → v' x ≡ u' x
    go (is_true m) = shared x m
    go (is_false m) = ov x m ∙ same x (sub x m h) ∙ sym (ou x m)

module _ (at : ℕ → Valuation → Bool) (Free-in : ℕ → ℕ → Bool) (only : (a : ℕ) → Only (λ x. Free-in x a) (at a)) where
  node_only : (nd : Node) → Only (λ x. node_free (Free-in x) x nd) (node_value at nd)
  unfolding node_value node_free
  node_only (constant b) v u same = refl
  node_only (variable x) v u same = same x (eq-eqb x x refl)
  node_only (negation a) v u same = ap not (only a v u same)
  node_only (operator o a b) v u same =
      ap₂ (operator_value o)
      (only a v u (λ x h. same x (or_left (Free-in x a) (Free-in x b) h)))
      (only b v u (λ x h. same x (or_right (Free-in x a) (Free-in x b) h)))
  node_only (block q xs a) v u same =
      quant_same q xs (at a) (at a) v u
      (λ v' u' shared ov ou. only a v' u'
      (past (λ x. Free-in x a) (λ x. not (mem x xs) && Free-in x a) xs v u v' u'
      (λ x m h. and_both (not (mem x xs)) (Free-in x a) (ap not m) h) same shared ov ou))

pub value_only : (t : Table) (f i : ℕ) → Only (λ x. free_at f t x i) (value f t i)
unfolding value free_at
value_only t zero i v u same = refl
value_only t (suc f) i v u same = node_only (value f t) (free_at f t) (value_only t f) (t.node i) v u same

pub coincidence : (t : Table) (v u : Valuation) → ((x : ℕ) → free t x ≡ true → v x ≡ u x) → truth t v ≡ truth t u
unfolding truth free
coincidence t v u same = value_only t t.size (t.size - 1) v u same

quantify_only : (bs : List Block) (p : ℕ → Bool) (f : Valuation → Bool) → Only p f
    → Only (λ x. p x && not (binds bs x)) (quantify bs f)
unfolding quantify binds
quantify_only [] p f only v u same = only v u (λ x h. same x (and_both (p x) true h refl))
quantify_only (b ∷ bs) p f only v u same =
    quant_same b.quantifier b.variables (quantify bs f) (quantify bs f) v u
    (λ v' u' shared ov ou. quantify_only bs p f only v' u'
    (past (λ x. p x && not (binds bs x)) (λ x. p x && not (mem x b.variables || binds bs x)) b.variables v u v' u'
    (λ x m h. rw m h) same shared ov ou))

pub form_coincidence : (ns ps xs : List ℕ) (v u : Valuation) → ((x : ℕ) → form_free ns ps xs x ≡ true → v x ≡ u x)
    → form_truth ns ps xs v ≡ form_truth ns ps xs u
unfolding form_truth form_free matrix_truth
form_coincidence ns ps xs v u same =
    quantify_only (blocks_of ps xs) (free (table_of ns [])) (matrix_truth ns) (coincidence (table_of ns [])) v u same
