-- Lists of nodes as tables: their words read back, and the values of their nodes.
-- Assumes nothing.
use mathlib.Core.Path.{◌≡◌, refl, sym, ◌∙◌, ap, ap₂, subst, fun_ext}
use mathlib.Core.Bool.{Bool, false, not}
use mathlib.Core.List.{List, [], ◌∷◌, ◌++◌, flat_map}
use Prim.Native.Nat.{ℕ, zero, suc, ◌+◌, ◌-◌, ◌*◌, ◌<◌}
use native.Mathlib.Omega.{arith}
use native.Mathlib.Nat.{not-suc-le-zero}
use lib.ListN.{length, get_or, length-append, get_or-append}
use lib.Seq.{get_or-append-add}
use Rattle.lists.specs.Choice.{pick}
use Rattle.formula.specs.Node.{Node, constant, variable, negation, operator, Table, is_block}
use Rattle.formula.specs.Words.{width, node_count, field, words_at, node_of, words_of, word_list, node_at, table_of, node_words}
use Rattle.formula.proofs.Nodes.{words_node, word_list-length, words_first, words_after}
use Rattle.formula.specs.Valuation.{Valuation}
use Rattle.formula.specs.Truth.{operator_value, node_value, value, truth}

-- A list of nodes as a table.
unfoldable pub list_table : List Node → Table
list_table ns = record { size = length ns; node = λ i. get_or ns i (constant false) }

-- no node of the list is a block
abbrev pub Plain : List Node → Type 0
Plain ns = (i : ℕ) → i < length ns → is_block (get_or ns i (constant false)) ≡ false

-- the words of a list of nodes, read back
pub length_words : (ns : List Node) → length (flat_map node_words ns) ≡ width * length ns
unfolding flat_map node_words
length_words [] = refl
length_words (nd ∷ ns) =
    omega (arith, length_words ns, length-append (word_list (words_of nd)) (flat_map node_words ns), word_list-length (words_of nd))

pub words_count : (ns : List Node) → node_count (flat_map node_words ns) ≡ length ns
words_count ns = omega (arith, length_words ns)

words_here : (nd : Node) (ns : List Node) → words_at (flat_map node_words (nd ∷ ns)) 0 ≡ words_of nd
unfolding flat_map node_words
words_here nd ns = words_first (words_of nd) (flat_map node_words ns)

words_next : (nd : Node) (ns : List Node) (i : ℕ) → words_at (flat_map node_words (nd ∷ ns)) (suc i) ≡ words_at (flat_map node_words ns) i
unfolding flat_map node_words
words_next nd ns i = words_after (words_of nd) (flat_map node_words ns) i

words_none : (i : ℕ) → node_at [] [] i ≡ constant false
unfolding node_at field node_of pick
words_none i = refl

-- node i's words, where there is one
pub words_at_lem : (ns : List Node) (i : ℕ) → i < length ns → words_at (flat_map node_words ns) i ≡ words_of (get_or ns i (constant false))
words_at_lem [] i h = absurd (not-suc-le-zero h)
words_at_lem (nd ∷ ns) zero h = words_here nd ns
words_at_lem (nd ∷ ns) (suc i) h = words_next nd ns i ∙ words_at_lem ns i (omega arith)

-- beyond the end too, both read as constant 0
pub words_read : (ns : List Node) → Plain ns → (i : ℕ) → node_at (flat_map node_words ns) [] i ≡ get_or ns i (constant false)
unfolding node_at flat_map
words_read [] plain i = words_none i
words_read (nd ∷ ns) plain zero = ap (node_of []) (words_here nd ns) ∙ words_node [] nd (plain zero (omega arith))
words_read (nd ∷ ns) plain (suc i) = ap (node_of []) (words_next nd ns i) ∙ words_read ns (λ j h. plain (suc j) (omega arith)) i

pub words_table : (ns : List Node) → Plain ns → table_of (flat_map node_words ns) [] ≡ list_table ns
unfolding table_of list_table
words_table ns plain =
    ap₂ (λ (n : ℕ) (f : ℕ → Node). record { size = n; node = f }) (words_count ns) (fun_ext (words_read ns plain))

-- Node i of the list has value b under v, however far down its operands are followed.
abbrev pub Val : List Node → Valuation → ℕ → Bool → Type 0
Val ms v i b = (f : ℕ) → i < f → value f (list_table ms) i v ≡ b

module _ (ms : List Node) (v : Valuation) where
  step : (i f : ℕ) (nd : Node) → get_or ms i (constant false) ≡ nd
      → value (suc f) (list_table ms) i v ≡ node_value (value f (list_table ms)) nd v
  unfolding value list_table
  step i f nd e = ap (λ (n : Node). node_value (value f (list_table ms)) n v) e

  pub val_constant : (i : ℕ) (b : Bool) → get_or ms i (constant false) ≡ constant b → Val ms v i b
  unfolding node_value
  val_constant i b e zero h = absurd (not-suc-le-zero h)
  val_constant i b e (suc f) h = step i f (constant b) e

  pub val_variable : (i x : ℕ) → get_or ms i (constant false) ≡ variable x → Val ms v i (v x)
  unfolding node_value
  val_variable i x e zero h = absurd (not-suc-le-zero h)
  val_variable i x e (suc f) h = step i f (variable x) e

  pub val_negation : (i a : ℕ) (b : Bool) → get_or ms i (constant false) ≡ negation a → a < i → Val ms v a b → Val ms v i (not b)
  unfolding node_value
  val_negation i a b e l p zero h = absurd (not-suc-le-zero h)
  val_negation i a b e l p (suc f) h = step i f (negation a) e ∙ ap not (p f (omega arith))

  pub val_operator : (i o a b : ℕ) (x y : Bool) → get_or ms i (constant false) ≡ operator o a b → a < i → b < i
      → Val ms v a x → Val ms v b y → Val ms v i (operator_value o x y)
  unfolding node_value
  val_operator i o a b x y e l r p q zero h = absurd (not-suc-le-zero h)
  val_operator i o a b x y e l r p q (suc f) h =
      step i f (operator o a b) e ∙ ap₂ (operator_value o) (p f (omega arith)) (q f (omega arith))

  pub val_is : (i j : ℕ) (b c : Bool) → i ≡ j → b ≡ c → Val ms v i b → Val ms v j c
  val_is i j b c e d p = subst (Val ms v j) d (subst (λ (k : ℕ). Val ms v k b) e p)

  -- the last node's value is the table's
  pub val_truth : (b : Bool) → 0 < length ms → Val ms v (length ms - 1) b → truth (list_table ms) v ≡ b
  unfolding truth list_table
  val_truth b h p = p (length ms) (omega arith)

-- The nodes xs stand in ms from index s on.
abbrev pub Placed : List Node → ℕ → List Node → Type 0
Placed ms s xs = (k : ℕ) → k < length xs → get_or ms (s + k) (constant false) ≡ get_or xs k (constant false)

module _ (ms : List Node) where
  pub placed_all : Placed ms 0 ms
  placed_all k h = ap (λ (i : ℕ). get_or ms i (constant false)) (omega arith)

  pub placed_left : (s : ℕ) (xs ys : List Node) → Placed ms s (xs ++ ys) → Placed ms s xs
  placed_left s xs ys p k h = p k (omega (arith, length-append xs ys)) ∙ get_or-append xs ys (constant false) k h

  pub placed_right : (s : ℕ) (xs ys : List Node) → Placed ms s (xs ++ ys) → Placed ms (s + length xs) ys
  placed_right s xs ys p k h =
      let e : s + length xs + k ≡ s + (length xs + k) = omega arith in
      ap (λ (i : ℕ). get_or ms i (constant false)) e
      ∙ p (length xs + k) (omega (arith, length-append xs ys))
      ∙ get_or-append-add xs ys k (constant false)

  -- node k of what is placed, at index j
  pub placed_at : (s : ℕ) (xs : List Node) → Placed ms s xs → (k j : ℕ) → k < length xs → s + k ≡ j
      → get_or ms j (constant false) ≡ get_or xs k (constant false)
  placed_at s xs p k j h e = ap (λ (i : ℕ). get_or ms i (constant false)) (sym e) ∙ p k h
