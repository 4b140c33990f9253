-- The laws on which belief in these definitions rests, as statements, so that a reader need not trust how `value`, `quant` and
-- `quantify` recurse. Each is proved under the name beside it: those of users in proofs/Users.antt, of free variables in
-- proofs/FreeVariables.antt, the others in proofs/Meaning.antt.
-- Assumes nothing.
use Rattle.std.specs.Prelude.{Bool, true, not, ◌&&◌, ◌||◌, List, [], ◌↔◌, ◌≡◌, ℕ, suc, ◌*◌, ◌-◌, ◌/◌, ◌<◌, ◌≤◌, length, drop}
use Rattle.std.specs.Bool.{xor, beq}
use Rattle.lists.specs.Members.{mem, ListOf}
use Rattle.formula.specs.Node.{exists, for_all, Table}
use Rattle.formula.specs.Words.{node_count, table_of}
use Rattle.formula.specs.Valuation.{Valuation, quant}
use Rattle.formula.specs.Truth.{operator_value, value, truth, free_at, free}
use Rattle.formula.specs.Form.{Block, prefix_width, block_at, blocks_of, quantify, form_truth, form_free}
use Rattle.formula.specs.FreeVariables.{free_variables, form_free_variables}
use Rattle.formula.specs.Tree.{Tree, UsersOf, users, times_named}
use Rattle.formula.specs.Meaning.{UnderSome, UnderEvery, TableMeaning, BlockIs, PrefixMeaning}

-- Operators, "shown once for all sixteen". Every function of two arguments is an operator (every_operator),
abbrev pub EveryOperator : Type 0
EveryOperator = (g : Bool → Bool → Bool) → (f : ℕ) × (f < 16) × ((l r : Bool) → operator_value f l r ≡ g l r)

-- and of one truth table only (one_truth_table).
abbrev pub OneTruthTable : Type 0
OneTruthTable =
    (f g : ℕ) → f < 16 → g < 16 → ((l r : Bool) → operator_value f l r ≡ operator_value g l r) → f ≡ g

-- "so and is 8, or 14, xor 6, biconditional 9, left implies right 11." (operator_names)
pub record OperatorNames : Type 0 where
  pub and_8 : (l r : Bool) → operator_value 8 l r ≡ (l && r)
  pub or_14 : (l r : Bool) → operator_value 14 l r ≡ (l || r)
  pub xor_6 : (l r : Bool) → operator_value 6 l r ≡ xor l r
  pub biconditional_9 : (l r : Bool) → operator_value 9 l r ≡ beq l r
  pub implies_11 : (l r : Bool) → operator_value 11 l r ≡ (not l || r)

-- Quantifiers. `quant`, which tries false and true one variable at a time, is the quantification meant (exists_read,
-- for_all_read).
abbrev pub ExistsRead : Type 0
ExistsRead = (xs : List ℕ) (f : Valuation → Bool) (v : Valuation) → (quant exists xs f v ≡ true) ↔ UnderSome xs f v

abbrev pub ForAllRead : Type 0
ForAllRead = (xs : List ℕ) (f : Valuation → Bool) (v : Valuation) → (quant for_all xs f v ≡ true) ↔ UnderEvery xs f v

-- Tables: "a table is a tree." `value` gives its nodes values with the meaning of TableMeaning (value_means),
abbrev pub ValueMeans : Type 0
ValueMeans = (t : Table) → Tree t → TableMeaning t (value t.size t)

-- there are no others (one_meaning),
abbrev pub OneMeaning : Type 0
OneMeaning =
    (t : Table) → Tree t
    → (val val' : ℕ → Valuation → Bool) → TableMeaning t val → TableMeaning t val'
    → (i : ℕ) → i < t.size → (v : Valuation) → val i v ≡ val' i v

-- and so `truth` is the root's value in any assignment with that meaning (truth_means).
abbrev pub TruthMeans : Type 0
TruthMeans =
    (t : Table) → Tree t
    → (val : ℕ → Valuation → Bool) → TableMeaning t val → (v : Valuation) → truth t v ≡ val (t.size - 1) v

-- The bound on which `value` and `free_at` recurse says nothing (value_bound, free_bound).
abbrev pub ValueBound : Type 0
ValueBound =
    (t : Table) → Tree t
    → (f g i : ℕ) → i < f → i < g → i < t.size → (v : Valuation) → value f t i v ≡ value g t i v

abbrev pub FreeBound : Type 0
FreeBound =
    (t : Table) → Tree t
    → (x f g i : ℕ) → i < f → i < g → i < t.size → free_at f t x i ≡ free_at g t x i

-- Prefixes. Block j is the one that the words of the prefix hold at j, and there are no more (blocks_read, blocks_count).
abbrev pub BlocksRead : Type 0
BlocksRead = (ps xs : List ℕ) (j : ℕ) → j < length ps / prefix_width → BlockIs (blocks_of ps xs) j (block_at ps xs j)

abbrev pub BlocksCount : Type 0
BlocksCount = (ps xs : List ℕ) → length (blocks_of ps xs) ≡ length ps / prefix_width

-- `quantify` gives the blocks values with the meaning of PrefixMeaning (quantify_means),
abbrev pub QuantifyMeans : Type 0
QuantifyMeans = (bs : List Block) (f : Valuation → Bool) → PrefixMeaning bs f (λ j. quantify (drop j bs) f)

-- there are no others (one_prefix_meaning),
abbrev pub OnePrefixMeaning : Type 0
OnePrefixMeaning =
    (bs : List Block) (f : Valuation → Bool)
    → (val val' : ℕ → Valuation → Bool) → PrefixMeaning bs f val → PrefixMeaning bs f val'
    → (j : ℕ) → j ≤ length bs → (v : Valuation) → val j v ≡ val' j v

-- and so `form_truth` is the value from block 0 on in any assignments with these meanings (form_truth_means).
abbrev pub FormTruthMeans : Type 0
FormTruthMeans =
    (ns ps xs : List ℕ) → Tree (table_of ns [])
    → (node : ℕ → Valuation → Bool) → TableMeaning (table_of ns []) node
    → (val : ℕ → Valuation → Bool) → PrefixMeaning (blocks_of ps xs) (node (node_count ns - 1)) val
    → (v : Valuation) → form_truth ns ps xs v ≡ val 0 v

-- "what it gives to a number that is nowhere free in the table changes neither value" (table_coincidence, form_coincidence_lem)
abbrev pub TableCoincidence : Type 0
TableCoincidence = (t : Table) (v u : Valuation) → ((x : ℕ) → free t x ≡ true → v x ≡ u x) → truth t v ≡ truth t u

abbrev pub FormCoincidence : Type 0
FormCoincidence =
    (ns ps xs : List ℕ) (v u : Valuation) → ((x : ℕ) → form_free ns ps xs x ≡ true → v x ≡ u x)
    → form_truth ns ps xs v ≡ form_truth ns ps xs u

-- Users. `users` lists the users of a node (users_read),
abbrev pub UsersRead : Type 0
UsersRead = (t : Table) (i : ℕ) → UsersOf t i (users t i)

-- no other list does (one_list_of_users),
abbrev pub OneListOfUsers : Type 0
OneListOfUsers = (t : Table) (i : ℕ) (us us' : List ℕ) → UsersOf t i us → UsersOf t i us' → us ≡ us'

-- and it is as long as the node is named often (users_counted).
abbrev pub UsersCounted : Type 0
UsersCounted = (t : Table) (i : ℕ) → length (users t i) ≡ times_named t i

-- Free variables. A number is in the list exactly if it is free, and the list ascends strictly (free_listed, form_free-listed): no
-- other list does so (one_list, crates/lists/proofs/Passing.antt).
abbrev pub FreeListed : Type 0
FreeListed = (t : Table) → Tree t → ListOf (free t) (free_variables t)

abbrev pub FormFreeListed : Type 0
FormFreeListed = (ns ps xs : List ℕ) → Tree (table_of ns []) → ListOf (form_free ns ps xs) (form_free_variables ns ps xs)

-- Two valuations that agree on the list give the same truth value (table_by_list, form_by_list),
abbrev pub AgreeOn : List ℕ → Valuation → Valuation → Type 0
AgreeOn xs v u = (x : ℕ) → mem x xs ≡ true → v x ≡ u x

abbrev pub TableByList : Type 0
TableByList = (t : Table) → Tree t → (v u : Valuation) → AgreeOn (free_variables t) v u → truth t v ≡ truth t u

abbrev pub FormByList : Type 0
FormByList =
    (ns ps xs : List ℕ) → Tree (table_of ns [])
    → (v u : Valuation) → AgreeOn (form_free_variables ns ps xs) v u → form_truth ns ps xs v ≡ form_truth ns ps xs u

-- and a tree of n nodes has at most (n + 1) / 2 leaves, so no more free variables (free_few).
abbrev pub FreeFew : Type 0
FreeFew = (t : Table) → Tree t → 2 * length (free_variables t) ≤ suc t.size
