-- The nodes of a prenex form (document 01, "The written form").
-- Assumes nothing.
use mathlib.Core.List.{List, [], ◌∷◌, ◌++◌, flat_map}
use Rattle.std.specs.Prelude.{ℕ, zero, suc, ◌+◌, ◌-◌, ◌*◌, eqb, length, get_or}
use Rattle.lists.specs.Choice.{pick}
use Rattle.lists.specs.Parts.{up_to}
use Rattle.formula.specs.Node.{Quantifier, exists, for_all, Node, constant, variable, negation, operator, block, Table, is_block}
use Rattle.formula.specs.Words.{node_words}
use Rattle.formula.specs.Tree.{count}
use Rattle.prenex_form.specs.Names.{new_name, new_names, copies, definition_variable}
use Rattle.prenex_form.specs.Levels.{blocks_at, levels, quantifier_at, level_quantifier}

-- The truth tables that the form uses: "and is 8, or 14, xor 6, biconditional 9, left implies right 11".
abbrev pub and : ℕ
and = 8

abbrev pub or : ℕ
or = 14

abbrev pub iff : ℕ
iff = 9

abbrev pub implies : ℕ
implies = 11

-- "Let K be n, or n − 1 if the root is a block."
unfoldable pub kept : Table → ℕ
kept t = t.size - pick (is_block (t.node (t.size - 1))) 1 0

-- "the input's, .. with variables renamed and each inner block replaced by a variable node holding its mark"
unfoldable pub renamed : Table → ℕ → Node → Node
renamed t i (constant b) = constant b
renamed t i (variable x) = variable (new_name t i x)
renamed t i (negation a) = negation a
renamed t i (operator f a b) = operator f a b
renamed t i (block q xs a) = variable (definition_variable t i)

-- "The first K nodes are the input's, at the same indices".
unfoldable pub first_nodes : Table → List Node
first_nodes t = up_to (λ i. renamed t i (t.node i) ∷ []) (kept t)

unfoldable pub body_of : Node → ℕ
body_of (constant b) = 0
body_of (variable x) = 0
body_of (negation a) = 0
body_of (operator f a b) = 0
body_of (block q xs a) = a

-- Step 2's equations of block i, the first at index s: "for each entry the variable, its copy, operator 9 of the two, and from the
-- second entry on operator 8 (those before, this one)". Entry k's nodes end at index s + 4 k + 2.
unfoldable pub equation : Table → ℕ → ℕ → ℕ → List Node
equation t i s k =
    let x = variable (get_or (new_names t i) k 0) in
    let y = variable (get_or (copies t i) k 0) in
    let e = s + 4 * k in
    pick (eqb k 0)
    (x ∷ y ∷ operator iff s (s + 1) ∷ [])
    (x ∷ y ∷ operator iff (e - 1) e ∷ operator and (e - 2) (e + 1) ∷ [])

-- Step 2's operator: "operator 14 (mark, that) for exists or 11 (mark, that) for for-all".
unfoldable pub guard : Quantifier → ℕ
guard exists = or
guard for_all = implies

-- Steps 1 and 2 of block i, which binds a variable, the first node at index s.
unfoldable pub constraint : Table → ℕ → ℕ → List Node
constraint t i s =
    let definition = variable (definition_variable t i) in
    let c = count t i in
    let e = s + 4 * c in
    definition ∷ operator iff s (body_of (t.node i)) ∷
    (up_to (equation t i (s + 2)) c ++ (definition ∷ operator (guard (quantifier_at (t.node i))) (e + 1) e ∷ operator and (s + 1) (e + 2) ∷ []))

-- The blocks of a level after its first, whose constraints end at index s - 1: "from the level's second block on, operator 8
-- (those before, this block's)".
unfoldable pub further : Table → List ℕ → ℕ → List Node
further t [] s = []
further t (i ∷ is) s =
    let c = constraint t i s in
    let e = s + length c in
    c ++ (operator and (s - 1) (e - 1) ∷ further t is (e + 1))

-- The constraints of a level's blocks, the first node at index s.
unfoldable pub constraints : Table → List ℕ → ℕ → List Node
constraints t [] s = []
constraints t (i ∷ is) s = let c = constraint t i s in c ++ further t is (s + length c)

-- "The level ends with one wrap of its constraints C: operator 8 (matrix, C) if the level's quantifier is for-all, operator 11 (C,
-- matrix) if exists."
unfoldable pub level_join : Quantifier → ℕ → ℕ → Node
level_join for_all m c = operator and m c
level_join exists m c = operator implies c m

-- Level j + 1, its first node at index s. The matrix so far is node s - 1.
unfoldable pub level_nodes : Table → ℕ → ℕ → List Node
level_nodes t j s =
    let cs = constraints t (blocks_at t (suc j)) s in
    cs ++ (level_join (level_quantifier t j) (s - 1) (s + length cs - 1) ∷ [])

-- The first nodes and those of the first l levels.
unfoldable pub nodes_to : Table → ℕ → List Node
nodes_to t zero = first_nodes t
nodes_to t (suc j) = let ns = nodes_to t j in ns ++ level_nodes t j (length ns)

-- The nodes of the prenex form. "The last node written is the root."
unfoldable pub prenex_nodes : Table → List Node
prenex_nodes t = nodes_to t (levels t)

-- The nodes' words, one node after the other. No prenex form holds a block.
unfoldable pub written_nodes : Table → List ℕ
written_nodes t = flat_map node_words (prenex_nodes t)
