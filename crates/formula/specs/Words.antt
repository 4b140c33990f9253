-- Words as nodes (document 01, "The formula table"): "a lent run of 32-bit words, four to a node (kind and three fields),
-- and a lent list of 32-bit variable numbers. Nodes count from 0. The last node is the root."
-- Assumes nothing.
use Rattle.std.specs.Prelude.{Bool, false, ◌&&◌, ◌||◌, List, [], ◌∷◌, ℕ, ◌+◌, ◌*◌, ◌/◌, eqb, length, get_or, take, drop}
use Rattle.lists.specs.Choice.{pick}
use Rattle.formula.specs.Node.{exists, for_all, Node, constant, variable, negation, operator, block, Table}
use Rattle.formula.specs.Truth.{digit}
use Rattle.formula.specs.declared.NodeWords.{NodeWords}

-- The words of a node: a kind and three fields. Nothing else says how many there are.
abbrev pub width : ℕ
width = 4

abbrev pub node_count : List ℕ → ℕ
node_count ws = length ws / width

-- Word f of node i: the kind at 0, the fields at 1, 2 and 3.
unfoldable pub field : List ℕ → ℕ → ℕ → ℕ
field ws i f = get_or ws (width * i + f) 0

-- Kinds 5 and 6: "exists block", "for-all block".
unfoldable pub is_block_kind : ℕ → Bool
is_block_kind kind = eqb kind 5 || eqb kind 6

-- A block that binds nothing: "a count of 0" (request S-6).
unfoldable pub is_empty_block : NodeWords → Bool
is_empty_block w = is_block_kind w.kind && eqb w.b 0

-- "A block binds the `count` entries from `first` on" (document 01: the block's stretch).
unfoldable pub range : List ℕ → ℕ → ℕ → List ℕ
range ls first count = take count (drop first ls)

-- The words of node i: its kind and what stands in its fields.
abbrev pub words_at : List ℕ → ℕ → NodeWords
words_at ws i = record { kind = field ws i 0; a = field ws i 1; b = field ws i 2; c = field ws i 3 }

-- The node that words make. A word that is no kind reads as constant 0; no accepted table has one.
unfoldable pub node_of : List ℕ → NodeWords → Node
node_of ls w =
    pick (eqb w.kind 1) (constant (eqb w.a 1))
    (pick (eqb w.kind 2) (variable w.a)
    (pick (eqb w.kind 3) (negation w.a)
    (pick (eqb w.kind 4) (operator w.a w.b w.c)
    (pick (eqb w.kind 5) (block exists (range ls w.a w.b) w.c)
    (pick (eqb w.kind 6) (block for_all (range ls w.a w.b) w.c)
    (constant false))))))

-- The words of a node, "fields not named .. are 0". Where a block's variables stand in the list is not the node's to say, so a
-- block has none. Read back, the words of any other node make it (proofs/Nodes.antt: words_node).
unfoldable pub words_of : Node → NodeWords
words_of (constant b) = record { kind = 1; a = digit b; b = 0; c = 0 }
words_of (variable x) = record { kind = 2; a = x; b = 0; c = 0 }
words_of (negation i) = record { kind = 3; a = i; b = 0; c = 0 }
words_of (operator f i j) = record { kind = 4; a = f; b = i; c = j }
words_of (block q xs i) = record { kind = 0; a = 0; b = 0; c = 0 }

-- The words of a block, by its kind: "first list entry, count, body".
unfoldable pub block_words : ℕ → ℕ → ℕ → ℕ → NodeWords
block_words kind first count body = record { kind = kind; a = first; b = count; c = body }

-- A node's words in the order in which they stand in a table.
unfoldable pub word_list : NodeWords → List ℕ
word_list w = w.kind ∷ w.a ∷ w.b ∷ w.c ∷ []

unfoldable pub node_words : Node → List ℕ
node_words n = word_list (words_of n)

-- Node i of the table with words ws and list ls.
unfoldable pub node_at : List ℕ → List ℕ → ℕ → Node
node_at ws ls i = node_of ls (words_at ws i)

unfoldable pub table_of : List ℕ → List ℕ → Table
table_of ws ls = record { size = node_count ws; node = node_at ws ls }
