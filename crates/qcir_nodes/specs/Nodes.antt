-- What each token of a gate line adds to the table, given how far the writing has come.
-- Assumes nothing.
use Rattle.std.specs.Prelude.{Bool, not, Option, Some, None, List, [], ◌∷◌, ◌++◌, ◌≡◌, ℕ, ◌+◌, ◌-◌, ◌*◌, ◌≤◌, eqb, leb, length}
use Rattle.lists.specs.Choice.{pick}
use Rattle.lists.specs.Parts.{overwrite}
use Rattle.formula.specs.Node.{constant, variable, negation, operator}
use Rattle.formula.specs.Words.{width, words_of, block_words, word_list}
use Rattle.formula.specs.declared.NodeWords.{NodeWords}
use Rattle.acceptance.specs.Limits.{limit}
use Rattle.qcir_tokens.specs.Tokens.{is_definition, is_bound, is_minus, is_last, empty_role}
use Rattle.qcir_nodes.specs.declared.Progress.{Progress}

-- The words of nodes that are added, and how far the writing has come with them.
pub record Added : Type 0 where
  pub words : List ℕ
  pub progress : Progress

-- The same gate, with another next node and another node that stands for what was stored last.
abbrev pub moved : Progress → ℕ → ℕ → Progress
moved p next node =
    record { next = next; listed = p.listed; node = node; kind = p.kind; gate = p.gate; inputs = p.inputs; first = p.first }

-- The same, with what was stored last as the node over the gate's inputs.
abbrev pub with_inputs : Progress → Progress
with_inputs p =
    record { next = p.next; listed = p.listed; node = p.node; kind = p.kind; gate = p.gate; inputs = Some p.node; first = p.first }

-- A new gate, with the role of its definition and its number.
abbrev pub begun : Progress → ℕ → ℕ → Progress
begun p role number =
    record { next = p.next; listed = p.listed; node = p.node; kind = role; gate = number; inputs = None; first = p.listed }

-- The same gate, with `count` list entries more.
abbrev pub lengthened : Progress → ℕ → Progress
lengthened p count =
    record { next = p.next; listed = p.listed + count; node = p.node; kind = p.kind; gate = p.gate; inputs = p.inputs; first = p.first }

abbrev pub add_none : Progress → Added
add_none p = record { words = []; progress = p }

-- One node.
abbrev pub add_node : Progress → NodeWords → Added
add_node p w = record { words = word_list w; progress = moved p (p.next + 1) p.next }

-- What is added after what was added.
unfoldable pub and_then : Added → (Progress → Added) → Added
and_then a f = let b = f a.progress in record { words = a.words ++ b.words; progress = b.progress }

-- A name x that stands for node g - 1, or, where g is 0, for a variable.
unfoldable pub add_name : Progress → ℕ → ℕ → Added
add_name p g x = pick (eqb g 0) (add_node p (words_of (variable x))) (record { words = []; progress = moved p p.next (g - 1) })

-- The not of a name with a minus sign.
unfoldable pub add_minus : Bool → Progress → Added
add_minus minus p = pick minus (add_node p (words_of (negation p.node))) (add_none p)

unfoldable pub add_literal : Progress → ℕ → ℕ → Bool → Added
add_literal p g x minus = and_then (add_name p g x) (add_minus minus)

-- The truth table of the operator that joins a gate's inputs, by the role of the gate's definition.
unfoldable pub join_table : ℕ → ℕ
join_table kind = pick (eqb kind 13) 8 (pick (eqb kind 14) 14 6)

-- The operator over the inputs so far, of node `left`, and the one stored last; nothing at the first input.
unfoldable pub add_join : Option ℕ → Progress → Added
add_join (Some left) p =
    let a = add_node p (words_of (operator (join_table p.kind) left p.node)) in record { words = a.words; progress = with_inputs a.progress }
add_join None p = record { words = []; progress = with_inputs p }

unfoldable pub add_input : Progress → ℕ → ℕ → Bool → Added
add_input p g x minus = and_then (add_literal p g x minus) (add_join p.inputs)

-- The constant that a gate without inputs is, by the role of its definition.
abbrev pub empty_constant : ℕ → Bool
empty_constant kind = not (eqb kind 14)

-- What an input, or the end of a gate without inputs, adds, before the gate is closed.
unfoldable pub add_operand : Progress → ℕ → ℕ → ℕ → Added
add_operand p g role x = pick (eqb role empty_role) (add_node p (words_of (constant (empty_constant p.kind)))) (add_input p g x (is_minus role))

-- The kind of a quantified gate's block, by the role of the gate's definition.
unfoldable pub gate_block_kind : ℕ → ℕ
gate_block_kind kind = pick (eqb kind 16) 5 6

-- The block of a quantified gate.
unfoldable pub add_block : Progress → Added
add_block p =
    pick (leb 16 p.kind) (add_node p (block_words (gate_block_kind p.kind) p.first (p.listed - p.first) p.node)) (add_none p)

-- The gate's block at the last token of its line.
unfoldable pub add_end : ℕ → Progress → Added
add_end role p = pick (is_last role) (add_block p) (add_none p)

unfoldable pub add_use : Progress → ℕ → ℕ → ℕ → Added
add_use p g role x = and_then (add_operand p g role x) (add_end role)

-- What a token of a gate line adds. g is what the token's number stands for: one more than a gate's node, or 0.
unfoldable pub add_token : Progress → ℕ → ℕ → ℕ → Added
add_token p g role x =
    pick (is_definition role) (record { words = []; progress = begun p role x })
    (pick (is_bound role) (record { words = []; progress = lengthened p 1 })
    (add_use p g role x))

-- The list entries that it adds.
unfoldable pub token_entries : ℕ → ℕ → List ℕ
token_entries role x = pick (is_definition role) [] (pick (is_bound role) (x ∷ []) [])

-- There is room for what is added.
pub record Room (words : List ℕ) (a : Added) : Type 0 where
  pub fits : width * a.progress.next ≤ length words
  pub small : a.progress.next ≤ limit

-- What a writer leaves: the words added, after those of before, and how far it has come.
pub record Wrote (before : List ℕ) (p : Progress) (a : Added) (after : List ℕ) (r : Progress) : Type 0 where
  pub words_are : after ≡ overwrite before (width * p.next) a.words
  pub progress_is : r ≡ a.progress
