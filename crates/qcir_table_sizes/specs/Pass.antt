-- What a pass over tokens counts, token by token. The public contract cites none of these definitions.
-- Assumes nothing.
use Rattle.std.specs.Prelude.{Bool, true, false, not, ◌&&◌, List, [], ◌∷◌, ℕ, zero, suc, ◌+◌, ◌*◌, ◌≤◌, eqb, leb, ltb, get_or, None}
use Rattle.std.specs.Bool.{then_some}
use Rattle.std.specs.Option.{option_or}
use Rattle.lists.specs.Choice.{pick}
use Rattle.acceptance.specs.Limits.{limit}
use Rattle.qcir_tokens.specs.Tokens.{Token, is_outer, is_free, is_definition, is_bound, is_input, is_minus}
use Rattle.qcir_table_sizes.specs.declared.Pass.{Pass}

-- The counts after n tokens: at most four nodes and one entry for each.
pub record Small (n : ℕ) (s : Pass) : Type 0 where
  pub few_nodes : s.nodes ≤ 4 * n
  pub few_entries : s.entries + s.bound ≤ n

-- The counts are at most `most`.
pub record Room (most : ℕ) (s : Pass) : Type 0 where
  pub nodes_low : s.nodes ≤ most
  pub entries_low : s.entries + s.bound ≤ most

-- A number whose first definition is token gate - 1 (0: none) is defined before token `line`.
unfoldable pub is_earlier : ℕ → ℕ → Bool
is_earlier gate line = leb 1 gate && leb gate line

-- Nothing is counted yet.
abbrev pub start : Pass
start = record { nodes = 0; entries = 0; excess = None; line = 0; bound = 0; first = true }

-- A block over the variables counted. If it is the first at which the entries pass the limit, it is kept.
unfoldable pub block_added : Pass → Pass
block_added s =
    record {
      nodes = s.nodes + 1;
      entries = s.entries + s.bound;
      excess = option_or s.excess (then_some (ltb limit (s.entries + s.bound)) s.nodes);
      line = s.line;
      bound = 0;
      first = s.first;
    }

-- An input's nodes: its variable node, its not and the operator.
unfoldable pub operand_added : ℕ → ℕ → Pass → Pass
operand_added role gate s =
    record {
      nodes = s.nodes + pick (not (is_earlier gate s.line)) 1 0 + pick (is_minus role) 1 0 + pick (not s.first) 1 0;
      entries = s.entries;
      excess = s.excess;
      line = s.line;
      bound = s.bound;
      first = false;
    }

-- And the block over it, if variables are quantified.
unfoldable pub input_added : ℕ → ℕ → Pass → Pass
input_added role gate s = pick (eqb s.bound 0) (operand_added role gate s) (block_added (operand_added role gate s))

-- A gate line begins at token i.
unfoldable pub line_begun : ℕ → Pass → Pass
line_begun i s = record { nodes = s.nodes; entries = s.entries; excess = s.excess; line = i; bound = 0; first = true }

-- One variable more in a list.
unfoldable pub variable_added : Pass → Pass
variable_added s =
    record { nodes = s.nodes; entries = s.entries; excess = s.excess; line = s.line; bound = s.bound + 1; first = s.first }

-- A constant.
unfoldable pub constant_added : Pass → Pass
constant_added s =
    record { nodes = s.nodes + 1; entries = s.entries; excess = s.excess; line = s.line; bound = s.bound; first = s.first }

-- Token i, of a gate line, whose number has its first definition at token gate - 1.
unfoldable pub gate_step : ℕ → ℕ → ℕ → Pass → Pass
gate_step role gate i s =
    pick (is_definition role) (line_begun i s)
    (pick (is_bound role) (variable_added s)
    (pick (is_input role) (input_added role gate s)
    (constant_added s)))

-- Gate lines, whose first token has index i.
unfoldable pub gates_pass : List ℕ → ℕ → List Token → Pass → Pass
gates_pass gates i [] s = s
gates_pass gates i (t ∷ ts) s = gates_pass gates (suc i) ts (gate_step t.role (get_or gates t.name.number 0) i s)

-- The output.
unfoldable pub output_added : ℕ → ℕ → Pass → Pass
output_added role gate s =
    record {
      nodes = s.nodes + pick (eqb gate 0) 1 0 + pick (is_minus role) 1 0;
      entries = s.entries;
      excess = s.excess;
      line = s.line;
      bound = 0;
      first = s.first;
    }

-- An entry of the free line or a prefix line, after all that is stored before its line. A prefix line's first entry completes its
-- block.
unfoldable pub outer_step : ℕ → Pass → Pass
outer_step role s = pick (is_free role) s (pick (leb role 8) (block_added (variable_added s)) (variable_added s))

-- Such entries, the tokens below token i, from the last to the first.
unfoldable pub outer_pass : List ℕ → ℕ → Pass → Pass
outer_pass roles zero s = s
outer_pass roles (suc i) s = outer_pass roles i (outer_step (get_or roles i 0) s)

-- A file's tokens from token i on.
unfoldable pub file_pass : List ℕ → ℕ → List Token → Pass
file_pass gates i [] = start
file_pass gates i (t ∷ ts) =
    pick (is_outer t.role) (outer_step t.role (file_pass gates (suc i) ts))
    (output_added t.role (get_or gates t.name.number 0) (gates_pass gates (suc i) ts start))
