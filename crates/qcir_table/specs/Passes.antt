-- The two passes over the tokens: the gate lines forward, the prefix lines backward.
-- Assumes nothing.
use Rattle.std.specs.Prelude.{Bool, not, None, ◌&&◌, List, [], ◌∷◌, ◌++◌, ◌≡◌, ℕ, zero, suc, ◌+◌, eqb, leb, length, get_or}
use Rattle.lists.specs.Choice.{pick}
use Rattle.lists.specs.Search.{lowest}
use Rattle.formula.specs.Words.{block_words, word_list}
use Rattle.qcir.specs.Table.{Draft, empty_draft}
use Rattle.qcir_tokens.specs.Tokens.{is_outer, is_last}
use Rattle.qcir_tokens.specs.Held.{number_count}
use Rattle.qcir_nodes.specs.declared.Progress.{Progress}
use Rattle.qcir_nodes.specs.Nodes.{Added, moved, lengthened, add_none, add_token, token_entries}

abbrev pub no_progress : Progress
no_progress = record { next = 0; listed = 0; node = 0; kind = 0; gate = 0; inputs = None; first = 0 }

-- What is stored, and how far the writing has come.
pub record Writing : Type 0 where
  pub draft : Draft
  pub progress : Progress

-- At the last token of a gate line the gate's number comes to stand for its node.
unfoldable pub gates_after : (ℕ → ℕ) → ℕ → Progress → ℕ → ℕ
gates_after gate role p = pick (is_last role) (λ x. pick (eqb x p.gate) (suc p.node) (gate x)) gate

-- One token of a gate line.
unfoldable pub write_token : Writing → ℕ → ℕ → Writing
write_token w role x =
    let d = w.draft in
    let a = add_token w.progress (d.gate x) role x in
    record {
      draft = record { words = d.words ++ a.words; entries = d.entries ++ token_entries role x; gate = gates_after d.gate role a.progress };
      progress = a.progress;
    }

-- What is stored after n tokens, the first of which has index `first`.
unfoldable pub gates_written : List ℕ → List ℕ → ℕ → ℕ → Writing
gates_written roles numbers first zero = record { draft = empty_draft; progress = no_progress }
gates_written roles numbers first (suc n) = write_token (gates_written roles numbers first n) (get_or roles (first + n) 0) (get_or numbers (first + n) 0)

-- The number of outer tokens at the start, which is the index of the output's token.
unfoldable pub output_index : List ℕ → ℕ → ℕ
output_index roles count = lowest (λ i. not (is_outer (get_or roles i 0))) count

-- The first entry of a prefix line.
abbrev pub starts_line : ℕ → Bool
starts_line role = leb 5 role && leb role 8

-- The kind of a line's block, by the role of its first entry.
unfoldable pub line_block_kind : ℕ → ℕ
line_block_kind role = pick (leb role 6) 5 6

-- The block of a prefix line with `count` variables.
abbrev pub add_line : Progress → ℕ → ℕ → Added
add_line p role count =
    record {
      words = word_list (block_words (line_block_kind role) p.listed count p.node);
      progress = lengthened (moved p (p.next + 1) p.next) count;
    }

-- The same where a line starts, else nothing.
unfoldable pub add_if_line : Progress → ℕ → ℕ → Added
add_if_line p role count = pick (starts_line role) (add_line p role count) (add_none p)

-- What the prefix lines add, and the variables passed that belong to the line whose first entry is still to come.
pub record Lines : Type 0 where
  pub words : List ℕ
  pub entries : List ℕ
  pub progress : Progress
  pub pending : List ℕ

unfoldable pub add_outer : ℕ → ℕ → Lines → Lines
add_outer role x s =
    let xs = x ∷ s.pending in
    let a = add_if_line s.progress role (length xs) in
    record {
      words = s.words ++ a.words;
      entries = s.entries ++ pick (starts_line role) xs [];
      progress = a.progress;
      pending = pick (starts_line role) [] xs;
    }

-- What the n outer tokens from token i on add, the last first.
unfoldable pub lines_written : List ℕ → List ℕ → Progress → ℕ → ℕ → Lines
lines_written roles numbers p i zero = record { words = []; entries = []; progress = p; pending = [] }
lines_written roles numbers p i (suc n) = add_outer (get_or roles i 0) (get_or numbers i 0) (lines_written roles numbers p (suc i) n)

-- The array holds what each number stands for: one more than a gate's node, or 0.
pub record NodesOf (nodes : List ℕ) (gate : ℕ → ℕ) : Type 0 where
  pub wide : length nodes ≡ number_count
  pub holds : (x : ℕ) → get_or nodes x 0 ≡ gate x
