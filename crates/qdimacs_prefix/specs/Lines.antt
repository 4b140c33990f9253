-- The quantifier lines of a problem, put block by block: a line goes on as long as blocks of its kind come, and an empty block changes
-- nothing.
-- Assumes nothing.
use mathlib.Core.List.{List, [], ◌∷◌, ◌++◌, flat_map}
use Rattle.std.specs.Prelude.{◌≡◌, true, Option, Some, None, ℕ, ◌+◌, ◌*◌, ◌/◌, ◌≤◌, ◌<◌, eqb, length, get_or}
use Rattle.lists.specs.Choice.{pick}
use Rattle.formula.specs.Words.{is_block_kind}
use Rattle.formula.specs.Form.{Block, prefix_width, quantifier_of, kind_of, block_at, blocks_of}
use Rattle.form_check.specs.Accepted.{prefix_names}
use Rattle.texts.specs.Numerals.{digits}
use Rattle.texts.specs.Bounds.{AllWritable}
use Rattle.qdimacs.specs.Spelling.{quantifier_word, block_line}
use Rattle.qdimacs.specs.Text.{line_text}
use Rattle.qdimacs_words.specs.Words.{Loose}
use Rattle.qdimacs_prefix.specs.declared.Line.{Line}
use Rattle.qdimacs_prefix.specs.declared.Quantifier.{Quantifier}
use Rattle.qdimacs_prefix.specs.declared.Quantifier.TheVariants.{Exists, ForAll}

-- The lines of blocks.
unfoldable pub blocks_text : List Block → List ℕ
blocks_text bs = flat_map (λ (b : Block). line_text (block_line b)) bs

-- Names, each with a space behind it.
unfoldable pub names_text : List ℕ → List ℕ
names_text xs = flat_map (λ (x : ℕ). digits x ++ (32 ∷ [])) xs

-- The kind of a quantifier's blocks, and of the blocks of a line; 0 is no line.
abbrev pub quantifier_kind : Quantifier → ℕ
quantifier_kind Exists = 5
quantifier_kind ForAll = 6

abbrev pub open_kind : Option Quantifier → ℕ
open_kind None = 0
open_kind (Some q) = quantifier_kind q

abbrev pub line_kind : Line → ℕ
line_kind line = open_kind line.quantifier

-- The end of a line of this kind, and the start of one.
unfoldable pub end_text : ℕ → List ℕ
end_text kind = pick (eqb kind 0) [] (48 ∷ 10 ∷ [])

unfoldable pub start_text : ℕ → List ℕ
start_text kind = quantifier_word (quantifier_of kind) ++ (32 ∷ [])

-- From a line of one kind to one of another: the one ends, the other begins.
unfoldable pub turn_text : ℕ → ℕ → List ℕ
turn_text from to = pick (eqb from to) [] (end_text from ++ start_text to)

-- What a block of this kind with these names adds to a line of kind `from`, and the kind of the line then.
unfoldable pub added_text : ℕ → ℕ → List ℕ → List ℕ
added_text from kind [] = []
added_text from kind (x ∷ xs) = turn_text from kind ++ names_text (x ∷ xs)

unfoldable pub kind_after : ℕ → ℕ → List ℕ → ℕ
kind_after from kind [] = from
kind_after from kind (x ∷ xs) = kind

-- The same of blocks one after the other.
unfoldable pub run_text : ℕ → List Block → List ℕ
run_text from [] = []
run_text from (b ∷ bs) =
    added_text from (kind_of b.quantifier) b.variables
    ++ run_text (kind_after from (kind_of b.quantifier) b.variables) bs

unfoldable pub run_kind : ℕ → List Block → ℕ
run_kind from [] = from
run_kind from (b ∷ bs) = run_kind (kind_after from (kind_of b.quantifier) b.variables) bs

-- A line of kind `from` at an index goes on by these bytes to a line of kind `to` at another.
pub record Goes (before : List ℕ) (line : Line) (piece : List ℕ) (to : ℕ) (after : List ℕ) (next : Line) : Type 0 where
  pub put : Loose before line.at piece after next.at
  pub kind_is : line_kind next ≡ to

-- A prefix that can be written: kinds 5 and 6, ranges that fit, names that are not too high, and not too many of them.
pub record PrefixHeld (ps xs : List ℕ) : Type 0 where
  pub kinds : (j : ℕ) → j < length ps / prefix_width → is_block_kind (get_or ps (prefix_width * j) 0) ≡ true
  pub fits : (j : ℕ) → j < length ps / prefix_width → get_or ps (prefix_width * j + 1) 0 + get_or ps (prefix_width * j + 2) 0 ≤ length xs
  pub writable : (j : ℕ) → j < length ps / prefix_width → AllWritable (block_at ps xs j).variables
  pub few : length (prefix_names (blocks_of ps xs)) ≤ 77824
