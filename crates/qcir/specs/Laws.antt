-- Laws as statements, for a writer whose texts are to be read back. Each is proved under the name beside it: spells_within and spells_more in proofs/Bounds.antt, unique_any and unique_unbounded in
-- crates/qcir_spelling/proofs/Unbounded.antt, prefix_kept in proofs/Theorem.antt. Those about positions stand in Positions.antt.
-- Assumes nothing.
use Rattle.std.specs.Prelude.{true, List, [], ◌↔◌, ◌≡◌, ℕ, ◌≤◌}
use Rattle.formula.specs.Words.{table_of}
use Rattle.formula.specs.Valuation.{Valuation}
use Rattle.formula.specs.Truth.{truth}
use Rattle.formula.specs.Form.{blocks_of, quantify}
use Rattle.qcir.specs.File.{File}
use Rattle.qcir.specs.Spelling.{Spells, file_signs}
use Rattle.qcir.specs.Meaning.{file_truth}
use Rattle.qcir.specs.Refusals.{misplaced, not_used_once}
use Rattle.qcir.specs.Table.{matrix_words, matrix_list, file_prefix_words, file_prefix_list}
use Rattle.qcir.specs.Unbounded.{SpellsUnbounded, names_up_to}

-- The limit on names. A text spells a file within a limit exactly if it spells it without one and no name is above the limit
-- (spells_within);
abbrev pub SpellsWithin : Type 0
SpellsWithin =
    (most : ℕ) (text : List ℕ) (f : File)
    → Spells most text f ↔ (SpellsUnbounded text f × (names_up_to most (file_signs f) ≡ true))

-- so a higher limit keeps the file (spells_more).
abbrev pub SpellsMore : Type 0
SpellsMore = (a b : ℕ) (text : List ℕ) (f : File) → a ≤ b → Spells a text f → Spells b text f

-- A text spells at most one file, whatever the limits (unique_any),
abbrev pub UniqueAny : Type 0
UniqueAny = (a b : ℕ) (text : List ℕ) (f g : File) → Spells a text f → Spells b text g → f ≡ g

-- and so without a limit (unique_unbounded).
abbrev pub UniqueUnbounded : Type 0
UniqueUnbounded = (text : List ℕ) (f g : File) → SpellsUnbounded text f → SpellsUnbounded text g → f ≡ g

-- The table in two steps. With the prefix lines kept as prefix, the matrix has under them the file's truth value (prefix_kept).
abbrev pub PrefixKept : Type 0
PrefixKept =
    (f : File) → misplaced f ≡ [] → not_used_once f ≡ [] → (v : Valuation)
    → quantify (blocks_of (file_prefix_words f) (file_prefix_list f)) (truth (table_of (matrix_words f) (matrix_list f))) v ≡ file_truth f v
