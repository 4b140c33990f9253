-- What holds of the file of a form that neither 14 nor 15 refuses, whatever the limits. Each law is proved under the name beside it in
-- proofs/.
-- Assumes nothing.
use Rattle.std.specs.Prelude.{true, not, ◌&&◌, List, [], ◌≡◌, ℕ, ◌+◌, ◌*◌, ◌/◌, ◌≤◌, length}
use Rattle.lists.specs.Members.{mem, ListOf}
use Rattle.formula.specs.Words.{node_count}
use Rattle.formula.specs.Valuation.{Valuation}
use Rattle.formula.specs.Form.{prefix_width, blocks_of, form_truth, binds}
use Rattle.acceptance.specs.Limits.{matrix_within}
use Rattle.form_check.specs.Accepted.{AcceptedFormWithin, AcceptedForm}
use Rattle.qcir.specs.File.{File, numbers_of}
use Rattle.qcir.specs.Spelling.{file_signs}
use Rattle.qcir.specs.Unbounded.{names_up_to}
use Rattle.qcir.specs.Meaning.{file_truth}
use Rattle.qcir.specs.Refusals.{gate_names, misplaced, used_numbers, not_used_once, unbound}
use Rattle.qcir_text.specs.Laws.{names_from_one}
use Rattle.qcir_form.specs.File.{form_file, form_text}

-- The limits of a matrix that may hold so many nodes and numbers up to this one. Something holds of the file of every form that passes.
abbrev pub OfEveryFile : (File → List ℕ → List ℕ → List ℕ → ℕ → Type 0) → Type 0
OfEveryFile P =
    (nodes most : ℕ) (ns ps xs : List ℕ) → AcceptedFormWithin (matrix_within nodes most) ns ps xs
    → P (form_file ns ps xs) ns ps xs most

-- "The file has the form's truth value under every setting" (file_truth_lem, proofs/Truth.antt).
abbrev pub FileTruth : Type 0
FileTruth = OfEveryFile (λ f ns ps xs most. (v : Valuation) → file_truth f v ≡ form_truth ns ps xs v)

-- S-1's refusals 11, 13 and 12 do not apply to it (file_placed, proofs/Placed.antt; file_used_once, proofs/UsedOnce.antt; file_bound,
-- proofs/Bound.antt).
abbrev pub FilePlaced : Type 0
FilePlaced = OfEveryFile (λ f ns ps xs most. misplaced f ≡ [])

abbrev pub FileUsedOnce : Type 0
FileUsedOnce = OfEveryFile (λ f ns ps xs most. not_used_once f ≡ [])

abbrev pub FileBound : Type 0
FileBound = OfEveryFile (λ f ns ps xs most. unbound f ≡ [])

-- Its names are from 1 up to one for each node above the highest number that may stand in the form (file_from_one, file_up_to,
-- proofs/Names.antt).
abbrev pub FileFromOne : Type 0
FileFromOne = OfEveryFile (λ f ns ps xs most. names_from_one (file_signs f) ≡ true)

abbrev pub FileUpTo : Type 0
FileUpTo = OfEveryFile (λ f ns ps xs most. names_up_to (most + node_count ns) (file_signs f) ≡ true)

-- Its free line is what the request says, "the open names (ascending) that occur in a gate or output line written": ascending and once each,
-- the names that the output or an input has, but those of gates and those that a prefix block binds (free_occur, proofs/Occurs.antt).
abbrev pub FreeOccur : Type 0
FreeOccur =
    OfEveryFile (λ f ns ps xs most. ListOf
    (λ x. mem x (used_numbers f) && not (mem x (numbers_of (gate_names f.gates))) && not (binds (blocks_of ps xs) x))
    (numbers_of f.free))

-- Bytes that are always enough for the text of a form with so many nodes, prefix blocks and list entries (text_room, proofs/Room.antt).
abbrev pub room_for : ℕ → ℕ → ℕ → ℕ
room_for nodes blocks entries = 31 * (nodes + 1) + 7 * blocks + 8 * entries

abbrev pub TextRoom : Type 0
TextRoom =
    (ns ps xs : List ℕ) → AcceptedForm ns ps xs
    → length (form_text ns ps xs) ≤ room_for (node_count ns) (length ps / prefix_width) (length xs)
