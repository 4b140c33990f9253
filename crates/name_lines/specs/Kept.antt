-- What is kept of a text that comes in parts: its names, each with an LF after it, as far as there are at most 256 of at most 255 bytes.
-- Assumes nothing.
use Rattle.std.specs.Prelude.{false, ◌||◌, ◌≡◌, ℕ, ◌+◌, ◌*◌, ◌≤◌, ◌<◌, min, eqb, ltb, length, take, set}
use mathlib.Core.List.{List, [], ◌∷◌, ◌++◌, flat_map}
use Rattle.lists.specs.Choice.{pick}
use Rattle.name_lines.specs.declared.State.{State}
use Rattle.name_lines.specs.declared.Found.{Found}
use Rattle.name_lines.specs.Names.{line_end, ended, names, some_long, counted}

-- What is found once the text has ended: the answer for its names and, if they are taken, a text with the same names.
pub record Taken (ns : List (List ℕ)) (r : Found) (kept : List ℕ) : Type 0 where
  pub answer : record { verdict = r.verdict; sizes = r.count } ≡ counted ns
  pub text : r.verdict.number ≡ 0 → names (take r.bytes kept) ≡ ns
  pub none : (r.verdict.number ≡ 0 → ⊥) → r.bytes ≡ 0

-- What has been read: the names that have ended, and the line that has begun.
pub record Reading : Type 0 where
  pub done : List (List ℕ)
  pub current : List ℕ

abbrev pub nothing : Reading
nothing = record { done = []; current = [] }

unfoldable pub feed : Reading → ℕ → Reading
feed a b = pick (eqb b line_end) (record { done = a.done ++ ended a.current; current = [] }) (record { done = a.done; current = a.current ++ (b ∷ []) })

unfoldable pub through : Reading → List ℕ → Reading
through a [] = a
through a (b ∷ text) = through (feed a b) text

abbrev pub names_of : Reading → List (List ℕ)
names_of a = a.done ++ ended a.current

-- A name and its LF.
abbrev pub name_line : List ℕ → List ℕ
name_line name = name ++ (line_end ∷ [])

-- The text that is kept of it.
abbrev pub kept_text : Reading → List ℕ
kept_text a = flat_map name_line a.done ++ a.current

-- A state that tells of at most 256 names, and of all names, if none is long, their text.
pub record Few (a : Reading) (s : State) (kept : List ℕ) : Type 0 where
  pub count : s.count ≡ length (names_of a)
  pub most : s.count ≤ 256
  pub size : s.length ≡ min 256 (length a.current)
  pub long : s.long ≡ (some_long a.done || ltb 255 (length a.current))
  pub room : 65536 ≤ length kept
  pub bytes : s.long ≡ false → s.at ≤ 256 * length a.done + length a.current
  pub text : s.long ≡ false → take s.at kept ≡ kept_text a

-- A byte stored at an index, if there is room, and the next index.
pub record StoredByte (kept : List ℕ) (at byte next : ℕ) (kept' : List ℕ) : Type 0 where
  pub same : length kept' ≡ length kept
  pub stored : at < length kept → (next ≡ at + 1) × (kept' ≡ set kept at byte)

pub data Holds (a : Reading) (s : State) (kept : List ℕ) : Type 0 where
  many : s.count ≡ 257 → 256 < length (names_of a) → Holds a s kept
  few : Few a s kept → Holds a s kept

-- What a state tells of the text that has been read.
abbrev pub HasRead : List ℕ → State → List ℕ → Type 0
HasRead text s kept = Holds (through nothing text) s kept
