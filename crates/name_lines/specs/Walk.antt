-- The names of a text one after the other.
-- Assumes nothing.
use Rattle.std.specs.Prelude.{Bool, true, false, List, [], ◌∷◌, ◌≡◌, ℕ, ◌-◌, ◌≤◌, ◌<◌, length, take, drop, get_or}
use Rattle.name_lines.specs.declared.Name.{Name}
use Rattle.name_lines.specs.Names.{names}

-- The bytes of a text from one index to another.
abbrev pub part : List ℕ → ℕ → ℕ → List ℕ
part text from end = take (end - from) (drop from text)

-- The first byte from an index on at which the test's answer is true, or the text's end.
pub record FirstFrom (Answers : ℕ → Bool → Type 0) (text : List ℕ) (from r : ℕ) : Type 0 where
  pub after : from ≤ r
  pub within : r ≤ length text
  pub before : (k : ℕ) → from ≤ k → k < r → Answers (get_or text k 0) false
  pub here : r < length text → Answers (get_or text r 0) true

-- The first name from a byte on and the names after it; nothing where there is none.
pub record NextName (text : List ℕ) (from : ℕ) (r : Name) : Type 0 where
  pub after : from ≤ length text → from ≤ r.from
  pub order : r.from ≤ r.end
  pub within : r.end ≤ length text
  pub none : r.from ≡ r.end → names (drop from text) ≡ []
  pub some : r.from < r.end → names (drop from text) ≡ part text r.from r.end ∷ names (drop r.end text)
