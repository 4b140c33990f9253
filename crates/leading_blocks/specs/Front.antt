-- What the functions of this crate count.
-- Assumes nothing.
use Rattle.std.specs.Prelude.{Bool, true, false, Option, MatchOption, List, ◌++◌, ◌≡◌, ℕ, ◌+◌, ◌<◌, length, get_or}
use Rattle.lists.specs.Members.{distinct}
use Rattle.kept_prefix.specs.Blocks.{keep, prefix_names}
use Rattle.formula.specs.Node.{Table}
use Rattle.kept_prefix.specs.Leading.{outermost, stops}
use Rattle.kept_prefix.specs.Kept.{front_blocks}
use Rattle.leading_blocks.specs.Flags.{Flags, one_of}
use Rattle.leading_blocks.specs.declared.Front.{Front}

-- k blocks from the root down: how many, their names, and what of them stands in front of the form.
pub record FrontTo (t : Table) (k : ℕ) (f : Front) : Type 0 where
  pub taken_is : f.taken ≡ k
  pub bound_is : f.bound ≡ length (prefix_names (outermost t k))
  pub blocks_are : f.blocks ≡ length (front_blocks t (outermost t k))
  pub names_are : f.names ≡ length (prefix_names (front_blocks t (outermost t k)))

-- The same with the flags of their names, none of which repeats.
pub record Taken (t : Table) (k : ℕ) (front : Front) (used : List Bool) : Type 0 where
  pub front_is : FrontTo t k front
  pub used_are : Flags (one_of (prefix_names (outermost t k))) used
  pub apart : distinct (prefix_names (outermost t k)) ≡ true

-- Each name has a flag.
abbrev pub Numbered : List ℕ → Type 0
Numbered names = (e : ℕ) → e < length names → get_or names e 0 < 65536

-- Names joined to those before them, none of which repeats: the flags of all of them, and how many of the names have the other flag.
pub record Fresh (before names : List ℕ) (standing used : List Bool) (count : ℕ) : Type 0 where
  pub apart : distinct (before ++ names) ≡ true
  pub used_are : Flags (one_of (before ++ names)) used
  pub standing_is : count ≡ length (keep (λ x. get_or standing x false) names)

-- The same, or a name that repeats.
abbrev pub Added : List ℕ → List ℕ → List Bool → List Bool → Option ℕ → Type 0
Added before names standing used r = MatchOption r (distinct (before ++ names) ≡ false) (Fresh before names standing used)

-- Node k from the root down, taken off or not, after those above it.
abbrev pub Stepped : Table → ℕ → List Bool → Option Front → Type 0
Stepped t k used r = MatchOption r (stops t k ≡ true) (λ front. (stops t k ≡ false) × Taken t (k + 1) front used)
