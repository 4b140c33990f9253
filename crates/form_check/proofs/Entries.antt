-- The names of an accepted form's prefix: they stand in its list, and how high and how many they are at most; and a block's names as a writer
-- reads them.
-- Assumes nothing.
use mathlib.Core.Path.{◌≡◌, sym, ◌∙◌, ap}
use mathlib.Core.Bool.{true}
use mathlib.Core.List.{List, flat_map}
use Prim.Native.Nat.{ℕ, zero, suc, ◌+◌, ◌*◌, ◌/◌, ◌-◌, ◌≤◌, ◌<◌}
use native.Mathlib.Omega.{arith}
use lib.ListN.{length, get_or, take, drop, length-take, take-append-drop}
use Rattle.lists.specs.Choice.{or_cases, clash}
use Rattle.lists.specs.Members.{mem, all}
use Rattle.lists.proofs.Members.{all_mem, mem-get_or, mem_nil, mem_append, mem_left, mem_right}
use Rattle.lists.proofs.Sums.{distinct_few, distinct_below}
use Rattle.formula.specs.Words.{range}
use Rattle.formula.specs.Form.{prefix_width, block_at, blocks_from, blocks_of}
use Rattle.acceptance.specs.Verdict.{is_number_to}
use Rattle.form_check.specs.Accepted.{prefix_names, AcceptedForm}
use Rattle.form_check.proofs.Names.{names_are, pass_names}
use Rattle.form_check.proofs.Flags.{name_below}

-- The names of a stretch, of a block and of blocks stand in the list.
pub mem_range : (x : ℕ) (xs : List ℕ) (first count : ℕ) → mem x (range xs first count) ≡ true → mem x xs ≡ true
unfolding range
mem_range x xs first count m =
    let taken : mem x (drop first xs) ≡ true =
    ap (mem x) (sym (take-append-drop count (drop first xs))) ∙ mem_left x (take count (drop first xs)) (drop count (drop first xs)) m in
    ap (mem x) (sym (take-append-drop first xs)) ∙ mem_right x (take first xs) (drop first xs) taken

pub mem_block : (x : ℕ) (ps xs : List ℕ) (j : ℕ) → mem x (block_at ps xs j).variables ≡ true → mem x xs ≡ true
unfolding block_at
mem_block x ps xs j m = mem_range x xs (get_or ps (prefix_width * j + 1) 0) (get_or ps (prefix_width * j + 2) 0) m

pub mem_blocks : (x : ℕ) (ps xs : List ℕ) (j m : ℕ) → mem x (prefix_names (blocks_from ps xs j m)) ≡ true → mem x xs ≡ true
unfolding blocks_from prefix_names flat_map
mem_blocks x ps xs j zero h = clash h (mem_nil x)
mem_blocks x ps xs j (suc m) h =
    or_cases (mem x (block_at ps xs j).variables) (mem x (prefix_names (blocks_from ps xs (suc j) m)))
    (sym (mem_append x (block_at ps xs j).variables (prefix_names (blocks_from ps xs (suc j) m))) ∙ h)
    (mem_block x ps xs j)
    (mem_blocks x ps xs (suc j) m)

-- The names of block j as a writer reads them: the stretch of the list from one entry up to another.
module _ (ps xs : List ℕ) (j : ℕ) where
  abbrev start : ℕ
  start = get_or ps (prefix_width * j + 1) 0

  abbrev count : ℕ
  count = get_or ps (prefix_width * j + 2) 0

  abbrev pub read_names : List ℕ
  read_names = take (start + count - start) (drop start xs)

  -- They are the block's names,
  pub read_names_lem : read_names ≡ (block_at ps xs j).variables
  unfolding block_at range
  read_names_lem = let e : start + count - start ≡ count = omega arith in rw e

  -- no more than its count,
  pub read_length : length read_names ≤ count
  read_length = simp length-take (omega arith)

  -- and as low as the block's names.
  pub read_below : (bound : ℕ) → ((k : ℕ) → k < length (block_at ps xs j).variables → get_or (block_at ps xs j).variables k 0 < bound)
      → (k : ℕ) → k < length read_names → get_or read_names k 0 < bound
  read_below bound w = rw read_names_lem w

module _ (ns ps xs : List ℕ) (a : AcceptedForm ns ps xs) where
  -- Each name is below 77,824,
  pub prefix_name_below : (x : ℕ) → mem x (prefix_names (blocks_of ps xs)) ≡ true → x < 77824
  prefix_name_below x m = name_below x (all_mem (is_number_to 77823) (prefix_names (blocks_of ps xs)) x a.numbered m)

  -- and so are those of each block, by their places.
  pub block_names_below : (j : ℕ) → j < length ps / prefix_width
      → (k : ℕ) → k < length (block_at ps xs j).variables → get_or (block_at ps xs j).variables k 0 < 77824
  block_names_below j h k l =
      name_below _
      (all_mem (is_number_to 77823) (block_at ps xs j).variables _
      (pass_names ps xs (is_number_to 77823) (length ps / prefix_width) j h (ap (all (is_number_to 77823)) (sym (names_are ps xs)) ∙ a.numbered))
      (mem-get_or (block_at ps xs j).variables k 0 l))

  -- There are no more names than list entries,
  pub names_few : length (prefix_names (blocks_of ps xs)) ≤ length xs
  unfolding blocks_of
  names_few = distinct_few (prefix_names (blocks_of ps xs)) xs a.apart (λ x m. mem_blocks x ps xs 0 (length ps / prefix_width) m)

  -- and no more than numbers below 77,824.
  pub names_below : length (prefix_names (blocks_of ps xs)) ≤ 77824
  names_below = distinct_below (prefix_names (blocks_of ps xs)) 77824 a.apart prefix_name_below
