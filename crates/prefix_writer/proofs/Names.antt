-- What the first numbers and the working arrays tell of a block: its names, its copies, its definition variable.
-- Assumes nothing.
use mathlib.Core.Path.{◌≡◌, refl, sym, ◌∙◌, ap}
use mathlib.Core.List.{[], ◌∷◌, ◌++◌, flat_map}
use Prim.Native.Nat.{ℕ, zero, suc, ◌+◌, ◌-◌, ◌≤◌, ◌<◌}
use native.Mathlib.Numerals.{add-one}
use native.Mathlib.Omega.{arith}
use lib.ListN.{length, get_or, length-append}
use Rattle.lists.specs.Parts.{numbers}
use Rattle.lists.proofs.Parts.{length_numbers}
use Rattle.formula.specs.Node.{Table}
use Rattle.formula.specs.Words.{node_count, table_of}
use Rattle.formula.specs.Tree.{count, bound_below}
use Rattle.acceptance.specs.Limits.{limit}
use Rattle.acceptance.specs.Verdict.{count_at}
use Rattle.acceptance.specs.Accepted.{Accepted}
use Rattle.acceptance.proofs.Accepted.{accepted_holds, count_at_lem}
use Rattle.prenex_form.specs.Names.{first_name, new_names, copies}
use Rattle.prenex_form.specs.Levels.{blocks_at}
use Rattle.prenex_form.specs.Prefix.{leading, prefix_block}
use Rattle.prenex_form.proofs.NameLaws.{inner_bound_is_lem, binds_block}
use Rattle.prenex_form.proofs.Limits.{highest_limit, bound_limit}
use Rattle.arrays.specs.Chains.{InnerBlock}
use Rattle.arrays.specs.declared.Blocks.{Blocks}
use Rattle.arrays.specs.Blocks.{table}
use Rattle.arrays.proofs.Entries.{bound_below_end}
use Rattle.prefix_writer.specs.declared.Part.TheVariants.{Own, Copies}
use Rattle.prefix_writer.specs.Parts.{highest_first, numbered, part_of}

-- consecutive numbers from the same start; where there are none, the start is of no account
numbers_cong : (a b count : ℕ) → (0 < count → a ≡ b) → numbers a count ≡ numbers b count
unfolding numbers
numbers_cong a b zero e = refl
numbers_cong a b (suc n) e = ap (λ (s : ℕ). numbers s (suc n)) (e (omega arith))

module _ (d : Blocks) where
  ok : Accepted d.words.now d.list.now
  ok = accepted_holds d.words.now d.list.now d.started.checked

  module _ (i : ℕ) (h : i < (table d).size) where
    pub node_below : i < node_count d.words.now
    unfolding table_of
    node_below = h

    pub node_lt : i < limit
    node_lt = omega (arith, ok.nodes_limit, node_below)

    count_is : count (table d) i ≡ count_at d.words.now i
    count_is = count_at_lem d.words.now d.list.now i (ok.fits i node_below)

    start_is : 0 < count (table d) i → get_or d.starts.now i 0 ≡ bound_below (table d) i
    unfolding count
    start_is n = d.started.started.start_is i h (binds_block ((table d).node i) n)

    pub count_le : count_at d.words.now i ≤ limit
    count_le = omega (arith, count_is, bound_below_end (table d) i h, bound_limit d.words.now d.list.now ok)

    -- the numbers of a node's entries count up from the start that the array tells
    pub held_is : (first : ℕ) → numbers (first + get_or d.starts.now i 0) (count_at d.words.now i) ≡ numbered (table d) first i
    unfolding numbered
    held_is first =
        ap (numbers (first + get_or d.starts.now i 0)) (sym count_is)
        ∙ numbers_cong (first + get_or d.starts.now i 0) (first + bound_below (table d) i) (count (table d) i) (λ some. omega (arith, start_is some))

    pub held_length : (first : ℕ) → length (numbered (table d) first i) ≡ count_at d.words.now i
    held_length first = ap length (sym (held_is first)) ∙ length_numbers (first + get_or d.starts.now i 0) (count_at d.words.now i)

    pub names_are : numbered (table d) d.names i ≡ new_names (table d) i
    unfolding numbered new_names first_name
    names_are =
        let e : d.names + bound_below (table d) i ≡ first_name (table d) i = omega (arith, d.named.names_first) in
        ap (λ (s : ℕ). numbers s (count (table d) i)) e

    pub copies_are : numbered (table d) d.copies i ≡ part_of (table d) Copies i
    unfolding numbered part_of copies
    copies_are =
        ap (λ (s : ℕ). numbers s (count (table d) i)) (omega (arith, d.named.copies_first, inner_bound_is_lem (table d) i h))

  pub own_is : (i : ℕ) → InnerBlock (table d) i → part_of (table d) Own i ≡ numbered (table d) d.names i ++ (get_or d.definitions.now i 0 ∷ [])
  unfolding part_of
  own_is i b = rw (names_are i b.below, d.named.defined.definition_is i b.below b.is_inner)

  -- what an inner block adds is one longer than its names
  pub own_length : (i : ℕ) → InnerBlock (table d) i → length (part_of (table d) Own i) ≡ length (numbered (table d) d.names i) + 1
  own_length i b = ap length (own_is i b) ∙ length-append (numbered (table d) d.names i) (get_or d.definitions.now i 0 ∷ [])

  pub names_low : d.names ≤ highest_first
  names_low = omega (arith, d.named.names_first, highest_limit d.words.now d.list.now ok)

  pub copies_low : d.copies ≤ highest_first
  copies_low = omega (arith, d.named.copies_first, highest_limit d.words.now d.list.now ok, bound_limit d.words.now d.list.now ok)

  -- the root is a node, and its names lead block 0
  pub root_below : node_count d.words.now - 1 < (table d).size
  unfolding table_of
  root_below = let h = ok.proper.tree.nonempty in omega arith

  pub leading_root : (j : ℕ) → j ≡ 0 → leading (table d) j ≡ numbered (table d) d.names (node_count d.words.now - 1)
  unfolding leading table_of
  leading_root j e = rw e (sym (names_are (node_count d.words.now - 1) root_below))

module _ (t : Table) where
  pub leading_level : (j : ℕ) → (j ≡ 0 → ⊥) → leading t j ≡ flat_map (part_of t Own) (blocks_at t j)
  unfolding leading part_of
  leading_level zero n = absurd (n refl)
  leading_level (suc j) n = refl

  -- what leads prefix block j, then the copies of level j + 1
  pub block_is : (j : ℕ) → (prefix_block t j).variables ≡ leading t j ++ flat_map (part_of t Copies) (blocks_at t (j + 1))
  unfolding prefix_block part_of
  block_is j = rw add-one refl

  -- room for both
  pub block_room : (j n room : ℕ) → length (prefix_block t j).variables ≤ room → n ≡ length (leading t j)
      → n + length (flat_map (part_of t Copies) (blocks_at t (j + 1))) ≤ room
  block_room j n room h e =
      omega (arith, ap length (block_is j), length-append (leading t j) (flat_map (part_of t Copies) (blocks_at t (j + 1))))
