-- The prefix written block by block: three words for each, and its variables after those of the blocks before it.
-- Assumes nothing.
use mathlib.Core.Path.{◌≡◌, sym, ◌∙◌, ap}
use mathlib.Core.List.{List, [], ◌∷◌, ◌++◌, flat_map}
use Prim.Native.Nat.{ℕ, suc, ◌+◌, ◌*◌, ◌≤◌, ◌<◌}
use native.Mathlib.Numerals.{add-one}
use native.Mathlib.Omega.{arith}
use lib.ListN.{length, length-append}
use borrow.Author.Tests.{eq-eqb, ne_eqb}
use Rattle.lists.specs.Choice.{pick_yes, pick_no}
use Rattle.lists.specs.Parts.{overwrite}
use Rattle.lists.proofs.Overwrite.{overwrite_nil}
use Rattle.formula.specs.Node.{Quantifier, dual, Table}
use Rattle.formula.specs.Form.{Block, prefix_width, kind_of, prefix_words}
use Rattle.prenex_form.specs.Levels.{levels, level_quantifier}
use Rattle.prenex_form.specs.Prefix.{block_count, prefix_block, prefix_blocks, written_prefix, written_variables}
use Rattle.arrays.specs.Chains.{between}
use Rattle.arrays.proofs.Chains.{between_all, between_on, between_end}
use Rattle.prefix_writer.proofs.Writing.{Left, left_start, left_room, left_step, left_end, flat_map_next}

-- prefix blocks j and after
unfoldable pub blocks_left : Table → ℕ → List Block
blocks_left t j = between (λ k. prefix_block t k ∷ []) j (suc (levels t))

unfoldable pub variables_left : Table → ℕ → List ℕ
variables_left t j = flat_map (λ (b : Block). b.variables) (blocks_left t j)

unfoldable pub words_left : Table → ℕ → ℕ → List ℕ
words_left t at j = prefix_words at (blocks_left t j)

-- The blocks before block j are written: their variables end at entry at, and block j has this quantifier.
pub record Written (t : Table) (prefix₀ prefix variables₀ variables : List ℕ) (at j : ℕ) (q : Quantifier) : Type 0 where
  pub words : Left prefix₀ prefix (prefix_width * j) (written_prefix t) (words_left t at j)
  pub list : Left variables₀ variables at (written_variables t) (variables_left t j)
  pub quantifier_is : q ≡ level_quantifier t j
  pub within : j ≤ suc (levels t)

module _ (t : Table) where
  -- a table without blocks
  none : block_count t ≡ 0 → prefix_blocks t ≡ []
  unfolding prefix_blocks
  none e = pick_yes _ _ _ (eq-eqb (block_count t) 0 e)

  pub none_written_lem : (prefix variables : List ℕ) → block_count t ≡ 0
      → (prefix ≡ overwrite prefix 0 (written_prefix t)) × (variables ≡ overwrite variables 0 (written_variables t))
  unfolding written_prefix written_variables prefix_words flat_map
  none_written_lem prefix variables e = rw (none e) (sym (overwrite_nil prefix 0), sym (overwrite_nil variables 0))

  -- all blocks are left at first
  blocks_start : (block_count t ≡ 0 → ⊥) → blocks_left t 0 ≡ prefix_blocks t
  unfolding blocks_left prefix_blocks
  blocks_start n = between_all (λ k. prefix_block t k ∷ []) (suc (levels t)) ∙ sym (pick_no _ _ _ (ne_eqb (block_count t) 0 n))

  pub written_start : (prefix variables : List ℕ) (q : Quantifier) → (block_count t ≡ 0 → ⊥) → q ≡ level_quantifier t 0
      → Written t prefix prefix variables variables 0 0 q
  unfolding written_prefix written_variables words_left variables_left
  written_start prefix variables q n e =
      record {
        words = left_start prefix _ _ (ap (prefix_words 0) (blocks_start n));
        list = left_start variables _ _ (ap (flat_map (λ (b : Block). b.variables)) (blocks_start n));
        quantifier_is = e;
        within = omega arith;
      }

  module _ (prefix₀ prefix variables₀ variables : List ℕ) (at j : ℕ) (q : Quantifier) (w : Written t prefix₀ prefix variables₀ variables at j q) where
    -- none is left after the last
    blocks_end : suc (levels t) ≤ j → blocks_left t j ≡ []
    unfolding blocks_left
    blocks_end h = between_end (λ k. prefix_block t k ∷ []) j (suc (levels t)) h

    pub written_end : levels t < j → (prefix ≡ overwrite prefix₀ 0 (written_prefix t)) × (variables ≡ overwrite variables₀ 0 (written_variables t))
    unfolding words_left variables_left prefix_words flat_map
    written_end h = (
      (left_end prefix₀ prefix _ _ _ w.words (ap (prefix_words at) (blocks_end h))).0,
      (left_end variables₀ variables at _ _ w.list (ap (flat_map (λ (b : Block). b.variables)) (blocks_end h))).0,
    )

    module _ (h : j ≤ levels t) where
      -- block j's words
      unfoldable three : List ℕ
      three = kind_of (level_quantifier t j) ∷ at ∷ length (prefix_block t j).variables ∷ []

      blocks_next : blocks_left t j ≡ prefix_block t j ∷ blocks_left t (j + 1)
      unfolding blocks_left
      blocks_next = rw add-one (between_on (λ k. prefix_block t k ∷ []) j (suc (levels t)) (omega arith))

      words_next : words_left t at j ≡ three ++ words_left t (at + length (prefix_block t j).variables) (j + 1)
      unfolding words_left prefix_words three prefix_block
      words_next = ap (prefix_words at) blocks_next

      list_next : variables_left t j ≡ (prefix_block t j).variables ++ variables_left t (j + 1)
      unfolding variables_left
      list_next = flat_map_next (λ (b : Block). b.variables) _ _ (prefix_block t j) blocks_next

      pub room_words : length (written_prefix t) ≤ length prefix₀ → prefix_width * j + prefix_width ≤ length prefix
      unfolding three
      room_words fits = left_room prefix₀ prefix _ _ _ w.words three _ words_next fits

      pub room_list : length (written_variables t) ≤ length variables₀ → at + length (prefix_block t j).variables ≤ length variables
      room_list fits = left_room variables₀ variables at _ _ w.list (prefix_block t j).variables _ list_next fits

      pub end_le : at + length (prefix_block t j).variables ≤ length (written_variables t)
      end_le = omega (arith, w.list.reached, ap length list_next, length-append (prefix_block t j).variables (variables_left t (j + 1)))

      pub written_step : (prefix' variables' : List ℕ) (at' : ℕ) (q' : Quantifier) → length (written_prefix t) ≤ length prefix₀
          → length (written_variables t) ≤ length variables₀
          → prefix' ≡ overwrite prefix (prefix_width * j) (kind_of q ∷ at ∷ length (prefix_block t j).variables ∷ [])
          → variables' ≡ overwrite variables at (prefix_block t j).variables → at' ≡ at + length (prefix_block t j).variables
          → q' ≡ dual q → Written t prefix₀ prefix' variables₀ variables' at' (j + 1) q'
      unfolding three level_quantifier
      written_step prefix' variables' at' q' fp fv p v e k =
          let m : prefix_width * (j + 1) ≡ prefix_width * j + prefix_width = omega arith in
          let p' : prefix' ≡ overwrite prefix (prefix_width * j) three =
          p ∙ ap (λ c. overwrite prefix (prefix_width * j) (kind_of c ∷ at ∷ length (prefix_block t j).variables ∷ [])) w.quantifier_is in
          record {
            words = rw (m, e) (left_step prefix₀ prefix _ _ _ w.words three _ prefix' words_next fp p');
            list = rw e (left_step variables₀ variables at _ _ w.list (prefix_block t j).variables _ variables' list_next fv v);
            quantifier_is = rw add-one (k ∙ ap dual w.quantifier_is);
            within = omega arith;
          }
