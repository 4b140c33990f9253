-- How many nodes stay, as the code counts them, and one node more: its new index, and what is written of it.
-- Assumes nothing.
use mathlib.Core.Path.{◌≡◌, refl, sym, ◌∙◌, ap}
use mathlib.Core.Bool.{Bool, true, false}
use mathlib.Core.List.{List}
use Prim.Native.Nat.{ℕ, suc, ◌+◌, ◌<◌, ◌≤◌}
use native.Mathlib.Numerals.{add-one}
use native.Mathlib.Omega.{arith}
use mir.Val.{bool_byte}
use lib.ListN.{length, get_or, set, length-set}
use Rattle.lists.specs.Choice.{pick}
use Rattle.lists.specs.Parts.{sum}
use Rattle.lists.proofs.Parts.{sum_grows}
use Rattle.lists.proofs.Sums.{ones_le}
use Rattle.lists.proofs.Stores.{set_cases}
use Rattle.formula.specs.Words.{node_count, field, words_at, word_list}
use Rattle.formula.specs.declared.NodeWords.{NodeWords}
use Rattle.empty_blocks.specs.Removal.{stays, left_below, new_index, renumbered, left_of}
use Rattle.empty_blocks.proofs.Named.{named_stays, named_body, body_lower}
use Rattle.empty_blocks.proofs.Left.{left_more, left_same, left_of_lem}
use Rattle.empty_blocks.proofs.Words.{renumbered_same}
use Rattle.remove_empty_blocks.specs.Steps.{SmallTable, NewIndices}

byte_is : (t : Bool) → bool_byte t ≡ pick t 1 0
unfolding pick
byte_is true = refl
byte_is false = refl

module _ (ws : List ℕ) where
  pub left_counted : (i : ℕ) (t : Bool) → t ≡ stays ws i → left_below ws i + bool_byte t ≡ left_below ws (i + 1)
  unfolding left_below sum
  left_counted i t e = rw (e, add-one) (omega (arith, byte_is (stays ws i)))

  pub left_le : (i : ℕ) → left_below ws i ≤ i
  unfolding left_below
  left_le i = ones_le (stays ws) i

  pub left_grows : (i j : ℕ) → i ≤ j → left_below ws i ≤ left_below ws j
  unfolding left_below
  left_grows i j h = sum_grows (λ k. pick (stays ws k) 1 0) i j h

  -- by one node more
  pub next_stays : (i at : ℕ) → stays ws i ≡ true → at ≡ left_below ws i → at + 1 ≡ left_below ws (i + 1)
  next_stays i at s e = simp add-one (ap suc e ∙ sym (left_more ws i s))

  pub next_goes : (i at : ℕ) → stays ws i ≡ false → at ≡ left_below ws i → at ≡ left_below ws (i + 1)
  next_goes i at s e = rw add-one (e ∙ sym (left_same ws i s))

module _ (ws indices : List ℕ) (small : SmallTable ws) (i : ℕ) (h : i < node_count ws) (m : NewIndices ws indices i) where
  pub index_within : i < length indices
  index_within = omega (arith, m.long, small.few)

  -- the new index of node i is stored
  indexed_next : (k : ℕ) → k ≡ new_index ws i → NewIndices ws (set indices i k) (i + 1)
  indexed_next k e =
      record {
        long = length-set indices i k ∙ m.long;
        index_is = λ j l.
            set_cases indices i k 0 index_within (λ v. v ≡ new_index ws j) j
            (λ q. e ∙ ap (new_index ws) (sym q)) (λ n. m.index_is j (omega arith));
      }

  -- that of an empty block is its body's, and nothing is written of it
  module _ (goes : stays ws i ≡ false) where
    pub body_within : field ws i 3 < length indices
    body_within = omega (arith, body_lower ws small.lower i h goes, index_within)

    pub indexed_empty : (k : ℕ) → k ≡ get_or indices (field ws i 3) 0 → NewIndices ws (set indices i k) (i + 1)
    indexed_empty k e =
        let low = small.lower in
        indexed_next k (e ∙ m.index_is (field ws i 3) (body_lower ws low i h goes) ∙ sym (named_body ws low i h goes))

  -- that of any other node is how many stay below it, and the node is written
  module _ (stay : stays ws i ≡ true) (at : ℕ) (e : at ≡ left_below ws i) where
    pub indexed_left : NewIndices ws (set indices i at) (i + 1)
    indexed_left = indexed_next at (e ∙ sym (named_stays ws i stay))

    pub written_left : (w : NodeWords) → w ≡ renumbered (λ x. get_or (set indices i at) x 0) (words_at ws i) → word_list w ≡ left_of ws i
    written_left w q =
        ap word_list (q ∙ renumbered_same i (words_at ws i) (small.lower i h) _ _ (λ j l. indexed_left.index_is j (omega arith)))
        ∙ sym (left_of_lem ws i stay)
