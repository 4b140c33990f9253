-- The tables as lists: the entry for a byte at a place stands in the column of the byte's class.
-- Assumes nothing.
use mathlib.Core.List.{List, [], ◌∷◌, ◌++◌, map, flat_map}
use mathlib.Core.Path.{◌≡◌, refl, ◌∙◌, ap}
use Prim.Native.Nat.{ℕ, zero, suc, ◌+◌, ◌*◌, ◌<◌}
use native.Mathlib.Nat.{le_of_suc-le-suc, not-suc-le-zero}
use native.Mathlib.Omega.{arith}
use lib.ListN.{length, get_or, length-map, get_or-append}
use lib.Seq.{get_or-append-add}
use Rattle.lists.specs.Members.{place}
use Rattle.lists.specs.Parts.{numbers}
use Rattle.lists.proofs.Members.{place_lt, get_or-place}
use Rattle.lists.proofs.Parts.{length_numbers, get_or-numbers}
use Rattle.qcir_spelling.specs.Machine.{dead}
use Rattle.qcir_scan.specs.Places.{places, place_of}
use Rattle.qcir_scan.specs.Tables.{samples, sample_of, columns, entry_for, moves, entry_at, Tables}
use Rattle.qcir_scan.proofs.Rule.{places_length, sampled}

module _ {A B : Type 0} where
  get_d_map : (f : A → B) (xs : List A) (i : ℕ) (a : A) (b : B) → i < length xs → get_or (map f xs) i b ≡ f (get_or xs i a)
  get_d_map f [] i a b h = absurd (not-suc-le-zero h)
  get_d_map f (x ∷ xs) zero a b h = refl
  get_d_map f (x ∷ xs) (suc i) a b h = get_d_map f xs i a b (le_of_suc-le-suc h)

  -- lists of n elements each, one after the other
  get_or-column : (g : A → List B) (n : ℕ) → ((x : A) → length (g x) ≡ n) → (xs : List A) (k i : ℕ) (a : A) (b : B) → k < length xs → i < n → get_or (flat_map g xs) (n * k + i) b ≡ get_or (g (get_or xs k a)) i b
  unfolding flat_map
  get_or-column g n l [] k i a b h low = absurd (not-suc-le-zero h)
  get_or-column g n l (x ∷ xs) zero i a b h low =
      let z : n * 0 + i ≡ i = omega arith in
      let m : i < length (g x) = omega (arith, l x) in
      ap (λ j. get_or (g x ++ flat_map g xs) j b) z ∙ get_or-append (g x) (flat_map g xs) b i m
  get_or-column g n l (x ∷ xs) (suc k) i a b h low =
      let z : n * suc k + i ≡ length (g x) + (n * k + i) = omega (arith, l x) in
      ap (λ j. get_or (g x ++ flat_map g xs) j b) z
      ∙ get_or-append-add (g x) (flat_map g xs) (n * k + i) b
      ∙ get_or-column g n l xs k i a b (le_of_suc-le-suc h) low

samples_length : length samples ≡ 26
unfolding samples
samples_length = refl

module _ (i : ℕ) (low : i < 115) (b : ℕ) (byte : b < 256) where
  class : ℕ
  class = place (sample_of b) samples

  class_low : class < length samples
  unfolding class
  class_low = place_lt (sample_of b) samples (sampled b byte)

  column_is : get_or columns b 0 ≡ 115 * class
  unfolding columns class
  column_is =
      let n : get_or (numbers 0 256) b 0 ≡ b = get_or-numbers 0 256 b 0 byte ∙ omega arith in
      get_d_map (λ x. 115 * place (sample_of x) samples) (numbers 0 256) b 0 0 (rw (length_numbers 0 256) byte)
      ∙ ap (λ x. 115 * place (sample_of x) samples) n

  -- the index is within the table
  in_table : get_or columns b 0 + i < 2990
  in_table = let c = column_is in let l = class_low in omega (arith, samples_length)

  -- and the entry stands there
  table_entry : get_or moves (get_or columns b 0 + i) 0 ≡ entry_at i b
  unfolding moves entry_at place_of class
  table_entry =
      ap (λ j. get_or moves (j + i) 0) column_is
      ∙ get_or-column (λ x. map (λ p. entry_for p x) places) 115 (λ x. length-map places (λ p. entry_for p x) ∙ places_length) samples class i 0 0 class_low low
      ∙ ap (λ x. get_or (map (λ p. entry_for p x) places) i 0) (get_or-place (sample_of b) samples 0 (sampled b byte))
      ∙ get_d_map (λ p. entry_for p (sample_of b)) places i dead 0 (rw places_length low)

  -- the same of the code's tables
  module _ {ms cs : List ℕ} (t : Tables ms cs) where
    pub index_low : get_or cs b 0 + i < 2990
    index_low = rw t.columns_are in_table

    pub entry_is : get_or ms (get_or cs b 0 + i) 0 ≡ entry_at i b
    entry_is = rw (t.moves_are, t.columns_are) table_entry
