-- The pieces of a report, put one after the other.
-- Assumes nothing.
use mathlib.Core.Path.{◌≡◌, sym, ap, ◌∙◌}
use mathlib.Core.List.{List, [], ◌∷◌, ◌++◌, flat_map, append-nil}
use Prim.Native.Nat.{ℕ, ◌+◌, ◌<◌, ◌≤◌}
use native.Mathlib.Numerals.{add-one}
use lib.ListN.{length, take, get_or}
use lib.Seq.{take-suc, take_all}
use Rattle.lists.proofs.Parts.{flat_map_append}
use Rattle.texts.specs.Put.{Put}
use Rattle.texts.proofs.Put.{put_none, put_then, put_as}
use Rattle.report_text.specs.Report.{figure_text, line_text}

-- the figures before the k-th
pub figures_none : (out xs : List ℕ) (at : ℕ) → Put out at (flat_map figure_text (take 0 xs)) out at
unfolding flat_map
figures_none out xs at = put_none out at

pub figures_next : {before mid after : List ℕ} {at next end : ℕ} (xs : List ℕ) (k : ℕ) → k < length xs
    → Put before at (flat_map figure_text (take k xs)) mid next → Put mid next (figure_text (get_or xs k 0)) after end
    → Put before at (flat_map figure_text (take (k + 1) xs)) after end
unfolding flat_map
figures_next xs k l a b = put_as more (put_then a b)
  where
    more : flat_map figure_text (take (k + 1) xs) ≡ flat_map figure_text (take k xs) ++ figure_text (get_or xs k 0)
    more =
        ap (λ n. flat_map figure_text (take n xs)) (add-one k) ∙ ap (flat_map figure_text) (take-suc xs k 0 l)
        ∙ flat_map_append figure_text (take k xs) (get_or xs k 0 ∷ [])
        ∙ ap (λ t. flat_map figure_text (take k xs) ++ t) (append-nil (figure_text (get_or xs k 0)))

pub figures_all : {before after : List ℕ} {at end : ℕ} (xs : List ℕ) (k : ℕ) → length xs ≤ k
    → Put before at (flat_map figure_text (take k xs)) after end → Put before at (flat_map figure_text xs) after end
figures_all xs k l a = put_as (ap (flat_map figure_text) (sym (take_all k xs l))) a

-- a line
pub line_put : {before mid last after : List ℕ} {at next end n : ℕ} (word xs : List ℕ) → Put before at word mid next
    → Put mid next (flat_map figure_text xs) last end → Put last end (10 ∷ []) after n → Put before at (line_text word xs) after n
unfolding line_text
line_put word xs a b c = put_then a (put_then b c)
