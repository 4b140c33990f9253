-- What a text spells within a limit on names, it spells within any other that its names keep.
-- Assumes nothing.
use mathlib.Core.Path.{◌≡◌, refl}
use mathlib.Core.Bool.{true}
use mathlib.Core.List.{List}
use Prim.Native.Nat.{ℕ, ◌≤◌}
use native.Mathlib.Omega.{arith}
use lib.Dec.{leb}
use borrow.Author.Tests.{leb-true, le-leb}
use Rattle.lists.specs.Choice.{and_left, and_right, and_both}
use Rattle.qcir.specs.File.{File}
use Rattle.qcir.specs.Spelling.{Sign, value_from, Spelled, end, space, a_word, a_name, at_line_end, blank_line, comment_line, Spells, file_signs}
use Rattle.qcir.specs.Unbounded.{names_up_to}
use Rattle.qcir.specs.Laws.{SpellsMore, SpellsWithin}

spelled_within : {a b p : ℕ} {ss : List Sign} {t : List ℕ} → Spelled a p ss t → names_up_to b ss ≡ true → Spelled b p ss t
unfolding names_up_to
spelled_within end k = end
spelled_within (space h d) k = space h (spelled_within d k)
spelled_within (a_word w d) k = a_word w (spelled_within d k)
spelled_within {b = b} (a_name ds h m d) k =
    a_name ds h (leb-true _ b (and_left _ _ k)) (spelled_within d (and_right (leb (value_from 0 ds) b) _ k))
spelled_within (at_line_end d) k = at_line_end (spelled_within d k)
spelled_within (blank_line d) k = blank_line (spelled_within d k)
spelled_within (comment_line gap note g h d) k = comment_line gap note g h (spelled_within d k)

spelled_names : {a b p : ℕ} {ss : List Sign} {t : List ℕ} → a ≤ b → Spelled a p ss t → names_up_to b ss ≡ true
unfolding names_up_to
spelled_names l end = refl
spelled_names l (space h d) = spelled_names l d
spelled_names l (a_word w d) = spelled_names l d
spelled_names {b = b} l (a_name ds h m d) = and_both _ _ (le-leb (value_from 0 ds) b (omega arith)) (spelled_names l d)
spelled_names l (at_line_end d) = spelled_names l d
spelled_names l (blank_line d) = spelled_names l d
spelled_names l (comment_line gap note g h d) = spelled_names l d

within : {a b : ℕ} {text : List ℕ} {f : File} → Spells a text f → names_up_to b (file_signs f) ≡ true → Spells b text f
unfolding names_up_to
within s k = record { count = s.count; rest = s.rest; counted = s.counted; parts = s.parts; spelled = spelled_within s.spelled k }

names_within : {a b : ℕ} {text : List ℕ} {f : File} → a ≤ b → Spells a text f → names_up_to b (file_signs f) ≡ true
unfolding names_up_to
names_within l s = spelled_names l s.spelled

pub spells_more : SpellsMore
spells_more a b text f l s = within s (names_within l s)

pub spells_within : SpellsWithin
spells_within most text f =
    (λ s. (record { most = most; spells = s }, names_within (omega arith) s), λ u. within u.0.spells u.1)
