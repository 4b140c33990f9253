-- A text that spells a file without positions spells it at some positions, and back.
-- Assumes nothing.
use mathlib.Core.Path.{refl, subst}
use mathlib.Core.List.{List, [], ◌∷◌, map}
use Prim.Native.Nat.{ℕ, suc, ◌+◌, ◌≤◌}
use lib.ListN.{length}
use Rattle.qcir.specs.File.{File}
use Rattle.qcir.specs.Spelling.{Sign, word, newline, file_signs, value_from, header, Spelled, Spells}
use Rattle.qcir.specs.Spelling.{end as end_at, space as space_at, a_word as word_at, a_name as name_at, at_line_end as line_end_at, blank_line as blank_line_at, comment_line as comment_line_at}
use Rattle.qcir.specs.Positions.{unplaced_name, unplaced, Says, SpelledUnplaced, end, space, a_word, a_name, at_line_end, blank_line, comment_line, SpellsUnplaced, SpellsSays, SaysSpells}
use Rattle.qcir.proofs.PositionsSigns.{unplaced_sign, Alike, no_sign, same_word, same_name, same_line, file_signs_lem, placed_file}

-- The text, whose first byte has position p, spells signs that are ss but for positions.
record SpelledLike (most p : ℕ) (ss : List Sign) (t : List ℕ) : Type 0 where
  signs : List Sign
  spelled : Spelled most p signs t
  alike : Alike ss signs

-- Lines that are skipped come before the end of a line.
skip : {most p q : ℕ} {ss rr : List Sign} {t u : List ℕ} → ((us : List Sign) → Spelled most q (newline ∷ us) t → Spelled most p (newline ∷ us) u)
    → Spelled most q rr t → Alike (newline ∷ ss) rr → SpelledLike most p (newline ∷ ss) u
skip more s (same_line {rr = us} h) = record { signs = newline ∷ us; spelled = more us s; alike = same_line h }

-- A text that spells signs without positions spells them at some positions.
at_places : {most : ℕ} {ss : List Sign} {t : List ℕ} → SpelledUnplaced most ss t → (p : ℕ) → SpelledLike most p ss t
at_places end p = record { signs = []; spelled = end_at; alike = no_sign }
at_places (space h d) p = let r = at_places d (suc p) in record { signs = r.signs; spelled = space_at h r.spelled; alike = r.alike }
at_places (a_word w d) p =
    let r = at_places d (p + length w) in
    record { signs = word w ∷ r.signs; spelled = word_at w r.spelled; alike = same_word w r.alike }
at_places {most} (a_name x ds n e l d) p =
    let r = at_places d (p + length ds) in
    let m : value_from 0 ds ≤ most = rw e l in
    record { signs = _; spelled = name_at ds n m r.spelled; alike = same_name e r.alike }
at_places (at_line_end d) p = let r = at_places d (suc p) in record { signs = newline ∷ r.signs; spelled = line_end_at r.spelled; alike = same_line r.alike }
at_places (blank_line d) p = let r = at_places d (suc p) in skip (λ us. blank_line_at) r.spelled r.alike
at_places (comment_line gap note g n d) p =
    let r = at_places d (suc p + (length gap + suc (length note))) in
    skip (λ us. comment_line_at gap note g n) r.spelled r.alike

-- Without the positions.
no_places : {most p : ℕ} {ss : List Sign} {t : List ℕ} → Spelled most p ss t → SpelledUnplaced most (map unplaced_sign ss) t
unfolding unplaced_sign unplaced_name
no_places end_at = end
no_places (space_at h d) = space h (no_places d)
no_places (word_at w d) = a_word w (no_places d)
no_places (name_at ds n l d) = a_name _ ds n refl l (no_places d)
no_places (line_end_at d) = at_line_end (no_places d)
no_places (blank_line_at d) = blank_line (no_places d)
no_places (comment_line_at gap note g n d) = comment_line gap note g n (no_places d)

-- The laws of texts.
spells_placed : (most : ℕ) (text : List ℕ) (f : File) (u : SpellsUnplaced most text f) {rr : List Sign}
    → Spelled most (length header + length u.count) rr u.rest → Alike (newline ∷ file_signs f) rr → Says most text f
spells_placed most text f u s (same_line {rr} h) =
    let g = placed_file f rr h in
    record {
      placed = g.0;
      spells = record { count = u.count; rest = u.rest; counted = u.counted; parts = u.parts; spelled = rw g.1 at s };
      same = g.2;
    }

pub spells_says : SpellsSays
spells_says most text f u = let r = at_places u.spelled (length header + length u.count) in spells_placed most text f u r.spelled r.alike

pub spells_unplaced : {most : ℕ} {text : List ℕ} {f : File} → Spells most text f → SpellsUnplaced most text (unplaced f)
unfolding unplaced_sign
spells_unplaced {f} s =
    let e = file_signs_lem f in
    record { count = s.count; rest = s.rest; counted = s.counted; parts = s.parts; spelled = rw e at (no_places s.spelled) }

pub says_spells : SaysSpells
says_spells most text f r = subst (SpellsUnplaced most text) r.same (spells_unplaced r.spells)
