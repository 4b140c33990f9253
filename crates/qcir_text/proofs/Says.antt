-- The text of a file says the file.
-- Assumes nothing.
use mathlib.Core.Path.{◌≡◌, refl, sym, ap}
use mathlib.Core.Bool.{true}
use mathlib.Core.List.{List, [], ◌∷◌, ◌++◌, append_assoc, append-nil}
use Prim.Native.Nat.{ℕ}
use lib.Dec.{leb}
use borrow.Author.Tests.{eqb-true, leb-true}
use Rattle.lists.specs.Choice.{pick_yes, pick_no, Is, is_true, is_false, look, clash, and_left, and_right}
use Rattle.qcir.specs.File.{Gate, junction_gate, xor_gate, quantifier_gate, File}
use Rattle.qcir.specs.Spelling.{Sign, word, name, newline, header, closing, comma, semicolon, names_signs, literal_signs, any_inputs_signs, output_signs, gate_signs, gates_signs, free_signs, prefix_signs, file_signs, is_space, is_count}
use Rattle.qcir.specs.Unbounded.{names_up_to}
use Rattle.texts.specs.Numerals.{digits}
use Rattle.qcir.specs.Positions.{SpelledUnplaced, end, space, a_word, a_name, at_line_end, blank_line, SpellsUnplaced}
use Rattle.texts.proofs.Numerals.{digits_numeral, digits_value}
use Rattle.qcir.proofs.Positions.{spells_says}
use Rattle.qcir_text.specs.Text.{is_byte, word_text, sign_text, signs_text, file_text}
use Rattle.qcir_text.specs.Laws.{names_from_one, TextSays}

-- Signs that end a line.
pub data Ends : List Sign → Type 0 where
  last : Ends (newline ∷ [])
  before : (s : Sign) {ss : List Sign} → Ends ss → Ends (s ∷ ss)

ends_append : (ss rr : List Sign) → Ends rr → Ends (ss ++ rr)
ends_append [] rr e = e
ends_append (s ∷ ss) rr e = before s (ends_append ss rr e)

closing_ends : (ss : List Sign) → Ends (ss ++ (word closing ∷ newline ∷ []))
closing_ends ss = ends_append ss _ (before _ last)

gate_ends : (g : Gate) → Ends (gate_signs g)
unfolding gate_signs
gate_ends (junction_gate j g ls) = before _ (before _ (before _ (before _ (closing_ends (any_inputs_signs ls)))))
gate_ends (xor_gate g l r) =
    before _ (before _ (before _ (before _ (ends_append (literal_signs l) _ (before (word comma) (closing_ends (literal_signs r)))))))
gate_ends (quantifier_gate q g x xs l) =
    before _ (before _ (before _ (before _ (ends_append (names_signs x xs) _ (before (word semicolon) (closing_ends (literal_signs l)))))))

gates_end : (ss : List Sign) (gs : List Gate) → Ends ss → Ends (ss ++ gates_signs gs)
unfolding gates_signs
gates_end ss [] e = rw (append-nil ss) e
gates_end ss (g ∷ gs) e = ends_append ss _ (gates_end (gate_signs g) gs (gate_ends g))

file_ends : (f : File) → Ends (file_signs f)
unfolding file_signs output_signs
file_ends f =
    ends_append (free_signs f.free) _
    (ends_append (prefix_signs f.prefix) _ (gates_end (output_signs f.output) f.gates (before _ (before _ (closing_ends (literal_signs f.output))))))

-- one byte
one_byte : (b : ℕ) (w : List ℕ) → is_byte b w ≡ true → w ≡ b ∷ []
unfolding is_byte
one_byte b [] e = clash e refl
one_byte b (c ∷ []) e = ap (λ d. d ∷ []) (sym (eqb-true b c e))
one_byte b (c ∷ d ∷ w) e = clash e refl

-- A word, with the spaces that stand around it.
spelled_word : (most : ℕ) (w : List ℕ) (ss : List Sign) (t : List ℕ) → SpelledUnplaced most ss t
    → SpelledUnplaced most (word w ∷ ss) (word_text w ++ t)
unfolding word_text is_space
spelled_word most w ss t d = go (look (is_byte 44 w)) (look (is_byte 61 w))
  where
    go : Is (is_byte 44 w) → Is (is_byte 61 w) → SpelledUnplaced most (word w ∷ ss) (word_text w ++ t)
    go (is_true e) h = rw (pick_yes _ _ _ e, one_byte 44 w e) (a_word (44 ∷ []) (space refl d))
    go (is_false e) (is_true h) = rw (pick_no _ _ _ e, pick_yes _ _ _ h, one_byte 61 w h) (space refl (a_word (61 ∷ []) (space refl d)))
    go (is_false e) (is_false h) = rw (pick_no _ _ _ e, pick_no _ _ _ h) (a_word w d)

-- The end of the file, read as the end of a line, is a blank line.
spelled_signs : (most : ℕ) (ss : List Sign) → Ends ss → names_from_one ss ≡ true → names_up_to most ss ≡ true
    → SpelledUnplaced most ss (signs_text ss ++ (10 ∷ []))
unfolding signs_text sign_text names_from_one names_up_to
spelled_signs most [] e f u = elim e [ ]
spelled_signs most (newline ∷ []) last f u = blank_line (at_line_end end)
spelled_signs most (word w ∷ ss) (before _ e) f u =
    rw (append_assoc (word_text w) (signs_text ss) (10 ∷ [])) (spelled_word most w ss _ (spelled_signs most ss e f u))
spelled_signs most (name x ∷ ss) (before _ e) f u =
    rw (append_assoc (digits x.number) (signs_text ss) (10 ∷ []))
    (a_name x (digits x.number) (digits_numeral x.number (leb-true 1 x.number (and_left _ _ f))) (digits_value x.number)
    (leb-true x.number most (and_left _ _ u))
    (spelled_signs most ss e (and_right (leb 1 x.number) _ f) (and_right (leb x.number most) _ u)))
spelled_signs most (newline ∷ ss) (before _ e) f u = at_line_end (spelled_signs most ss e f u)

spelled_file : (most : ℕ) (f : File) → names_from_one (file_signs f) ≡ true → names_up_to most (file_signs f) ≡ true → SpellsUnplaced most (file_text f) f
unfolding file_text is_count names_from_one names_up_to
spelled_file most f n u =
    record {
      count = [];
      rest = signs_text (newline ∷ file_signs f) ++ (10 ∷ []);
      counted = refl;
      parts = append_assoc header (signs_text (newline ∷ file_signs f)) (10 ∷ []);
      spelled = spelled_signs most (newline ∷ file_signs f) (before newline (file_ends f)) n u;
    }

pub text_says : TextSays
text_says most f n u = spells_says most (file_text f) f (spelled_file most f n u)
