-- The text of a file, put together from the texts of its lines.
-- Assumes nothing.
use mathlib.Core.List.{List, [], ◌∷◌, ◌++◌, append_assoc, append-nil}
use mathlib.Core.Path.{◌≡◌, refl, sym, ◌∙◌, ap}
use Rattle.qcir.specs.File.{Gate, Line, File}
use Rattle.qcir.specs.Spelling.{newline, header, list_signs, quantifier_word, free_signs, prefix_signs, output_signs, gate_signs, gates_signs, file_signs}
use Rattle.qcir_text.specs.Text.{sign_text, signs_text, file_text}
use Rattle.qcir_text.proofs.Texts.{signs_append}

-- the header line, the free line, the prefix lines, the output line, the gate lines
pub file_text_lem : (f : File) → file_text f
    ≡ (header ++ signs_text (newline ∷ []))
    ++ (signs_text (free_signs f.free)
    ++ (signs_text (prefix_signs f.prefix) ++ (signs_text (output_signs f.output) ++ signs_text (gates_signs f.gates))))
unfolding file_text file_signs signs_text sign_text
file_text_lem f =
    let free = free_signs f.free in
    let lines = prefix_signs f.prefix in
    let output = output_signs f.output in
    let gates = gates_signs f.gates in
    ap (λ t. header ++ (10 ∷ t))
    (signs_append free (lines ++ (output ++ gates))
    ∙ ap (λ t. signs_text free ++ t) (signs_append lines (output ++ gates) ∙ ap (λ t. signs_text lines ++ t) (signs_append output gates)))

pub gates_append : (gs hs : List Gate) → signs_text (gates_signs (gs ++ hs)) ≡ signs_text (gates_signs gs) ++ signs_text (gates_signs hs)
unfolding gates_signs signs_text
gates_append [] hs = refl
gates_append (g ∷ gs) hs =
    signs_append (gate_signs g) (gates_signs (gs ++ hs))
    ∙ ap (λ t. signs_text (gate_signs g) ++ t) (gates_append gs hs)
    ∙ sym (append_assoc (signs_text (gate_signs g)) (signs_text (gates_signs gs)) (signs_text (gates_signs hs)))
    ∙ ap (λ t. t ++ signs_text (gates_signs hs)) (sym (signs_append (gate_signs g) (gates_signs gs)))

pub one_gate : (g : Gate) → signs_text (gates_signs (g ∷ [])) ≡ signs_text (gate_signs g)
unfolding gates_signs
one_gate g = ap signs_text (append-nil (gate_signs g))

pub prefix_append : (ls ms : List Line) → signs_text (prefix_signs (ls ++ ms)) ≡ signs_text (prefix_signs ls) ++ signs_text (prefix_signs ms)
unfolding prefix_signs signs_text
prefix_append [] ms = refl
prefix_append (l ∷ ls) ms =
    let line = list_signs (quantifier_word l.quantifier) l.first l.others in
    signs_append line (prefix_signs (ls ++ ms))
    ∙ ap (λ t. signs_text line ++ t) (prefix_append ls ms)
    ∙ sym (append_assoc (signs_text line) (signs_text (prefix_signs ls)) (signs_text (prefix_signs ms)))
    ∙ ap (λ t. t ++ signs_text (prefix_signs ms)) (sym (signs_append line (prefix_signs ls)))
