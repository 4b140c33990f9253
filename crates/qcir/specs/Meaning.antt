-- The truth value of a QCIR file, on what the file says.
-- Assumes nothing.
use Rattle.std.specs.Prelude.{Bool, true, false, not, ◌&&◌, ◌||◌, List, [], ◌∷◌, ℕ, eqb}
use Rattle.std.specs.Bool.{xor}
use Rattle.lists.specs.Choice.{pick}
use Rattle.formula.specs.Valuation.{Valuation, quant}
use Rattle.qcir.specs.File.{Literal, Junction, conjunction, disjunction, Gate, junction_gate, xor_gate, quantifier_gate, gate_name, Line, line_variables, File, numbers_of}

-- The value of each name under each valuation.
abbrev pub Meaning : Type 0
Meaning = ℕ → Valuation → Bool

-- "a minus sign is a not node": the other value.
unfoldable pub literal_value : Meaning → Literal → Valuation → Bool
literal_value m l v = pick l.minus (not (m l.name.number v)) (m l.name.number v)

-- and: true if every input is, so `and()` is 1; or: true if some input is, so `or()` is 0.
unfoldable pub junction_value : Meaning → Junction → List Literal → Valuation → Bool
junction_value m conjunction [] v = true
junction_value m conjunction (l ∷ ls) v = literal_value m l v && junction_value m conjunction ls v
junction_value m disjunction [] v = false
junction_value m disjunction (l ∷ ls) v = literal_value m l v || junction_value m disjunction ls v

-- A gate's value, given those of the names before its line. "A quantified gate covers the gates below it": its input is read under
-- the valuations that the quantifier makes, whatever stands below it.
unfoldable pub gate_value : Meaning → Gate → Valuation → Bool
gate_value m (junction_gate j g ls) v = junction_value m j ls v
gate_value m (xor_gate g l r) v = xor (literal_value m l v) (literal_value m r v)
gate_value m (quantifier_gate q g x xs l) v = quant q (numbers_of (x ∷ xs)) (literal_value m l) v

-- The values of all names, given those before the gate lines: a gate line gives its name the gate's value.
unfoldable pub meaning : Meaning → List Gate → Meaning
meaning m [] = m
meaning m (g ∷ gs) = meaning (λ x v. pick (eqb x (gate_name g).number) (gate_value m g v) (m x v)) gs

-- g under the prefix lines, the first line outermost.
unfoldable pub prefix_value : List Line → (Valuation → Bool) → Valuation → Bool
prefix_value [] g v = g v
prefix_value (l ∷ ls) g v = quant l.quantifier (numbers_of (line_variables l)) (prefix_value ls g) v

-- The output's value under the prefix lines. A name that no gate line defines is a variable.
unfoldable pub file_truth : File → Valuation → Bool
file_truth f v = prefix_value f.prefix (literal_value (meaning (λ x u. u x) f.gates) f.output) v
