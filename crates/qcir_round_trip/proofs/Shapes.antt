-- A written file: gate lines `and()`, `and` of two signed names, `xor` of two unsigned ones, numbered one after the other; positions are 0.
-- Assumes nothing.
use mathlib.Core.Path.{◌≡◌}
use mathlib.Core.Bool.{Bool, false}
use mathlib.Core.List.{List, [], ◌∷◌}
use Prim.Native.Nat.{ℕ, suc}
use Rattle.qcir.specs.File.{Literal, conjunction, Gate, junction_gate, xor_gate, File}
use Rattle.qcir.specs.Refusals.{misplaced, not_used_once}
use Rattle.qcir_form.specs.File.{named, literal}

-- A gate line as it is written, with number n.
pub data Shape (n : ℕ) : Gate → Type 0 where
  one : Shape n (junction_gate conjunction (named n) [])
  both : (s r : Bool) (x y : ℕ) → Shape n (junction_gate conjunction (named n) (literal s x ∷ literal r y ∷ []))
  differ : (x y : ℕ) → Shape n (xor_gate (named n) (literal false x) (literal false y))

-- Gate lines as they are written, numbered from n on.
pub data Shapes : ℕ → List Gate → Type 0 where
  no_gate : {n : ℕ} → Shapes n []
  a_gate : {n : ℕ} {g : Gate} {gs : List Gate} → Shape n g → Shapes (suc n) gs → Shapes n (g ∷ gs)

-- A literal at position 0.
abbrev pub Unplaced : Literal → Type 0
Unplaced l = l ≡ literal l.minus l.name.number

-- A file with gates from this number on that refusals 11 and 13 do not speak of.
pub record FileFrom (first : ℕ) (f : File) : Type 0 where
  pub shapes : Shapes first f.gates
  pub output : Unplaced f.output
  pub placed : misplaced f ≡ []
  pub once : not_used_once f ≡ []
