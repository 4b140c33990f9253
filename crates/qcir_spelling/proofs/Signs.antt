-- The points as a machine that takes one sign at a time.
-- Assumes nothing.
use mathlib.Core.Path.{◌≡◌, refl}
use mathlib.Core.List.{List, [], ◌∷◌, ◌++◌}
use Prim.Native.Nat.{ℕ}
use lib.Dec.{eqb}
use Rattle.lists.specs.Choice.{pick}
use Rattle.qcir.specs.File.{Name}
use Rattle.qcir.specs.Spelling.{Sign, word, name, newline}
use Rattle.qcir_tokens.specs.Tokens.{Token, token}
use Rattle.qcir_spelling.specs.Machine.{row, row_at, arrow, arrow_of, point, points}

-- the point after the end of a line, or of a blank line
unfoldable pub line_end : ℕ → ℕ
line_end c = pick (point c).starts c (point c).ended

-- the point after a sign, 0 if the sign may not come
unfoldable pub go : ℕ → Sign → ℕ
go c (word w) = (arrow_of w (point c).words).target
go c (name x) = (point c).named
go c newline = line_end c

unfoldable pub after : ℕ → List Sign → ℕ
after c [] = c
after c (s ∷ ss) = after (go c s) ss

-- the token that ends in a role; none if the role is 0
unfoldable pub closes : ℕ → Name → List Token
closes role x = pick (eqb role 0) [] (token role x ∷ [])

-- the tokens that end within the signs, x being the last name before them
unfoldable pub emitted : ℕ → Name → List Sign → List Token
emitted c x [] = []
emitted c x (word w ∷ ss) = closes (arrow_of w (point c).words).role x ++ emitted (arrow_of w (point c).words).target x ss
emitted c x (name y ∷ ss) = emitted (point c).named y ss
emitted c x (newline ∷ ss) = emitted (line_end c) x ss

-- after a sign that may not come none may come
pub after_zero : (ss : List Sign) → after 0 ss ≡ 0
unfolding after go line_end points row_at row arrow arrow_of pick
after_zero [] = refl
after_zero (word w ∷ ss) = after_zero ss
after_zero (name x ∷ ss) = after_zero ss
after_zero (newline ∷ ss) = after_zero ss

pub after_from : (c : ℕ) (ss : List Sign) → (after c ss ≡ 0 → ⊥) → c ≡ 0 → ⊥
after_from c ss h e = let z : after c ss ≡ 0 = rw e (after_zero ss) in h z
