-- Laws of the roles of tokens, and of the list entries that they add.
-- Assumes nothing.
use mathlib.Core.Bool.{true, false}
use mathlib.Core.List.{List, [], ◌∷◌}
use mathlib.Core.Path.{◌≡◌, sym, ◌∙◌, ap}
use Prim.Native.Nat.{ℕ, ◌+◌, ◌≤◌}
use native.Mathlib.Omega.{arith}
use lib.Dec.{eqb, leb}
use lib.ListN.{length, set}
use borrow.Author.Tests.{leb-true, lt-leb, eqb-true}
use Rattle.lists.specs.Choice.{pick_yes, pick_no, and_right, or_cases}
use Rattle.lists.specs.Parts.{overwrite}
use Rattle.lists.proofs.Overwrite.{overwrite_nil, set_one}
use Rattle.qcir_tokens.specs.Tokens.{is_definition, is_bound, is_last}
use Rattle.qcir_nodes.specs.Nodes.{token_entries}

pub definition_not_last : (role : ℕ) → is_definition role ≡ true → is_last role ≡ false
unfolding is_definition is_last
definition_not_last role h =
    let l : role ≤ 17 = leb-true role 17 (and_right (leb 13 role) (leb role 17) h) in lt-leb 22 role (omega arith)

pub bound_not_last : (role : ℕ) → is_bound role ≡ true → is_last role ≡ false
unfolding is_bound is_last
bound_not_last role h =
    or_cases (eqb role 18) (eqb role 19) h (λ e. let q = eqb-true role 18 e in lt-leb 22 role (omega arith)) (λ e. let q = eqb-true role 19 e in lt-leb 22 role (omega arith))

pub entries_definition : (role x : ℕ) → is_definition role ≡ true → token_entries role x ≡ []
unfolding token_entries
entries_definition role x d = pick_yes _ _ _ d

pub entries_bound : (role x : ℕ) → is_definition role ≡ false → is_bound role ≡ true → token_entries role x ≡ x ∷ []
unfolding token_entries
entries_bound role x d b = pick_no _ _ _ d ∙ pick_yes _ _ _ b

pub entries_use : (role x : ℕ) → is_definition role ≡ false → is_bound role ≡ false → token_entries role x ≡ []
unfolding token_entries
entries_use role x d b = pick_no _ _ _ d ∙ pick_no _ _ _ b

-- a list that is left as it is, and one with one entry more
pub list_none : (out : List ℕ) (at : ℕ) (es : List ℕ) → es ≡ [] → out ≡ overwrite out at es
list_none out at es e = rw e (sym (overwrite_nil out at))

pub list_one : (out : List ℕ) (at x : ℕ) (es : List ℕ) → es ≡ x ∷ [] → at + length es ≤ length out → set out at x ≡ overwrite out at es
list_one out at x es e fits =
    let l = ap length e in rw e (set_one out at x (omega arith))
