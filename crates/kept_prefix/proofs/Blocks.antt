-- Blocks without the empty ones bind the same names in the same order and quantify as before.
-- Assumes nothing.
use mathlib.Core.Path.{◌≡◌, refl, sym, ap, subst}
use mathlib.Core.Bool.{Bool}
use mathlib.Core.List.{List, [], ◌∷◌, ◌++◌, flat_map}
use Prim.Native.Nat.{ℕ, zero, suc, ◌≤◌, ◌<◌}
use native.Mathlib.Omega.{arith}
use native.Mathlib.Nat.{le_of_suc-le-suc, not-suc-le-zero}
use lib.Dec.{eqb}
use lib.ListN.{length, get_or}
use borrow.Author.Tests.{eqb-true, eqb-false}
use Rattle.lists.specs.Choice.{pick_yes, pick_no, Is, is_true, is_false, look}
use Rattle.formula.specs.Valuation.{Valuation, quant}
use Rattle.formula.specs.Form.{Block, quantify}
use Rattle.kept_prefix.specs.Blocks.{prefix_names, filled_blocks}
use Rattle.formula.proofs.Quantify.{quant_cong}

no_names : (xs : List ℕ) → length xs ≡ 0 → xs ≡ []
no_names [] e = refl
no_names (x ∷ xs) e = absurd (omega arith)

-- The first block goes if it is empty, and stays if not.
filled_cases : (P : List Block → Type 0) (b : Block) (bs : List Block) → (b.variables ≡ [] → P (filled_blocks bs))
    → (0 < length b.variables → P (b ∷ filled_blocks bs)) → P (filled_blocks (b ∷ bs))
unfolding filled_blocks
filled_cases P b bs empty some = go (look (eqb (length b.variables) 0))
  where
    go : Is (eqb (length b.variables) 0) → P (filled_blocks (b ∷ bs))
    go (is_true e) = subst P (sym (pick_yes _ (filled_blocks bs) (b ∷ filled_blocks bs) e)) (empty (no_names _ (eqb-true _ _ e)))
    go (is_false e) =
        let n : length b.variables ≡ 0 → ⊥ = eqb-false _ _ e in
        subst P (sym (pick_no _ (filled_blocks bs) (b ∷ filled_blocks bs) e)) (some (omega arith))

pub filled_names : (bs : List Block) → prefix_names (filled_blocks bs) ≡ prefix_names bs
unfolding prefix_names flat_map filled_blocks
filled_names [] = refl
filled_names (b ∷ bs) =
    let rest = filled_names bs in
    filled_cases (λ cs. prefix_names cs ≡ b.variables ++ prefix_names bs) b bs (λ e. rw e rest) (λ h. ap (λ xs. b.variables ++ xs) rest)

pub quantify_filled : (f : Valuation → Bool) (bs : List Block) (v : Valuation) → quantify (filled_blocks bs) f v ≡ quantify bs f v
unfolding filled_blocks quantify quant
quantify_filled f [] v = refl
quantify_filled f (b ∷ bs) v =
    let rest = quantify_filled f bs in
    filled_cases (λ cs. quantify cs f v ≡ quant b.quantifier b.variables (quantify bs f) v) b bs (λ e. rw e (rest v))
    (λ h. quant_cong b.quantifier b.variables (quantify (filled_blocks bs) f) (quantify bs f) v rest)

pub length_filled : (bs : List Block) → length (filled_blocks bs) ≤ length bs
unfolding filled_blocks
length_filled [] = omega arith
length_filled (b ∷ bs) =
    let rest = length_filled bs in
    filled_cases (λ cs. length cs ≤ suc (length bs)) b bs (λ e. omega arith) (λ h. omega arith)

-- Each of some blocks binds a variable.
abbrev pub Filled : List Block → Type 0
Filled bs = (d : Block) (j : ℕ) → j < length bs → 0 < length (get_or bs j d).variables

filled_first : (b : Block) (bs : List Block) → 0 < length b.variables → Filled bs → Filled (b ∷ bs)
filled_first b bs some rest d zero h = some
filled_first b bs some rest d (suc j) h = rest d j (le_of_suc-le-suc h)

pub filled_blocks_lem : (bs : List Block) → Filled (filled_blocks bs)
unfolding filled_blocks
filled_blocks_lem [] = λ d j h. absurd (not-suc-le-zero h)
filled_blocks_lem (b ∷ bs) =
    let rest = filled_blocks_lem bs in
    filled_cases Filled b bs (λ e. rest) (λ h. filled_first b (filled_blocks bs) h rest)

pub filled_append : (bs cs : List Block) → Filled bs → Filled cs → Filled (bs ++ cs)
filled_append [] cs f g = g
filled_append (b ∷ bs) cs f g = filled_first b (bs ++ cs) (f b zero (omega arith)) (filled_append bs cs (λ d j h. f d (suc j) (omega arith)) g)
