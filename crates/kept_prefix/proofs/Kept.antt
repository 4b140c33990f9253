-- Names that a function does not look at may be left out of the blocks over it.
-- Assumes nothing.
use mathlib.Core.Path.{◌≡◌, refl, sym, ◌∙◌, ap, ap₂}
use mathlib.Core.Bool.{Bool, true, false}
use mathlib.Core.List.{List, [], ◌∷◌, ◌++◌, map, flat_map, map-append}
use Prim.Native.Nat.{ℕ, suc, ◌≤◌}
use native.Mathlib.Omega.{arith}
use lib.Dec.{eqb}
use lib.ListN.{length, length-map}
use borrow.Author.Tests.{eqb-true}
use Rattle.lists.specs.Choice.{pick, pick_yes, pick_no, Is, is_true, is_false, look, clash, absent}
use Rattle.kept_prefix.specs.Blocks.{keep, prefix_names, filled_blocks}
use Rattle.kept_prefix.proofs.Keep.{keep_append}
use Rattle.formula.specs.Node.{Quantifier, exists, for_all, Table}
use Rattle.formula.specs.Valuation.{Valuation, update, join, quant}
use Rattle.formula.specs.Form.{Block, quantify}
use Rattle.kept_prefix.proofs.Blocks.{Filled, filled_names, quantify_filled, length_filled, filled_blocks_lem}
use Rattle.formula.proofs.Quantify.{quant_cong}
use Rattle.formula.proofs.Coincidence.{EqualAt, Only}
use Rattle.kept_prefix.specs.Leading.{block_of, from_root, outermost}
use Rattle.kept_prefix.specs.Kept.{stands, kept_block, front_blocks}
use Rattle.kept_prefix.proofs.Leading.{outermost_next}

-- Blocks look at no more than what they stand over.
update_both : (p : ℕ → Bool) (v u : Valuation) (x : ℕ) (b : Bool) → EqualAt p v u → EqualAt p (update v x b) (update u x b)
unfolding update
update_both p v u x b same y h = ap (pick (eqb y x) b) (same y h)

quant_looks : (p : ℕ → Bool) (q : Quantifier) (xs : List ℕ) (g : Valuation → Bool) → Only p g → Only p (quant q xs g)
unfolding quant
quant_looks p q [] g only v u same = only v u same
quant_looks p q (x ∷ xs) g only v u same =
    ap₂ (join q)
    (quant_looks p q xs g only (update v x false) (update u x false) (update_both p v u x false same))
    (quant_looks p q xs g only (update v x true) (update u x true) (update_both p v u x true same))

quantify_looks : (p : ℕ → Bool) (bs : List Block) (g : Valuation → Bool) → Only p g → Only p (quantify bs g)
unfolding quantify
quantify_looks p [] g only = only
quantify_looks p (b ∷ bs) g only = quant_looks p b.quantifier b.variables (quantify bs g) (quantify_looks p bs g only)

-- A name that is not looked at changes nothing.
update_equal : (p : ℕ → Bool) (v : Valuation) (x : ℕ) (b : Bool) → p x ≡ false → EqualAt p (update v x b) v
unfolding update
update_equal p v x b n y h = pick_no (eqb y x) b (v y) (absent _ (λ e. clash h (ap p (eqb-true y x e) ∙ n)))

join_one : (q : Quantifier) (a : Bool) → join q a a ≡ a
unfolding join
join_one exists true = refl
join_one exists false = refl
join_one for_all true = refl
join_one for_all false = refl

module _ (p : ℕ → Bool) (g : Valuation → Bool) (only : Only p g) where
  quant_unseen : (q : Quantifier) (x : ℕ) (xs : List ℕ) → p x ≡ false → (v : Valuation) → quant q (x ∷ xs) g v ≡ quant q xs g v
  unfolding quant
  quant_unseen q x xs n v =
      let at : (b : Bool) → quant q xs g (update v x b) ≡ quant q xs g v = λ b. quant_looks p q xs g only (update v x b) v (update_equal p v x b n) in
      ap₂ (join q) (at false) (at true) ∙ join_one q (quant q xs g v)

  keep_quant : (q : Quantifier) (xs : List ℕ) (v : Valuation) → quant q (keep p xs) g v ≡ quant q xs g v
  unfolding keep quant
  keep_quant q [] v = refl
  keep_quant q (x ∷ xs) v = go (look (p x)) (keep_quant q xs)
    where
      go : Is (p x) → ((u : Valuation) → quant q (keep p xs) g u ≡ quant q xs g u) → quant q (pick (p x) (x ∷ keep p xs) (keep p xs)) g v ≡ quant q (x ∷ xs) g v
      go (is_true e) rest =
          ap (λ ys. quant q ys g v) (pick_yes (p x) _ _ e) ∙ ap₂ (join q) (rest (update v x false)) (rest (update v x true))
      go (is_false e) rest = ap (λ ys. quant q ys g v) (pick_no (p x) _ _ e) ∙ rest v ∙ sym (quant_unseen q x xs e v)

-- The blocks with the names that g looks at.
keep_blocks : (p : ℕ → Bool) (bs : List Block) (g : Valuation → Bool) → Only p g → (v : Valuation)
    → quantify (map (kept_block p) bs) g v ≡ quantify bs g v
unfolding quantify kept_block
keep_blocks p [] g only v = refl
keep_blocks p (b ∷ bs) g only v =
    quant_cong b.quantifier (keep p b.variables) (quantify (map (kept_block p) bs) g) (quantify bs g) v (keep_blocks p bs g only)
    ∙ keep_quant p (quantify bs g) (quantify_looks p bs g only) b.quantifier b.variables v

keep_names : (p : ℕ → Bool) (bs : List Block) → prefix_names (map (kept_block p) bs) ≡ keep p (prefix_names bs)
unfolding prefix_names flat_map kept_block keep
keep_names p [] = refl
keep_names p (b ∷ bs) = ap (λ xs. keep p b.variables ++ xs) (keep_names p bs) ∙ sym (keep_append p b.variables (prefix_names bs))

-- What is kept of blocks in two parts.
pick_blocks : (e : Bool) (b : Block) (bs cs ds : List Block) → ds ≡ bs ++ cs → pick e ds (b ∷ ds) ≡ pick e bs (b ∷ bs) ++ cs
unfolding pick
pick_blocks true b bs cs ds h = h
pick_blocks false b bs cs ds h = ap (λ (es : List Block). b ∷ es) h

blocks_append : (bs cs : List Block) → filled_blocks (bs ++ cs) ≡ filled_blocks bs ++ filled_blocks cs
unfolding filled_blocks
blocks_append [] cs = refl
blocks_append (b ∷ bs) cs =
    pick_blocks (eqb (length b.variables) 0) b (filled_blocks bs) (filled_blocks cs) (filled_blocks (bs ++ cs)) (blocks_append bs cs)

pub front_append : (t : Table) (bs cs : List Block) → front_blocks t (bs ++ cs) ≡ front_blocks t bs ++ front_blocks t cs
unfolding front_blocks
front_append t bs cs = ap filled_blocks (map-append (kept_block (stands t)) bs cs) ∙ blocks_append _ _

-- One block more from the root down.
pub front_next : (t : Table) (k : ℕ) → front_blocks t (outermost t (suc k)) ≡ front_blocks t (outermost t k) ++ front_blocks t (block_of (from_root t k) ∷ [])
front_next t k = ap (front_blocks t) (outermost_next t k) ∙ front_append t (outermost t k) (block_of (from_root t k) ∷ [])

-- The blocks in front of a table.
module _ (t : Table) (bs : List Block) where
  pub front_truth : (g : Valuation → Bool) → Only (stands t) g → (v : Valuation) → quantify (front_blocks t bs) g v ≡ quantify bs g v
  unfolding front_blocks
  front_truth g only v = quantify_filled g (map (kept_block (stands t)) bs) v ∙ keep_blocks (stands t) bs g only v

  -- their names are those of the blocks that stand at a variable node
  pub front_kept : prefix_names (front_blocks t bs) ≡ keep (stands t) (prefix_names bs)
  unfolding front_blocks
  front_kept = filled_names (map (kept_block (stands t)) bs) ∙ keep_names (stands t) bs

  pub front_few : length (front_blocks t bs) ≤ length bs
  unfolding front_blocks
  front_few = omega (arith, length_filled (map (kept_block (stands t)) bs), length-map bs (kept_block (stands t)))

  pub front_filled : Filled (front_blocks t bs)
  unfolding front_blocks
  front_filled = filled_blocks_lem (map (kept_block (stands t)) bs)
