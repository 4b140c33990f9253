-- The blocks of the problem of a form: without the empty ones, and with neighbours of one kind joined, they quantify as before.
-- Assumes nothing.
use mathlib.Core.Path.{◌≡◌, refl, sym, ◌∙◌, ap}
use mathlib.Core.Bool.{Bool}
use mathlib.Core.List.{List, [], ◌∷◌}
use Prim.Native.Nat.{ℕ}
use native.Mathlib.Omega.{arith}
use lib.Dec.{eqb}
use lib.ListN.{length}
use borrow.Author.Tests.{eqb-true}
use Rattle.lists.specs.Choice.{pick, pick_yes, pick_no, Is, is_true, is_false, look}
use Rattle.formula.specs.Node.{Quantifier, exists, for_all}
use Rattle.formula.specs.Valuation.{Valuation, quant}
use Rattle.formula.specs.Form.{Block, kind_of, quantify}
use Rattle.formula.proofs.Quantify.{quant_append, quant_cong, quantify_append}
use Rattle.qdimacs_form.specs.Clauses.{exists_block, closed_blocks, filled_blocks, same_kind, joined_to, joined_blocks}

-- A kind is of one quantifier.
one_kind : (p q : Quantifier) → kind_of p ≡ kind_of q → p ≡ q
unfolding kind_of
one_kind exists exists e = refl
one_kind exists for_all e = absurd (omega arith)
one_kind for_all exists e = absurd (omega arith)
one_kind for_all for_all e = refl

module _ (f : Valuation → Bool) where
  -- An empty block changes nothing.
  empty_block : (q : Quantifier) (xs : List ℕ) (g : Valuation → Bool) (v : Valuation) → length xs ≡ 0 → quant q xs g v ≡ g v
  unfolding quant
  empty_block q [] g v e = refl
  empty_block q (x ∷ xs) g v e = absurd (omega arith)

  quantify_filled : (bs : List Block) (v : Valuation) → quantify (filled_blocks bs) f v ≡ quantify bs f v
  unfolding filled_blocks quantify
  quantify_filled [] v = refl
  quantify_filled (b ∷ bs) v = go (look (eqb (length b.variables) 0)) (quantify_filled bs)
    where
      go : Is (eqb (length b.variables) 0) → ((u : Valuation) → quantify (filled_blocks bs) f u ≡ quantify bs f u)
          → quantify (pick (eqb (length b.variables) 0) (filled_blocks bs) (b ∷ filled_blocks bs)) f v
          ≡ quant b.quantifier b.variables (quantify bs f) v
      go (is_true e) rest =
          ap (λ cs. quantify cs f v) (pick_yes _ _ _ e)
          ∙ rest v
          ∙ sym (empty_block b.quantifier b.variables (quantify bs f) v (eqb-true _ _ e))
      go (is_false e) rest =
          ap (λ cs. quantify cs f v) (pick_no _ _ _ e)
          ∙ quant_cong b.quantifier b.variables (quantify (filled_blocks bs) f) (quantify bs f) v rest

  -- Neighbours of one kind are one block.
  joined_to_lem : (b : Block) (cs : List Block) (v : Valuation) → quantify (joined_to b cs) f v ≡ quantify (b ∷ cs) f v
  unfolding joined_to quantify same_kind
  joined_to_lem b [] v = refl
  joined_to_lem b (c ∷ cs) v = go (look (same_kind b c))
    where
      go : Is (same_kind b c) → quantify (joined_to b (c ∷ cs)) f v ≡ quantify (b ∷ c ∷ cs) f v
      go (is_true e) =
          let same : b.quantifier ≡ c.quantifier = one_kind _ _ (eqb-true _ _ e) in
          ap (λ bs. quantify bs f v) (pick_yes _ _ _ e)
          ∙ quant_append b.quantifier b.variables c.variables (quantify cs f) v
          ∙ ap (λ q. quant b.quantifier b.variables (quant q c.variables (quantify cs f)) v) same
      go (is_false e) = ap (λ bs. quantify bs f v) (pick_no _ _ _ e)

  quantify_joined : (bs : List Block) (v : Valuation) → quantify (joined_blocks bs) f v ≡ quantify bs f v
  unfolding joined_blocks quantify
  quantify_joined [] v = refl
  quantify_joined (b ∷ bs) v =
      joined_to_lem b (joined_blocks bs) v
      ∙ quant_cong b.quantifier b.variables (quantify (joined_blocks bs) f) (quantify bs f) v (quantify_joined bs)

  -- The blocks of a problem: open names, those of the form, gates.
  pub closed_value : (open_names : List ℕ) (bs : List Block) (gates : List ℕ) (v : Valuation)
      → quantify (joined_blocks (filled_blocks (closed_blocks open_names bs gates))) f v
      ≡ quant exists open_names (quantify bs (quant exists gates f)) v
  unfolding closed_blocks exists_block quantify
  closed_value open_names bs gates v =
      quantify_joined (filled_blocks (closed_blocks open_names bs gates)) v
      ∙ quantify_filled (closed_blocks open_names bs gates) v
      ∙ quant_cong exists open_names _ _ v (quantify_append bs (exists_block gates ∷ []) f)
