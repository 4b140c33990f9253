-- Passes over held tokens from the last to the first: what one token more, before the others, changes.
-- Assumes nothing.
use mathlib.Core.Bool.{Bool, true, false, not, ◌&&◌}
use mathlib.Core.List.{List, ◌∷◌}
use mathlib.Core.Path.{◌≡◌, refl, sym, ◌∙◌, ap}
use Prim.Native.Nat.{ℕ, suc, ◌+◌, ◌-◌, ◌≤◌, ◌<◌, min}
use native.Mathlib.Numerals.{add-one}
use native.Mathlib.Omega.{arith}
use lib.Dec.{eqb}
use lib.ListN.{length, get_or, set}
use borrow.Author.Tests.{eqb-true, eqb-false}
use Rattle.lists.specs.Choice.{pick, pick_yes, pick_no, Is, is_true, is_false, look, and_off_left, and_right}
use Rattle.lists.proofs.Members.{eqb_swap}
use Rattle.lists.proofs.Stores.{get_d_set}
use Rattle.qcir.specs.Refusals.{keep}
use Rattle.qcir_tokens.specs.Tokens.{Token, is_definition, is_use, definition_from}
use Rattle.qcir_tokens.specs.Held.{token_at, tokens_from, number_count, Definitions, found_of}
use Rattle.std.specs.Prelude.{Option, None}
use Rattle.qcir_gates.specs.Uses.{uses_in, defined_in, misused_in}
use Rattle.qcir_tokens.proofs.Parts.{tokens_end, tokens_back, tokens_all}

-- the first definitions among the tokens from token i on
pub record Marked (roles numbers : List ℕ) (count : ℕ) (gates : List ℕ) (i : ℕ) : Type 0 where
  pub wide : length gates ≡ number_count
  pub holds : (ps : List ℕ) (x : ℕ) → get_or gates x 0 ≡ definition_from i (tokens_from roles numbers ps i (count - i)) x

-- the uses among the tokens from token i on, up to two of each number
pub record Counted (roles numbers : List ℕ) (count : ℕ) (uses : List ℕ) (i : ℕ) : Type 0 where
  pub wide : length uses ≡ number_count
  pub holds : (ps : List ℕ) (x : ℕ) → get_or uses x 0 ≡ min 2 (uses_in (tokens_from roles numbers ps i (count - i)) x)

-- a first use, or one more
use_more : (n u : ℕ) → n ≡ min 2 u → Is (eqb n 0) → pick (eqb n 0) 1 2 ≡ min 2 (1 + u)
use_more n u e (is_true z) = let y : n ≡ 0 = eqb-true n 0 z in pick_yes _ _ _ z ∙ omega arith
use_more n u e (is_false z) = let y : n ≡ 0 → ⊥ = eqb-false n 0 z in pick_no _ _ _ z ∙ omega arith

use_if : (t : Bool) (n u : ℕ) → n ≡ min 2 u → pick t (pick (eqb n 0) 1 2) n ≡ min 2 (pick t 1 0 + u)
use_if true n u e =
    pick_yes true (pick (eqb n 0) 1 2) n refl
    ∙ use_more n u e (look (eqb n 0))
    ∙ ap (λ (k : ℕ). min 2 (k + u)) (sym (pick_yes {A = ℕ} true 1 0 refl))
use_if false n u e = pick_no false (pick (eqb n 0) 1 2) n refl ∙ omega (arith, pick_no {A = ℕ} false 1 0 refl)

-- A pass over `count` tokens.
module _ (roles numbers : List ℕ) (count : ℕ) where
  pub marked_none : (gates : List ℕ) → length gates ≡ number_count → ((x : ℕ) → get_or gates x 0 ≡ 0) → Marked roles numbers count gates count
  unfolding definition_from
  marked_none gates w h =
      record {
        wide = w;
        holds = λ ps x. h x ∙ ap (λ (ts : List Token). definition_from count ts x) (sym (tokens_end roles numbers ps count count (omega arith)));
      }

  pub marked_more : (gates after : List ℕ) (i : ℕ) → 0 < i → i ≤ count → Marked roles numbers count gates i → length after ≡ length gates → ((x : ℕ) → get_or after x 0 ≡ pick (is_definition (get_or roles (i - 1) 0) && eqb (get_or numbers (i - 1) 0) x) (i - 1 + 1) (get_or gates x 0)) → Marked roles numbers count after (i - 1)
  unfolding definition_from token_at
  marked_more gates after i h l m k s =
      record {
        wide = k ∙ m.wide;
        holds = λ ps x.
            let b : suc (i - 1) ≡ i = omega arith in
            let t : Bool = is_definition (get_or roles (i - 1) 0) && eqb (get_or numbers (i - 1) 0) x in
            s x
            ∙ ap (λ (n : ℕ). pick t n (get_or gates x 0)) (add-one (i - 1))
            ∙ ap (λ (n : ℕ). pick t (suc (i - 1)) n) (m.holds ps x)
            ∙ ap (λ (n : ℕ). pick t (suc (i - 1)) (definition_from n (tokens_from roles numbers ps i (count - i)) x)) (sym b)
            ∙ ap (λ (ts : List Token). definition_from (i - 1) ts x) (sym (tokens_back roles numbers ps count i h l));
      }

  pub marked_all : (gates : List ℕ) (i : ℕ) → i ≡ 0 → Marked roles numbers count gates i → (ps : List ℕ) → Definitions gates (tokens_from roles numbers ps 0 count)
  marked_all gates i e m ps =
      record {
        wide = m.wide;
        holds = λ x.
            m.holds ps x
            ∙ ap (λ (ts : List Token). definition_from i ts x) (tokens_all roles numbers ps count i e)
            ∙ ap (λ (k : ℕ). definition_from k (tokens_from roles numbers ps 0 count) x) e;
      }

  pub counted_none : (uses : List ℕ) → length uses ≡ number_count → ((x : ℕ) → get_or uses x 0 ≡ 0) → Counted roles numbers count uses count
  unfolding uses_in
  counted_none uses w h =
      record {
        wide = w;
        holds = λ ps x. h x ∙ ap (λ (ts : List Token). min 2 (uses_in ts x)) (sym (tokens_end roles numbers ps count count (omega arith)));
      }

  pub counted_more : (uses after : List ℕ) (i : ℕ) → 0 < i → i ≤ count → Counted roles numbers count uses i → length after ≡ length uses → ((x : ℕ) → get_or after x 0 ≡ pick (is_use (get_or roles (i - 1) 0) && eqb (get_or numbers (i - 1) 0) x) (pick (eqb (get_or uses x 0) 0) 1 2) (get_or uses x 0)) → Counted roles numbers count after (i - 1)
  unfolding uses_in token_at
  counted_more uses after i h l m k s =
      record {
        wide = k ∙ m.wide;
        holds = λ ps x.
            s x
            ∙ use_if (is_use (get_or roles (i - 1) 0) && eqb (get_or numbers (i - 1) 0) x) (get_or uses x 0) (uses_in (tokens_from roles numbers ps i (count - i)) x) (m.holds ps x)
            ∙ ap (λ (ts : List Token). min 2 (uses_in ts x)) (sym (tokens_back roles numbers ps count i h l));
      }

  pub counted_all : (uses : List ℕ) (i : ℕ) → i ≡ 0 → Counted roles numbers count uses i → (ps : List ℕ) (x : ℕ) → get_or uses x 0 ≡ min 2 (uses_in (tokens_from roles numbers ps 0 count) x)
  counted_all uses i e m ps x = m.holds ps x ∙ ap (λ (ts : List Token). min 2 (uses_in ts x)) (tokens_all roles numbers ps count i e)

  -- those defined among the tokens from token i on whose uses are not 1
  abbrev pub Misused : List ℕ → Option ℕ → ℕ → Type 0
  Misused uses found i = (ps : List ℕ) → found ≡ found_of (misused_in (λ x. get_or uses x 0) (tokens_from roles numbers ps i (count - i)))

  pub misused_none : (uses : List ℕ) → Misused uses None count
  unfolding misused_in defined_in keep found_of
  misused_none uses ps = ap (λ (ts : List Token). found_of (misused_in (λ x. get_or uses x 0) ts)) (sym (tokens_end roles numbers ps count count (omega arith)))

  pub misused_more : (uses : List ℕ) (found after : Option ℕ) (i : ℕ) → 0 < i → i ≤ count → Misused uses found i → ((xs : List ℕ) → found ≡ found_of xs → after ≡ found_of (pick (is_definition (get_or roles (i - 1) 0) && not (eqb (get_or uses (get_or numbers (i - 1) 0) 0) 1)) (get_or numbers (i - 1) 0 ∷ xs) xs)) → Misused uses after (i - 1)
  unfolding misused_in defined_in keep token_at
  misused_more uses found after i h l m s ps =
      s (misused_in (λ x. get_or uses x 0) (tokens_from roles numbers ps i (count - i))) (m ps)
      ∙ ap found_of (kept (is_definition (get_or roles (i - 1) 0)) (get_or numbers (i - 1) 0) (defined_in (tokens_from roles numbers ps i (count - i))))
      ∙ ap (λ (ts : List Token). found_of (misused_in (λ x. get_or uses x 0) ts)) (sym (tokens_back roles numbers ps count i h l))
    where
      kept : (t : Bool) (y : ℕ) (ys : List ℕ) → pick (t && not (eqb (get_or uses y 0) 1)) (y ∷ keep (λ x. not (eqb (get_or uses x 0) 1)) ys) (keep (λ x. not (eqb (get_or uses x 0) 1)) ys) ≡ keep (λ x. not (eqb (get_or uses x 0) 1)) (pick t (y ∷ ys) ys)
      kept true y ys = ap (keep (λ x. not (eqb (get_or uses x 0) 1))) (sym (pick_yes true (y ∷ ys) ys refl))
      kept false y ys = pick_no _ _ _ refl ∙ ap (keep (λ x. not (eqb (get_or uses x 0) 1))) (sym (pick_no false (y ∷ ys) ys refl))

  pub misused_all : (uses : List ℕ) (found : Option ℕ) (i : ℕ) → i ≡ 0 → Misused uses found i → (ps : List ℕ) → found ≡ found_of (misused_in (λ x. get_or uses x 0) (tokens_from roles numbers ps 0 count))
  misused_all uses found i e m ps = m ps ∙ ap (λ (ts : List Token). found_of (misused_in (λ x. get_or uses x 0) ts)) (tokens_all roles numbers ps count i e)

-- one store where the test of a token passes
pub store_where : (l after : List ℕ) (number v : ℕ) (t : Bool) → t ≡ true → number < length l → after ≡ set l number v → (x : ℕ) → get_or after x 0 ≡ pick (t && eqb number x) v (get_or l x 0)
store_where l after number v t p h e x =
    ap (λ (m : List ℕ). get_or m x 0) e
    ∙ get_d_set l number v 0 h x
    ∙ ap (λ (b : Bool). pick b v (get_or l x 0)) (eqb_swap x number ∙ ap (λ (b : Bool). b && eqb number x) (sym p))

-- and none where it does not
pub no_store : (l : List ℕ) (number v : ℕ) (t : Bool) → t ≡ false → (x : ℕ) → get_or l x 0 ≡ pick (t && eqb number x) v (get_or l x 0)
no_store l number v t p x = sym (pick_no _ _ _ (and_off_left t (eqb number x) p))

-- one use more stored where the test of a token passes
pub more_where : (l : List ℕ) (number v : ℕ) (t : Bool) → t ≡ true → number < length l → v ≡ pick (eqb (get_or l number 0) 0) 1 2 → (x : ℕ) → get_or (set l number v) x 0 ≡ pick (t && eqb number x) (pick (eqb (get_or l x 0) 0) 1 2) (get_or l x 0)
more_where l number v t p h e x = store_where l (set l number v) number v t p h refl x ∙ go (look (t && eqb number x))
  where
    go : Is (t && eqb number x) → pick (t && eqb number x) v (get_or l x 0) ≡ pick (t && eqb number x) (pick (eqb (get_or l x 0) 0) 1 2) (get_or l x 0)
    go (is_true q) =
        let s : number ≡ x = eqb-true number x (and_right t (eqb number x) q) in
        pick_yes _ _ _ q ∙ e ∙ ap (λ (y : ℕ). pick (eqb (get_or l y 0) 0) 1 2) s ∙ sym (pick_yes _ _ _ q)
    go (is_false q) = pick_no _ _ _ q ∙ sym (pick_no _ _ _ q)
