-- Laws of a table's entries: the bound variables of all blocks, in node and list order.
-- Assumes nothing.
use mathlib.Core.Path.{◌≡◌, refl, ◌∙◌, subst}
use mathlib.Core.List.{List, ◌++◌}
use Prim.Native.Nat.{ℕ, zero, suc, ◌+◌, ◌≤◌, ◌<◌}
use native.Mathlib.Omega.{arith}
use native.Mathlib.Nat.{not-suc-le-zero}
use lib.Dec.{ltb}
use lib.ListN.{length, get_or, get_or-append}
use lib.Seq.{get_or-append-add}
use borrow.Author.Tests.{ltb-true, ltb-false}
use Rattle.lists.specs.Choice.{Is, is_true, is_false, look}
use Rattle.lists.specs.Parts.{up_to, sum}
use Rattle.lists.proofs.Parts.{length-up_to, sum_grows}
use Rattle.formula.specs.Node.{Table, bound}
use Rattle.formula.specs.Tree.{count, bound_below}
use Rattle.prenex_form.specs.Names.{bound_count}
use Rattle.arrays.specs.Held.{entries}

-- what stands in the parts before part i, and in it
abbrev before : (ℕ → List ℕ) → ℕ → ℕ
before g i = sum (λ j. length (g j)) i

get_or_up_to_cases : (g : ℕ → List ℕ) (n i k d : ℕ) → Is (ltb i n) → i < suc n → k < length (g i)
    → (i < n → get_or (up_to g n) (before g i + k) d ≡ get_or (g i) k d) → get_or (up_to g n ++ g n) (before g i + k) d ≡ get_or (g i) k d
unfolding sum
get_or_up_to_cases g n i k d (is_true e) h l r =
    let s : before g i + length (g i) ≤ before g n = sum_grows (λ j. length (g j)) (suc i) n (ltb-true i n e) in
    get_or-append (up_to g n) (g n) d (before g i + k) (omega (arith, length-up_to g n)) ∙ r (ltb-true i n e)
get_or_up_to_cases g n i k d (is_false e) h l r =
    let q : n ≡ i = omega (arith, ltb-false i n e) in
    subst (λ j. get_or (up_to g n ++ g n) (before g j + k) d ≡ get_or (g j) k d) q
    (subst (λ m. get_or (up_to g n ++ g n) (m + k) d ≡ get_or (g n) k d) (length-up_to g n) (get_or-append-add (up_to g n) (g n) k d))

-- element k of part i
pub get_or-up_to : (g : ℕ → List ℕ) (n i k d : ℕ) → i < n → k < length (g i) → get_or (up_to g n) (sum (λ j. length (g j)) i + k) d ≡ get_or (g i) k d
unfolding up_to
get_or-up_to g zero i k d h l = absurd (not-suc-le-zero h)
get_or-up_to g (suc n) i k d h l = get_or_up_to_cases g n i k d (look (ltb i n)) h l (λ m. get_or-up_to g n i k d m l)

module _ (t : Table) where
  pub bound_below_next : (i : ℕ) → bound_below t (suc i) ≡ bound_below t i + count t i
  unfolding bound_below sum
  bound_below_next i = refl

  pub bound_below_grows : (i j : ℕ) → i ≤ j → bound_below t i ≤ bound_below t j
  unfolding bound_below
  bound_below_grows i j h = sum_grows (count t) i j h

  -- the entries of node i end where those of the next begin
  pub bound_below_end : (i : ℕ) → i < t.size → bound_below t i + count t i ≤ bound_count t
  unfolding bound_count
  bound_below_end i h = omega (arith, bound_below_next i, bound_below_grows (suc i) t.size h)

  pub length_entries : length (entries t) ≡ bound_count t
  unfolding entries bound_count bound_below count
  length_entries = length-up_to (λ i. bound (t.node i)) t.size

  -- entry k of node i
  pub entries_at : (i k : ℕ) → i < t.size → k < count t i → get_or (entries t) (bound_below t i + k) 0 ≡ get_or (bound (t.node i)) k 0
  unfolding entries bound_below count
  entries_at i k h l = get_or-up_to (λ j. bound (t.node j)) t.size i k 0 h l
