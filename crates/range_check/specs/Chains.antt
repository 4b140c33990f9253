-- Whether the entries of a range are variables, none of them twice, and the chains by which this is found.
-- Assumes nothing.
use Rattle.std.specs.Prelude.{Bool, not, ◌&&◌, List, ◌≡◌, ℕ, ◌+◌, ◌-◌, ◌%◌, ◌≤◌, ◌<◌, length, get_or}
use Rattle.lists.specs.Members.{mem, all, distinct}
use Rattle.formula.specs.Words.{range}
use Rattle.acceptance.specs.Limits.{limit}
use Rattle.acceptance.specs.Verdict.{is_number}
use Rattle.range_check.specs.declared.EntryChains.{EntryChains}

-- The entries of a range are variable numbers, none of them twice: refusal 7 does not apply.
unfoldable pub good_range : List ℕ → ℕ → ℕ → Bool
good_range ls first count = all is_number (range ls first count) && distinct (range ls first count)

-- The entries that blocks cover are numbered in the order in which they are read: where the blocks below a block bind `before`
-- variables and its range starts at `first`, its entry k is entry before + k and holds the variable `get_or ls (first + k) 0`.

-- Entries are chained by the remainders that their variables leave by this.
abbrev pub buckets : ℕ
buckets = 1024

-- c is one more than the latest of a block's first k entries whose variable leaves the remainder h, at most `before` if there
-- is none.
pub record Latest (ls : List ℕ) (before first h k c : ℕ) : Type 0 where
  pub low : c ≤ before + k
  pub shares : (j : ℕ) → before + j + 1 ≡ c → get_or ls (first + j) 0 % buckets ≡ h
  pub none : (j : ℕ) → c ≤ before + j → j < k → get_or ls (first + j) 0 % buckets ≡ h → ⊥

-- Each of a block's first k entries is followed by the latest of its entries before it that shares its variable's remainder.
abbrev pub Linked : List ℕ → List ℕ → ℕ → ℕ → ℕ → Type 0
Linked ls prevs before first k =
    (j : ℕ) → j < k → Latest ls before first (get_or ls (first + j) 0 % buckets) j (get_or prevs (before + j) 0)

-- Between two blocks: no chain starts at an entry that is not below entry `before`.
pub record Earlier (heads prevs : List ℕ) (before : ℕ) : Type 0 where
  pub heads_wide : length heads ≡ buckets
  pub prevs_wide : length prevs ≡ limit
  pub low : (h : ℕ) → get_or heads h 0 ≤ before

abbrev pub Ready : EntryChains → Type 0
Ready c = Earlier c.heads c.prevs c.entries

-- Within a block: its first k entries are chained by their variables' remainders.
pub record Chains (ls heads prevs : List ℕ) (before first k : ℕ) : Type 0 where
  pub heads_wide : length heads ≡ buckets
  pub prevs_wide : length prevs ≡ limit
  pub newest : (h : ℕ) → Latest ls before first h k (get_or heads h 0)
  pub linked : Linked ls prevs before first k

-- c is one more than an entry of the block on the chain of x, or at most `before`.
pub record Chain (ls prevs : List ℕ) (before first x c : ℕ) : Type 0 where
  pub in_list : first + (c - before) ≤ length ls
  pub in_prevs : c ≤ length prevs
  pub shares : (j : ℕ) → before + j + 1 ≡ c → get_or ls (first + j) 0 % buckets ≡ x % buckets
  pub linked : Linked ls prevs before first (c - before)

-- Entry k of a range is a variable number, and none of the entries before it is the same.
abbrev pub is_new : List ℕ → ℕ → ℕ → Bool
is_new ls first k = is_number (get_or ls (first + k) 0) && not (mem (get_or ls (first + k) 0) (range ls first k))
