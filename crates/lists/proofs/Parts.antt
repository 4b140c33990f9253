-- Laws of lists put together from parts, of sums and of highest numbers.
-- Assumes nothing.
use mathlib.Core.Path.{◌≡◌, refl, sym, ◌∙◌, ap, subst}
use mathlib.Core.Bool.{Bool, true, false, not, ◌||◌}
use mathlib.Core.List.{List, [], ◌∷◌, ◌++◌, flat_map, append_assoc, append-nil}
use Prim.Native.Nat.{ℕ, zero, suc, ◌+◌, ◌≤◌, ◌<◌}
use native.Mathlib.Omega.{arith}
use native.Mathlib.Nat.{zero-add, suc-add, le_of_suc-le-suc, not-suc-le-zero}
use lib.Dec.{ltb, eqb}
use lib.ListN.{length, get_or, length-append, get_or-append}
use lib.Seq.{get_or_at}
use borrow.Author.Tests.{ltb-true, ltb-false, eqb-true, eqb-false, eq-eqb, ne_eqb}
use Rattle.lists.specs.Choice.{pick_yes, pick_no, Is, is_true, is_false, look, clash, and_both, or_cases, pick}
use Rattle.lists.specs.Members.{mem, distinct, place}
use Rattle.lists.specs.Parts.{up_to, numbers, sum, highest}
use Rattle.lists.proofs.Members.{mem_nil, mem_tail, mem_left, mem_right, mem_append}

pub flat_map_append : {A B : Type 0} (g : A → List B) (xs ys : List A) → flat_map g (xs ++ ys) ≡ flat_map g xs ++ flat_map g ys
unfolding flat_map
flat_map_append g [] ys = refl
flat_map_append {A} {B} g (x ∷ xs) ys =
    ap (λ (l : List B). g x ++ l) (flat_map_append g xs ys) ∙ sym (append_assoc (g x) (flat_map g xs) (flat_map g ys))

pub length_numbers : (s c : ℕ) → length (numbers s c) ≡ c
unfolding numbers
length_numbers s zero = refl
length_numbers s (suc c) = ap suc (length_numbers (suc s) c)

pub get_or-numbers : (s c k d : ℕ) → k < c → get_or (numbers s c) k d ≡ s + k
unfolding numbers
get_or-numbers s zero k d h = absurd (not-suc-le-zero h)
get_or-numbers s (suc c) zero d h = omega arith
get_or-numbers s (suc c) (suc k) d h = get_or-numbers (suc s) c k d (le_of_suc-le-suc h) ∙ omega arith

mem_first : (x y : ℕ) (ys : List ℕ) → x ≡ y → mem x (y ∷ ys) ≡ true
unfolding mem
mem_first x y ys e = rw (eq-eqb x y e)

-- a member is the first element, or a member of the rest
mem_cases : {P : Type 0} (x y : ℕ) (ys : List ℕ) → (x ≡ y → P) → (mem x ys ≡ true → P) → mem x (y ∷ ys) ≡ true → P
unfolding mem
mem_cases {P} x y ys f g m = go (eqb x y) refl m
  where
    go : (a : Bool) → eqb x y ≡ a → (a || mem x ys) ≡ true → P
    go true e m = f (eqb-true x y e)
    go false e m = g m

mem_append_cases : {P : Type 0} (x : ℕ) (xs ys : List ℕ) → (mem x xs ≡ true → P) → (mem x ys ≡ true → P) → mem x (xs ++ ys) ≡ true → P
mem_append_cases x xs ys f g m = or_cases (mem x xs) (mem x ys) (sym (mem_append x xs ys) ∙ m) f g

pub mem_numbers : (s c x : ℕ) → s ≤ x → x < s + c → mem x (numbers s c) ≡ true
unfolding numbers
mem_numbers s zero x h k = absurd (omega arith)
mem_numbers s (suc c) x h k = go (look (eqb x s)) (mem_numbers (suc s) c x)
  where
    go : Is (eqb x s) → (suc s ≤ x → x < suc s + c → mem x (numbers (suc s) c) ≡ true) → mem x (s ∷ numbers (suc s) c) ≡ true
    go (is_true e) next = mem_first x s (numbers (suc s) c) (eqb-true x s e)
    go (is_false e) next =
        let n : x ≡ s → ⊥ = eqb-false x s e in mem_tail x s (numbers (suc s) c) (next (omega arith) (omega arith))

pub numbers_from : (s c x : ℕ) → mem x (numbers s c) ≡ true → s ≤ x
unfolding numbers
numbers_from s zero x h = clash h (mem_nil x)
numbers_from s (suc c) x h =
    mem_cases x s (numbers (suc s) c) (λ e. omega arith) (λ m. let l : suc s ≤ x = numbers_from (suc s) c x m in omega arith) h

pub numbers_below : (s c x : ℕ) → mem x (numbers s c) ≡ true → x < s + c
unfolding numbers
numbers_below s zero x h = clash h (mem_nil x)
numbers_below s (suc c) x h =
    mem_cases x s (numbers (suc s) c) (λ e. omega arith) (λ m. let l : x < suc s + c = numbers_below (suc s) c x m in omega arith) h

pub place_numbers : (s c k : ℕ) → k < c → place (s + k) (numbers s c) ≡ k
unfolding numbers place
place_numbers s zero k h = absurd (not-suc-le-zero h)
place_numbers s (suc c) zero h = pick_yes _ _ _ (eq-eqb (s + 0) s (omega arith))
place_numbers s (suc c) (suc k) h =
    let e : s + suc k ≡ suc s + k = omega arith in
    pick_no _ _ _ (ne_eqb (s + suc k) s (λ q. omega arith))
    ∙ ap (λ (x : ℕ). suc (place x (numbers (suc s) c))) e
    ∙ ap suc (place_numbers (suc s) c k (le_of_suc-le-suc h))

pub distinct_numbers : (s c : ℕ) → distinct (numbers s c) ≡ true
unfolding numbers distinct
distinct_numbers s zero = refl
distinct_numbers s (suc c) = and_both _ _ (ap not (absent (look (mem s (numbers (suc s) c))))) (distinct_numbers (suc s) c)
  where
    absent : Is (mem s (numbers (suc s) c)) → mem s (numbers (suc s) c) ≡ false
    absent (is_true m) = let l : suc s ≤ s = numbers_from (suc s) c s m in absurd (omega arith)
    absent (is_false m) = m

module _ {ℓ} {A : Type ℓ} where
  pub up_to_cong : (g h : ℕ → List A) (n : ℕ) → ((i : ℕ) → i < n → g i ≡ h i) → up_to g n ≡ up_to h n
  unfolding up_to
  up_to_cong g h zero same = refl
  up_to_cong g h (suc n) same =
      let rest : up_to g n ≡ up_to h n = up_to_cong g h n (λ i l. same i (omega arith)) in
      let last : g n ≡ h n = same n (omega arith) in rw (rest, last)

  pub length-up_to : (g : ℕ → List A) (n : ℕ) → length (up_to g n) ≡ sum (λ i. length (g i)) n
  unfolding up_to sum
  length-up_to g zero = refl
  length-up_to g (suc n) = length-append (up_to g n) (g n) ∙ ap (λ (k : ℕ). k + length (g n)) (length-up_to g n)

  -- the parts up to m come first among those up to a higher number
  pub up_to_split : (g : ℕ → List A) (m k : ℕ) → (rest : List A) × (up_to g (k + m) ≡ up_to g m ++ rest)
  unfolding up_to
  up_to_split g m zero = ([], rw (zero-add m) (sym (append-nil (up_to g m))))
  up_to_split g m (suc k) =
      let r = up_to_split g m k in
      (r.0 ++ g (k + m), rw (suc-add k m) (ap (λ (xs : List A). xs ++ g (k + m)) r.1 ∙ append_assoc (up_to g m) r.0 (g (k + m))))

  pub length_each : (f : ℕ → A) (n : ℕ) → length (up_to (λ i. f i ∷ []) n) ≡ n
  unfolding up_to
  length_each f zero = refl
  length_each f (suc n) =
      let e : length (up_to (λ i. f i ∷ []) n) ≡ n = length_each f n in
      length-append (up_to (λ i. f i ∷ []) n) (f n ∷ []) ∙ omega arith

  pub get_or_each : (f : ℕ → A) (n i : ℕ) (d : A) → i < n → get_or (up_to (λ i. f i ∷ []) n) i d ≡ f i
  unfolding up_to
  get_or_each f zero i d h = absurd (not-suc-le-zero h)
  get_or_each f (suc n) i d h = go (look (ltb i n)) (get_or_each f n i d)
    where
      go : Is (ltb i n) → (i < n → get_or (up_to (λ i. f i ∷ []) n) i d ≡ f i) → get_or (up_to (λ i. f i ∷ []) n ++ (f n ∷ [])) i d ≡ f i
      go (is_true t) next =
          let l : i < n = ltb-true i n t in
          let e : length (up_to (λ i. f i ∷ []) n) ≡ n = length_each f n in
          get_or-append (up_to (λ i. f i ∷ []) n) (f n ∷ []) d i (omega arith) ∙ next l
      go (is_false t) next =
          let l : n ≤ i = ltb-false i n t in
          let e : length (up_to (λ i. f i ∷ []) n) ≡ n = length_each f n in
          let s : n ≡ i = omega arith in
          get_or_at (up_to (λ i. f i ∷ []) n) (f n) [] d i (e ∙ s) ∙ ap f s

-- what holds of every number below n, and of n, holds of every number below suc n
below_suc {ℓ} : (P : ℕ → Type ℓ) (n i : ℕ) → (i < n → P i) → P n → i < suc n → P i
below_suc P n i f p h = go (look (ltb i n))
  where
    go : Is (ltb i n) → P i
    go (is_true t) = f (ltb-true i n t)
    go (is_false t) = let l : n ≤ i = ltb-false i n t in let e : n ≡ i = omega arith in subst P e p

pub mem-up_to : (g : ℕ → List ℕ) (n i x : ℕ) → i < n → mem x (g i) ≡ true → mem x (up_to g n) ≡ true
unfolding up_to
mem-up_to g zero i x h m = absurd (not-suc-le-zero h)
mem-up_to g (suc n) i x h m =
    below_suc (λ j. mem x (g j) ≡ true → mem x (up_to g (suc n)) ≡ true) n i
    (λ l k. mem_left x (up_to g n) (g n) (mem-up_to g n i x l k))
    (mem_right x (up_to g n) (g n)) h m

pub mem_up_to_from : (g : ℕ → List ℕ) (n x : ℕ) → mem x (up_to g n) ≡ true → (i : ℕ) × (i < n) × (mem x (g i) ≡ true)
unfolding up_to
mem_up_to_from g zero x h = clash h (mem_nil x)
mem_up_to_from g (suc n) x h =
    mem_append_cases x (up_to g n) (g n)
    (λ m. let r = mem_up_to_from g n x m in (r.0, omega (arith, r.1), r.2))
    (λ m. (n, omega arith, m)) h

pub sum_cong : (f g : ℕ → ℕ) (n : ℕ) → ((i : ℕ) → i < n → f i ≡ g i) → sum f n ≡ sum g n
unfolding sum
sum_cong f g zero same = refl
sum_cong f g (suc n) same = omega (arith, sum_cong f g n (λ i l. same i (omega arith)), same n (omega arith))

pub sum_mono : (f g : ℕ → ℕ) (n : ℕ) → ((i : ℕ) → i < n → f i ≤ g i) → sum f n ≤ sum g n
unfolding sum
sum_mono f g zero h = omega arith
sum_mono f g (suc n) h = omega (arith, sum_mono f g n (λ i l. h i (omega arith)), h n (omega arith))

pub sum_grows : (f : ℕ → ℕ) (m n : ℕ) → m ≤ n → sum f m ≤ sum f n
unfolding sum
sum_grows f m zero h = let e : m ≡ 0 = omega arith in rw e (omega arith)
sum_grows f m (suc n) h =
    below_suc (λ k. sum f k ≤ sum f (suc n)) (suc n) m (λ l. omega (arith, sum_grows f m n (le_of_suc-le-suc l))) (omega arith) (omega arith)

pub sum_add : (f g : ℕ → ℕ) (n : ℕ) → sum (λ i. f i + g i) n ≡ sum f n + sum g n
unfolding sum
sum_add f g zero = refl
sum_add f g (suc n) = omega (arith, sum_add f g n)

-- a term of a sum, and two of them
pub term_le : (f : ℕ → ℕ) (n i : ℕ) → i < n → f i ≤ sum f n
unfolding sum
term_le f n i h = omega (arith, sum_grows f (suc i) n h)

pub two_terms_le : (f : ℕ → ℕ) (n i j : ℕ) → i < j → j < n → f i + f j ≤ sum f n
unfolding sum
two_terms_le f n i j h k = omega (arith, term_le f j i h, sum_grows f (suc j) n k)

pub sum_positive : (f : ℕ → ℕ) (n : ℕ) → 0 < sum f n → (i : ℕ) × (i < n) × (0 < f i)
unfolding sum
sum_positive f zero h = absurd (omega arith)
sum_positive f (suc n) h = go (look (ltb 0 (f n))) (sum_positive f n)
  where
    go : Is (ltb 0 (f n)) → (0 < sum f n → (i : ℕ) × (i < n) × (0 < f i)) → (i : ℕ) × (i < suc n) × (0 < f i)
    go (is_true t) next = (n, omega arith, ltb-true 0 (f n) t)
    go (is_false t) next =
        let z : f n ≤ 0 = ltb-false 0 (f n) t in let r = next (omega arith) in (r.0, omega (arith, r.1), r.2)

pub highest_cong : (f g : ℕ → ℕ) (n : ℕ) → ((i : ℕ) → i < n → f i ≡ g i) → highest f n ≡ highest g n
unfolding highest
highest_cong f g zero h = refl
highest_cong f g (suc n) h = rw (highest_cong f g n (λ i l. h i (omega arith)), h n (omega arith))

pub highest_ge : (f : ℕ → ℕ) (n i : ℕ) → i < n → f i ≤ highest f n
unfolding highest
highest_ge f zero i h = absurd (not-suc-le-zero h)
highest_ge f (suc n) i h =
    below_suc (λ j. f j ≤ highest f (suc n)) n i (λ l. omega (arith, highest_ge f n i l)) (omega arith) h

pub highest_attained : (f : ℕ → ℕ) (n : ℕ) → 0 < highest f n → (i : ℕ) × (i < n) × (f i ≡ highest f n)
unfolding highest
highest_attained f zero h = absurd (omega arith)
highest_attained f (suc n) h = go (look (ltb (f n) (highest f n))) (highest_attained f n)
  where
    go : Is (ltb (f n) (highest f n)) → (0 < highest f n → (i : ℕ) × (i < n) × (f i ≡ highest f n))
        → (i : ℕ) × (i < suc n) × (f i ≡ Prim.Native.Nat.max (highest f n) (f n))
    go (is_true t) next =
        let l : f n < highest f n = ltb-true (f n) (highest f n) t in
        let r = next (omega arith) in (r.0, omega (arith, r.1), omega (arith, r.2))
    go (is_false t) next = let l : highest f n ≤ f n = ltb-false (f n) (highest f n) t in (n, omega arith, omega arith)

pub highest_le : (f : ℕ → ℕ) (n m : ℕ) → ((i : ℕ) → i < n → f i ≤ m) → highest f n ≤ m
unfolding highest
highest_le f zero m h = omega arith
highest_le f (suc n) m h = omega (arith, highest_le f n m (λ i l. h i (omega arith)), h n (omega arith))

-- all of whose terms are 0
pub sum_zero : (f : ℕ → ℕ) (n : ℕ) → ((i : ℕ) → i < n → f i ≡ 0) → sum f n ≡ 0
unfolding sum
sum_zero f zero h = refl
sum_zero f (suc n) h = omega (arith, sum_zero f n (λ i l. h i (omega arith)), h n (omega arith))

pub pick_add : (b : Bool) (m n : ℕ) → pick b (m + n) 0 ≡ pick b m 0 + pick b n 0
unfolding pick
pick_add true m n = refl
pick_add false m n = refl

pub pick_within : (b : Bool) (m n most : ℕ) → m ≤ most → n ≤ most → pick b m n ≤ most
unfolding pick
pick_within true m n most h k = h
pick_within false m n most h k = k

pub pick_le : (b : Bool) (n : ℕ) → pick b n 0 ≤ n
unfolding pick
pick_le true n = omega arith
pick_le false n = omega arith
