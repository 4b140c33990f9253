-- Laws of the pass over the tokens: the fault of one token by its role, and one turn.
-- Assumes nothing.
use mathlib.Core.Path.{◌≡◌, sym, ◌∙◌, ap, fun_ext}
use mathlib.Core.Bool.{true, false, not, ◌&&◌, ◌||◌}
use mathlib.Core.List.{List, [], ◌∷◌, ◌++◌}
use Prim.Native.Nat.{ℕ, suc, ◌+◌, ◌-◌, ◌≤◌, ◌<◌}
use native.Mathlib.Numerals.{add-one}
use native.Mathlib.Omega.{arith}
use lib.Dec.{eqb, leb}
use lib.ListN.{length, get_or, set}
use borrow.Author.Tests.{leb-true, lt-leb, eqb-true}
use Rattle.std.specs.Prelude.{None, Some}
use Rattle.lists.specs.Choice.{pick, pick_yes, pick_no, Is, is_true, is_false, look, or_cases, and_off_left, and_off_right}
use Rattle.lists.proofs.Stores.{get_d_set}
use Rattle.qcir_tokens.specs.Tokens.{Token, is_outer, is_bound, is_definition, is_input}
use Rattle.qcir_tokens.specs.Held.{token_at, tokens_from}
use Rattle.qcir_misplaced.specs.Faults.{is_entry, fault, mark, lists_after, line_after, faults, first_of}

-- the fault of an entry, of a definition and of any other token
pub fault_entry : (r g l k i : ℕ) → is_entry r ≡ true → fault r g l k i ≡ (eqb l (suc k) || (not (eqb g 0) && leb g k))
unfolding fault
fault_entry r g l k i h = pick_yes _ _ _ h

pub fault_definition : (r g l k i : ℕ) → is_entry r ≡ false → is_definition r ≡ true → fault r g l k i ≡ (leb g i || not (eqb l 0))
unfolding fault
fault_definition r g l k i h d = pick_no _ _ _ h ∙ pick_yes _ _ _ d

pub fault_other : (r g l k i : ℕ) → is_entry r ≡ false → is_definition r ≡ false → fault r g l k i ≡ (is_input r && leb k g)
unfolding fault
fault_other r g l k i h d = pick_no _ _ _ h ∙ pick_no _ _ _ d

pub lists_entry : (r x k : ℕ) (l : ℕ → ℕ) → is_entry r ≡ true → lists_after r x k l ≡ mark x (suc k) l
unfolding lists_after
lists_entry r x k l h = pick_yes _ _ _ h

pub lists_other : (r x k : ℕ) (l : ℕ → ℕ) → is_entry r ≡ false → lists_after r x k l ≡ l
unfolding lists_after
lists_other r x k l h = pick_no _ _ _ h

pub line_definition : (r k i : ℕ) → is_definition r ≡ true → line_after r k i ≡ suc i
unfolding line_after
line_definition r k i h = pick_yes _ _ _ h

pub line_other : (r k i : ℕ) → is_definition r ≡ false → line_after r k i ≡ k
unfolding line_after
line_other r k i h = pick_no _ _ _ h

pub line_below : (r k i : ℕ) → k ≤ i → line_after r k i ≤ suc i
line_below r k i h = go (look (is_definition r))
  where
    go : Is (is_definition r) → line_after r k i ≤ suc i
    go (is_true d) = let e = line_definition r k i d in omega arith
    go (is_false d) = let e = line_other r k i d in omega arith

-- one token of those from index i on
tokens_next : (rs ns ps : List ℕ) (i count : ℕ) → i < count
    → tokens_from rs ns ps i (count - i) ≡ token_at rs ns ps i ∷ tokens_from rs ns ps (suc i) (count - suc i)
unfolding tokens_from
tokens_next rs ns ps i count h =
    let e : count - i ≡ suc (count - suc i) = omega arith in
    ap (λ (n : ℕ). tokens_from rs ns ps i n) e

-- no entry is a definition
pub entry_defines_none : (r : ℕ) → is_entry r ≡ true → is_definition r ≡ false
unfolding is_entry is_outer is_bound is_definition
entry_defines_none r h =
    or_cases (leb r 10) (eqb r 18 || eqb r 19) h
    (λ a. let l = leb-true r 10 a in and_off_left (leb 13 r) (leb r 17) (lt-leb 13 r (omega arith)))
    (λ b. and_off_right (leb 13 r) (leb r 17) (lt-leb r 17 (or_cases (eqb r 18) (eqb r 19) b (λ e. let q : r ≡ 18 = eqb-true r 18 e in omega arith) (λ e. let q : r ≡ 19 = eqb-true r 19 e in omega arith))))

-- an entry stored in the array
pub stored_entry : (r x k v : ℕ) (ls : List ℕ) → x < length ls → v ≡ suc k → is_entry r ≡ true → (y : ℕ)
    → get_or (set ls x v) y 0 ≡ lists_after r x k (λ z. get_or ls z 0) y
unfolding mark
stored_entry r x k v ls h e t y =
    get_d_set ls x v 0 h y ∙ ap (λ (w : ℕ). pick (eqb y x) w (get_or ls y 0)) e ∙ sym (ap (λ l. l y) (lists_entry r x k (λ z. get_or ls z 0) t))

-- a token at fault is the first; a token without a fault is passed
pub faults_here : (gates lists : ℕ → ℕ) (line i : ℕ) (t : Token) (ts : List Token)
    → fault t.role (gates t.name.number) (lists t.name.number) line i ≡ true
    → faults gates lists line i (t ∷ ts) ≡ t.name.position ∷ faults gates (lists_after t.role t.name.number line lists) (line_after t.role line i) (suc i) ts
unfolding faults
faults_here gates lists line i t ts h =
    ap (λ (l : List ℕ). l ++ faults gates (lists_after t.role t.name.number line lists) (line_after t.role line i) (suc i) ts) (pick_yes _ _ _ h)

pub faults_later : (gates lists : ℕ → ℕ) (line i : ℕ) (t : Token) (ts : List Token)
    → fault t.role (gates t.name.number) (lists t.name.number) line i ≡ false
    → faults gates lists line i (t ∷ ts) ≡ faults gates (lists_after t.role t.name.number line lists) (line_after t.role line i) (suc i) ts
unfolding faults
faults_later gates lists line i t ts h =
    ap (λ (l : List ℕ). l ++ faults gates (lists_after t.role t.name.number line lists) (line_after t.role line i) (suc i) ts) (pick_no _ _ _ h)

module _ (gates : List ℕ) (rs ns ps : List ℕ) (count : ℕ) where
  -- the positions at fault from token i on
  abbrev pub From : List ℕ → ℕ → ℕ → List ℕ
  From lists line i = faults (λ x. get_or gates x 0) (λ x. get_or lists x 0) line i (tokens_from rs ns ps i (count - i))

  -- the positions at fault of all tokens
  abbrev pub All : List ℕ → List ℕ
  All lists = faults (λ x. get_or gates x 0) (λ x. get_or lists x 0) 0 0 (tokens_from rs ns ps 0 count)

  pub from_start : (lists : List ℕ) → All lists ≡ From lists 0 0
  from_start lists =
      let e : count ≡ count - 0 = omega arith in
      ap (λ (n : ℕ). faults (λ x. get_or gates x 0) (λ x. get_or lists x 0) 0 0 (tokens_from rs ns ps 0 n)) e

  pub found_here : (lists : List ℕ) (line i : ℕ) → i < count
      → fault (get_or rs i 0) (get_or gates (get_or ns i 0) 0) (get_or lists (get_or ns i 0) 0) line i ≡ true
      → first_of (From lists line i) ≡ Some (get_or ps i 0)
  unfolding token_at first_of
  found_here lists line i h t =
      ap (λ (l : List Token). first_of (faults (λ x. get_or gates x 0) (λ x. get_or lists x 0) line i l)) (tokens_next rs ns ps i count h)
      ∙ ap first_of (faults_here (λ x. get_or gates x 0) (λ x. get_or lists x 0) line i (token_at rs ns ps i) (tokens_from rs ns ps (suc i) (count - suc i)) t)

  pub found_later : (lists next : List ℕ) (line i : ℕ) → i < count
      → fault (get_or rs i 0) (get_or gates (get_or ns i 0) 0) (get_or lists (get_or ns i 0) 0) line i ≡ false
      → ((y : ℕ) → get_or next y 0 ≡ lists_after (get_or rs i 0) (get_or ns i 0) line (λ z. get_or lists z 0) y)
      → From lists line i ≡ From next (line_after (get_or rs i 0) line i) (i + 1)
  unfolding token_at
  found_later lists next line i h t same =
      rw add-one
      (ap (λ (l : List Token). faults (λ x. get_or gates x 0) (λ x. get_or lists x 0) line i l) (tokens_next rs ns ps i count h)
      ∙ faults_later (λ x. get_or gates x 0) (λ x. get_or lists x 0) line i (token_at rs ns ps i) (tokens_from rs ns ps (suc i) (count - suc i)) t
      ∙ ap (λ (l : ℕ → ℕ). faults (λ x. get_or gates x 0) l (line_after (get_or rs i 0) line i) (suc i) (tokens_from rs ns ps (suc i) (count - suc i))) (sym (fun_ext same)))

  pub found_none : (lists : List ℕ) (line i : ℕ) → count ≤ i → first_of (From lists line i) ≡ None
  unfolding tokens_from faults first_of
  found_none lists line i h =
      let e : count - i ≡ 0 = omega arith in
      ap (λ (n : ℕ). first_of (faults (λ x. get_or gates x 0) (λ x. get_or lists x 0) line i (tokens_from rs ns ps i n))) e

-- the positions at fault from an entry on, from a definition on, and from any other token on
module _ (gates lists : ℕ → ℕ) (line i : ℕ) (t : Token) (ts : List Token) where
  pub faults_entry : is_entry t.role ≡ true
      → faults gates lists line i (t ∷ ts)
      ≡ pick (eqb (lists t.name.number) (suc line) || (not (eqb (gates t.name.number) 0) && leb (gates t.name.number) line)) (t.name.position ∷ []) []
      ++ faults gates (mark t.name.number (suc line) lists) line (suc i) ts
  unfolding faults
  faults_entry h =
      let x = t.name.number in
      rw (fault_entry t.role (gates x) (lists x) line i h, lists_entry t.role x line lists h, line_other t.role line i (entry_defines_none t.role h))

  pub faults_definition : is_entry t.role ≡ false → is_definition t.role ≡ true
      → faults gates lists line i (t ∷ ts)
      ≡ pick (leb (gates t.name.number) i || not (eqb (lists t.name.number) 0)) (t.name.position ∷ []) []
      ++ faults gates lists (suc i) (suc i) ts
  unfolding faults
  faults_definition h d =
      let x = t.name.number in
      rw (fault_definition t.role (gates x) (lists x) line i h d, lists_other t.role x line lists h, line_definition t.role line i d)

  pub faults_other : is_entry t.role ≡ false → is_definition t.role ≡ false
      → faults gates lists line i (t ∷ ts)
      ≡ pick (is_input t.role && leb line (gates t.name.number)) (t.name.position ∷ []) [] ++ faults gates lists line (suc i) ts
  unfolding faults
  faults_other h d =
      let x = t.name.number in
      rw (fault_other t.role (gates x) (lists x) line i h d, lists_other t.role x line lists h, line_other t.role line i d)

  -- a token that is neither, nor an input, is passed
  pub faults_passed : is_entry t.role ≡ false → is_definition t.role ≡ false → is_input t.role ≡ false
      → faults gates lists line i (t ∷ ts) ≡ faults gates lists line (suc i) ts
  faults_passed h d n =
      faults_other h d
      ∙ ap (λ (l : List ℕ). l ++ faults gates lists line (suc i) ts) (pick_no (is_input t.role && leb line (gates t.name.number)) (t.name.position ∷ []) [] (and_off_left (is_input t.role) (leb line (gates t.name.number)) n))
