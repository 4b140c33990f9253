-- Runs of the walk: one after the other, and single steps.
-- Assumes nothing.
use mathlib.Core.Path.{◌≡◌, refl, sym, ◌∙◌, ap, fun_ext}
use mathlib.Core.Bool.{Bool, true, false, not, ◌||◌}
use mathlib.Core.List.{List, [], ◌∷◌, ◌++◌}
use Prim.Native.Nat.{ℕ, zero, suc, ◌+◌, ◌-◌}
use native.Mathlib.Omega.{arith}
use lib.Dec.{eqb}
use borrow.Author.Tests.{eqb-true, eq-eqb, ne_eqb}
use Rattle.lists.specs.Choice.{pick, pick_yes, pick_no, Is, is_true, is_false, look}
use Rattle.qcir.specs.Refusals.{keep}
use Rattle.qcir_tokens.specs.Tokens.{is_use, is_bound, is_definition}
use Rattle.qcir_unbound.specs.declared.Walk.{Walk}
use Rattle.qcir_unbound.specs.Steps.{Tokens, token_of, State, put, flag, is_above, moved, past, noted, judged, bound, used, onward, freed, back, step_at, ended, step, run}

abbrev pub stand : Walk → (ℕ → Bool) → (ℕ → ℕ) → State
stand w m c = record { walk = w; marks = m; kept = c }

pub state_same : {w w' : Walk} {m m' : ℕ → Bool} {c c' : ℕ → ℕ} → w ≡ w' → m ≡ m' → c ≡ c' → stand w m c ≡ stand w' m' c'
state_same p q r = λ i. record { walk = p i; marks = q i; kept = r i }

-- a mark that was kept
pub flag_back : (b : Bool) (v : ℕ) → v ≡ flag b → not (eqb v 0) ≡ b
unfolding flag
flag_back true v e = ap (λ k. not (eqb k 0)) e
flag_back false v e = ap (λ k. not (eqb k 0)) e

pub put_same : {A : Type 0} (f : ℕ → A) (i : ℕ) (v : A) → put f i v i ≡ v
unfolding put
put_same f i v = pick_yes _ _ _ (eq-eqb i i refl)

pub put_other : {A : Type 0} (f : ℕ → A) (i j : ℕ) (v : A) → (j ≡ i → ⊥) → put f i v j ≡ f j
unfolding put
put_other f i j v n = pick_no _ _ _ (ne_eqb j i n)

-- an element put over and put back
pub put_back : {A : Type 0} (f : ℕ → A) (i : ℕ) (v u : A) → u ≡ f i → put (put f i v) i u ≡ f
unfolding put
put_back f i v u e = fun_ext (λ j. go j (look (eqb j i)))
  where
    go : (j : ℕ) → Is (eqb j i) → pick (eqb j i) u (pick (eqb j i) v (f j)) ≡ f j
    go j (is_true q) = pick_yes _ _ _ q ∙ e ∙ ap f (sym (eqb-true j i q))
    go j (is_false q) = pick_no _ _ _ q ∙ pick_no _ _ _ q

module _ (t : Tokens) where
  run_add : (a b : ℕ) (s : State) → run t (a + b) s ≡ run t b (run t a s)
  unfolding run
  run_add zero b s = let e : 0 + b ≡ b = omega arith in ap (λ n. run t n s) e
  run_add (suc a) b s = let e : suc a + b ≡ suc (a + b) = omega arith in ap (λ n. run t n s) e ∙ run_add a b (step t s)

  pub run_two : (a b : ℕ) (s u v : State) → run t a s ≡ u → run t b u ≡ v → run t (a + b) s ≡ v
  run_two a b s u v p q = run_add a b s ∙ ap (run t b) p ∙ q

  pub run_one : (s u : State) → step t s ≡ u → run t 1 s ≡ u
  unfolding run
  run_one s u e = e

  -- a state that a step does not change
  pub run_still : (n : ℕ) (s : State) → step t s ≡ s → run t n s ≡ s
  unfolding run
  run_still zero s e = refl
  run_still (suc n) s e = ap (run t n) e ∙ run_still n s e

  module _ (i : ℕ) (w : Walk) (m : ℕ → Bool) (c : ℕ → ℕ) where
    pub step_plain : is_use (t.role i) ≡ false → is_bound (t.role i) ≡ false → step t (stand (moved i false w) m c) ≡ stand (past (t.role i) i w) m c
    unfolding step step_at ended token_of onward moved past pick
    step_plain u e = pick_no _ _ _ u ∙ pick_no _ _ _ e

    pub step_entry : is_use (t.role i) ≡ false → is_bound (t.role i) ≡ true
        → step t (stand (moved i false w) m c) ≡ stand (moved (suc i) false w) (put m (t.number i) true) (put c i (flag (m (t.number i))))
    unfolding step step_at ended token_of onward bound moved past pick
    step_entry u e = pick_no _ _ _ u ∙ pick_yes _ _ _ e

    pub step_variable : is_use (t.role i) ≡ true → t.gate (t.number i) ≡ 0
        → step t (stand (moved i false w) m c) ≡ stand (past (t.role i) i (judged (m (t.number i)) (t.number i) (moved i false w))) m c
    unfolding step step_at ended token_of onward used moved pick
    step_variable u e = pick_yes _ _ _ u ∙ pick_yes _ _ _ (eq-eqb (t.gate (t.number i)) 0 e)

    pub step_call : (d : ℕ) → is_use (t.role i) ≡ true → t.gate (t.number i) ≡ suc d
        → step t (stand (moved i false w) m c) ≡ stand (moved d false w) m (put c d i)
    unfolding step step_at ended token_of onward used moved pick
    step_call d u e =
        let k : t.gate (t.number i) - 1 ≡ d = omega arith in
        pick_yes _ _ _ u ∙ pick_no _ _ _ (ne_eqb (t.gate (t.number i)) 0 (λ z. omega arith))
        ∙ ap (λ j. stand (moved j false w) m (put c j i)) k

    pub step_above : is_above (t.role i) ≡ true → step t (stand (moved i true w) m c) ≡ stand (moved i true w) m c
    unfolding step step_at ended token_of back moved pick
    step_above a = pick_yes _ _ _ a

    module _ (a : is_above (t.role i) ≡ false) where
      pub step_return : is_definition (t.role i) ≡ true → step t (stand (moved i true w) m c) ≡ stand (past (t.role (c i)) (c i) w) m c
      unfolding step step_at ended token_of back moved past pick
      step_return d = pick_no _ _ _ a ∙ pick_yes _ _ _ d

      pub step_free : is_definition (t.role i) ≡ false → is_bound (t.role i) ≡ true
          → step t (stand (moved i true w) m c) ≡ stand (moved (i - 1) true w) (put m (t.number i) (not (eqb (c i) 0))) c
      unfolding step step_at ended token_of back freed moved pick
      step_free d b = pick_no _ _ _ a ∙ pick_no _ _ _ d ∙ pick_yes _ _ _ b

      pub step_back : is_definition (t.role i) ≡ false → is_bound (t.role i) ≡ false → step t (stand (moved i true w) m c) ≡ stand (moved (i - 1) true w) m c
      unfolding step step_at ended token_of back moved pick
      step_back d b = pick_no _ _ _ a ∙ pick_no _ _ _ d ∙ pick_no _ _ _ b

-- The unbound variables of a list, noted one after the other.
unfoldable pub noted_all : List ℕ → Walk → Walk
noted_all [] w = w
noted_all (x ∷ xs) w = noted_all xs (noted x w)

-- The variables of a list, judged by the marks.
unfoldable pub listed : (ℕ → Bool) → List ℕ → Walk → Walk
listed m xs w = noted_all (keep (λ x. not (m x)) xs) w

pub noted_all_append : (xs ys : List ℕ) (w : Walk) → noted_all (xs ++ ys) w ≡ noted_all ys (noted_all xs w)
unfolding noted_all
noted_all_append [] ys w = refl
noted_all_append (x ∷ xs) ys w = noted_all_append xs ys (noted x w)

keep_step : (p : ℕ → Bool) (x : ℕ) (xs ys : List ℕ) → Is (p x) → keep p (xs ++ ys) ≡ keep p xs ++ keep p ys
    → keep p (x ∷ (xs ++ ys)) ≡ keep p (x ∷ xs) ++ keep p ys
unfolding keep
keep_step p x xs ys (is_true e) r = pick_yes _ _ _ e ∙ ap (λ l. x ∷ l) r ∙ sym (ap (λ l. l ++ keep p ys) (pick_yes _ _ _ e))
keep_step p x xs ys (is_false e) r = pick_no _ _ _ e ∙ r ∙ sym (ap (λ l. l ++ keep p ys) (pick_no _ _ _ e))

keep_append : (p : ℕ → Bool) (xs ys : List ℕ) → keep p (xs ++ ys) ≡ keep p xs ++ keep p ys
unfolding keep
keep_append p [] ys = refl
keep_append p (x ∷ xs) ys = keep_step p x xs ys (look (p x)) (keep_append p xs ys)

pub listed_append : (m : ℕ → Bool) (xs ys : List ℕ) (w : Walk) → listed m (xs ++ ys) w ≡ listed m ys (listed m xs w)
unfolding listed
listed_append m xs ys w =
    ap (λ l. noted_all l w) (keep_append (λ x. not (m x)) xs ys) ∙ noted_all_append (keep (λ x. not (m x)) xs) (keep (λ x. not (m x)) ys) w

pub listed_none : (m : ℕ → Bool) (w : Walk) → listed m [] w ≡ w
unfolding listed keep noted_all
listed_none m w = refl

-- a variable judged is a list of one
pub judged_one : (m : ℕ → Bool) (x : ℕ) (w : Walk) → judged (m x) x w ≡ listed m (x ∷ []) w
unfolding judged listed keep noted_all
judged_one m x w = go (look (m x))
  where
    go : Is (m x) → pick (m x) w (noted x w) ≡ noted_all (pick (not (m x)) (x ∷ []) []) w
    go (is_true e) = rw e (pick_yes true w (noted x w) refl ∙ sym (ap (λ l. noted_all l w) (pick_no false (x ∷ []) [] refl)))
    go (is_false e) = rw e (pick_no false w (noted x w) refl ∙ sym (ap (λ l. noted_all l w) (pick_yes true (x ∷ []) [] refl)))

-- where the walk stands does not matter to what it notes
pub past_judged : (r i j : ℕ) (b leaving : Bool) (x : ℕ) (w : Walk) → past r i (judged b x (moved j leaving w)) ≡ past r i (judged b x w)
unfolding past judged noted moved pick
past_judged r i j true leaving x w = refl
past_judged r i j false leaving x w = refl

-- what passes neither test, one test after the other
keep_two_step : (a b : ℕ → Bool) (x : ℕ) (xs : List ℕ) → Is (a x) → Is (b x)
    → keep (λ y. not (a y || b y)) xs ≡ keep (λ y. not (b y)) (keep (λ y. not (a y)) xs)
    → keep (λ y. not (a y || b y)) (x ∷ xs) ≡ keep (λ y. not (b y)) (keep (λ y. not (a y)) (x ∷ xs))
unfolding keep
keep_two_step a b x xs (is_true e) f r =
    pick_no _ _ _ (ap (λ v. not (v || b x)) e) ∙ r ∙ sym (ap (keep (λ y. not (b y))) (pick_no _ _ _ (ap not e)))
keep_two_step a b x xs (is_false e) (is_true f) r =
    pick_no _ _ _ (ap (λ v. not (v || b x)) e ∙ ap not f) ∙ r
    ∙ sym (ap (keep (λ y. not (b y))) (pick_yes _ _ _ (ap not e)) ∙ pick_no _ _ _ (ap not f))
keep_two_step a b x xs (is_false e) (is_false f) r =
    pick_yes _ _ _ (ap (λ v. not (v || b x)) e ∙ ap not f) ∙ ap (λ l. x ∷ l) r
    ∙ sym (ap (keep (λ y. not (b y))) (pick_yes _ _ _ (ap not e)) ∙ pick_yes _ _ _ (ap not f))

pub keep_two : (a b : ℕ → Bool) (xs : List ℕ) → keep (λ y. not (a y || b y)) xs ≡ keep (λ y. not (b y)) (keep (λ y. not (a y)) xs)
unfolding keep
keep_two a b [] = refl
keep_two a b (x ∷ xs) = keep_two_step a b x xs (look (a x)) (look (b x)) (keep_two a b xs)
