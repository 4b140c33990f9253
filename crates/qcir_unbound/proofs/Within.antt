-- Each step of the code is a step of the walk, and stays within the arrays.
-- Assumes nothing.
use mathlib.Core.Path.{◌≡◌, refl, sym, ◌∙◌, ap, subst, fun_ext}
use mathlib.Core.Bool.{Bool, true, false, not, ◌&&◌}
use mathlib.Core.List.{List}
use Prim.Native.Nat.{ℕ, zero, suc, ◌+◌, ◌-◌, ◌≤◌, ◌<◌}
use native.Mathlib.Numerals.{add-one}
use native.Mathlib.Omega.{arith}
use lib.Dec.{eqb}
use lib.ListN.{length, get_or, set, replicate}
use mir.Val.{bool_byte}
use borrow.Author.Tests.{eqb-true, eqb-false, eq-eqb, ne_eqb}
use Rattle.lists.specs.Choice.{pick, pick_yes, pick_no, Is, is_true, is_false, look, clash}
use Rattle.lists.proofs.Stores.{get_d_set, get_or-filled}
use Rattle.qcir_tokens.specs.Tokens.{is_outer, is_output, is_use, is_bound, is_definition, is_last}
use Rattle.qcir_tokens.specs.Held.{number_count, token_limit}
use Rattle.qcir_unbound.specs.declared.Walk.{Walk}
use Rattle.qcir_unbound.specs.declared.Token.{Token}
use Rattle.qcir_unbound.specs.Steps.{Tokens, tokens_of, token_of, State, state_of, first, start, put, flag, walked, is_end, is_above, moved, past, judged, bound, used, onward, freed, back, step_at, ended, step, run, Within, StepFits, BackFits}
use Rattle.qcir_unbound.proofs.Run.{state_same, run_still}

-- where a run ends, seen a step later
pub run_less : (t : Tokens) (n k : ℕ) (s u z : State) → n ≡ suc k → u ≡ step t s → run t n s ≡ z → run t k u ≡ z
unfolding run
run_less t n k s u z l e r = ap (run t k) e ∙ sym (ap (λ m. run t m s) l) ∙ r

pub run_none : (t : Tokens) (n : ℕ) (s z : State) → n ≤ 0 → run t n s ≡ z → s ≡ z
unfolding run
run_none t zero s z l e = e
run_none t (suc n) s z l e = absurd (omega arith)

-- a walk that has ended stays
pub run_ended : (t : Tokens) (n : ℕ) (s z : State) {k : Token} → k ≡ token_of t s.walk.at → ended k s.walk ≡ true → run t n s ≡ z → s ≡ z
unfolding step
run_ended t n s z e y r = sym (run_still t n s (pick_yes _ _ _ (ap (λ j. ended j s.walk) (sym e) ∙ y))) ∙ r

put_set : {A : Type 0} (xs : List A) (i : ℕ) (v d : A) → i < length xs → (λ j. get_or (set xs i v) j d) ≡ put (λ j. get_or xs j d) i v
unfolding put
put_set xs i v d h = fun_ext (λ j. get_d_set xs i v d h j)

-- a step of a walk that has not ended
pub step_taken : (t : Tokens) (k : Token) (s u : State) → k ≡ token_of t s.walk.at → ended k s.walk ≡ false → u ≡ step_at t.role k s → u ≡ step t s
unfolding step
step_taken t k s u e n r = r ∙ ap (λ j. step_at t.role j s) e ∙ sym (pick_no _ _ _ (ap (λ j. ended j s.walk) (sym e) ∙ n))

-- the code's test
pub ended_is : (k : Token) (w : Walk) (a b : Bool) → a ≡ is_above k.role → (w.leaving && a) ≡ b → ended k w ≡ b
unfolding ended
ended_is k w a b e f = ap (λ u. w.leaving && u) (sym e) ∙ f

-- Where the walk stands, and what it kept, is below count.
pub record Low (count : ℕ) (s : State) : Type 0 where
  pub at_low : s.walk.at < count
  pub kept_low : (i : ℕ) → s.kept i < count

pub start_is : (output : ℕ) (marks : List Bool) → state_of (first output) marks (replicate token_limit 0) ≡ start output marks
unfolding state_of start
start_is output marks = state_same refl refl (fun_ext (λ i. get_or-filled token_limit i 0))

pub start_low : (count output : ℕ) (marks : List Bool) → output < count → Low count (start output marks)
unfolding start
start_low count output marks h = record { at_low = h; kept_low = λ i. omega arith }

pub stands_low : (count : ℕ) (w : Walk) (marks : List Bool) (kept : List ℕ) → Low count (state_of w marks kept) → w.at < count
unfolding state_of
stands_low count w marks kept l = l.at_low

put_low : (n : ℕ) (f : ℕ → ℕ) (i v : ℕ) → ((j : ℕ) → f j < n) → v < n → (j : ℕ) → put f i v j < n
unfolding put
put_low n f i v h l j = go (look (eqb j i))
  where
    go : Is (eqb j i) → pick (eqb j i) v (f j) < n
    go (is_true e) = rw (pick_yes _ v (f j) e) l
    go (is_false e) = rw (pick_no _ v (f j) e) (h j)

flag_low : (b : Bool) → flag b ≤ 1
unfolding flag
flag_low true = omega arith
flag_low false = omega arith

-- an entry of a gate stands between other tokens of its line
bound_between : (r : ℕ) → is_bound r ≡ true → (is_above r ≡ false) × (is_end r ≡ false)
unfolding is_bound is_above is_end is_outer is_output is_last
bound_between r e = go (look (eqb r 18))
  where
    go : Is (eqb r 18) → (is_above r ≡ false) × (is_end r ≡ false)
    go (is_true q) = let h = eqb-true r 18 q in (ap is_above h, ap is_end h)
    go (is_false q) = let h = eqb-true r 19 (rw q at e) in (ap is_above h, ap is_end h)

-- a choice passes where both sides do
chosen : {A : Type 0} (P : A → Type 0) (t : Bool) (a b : A) → (t ≡ true → P a) → (t ≡ false → P b) → P (pick t a b)
unfolding pick
chosen P true a b p q = p refl
chosen P false a b p q = q refl

flag_is : (b : Bool) → bool_byte b ≡ flag b
unfolding flag
flag_is true = refl
flag_is false = refl

-- The answers of a step onward at token k,
module _ {k : Token} {w : Walk} {marks : List Bool} {kept : List ℕ} (f : StepFits k w marks kept) (r : Walk) where
  pub judged_is : is_use k.role ≡ true → k.gate ≡ 0 → (v : Walk) → v ≡ judged (get_or marks k.number false) k.number w
      → r ≡ past k.role w.at v → state_of r marks kept ≡ onward k (state_of w marks kept)
  unfolding onward used state_of
  judged_is u z v d e =
      state_same (e ∙ ap (past k.role w.at) d) refl refl ∙ sym (pick_yes _ _ _ u ∙ pick_yes _ _ _ (eq-eqb k.gate 0 z))

  pub entered_is : is_use k.role ≡ true → (k.gate ≡ 0 → ⊥) → r ≡ moved (k.gate - 1) false w
      → state_of r marks (set kept (k.gate - 1) w.at) ≡ onward k (state_of w marks kept)
  unfolding onward used state_of
  entered_is u n e =
      let a = f.gate_low in
      let b = f.kept_wide in
      let c : k.gate ≡ 0 → ⊥ = n in
      state_same e refl (put_set kept (k.gate - 1) w.at 0 (omega arith)) ∙ sym (pick_yes _ _ _ u ∙ pick_no _ _ _ (ne_eqb k.gate 0 n))

  module _ (n : is_use k.role ≡ false) where
    pub bound_is : is_bound k.role ≡ true → k.number < number_count → r ≡ moved (w.at + 1) false w
        → state_of r (set marks k.number true) (set kept w.at (bool_byte (get_or marks k.number false))) ≡ onward k (state_of w marks kept)
    unfolding onward bound state_of
    bound_is t l e =
        let a = f.marks_wide in
        let b = f.at_low in
        let c = f.kept_wide in
        state_same (e ∙ ap (λ i. moved i false w) (add-one w.at)) (put_set marks k.number true false (omega arith))
        (put_set kept w.at (bool_byte (get_or marks k.number false)) 0 (omega arith)
        ∙ ap (put (λ j. get_or kept j 0) w.at) (flag_is (get_or marks k.number false)))
        ∙ sym (pick_no _ _ _ n ∙ pick_yes _ _ _ t)

    pub passed_is : is_bound k.role ≡ false → r ≡ past k.role w.at w → state_of r marks kept ≡ onward k (state_of w marks kept)
    unfolding onward state_of
    passed_is t e = state_same e refl refl ∙ sym (pick_no _ _ _ n ∙ pick_no _ _ _ t)

-- and of a step back.
module _ {k : Token} {w : Walk} {marks : List Bool} {kept : List ℕ} (f : StepFits k w marks kept) (role : ℕ → ℕ) (r : Walk) where
  pub returned_is : is_definition k.role ≡ true → r ≡ past (role (get_or kept w.at 0)) (get_or kept w.at 0) w
      → state_of r marks kept ≡ back role k (state_of w marks kept)
  unfolding back state_of
  returned_is t e = state_same e refl refl ∙ sym (pick_yes _ _ _ t)

  module _ (n : is_definition k.role ≡ false) (e : r ≡ moved (w.at - 1) true w) {m : List Bool} where
    pub freed_is : is_bound k.role ≡ true → k.number < number_count → m ≡ set marks k.number (not (eqb (get_or kept w.at 0) 0))
        → state_of r m kept ≡ back role k (state_of w marks kept)
    unfolding back freed state_of
    freed_is t l p =
        let a = f.marks_wide in
        state_same e
        (ap (λ xs x. get_or xs x false) p ∙ put_set marks k.number (not (eqb (get_or kept w.at 0) 0)) false (omega arith))
        refl
        ∙ sym (pick_no _ _ _ n ∙ pick_yes _ _ _ t)

    pub stepped_is : is_bound k.role ≡ false → m ≡ marks → state_of r m kept ≡ back role k (state_of w marks kept)
    unfolding back state_of
    stepped_is t p = state_same e (ap (λ xs x. get_or xs x false) p) refl ∙ sym (pick_no _ _ _ n ∙ pick_no _ _ _ t)

module _ {roles numbers gates : List ℕ} {count : ℕ} (h : Within roles numbers count gates) where
  -- a token that is no last one has one after it
  after_low : (i : ℕ) → i < count → is_end (get_or roles i 0) ≡ false → suc i < count
  after_low i l e = go (look (eqb (suc i) count))
    where
      go : Is (eqb (suc i) count) → suc i < count
      go (is_true q) = clash (h.stops i (eqb-true _ _ q)) e
      go (is_false q) = let d = eqb-false (suc i) count q in omega arith

  past_low : (w : Walk) (i : ℕ) → i < count → (past (get_or roles i 0) i w).at < count
  unfolding past moved
  past_low w i l = chosen (λ (u : Walk). u.at < count) _ _ _ (λ e. l) (λ e. after_low i l e)

  -- a token that is no first one has one before it
  before_low : (i : ℕ) → is_above (get_or roles i 0) ≡ false → 0 < i
  before_low zero e = clash h.starts_above e
  before_low (suc i) e = omega arith

  module _ (s : State) (l : Low count s) where
    walked_low : (w : Walk) → w.at < count → Low count (walked w s)
    walked_low w a = record { at_low = a; kept_low = l.kept_low }

    back_low : (k : Token) → Low count (back (λ i. get_or roles i 0) k s)
    unfolding back freed moved
    back_low k =
        let low = l.at_low in
        chosen (Low count) _ _ _ (λ d. walked_low _ (past_low s.walk (s.kept s.walk.at) (l.kept_low s.walk.at)))
        (λ d.
        chosen (Low count) _ _ _ (λ t. record { at_low = omega arith; kept_low = l.kept_low })
        (λ t. walked_low _ (omega arith)))

    used_low : Low count (used (token_of (tokens_of roles numbers gates) s.walk.at) s)
    unfolding used moved token_of tokens_of
    used_low =
        let i : ℕ = s.walk.at in
        let x : ℕ = get_or numbers i 0 in
        chosen (Low count) _ _ _ (λ z. walked_low _ (past_low (judged (s.marks x) x s.walk) i l.at_low))
        (λ z.
        let g = h.gates_low x in
        let n = eqb-false (get_or gates x 0) 0 z in
        record { at_low = omega arith; kept_low = put_low count s.kept (get_or gates x 0 - 1) i l.kept_low l.at_low })

    onward_low : Low count (onward (token_of (tokens_of roles numbers gates) s.walk.at) s)
    unfolding onward bound moved token_of tokens_of
    onward_low =
        let i : ℕ = s.walk.at in
        let low = l.at_low in
        chosen (Low count) _ _ _ (λ u. used_low)
        (λ u.
        chosen (Low count) _ _ _
        (λ t.
        let a = bound_between (get_or roles i 0) t in
        let b = before_low i a.0 in
        let f = flag_low (s.marks (get_or numbers i 0)) in
        record {
          at_low = after_low i low a.1;
          kept_low = put_low count s.kept i (flag (s.marks (get_or numbers i 0))) l.kept_low (omega arith);
        })
        (λ t. walked_low _ (past_low s.walk i low)))

    pub step_low : Low count (step (tokens_of roles numbers gates) s)
    unfolding step step_at tokens_of
    step_low = chosen (Low count) _ _ _ (λ e. l) (λ e. chosen (Low count) _ _ _ (λ b. back_low _) (λ o. onward_low))

  module _ (k : Token) (w : Walk) (marks : List Bool) (kept : List ℕ) (l : Low count (state_of w marks kept)) (e : k ≡ token_of (tokens_of roles numbers gates) w.at) where
    pub step_fits : length marks ≡ number_count → length kept ≡ token_limit → StepFits k w marks kept
    unfolding state_of token_of tokens_of
    step_fits a b =
        let low = l.at_low in
        let few = h.few in
        let g = h.gates_low (get_or numbers w.at 0) in
        record { at_low = omega arith; gate_low = subst (λ (j : Token). j.gate ≤ token_limit) (sym e) (omega arith); marks_wide = a; kept_wide = b }

    pub back_fits : ended k w ≡ false → w.leaving ≡ true → BackFits roles w kept
    unfolding state_of token_of tokens_of ended
    back_fits n t =
        let j = l.kept_low w.at in
        let few = h.few in
        let room = h.roles_hold in
        record {
          at_some = before_low w.at (ap (λ (v : Token). is_above v.role) (sym e) ∙ (rw t at n));
          user_low = omega arith;
          user_held = omega arith;
        }
