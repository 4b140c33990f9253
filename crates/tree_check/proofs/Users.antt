-- Laws of the users of a node and of the first two of them.
-- Assumes nothing.
use mathlib.Core.Path.{◌≡◌, refl, sym, ◌∙◌, ap}
use mathlib.Core.Bool.{Bool, true, false, ◌&&◌, ◌||◌, or-false}
use mathlib.Core.List.{List, [], ◌∷◌, ◌++◌, append_assoc, append-nil}
use Prim.Native.Nat.{ℕ, ◌+◌, ◌-◌, ◌≤◌}
use native.Mathlib.Omega.{arith}
use lib.Dec.{eqb}
use lib.ListN.{replicate, replicate-append-replicate}
use Rattle.lists.specs.Choice.{pick}
use Rattle.lists.specs.Members.{times}
use Rattle.lists.specs.Parts.{up_to}
use Rattle.lists.proofs.Overwrite.{up_to_next}
use Rattle.lists.proofs.Parts.{up_to_cong, up_to_split}
use Rattle.formula.specs.Words.{node_count, is_block_kind, words_at, node_at, table_of}
use Rattle.formula.specs.declared.NodeWords.{NodeWords}
use Rattle.formula.specs.Tree.{users}
use Rattle.formula.proofs.Nodes.{Kind, kind_of_lem, kind_constant, kind_variable, kind_negation, kind_operator, kind_exists, kind_for_all, kind_none}
use Rattle.refusals.specs.Verdict.{first_two}
use Rattle.tree_check.specs.declared.FirstUsers.{FirstUsers}
use Rattle.tree_check.specs.Named.{named_by, users_below, first_users}
use Rattle.tree_check.proofs.Named.{operands_are}

-- the first users as two numbers
pub two_first : (us : List ℕ) → record { first = (first_users us).first; second = (first_users us).second } ≡ first_two us
unfolding first_users first_two
two_first [] = refl
two_first (a ∷ []) = refl
two_first (a ∷ b ∷ us) = refl

-- The first users of a list with one user more, by how many there were.
more_none : (us : List ℕ) (i : ℕ) → (first_users us).count ≡ 0 → record { count = 1; first = i; second = 0 } ≡ first_users (us ++ i ∷ [])
unfolding first_users
more_none [] i e = refl
more_none (a ∷ []) i e = absurd (omega arith)
more_none (a ∷ b ∷ us) i e = absurd (omega arith)

more_one : (us : List ℕ) (i : ℕ) → (first_users us).count ≡ 1 → record { count = 2; first = (first_users us).first; second = i } ≡ first_users (us ++ i ∷ [])
unfolding first_users
more_one [] i e = absurd (omega arith)
more_one (a ∷ []) i e = refl
more_one (a ∷ b ∷ us) i e = absurd (omega arith)

-- two users stay the first, whatever comes after them
two_stay : (us vs : List ℕ) → 2 ≤ (first_users us).count → first_users us ≡ first_users (us ++ vs)
unfolding first_users
two_stay [] vs h = absurd (omega arith)
two_stay (a ∷ []) vs h = absurd (omega arith)
two_stay (a ∷ b ∷ us) vs h = refl

-- Node i put to a list of users if it is one, where f holds the first of the list.
module _ (us : List ℕ) (names : Bool) (i : ℕ) (f : FirstUsers) (h : f ≡ first_users us) where
  put : names ≡ true → us ++ i ∷ [] ≡ us ++ replicate (pick names 1 0) i
  unfolding pick
  put e = rw e

  counted : (first_users us).count ≡ f.count
  counted = ap (λ (g : FirstUsers). g.count) (sym h)

  pub put_none : names ≡ false → f ≡ first_users (us ++ replicate (pick names 1 0) i)
  unfolding pick
  put_none e = rw e (h ∙ ap first_users (sym (append-nil us)))

  pub put_first : names ≡ true → f.count ≡ 0 → record { count = 1; first = i; second = 0 } ≡ first_users (us ++ replicate (pick names 1 0) i)
  put_first e z = more_none us i (counted ∙ z) ∙ ap first_users (put e)

  pub put_second : names ≡ true → f.count ≡ 1 → record { count = 2; first = f.first; second = i } ≡ first_users (us ++ replicate (pick names 1 0) i)
  put_second e o =
      ap (λ (g : FirstUsers). record { count = 2; first = g.first; second = i }) h ∙ more_one us i (counted ∙ o) ∙ ap first_users (put e)

  pub put_further : names ≡ true → (f.count ≡ 0 → ⊥) → (f.count ≡ 1 → ⊥) → f ≡ first_users (us ++ replicate (pick names 1 0) i)
  put_further e z o =
      let c : (first_users us).count ≡ f.count = counted in
      h ∙ two_stay us (i ∷ []) (omega arith) ∙ ap first_users (put e)

-- Whether a node with these words names x as an operator's left operand, and whether otherwise.
abbrev as_left : NodeWords → ℕ → Bool
as_left w x = eqb w.kind 4 && eqb x w.b

abbrev as_other : NodeWords → ℕ → Bool
as_other w x = ((eqb w.kind 4 || is_block_kind w.kind) && eqb x w.c) || (eqb w.kind 3 && eqb x w.a)

fields_by_kind : (w : NodeWords) (x : ℕ) → Kind w.kind → times x (named_by w) ≡ pick (as_left w x) 1 0 + pick (as_other w x) 1 0
unfolding named_by is_block_kind times pick
fields_by_kind w x (kind_constant e) = rw e
fields_by_kind w x (kind_variable e) = rw e
fields_by_kind w x (kind_negation e) = rw e (omega arith)
fields_by_kind w x (kind_operator e) = rw e (simp or-false (omega arith))
fields_by_kind w x (kind_exists e) = rw e (simp or-false (omega arith))
fields_by_kind w x (kind_for_all e) = rw e (simp or-false (omega arith))
fields_by_kind w x (kind_none e1 e2 e3 e4 e5 e6) = rw (e3, e4, e5, e6)

twice : (us : List ℕ) (m k i : ℕ) → (us ++ replicate m i) ++ replicate k i ≡ us ++ replicate (m + k) i
twice us m k i = append_assoc us (replicate m i) (replicate k i) ∙ ap (λ (vs : List ℕ). us ++ vs) (replicate-append-replicate m k i)

-- Node i put to the users of x as often as its fields name x.
pub node_put : (us : List ℕ) (w : NodeWords) (x i : ℕ)
    → first_users ((us ++ replicate (pick (as_left w x) 1 0) i) ++ replicate (pick (as_other w x) 1 0) i)
    ≡ first_users (us ++ replicate (times x (named_by w)) i)
node_put us w x i =
    ap first_users
    (twice us (pick (as_left w x) 1 0) (pick (as_other w x) 1 0) i
    ∙ ap (λ (k : ℕ). us ++ replicate k i) (sym (fields_by_kind w x (kind_of_lem w.kind))))

-- The users of x below node i.
module _ (ws : List ℕ) (x : ℕ) where
  pub users_none : users_below ws x 0 ≡ []
  unfolding users_below up_to
  users_none = refl

  users_more : (i : ℕ) → users_below ws x (i + 1) ≡ users_below ws x i ++ replicate (times x (named_by (words_at ws i))) i
  unfolding users_below
  users_more i = up_to_next _ i

  -- the first users below the next node, from those below node i
  pub found_next : (i : ℕ) (w : NodeWords) (f r : FirstUsers) → w ≡ words_at ws i → f ≡ first_users (users_below ws x i)
      → ((us : List ℕ) → f ≡ first_users us → r ≡ first_users (us ++ replicate (times x (named_by w)) i))
      → r ≡ first_users (users_below ws x (i + 1))
  found_next i w f r e h step =
      step (users_below ws x i) h
      ∙ ap (λ (w : NodeWords). first_users (users_below ws x i ++ replicate (times x (named_by w)) i)) e
      ∙ ap first_users (sym (users_more i))

  -- two users below node i are the first of all n nodes
  pub two_known : (f : FirstUsers) (i n : ℕ) → i ≤ n → f ≡ first_users (users_below ws x i) → f.count ≡ 2
      → f ≡ first_users (users_below ws x n)
  unfolding users_below
  two_known f i n l h two =
      let r = up_to_split (λ j. replicate (times x (named_by (words_at ws j))) j) i (n - i) in
      let s : n - i + i ≡ n = omega arith in
      let e : f.count ≡ (first_users (users_below ws x i)).count = ap (λ (g : FirstUsers). g.count) h in
      h ∙ two_stay (users_below ws x i) r.0 (omega arith) ∙ ap first_users (sym r.1 ∙ ap (users_below ws x) s)

-- the table's users, by the words alone
pub users_are : (ws ls : List ℕ) (x : ℕ) → users (table_of ws ls) x ≡ users_below ws x (node_count ws)
unfolding users table_of node_at users_below
users_are ws ls x =
    up_to_cong _ _ (node_count ws) (λ j h. ap (λ (os : List ℕ). replicate (times x os) j) (operands_are (words_at ws j) ls))
