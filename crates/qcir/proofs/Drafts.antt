-- What holds of a draft: its nodes are sound, each is named once or waits to be, and each gate's node has the gate's value.
-- Assumes nothing.
use mathlib.Core.Path.{◌≡◌, refl, sym, ◌∙◌, ap, subst}
use mathlib.Core.Bool.{Bool, true, false, not, ◌||◌}
use mathlib.Core.List.{List, [], ◌∷◌, ◌++◌, map}
use Prim.Native.Nat.{ℕ, suc, ◌+◌, ◌≤◌, ◌<◌}
use native.Mathlib.Omega.{arith}
use lib.Dec.{eqb, ltb}
use lib.ListN.{length, length-append}
use borrow.Author.Tests.{ltb-true, ltb-false, lt-ltb, le-ltb, le-leb, eqb-true, eqb-false, eq-eqb, ne_eqb}
use Rattle.lists.specs.Choice.{pick, pick_yes, pick_no, Is, is_true, is_false, look, clash, or_cases}
use Rattle.lists.specs.Members.{mem, all, distinct, times}
use Rattle.lists.proofs.Members.{mem_one}
use Rattle.formula.specs.Node.{Quantifier, exists, for_all, constant, variable, negation, operator, block, Table, operands, bound, is_block}
use Rattle.formula.specs.Words.{node_count, is_block_kind, node_of, words_of, block_words, table_of}
use Rattle.formula.specs.Form.{kind_of}
use Rattle.formula.specs.declared.NodeWords.{NodeWords}
use Rattle.formula.specs.Valuation.{Valuation, quant}
use Rattle.formula.specs.Truth.{digit, operator_value}
use Rattle.formula.specs.Tree.{times_named}
use Rattle.formula.proofs.Nodes.{words_node, block_words_node}
use Rattle.acceptance.specs.Limits.{table_limits}
use Rattle.acceptance.specs.Verdict.{is_number, well_formed}
use Rattle.qcir.specs.Meaning.{Meaning}
use Rattle.qcir.specs.Table.{Draft, Stored, store, store_block}
use Rattle.qcir.proofs.StoredWords.{with_node, Extends, extends_same, extends_append, range_appended, count_with}
use Rattle.qcir.proofs.StoredValues.{Kept, Stands, stands_kept, stands_constant, stands_variable, stands_negation, stands_operator, stands_block}
use Rattle.qcir.proofs.StoredNodes.{Sound, Fresh, new, sound_more, kept_with, named_more}

abbrev pub draft_table : Draft → Table
draft_table d = table_of d.words d.entries

-- 1 if k is below n, else 0
unfoldable pub below : ℕ → ℕ → ℕ
below k n = pick (ltb k n) 1 0

pub below_yes : (k n : ℕ) → k < n → below k n ≡ 1
unfolding below
below_yes k n h = pick_yes _ _ _ (lt-ltb k n h)

pub below_no : (k n : ℕ) → n ≤ k → below k n ≡ 0
unfolding below
below_no k n h = pick_no _ _ _ (le-ltb k n h)

pub times_one : (k a : ℕ) → k ≡ a → times k (a ∷ []) ≡ 1
unfolding times
times_one k a e = let p : ◌≡◌ {A = ℕ} (pick (eqb k a) 1 0) 1 = pick_yes _ _ _ (eq-eqb k a e) in omega arith

pub times_other : (k a : ℕ) → (k ≡ a → ⊥) → times k (a ∷ []) ≡ 0
unfolding times
times_other k a e = let p : ◌≡◌ {A = ℕ} (pick (eqb k a) 1 0) 0 = pick_no _ _ _ (ne_eqb k a e) in omega arith

pub times_cons : (k x : ℕ) (xs : List ℕ) → times k (x ∷ xs) ≡ times k (x ∷ []) + times k xs
unfolding times
times_cons k x xs = omega arith

-- the numbers below n + 1 are those below n, and n
below_by : (k n m : ℕ) → m ≡ suc n → Is (ltb k n) → Is (eqb k n) → below k m ≡ below k n + times k (n ∷ [])
below_by k n m e (is_true p) q =
    let h : k < n = ltb-true k n p in
    omega (arith, below_yes k m (omega arith), below_yes k n h, times_other k n (λ z. omega arith))
below_by k n m e (is_false p) (is_true q) =
    let h : k ≡ n = eqb-true k n q in
    omega (arith, below_yes k m (omega arith), below_no k n (omega arith), times_one k n h)
below_by k n m e (is_false p) (is_false q) =
    let h : n ≤ k = ltb-false k n p in
    let g : k ≡ n → ⊥ = eqb-false k n q in
    omega (arith, below_no k m (omega arith), below_no k n h, times_other k n g)

below_more : (k n m : ℕ) → m ≡ suc n → below k m ≡ below k n + times k (n ∷ [])
below_more k n m e = below_by k n m e (look (ltb k n)) (look (eqb k n))

-- The draft's nodes are sound. Each is named by one, or stands in `hand` and is named next, or stands for a gate that is used once by
-- `uses`. A gate's node has the value that m gives its name, and m gives the other names what a valuation gives them.
pub record Holds (R : Type 0) (d : Draft) (hand uses : List ℕ) (m : Meaning) : Type 0 where
  pub sound : Sound R d.words d.entries
  pub once : (k : ℕ) → times_named (draft_table d) k + times k hand + times (suc k) (map d.gate uses) ≡ below k (node_count d.words)
  pub gates : (x k : ℕ) → d.gate x ≡ suc k → Stands (draft_table d) k (m x)
  pub variables : (x : ℕ) → d.gate x ≡ 0 → (v : Valuation) → m x v ≡ v x

-- s is the draft d with nodes more; what was stored last is in hand and has the value g.
pub record Stores (R : Type 0) (d : Draft) (hand uses : List ℕ) (m : Meaning) (g : Valuation → Bool) (s : Stored) : Type 0 where
  pub holds : Holds R s.draft (s.node ∷ hand) uses m
  pub stands : Stands (draft_table s.draft) s.node g
  pub kept : Kept (draft_table d) (draft_table s.draft)
  pub gate : (x : ℕ) → s.draft.gate x ≡ d.gate x

-- The draft d with one node more.
abbrev next_draft : Draft → List ℕ → NodeWords → Draft
next_draft d ls' w = record { words = with_node d.words w; entries = ls'; gate = d.gate }

module _ (R : Type 0) (d : Draft) (hand' hand uses : List ℕ) (m : Meaning) (holds : Holds R d hand' uses m)
    (ls' : List ℕ) (w : NodeWords) (ext : Extends d.entries ls') (fresh : Fresh R d.words d.entries ls' w)
    (taken : (k : ℕ) → times k hand' ≡ times k (operands (node_of ls' w)) + times k hand) where
  holds_more : Holds R (next_draft d ls' w) (node_count d.words ∷ hand) uses m
  holds_more =
      let sound = holds.sound in
      record {
        sound = sound_more R d.words d.entries ls' w sound ext fresh;
        once = λ k.
            omega (
              arith,
              holds.once k,
              taken k,
              times_cons k (node_count d.words) hand,
              named_more R d.words d.entries ls' w sound ext fresh k,
              below_more k (node_count d.words) (node_count (with_node d.words w)) (count_with d.words sound.whole w),
            );
        gates = λ x k e. stands_kept (kept_with R d.words d.entries ls' w sound ext fresh) (holds.gates x k e);
        variables = holds.variables;
      }

  stores_more : (g : Valuation → Bool)
      → ((t : Table) → Kept (draft_table d) t → node_count d.words < t.size → t.node (node_count d.words) ≡ node_of ls' w → Stands t (node_count d.words) g)
      → Stores R d hand uses m g (record { draft = next_draft d ls' w; node = node_count d.words })
  unfolding table_of
  stores_more g h =
      let sound = holds.sound in
      let kept = kept_with R d.words d.entries ls' w sound ext fresh in
      record {
        holds = holds_more;
        stands = h (table_of (with_node d.words w) ls') kept
            (omega (arith, count_with d.words sound.whole w))
            (new R d.words d.entries ls' w sound ext fresh);
        kept = kept;
        gate = λ x. refl;
      }

times_none : (k : ℕ) → times k [] ≡ 0
unfolding times
times_none k = refl

mem_just : (x a : ℕ) → mem x (a ∷ []) ≡ true → x ≡ a
mem_just x a h = eqb-true x a (sym (mem_one x a) ∙ h)

mem_two : (x a b : ℕ) (P : ℕ → Type 0) → P a → P b → mem x (a ∷ b ∷ []) ≡ true → P x
unfolding mem
mem_two x a b P p q h =
    or_cases (eqb x a) (eqb x b || false) h (λ e. subst P (sym (eqb-true x a e)) p) (λ e. subst P (sym (mem_just x b e)) q)

block_node : (ls : List ℕ) (q : Quantifier) (xs : List ℕ) (a : ℕ) → node_of (ls ++ xs) (block_words (kind_of q) (length ls) (length xs) a) ≡ block q xs a
block_node ls q xs a =
    block_words_node (ls ++ xs) q (length ls) (length xs) a ∙ ap (λ ys. block q ys a) (range_appended ls xs)

block_formed : (q : Quantifier) (a b c : ℕ) → well_formed table_limits (block_words (kind_of q) a b c) ≡ true
unfolding well_formed block_words kind_of is_block_kind
block_formed exists a b c = refl
block_formed for_all a b c = refl

digit_small : (b : Bool) → digit b ≤ 1
unfolding digit
digit_small true = omega arith
digit_small false = omega arith

-- Nodes to be stored, by their kinds.
module _ (R : Type 0) (ws ls : List ℕ) where
  constant_fresh : (b : Bool) → Fresh R ws ls ls (words_of (constant b))
  unfolding node_of words_of pick operands is_block bound is_block_kind well_formed mem distinct all
  constant_fresh b =
      record {
        fits = λ k. clash k refl;
        lower = λ x h. clash h refl;
        filled = λ k. clash k refl;
        apart = refl;
        formed = λ r. rw (le-leb (digit b) 1 (digit_small b));
        numbered = λ r. refl;
      }

  variable_fresh : (x : ℕ) → (R → is_number x ≡ true) → Fresh R ws ls ls (words_of (variable x))
  unfolding node_of words_of pick operands is_block bound is_block_kind well_formed mem distinct all
  variable_fresh x n =
      record {
        fits = λ k. clash k refl;
        lower = λ y h. clash h refl;
        filled = λ k. clash k refl;
        apart = refl;
        formed = λ r. rw (n r);
        numbered = λ r. refl;
      }

  negation_fresh : (a : ℕ) → a < node_count ws → Fresh R ws ls ls (words_of (negation a))
  unfolding node_of words_of pick operands is_block bound is_block_kind well_formed distinct all
  negation_fresh a l =
      record {
        fits = λ k. clash k refl;
        lower = λ y h. omega (arith, mem_just y a h);
        filled = λ k. clash k refl;
        apart = refl;
        formed = λ r. refl;
        numbered = λ r. refl;
      }

  operator_fresh : (o a b : ℕ) → o ≤ 15 → a < node_count ws → b < node_count ws → Fresh R ws ls ls (words_of (operator o a b))
  unfolding node_of words_of pick operands is_block bound is_block_kind well_formed distinct all
  operator_fresh o a b l p q =
      record {
        fits = λ k. clash k refl;
        lower = λ y h. mem_two y a b (λ z. z < node_count ws) p q h;
        filled = λ k. clash k refl;
        apart = refl;
        formed = λ r. rw (le-leb o 15 l);
        numbered = λ r. refl;
      }

  block_fresh : (q : Quantifier) (xs : List ℕ) (a : ℕ) → a < node_count ws → 0 < length xs → distinct xs ≡ true → (R → all is_number xs ≡ true)
      → Fresh R ws ls (ls ++ xs) (block_words (kind_of q) (length ls) (length xs) a)
  unfolding operands bound block_words
  block_fresh q xs a l s u n =
      let e = block_node ls q xs a in
      record {
        fits = λ k. omega (arith, length-append ls xs);
        lower = λ y h. omega (arith, mem_just y a (rw e at h));
        filled = rw e (λ k. s);
        apart = rw e u;
        formed = λ r. block_formed q (length ls) (length xs) a;
        numbered = λ r. rw e (n r);
      }

-- One node more, by its kind.
module _ (R : Type 0) (d : Draft) (hand uses : List ℕ) (m : Meaning) where
  pub new_constant : Holds R d hand uses m → (b : Bool) → Stores R d hand uses m (λ v. b) (store d (words_of (constant b)))
  unfolding store node_of words_of pick operands is_block
  new_constant holds b =
      stores_more R d hand hand uses m holds d.entries (words_of (constant b)) (extends_same d.entries) (constant_fresh R d.words d.entries b)
      (λ k. omega (arith, times_none k)) (λ v. b)
      (λ t k low e. stands_constant t _ low b (e ∙ words_node d.entries (constant b) refl))

  pub new_variable : Holds R d hand uses m → (x : ℕ) → (R → is_number x ≡ true) → Stores R d hand uses m (λ v. v x) (store d (words_of (variable x)))
  unfolding store node_of words_of pick operands
  new_variable holds x r =
      stores_more R d hand hand uses m holds d.entries (words_of (variable x)) (extends_same d.entries) (variable_fresh R d.words d.entries x r)
      (λ k. omega (arith, times_none k)) (λ v. v x)
      (λ t k low e. stands_variable t _ low x e)

  pub new_negation : (a : ℕ) (g : Valuation → Bool) → Holds R d (a ∷ hand) uses m → Stands (draft_table d) a g
      → Stores R d hand uses m (λ v. not (g v)) (store d (words_of (negation a)))
  unfolding store node_of words_of pick operands table_of
  new_negation a g holds p =
      stores_more R d (a ∷ hand) hand uses m holds d.entries (words_of (negation a)) (extends_same d.entries) (negation_fresh R d.words d.entries a p.low)
      (λ k. times_cons k a hand) (λ v. not (g v))
      (λ t k low e. stands_negation t _ low a g e p.low (stands_kept k p))

  pub new_operator : (o a b : ℕ) (g h : Valuation → Bool) → o ≤ 15 → Holds R d (b ∷ a ∷ hand) uses m → Stands (draft_table d) a g → Stands (draft_table d) b h
      → Stores R d hand uses m (λ v. operator_value o (g v) (h v)) (store d (words_of (operator o a b)))
  unfolding store node_of words_of pick operands table_of
  new_operator o a b g h l holds p q =
      stores_more R d (b ∷ a ∷ hand) hand uses m holds d.entries (words_of (operator o a b)) (extends_same d.entries)
      (operator_fresh R d.words d.entries o a b l p.low q.low)
      (λ k. omega (arith, times_cons k b (a ∷ hand), times_cons k a hand, times_cons k a (b ∷ [])))
      (λ v. operator_value o (g v) (h v))
      (λ t k low e. stands_operator t _ low o a b g h e p.low q.low (stands_kept k p) (stands_kept k q))

  pub new_block : (q : Quantifier) (xs : List ℕ) (a : ℕ) (g : Valuation → Bool) → 0 < length xs → distinct xs ≡ true
      → (R → all is_number xs ≡ true) → Holds R d (a ∷ hand) uses m → Stands (draft_table d) a g
      → Stores R d hand uses m (quant q xs g) (store_block q xs (record { draft = d; node = a }))
  unfolding store_block store operands table_of
  new_block q xs a g s u r holds p =
      let e = block_node d.entries q xs a in
      stores_more R d (a ∷ hand) hand uses m holds (d.entries ++ xs) (block_words (kind_of q) (length d.entries) (length xs) a) (extends_append d.entries xs)
      (block_fresh R d.words d.entries q xs a p.low s u r)
      (λ k. rw e (times_cons k a hand)) (quant q xs g)
      (λ t k low n. stands_block t _ low q xs a g (n ∙ e) p.low (stands_kept k p))
