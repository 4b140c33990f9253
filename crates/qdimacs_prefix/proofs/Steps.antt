-- The steps by which the quantifier lines are put: names one by one, the end of a line, a turn to another kind, a block, and steps in a row.
-- Assumes nothing.
use mathlib.Core.Bool.{Bool, true, false}
use mathlib.Core.Path.{◌≡◌, refl, sym, ◌∙◌, ap}
use mathlib.Core.List.{List, [], ◌∷◌, ◌++◌, flat_map, append-nil}
use Prim.Native.Nat.{ℕ, zero, suc, ◌+◌, ◌-◌, ◌≤◌, ◌<◌}
use native.Mathlib.Numerals.{add-one}
use native.Mathlib.Omega.{arith}
use lib.Dec.{eqb}
use lib.ListN.{length, get_or, take}
use lib.Seq.{take-suc, take_all}
use borrow.Author.Tests.{eq-eqb, ne_eqb}
use Rattle.lists.specs.Choice.{pick, pick_yes, pick_no}
use Rattle.lists.specs.Parts.{numbers, up_to, passing}
use Rattle.formula.specs.Form.{Block, kind_of}
use Rattle.texts.specs.Numerals.{digits}
use Rattle.texts.specs.Put.{Put}
use Rattle.name_flags.specs.Flags.{flagged_below}
use Rattle.qdimacs_words.specs.Words.{Loose}
use Rattle.qdimacs_words.proofs.Loose.{loose_none, put_loose, loose_then, loose_as}
use Rattle.std.specs.Prelude.{Option, Some, None}
use Rattle.std.specs.Option.{option_eq}
use Rattle.qdimacs_prefix.specs.declared.Line.{Line}
use Rattle.qdimacs_prefix.specs.declared.Quantifier.{Quantifier}
use Rattle.qdimacs_prefix.specs.declared.Quantifier.TheVariants.{Exists, ForAll}
use Rattle.qdimacs_prefix.specs.Lines.{quantifier_kind, open_kind, line_kind, names_text, end_text, start_text, turn_text, added_text, kind_after, run_text, run_kind, Goes}
use Rattle.qdimacs_prefix.proofs.Runs.{names_append, end_none, end_some, turn_same, turn_other, added_none, added_some, after_none, after_some, added_append, after_append, run_one, run_append, run_kind-append}

-- One name and the space behind it; one name more.
name_text_lem : (x : ℕ) → names_text (x ∷ []) ≡ digits x ++ (32 ∷ [])
unfolding names_text flat_map
name_text_lem x = append-nil (digits x ++ (32 ∷ []))

more_names_lem : (xs : List ℕ) (x : ℕ) {before mid after : List ℕ} {at m n : ℕ} → Loose before at (names_text xs) mid m
    → Loose mid m (digits x ++ (32 ∷ [])) after n → Loose before at (names_text (xs ++ (x ∷ []))) after n
more_names_lem xs x p q = loose_as (names_append xs (x ∷ [])) (loose_then p (loose_as (name_text_lem x) q))

-- The names of a list: none, one more, all.
pub names_none : (xs : List ℕ) {before : List ℕ} {at : ℕ} → Loose before at (names_text (take 0 xs)) before at
unfolding names_text flat_map
names_none xs = loose_none

pub names_next : (xs : List ℕ) (i : ℕ) {before mid after : List ℕ} {at m n : ℕ} → i < length xs
    → Loose before at (names_text (take i xs)) mid m → Loose mid m (digits (get_or xs i 0) ++ (32 ∷ [])) after n
    → Loose before at (names_text (take (i + 1) xs)) after n
names_next xs i h p q = loose_as (ap names_text (rw add-one (take-suc xs i 0 h))) (more_names_lem (take i xs) (get_or xs i 0) p q)

pub names_all : (xs : List ℕ) (i : ℕ) {before after : List ℕ} {at n : ℕ} → length xs ≤ i
    → Loose before at (names_text (take i xs)) after n → Loose before at (names_text xs) after n
names_all xs i h p = loose_as (ap names_text (sym (take_all i xs h))) p

-- The numbers from one on: none, and one more.
numbers_last : (s c : ℕ) → numbers s (suc c) ≡ numbers s c ++ ((s + c) ∷ [])
unfolding numbers
numbers_last s zero = let e : s ≡ s + 0 = omega arith in ap (λ x. x ∷ []) e
numbers_last s (suc c) = let e : suc s + c ≡ s + suc c = omega arith in ap (λ t. s ∷ t) (numbers_last (suc s) c ∙ ap (λ x. numbers (suc s) c ++ (x ∷ [])) e)

pub numbers_none : (s x : ℕ) {before : List ℕ} {at : ℕ} → x ≡ s → Loose before at (names_text (numbers s (x - s))) before at
unfolding numbers names_text flat_map
numbers_none s x e = let z : x - s ≡ 0 = omega arith in rw z loose_none

pub numbers_next : (s x : ℕ) {before mid after : List ℕ} {at m n : ℕ} → s ≤ x → Loose before at (names_text (numbers s (x - s))) mid m
    → Loose mid m (digits x ++ (32 ∷ [])) after n → Loose before at (names_text (numbers s (x + 1 - s))) after n
numbers_next s x h p q =
    let c : x + 1 - s ≡ suc (x - s) = omega arith in
    let l : s + (x - s) ≡ x = omega arith in
    loose_as (ap names_text (ap (numbers s) c ∙ numbers_last s (x - s) ∙ ap (λ y. numbers s (x - s) ++ (y ∷ [])) l)) (more_names_lem (numbers s (x - s)) x p q)

-- The end of a line, if one has begun.
pub ended_none : (o : Option Quantifier) {before : List ℕ} {at : ℕ} → o ≡ None → Loose before at (end_text (open_kind o)) before at
ended_none o e = loose_as (ap (λ p. end_text (open_kind p)) e ∙ end_none) loose_none

some_kind : (q : Quantifier) → quantifier_kind q ≡ 0 → ⊥
some_kind Exists e = omega arith
some_kind ForAll e = omega arith

pub ended : (o : Option Quantifier) (q : Quantifier) {before after : List ℕ} {at n : ℕ} → o ≡ Some q
    → Put before at (48 ∷ 10 ∷ []) after n → Loose before at (end_text (open_kind o)) after n
ended o q e p = loose_as (ap (λ r. end_text (open_kind r)) e ∙ end_some (quantifier_kind q) (some_kind q)) (put_loose p)

-- Where none has begun, its end has no length.
pub unended_length : (k : ℕ) → k ≡ 0 → length (end_text k) ≡ 0
unended_length k e = ap length (ap end_text e ∙ end_none)

-- No step, steps in a row, and a step by another name.
pub goes_none : {before : List ℕ} {l : Line} → Goes before l [] (line_kind l) before l
goes_none = record { put = loose_none; kind_is = refl }

pub goes_then : {before p mid q after : List ℕ} {l m n : Line} {j k : ℕ} → Goes before l p j mid m → Goes mid m q k after n
    → Goes before l (p ++ q) k after n
goes_then a b = record { put = loose_then a.put b.put; kind_is = b.kind_is }

pub goes_as : {before p q after : List ℕ} {l n : Line} {j k : ℕ} → q ≡ p → k ≡ j → Goes before l p j after n → Goes before l q k after n
goes_as e d a = record { put = loose_as e a.put; kind_is = a.kind_is ∙ sym d }

-- No turn to the same quantifier, and a turn to another.
pub goes_same : {before : List ℕ} {l : Line} (q : Quantifier) → l.quantifier ≡ Some q
    → Goes before l (turn_text (line_kind l) (quantifier_kind q)) (quantifier_kind q) before l
goes_same {before} {l} q same =
    let e : line_kind l ≡ quantifier_kind q = ap open_kind same in
    goes_as (turn_same (line_kind l) (quantifier_kind q) e) (sym e) goes_none

-- What a test for a quantifier says.
module _ (test : Quantifier → Quantifier → Bool) (o : Option Quantifier) (q : Quantifier) where
  pub tested_true : test Exists ForAll ≡ false → test ForAll Exists ≡ false → option_eq test o (Some q) ≡ true → o ≡ Some q
  tested_true a b h = go o q h
    where
      go : (o : Option Quantifier) (q : Quantifier) → option_eq test o (Some q) ≡ true → o ≡ Some q
      go None q h = absurd (cc)
      go (Some Exists) Exists h = refl
      go (Some Exists) ForAll h = absurd (cc)
      go (Some ForAll) Exists h = absurd (cc)
      go (Some ForAll) ForAll h = refl

  pub tested_false : test Exists Exists ≡ true → test ForAll ForAll ≡ true → option_eq test o (Some q) ≡ false → o ≡ Some q → ⊥
  tested_false a b h e = go q (ap (λ p. option_eq test p (Some q)) (sym e) ∙ h)
    where
      go : (q : Quantifier) → test q q ≡ false → ⊥
      go Exists h = cc
      go ForAll h = cc

kind_apart : (o : Option Quantifier) (q : Quantifier) → open_kind o ≡ quantifier_kind q → o ≡ Some q
kind_apart None Exists e = absurd (omega arith)
kind_apart None ForAll e = absurd (omega arith)
kind_apart (Some Exists) Exists e = refl
kind_apart (Some Exists) ForAll e = absurd (omega arith)
kind_apart (Some ForAll) Exists e = absurd (omega arith)
kind_apart (Some ForAll) ForAll e = refl

pub goes_turned : {before mid after : List ℕ} {l : Line} {e n : ℕ} (q : Quantifier) → (l.quantifier ≡ Some q → ⊥)
    → Loose before l.at (end_text (line_kind l)) mid e → Put mid e (start_text (quantifier_kind q)) after n
    → Goes before l (turn_text (line_kind l) (quantifier_kind q)) (quantifier_kind q) after (record { at = n; quantifier = Some q })
goes_turned {l = l} q other a b =
    record {
      put = loose_as (turn_other (line_kind l) (quantifier_kind q) (λ e. other (kind_apart l.quantifier q e))) (loose_then a (put_loose b));
      kind_is = refl;
    }

-- A block without names, and one with names, which stand after the turn.
pub block_none : {before : List ℕ} {l : Line} (m : ℕ) (xs : List ℕ) → length xs ≡ 0
    → Goes before l (added_text (line_kind l) m xs) (kind_after (line_kind l) m xs) before l
block_none {before} {l} m xs e = goes_as (added_none (line_kind l) m xs e) (after_none (line_kind l) m xs e) goes_none

-- A block without names again, where the line keeps its kind and its index: whatever was put is empty then.
nothing : (p : List ℕ) → length p ≡ 0 → p ≡ []
nothing [] e = refl
nothing (x ∷ p) e = absurd (omega arith)

pub block_empty : {before after : List ℕ} {l n : Line} (m : ℕ) (xs : List ℕ) → length xs ≡ 0 → line_kind n ≡ line_kind l → n.at ≡ l.at
    → (p : List ℕ) × Loose before l.at p after n.at → Goes before l (added_text (line_kind l) m xs) (kind_after (line_kind l) m xs) after n
block_empty {l = l} m xs e same still q =
    let none : q.0 ≡ [] = nothing q.0 (omega (arith, q.1.counted)) in
    record { put = loose_as (added_none (line_kind l) m xs e ∙ sym none) q.1; kind_is = same ∙ sym (after_none (line_kind l) m xs e) }

pub block_put : {before mid after : List ℕ} {l t : Line} {n : ℕ} (m : ℕ) (xs : List ℕ) → (length xs ≡ 0 → ⊥)
    → Goes before l (turn_text (line_kind l) m) m mid t → Loose mid t.at (names_text xs) after n
    → Goes before l (added_text (line_kind l) m xs) (kind_after (line_kind l) m xs) after (record { at = n; quantifier = t.quantifier })
block_put {l = l} m xs s a b =
    record { put = loose_as (added_some (line_kind l) m xs s) (loose_then a.put b); kind_is = a.kind_is ∙ sym (after_some (line_kind l) m xs s) }

-- A name that is put if its flag is 2.
pub flag_none : {before : List ℕ} {l : Line} (m flag x : ℕ) → (flag ≡ 2 → ⊥)
    → Goes before l (added_text (line_kind l) m (pick (eqb flag 2) (x ∷ []) [])) (kind_after (line_kind l) m (pick (eqb flag 2) (x ∷ []) [])) before l
flag_none m flag x n = rw (pick_no (eqb flag 2) (x ∷ []) [] (ne_eqb flag 2 n)) (block_none m [] refl)

pub flag_put : {before mid after : List ℕ} {l t : Line} {n : ℕ} (m flag x : ℕ) → flag ≡ 2
    → Goes before l (turn_text (line_kind l) m) m mid t → Loose mid t.at (digits x ++ (32 ∷ [])) after n
    → Goes before l (added_text (line_kind l) m (pick (eqb flag 2) (x ∷ []) [])) (kind_after (line_kind l) m (pick (eqb flag 2) (x ∷ []) [])) after
    (record { at = n; quantifier = t.quantifier })
flag_put m flag x e a b =
    rw (pick_yes (eqb flag 2) (x ∷ []) [] (eq-eqb flag 2 e)) (block_put m (x ∷ []) (λ z. omega arith) a (loose_as (name_text_lem x) b))

-- Names one after the other in a block: none, and what one more adds to those whose flag is 2.
goes_more : {before mid after : List ℕ} {l m n : Line} (k c : ℕ) (xs ys : List ℕ) → Goes before l (added_text k c xs) (kind_after k c xs) mid m
    → Goes mid m (added_text (line_kind m) c ys) (kind_after (line_kind m) c ys) after n
    → Goes before l (added_text k c (xs ++ ys)) (kind_after k c (xs ++ ys)) after n
goes_more k c xs ys a b =
    goes_as (added_append k c xs ys ∙ ap (λ j. added_text k c xs ++ added_text j c ys) (sym a.kind_is))
    (after_append k c xs ys ∙ ap (λ j. kind_after j c ys) (sym a.kind_is))
    (goes_then a b)

pub free_none : {before : List ℕ} {l : Line} (m : ℕ) (names : List ℕ)
    → Goes before l (added_text (line_kind l) m (flagged_below names 0)) (kind_after (line_kind l) m (flagged_below names 0)) before l
unfolding flagged_below passing up_to
free_none m names = block_none m [] refl

pub free_next : {before mid after : List ℕ} {l m n : Line} (k c : ℕ) (names : List ℕ) (x : ℕ)
    → Goes before l (added_text k c (flagged_below names x)) (kind_after k c (flagged_below names x)) mid m
    → Goes mid m (added_text (line_kind m) c (pick (eqb (get_or names x 0) 2) (x ∷ []) [])) (kind_after (line_kind m) c (pick (eqb (get_or names x 0) 2) (x ∷ []) [])) after n
    → Goes before l (added_text k c (flagged_below names (x + 1))) (kind_after k c (flagged_below names (x + 1))) after n
unfolding flagged_below passing up_to
free_next k c names x a b = rw add-one (goes_more k c (flagged_below names x) (pick (eqb (get_or names x 0) 2) (x ∷ []) []) a b)

-- Blocks one after the other, and one block.
pub goes_run : {before mid after : List ℕ} {l m n : Line} (k : ℕ) (bs cs : List Block) → Goes before l (run_text k bs) (run_kind k bs) mid m
    → Goes mid m (run_text (line_kind m) cs) (run_kind (line_kind m) cs) after n → Goes before l (run_text k (bs ++ cs)) (run_kind k (bs ++ cs)) after n
goes_run k bs cs a b =
    goes_as (run_append k bs cs ∙ ap (λ j. run_text k bs ++ run_text j cs) (sym a.kind_is))
    (run_kind-append k bs cs ∙ ap (λ j. run_kind j cs) (sym a.kind_is))
    (goes_then a b)

pub goes_block : {before after : List ℕ} {l n : Line} (k : ℕ) (b : Block)
    → Goes before l (added_text k (kind_of b.quantifier) b.variables) (kind_after k (kind_of b.quantifier) b.variables) after n
    → Goes before l (run_text k (b ∷ [])) (run_kind k (b ∷ [])) after n
unfolding run_kind
goes_block k b a = goes_as (run_one k b) refl a
