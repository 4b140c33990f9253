-- A level's nodes as they are written, and the levels one after the other.
-- Assumes nothing.
use mathlib.Core.Path.{◌≡◌, refl, sym, ◌∙◌, ap, subst}
use mathlib.Core.List.{List, [], ◌∷◌, ◌++◌, flat_map, append_assoc}
use Prim.Native.Nat.{ℕ, suc, ◌+◌, ◌-◌, ◌*◌, ◌≤◌, ◌<◌}
use native.Mathlib.Omega.{arith}
use native.Mathlib.Numerals.{add-one}
use lib.ListN.{length, length-append}
use Rattle.lists.specs.Parts.{overwrite}
use Rattle.formula.specs.Node.{Quantifier, dual, Node, operator, Table}
use Rattle.formula.specs.Words.{width, node_words}
use Rattle.prenex_form.specs.Scope.{level}
use Rattle.prenex_form.specs.Levels.{blocks_at, levels, level_quantifier}
use Rattle.prenex_form.specs.Matrix.{and, kept, constraint, further, constraints, level_join, level_nodes}
use Rattle.arrays.specs.Chains.{blocks_from, linked, BlockOf}
use Rattle.matrix_writer.specs.Added.{added_nodes}
use Rattle.matrix_writer.specs.Buffer.{with_nodes, Room, Wrote}
use Rattle.matrix_writer.specs.Chain.{nodes_after}
use Rattle.matrix_writer.proofs.Added.{length_added, added_grows}
use Rattle.matrix_writer.proofs.Buffer.{with_none, with_append, with_then, wrote, wrote_then}
use Rattle.std.proofs.Common.{Option, Some, None, IfSome}

-- The first j levels are written, and the next one's quantifier is this.
pub record Levelled (t : Table) (out nodes : List ℕ) (q : Quantifier) (next j : ℕ) : Type 0 where
  pub wrote_added : Wrote out (kept t) (added_nodes t j) nodes next
  pub quantifier_is : q ≡ level_quantifier t j
  pub long : length nodes ≡ length out

pub levelled_none : {t : Table} (out : List ℕ) (q : Quantifier) (next : ℕ) → next ≡ kept t → q ≡ level_quantifier t 0 → Levelled t out out q next 0
unfolding added_nodes
levelled_none {t} out q next e p =
    record {
      wrote_added = record { nodes_are = sym (with_none out (kept t)); next_is = omega arith };
      quantifier_is = p;
      long = refl;
    }

module _ {t : Table} {out nodes : List ℕ} {q : Quantifier} {next j : ℕ} (done : Levelled t out nodes q next j) where
  -- the room for all levels is room for the next one
  pub level_room : (first l : ℕ) → first ≡ kept t → Room out first (length (added_nodes t l)) → j < l → Room nodes next (length (level_nodes t j next))
  level_room first l e room h =
      let n = done.wrote_added.next_is in
      let g : length (added_nodes t (suc j)) ≤ length (added_nodes t l) = added_grows t (suc j) l h in
      rw n (record { fits = omega (arith, room.fits, length_added t j, done.long); small = omega (arith, room.small, length_added t j) })

  pub levelled_next : (last : List ℕ) (after : ℕ) (other : Quantifier) → Wrote nodes next (level_nodes t j next) last after → other ≡ dual q
      → length last ≡ length nodes → Room nodes next (length (level_nodes t j next)) → Levelled t out last other after (j + 1)
  unfolding added_nodes level_quantifier
  levelled_next last after other p d k room =
      let n = done.wrote_added.next_is in
      rw add-one
      (record {
        wrote_added =
            wrote_then done.wrote_added (subst (λ s. Wrote nodes next (level_nodes t j s) last after) n p)
            (omega (arith, p.next_is, room.fits, done.long));
        quantifier_is = d ∙ ap dual done.quantifier_is;
        long = k ∙ done.long;
      })

  pub levelled_all : j ≡ levels t → nodes ≡ overwrite out (width * kept t) (flat_map node_words (added_nodes t (levels t)))
  unfolding with_nodes
  levelled_all e = rw (← e) done.wrote_added.nodes_are

module _ (t : Table) where
  -- one block further
  pub further_one : (i s : ℕ) → further t (i ∷ []) s ≡ constraint t i s ++ (operator and (s - 1) (s + length (constraint t i s) - 1) ∷ [])
  unfolding further
  further_one i s = refl

  pub length_further_one : (i s : ℕ) → length (further t (i ∷ []) s) ≡ length (constraint t i s) + 1
  length_further_one i s = ap (λ (ns : List Node). length ns) (further_one i s) ∙ length-append (constraint t i s) _

  pub wrote_further : (i s e : ℕ) (out m last : List ℕ) → Wrote out s (constraint t i s) m e → last ≡ with_nodes m e (operator and (s - 1) (e - 1) ∷ [])
      → width * (s + length (further t (i ∷ []) s)) ≤ length out → Wrote out s (further t (i ∷ []) s) last (e + 1)
  wrote_further i s e out m last p q fits =
      let n : e ≡ s + length (constraint t i s) = p.next_is in
      let l = length_further_one i s in
      wrote (constraint t i s ++ (operator and (s - 1) (e - 1) ∷ []))
      (further_one i s ∙ ap (λ d. constraint t i s ++ (operator and (s - 1) (d - 1) ∷ [])) (sym n))
      (with_then out m last s e (constraint t i s) _ p.nodes_are q n (omega arith))
      (simp length-append (omega arith))

  further_cons : (i : ℕ) (is : List ℕ) (s : ℕ) → further t (i ∷ is) s ≡ further t (i ∷ []) s ++ further t is (s + length (further t (i ∷ []) s))
  unfolding further
  further_cons i is s =
      let c = constraint t i s in
      let o : List Node = operator and (s - 1) (s + length c - 1) ∷ [] in
      let n : s + length (c ++ o) ≡ s + length c + 1 = omega (arith, length-append c o) in
      rw n (sym (append_assoc c o (further t is (s + length c + 1))))

  -- the constraints of a level whose first block is b
  abbrev level_constraints : ℕ → ℕ → List Node
  level_constraints b s = constraint t b s ++ nodes_after t b (s + length (constraint t b s))

  -- a level in parts: the first block's constraint, those after it, and the join
  level_parts : (j b s : ℕ) → blocks_at t (suc j) ≡ b ∷ blocks_from t (suc j) (suc b) → level t b ≡ suc j
      → level_nodes t j s ≡ level_constraints b s ++ (level_join (level_quantifier t j) (s - 1) (s + length (level_constraints b s) - 1) ∷ [])
  unfolding level_nodes constraints
  level_parts j b s e f = rw (e, f)

  length_level : (j b s : ℕ) → blocks_at t (suc j) ≡ b ∷ blocks_from t (suc j) (suc b) → level t b ≡ suc j
      → length (level_nodes t j s) ≡ length (constraint t b s) + length (nodes_after t b (s + length (constraint t b s))) + 1
  length_level j b s e f = ap (λ (ns : List Node). length ns) (level_parts j b s e f) ∙ simp length-append

  pub wrote_level : (j b s n e : ℕ) (q : Quantifier) (out m o last : List ℕ) → blocks_at t (suc j) ≡ b ∷ blocks_from t (suc j) (suc b) → level t b ≡ suc j
      → Wrote out s (constraint t b s) m n → Wrote m n (nodes_after t b n) o e → last ≡ with_nodes o e (level_join q (s - 1) (e - 1) ∷ [])
      → q ≡ level_quantifier t j → width * (s + length (level_nodes t j s)) ≤ length out → Wrote out s (level_nodes t j s) last (e + 1)
  wrote_level j b s n e q out m o last f g p w r k fits =
      let l = length_level j b s f g in
      let next : Wrote m n (nodes_after t b (s + length (constraint t b s))) o e = subst (λ a. Wrote m n (nodes_after t b a) o e) p.next_is w in
      let both : Wrote out s (level_constraints b s) o e = wrote_then p next (omega (arith, p.next_is, next.next_is)) in
      let last_is = subst (λ k. last ≡ with_nodes o e (level_join k (s - 1) (e - 1) ∷ [])) k r in
      wrote (level_constraints b s ++ (level_join (level_quantifier t j) (s - 1) (e - 1) ∷ []))
      (level_parts j b s f g ∙ ap (λ a. level_constraints b s ++ (level_join (level_quantifier t j) (s - 1) (a - 1) ∷ [])) (sym both.next_is))
      (with_then out o last s e (level_constraints b s) _ both.nodes_are last_is both.next_is (omega (arith, length-append (constraint t b s) (nodes_after t b (s + length (constraint t b s))))))
      (simp length-append (omega (arith, p.next_is, next.next_is)))

-- what is known of level j + 1, whose first block is b
pub record LevelFacts (t : Table) (j b at : ℕ) : Type 0 where
  pub block : BlockOf t (suc j) b
  pub blocks_are : blocks_at t (suc j) ≡ b ∷ blocks_from t (suc j) (suc b)
  pub long : length (level_nodes t j at) ≡ length (constraint t b at) + length (nodes_after t b (at + length (constraint t b at))) + 1

pub level_facts : {t : Table} {j b : ℕ} (at : ℕ) → BlockOf t (j + 1) b → linked t (j + 1) (Some b) ≡ blocks_at t (j + 1) → LevelFacts t j b at
level_facts {t} {j} {b} at o e =
    let o' : BlockOf t (suc j) b = rw add-one at o in
    let e' : blocks_at t (suc j) ≡ b ∷ blocks_from t (suc j) (suc b) = sym (rw add-one at e) in
    record { block = o'; blocks_are = e'; long = length_level t j b at e' o'.level_is }

-- What is left to write of the blocks bs after a level's first one, when the chain has come to a block or to its end.
pub record Rest (t : Table) (l : ℕ) (bs out : List ℕ) (at : ℕ) (nodes : List ℕ) (next : ℕ) (block : Option ℕ) : Type 0 where
  pub of_level : IfSome block (BlockOf t l)
  pub nodes_are : with_nodes nodes next (further t (linked t l block) next) ≡ with_nodes out at (further t bs at)
  pub next_is : next + length (further t (linked t l block) next) ≡ at + length (further t bs at)
  pub long : length nodes ≡ length out
  pub later : at ≤ next

module _ (t : Table) (l : ℕ) where
  pub rest_all : (out : List ℕ) (at i : ℕ) (block : Option ℕ) → IfSome block (BlockOf t l) → linked t l block ≡ blocks_from t l (suc i)
      → Rest t l (blocks_from t l (suc i)) out at out at block
  rest_all out at i block o e = record { of_level = o; nodes_are = rw e; next_is = rw e; long = refl; later = omega arith }

  pub rest_none : {bs out nodes : List ℕ} {at next : ℕ} {block : Option ℕ} → Rest t l bs out at nodes next block → block ≡ None → Wrote out at (further t bs at) nodes next
  unfolding further
  rest_none {bs} {out} {nodes} {at} {next} {block} r e =
      record {
        nodes_are = sym (with_none nodes next) ∙ (rw e at r.nodes_are);
        next_is = let n = rw e at r.next_is in omega arith;
      }

  -- the block that the chain has come to has room, and what is left after it is what its next leads to
  module _ {bs out nodes : List ℕ} {at next : ℕ} {block : Option ℕ} (b : ℕ) (after : Option ℕ) (r : Rest t l bs out at nodes next block) (e : block ≡ Some b)
      (f : linked t l after ≡ blocks_from t l (suc b)) where
    linked_here : linked t l block ≡ b ∷ linked t l after
    linked_here = ap (linked t l) e ∙ ap (λ (bs : List ℕ). b ∷ bs) (sym f)

    left : further t (linked t l block) next ≡ further t (b ∷ []) next ++ further t (linked t l after) (next + length (further t (b ∷ []) next))
    left = ap (λ (bs : List ℕ). further t bs next) linked_here ∙ further_cons t b (linked t l after) next

    length_left : length (further t (linked t l block) next) ≡ length (further t (b ∷ []) next) + length (further t (linked t l after) (next + length (further t (b ∷ []) next)))
    length_left = ap (λ (ns : List Node). length ns) left ∙ length-append (further t (b ∷ []) next) _

    pub rest_next : (last : List ℕ) (end : ℕ) → IfSome after (BlockOf t l) → Wrote nodes next (further t (b ∷ []) next) last end → length last ≡ length nodes
        → width * (at + length (further t bs at)) ≤ length out → Rest t l bs out at last end after
    rest_next last end o p k fits =
        let head = further t (b ∷ []) next in
        let tail = further t (linked t l after) (next + length head) in
        let n : end ≡ next + length head = p.next_is in
        let m : next + length head + length tail ≡ at + length (further t bs at) = omega (arith, length_left, r.next_is) in
        record {
          of_level = o;
          nodes_are =
              rw (p.nodes_are, n)
              (with_append nodes next head tail (omega (arith, r.long)) ∙ ap (with_nodes nodes next) (sym left) ∙ r.nodes_are);
          next_is = rw n m;
          long = k ∙ r.long;
          later = omega (arith, r.later);
        }

    pub rest_shorter : length (linked t l after) < length (linked t l block)
    rest_shorter = omega (arith, ap (λ (bs : List ℕ). length bs) linked_here)

  pub rest_room : {bs out nodes : List ℕ} {at next : ℕ} {block : Option ℕ} (b : ℕ) → Rest t l bs out at nodes next block → block ≡ Some b
      → Room out at (length (further t bs at)) → Room nodes next (length (further t (b ∷ []) next))
  rest_room {bs} {out} {nodes} {at} {next} {block} b r e room =
      let n : length (further t (linked t l block) next) ≡ length (further t (b ∷ []) next) + length (further t (blocks_from t l (suc b)) (next + length (further t (b ∷ []) next))) =
      ap (λ (ns : List Node). length ns) (ap (λ (o : Option ℕ). further t (linked t l o) next) e ∙ further_cons t b (blocks_from t l (suc b)) next) ∙ length-append (further t (b ∷ []) next) _ in
      record { fits = omega (arith, room.fits, r.next_is, r.long); small = omega (arith, room.small, r.next_is) }
