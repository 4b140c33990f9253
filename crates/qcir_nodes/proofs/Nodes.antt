-- Laws of what is added to the table: how many words there are, what is kept, and that writers one after the other write one
-- addition.
-- Assumes nothing.
use mathlib.Core.Bool.{Bool, true, false}
use Rattle.std.specs.Prelude.{Option, Some, None}
use mathlib.Core.List.{List, []}
use mathlib.Core.Path.{◌≡◌, refl, sym, ◌∙◌, ap, subst}
use Prim.Native.Nat.{ℕ, ◌+◌, ◌-◌, ◌*◌, ◌≤◌, ◌<◌}
use native.Mathlib.Omega.{arith}
use lib.Dec.{eqb, leb}
use lib.ListN.{length, length-append}
use Rattle.lists.specs.Choice.{pick, pick_yes, pick_no}
use Rattle.lists.proofs.Overwrite.{overwrite_nil}
use Rattle.formula.specs.Node.{constant, variable, negation, operator}
use Rattle.formula.specs.Words.{width, words_of}
use Rattle.formula.specs.declared.NodeWords.{NodeWords}
use Rattle.formula.proofs.Nodes.{word_list-length}
use Rattle.acceptance.specs.Limits.{limit}
use Rattle.qcir_tokens.specs.Tokens.{is_minus, is_last, empty_role}
use Rattle.qcir_nodes.specs.declared.Progress.{Progress}
use Rattle.qcir_nodes.specs.Nodes.{
  Added,
  moved,
  with_inputs,
  add_none,
  add_node,
  and_then,
  add_name,
  add_minus,
  add_literal,
  join_table,
  add_join,
  add_input,
  empty_constant,
  add_operand,
  add_block,
  add_end,
  add_use,
  Room,
  Wrote,
}
use Rattle.qcir_nodes.proofs.Appending.{write_after}

-- The words added are those of the nodes added, and the rest is as it was.
pub record Follows (p : Progress) (a : Added) : Type 0 where
  pub counted : width * p.next + length a.words ≡ width * a.progress.next
  pub listed_kept : a.progress.listed ≡ p.listed
  pub kind_kept : a.progress.kind ≡ p.kind
  pub gate_kept : a.progress.gate ≡ p.gate
  pub first_kept : a.progress.first ≡ p.first

pub follows_node : (p : Progress) (w : NodeWords) → Follows p (add_node p w)
follows_node p w =
    record { counted = omega (arith, word_list-length w); listed_kept = refl; kind_kept = refl; gate_kept = refl; first_kept = refl }

pub follows_none : (p : Progress) → Follows p (add_none p)
follows_none p = record { counted = omega arith; listed_kept = refl; kind_kept = refl; gate_kept = refl; first_kept = refl }

follows_moved : (p : Progress) (node : ℕ) → Follows p (record { words = []; progress = moved p p.next node })
follows_moved p node = record { counted = omega arith; listed_kept = refl; kind_kept = refl; gate_kept = refl; first_kept = refl }

follows_pick : {p : Progress} {a b : Added} (t : Bool) → Follows p a → Follows p b → Follows p (pick t a b)
unfolding pick
follows_pick true f g = f
follows_pick false f g = g

pub follows_then : {p : Progress} {a : Added} {f : Progress → Added} → Follows p a → ((q : Progress) → Follows q (f q)) → Follows p (and_then a f)
unfolding and_then
follows_then {p} {a} {f} u v =
    let w = v a.progress in
    record {
      counted = simp length-append (omega arith);
      listed_kept = w.listed_kept ∙ u.listed_kept;
      kind_kept = w.kind_kept ∙ u.kind_kept;
      gate_kept = w.gate_kept ∙ u.gate_kept;
      first_kept = w.first_kept ∙ u.first_kept;
    }

pub follows_name : (p : Progress) (g x : ℕ) → Follows p (add_name p g x)
unfolding add_name
follows_name p g x = follows_pick (eqb g 0) (follows_node p (words_of (variable x))) (follows_moved p (g - 1))

pub follows_minus : (minus : Bool) (p : Progress) → Follows p (add_minus minus p)
unfolding add_minus
follows_minus minus p = follows_pick minus (follows_node p (words_of (negation p.node))) (follows_none p)

pub follows_literal : (p : Progress) (g x : ℕ) (minus : Bool) → Follows p (add_literal p g x minus)
unfolding add_literal
follows_literal p g x minus = follows_then (follows_name p g x) (follows_minus minus)

pub follows_join : (left : Option ℕ) (p : Progress) → Follows p (add_join left p)
unfolding add_join
follows_join (Some left) p =
    record { counted = omega (arith, word_list-length (words_of (operator (join_table p.kind) left p.node))); listed_kept = refl; kind_kept = refl; gate_kept = refl; first_kept = refl }
follows_join None p = record { counted = omega arith; listed_kept = refl; kind_kept = refl; gate_kept = refl; first_kept = refl }

pub follows_input : (p : Progress) (g x : ℕ) (minus : Bool) → Follows p (add_input p g x minus)
unfolding add_input
follows_input p g x minus = follows_then (follows_literal p g x minus) (follows_join p.inputs)

pub follows_operand : (p : Progress) (g role x : ℕ) → Follows p (add_operand p g role x)
unfolding add_operand
follows_operand p g role x = follows_pick (eqb role empty_role) (follows_node p _) (follows_input p g x (is_minus role))

pub follows_block : (p : Progress) → Follows p (add_block p)
unfolding add_block
follows_block p = follows_pick (leb 16 p.kind) (follows_node p _) (follows_none p)

pub follows_end : (role : ℕ) (p : Progress) → Follows p (add_end role p)
unfolding add_end
follows_end role p = follows_pick (is_last role) (follows_block p) (follows_none p)

pub follows_use : (p : Progress) (g role x : ℕ) → Follows p (add_use p g role x)
unfolding add_use
follows_use p g role x = follows_then (follows_operand p g role x) (follows_end role)

-- A choice that is made.
pub room_yes : (words : List ℕ) (t : Bool) (a b : Added) → t ≡ true → Room words (pick t a b) → Room words a
room_yes words t a b h r = subst (Room words) (pick_yes t a b h) r

pub room_no : (words : List ℕ) (t : Bool) (a b : Added) → t ≡ false → Room words (pick t a b) → Room words b
room_no words t a b h r = subst (Room words) (pick_no t a b h) r

pub wrote_yes : (o : List ℕ) (p : Progress) (t : Bool) (a b : Added) (m : List ℕ) (r : Progress) → t ≡ true → Wrote o p a m r → Wrote o p (pick t a b) m r
wrote_yes o p t a b m r h w = subst (λ c. Wrote o p c m r) (sym (pick_yes t a b h)) w

pub wrote_no : (o : List ℕ) (p : Progress) (t : Bool) (a b : Added) (m : List ℕ) (r : Progress) → t ≡ false → Wrote o p b m r → Wrote o p (pick t a b) m r
wrote_no o p t a b m r h w = subst (λ c. Wrote o p c m r) (sym (pick_no t a b h)) w

-- Nothing is written.
pub wrote_none : (o : List ℕ) (p r : Progress) → Wrote o p (record { words = []; progress = r }) o r
wrote_none o p r = record { words_are = sym (overwrite_nil o (width * p.next)); progress_is = refl }

-- An operator over the inputs is written as a node.
pub wrote_join : {o m : List ℕ} {p q : Progress} (left : ℕ) → Wrote o p (add_node p (words_of (operator (join_table p.kind) left p.node))) m q
    → Wrote o p (add_join (Some left) p) m (with_inputs q)
unfolding add_join
wrote_join left w = record { words_are = w.words_are; progress_is = ap with_inputs w.progress_is }

module _ (o : List ℕ) (a : Added) (f : Progress → Added) (follows : (q : Progress) → Follows q (f q)) (room : Room o (and_then a f)) where
  -- where there is room for both, there is for the first
  pub room_first : Room o a
  unfolding and_then
  room_first =
      let w = follows a.progress in
      record { fits = omega (arith, room.fits); small = omega (arith, room.small) }

  -- and then for the second
  pub room_second : (p q : Progress) (m : List ℕ) → Wrote o p a m q → length m ≡ length o → Room m (f q)
  unfolding and_then
  room_second p q m w e =
      subst (λ r. Room m (f r)) (sym w.progress_is) (record { fits = omega (arith, room.fits); small = room.small })

  pub wrote_then : (p q r : Progress) (m l : List ℕ) → Wrote o p a m q → Wrote m q (f q) l r → Follows p a → Wrote o p (and_then a f) l r
  unfolding and_then
  wrote_then p q r m l u v h =
      let w = follows a.progress in
      let v2 : Wrote m a.progress (f a.progress) l r = subst (λ s. Wrote m s (f s) l r) u.progress_is v in
      let e : width * a.progress.next ≡ width * p.next + length a.words = sym h.counted in
      record {
        words_are =
            write_after o m l (width * p.next) (width * a.progress.next) a.words (f a.progress).words u.words_are v2.words_are e (omega (arith, room.fits));
        progress_is = v2.progress_is;
      }

-- One more than the node that stands for what was stored last can be held in 16 bits: it is still so after what f adds.
abbrev KeepsSmall : (Progress → Added) → Type 0
KeepsSmall f = (p : Progress) → p.next ≤ limit → p.node < 65535 → (f p).progress.node < 65535

small_pick : (a b : Added) (t : Bool) → a.progress.node < 65535 → b.progress.node < 65535 → (pick t a b).progress.node < 65535
unfolding pick
small_pick a b true f g = f
small_pick a b false f g = g

small_minus : (minus : Bool) → KeepsSmall (add_minus minus)
unfolding add_minus
small_minus minus p n s = small_pick _ _ minus (omega arith) s

small_join : (left : Option ℕ) → KeepsSmall (add_join left)
unfolding add_join
small_join (Some left) p n s = omega arith
small_join None p n s = s

pub small_block : KeepsSmall add_block
unfolding add_block
small_block p n s = small_pick _ _ (leb 16 p.kind) (omega arith) s

module _ (p : Progress) (g x : ℕ) (low : g < 65536) where
  small_name : p.next ≤ limit → (add_name p g x).progress.node < 65535
  unfolding add_name
  small_name n = small_pick _ _ (eqb g 0) (omega arith) (omega arith)

  small_input : (minus : Bool) → (add_input p g x minus).progress.next ≤ limit → (add_input p g x minus).progress.node < 65535
  unfolding add_input add_literal and_then
  small_input minus n =
      let q = (add_name p g x).progress in
      let r = (add_minus minus q).progress in
      let f = follows_name p g x in
      let h = follows_minus minus q in
      let k = follows_join p.inputs r in
      small_join p.inputs r (omega arith) (small_minus minus q (omega arith) (small_name (omega arith)))

  small_operand_of : (a : Added) (t : Bool) (role : ℕ) → a.progress.node < 65535 → (pick t a (add_input p g x (is_minus role))).progress.next ≤ limit
      → (pick t a (add_input p g x (is_minus role))).progress.node < 65535
  unfolding pick
  small_operand_of a true role s n = s
  small_operand_of a false role s n = small_input (is_minus role) n

  pub small_operand : (role : ℕ) → p.next ≤ limit → (add_operand p g role x).progress.next ≤ limit → (add_operand p g role x).progress.node < 65535
  unfolding add_operand
  small_operand role m n = small_operand_of (add_node p (words_of (constant (empty_constant p.kind)))) (eqb role empty_role) role (omega arith) n

-- The gate's list starts no later than what is listed so far, still so after a writer.
pub first_le : {o m : List ℕ} {p q : Progress} {a : Added} → Wrote o p a m q → Follows p a → p.first ≤ p.listed → q.first ≤ q.listed
first_le {q = q} w f h =
    let e = ap (λ s. s.first) w.progress_is in
    let d = ap (λ s. s.listed) w.progress_is in
    omega (arith, f.first_kept, f.listed_kept)

-- One more than the node of a gate's last operand, or of the gate that is closed, can be held in 16 bits.
pub closed_small : {o m l : List ℕ} {p q r : Progress} (g role x : ℕ) → g < 65536 → Wrote o p (add_operand p g role x) m q → Wrote m q (add_block q) l r
    → Room o (add_operand p g role x) → (q.node < 65535) × (r.node < 65535)
closed_small {p = p} {q = q} {r = r} g role x low u v room =
    let f = follows_operand p g role x in
    let n : p.next ≤ limit = omega (arith, room.small) in
    let e : q.node ≡ (add_operand p g role x).progress.node = ap (λ s. s.node) u.progress_is in
    let d : q.next ≡ (add_operand p g role x).progress.next = ap (λ s. s.next) u.progress_is in
    let s = small_operand p g x low role n room.small in
    let b = small_block q (omega (arith, room.small)) (omega arith) in
    let z : r.node ≡ (add_block q).progress.node = ap (λ s. s.node) v.progress_is in
    (omega arith, omega arith)
