-- One level, all its blocks at once: the copies, and under the dual quantifier the names and the definition variables, quantified
-- around the matrix with the level's constraints, give the matrix with each definition variable at its block's true value.
-- Assumes nothing.
use mathlib.Core.Path.{◌≡◌, refl, sym, ◌∙◌, ap}
use mathlib.Core.Bool.{Bool, true, false, not, ◌&&◌, beq}
use mathlib.Core.List.{List, [], ◌∷◌, ◌++◌, flat_map}
use Prim.Native.Nat.{ℕ, zero, suc, ◌<◌}
use native.Mathlib.Omega.{arith}
use native.Mathlib.Nat.{not-suc-le-zero}
use lib.Dec.{eqb}
use lib.ListN.{length, get_or}
use borrow.Author.Tests.{eqb-true, eq-eqb, ne_eqb}
use Rattle.lists.specs.Choice.{pick, pick_yes, pick_no, Is, is_true, is_false, look, clash, and_left, and_right, and_both, absent}
use Rattle.lists.specs.Members.{mem, all, place}
use Rattle.lists.proofs.Members.{mem_left, mem_right, mem_neither, mem_one, mem_head, mem-get_or, place_lt, get_or-place, all_mem, all_intro, mem_flat_map, mem_flat_map_from}
use Rattle.formula.specs.Node.{Quantifier, exists, for_all, dual}
use Rattle.formula.specs.Valuation.{Valuation, quant}
use Rattle.formula.specs.Meaning.{DiffersAtMostAt}
use Rattle.formula.proofs.Quantify.{Inside, decides, decides_dual, quant_reach, quant_attain, quant_same}
use Rattle.prenex_form.proofs.Cut.{agree, guarded, holds, joined}

-- The blocks of a level, and of each its quantifier, its names, their copies, its definition variable and the value of its
-- body. `definer` takes a definition variable back to its block.
pub record Blocks : Type 0 where
  pub members : List ℕ
  pub kind : ℕ → Quantifier
  pub names : ℕ → List ℕ
  pub copies : ℕ → List ℕ
  pub definition : ℕ → ℕ
  pub body : ℕ → Valuation → Bool
  pub definer : ℕ → ℕ

abbrev pub Member : Blocks → ℕ → Type 0
Member b i = mem i b.members ≡ true

-- z is no name of the level; no definition variable
abbrev pub NoName : Blocks → ℕ → Type 0
NoName b z = (j : ℕ) → Member b j → mem z (b.names j) ≡ true → ⊥

abbrev pub NoDefinition : Blocks → ℕ → Type 0
NoDefinition b z = (j : ℕ) → Member b j → z ≡ b.definition j → ⊥

-- z is no name and no copy of the level
pub record Unbound (b : Blocks) (z : ℕ) : Type 0 where
  pub no_name : NoName b z
  pub no_copy : (j : ℕ) → Member b j → mem z (b.copies j) ≡ true → ⊥

-- and no definition variable of the level either
pub record Untouched (b : Blocks) (z : ℕ) : Type 0 where
  pub unbound : Unbound b z
  pub no_definition : NoDefinition b z

-- v and u are equal at what the level leaves untouched
abbrev pub Alike : Blocks → Valuation → Valuation → Type 0
Alike b v u = (z : ℕ) → Untouched b z → v z ≡ u z

-- What the level's lemma asks of names and bodies. A copy tells the name it stands for, and a name its block; names, copies and
-- definition variables are apart; a body looks at its own block's names and at what the level leaves untouched.
pub record Separate (b : Blocks) : Type 0 where
  pub copy : ℕ → ℕ
  pub original : ℕ → ℕ
  pub binder : ℕ → ℕ
  pub original_copy : (x : ℕ) → original (copy x) ≡ x
  pub same_length : (i : ℕ) → Member b i → length (b.names i) ≡ length (b.copies i)
  pub copies_are : (i k : ℕ) → Member b i → k < length (b.names i) → get_or (b.copies i) k 0 ≡ copy (get_or (b.names i) k 0)
  pub binder_is : (i x : ℕ) → Member b i → mem x (b.names i) ≡ true → binder x ≡ i
  pub definer_is : (i : ℕ) → Member b i → b.definer (b.definition i) ≡ i
  pub names_copies : (i j x : ℕ) → Member b i → Member b j → mem x (b.names i) ≡ true → mem x (b.copies j) ≡ true → ⊥
  pub names_definitions : (i j : ℕ) → Member b i → Member b j → mem (b.definition j) (b.names i) ≡ true → ⊥
  pub copies_definitions : (i j : ℕ) → Member b i → Member b j → mem (b.definition j) (b.copies i) ≡ true → ⊥
  pub body_blind : (i : ℕ) → Member b i → (v u : Valuation) → Alike b v u → Inside (b.names i) v u → b.body i v ≡ b.body i u

-- the matrix looks at no name and no copy of the level
abbrev pub Blind : Blocks → (Valuation → Bool) → Type 0
Blind b β = (v u : Valuation) → ((z : ℕ) → Unbound b z → v z ≡ u z) → β v ≡ β u

-- the true value of block i
abbrev pub truth : Blocks → ℕ → Valuation → Bool
truth b i v = quant (b.kind i) (b.names i) (b.body i) v

-- z is a definition variable of the level
unfoldable pub is_definition : Blocks → ℕ → Bool
is_definition b z = mem (b.definer z) b.members && eqb z (b.definition (b.definer z))

-- v with each definition variable of the level at its block's true value
unfoldable pub settled : Blocks → Valuation → Valuation
settled b v z = pick (is_definition b z) (truth b (b.definer z) v) (v z)

-- the names of block i and its definition variable
abbrev pub lifted : Blocks → ℕ → List ℕ
lifted b i = b.names i ++ (b.definition i ∷ [])

-- the level's constraint
abbrev pub constraint : Blocks → Valuation → Bool
constraint b w = all (λ i. holds (b.kind i) (b.names i) (b.copies i) (b.definition i) (b.body i) w) b.members

beq_true : (a c : Bool) → beq a c ≡ true → a ≡ c
beq_true true true h = refl
beq_true true false h = sym h
beq_true false true h = h
beq_true false false h = refl

beq_false : (a c : Bool) → beq a c ≡ false → a ≡ not c
beq_false true true h = h
beq_false true false h = refl
beq_false false true h = refl
beq_false false false h = sym h

eq_beq : (a c : Bool) → a ≡ c → beq a c ≡ true
eq_beq true true h = refl
eq_beq true false h = sym h
eq_beq false true h = h
eq_beq false false h = refl

-- t has not the deciding value, and f has it only if t does: both have the other one
undecided : (q : Quantifier) (t f : Bool) → beq t (decides q) ≡ false → (f ≡ decides q → t ≡ decides q) → Is (beq f (decides q)) → t ≡ f
undecided q t f d h (is_true e) = clash (eq_beq t (decides q) (h (beq_true f (decides q) e))) d
undecided q t f d h (is_false e) = beq_false t (decides q) d ∙ sym (beq_false f (decides q) e)

-- the guard, where the definition variable has the deciding value, and where it has the other
guard_decided : (q : Quantifier) (m e : Bool) → m ≡ decides q → guarded q m e ≡ true
unfolding guarded decides
guard_decided exists m e h = rw h
guard_decided for_all m e h = rw h

guard_agree : (q : Quantifier) (m e : Bool) → e ≡ true → guarded q m e ≡ true
unfolding guarded
guard_agree exists true e h = refl
guard_agree exists false e h = h
guard_agree for_all true e h = h
guard_agree for_all false e h = refl

guard_other : (q : Quantifier) (m e : Bool) → m ≡ not (decides q) → guarded q m e ≡ true → e ≡ true
unfolding guarded decides
guard_other exists m e h g = rw h at g
guard_other for_all m e h g = rw h at g

joined_true : (k : Quantifier) (m c : Bool) → c ≡ true → joined k m c ≡ m
unfolding joined
joined_true exists m c h = rw h
joined_true for_all true c h = h
joined_true for_all false c h = refl

joined_false : (k : Quantifier) (m c : Bool) → c ≡ false → joined k m c ≡ decides k
unfolding joined decides
joined_false exists m c h = rw h
joined_false for_all true c h = h
joined_false for_all false c h = refl

agree_true : (v : Valuation) (xs ys : List ℕ) → length xs ≡ length ys → ((k : ℕ) → k < length xs → v (get_or xs k 0) ≡ v (get_or ys k 0)) → agree v xs ys ≡ true
unfolding agree
agree_true v [] ys l h = refl
agree_true v (x ∷ xs) [] l h = refl
agree_true v (x ∷ xs) (y ∷ ys) l h =
    and_both _ _ (eq_beq (v x) (v y) (h 0 (omega arith))) (agree_true v xs ys (omega arith) (λ k m. h (suc k) (omega arith)))

agree_at : (v : Valuation) (xs ys : List ℕ) → length xs ≡ length ys → agree v xs ys ≡ true → (k : ℕ) → k < length xs → v (get_or xs k 0) ≡ v (get_or ys k 0)
unfolding agree
agree_at v [] ys l h k m = absurd (not-suc-le-zero m)
agree_at v (x ∷ xs) [] l h k m = absurd (omega arith)
agree_at v (x ∷ xs) (y ∷ ys) l h zero m = beq_true (v x) (v y) (and_left (beq (v x) (v y)) (agree v xs ys) h)
agree_at v (x ∷ xs) (y ∷ ys) l h (suc k) m = agree_at v xs ys (omega arith) (and_right (beq (v x) (v y)) (agree v xs ys) h) k (omega arith)

not_in : (g : ℕ → List ℕ) (z : ℕ) (is : List ℕ) → ((j : ℕ) → mem j is ≡ true → mem z (g j) ≡ true → ⊥) → mem z (flat_map g is) ≡ false
not_in g z is h = absent _ (λ m. let r = mem_flat_map_from g z is m in h r.0 r.1 r.2)

module _ (b : Blocks) (s : Separate b) where
  -- definition variables
  is_definition-definition : (i : ℕ) → Member b i → is_definition b (b.definition i) ≡ true
  unfolding is_definition
  is_definition-definition i m = rw (s.definer_is i m) (and_both _ _ m (eq-eqb (b.definition i) (b.definition i) refl))

  is_definition-member : (z : ℕ) → is_definition b z ≡ true → Member b (b.definer z)
  unfolding is_definition
  is_definition-member z e = and_left _ (eqb z (b.definition (b.definer z))) e

  is_definition_is : (z : ℕ) → is_definition b z ≡ true → z ≡ b.definition (b.definer z)
  unfolding is_definition
  is_definition_is z e = eqb-true _ _ (and_right (mem (b.definer z) b.members) _ e)

  is_definition_no : (z : ℕ) → NoDefinition b z → is_definition b z ≡ false
  is_definition_no z h = absent _ (λ e. h (b.definer z) (is_definition-member z e) (is_definition_is z e))

  no_is_definition : (z : ℕ) → is_definition b z ≡ false → NoDefinition b z
  no_is_definition z h j m e = clash (is_definition-definition j m) (rw e at h)

  pub settled_definition : (v : Valuation) (i : ℕ) → Member b i → settled b v (b.definition i) ≡ truth b i v
  unfolding settled
  settled_definition v i m = pick_yes _ _ _ (is_definition-definition i m) ∙ ap (λ j. truth b j v) (s.definer_is i m)

  pub settled_other : (v : Valuation) (z : ℕ) → NoDefinition b z → settled b v z ≡ v z
  unfolding settled
  settled_other v z h = pick_no _ _ _ (is_definition_no z h)

  -- what is neither a name nor a definition variable
  not_lifted : (z : ℕ) → NoName b z → NoDefinition b z → mem z (flat_map (lifted b) b.members) ≡ false
  not_lifted z n d = not_in (lifted b) z b.members
      (λ j m h. clash h (mem_neither z (b.names j) (b.definition j ∷ []) (absent _ (n j m)) (mem_one z (b.definition j) ∙ ne_eqb z (b.definition j) (d j m))))

  -- names and copies
  copy_member : (i x : ℕ) → Member b i → mem x (b.names i) ≡ true → mem (s.copy x) (b.copies i) ≡ true
  copy_member i x m h =
      let l = place_lt x (b.names i) h in
      let e = s.same_length i m in
      let c : get_or (b.copies i) (place x (b.names i)) 0 ≡ s.copy x = s.copies_are i _ m l ∙ ap s.copy (get_or-place x (b.names i) 0 h) in
      rw c at (mem-get_or (b.copies i) (place x (b.names i)) 0 (omega arith))

  copy_no_name : (i x : ℕ) → Member b i → mem x (b.names i) ≡ true → NoName b (s.copy x)
  copy_no_name i x m h j n k = s.names_copies j i (s.copy x) n m k (copy_member i x m h)

  copy_no_definition : (i x : ℕ) → Member b i → mem x (b.names i) ≡ true → NoDefinition b (s.copy x)
  copy_no_definition i x m h j n e = s.copies_definitions i j m n (rw e at (copy_member i x m h))

  name_no_definition : (i x : ℕ) → Member b i → mem x (b.names i) ≡ true → NoDefinition b x
  name_no_definition i x m h j n e = s.names_definitions i j m n (rw e at h)

  agree_from : (w : Valuation) (i : ℕ) → Member b i → ((x : ℕ) → mem x (b.names i) ≡ true → w x ≡ w (s.copy x)) → agree w (b.names i) (b.copies i) ≡ true
  agree_from w i m h = agree_true w (b.names i) (b.copies i) (s.same_length i m)
      (λ k l. h _ (mem-get_or (b.names i) k 0 l) ∙ ap w (sym (s.copies_are i k m l)))

  agree_to : (w : Valuation) (i : ℕ) → Member b i → agree w (b.names i) (b.copies i) ≡ true → (x : ℕ) → mem x (b.names i) ≡ true → w x ≡ w (s.copy x)
  agree_to w i m h x n =
      let l = place_lt x (b.names i) n in
      let e : w (get_or (b.names i) (place x (b.names i)) 0) ≡ w (s.copy (get_or (b.names i) (place x (b.names i)) 0)) =
      agree_at w (b.names i) (b.copies i) (s.same_length i m) h _ l ∙ ap w (s.copies_are i _ m l) in
      rw (get_or-place x (b.names i) 0 n) at e

  -- the true value of a block depends only on what the level leaves untouched
  truth_same : (i : ℕ) → Member b i → (v u : Valuation) → Alike b v u → truth b i v ≡ truth b i u
  truth_same i m v u h = quant_same (b.kind i) (b.names i) (b.body i) (b.body i) v u
      (λ v' u' same ov ou. s.body_blind i m v' u'
      (λ z t. let n = absent _ (t.unbound.no_name i m) in ov z n ∙ h z t ∙ sym (ou z n)) same)

  -- a valuation that attains it
  attained : ℕ → Valuation → Valuation
  attained i v = (quant_attain (b.kind i) (b.names i) (b.body i) v).0

  attained_truth : (i : ℕ) → Member b i → (v w : Valuation) → Alike b v w → Inside (b.names i) w (attained i v) → b.body i w ≡ truth b i v
  unfolding attained
  attained_truth i m v w h same =
      let r = quant_attain (b.kind i) (b.names i) (b.body i) v in
      s.body_blind i m w r.0 (λ z t. sym (h z t) ∙ r.1 z (absent _ (t.unbound.no_name i m))) same ∙ sym r.2

  -- a body with the deciding value decides its block
  decided : (i : ℕ) → Member b i → (v w : Valuation) → Alike b v w → b.body i w ≡ decides (b.kind i) → truth b i v ≡ decides (b.kind i)
  decided i m v w h e = truth_same i m v w h ∙ quant_reach (b.kind i) (b.names i) (b.body i) w w (λ y n. refl) e

  -- the matrix sees of the level only its definition variables
  settled_at : (v w : Valuation) → Alike b v w → ((i : ℕ) → Member b i → w (b.definition i) ≡ truth b i v) → (z : ℕ) → Unbound b z → Is (is_definition b z) → w z ≡ settled b v z
  settled_at v w h definitions z n (is_true e) =
      let m = is_definition-member z e in
      ap w (is_definition_is z e) ∙ definitions (b.definer z) m ∙ sym (settled_definition v (b.definer z) m) ∙ ap (settled b v) (sym (is_definition_is z e))
  settled_at v w h definitions z n (is_false e) =
      let d = no_is_definition z e in sym (h z (record { unbound = n; no_definition = d })) ∙ sym (settled_other v z d)

  matrix_settled : (β : Valuation → Bool) → Blind b β → (v w : Valuation) → Alike b v w → ((i : ℕ) → Member b i → w (b.definition i) ≡ truth b i v) → β w ≡ β (settled b v)
  matrix_settled β blind v w h definitions = blind w (settled b v) (λ z n. settled_at v w h definitions z n (look (is_definition b z)))

  -- v with the copies of each block at what attains its true value
  spread : Valuation → Valuation
  spread v y = pick (mem y (flat_map b.copies b.members)) (attained (s.binder (s.original y)) v (s.original y)) (v y)

  spread_copy : (v : Valuation) (i x : ℕ) → Member b i → mem x (b.names i) ≡ true → spread v (s.copy x) ≡ attained i v x
  unfolding spread
  spread_copy v i x m h =
      pick_yes _ _ _ (mem_flat_map b.copies (s.copy x) i b.members m (copy_member i x m h))
      ∙ ap (λ y. attained (s.binder y) v y) (s.original_copy x)
      ∙ ap (λ j. attained j v x) (s.binder_is i x m h)

  spread_outside : (v : Valuation) → DiffersAtMostAt (flat_map b.copies b.members) v (spread v)
  unfolding spread
  spread_outside v y n = sym (pick_no _ _ _ n)

  module _ (v w : Valuation) (out : DiffersAtMostAt (flat_map (lifted b) b.members) (spread v) w) where
    -- under the constraint every definition variable then has its block's true value
    spread_untouched : Alike b v w
    spread_untouched z t =
        spread_outside v z (not_in b.copies z b.members t.unbound.no_copy) ∙ out z (not_lifted z t.unbound.no_name t.no_definition)

    spread_name : (i : ℕ) → Member b i → agree w (b.names i) (b.copies i) ≡ true → Inside (b.names i) w (attained i v)
    spread_name i m a x h =
        agree_to w i m a x h ∙ sym (out (s.copy x) (not_lifted (s.copy x) (copy_no_name i x m h) (copy_no_definition i x m h))) ∙ spread_copy v i x m h

    spread_definition : (i : ℕ) → Member b i → beq (w (b.definition i)) (b.body i w) ≡ true → guarded (b.kind i) (w (b.definition i)) (agree w (b.names i) (b.copies i)) ≡ true
        → Is (beq (w (b.definition i)) (decides (b.kind i))) → w (b.definition i) ≡ truth b i v
    spread_definition i m e g (is_true d) =
        let f = beq_true _ _ d in f ∙ sym (decided i m v w spread_untouched (sym (beq_true _ _ e) ∙ f))
    spread_definition i m e g (is_false d) =
        beq_true _ _ e ∙ attained_truth i m v w spread_untouched (spread_name i m (guard_other _ _ _ (beq_false _ _ d) g))

    spread_definitions : constraint b w ≡ true → (i : ℕ) → Member b i → w (b.definition i) ≡ truth b i v
    unfolding holds
    spread_definitions c i m =
        let h = all_mem _ b.members i c m in
        spread_definition i m (and_left _ _ h) (and_right (beq (w (b.definition i)) (b.body i w)) _ h) (look (beq (w (b.definition i)) (decides (b.kind i))))

  -- u with every definition variable at its block's true value, and the names of each block at what attains it if that value is the
  -- deciding one, at the copies' values if not
  on_name : Valuation → ℕ → Valuation
  on_name u i x = pick (beq (truth b i u) (decides (b.kind i))) (attained i u x) (u (s.copy x))

  chosen : Valuation → Valuation
  chosen u z = pick (is_definition b z) (truth b (b.definer z) u) (pick (mem z (flat_map b.names b.members)) (on_name u (s.binder z) z) (u z))

  chosen_definition : (u : Valuation) (i : ℕ) → Member b i → chosen u (b.definition i) ≡ truth b i u
  unfolding chosen
  chosen_definition u i m = pick_yes _ _ _ (is_definition-definition i m) ∙ ap (λ j. truth b j u) (s.definer_is i m)

  chosen_name : (u : Valuation) (i x : ℕ) → Member b i → mem x (b.names i) ≡ true → chosen u x ≡ on_name u i x
  unfolding chosen
  chosen_name u i x m h =
      pick_no _ _ _ (is_definition_no x (name_no_definition i x m h))
      ∙ pick_yes _ _ _ (mem_flat_map b.names x i b.members m h)
      ∙ ap (λ j. on_name u j x) (s.binder_is i x m h)

  chosen_other : (u : Valuation) (z : ℕ) → NoName b z → NoDefinition b z → u z ≡ chosen u z
  unfolding chosen
  chosen_other u z n d = sym (pick_no _ _ _ (is_definition_no z d) ∙ pick_no _ _ _ (not_in b.names z b.members n))

  chosen_outside : (u : Valuation) → DiffersAtMostAt (flat_map (lifted b) b.members) u (chosen u)
  chosen_outside u z h = chosen_other u z
      (λ j m n. clash (mem_flat_map (lifted b) z j b.members m (mem_left z (b.names j) (b.definition j ∷ []) n)) h)
      (λ j m e. clash (mem_flat_map (lifted b) z j b.members m (mem_right z (b.names j) (b.definition j ∷ []) (rw e (mem_head (b.definition j) [])))) h)

  chosen_untouched : (u : Valuation) → Alike b u (chosen u)
  chosen_untouched u z t = chosen_other u z t.unbound.no_name t.no_definition

  chosen_decided : (u : Valuation) (i : ℕ) → Member b i → beq (truth b i u) (decides (b.kind i)) ≡ true → Inside (b.names i) (chosen u) (attained i u)
  unfolding on_name
  chosen_decided u i m d x h = chosen_name u i x m h ∙ pick_yes _ _ _ d

  chosen_agree : (u : Valuation) (i : ℕ) → Member b i → beq (truth b i u) (decides (b.kind i)) ≡ false → agree (chosen u) (b.names i) (b.copies i) ≡ true
  unfolding on_name
  chosen_agree u i m d = agree_from (chosen u) i m
      (λ x h. chosen_name u i x m h ∙ pick_no _ _ _ d ∙ chosen_other u (s.copy x) (copy_no_name i x m h) (copy_no_definition i x m h))

  chosen_holds : (u : Valuation) (i : ℕ) → Member b i → Is (beq (truth b i u) (decides (b.kind i)))
      → (beq (truth b i u) (b.body i (chosen u)) && guarded (b.kind i) (truth b i u) (agree (chosen u) (b.names i) (b.copies i))) ≡ true
  chosen_holds u i m (is_true d) = and_both _ _
      (eq_beq _ _ (sym (attained_truth i m u (chosen u) (chosen_untouched u) (chosen_decided u i m d))))
      (guard_decided _ _ _ (beq_true _ _ d))
  chosen_holds u i m (is_false d) = and_both _ _
      (eq_beq _ _ (undecided (b.kind i) _ _ d (decided i m u (chosen u) (chosen_untouched u)) (look (beq (b.body i (chosen u)) (decides (b.kind i))))))
      (guard_agree _ _ _ (chosen_agree u i m d))

  chosen_constraint : (u : Valuation) → constraint b (chosen u) ≡ true
  unfolding holds
  chosen_constraint u = all_intro _ b.members
      (λ i m. rw (chosen_definition u i m) (chosen_holds u i m (look (beq (truth b i u) (decides (b.kind i))))))

  module _ (k : Quantifier) (β : Valuation → Bool) (blind : Blind b β) where
    -- the matrix with the level's constraint, under the dual quantifier over names and definition variables
    inside : Valuation → Bool
    inside = quant (dual k) (flat_map (lifted b) b.members) (λ w. joined k (β w) (constraint b w))

    spread_joined : (v w : Valuation) → DiffersAtMostAt (flat_map (lifted b) b.members) (spread v) w → β (settled b v) ≡ decides k → Is (constraint b w) → joined k (β w) (constraint b w) ≡ decides k
    spread_joined v w out e (is_true c) =
        joined_true k (β w) _ c ∙ matrix_settled β blind v w (spread_untouched v w out) (spread_definitions v w out c) ∙ e
    spread_joined v w out e (is_false c) = joined_false k (β w) _ c

    level_decided : (v : Valuation) → β (settled b v) ≡ decides k → quant k (flat_map b.copies b.members) inside v ≡ decides k
    unfolding inside
    level_decided v e =
        let r = quant_attain (dual k) (flat_map (lifted b) b.members) (λ w. joined k (β w) (constraint b w)) (spread v) in
        quant_reach k (flat_map b.copies b.members) inside v (spread v) (spread_outside v)
        (r.2 ∙ spread_joined v r.0 r.1 e (look (constraint b r.0)))

    level_other : (v : Valuation) → β (settled b v) ≡ not (decides k) → quant k (flat_map b.copies b.members) inside v ≡ not (decides k)
    unfolding inside
    level_other v e =
        let r = quant_attain k (flat_map b.copies b.members) inside v in
        let u = r.0 in
        let h : Alike b v u = λ z t. r.1 z (not_in b.copies z b.members t.unbound.no_copy) in
        let same : β (chosen u) ≡ β (settled b v) =
        matrix_settled β blind v (chosen u) (λ z t. h z t ∙ chosen_untouched u z t) (λ i m. chosen_definition u i m ∙ sym (truth_same i m v u h)) in
        r.2
        ∙ quant_reach (dual k) (flat_map (lifted b) b.members) _ u (chosen u) (chosen_outside u)
        (joined_true k (β (chosen u)) _ (chosen_constraint u) ∙ same ∙ e ∙ sym (decides_dual k))
        ∙ decides_dual k

    level_from : (v : Valuation) → Is (beq (β (settled b v)) (decides k)) → quant k (flat_map b.copies b.members) inside v ≡ β (settled b v)
    level_from v (is_true e) = let d = beq_true _ _ e in level_decided v d ∙ sym d
    level_from v (is_false e) = let d = beq_false _ _ e in level_other v d ∙ sym d

    -- the lemma of one level, for either quantifier k
    pub level_truth : (v : Valuation)
        → quant k (flat_map b.copies b.members) (quant (dual k) (flat_map (lifted b) b.members) (λ w. joined k (β w) (constraint b w))) v ≡ β (settled b v)
    unfolding inside
    level_truth v = level_from v (look (beq (β (settled b v)) (decides k)))
