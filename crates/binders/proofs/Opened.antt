-- The chains of entries as the scope changes, and as entries are put before them and taken away.
-- Assumes nothing.
use mathlib.Core.Path.{◌≡◌, sym, ◌∙◌, ap, subst}
use mathlib.Core.Bool.{Bool, true, false, ◌&&◌, and_assoc, and-false}
use mathlib.Core.List.{List}
use Prim.Native.Nat.{ℕ, suc, ◌≤◌, ◌<◌}
use native.Mathlib.Omega.{arith}
use lib.Dec.{eqb, leb}
use lib.ListN.{length, get_or, set, length-set}
use borrow.Author.Tests.{leb-true, le-leb, eq-eqb, ne_eqb}
use Rattle.lists.specs.Choice.{and_left, and_right, and_both}
use Rattle.lists.proofs.Search.{lowest_cong}
use Rattle.lists.proofs.Stores.{set_cases, set_all}
use Rattle.formula.specs.Node.{Table}
use Rattle.acceptance.specs.Limits.{limit}
use Rattle.prenex_form.specs.Names.{highest_number, bound_count}
use Rattle.arrays.specs.Link.{link}
use Rattle.arrays.specs.Held.{entries}
use Rattle.arrays.proofs.Link.{link_here, link_skip, link_cong}
use Rattle.binders.specs.Scope.{in_scope, in_chain, Open}

-- links to what passes two tests alike
link_same : (p q : ℕ → Bool) (i k n : ℕ) → ((j : ℕ) → j < n → (leb i j && p j) ≡ (leb k j && q j)) → link p i n ≡ link q k n
unfolding link
link_same p q i k n h = rw (lowest_cong (λ j. leb i j && p j) (λ j. leb k j && q j) n h)

-- what holds of v at entry e, and of each other entry's element, holds of all entries after the store
entry_cases : (xs : List ℕ) (e v : ℕ) → suc e < length xs → (P : ℕ → ℕ → Type 0) → P e v → ((k : ℕ) → (k ≡ e → ⊥) → P k (get_or xs (suc k) 0))
    → (k : ℕ) → P k (get_or (set xs (suc e) v) (suc k) 0)
entry_cases xs e v h P f g k =
    set_cases xs (suc e) v 0 h (λ w. P k w) (suc k) (λ q. subst (λ j. P j v) (omega arith) f) (λ n. g k (λ r. n (omega arith)))

module _ (t : Table) where
  -- where the entries from k on in b's scope are those from l on in c's
  module _ (b k c l : ℕ) (same : (e : ℕ) → e < bound_count t → (leb k e && in_scope t b e) ≡ (leb l e && in_scope t c e)) where
    chain_same : (h e : ℕ) → e < bound_count t → (leb k e && in_chain t b h e) ≡ (leb l e && in_chain t c h e)
    chain_same h e m =
        let r : Bool = eqb (get_or (entries t) e 0) h in
        sym (and_assoc (leb k e) (in_scope t b e) r) ∙ ap (λ s. s && r) (same e m) ∙ and_assoc (leb l e) (in_scope t c e) r

    both : (e : ℕ) → e < bound_count t → l ≤ e → in_scope t c e ≡ true → (leb k e && in_scope t b e) ≡ true
    both e m f s = same e m ∙ and_both (leb l e) (in_scope t c e) (le-leb l e f) s

    was_from : (e : ℕ) → e < bound_count t → l ≤ e → in_scope t c e ≡ true → k ≤ e
    was_from e m f s = leb-true k e (and_left (leb k e) (in_scope t b e) (both e m f s))

    was_in : (e : ℕ) → e < bound_count t → l ≤ e → in_scope t c e ≡ true → in_scope t b e ≡ true
    was_in e m f s = and_right (leb k e) (in_scope t b e) (both e m f s)

    -- after an entry of the one scope, both have the same
    later : (e : ℕ) → k ≤ e → l ≤ e → e < bound_count t → in_scope t b e ≡ in_scope t c e
    later e f g m = rw (le-leb k e f, le-leb l e g) at (same e m)

    pub open_moved : {heads nexts : List ℕ} → Open t b k heads nexts → Open t c l heads nexts
    open_moved o =
        record {
          heads_wide = o.heads_wide;
          nexts_length = o.nexts_length;
          head_is = λ h r. o.head_is h r ∙ link_same (in_chain t b h) (in_chain t c h) k l (bound_count t) (chain_same h);
          next_is = λ e f m s.
              let w = was_from e m f s in
              let r : ℕ = get_or (entries t) e 0 in
              o.next_is e w m (was_in e m f s)
              ∙ link_cong (in_chain t b r) (in_chain t c r) (suc e) (bound_count t)
              (λ j g n. ap (λ s. s && eqb (get_or (entries t) j 0) r) (later j (omega arith) (omega arith) n));
        }

  -- entry e of b's scope, with the number x
  module _ (b e x : ℕ) (few : bound_count t ≤ limit) (known : x ≤ highest_number t) (below : e < bound_count t) (inside : in_scope t b e ≡ true) (number : get_or (entries t) e 0 ≡ x) where
    chained : in_chain t b x e ≡ true
    chained = and_both (in_scope t b e) _ inside (eq-eqb _ _ number)

    apart : (h : ℕ) → (h ≡ x → ⊥) → in_chain t b h e ≡ false
    apart h n = rw (ne_eqb (get_or (entries t) e 0) h (λ q. n (sym q ∙ number))) (and-false (in_scope t b e))

    module _ {heads nexts : List ℕ} where
      has_head : {k : ℕ} → Open t b k heads nexts → x < length heads
      has_head o = omega (arith, o.heads_wide)

      -- it goes before the later entries
      pub open_put : Open t b (suc e) heads nexts → Open t b e (set heads x (suc e)) (set nexts (suc e) (get_or heads x 0))
      open_put o =
          record {
            heads_wide = omega (arith, o.heads_wide, length-set heads x (suc e));
            nexts_length = length-set nexts (suc e) (get_or heads x 0) ∙ o.nexts_length;
            head_is = λ h r.
                set_all heads x (suc e) 0 (has_head o)
                (λ h w. h < length heads → w ≡ link (in_chain t b h) e (bound_count t))
                (λ _. sym (link_here (in_chain t b x) e (bound_count t) below chained))
                (λ h n r. o.head_is h r ∙ sym (link_skip (in_chain t b h) e (bound_count t) (apart h n)))
                h (omega (arith, length-set heads x (suc e)));
            next_is =
                entry_cases nexts e (get_or heads x 0) (omega (arith, o.nexts_length))
                (λ k w. e ≤ k → k < bound_count t → in_scope t b k ≡ true → w ≡ link (in_chain t b (get_or (entries t) k 0)) (suc k) (bound_count t))
                (λ _ _ _. o.head_is x (has_head o) ∙ rw number)
                (λ k n p q s. o.next_is k (omega arith) q s);
          }

      -- and from before them
      pub open_take : Open t b e heads nexts → Open t b (suc e) (set heads x (get_or nexts (suc e) 0)) nexts
      open_take o =
          record {
            heads_wide = omega (arith, o.heads_wide, length-set heads x (get_or nexts (suc e) 0));
            nexts_length = o.nexts_length;
            head_is = λ h r.
                set_all heads x (get_or nexts (suc e) 0) 0 (has_head o)
                (λ h w. h < length heads → w ≡ link (in_chain t b h) (suc e) (bound_count t))
                (λ _. o.next_is e (omega arith) below inside ∙ rw number)
                (λ h n r. o.head_is h r ∙ link_skip (in_chain t b h) e (bound_count t) (apart h n))
                h (omega (arith, length-set heads x (get_or nexts (suc e) 0)));
            next_is = λ k p q s. o.next_is k (omega arith) q s;
          }
