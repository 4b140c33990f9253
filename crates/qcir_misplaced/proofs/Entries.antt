-- Tokens of a list of names: what the pass finds among them, and what it has marked after them.
-- Assumes nothing.
use mathlib.Core.Path.{◌≡◌, refl, sym, ◌∙◌, ap, subst}
use mathlib.Core.Logic.{◌↔◌}
use mathlib.Core.Bool.{true, false, not, ◌&&◌, ◌||◌}
use mathlib.Core.List.{List, [], ◌∷◌, ◌++◌}
use Prim.Native.Nat.{ℕ, suc, ◌≤◌, ◌<◌}
use native.Mathlib.Omega.{arith}
use lib.Dec.{eqb, leb}
use borrow.Author.Tests.{eq-eqb, leb-true, not-true}
use Rattle.lists.specs.Choice.{pick, pick_yes, pick_no, Is, is_true, is_false, look, clash, or_left, or_right, or_cases, and_left, and_right, and_both, and_off_left}
use Rattle.lists.specs.Members.{mem}
use Rattle.qcir.specs.File.{Name}
use Rattle.qcir.specs.Refusals.{repeated, naming_gates, without}
use Rattle.qcir_tokens.specs.Tokens.{Token, token, empty_role, is_outer, is_bound, is_definition, is_input, definition_from, ascending}
use Rattle.qcir_misplaced.specs.Faults.{is_entry, mark, faults}
use Rattle.qcir_misplaced.proofs.Above.{Above, none, above_pick, above_step}
use Rattle.qcir_misplaced.proofs.Turn.{entry_defines_none, faults_entry, faults_other, faults_passed}

-- The roles of entries and of inputs.
pub record EntryRole (r : ℕ) : Type 0 where
  pub entry : is_entry r ≡ true
  pub no_empty : eqb r empty_role ≡ false

pub record InputRole (r : ℕ) : Type 0 where
  pub no_entry : is_entry r ≡ false
  pub no_definition : is_definition r ≡ false
  pub input : is_input r ≡ true
  pub no_empty : eqb r empty_role ≡ false

-- they define nothing
pub entry_defines : (r : ℕ) → EntryRole r → is_definition r ≡ false
entry_defines r p = entry_defines_none r p.entry

pub input_defines : (r : ℕ) → InputRole r → is_definition r ≡ false
input_defines r p = p.no_definition

-- The tokens are those of the names, with roles of this sort, but for ends of gates without inputs.
pub data Entries (P : ℕ → Type 0) : List Token → List Name → Type 0 where
  nothing : Entries P [] []
  one : (t : Token) {ts : List Token} {xs : List Name} → P t.role → Entries P ts xs → Entries P (t ∷ ts) (t.name ∷ xs)
  passed : (x : Name) {ts : List Token} {xs : List Name} → Entries P ts xs → Entries P (token empty_role x ∷ ts) xs

pub entries_append : {P : ℕ → Type 0} {ts us : List Token} {xs ys : List Name} → Entries P ts xs → Entries P us ys → Entries P (ts ++ us) (xs ++ ys)
entries_append nothing f = f
entries_append (one t p e) f = one t p (entries_append e f)
entries_append (passed x e) f = passed x (entries_append e f)

-- the index after the tokens
unfoldable pub past : List Token → ℕ → ℕ
past [] i = i
past (t ∷ ts) i = past ts (suc i)

pub past_le : (ts : List Token) (i : ℕ) → i ≤ past ts i
unfolding past
past_le [] i = omega arith
past_le (t ∷ ts) i = let h : suc i ≤ past ts (suc i) = past_le ts (suc i) in omega arith

-- the end of a gate without inputs is passed
passed_by : (gates lists : ℕ → ℕ) (line i : ℕ) (x : Name) (ts : List Token)
    → faults gates lists line i (token empty_role x ∷ ts) ≡ faults gates lists line (suc i) ts
unfolding token is_entry is_outer is_bound is_definition is_input
passed_by gates lists line i x ts = faults_passed gates lists line i (record { role = 24; name = x }) ts refl refl refl

-- the last list of each number once list v holds the names
unfoldable pub marked : ℕ → List Name → (ℕ → ℕ) → ℕ → ℕ
marked v [] lists = lists
marked v (x ∷ xs) lists = marked v xs (mark x.number v lists)

-- which numbers list v holds after one more
mark_own : (x v : ℕ) (lists : ℕ → ℕ) (before : List ℕ) → ((y : ℕ) → eqb (lists y) v ≡ mem y before) → (y : ℕ) → eqb (mark x v lists y) v ≡ mem y (x ∷ before)
unfolding mark mem
mark_own x v lists before own y = go (look (eqb y x))
  where
    go : Is (eqb y x) → eqb (pick (eqb y x) v (lists y)) v ≡ (eqb y x || mem y before)
    go (is_true h) = rw (pick_yes {A = ℕ} (eqb y x) v (lists y) h, h) (eq-eqb v v refl)
    go (is_false h) = rw (pick_no {A = ℕ} (eqb y x) v (lists y) h, h) (own y)

-- one more of the names of these gates but of those before
module _ (k : ℕ) (named defined : List ℕ) (x : Name) (xs : List Name) where
  without_before : mem x.number defined ≡ true → naming_gates named (without defined (x ∷ xs)) ≡ naming_gates named (without defined xs)
  unfolding without
  without_before h = ap (naming_gates named) (pick_yes (mem x.number defined) (without defined xs) (x ∷ without defined xs) h)

  without_new : mem x.number defined ≡ false
      → naming_gates named (without defined (x ∷ xs)) ≡ pick (mem x.number named) (x.position ∷ []) [] ++ naming_gates named (without defined xs)
  unfolding without naming_gates
  without_new h = ap (naming_gates named) (pick_no (mem x.number defined) (without defined xs) (x ∷ without defined xs) h)

  naming_without : (Above k (naming_gates named (without defined (x ∷ xs)))
      ↔ (((mem x.number named && not (mem x.number defined)) ≡ true → k ≤ x.position) × Above k (naming_gates named (without defined xs))))
  naming_without = go (look (mem x.number defined))
    where
      go : Is (mem x.number defined) → (Above k (naming_gates named (without defined (x ∷ xs)))
          ↔ (((mem x.number named && not (mem x.number defined)) ≡ true → k ≤ x.position) × Above k (naming_gates named (without defined xs))))
      go (is_true h) = (
        λ a. (λ f. clash h (not-true (mem x.number defined) (and_right (mem x.number named) (not (mem x.number defined)) f)), subst (Above k) (without_before h) a),
        λ q. subst (Above k) (sym (without_before h)) q.1,
      )
      go (is_false h) =
          let s : (Above k (naming_gates named (without defined (x ∷ xs))) ↔ ((mem x.number named ≡ true → k ≤ x.position) × Above k (naming_gates named (without defined xs)))) =
          above_step k x.position (mem x.number named) (naming_gates named (without defined (x ∷ xs))) (naming_gates named (without defined xs)) (without_new h) in (
            λ a. let q = s.0 a in (λ f. q.0 (and_left (mem x.number named) (not (mem x.number defined)) f), q.1),
            λ q. s.1 (λ m. q.0 (and_both (mem x.number named) (not (mem x.number defined)) m (ap not h)), q.1),
          )

module _ (k : ℕ) (gates : ℕ → ℕ) (line : ℕ) (rest : List Token) where
  -- what the pass finds in a list: names that stand in it before, and names of gates defined by then
  module _ (defined : List ℕ) (known : (y : ℕ) → (not (eqb (gates y) 0) && leb (gates y) line) ≡ mem y defined) where
    pub entries_found : {ts : List Token} {xs : List Name} (i : ℕ) (lists : ℕ → ℕ) (before : List ℕ) → Entries EntryRole ts xs
        → ((y : ℕ) → eqb (lists y) (suc line) ≡ mem y before)
        → (Above k (faults gates lists line i (ts ++ rest))
        ↔ (Above k (repeated before xs) × Above k (naming_gates defined xs) × Above k (faults gates (marked (suc line) xs lists) line (past ts i) rest)))
    unfolding repeated naming_gates marked past
    entries_found i lists before nothing own = (λ a. (none, none, a), λ p. p.2)
    entries_found i lists before (one t {ts} {xs} p e) own =
        let x = t.name.number in
        let at = t.name.position in
        let next = mark x (suc line) lists in
        let b = eqb (lists x) (suc line) in
        let d = not (eqb (gates x) 0) && leb (gates x) line in
        let here : (Above k (faults gates lists line i (t ∷ (ts ++ rest))) ↔ (((b || d) ≡ true → k ≤ at) × Above k (faults gates next line (suc i) (ts ++ rest)))) =
        above_step k at (b || d) (faults gates lists line i (t ∷ (ts ++ rest))) (faults gates next line (suc i) (ts ++ rest)) (faults_entry gates lists line i t (ts ++ rest) p.entry) in
        let later : (Above k (faults gates next line (suc i) (ts ++ rest))
        ↔ (Above k (repeated (x ∷ before) xs) × Above k (naming_gates defined xs) × Above k (faults gates (marked (suc line) xs next) line (past ts (suc i)) rest))) =
        entries_found (suc i) next (x ∷ before) e (mark_own x (suc line) lists before own) in
        let twice : (Above k (repeated before (t.name ∷ xs)) ↔ ((mem x before ≡ true → k ≤ at) × Above k (repeated (x ∷ before) xs))) =
        above_pick k at (mem x before) (repeated (x ∷ before) xs) in
        let gate : (Above k (naming_gates defined (t.name ∷ xs)) ↔ ((mem x defined ≡ true → k ≤ at) × Above k (naming_gates defined xs))) =
        above_pick k at (mem x defined) (naming_gates defined xs) in (
          λ a.
              let h = here.0 a in
              let l = later.0 h.1 in
              (twice.1 (λ m. h.0 (or_left b d (own x ∙ m)), l.0), gate.1 (λ m. h.0 (or_right b d (known x ∙ m)), l.1), l.2),
          λ q.
              let u = twice.0 q.0 in
              let g = gate.0 q.1 in
              here.1 (λ m. or_cases b d m (λ z. u.0 (sym (own x) ∙ z)) (λ z. g.0 (sym (known x) ∙ z)), later.1 (u.1, g.1, q.2)),
        )
    entries_found i lists before (passed x {ts} {xs} e) own =
        let later = entries_found (suc i) lists before e own in
        let same = passed_by gates lists line i x (ts ++ rest) in
        (λ a. later.0 (subst (Above k) same a), λ q. subst (Above k) (sym same) (later.1 q))

  -- what the pass finds among inputs: names of these gates, but of none defined before the line
  module _ (named defined : List ℕ) (early : (y : ℕ) → leb line (gates y) ≡ (mem y named && not (mem y defined))) where
    pub inputs_found : {ts : List Token} {xs : List Name} (i : ℕ) (lists : ℕ → ℕ) → Entries InputRole ts xs
        → (Above k (faults gates lists line i (ts ++ rest))
        ↔ (Above k (naming_gates named (without defined xs)) × Above k (faults gates lists line (past ts i) rest)))
    unfolding past naming_gates without
    inputs_found i lists nothing = (λ a. (none, a), λ q. q.1)
    inputs_found i lists (one t {ts} {xs} p e) =
        let x = t.name.number in
        let at = t.name.position in
        let c = is_input t.role in
        let d = leb line (gates x) in
        let here : (Above k (faults gates lists line i (t ∷ (ts ++ rest))) ↔ (((c && d) ≡ true → k ≤ at) × Above k (faults gates lists line (suc i) (ts ++ rest)))) =
        above_step k at (c && d) (faults gates lists line i (t ∷ (ts ++ rest))) (faults gates lists line (suc i) (ts ++ rest)) (faults_other gates lists line i t (ts ++ rest) p.no_entry p.no_definition) in
        let later : (Above k (faults gates lists line (suc i) (ts ++ rest)) ↔ (Above k (naming_gates named (without defined xs)) × Above k (faults gates lists line (past ts (suc i)) rest))) =
        inputs_found (suc i) lists e in
        let named_here = naming_without k named defined t.name xs in (
          λ a.
              let h = here.0 a in
              let l = later.0 h.1 in
              (named_here.1 (λ m. h.0 (and_both c d p.input (early x ∙ m)), l.0), l.1),
          λ q.
              let u = named_here.0 q.0 in
              here.1 (λ m. u.0 (sym (early x) ∙ and_right c d m), later.1 (u.1, q.1)),
        )
    inputs_found i lists (passed x {ts} {xs} e) =
        let later = inputs_found (suc i) lists e in
        let same = passed_by gates lists line i x (ts ++ rest) in
        (λ a. later.0 (subst (Above k) same a), λ q. subst (Above k) (sym same) (later.1 q))

-- What holds of each name.
pub data Each (P : Name → Type 0) : List Name → Type 0 where
  no_names : Each P []
  a_name : {x : Name} {xs : List Name} → P x → Each P xs → Each P (x ∷ xs)

pub each_map : {P Q : Name → Type 0} {xs : List Name} → ((x : Name) → P x → Q x) → Each P xs → Each Q xs
each_map f no_names = no_names
each_map f (a_name {x} p e) = a_name (f x p) (each_map f e)

pub each_append : {P : Name → Type 0} {xs ys : List Name} → Each P xs → Each P ys → Each P (xs ++ ys)
each_append no_names f = f
each_append (a_name p e) f = a_name p (each_append e f)

-- The names stand between two positions, and the tokens after them go on from there.
pub record Ascent (from : ℕ) (xs : List Name) (rest : List Token) : Type 0 where
  pub end : ℕ
  pub order : from ≤ end
  pub between : Each (λ x. (from ≤ x.position) × (x.position < end)) xs
  pub onward : ascending end rest ≡ true

-- of a token that is no end of a gate without inputs
pub ascending_one : (p : ℕ) (t : Token) (ts : List Token) → eqb t.role empty_role ≡ false → ascending p (t ∷ ts) ≡ true
    → (p ≤ t.name.position) × (ascending (suc t.name.position) ts ≡ true)
unfolding ascending
ascending_one p t ts h a =
    let b : (leb p t.name.position && ascending (suc t.name.position) ts) ≡ true =
    sym (pick_no (eqb t.role empty_role) (ascending p ts) (leb p t.name.position && ascending (suc t.name.position) ts) h) ∙ a in
    (leb-true p t.name.position (and_left (leb p t.name.position) (ascending (suc t.name.position) ts) b), and_right (leb p t.name.position) (ascending (suc t.name.position) ts) b)

pub ascending_passed : (p : ℕ) (t : Token) (ts : List Token) → eqb t.role empty_role ≡ true → ascending p (t ∷ ts) ≡ true → ascending p ts ≡ true
unfolding ascending
ascending_passed p t ts h a =
    sym (pick_yes (eqb t.role empty_role) (ascending p ts) (leb p t.name.position && ascending (suc t.name.position) ts) h) ∙ a

empty_ascends : (p : ℕ) (x : Name) (ts : List Token) → ascending p (token empty_role x ∷ ts) ≡ true → ascending p ts ≡ true
unfolding token
empty_ascends p x ts a = ascending_passed p (record { role = 24; name = x }) ts refl a

-- a token that is no definition defines nothing
pub defines_none : (i : ℕ) (t : Token) (ts : List Token) (y : ℕ) → is_definition t.role ≡ false → definition_from i (t ∷ ts) y ≡ definition_from (suc i) ts y
unfolding definition_from
defines_none i t ts y h =
    pick_no (is_definition t.role && eqb t.name.number y) (suc i) (definition_from (suc i) ts y) (and_off_left (is_definition t.role) (eqb t.name.number y) h)

empty_defines : (i : ℕ) (x : Name) (ts : List Token) (y : ℕ) → definition_from i (token empty_role x ∷ ts) y ≡ definition_from (suc i) ts y
unfolding token is_definition
empty_defines i x ts y = defines_none i (record { role = 24; name = x }) ts y refl

module _ {P : ℕ → Type 0} (rest : List Token) where
  pub entries_ascend : {ts : List Token} {xs : List Name} → ((r : ℕ) → P r → eqb r empty_role ≡ false) → (p : ℕ) → Entries P ts xs
      → ascending p (ts ++ rest) ≡ true → Ascent p xs rest
  entries_ascend f p nothing a = record { end = p; order = omega arith; between = no_names; onward = a }
  entries_ascend f p (one t {ts} {xs} r e) a =
      let s : (p ≤ t.name.position) × (ascending (suc t.name.position) (ts ++ rest) ≡ true) = ascending_one p t (ts ++ rest) (f t.role r) a in
      let h : p ≤ t.name.position = s.0 in
      let l : Ascent (suc t.name.position) xs rest = entries_ascend f (suc t.name.position) e s.1 in
      let o : suc t.name.position ≤ l.end = l.order in
      record {
        end = l.end;
        order = omega arith;
        between = a_name (h, o) (each_map (λ x b. (let q : suc t.name.position ≤ x.position = b.0 in omega arith, b.1)) l.between);
        onward = l.onward;
      }
  entries_ascend f p (passed x {ts} e) a = entries_ascend f p e (empty_ascends p x (ts ++ rest) a)

  -- they define nothing
  pub entries_define : {ts : List Token} {xs : List Name} → ((r : ℕ) → P r → is_definition r ≡ false) → (i : ℕ) → Entries P ts xs → (y : ℕ)
      → definition_from i (ts ++ rest) y ≡ definition_from (past ts i) rest y
  unfolding past
  entries_define f i nothing y = refl
  entries_define f i (one t {ts} r e) y = defines_none i t (ts ++ rest) y (f t.role r) ∙ entries_define f (suc i) e y
  entries_define f i (passed x {ts} e) y = empty_defines i x (ts ++ rest) y ∙ entries_define f (suc i) e y
