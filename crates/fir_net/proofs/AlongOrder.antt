-- Equations of leaves, each of which hangs on the leaves before it in an order: they have one solution.
use Rattle.std.proofs.Common.{◌≡◌, ◌≢◌, ℕ, zero, suc, ◌<◌, ◌≤◌, List, true, false, eqb, cond, refl, sym, ap, ◌∙◌, ⊎_elim, subst, arith}
use Rattle.std.specs.Prelude.{slice_get, Option, Some, None}
use Rattle.std.proofs.lemmas.Bool.{cases_lt}
use Rattle.std.proofs.lemmas.Bool.Decides.{eqb_tells}
use Rattle.fir_net.specs.declared.reads.Read.{Read}
use Rattle.fir_net.specs.declared.reads.Read.TheVariants as read

-- a choice with one value changed
abbrev pub put : {X : Type 0} → (ℕ → X) → ℕ → X → ℕ → X
put e k x = λ j. cond (eqb j k) x (e j)

put_here : {X : Type 0} → (e : ℕ → X) (k : ℕ) (x : X) → put e k x k ≡ x
put_here e k x = ⊎_elim (λ (t : (eqb k k ≡ true) × (k ≡ k)). rw t.0 refl) (λ (t : (eqb k k ≡ false) × (k ≢ k)). absurd (t.1 refl)) (eqb_tells k k)

put_other : {X : Type 0} → (e : ℕ → X) (k : ℕ) (x : X) (j : ℕ) → (j ≡ k → ⊥) → put e k x j ≡ e j
put_other e k x j n = ⊎_elim (λ (t : (eqb j k ≡ true) × (j ≡ k)). absurd (n t.1)) (λ (t : (eqb j k ≡ false) × (j ≢ k)). rw t.0 refl) (eqb_tells j k)

-- what holds of both holds of the changed choice
put_each : {X : Type 0} → (P : ℕ → X → Type 0) (e : ℕ → X) (k : ℕ) (x : X) → ((j : ℕ) → P j (e j)) → P k x → (j : ℕ) → P j (put e k x j)
put_each P e k x h here j = ⊎_elim (λ (t : (eqb j k ≡ true) × (j ≡ k)). rw t.0 (subst (λ (i : ℕ). P i x) (sym t.1) here)) (λ (t : (eqb j k ≡ false) × (j ≢ k)). rw t.0 (h j)) (eqb_tells j k)

-- two choices agree on the leaves that count and stand before the place
pub record SameBefore {X : Type 0} (order : List Read) (counts : ℕ → Type 0) (n : ℕ) (e f : ℕ → X) : Type 0 where
  pub each : (i k : ℕ) → i < n → slice_get order i ≡ Some (read.Leaf k) → counts k → e k ≡ f k

sooner : {X : Type 0} → (order : List Read) (counts : ℕ → Type 0) (i n : ℕ) (e f : ℕ → X) → i ≤ n → SameBefore order counts n e f → SameBefore order counts i e f
sooner order counts i n e f le h = record { each = λ j k l at c. h.each j k (omega (arith, l, le)) at c }

module _ {X : Type 0} (order : List Read) (counts : ℕ → Type 0) (equation : (ℕ → X) → ℕ → X) where
  -- a choice meets the equations of the leaves before the place
  pub record MeetsBefore (n : ℕ) (e : ℕ → X) : Type 0 where
    pub each : (i k : ℕ) → i < n → slice_get order i ≡ Some (read.Leaf k) → counts k → e k ≡ equation e k

  -- each equation hangs on what stands before its leaf
  pub record HangsBefore : Type 0 where
    pub each : (i k : ℕ) (e f : ℕ → X) → slice_get order i ≡ Some (read.Leaf k) → counts k → SameBefore order counts i e f → equation e k ≡ equation f k

  fewer : (n : ℕ) (e : ℕ → X) → MeetsBefore (suc n) e → MeetsBefore n e
  fewer n e m = record { each = λ i k l at c. m.each i k (omega (arith, l)) at c }

  -- choices that meet all equations agree
  pub agree : HangsBefore → (n : ℕ) (e f : ℕ → X) → MeetsBefore n e → MeetsBefore n f → SameBefore order counts n e f
  agree hangs zero e f p q = record { each = λ i k l at c. absurd (omega (arith, l)) }
  agree hangs (suc n) e f p q =
      let before = agree hangs n e f (fewer n e p) (fewer n f q) in
      record { each = λ i k l at c. p.each i k l at c ∙ hangs.each i k e f at c (sooner order counts i n e f (omega (arith, l)) before) ∙ sym (q.each i k l at c) }

  module _ (once : (i j : ℕ) (v : Read) → slice_get order i ≡ Some v → slice_get order j ≡ Some v → i ≡ j) (hangs : HangsBefore) where
    -- one more leaf gets its value
    one_more : (n v : ℕ) (e : ℕ → X) → MeetsBefore n e → slice_get order n ≡ Some (read.Leaf v) → MeetsBefore (suc n) (put e v (equation e v))
    one_more n v e meets at = record { each = met }
      where
        new : ℕ → X
        new = put e v (equation e v)

        old_before : SameBefore order counts n e new
        old_before = record { each = λ i k l here c. sym (put_other e v (equation e v) k (λ same. omega (arith, l, once i n (read.Leaf v) (here ∙ ap (λ (j : ℕ). Some (read.Leaf j)) same) at))) }

        keeps : (i k : ℕ) → i ≤ n → slice_get order i ≡ Some (read.Leaf k) → counts k → equation e k ≡ equation new k
        keeps i k le here c = hangs.each i k e new here c (sooner order counts i n e new le old_before)

        met : (i k : ℕ) → i < suc n → slice_get order i ≡ Some (read.Leaf k) → counts k → new k ≡ equation new k
        met i k l here c =
            ⊎_elim
            (λ (less : i < n). sym (old_before.each i k less here c) ∙ meets.each i k less here c ∙ keeps i k (omega (arith, less)) here c)
            (λ (le : n ≤ i).
            let place : i ≡ n = omega (arith, l, le) in
            let leaves : Some (read.Leaf k) ≡ Some (read.Leaf v) = sym here ∙ ap (slice_get order) place ∙ at in
            let same : k ≡ v = cc in
            ap new same ∙ put_here e v (equation e v) ∙ ap (equation e) (sym same) ∙ keeps i k (omega (arith, l)) here c)
            (cases_lt i n)

    skipped : (n : ℕ) (e : ℕ → X) → MeetsBefore n e → ((k : ℕ) → slice_get order n ≡ Some (read.Leaf k) → ⊥) → MeetsBefore (suc n) e
    skipped n e meets none = record {
      each = λ i k l here c.
          ⊎_elim
          (λ (less : i < n). meets.each i k less here c)
          (λ (le : n ≤ i). let place : i ≡ n = omega (arith, l, le) in absurd (none k (ap (slice_get order) (sym place) ∙ here)))
          (cases_lt i n);
    }

    -- a choice that meets the first equations, and of whose values all holds that each equation keeps
    pub record Filled (P : ℕ → X → Type 0) (n : ℕ) : Type 0 where
      pub choice : ℕ → X
      pub holds : (k : ℕ) → P k (choice k)
      pub meets : MeetsBefore n choice

    pub fill : (P : ℕ → X → Type 0) → ((e : ℕ → X) → ((k : ℕ) → P k (e k)) → (k : ℕ) → P k (equation e k)) → (first : ℕ → X) → ((k : ℕ) → P k (first k)) → (n : ℕ) → Filled P n
    fill P keeps first starts zero = record { choice = first; holds = starts; meets = record { each = λ i k l at c. absurd (omega (arith, l)) } }
    fill P keeps first starts (suc n) = by (slice_get order n) refl (fill P keeps first starts n)
      where
        by : (o : Option Read) → slice_get order n ≡ o → Filled P n → Filled P (suc n)
        by None at r = record { choice = r.choice; holds = r.holds; meets = skipped n r.choice r.meets (λ k here. let no : None ≡ Some (read.Leaf k) = sym at ∙ here in cc) }
        by (Some (read.Node j)) at r = record { choice = r.choice; holds = r.holds; meets = skipped n r.choice r.meets (λ k here. let no : Some (read.Node j) ≡ Some (read.Leaf k) = sym at ∙ here in cc) }
        by (Some (read.Leaf v)) at r = record {
          choice = put r.choice v (equation r.choice v);
          holds = put_each P r.choice v (equation r.choice v) r.holds (keeps r.choice r.holds v);
          meets = one_more n v r.choice r.meets at;
        }
