-- Walks from a clock leaf to its root: they pass no leaf twice, so that they have fewer steps than there are leaves.
use Rattle.std.proofs.Common.{◌≡◌, ℕ, zero, suc, ◌+◌, ◌<◌, ◌≤◌, List, [], ◌∷◌, length, refl, sym, ap, ◌∙◌, subst, arith, Option, Some, None, Bool, true, false, eqb}
use Rattle.std.specs.Prelude.{slice_get, ◌||◌, IfNone, IfSome}
use Rattle.std.specs.List.{AllByRecursion, IsDistinct, list_any}
use Rattle.std.proofs.lemmas.Bool.{eqb-true}
use Rattle.std.proofs.lemmas.Map.Keys.{IsDistinct-cons}
use Rattle.std.proofs.lemmas.Map.Steps.{length-le_from_distinct_below}
use Rattle.std.proofs.lemmas.Option.{slice_get_within}
use Rattle.fir_net.specs.declared.leaf.Role.{Role}
use Rattle.fir_net.specs.declared.leaf.Role.TheVariants as role
use Rattle.fir_net.specs.declared.leaf.Leaf.{Leaf}
use Rattle.fir_net.specs.declared.net.FlatNet.{FlatNet}
use Rattle.fir_net.specs.working.Settled.{clock_driver}
use Rattle.fir_clock_root.specs.working.ClockRoots.{HasRoot, inputs_before, input, driven}
use Rattle.fir_clock_root.specs.working.ClockSteps.{driver_at, leaf_driver, leaf_number, number_at, role_driver, role_number}

-- ---- what a step and an end say of a leaf

drives : (r : Role) (j : ℕ) → role_driver r ≡ Some j → clock_driver r ≡ Some (Some j)
drives (role.ClockOutput c) j e = ap Some e
drives (role.ClockWire c) j e = ap Some e
drives role.Input j e = cc
drives role.Clock j e = cc
drives (role.Output d) j e = cc
drives (role.Wire d) j e = cc
drives (role.Register d) j e = cc
drives (role.Reading d) j e = cc
drives (role.Pipe d) j e = cc

driver_is : (r : Role) (j : ℕ) → clock_driver r ≡ Some (Some j) → role_driver r ≡ Some j
driver_is (role.ClockOutput c) j e = cc
driver_is (role.ClockWire c) j e = cc
driver_is role.Input j e = cc
driver_is role.Clock j e = cc
driver_is (role.Output d) j e = cc
driver_is (role.Wire d) j e = cc
driver_is (role.Register d) j e = cc
driver_is (role.Reading d) j e = cc
driver_is (role.Pipe d) j e = cc

numbers : (r : Role) (m n : ℕ) → role_number m r ≡ Some n → (r ≡ role.Clock) × (m ≡ n)
numbers role.Clock m n e = (refl, cc)
numbers role.Input m n e = cc
numbers (role.Output d) m n e = cc
numbers (role.Wire d) m n e = cc
numbers (role.Register d) m n e = cc
numbers (role.Reading d) m n e = cc
numbers (role.Pipe d) m n e = cc
numbers (role.ClockOutput c) m n e = cc
numbers (role.ClockWire c) m n e = cc

-- no clock leaf drives a clock input
no_driver : (r : Role) (m n j : ℕ) → role_number m r ≡ Some n → role_driver r ≡ Some j → ⊥
no_driver role.Clock m n j e d = cc
no_driver role.Input m n j e d = cc
no_driver (role.Output x) m n j e d = cc
no_driver (role.Wire x) m n j e d = cc
no_driver (role.Register x) m n j e d = cc
no_driver (role.Reading x) m n j e d = cc
no_driver (role.Pipe x) m n j e d = cc
no_driver (role.ClockOutput c) m n j e d = cc
no_driver (role.ClockWire c) m n j e d = cc

leaf_drives : (o : Option Leaf) (j : ℕ) → leaf_driver o ≡ Some j → (l : Leaf) × (o ≡ Some l) × (role_driver l.role ≡ Some j)
leaf_drives None j e = cc
leaf_drives (Some l) j e = (l, refl, e)

leaf_numbers : (o : Option Leaf) (m n : ℕ) → leaf_number m o ≡ Some n → (l : Leaf) × (o ≡ Some l) × (role_number m l.role ≡ Some n)
leaf_numbers None m n e = cc
leaf_numbers (Some l) m n e = (l, refl, e)

leaf_no_driver : (o : Option Leaf) (m n j : ℕ) → leaf_number m o ≡ Some n → leaf_driver o ≡ Some j → ⊥
leaf_no_driver None m n j e d = cc
leaf_no_driver (Some l) m n j e d = no_driver l.role m n j e d

number_of_input : (r : Role) (m : ℕ) → r ≡ role.Clock → role_number m r ≡ Some m
number_of_input r m is = ap (role_number m) is

-- after so many steps from that leaf on stands a clock input of that number
abbrev pub HasWalk : FlatNet → ℕ → ℕ → ℕ → Type 0
HasWalk net zero k n = number_at net.leaves k ≡ Some n
HasWalk net (suc h) k n = (j : ℕ) × (driver_at net.leaves k ≡ Some j) × HasWalk net h j n

-- from that leaf on there is a walk of at most so many steps
record Walks (net : FlatNet) (h q : ℕ) : Type 0 where
  steps : ℕ
  number : ℕ
  few : steps ≤ h
  walk : HasWalk net steps q number

-- the leaves of a walk of so many steps, none of them twice
record Passed (net : FlatNet) (h : ℕ) : Type 0 where
  leaves : List ℕ
  long : length leaves ≡ suc h
  distinct : IsDistinct eqb leaves
  each : AllByRecursion (Walks net h) leaves

member : (P : ℕ → Type 0) (xs : List ℕ) → AllByRecursion P xs → (q : ℕ) → list_any (eqb q) xs ≡ true → P q
member P [] each q e = cc
member P (x ∷ xs) each q e = by (eqb q x) refl (member P xs each.1 q) e
  where
    by : (b : Bool) → eqb q x ≡ b → (list_any (eqb q) xs ≡ true → P q) → (b || list_any (eqb q) xs) ≡ true → P q
    by true is rest e = subst P (sym (eqb-true q x is)) each.0
    by false is rest e = rest e

module _ (net : FlatNet) where
  pub number_has : (k n : ℕ) → number_at net.leaves k ≡ Some n → HasRoot net k n
  number_has k n e =
      let f = leaf_numbers (slice_get net.leaves k) (inputs_before net.leaves k) n e in
      let r = numbers f.0.role (inputs_before net.leaves k) n f.2 in
      input k n f.0 f.1 r.0 r.1

  pub driver_has : (k j n : ℕ) → driver_at net.leaves k ≡ Some j → HasRoot net j n → HasRoot net k n
  driver_has k j n e root = let f = leaf_drives (slice_get net.leaves k) j e in driven k j n f.0 f.1 (drives f.0.role j f.2) root

  pub root_walks : (k n : ℕ) → HasRoot net k n → (h : ℕ) × HasWalk net h k n
  root_walks _ _ (input k n l at is before) =
      (0, ap (leaf_number (inputs_before net.leaves k)) at ∙ number_of_input l.role (inputs_before net.leaves k) is ∙ ap Some before)
  root_walks _ _ (driven k j n l at e root) = let r = root_walks j n root in (suc r.0, (j, ap leaf_driver at ∙ driver_is l.role j e, r.1))

  one_length : (g h k m n : ℕ) → HasWalk net g k m → HasWalk net h k n → g ≡ h
  one_length zero zero k m n v w = refl
  one_length zero (suc h) k m n v w = absurd (leaf_no_driver (slice_get net.leaves k) (inputs_before net.leaves k) m w.0 v w.1)
  one_length (suc g) zero k m n v w = absurd (leaf_no_driver (slice_get net.leaves k) (inputs_before net.leaves k) n v.0 w v.1)
  one_length (suc g) (suc h) k m n v w =
      let same : Some v.0 ≡ Some w.0 = sym v.1 ∙ w.1 in
      let next : v.0 ≡ w.0 = cc in
      ap suc (one_length g h w.0 m n (subst (λ x. HasWalk net g x m) next v.2) w.2)

  within : (h k n : ℕ) → HasWalk net h k n → k < length net.leaves
  within zero k n w = let f = leaf_numbers (slice_get net.leaves k) (inputs_before net.leaves k) n w in slice_get_within net.leaves k f.0 f.1
  within (suc h) k n w = let f = leaf_drives (slice_get net.leaves k) w.0 w.1 in slice_get_within net.leaves k f.0 f.1

  more : (h : ℕ) (qs : List ℕ) → AllByRecursion (Walks net h) qs → AllByRecursion (Walks net (suc h)) qs
  more h [] each = tt
  more h (q ∷ qs) each =
      let w = each.0 in
      (record { steps = w.steps; number = w.number; few = let few = w.few in omega (arith, few); walk = w.walk }, more h qs each.1)

  apart : (h k n : ℕ) → HasWalk net (suc h) k n → (qs : List ℕ) → AllByRecursion (Walks net h) qs → AllByRecursion (λ q. eqb k q ≡ false) qs
  apart h k n w [] each = tt
  apart h k n w (q ∷ qs) each = (by (eqb k q) refl, apart h k n w qs each.1)
    where
      by : (b : Bool) → eqb k q ≡ b → b ≡ false
      by false is = refl
      by true is =
          let v = each.0 in
          let few = v.few in
          let same = one_length v.steps (suc h) k v.number n (subst (λ x. HasWalk net v.steps x v.number) (sym (eqb-true k q is)) v.walk) w in
          absurd (omega (arith, few, same))

  passed : (h k n : ℕ) → HasWalk net h k n → Passed net h
  unfolding IsDistinct
  passed zero k n w = record {
    leaves = k ∷ [];
    long = refl;
    distinct = IsDistinct-cons eqb k [] tt tt;
    each = (record { steps = 0; number = n; few = omega arith; walk = w }, tt);
  }
  passed (suc h) k n w =
      let r = passed h w.0 n w.2 in
      record {
        leaves = k ∷ r.leaves;
        long = ap suc r.long;
        distinct = IsDistinct-cons eqb k r.leaves (apart h k n w r.leaves r.each) r.distinct;
        each = (record { steps = suc h; number = n; few = omega arith; walk = w }, more h r.leaves r.each);
      }

  few_steps : (h k n : ℕ) → HasWalk net h k n → h < length net.leaves
  few_steps h k n w =
      let r = passed h k n w in
      let long = r.long in
      let short = length-le_from_distinct_below r.leaves (length net.leaves) r.distinct (λ q e. let v = member (Walks net h) r.leaves r.each q e in within v.steps q v.number v.walk) in
      omega (arith, long, short)

-- ---- the walk so far

-- from the first leaf on so many steps have been taken, and the roots are those of the leaf that stands there
pub record IsAfter (net : FlatNet) (first steps last : ℕ) : Type 0 where
  pub forth : (n : ℕ) → HasRoot net last n → HasRoot net first n
  pub back : (h n : ℕ) → HasWalk net h first n → (g : ℕ) × (g + steps ≡ h) × HasWalk net g last n

pub none_taken : (net : FlatNet) (first : ℕ) → IsAfter net first 0 first
none_taken net first = record { forth = λ n root. root; back = λ h n w. (h, omega arith, w) }

module _ (net : FlatNet) (first steps last : ℕ) (so_far : IsAfter net first steps last) where
  pub step_taken : (next : ℕ) → driver_at net.leaves last ≡ Some next → IsAfter net first (steps + 1) next
  step_taken next e = record { forth = λ n root. so_far.forth n (driver_has net last next n e root); back = λ h n w. let r = so_far.back h n w in on r.0 h n r.1 r.2 }
    where
      on : (g h n : ℕ) → g + steps ≡ h → HasWalk net g last n → (f : ℕ) × (f + (steps + 1) ≡ h) × HasWalk net f next n
      on zero h n sum w = absurd (leaf_no_driver (slice_get net.leaves last) (inputs_before net.leaves last) n next w e)
      on (suc g) h n sum w =
          let same : Some w.0 ≡ Some next = sym w.1 ∙ e in
          let there : w.0 ≡ next = cc in
          (g, omega (arith, sum), subst (λ x. HasWalk net g x n) there w.2)

  -- at a leaf that no clock leaf drives
  pub root_at_end : (o : Option ℕ) → o ≡ number_at net.leaves last → IfSome o (λ n. HasRoot net first n)
  root_at_end None e = tt
  root_at_end (Some n) e = so_far.forth n (number_has net last n (sym e))

  pub none_at_end : driver_at net.leaves last ≡ None → (o : Option ℕ) → o ≡ number_at net.leaves last → IfNone o ((n : ℕ) → HasRoot net first n → ⊥)
  none_at_end ends (Some n) e = tt
  none_at_end ends None e = none
    where
      by : (g n : ℕ) → HasWalk net g last n → ⊥
      by zero n w = let other : Some n ≡ None = sym w ∙ sym e in cc
      by (suc g) n w = let other : Some w.0 ≡ None = sym w.1 ∙ ends in cc

      none : (n : ℕ) → HasRoot net first n → ⊥
      none n root = let r = root_walks net first n root in let b = so_far.back r.0 n r.1 in by b.0 n b.2

  pub goes_round : length net.leaves ≤ steps → (n : ℕ) → HasRoot net first n → ⊥
  goes_round long n root =
      let r = root_walks net first n root in
      let b = so_far.back r.0 n r.1 in
      let sum = b.1 in
      let few = few_steps net r.0 first n r.1 in
      omega (arith, long, sum, few)
