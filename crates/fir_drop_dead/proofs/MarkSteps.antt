-- What marking does: nothing else gets a mark, and no mark goes.
use Rattle.std.proofs.Common.{◌≡◌, ℕ, ◌+◌, ◌<◌, ◌≤◌, List, [], ◌∷◌, ◌++◌, length, get_or, take, Bool, true, false, refl, ap, sym, ◌∙◌, subst, arith, set, if◌then◌else◌, ◌⊎◌, inl, inr, ⊎_elim, length-set, replicate, unwrap_or}
use Rattle.std.specs.Prelude.{nat_lt, Option}
use Rattle.std.proofs.lemmas.Bool.{cases_eq, cases_lt, lt-ltb}
use Rattle.std.proofs.lemmas.List.{length-replicate, take_more}
use Rattle.std.proofs.lemmas.Option.{slice_get_past}
use Rattle.fir_base.specs.Lists.{In}
use Rattle.fir_base.proofs.Writes.{get-replicate, write_other, write_same}
use Rattle.fir_net.specs.declared.reads.Read.{Read}
use Rattle.fir_net.specs.declared.reads.Read.TheVariants as read
use Rattle.fir_net.specs.declared.net.FlatNet.{FlatNet}
use Rattle.fir_net.specs.working.Dependence.{IsOf}
use Rattle.fir_drop_dead.specs.working.Marks.{Marked, has, mark_at, marked, marked_all, no_marks, set_mark}
use Rattle.fir_drop_dead.specs.working.Needed.{AreMarked}

-- one list of marks
abbrev at_mark : Option Bool → Bool
at_mark o = unwrap_or o false

set_long : (k : ℕ) (ms : List Bool) → length (set_mark k ms) ≡ length ms
set_long k ms = by (nat_lt k (length ms))
  where
    by : (t : Bool) → length (if t then set ms k true else ms) ≡ length ms
    by true = length-set ms k true
    by false = refl

set_cases : (k : ℕ) (ms : List Bool) (j : ℕ) → mark_at (set_mark k ms) j ≡ true → (mark_at ms j ≡ true) ⊎ (k ≡ j)
set_cases k ms j = by (nat_lt k (length ms))
  where
    written : mark_at (set ms k true) j ≡ true → (j ≡ k) ⊎ (j ≡ k → ⊥) → (mark_at ms j ≡ true) ⊎ (k ≡ j)
    written h (inl e) = inr (sym e)
    written h (inr n) = inl (sym (ap at_mark (write_other ms k true j n)) ∙ h)

    by : (t : Bool) → mark_at (if t then set ms k true else ms) j ≡ true → (mark_at ms j ≡ true) ⊎ (k ≡ j)
    by true h = written h (cases_eq j k)
    by false h = inl h

pub marked_within : (ms : List Bool) (k : ℕ) → mark_at ms k ≡ true → k < length ms
marked_within ms k h = by (cases_lt k (length ms))
  where
    by : (k < length ms) ⊎ (length ms ≤ k) → k < length ms
    by (inl lt) = lt
    by (inr past) = let none = ap at_mark (slice_get_past ms k past) in cc

set_stays : (k : ℕ) (ms : List Bool) (j : ℕ) → mark_at ms j ≡ true → mark_at (set_mark k ms) j ≡ true
set_stays k ms j h = by (nat_lt k (length ms))
  where
    written : (j ≡ k) ⊎ (j ≡ k → ⊥) → mark_at (set ms k true) j ≡ true
    written (inl e) =
        let within = marked_within ms j h in
        ap (λ (i : ℕ). mark_at (set ms k true) i) e ∙ ap at_mark (write_same ms k true (omega arith))
    written (inr n) = ap at_mark (write_other ms k true j n) ∙ h

    by : (t : Bool) → mark_at (if t then set ms k true else ms) j ≡ true
    by true = written (cases_eq j k)
    by false = h

set_new : (k : ℕ) (ms : List Bool) → k < length ms → mark_at (set_mark k ms) k ≡ true
set_new k ms within = by (nat_lt k (length ms)) (lt-ltb k (length ms) within)
  where
    by : (t : Bool) → t ≡ true → mark_at (if t then set ms k true else ms) k ≡ true
    by true e = ap at_mark (write_same ms k true within)
    by false e = cc

none_set : (n k : ℕ) → mark_at (replicate n false) k ≡ true → ⊥
none_set n k h = by (cases_lt k n)
  where
    by : (k < n) ⊎ (n ≤ k) → ⊥
    by (inl lt) = let unset = ap at_mark (get-replicate n k false lt) in cc
    by (inr past) = let within = marked_within (replicate n false) k h in absurd (omega (arith, length-replicate n false))

-- as many leaves and nodes as a net has
pub record IsLong (net : FlatNet) (m : Marked) : Type 0 where
  pub leaves : length m.leaves ≡ length net.leaves
  pub nodes : length m.nodes ≡ length net.nodes

pub none_marked : (leaves nodes : ℕ) (v : Read) → has (no_marks leaves nodes) v ≡ true → ⊥
none_marked leaves nodes (read.Leaf k) h = none_set leaves k h
none_marked leaves nodes (read.Node k) h = none_set nodes k h

pub none_long : (net : FlatNet) → IsLong net (no_marks (length net.leaves) (length net.nodes))
none_long net = record { leaves = length-replicate (length net.leaves) false; nodes = length-replicate (length net.nodes) false }

-- one leaf or node
pub one_stays : (r v : Read) (m : Marked) → has m v ≡ true → has (marked r m) v ≡ true
one_stays (read.Leaf k) (read.Leaf j) m h = set_stays k m.leaves j h
one_stays (read.Leaf k) (read.Node j) m h = h
one_stays (read.Node k) (read.Leaf j) m h = h
one_stays (read.Node k) (read.Node j) m h = set_stays k m.nodes j h

one_cases : (r v : Read) (m : Marked) → has (marked r m) v ≡ true → (has m v ≡ true) ⊎ (r ≡ v)
one_cases (read.Leaf k) (read.Leaf j) m h = ⊎_elim (λ (o : mark_at m.leaves j ≡ true). inl o) (λ (e : k ≡ j). inr (ap read.Leaf e)) (set_cases k m.leaves j h)
one_cases (read.Leaf k) (read.Node j) m h = inl h
one_cases (read.Node k) (read.Leaf j) m h = inl h
one_cases (read.Node k) (read.Node j) m h = ⊎_elim (λ (o : mark_at m.nodes j ≡ true). inl o) (λ (e : k ≡ j). inr (ap read.Node e)) (set_cases k m.nodes j h)

module _ (net : FlatNet) where
  one_long : (r : Read) (m : Marked) → IsLong net m → IsLong net (marked r m)
  one_long (read.Leaf k) m long = record { leaves = set_long k m.leaves ∙ long.leaves; nodes = long.nodes }
  one_long (read.Node k) m long = record { leaves = long.leaves; nodes = set_long k m.nodes ∙ long.nodes }

  one_new : (r : Read) (m : Marked) → IsLong net m → IsOf net r → has (marked r m) r ≡ true
  one_new (read.Leaf k) m long of = set_new k m.leaves (omega (arith, long.leaves, of))
  one_new (read.Node k) m long of = set_new k m.nodes (omega (arith, long.nodes, of))

  pub of_marked : (v : Read) (m : Marked) → IsLong net m → has m v ≡ true → IsOf net v
  of_marked (read.Leaf k) m long h = omega (arith, long.leaves, marked_within m.leaves k h)
  of_marked (read.Node k) m long h = omega (arith, long.nodes, marked_within m.nodes k h)

-- many
pub all_stay : (rs : List Read) (v : Read) (m : Marked) → has m v ≡ true → has (marked_all rs m) v ≡ true
all_stay [] v m h = h
all_stay (r ∷ rs) v m h = all_stay rs v (marked r m) (one_stays r v m h)

pub all_cases : (rs : List Read) (v : Read) (m : Marked) → has (marked_all rs m) v ≡ true → (has m v ≡ true) ⊎ In rs v
all_cases [] v m h = inl h
all_cases (r ∷ rs) v m h =
    ⊎_elim
    (λ (o : has (marked r m) v ≡ true). ⊎_elim (λ (p : has m v ≡ true). inl p) (λ (e : r ≡ v). inr (inl e)) (one_cases r v m o))
    (λ (n : In rs v). inr (inr n))
    (all_cases rs v (marked r m) h)

module _ (net : FlatNet) where
  pub all_long : (rs : List Read) (m : Marked) → IsLong net m → IsLong net (marked_all rs m)
  all_long [] m long = long
  all_long (r ∷ rs) m long = all_long rs (marked r m) (one_long net r m long)

  pub all_new : (rs : List Read) (m : Marked) → IsLong net m → ((r : Read) → In rs r → IsOf net r) → AreMarked (marked_all rs m) rs
  all_new [] m long of r n = absurd n
  all_new (s ∷ rs) m long of r (inl e) =
      all_stay rs r (marked s m) (subst (λ (x : Read). has (marked s m) x ≡ true) e (one_new net s m long (of s (inl refl))))
  all_new (s ∷ rs) m long of r (inr n) = all_new rs (marked s m) (one_long net s m long) (λ x o. of x (inr o)) r n

pub still_marked : (rs xs : List Read) (m : Marked) → AreMarked m xs → AreMarked (marked_all rs m) xs
still_marked rs xs m h v n = all_stay rs v m (h v n)

-- one list behind another
pub marked_joined : (xs ys : List Read) (m : Marked) → marked_all (xs ++ ys) m ≡ marked_all ys (marked_all xs m)
marked_joined [] ys m = refl
marked_joined (x ∷ xs) ys m = marked_joined xs ys (marked x m)

pub marked_more : (rs : List Read) (i : ℕ) (r : Read) (m : Marked) → i < length rs → r ≡ get_or rs i r → marked_all (take (i + 1) rs) m ≡ marked r (marked_all (take i rs) m)
marked_more rs i r m within is =
    ap (λ (xs : List Read). marked_all xs m) (take_more rs i r within ∙ ap (λ s. take i rs ++ s ∷ []) (sym is)) ∙ marked_joined (take i rs) (r ∷ []) m
