-- Where the arrays of memories stand among all arrays, where the memories stand in order.
use Rattle.std.proofs.Common.{◌≡◌, ℕ, zero, suc, ◌+◌, ◌<◌, ◌≤◌, List, [], ◌∷◌, ◌++◌, flat_map, length, slice_get, Some, refl, sym, ap, ◌∙◌, subst, arith, inl, inr, ◌⊎◌, ⊎_elim}
use Rattle.std.proofs.lemmas.Option.{slice_get_within}
use Rattle.fir_base.specs.Lists.{In}
use Rattle.fir_leaf.proofs.LeafPlaces.{get_left, get_right}
use Rattle.fir_meaning.specs.working.LeafMemories.{array_count}
use Rattle.fir_memory_types.proofs.MemoryVisits.{Along, MemoryVisit, arrays_among}

-- an element of joined lists, or one behind the first
pub part_of : {A : Type 0} → (xs ys : List A) (k : ℕ) (x : A) → slice_get (xs ++ ys) k ≡ Some x
    → (slice_get xs k ≡ Some x) ⊎ ((j : ℕ) × (k ≡ length xs + j) × (slice_get ys j ≡ Some x))
part_of [] ys k x e = inr (k, omega arith, e)
part_of (z ∷ xs) ys zero x e = inl e
part_of (z ∷ xs) ys (suc k) x e =
    ⊎_elim (λ (h : slice_get xs k ≡ Some x). inl h)
    (λ (h : (j : ℕ) × (k ≡ length xs + j) × (slice_get ys j ≡ Some x)). inr (h.0, omega (arith, h.1), h.2)) (part_of xs ys k x e)

abbrev pub first_array_of : MemoryVisit → ℕ
first_array_of v = arrays_among v.before.declared

abbrev pub count_of : MemoryVisit → ℕ
count_of v = array_count v.parts

-- one of two memories stands before the other
pub record StandsBefore (v w : MemoryVisit) : Type 0 where
  pub declared : length v.before.declared < length w.before.declared
  pub arrays : first_array_of v + count_of v ≤ first_array_of w

later : (low n : ℕ) (vs : List MemoryVisit) (high m : ℕ) → Along low n vs high m → (v : MemoryVisit) → In vs v
    → (low ≤ length v.before.declared) × (n ≤ first_array_of v) × (length v.before.declared < high)
later low n [] high m h v i = absurd i
later low n (x ∷ vs) high m h v (inl e) =
    subst (λ y. (low ≤ length y.before.declared) × (n ≤ first_array_of y) × (length y.before.declared < high)) e
    (h.0, omega (arith, h.1), ends (suc (length x.before.declared)) (n + array_count x.parts) vs high m h.2)
  where
    ends : (a k : ℕ) (ws : List MemoryVisit) (b j : ℕ) → Along a k ws b j → a ≤ b
    ends a k [] b j g = g.0
    ends a k (w ∷ ws) b j g = let rest = ends (suc (length w.before.declared)) (k + array_count w.parts) ws b j g.2 in omega (arith, g.0, rest)
later low n (x ∷ vs) high m h v (inr i) =
    let r = later (suc (length x.before.declared)) (n + array_count x.parts) vs high m h.2 v i in
    (omega (arith, h.0, r.0), omega (arith, r.1), r.2)

pub declared_below : (low n : ℕ) (vs : List MemoryVisit) (high m : ℕ) → Along low n vs high m → (v : MemoryVisit) → In vs v → length v.before.declared < high
declared_below low n vs high m h v i = (later low n vs high m h v i).2

first_before : (low n : ℕ) (x : MemoryVisit) (vs : List MemoryVisit) (high m : ℕ) → Along low n (x ∷ vs) high m → (w : MemoryVisit) → In vs w
    → StandsBefore x w
first_before low n x vs high m h w i =
    let r = later (suc (length x.before.declared)) (n + array_count x.parts) vs high m h.2 w i in
    record { declared = omega (arith, r.0); arrays = omega (arith, r.1, h.1) }

pub apart : (low n : ℕ) (vs : List MemoryVisit) (high m : ℕ) → Along low n vs high m → (v w : MemoryVisit) → In vs v → In vs w
    → (v ≡ w) ⊎ (StandsBefore v w ⊎ StandsBefore w v)
apart low n [] high m h v w i j = absurd i
apart low n (x ∷ vs) high m h v w (inl e) (inl f) = inl (sym e ∙ f)
apart low n (x ∷ vs) high m h v w (inl e) (inr j) = inr (inl (subst (λ y. StandsBefore y w) e (first_before low n x vs high m h w j)))
apart low n (x ∷ vs) high m h v w (inr i) (inl f) = inr (inr (subst (λ y. StandsBefore y v) f (first_before low n x vs high m h v i)))
apart low n (x ∷ vs) high m h v w (inr i) (inr j) = apart (suc (length x.before.declared)) (n + array_count x.parts) vs high m h.2 v w i j

-- arrays of one number are of one memory
pub same_memory : (low n : ℕ) (vs : List MemoryVisit) (high m : ℕ) → Along low n vs high m → (v w : MemoryVisit) → In vs v → In vs w
    → (i j : ℕ) → i < count_of v → j < count_of w → first_array_of v + i ≡ first_array_of w + j → v ≡ w
same_memory low n vs high m h v w iv iw i j li lj e =
    ⊎_elim (λ (same : v ≡ w). same)
    (λ (b : StandsBefore v w ⊎ StandsBefore w v).
    ⊎_elim (λ (f : StandsBefore v w). absurd (omega (arith, f.arrays, li, e))) (λ (f : StandsBefore w v). absurd (omega (arith, f.arrays, lj, e))) b)
    (apart low n vs high m h v w iv iw)

-- with as many arrays as are counted
module _ {A : Type 0} (arrays_of : MemoryVisit → List A) (long : (v : MemoryVisit) → length (arrays_of v) ≡ array_count v.parts) where
  -- the memory of an array
  pub record Found (vs : List MemoryVisit) (number : ℕ) (a : A) : Type 0 where
    pub visit : MemoryVisit
    pub among : In vs visit
    pub at : ℕ
    pub is_there : slice_get (arrays_of visit) at ≡ Some a
    pub below : at < count_of visit
    pub is : number ≡ first_array_of visit + at

  found_from : (low n : ℕ) (vs : List MemoryVisit) (high m : ℕ) → Along low n vs high m → (k : ℕ) (a : A) → slice_get (flat_map arrays_of vs) k ≡ Some a
      → Found vs (n + k) a
  found_from low n [] high m h k a e = absurd (cc)
  found_from low n (x ∷ vs) high m h k a e =
      ⊎_elim
      (λ (here : slice_get (arrays_of x) k ≡ Some a).
      record {
        visit = x;
        among = inl refl;
        at = k;
        is_there = here;
        below = omega (arith, slice_get_within (arrays_of x) k a here, long x);
        is = omega (arith, h.1);
      })
      (λ (more : (j : ℕ) × (k ≡ length (arrays_of x) + j) × (slice_get (flat_map arrays_of vs) j ≡ Some a)).
      let r = found_from (suc (length x.before.declared)) (n + array_count x.parts) vs high m h.2 more.0 a more.2 in
      record {
        visit = r.visit;
        among = inr r.among;
        at = r.at;
        is_there = r.is_there;
        below = r.below;
        is = omega (arith, r.is, more.1, long x);
      })
      (part_of (arrays_of x) (flat_map arrays_of vs) k a e)

  pub found : (low : ℕ) (vs : List MemoryVisit) (high m : ℕ) → Along low 0 vs high m → (k : ℕ) (a : A) → slice_get (flat_map arrays_of vs) k ≡ Some a
      → Found vs k a
  found low vs high m h k a e = let none : 0 + k ≡ k = omega arith in subst (λ x. Found vs x a) none (found_from low 0 vs high m h k a e)

  -- and where those of a memory stand
  there_from : (low n : ℕ) (vs : List MemoryVisit) (high m : ℕ) → Along low n vs high m → (v : MemoryVisit) → In vs v → (i : ℕ) (a : A)
      → slice_get (arrays_of v) i ≡ Some a → (k : ℕ) × (slice_get (flat_map arrays_of vs) k ≡ Some a) × (n + k ≡ first_array_of v + i)
  there_from low n [] high m h v among i a e = absurd among
  there_from low n (x ∷ vs) high m h v (inl same) i a e =
      let here : slice_get (arrays_of x) i ≡ Some a = subst (λ y. slice_get (arrays_of y) i ≡ Some a) (sym same) e in
      (i, get_left (arrays_of x) (flat_map arrays_of vs) i a here, ap (λ k. k + i) h.1 ∙ ap (λ y. first_array_of y + i) same)
  there_from low n (x ∷ vs) high m h v (inr among) i a e =
      let r = there_from (suc (length x.before.declared)) (n + array_count x.parts) vs high m h.2 v among i a e in
      (array_count x.parts + r.0, get_right (arrays_of x) (flat_map arrays_of vs) (array_count x.parts) r.0 (long x) ∙ r.1, omega (arith, r.2))

  pub stands_there : (low : ℕ) (vs : List MemoryVisit) (high m : ℕ) → Along low 0 vs high m → (v : MemoryVisit) → In vs v → (i : ℕ) (a : A)
      → slice_get (arrays_of v) i ≡ Some a → slice_get (flat_map arrays_of vs) (first_array_of v + i) ≡ Some a
  stands_there low vs high m h v among i a e =
      let r = there_from low 0 vs high m h v among i a e in
      let same : r.0 ≡ first_array_of v + i = omega (arith, r.2) in
      subst (λ k. slice_get (flat_map arrays_of vs) k ≡ Some a) same r.1
