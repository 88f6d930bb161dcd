-- The flat body stores at each number what the design stores at the leaf of that number.
use Rattle.std.proofs.Common.{◌≡◌, ℕ, zero, suc, ◌+◌, ◌<◌, ◌≤◌, List, [], ◌∷◌, ◌++◌, Bool, true, false, length, refl, sym, ap, ◌∙◌, arith, append_assoc, append-nil, length-append, Option, Some, None, ⊎_elim}
use Rattle.std.specs.Prelude.{drop, not, if◌then◌else◌}
use Rattle.std.proofs.lemmas.Bool.{cases_eq, eq-eqb, ne_eqb, false_from_ne_true, and_parts, and_from, eqb-true}
use Rattle.std.proofs.lemmas.Slice.Eq.{bytes_eq-Decides}
use Rattle.fir_meaning.specs.LeafPaths.{LeafPath, Step, named, element}
use Rattle.fir_meaning.specs.CountedWhens.{all_true}
use Rattle.fir_meaning.specs.working.LeafBlocks.{HeldInstance, LeafBlock, LeafStore, joined, stored_at}
use Rattle.fir_meaning.specs.working.Terms.{Term}
use Rattle.fir_meaning.specs.working.TermValues.{Holds, is_true}
use Rattle.fir_meaning.specs.working.LeafBlocks as over
use Rattle.fir_meaning.specs.working.LeafModules.{LeafDeclared, LeafModule, leaf_at}
use Rattle.fir_meaning.specs.TreeValues.{TypesByPath, ValuesByPath}
use Rattle.fir_meaning.specs.SamePaths.{same_step, same_path}
use Rattle.fir_meaning.specs.working.Designs.{Item, drive, when, instance, Items, done, then, Design, made_of}
use Rattle.fir_meaning.specs.working.DesignPaths.{instance_path, leaf_path, seen}
use Rattle.fir_meaning.specs.PathStores.{DesignStore, kept_at}
use Rattle.fir_meaning.specs.working.DesignStores.{exec_below, exec_item, exec_items, kept}
use Rattle.fir_meaning.specs.working.Numberings.{Numbering, moved, number, numbering}
use Rattle.fir_meaning.specs.working.FlatDesigns.{inner_leaves, count, count_all, array_count, array_count_all, flat, flat_all, flat_below}
use Rattle.fir_meaning.specs.working.FlatLeaves.{leaves_in, all_leaves_in, leaves_below}
use Rattle.fir_leaf.specs.working.SoundDesigns.{last_of, IsTermIn, IsWired, AreWired, IsInstance}
use Rattle.fir_leaf.proofs.MovedTerms.{Both, Stands, in_table, eval_same, leaf_same}
use Rattle.fir_leaf.proofs.FlatPlaces.{At, at_left, at_right, count_is, counts_are, held_stands, inner_at}

same_step_is : (s r : Step) → same_step s r ≡ true → s ≡ r
same_step_is (named x) (named y) h = ap named ((bytes_eq-Decides x y).0 h)
same_step_is (element i) (element j) h = ap element (eqb-true i j h)
same_step_is (named x) (element j) h = absurd (cc)
same_step_is (element i) (named y) h = absurd (cc)

pub same_path_is : (p q : LeafPath) → same_path p q ≡ true → p ≡ q
same_path_is [] [] h = refl
same_path_is [] (y ∷ ys) h = absurd (cc)
same_path_is (x ∷ xs) [] h = absurd (cc)
same_path_is (x ∷ xs) (y ∷ ys) h = let a = and_parts (same_step x y) _ h in rw (same_step_is x y a.0, same_path_is xs ys a.1) refl

same_step_refl : (s : Step) → same_step s s ≡ true
same_step_refl (named x) = (bytes_eq-Decides x x).1 refl
same_step_refl (element i) = eq-eqb i i refl

pub same_path_refl : (p : LeafPath) → same_path p p ≡ true
same_path_refl [] = refl
same_path_refl (x ∷ xs) = and_from (same_step x x) (same_path xs xs) (same_step_refl x) (same_path_refl xs)

pub drop_past : (outer taken : List Bool) (k d : ℕ) → length outer ≡ k → drop (k + d) (outer ++ taken) ≡ drop d taken
drop_past [] taken k d h = let e : k + d ≡ d = omega (arith, h) in rw e refl
drop_past (x ∷ outer) taken zero d h = absurd (omega (arith, h))
drop_past (x ∷ outer) taken (suc k) d h = let e : suc k + d ≡ suc (k + d) = omega arith in rw e (drop_past outer taken k d (omega (arith, h)))

-- with what a term gives
module _ {V : Type 0} where
  all_in_joined : (holds : Holds) (depth numbers : ℕ → ℕ) (given : ℕ → Term → V) (a b : LeafBlock) (taken : List Bool) (store : LeafStore V)
      → over.exec_all holds depth numbers given (joined a b) taken store
      ≡ over.exec_all holds depth numbers given b taken (over.exec_all holds depth numbers given a taken store)
  all_in_joined holds depth numbers given over.done b taken store = refl
  all_in_joined holds depth numbers given (over.then s a) b taken store =
      all_in_joined holds depth numbers given a b taken (over.exec holds depth numbers given s taken store)

  -- at every number of the table the same is stored, or nothing on both sides
  pub record IsSame (table : List LeafDeclared) (by_number : LeafStore V) (by_path : DesignStore V) : Type 0 where
    pub each : (k : ℕ) → k < length table → by_number k ≡ by_path (leaf_at table k).path

pub record IsOnce (table : List LeafDeclared) : Type 0 where
  pub each : (i j : ℕ) → i < length table → j < length table → (leaf_at table i).path ≡ (leaf_at table j).path → i ≡ j

abbrev pub depths : List LeafDeclared → ℕ → ℕ
depths table x = (leaf_at table x).depth

module _ {V : Type 0} (table : List LeafDeclared) (once : IsOnce table) where
  stored_each : (y : ℕ) (v : V) (p : LeafPath) (bn : LeafStore V) (bp : DesignStore V) → y < length table → (leaf_at table y).path ≡ p → IsSame table bn bp
      → IsSame table (stored_at y v bn) (kept_at p v bp)
  stored_each y v p bn bp within is same = record {
    each = λ j lt.
        ⊎_elim
        (λ (e : j ≡ y). rw (eq-eqb y j (sym e), e, is, same_path_refl p) refl)
        (λ (ne : j ≡ y → ⊥).
        rw (
          ne_eqb y j (λ q. ne (sym q)),
          false_from_ne_true (same_path p (leaf_at table j).path) (λ t. ne (once.each j y lt within (sym (same_path_is p (leaf_at table j).path t) ∙ sym is))),
        )
        (same.each j lt))
        (cases_eq j y);
  }

  stored_if : (y : ℕ) (v w : V) (c d : Bool) (p : LeafPath) (bn : LeafStore V) (bp : DesignStore V) → y < length table → (leaf_at table y).path ≡ p → c ≡ d
      → v ≡ w
      → IsSame table bn bp → IsSame table (if c then stored_at y v bn else bn) (if d then kept_at p w bp else bp)
  stored_if y v w c d p bn bp within is ec ev same = rw (ec, ev) (go d)
    where
      go : (b : Bool) → IsSame table (if b then stored_at y w bn else bn) (if b then kept_at p w bp else bp)
      go true = stored_each y w p bn bp within is same
      go false = same

  -- what a term gives to a leaf of a module, and what it gives when moved
  module _ (holds : TypesByPath) (env : ValuesByPath) (by_number : ℕ → Term → V) (by_path : LeafPath → LeafModule → ℕ → Term → V)
      (gives : (n : Numbering) (here : LeafPath) (k : ℕ) (m : LeafModule) (x : ℕ) (t : Term) → Stands table n here k m → x < length m.leaves → IsTermIn m t
      → by_number (number n x) (moved n t) ≡ by_path here m x t) where
    drive_same : (here : LeafPath) (m : LeafModule) (n : Numbering) (k0 b l : ℕ) (outer taken : List Bool) (t : Term) (o q : Option ℕ) (bn : LeafStore V)
        (bp : DesignStore V)
        → Stands table n here k0 m → length outer ≡ k0 → l < length m.leaves → Both n b l o q → IsTermIn m t → IsSame table bn bp
        → IsSame table (over.stored (in_table table holds) (depths table) (in_table table env) by_number o (moved n t) (outer ++ taken) bn)
        (kept holds env by_path here m q t taken bp)
    drive_same here m n k0 b l outer taken t None None bn bp s e lt h w same = same
    drive_same here m n k0 b l outer taken t None (Some x) bn bp s e lt h w same = absurd h
    drive_same here m n k0 b l outer taken t (Some y) None bn bp s e lt h w same = absurd h
    drive_same here m n k0 b l outer taken t (Some y) (Some x) bn bp s e lt h w same =
        let low : x ≤ l = h.2 in
        let within : x < length m.leaves = omega (arith, low, lt) in
        let path : (leaf_at table y).path ≡ leaf_path here m x = ap (λ z. (leaf_at table z).path) h.0 ∙ s.path x within in
        let depth : (leaf_at table y).depth ≡ k0 + (leaf_at m.leaves x).depth = ap (λ z. (leaf_at table z).depth) h.0 ∙ s.depth x within in
        let room : y < length table = rw h.0 (s.within x within) in
        stored_if y _ _ _ _ (leaf_path here m x) bn bp room path
        (ap (λ z. all_true (drop z (outer ++ taken))) depth ∙ ap all_true (drop_past outer taken k0 (leaf_at m.leaves x).depth e))
        (ap (λ z. by_number z (moved n t)) h.0 ∙ gives n here k0 m x t s within w)
        same

    mutual
      pub item_same : (here : LeafPath) (m : LeafModule) (n : Numbering) (free array k0 k : ℕ) (outer taken : List Bool) (i : Item) (bn : LeafStore V)
          (bp : DesignStore V)
          → Stands table n here k0 m → length outer ≡ k0 → length taken ≡ k → At table free (leaves_in here (k0 + k) m n free array i) → IsWired m k i
          → IsSame table bn bp
          → IsSame table (over.exec_all (in_table table holds) (depths table) (in_table table env) by_number (flat n free i) (outer ++ taken) bn)
          (exec_item holds env by_path here m i taken bp)
      item_same here m n free array k0 k outer taken (drive p b ps t) bn bp s eo et at w same =
          drive_same here m n k0 b (last_of b ps) outer taken t _ _ bn bp s eo w.0.within (leaf_same table holds env n here k0 m s b ps w.0 w.1) w.2 same
      item_same here m n free array k0 k outer taken (when p c a b) bn bp s eo et at w same =
          let ea : (k0 + k) + 1 ≡ k0 + (k + 1) = omega arith in
          let first : At table free (all_leaves_in here (k0 + (k + 1)) m n free array a) =
          rw ea at (at_left table (all_leaves_in here ((k0 + k) + 1) m n free array a) _ free at) in
          let second : At table (free + count_all a) (all_leaves_in here (k0 + (k + 1)) m n (free + count_all a) (array + array_count_all a) b) =
          rw (counts_are here ((k0 + k) + 1) m n free array a, ea) at
          (at_right table (all_leaves_in here ((k0 + k) + 1) m n free array a)
          (all_leaves_in here ((k0 + k) + 1) m n (free + count_all a) (array + array_count_all a) b) free at) in
          rw (
            eval_same table holds env n here k0 m s c w.0,
            append_assoc outer taken (not (is_true (seen here m holds) (seen here m env) c) ∷ []),
            append_assoc outer taken (is_true (seen here m holds) (seen here m env) c ∷ []),
          )
          (items_same here m n (free + count_all a) (array + array_count_all a) k0 (k + 1) outer _ b _ _ s eo
          (omega (arith, et, length-append taken (not (is_true (seen here m holds) (seen here m env) c) ∷ []))) second w.2
          (items_same here m n free array k0 (k + 1) outer _ a bn bp s eo
          (omega (arith, et, length-append taken (is_true (seen here m holds) (seen here m env) c ∷ []))) first w.1 same))
      item_same here m n free array k0 k outer taken (instance i d) bn bp s eo et at w same =
          below_same here m n free array k0 k (outer ++ taken) i d bn bp s (omega (arith, eo, et, length-append outer taken)) at w same

      pub items_same : (here : LeafPath) (m : LeafModule) (n : Numbering) (free array k0 k : ℕ) (outer taken : List Bool) (is : Items) (bn : LeafStore V)
          (bp : DesignStore V)
          → Stands table n here k0 m → length outer ≡ k0 → length taken ≡ k → At table free (all_leaves_in here (k0 + k) m n free array is)
          → AreWired m k is → IsSame table bn bp
          → IsSame table (over.exec_all (in_table table holds) (depths table) (in_table table env) by_number (flat_all n free is) (outer ++ taken) bn)
          (exec_items holds env by_path here m is taken bp)
      items_same here m n free array k0 k outer taken done bn bp s eo et at w same = same
      items_same here m n free array k0 k outer taken ((then) i is) bn bp s eo et at w same =
          let second : At table (free + count i) (all_leaves_in here (k0 + k) m n (free + count i) (array + array_count i) is) =
          rw (count_is here (k0 + k) m n free array i) at (at_right table (leaves_in here (k0 + k) m n free array i) _ free at) in
          rw (all_in_joined (in_table table holds) (depths table) (in_table table env) by_number (flat n free i) (flat_all n (free + count i) is)
          (outer ++ taken) bn)
          (items_same here m n (free + count i) (array + array_count i) k0 k outer taken is _ _ s eo et second w.1
          (item_same here m n free array k0 k outer taken i bn bp s eo et (at_left table (leaves_in here (k0 + k) m n free array i) _ free at) w.0 same))

      pub below_same : (here : LeafPath) (m : LeafModule) (n : Numbering) (free array k0 k : ℕ) (outer : List Bool) (i : HeldInstance) (d : Design)
          (bn : LeafStore V) (bp : DesignStore V)
          → Stands table n here k0 m → length outer ≡ k0 + k
          → At table free (leaves_below (instance_path here m i) (k0 + k) (number n i.first) free array d) → IsInstance m k i d → IsSame table bn bp
          → IsSame table (over.exec_all (in_table table holds) (depths table) (in_table table env) by_number (flat_below (number n i.first) free d) outer bn)
          (exec_below holds env by_path (instance_path here m i) d bp)
      below_same here m n free array k0 k outer i (made_of c is) bn bp s eo at w same =
          let e : outer ++ [] ≡ outer = append-nil outer in
          let z : (k0 + k) + 0 ≡ k0 + k = omega arith in
          let inner : At table (free + length (inner_leaves c))
          (all_leaves_in (instance_path here m i) ((k0 + k) + 0) c (numbering c (number n i.first) free) (free + length (inner_leaves c))
          (array + length c.arrays) is) =
          rw z (inner_at table (instance_path here m i) (k0 + k) (number n i.first) free array c is at) in
          rw e at
          (items_same (instance_path here m i) c (numbering c (number n i.first) free) (free + length (inner_leaves c)) (array + length c.arrays)
          (k0 + k) 0 outer [] is bn bp
          (held_stands table here k0 k free array n m c i _ s w.0 at) eo refl inner w.1 same)
