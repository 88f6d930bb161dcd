-- A test of whether the names of the modules of a design are their own.
use Rattle.std.proofs.Common.{◌≡◌, ℕ, zero, suc, ◌+◌, ◌-◌, ◌<◌, ◌≤◌, List, [], ◌∷◌, Bool, true, false, not, ◌&&◌, ◌||◌, map, length, refl, sym, ap, ◌∙◌, arith, nat_eq, nat_lt, nat_le, true≢false, inl, inr}
use Rattle.std.specs.Str.{bytes_eq}
use Rattle.std.proofs.lemmas.Bool.{ltb-true, leb-true, eq-eqb, and_parts}
use Rattle.std.proofs.lemmas.Slice.Eq.{bytes_eq-Decides}
use Rattle.fir_base.specs.Lists.{In, Distinct}
use Rattle.fir_ast.specs.Statements.{PlacedName}
use Rattle.fir_meaning.specs.LeafPaths.{LeafPath, named, element}
use Rattle.fir_meaning.specs.working.LeafBlocks.{HeldInstance}
use Rattle.fir_meaning.specs.working.LeafModules.{LeafArray, LeafDeclared, LeafModule, leaf_at}
use Rattle.fir_meaning.specs.SamePaths.{same_path}
use Rattle.fir_meaning.specs.working.Designs.{Item, drive, when, instance, Items, done, then, Design, made_of}
use Rattle.fir_leaf.specs.working.DesignStates.{array_at}
use Rattle.fir_leaf.specs.working.NamedDesigns.{declared_name, paths_of, IsBehind, IsPortOf, HasOwnNames, IsOwnInstance, all_instances_in, IsNamedItem, AreNamedItems, IsNamedInstance, IsNamed}
use Rattle.fir_leaf.proofs.FlatStores.{same_path_refl}
use Rattle.fir_leaf.proofs.SoundTests.{implied}

-- by a test of two elements that are the same
module _ {A : Type 0} (same : A → A → Bool) where
  abbrev pub is_absent : A → List A → Bool
  is_absent x [] = true
  is_absent x (y ∷ ys) = not (same y x) && is_absent x ys

  abbrev pub are_distinct : List A → Bool
  are_distinct [] = true
  are_distinct (x ∷ xs) = is_absent x xs && are_distinct xs

module _ {A : Type 0} (same : A → A → Bool) (decides : (x : A) → same x x ≡ true) where
  absent_by_test : (x : A) (ys : List A) → is_absent same x ys ≡ true → In ys x → ⊥
  absent_by_test x [] h among = among
  absent_by_test x (y ∷ ys) h (inl e) =
      true≢false (sym (and_parts (not (same y x)) (is_absent same x ys) h).0 ∙ ap not (ap (λ z. same y z) (sym e) ∙ decides y))
  absent_by_test x (y ∷ ys) h (inr among) = absent_by_test x ys (and_parts (not (same y x)) (is_absent same x ys) h).1 among

  pub distinct_by_test : (xs : List A) → are_distinct same xs ≡ true → Distinct xs
  distinct_by_test [] h = tt
  distinct_by_test (x ∷ xs) h = let both = and_parts (is_absent same x xs) (are_distinct same xs) h in (absent_by_test x xs both.0, distinct_by_test xs both.1)

same_name : (x : List ℕ) → bytes_eq x x ≡ true
same_name x = (bytes_eq-Decides x x).1 refl

same_number : (k : ℕ) → nat_eq k k ≡ true
same_number k = eq-eqb k k refl

abbrev pub is_behind : List ℕ → LeafPath → Bool
is_behind name (named x ∷ rest) = bytes_eq x name
is_behind name _ = false

behind_by_test : (name : List ℕ) (path : LeafPath) → is_behind name path ≡ true → IsBehind name path
behind_by_test name [] h = absurd (true≢false (sym h))
behind_by_test name (named x ∷ rest) h = record { rest = rest; is = ap (λ y. named y ∷ rest) ((bytes_eq-Decides x name).0 h) }
behind_by_test name (element i ∷ rest) h = absurd (true≢false (sym h))

abbrev pub each_leaf : (LeafDeclared → Bool) → List LeafDeclared → Bool
each_leaf is_so [] = true
each_leaf is_so (l ∷ ls) = is_so l && each_leaf is_so ls

each_at : (is_so : LeafDeclared → Bool) (ls : List LeafDeclared) → each_leaf is_so ls ≡ true → (x : ℕ) → x < length ls → is_so (leaf_at ls x) ≡ true
each_at is_so [] h x lt = absurd (omega (arith, lt))
each_at is_so (l ∷ ls) h zero lt = (and_parts (is_so l) (each_leaf is_so ls) h).0
each_at is_so (l ∷ ls) h (suc x) lt = each_at is_so ls (and_parts (is_so l) (each_leaf is_so ls) h).1 x (omega (arith, lt))

abbrev is_own_leaf : LeafModule → LeafDeclared → Bool
is_own_leaf m l = nat_lt l.declaration (length m.declared) && is_behind (declared_name m l.declaration) l.path

abbrev pub each_array : LeafModule → List LeafArray → Bool
each_array m [] = true
each_array m (a ∷ others) = nat_lt a.declaration (length m.declared) && each_array m others

array_at_test : (m : LeafModule) (arrays : List LeafArray) → each_array m arrays ≡ true → (x : ℕ) → x < length arrays
    → (array_at arrays x).declaration < length m.declared
array_at_test m [] h x lt = absurd (omega (arith, lt))
array_at_test m (a ∷ others) h zero lt = ltb-true _ _ (and_parts (nat_lt a.declaration (length m.declared)) (each_array m others) h).0
array_at_test m (a ∷ others) h (suc x) lt =
    array_at_test m others (and_parts (nat_lt a.declaration (length m.declared)) (each_array m others) h).1 x (omega (arith, lt))

abbrev pub has_own_names : LeafModule → Bool
has_own_names m =
    are_distinct bytes_eq (map (λ (n : PlacedName). n.name) m.declared)
    && (are_distinct same_path (paths_of m.leaves) && (each_leaf (is_own_leaf m) m.leaves && each_array m m.arrays))

own_leaf_at : (m : LeafModule) (x : ℕ) → each_leaf (is_own_leaf m) m.leaves ≡ true → x < length m.leaves
    → (nat_lt (leaf_at m.leaves x).declaration (length m.declared) ≡ true)
    × (is_behind (declared_name m (leaf_at m.leaves x).declaration) (leaf_at m.leaves x).path ≡ true)
own_leaf_at m x h lt = and_parts _ _ (each_at (is_own_leaf m) m.leaves h x lt)

own_by_test : (m : LeafModule) → has_own_names m ≡ true → HasOwnNames m
own_by_test m h =
    let all = and_parts (are_distinct bytes_eq (map (λ (n : PlacedName). n.name) m.declared)) _ h in
    let both = and_parts (are_distinct same_path (paths_of m.leaves)) _ all.1 in
    let last = and_parts (each_leaf (is_own_leaf m) m.leaves) (each_array m m.arrays) both.1 in
    record {
      names = distinct_by_test bytes_eq same_name _ all.0;
      paths = distinct_by_test same_path same_path_refl _ both.0;
      declared = λ x lt. ltb-true _ _ (own_leaf_at m x last.0 lt).0;
      begins = λ x lt. behind_by_test _ _ (own_leaf_at m x last.0 lt).1;
      arrays = λ x lt. array_at_test m m.arrays last.1 x lt;
    }

-- the leaves of an instance's declaration, counted from one on
abbrev pub is_port : HeldInstance → LeafModule → ℕ → LeafDeclared → Bool
is_port i c x l = not (nat_eq l.declaration i.declaration) || (nat_le i.first x && nat_lt (x - i.first) c.port_leaves)

abbrev pub are_ports : HeldInstance → LeafModule → ℕ → List LeafDeclared → Bool
are_ports i c x [] = true
are_ports i c x (l ∷ ls) = is_port i c x l && are_ports i c (suc x) ls

ports_by_test : (i : HeldInstance) (c : LeafModule) (b : ℕ) (ls : List LeafDeclared) → are_ports i c b ls ≡ true
    → (x : ℕ) → x < length ls → (leaf_at ls x).declaration ≡ i.declaration → IsPortOf i c (b + x)
ports_by_test i c b [] h x lt e = absurd (omega (arith, lt))
ports_by_test i c b (l ∷ ls) h zero lt e =
    let here = (and_parts (is_port i c b l) (are_ports i c (suc b) ls) h).0 in
    let both = and_parts (nat_le i.first b) (nat_lt (b - i.first) c.port_leaves)
    (implied (nat_eq l.declaration i.declaration) (nat_le i.first b && nat_lt (b - i.first) c.port_leaves) here (eq-eqb l.declaration i.declaration e)) in
    let le : i.first ≤ b = leb-true _ _ both.0 in
    record { port = b - i.first; within = ltb-true _ _ both.1; is = omega (arith, le) }
ports_by_test i c b (l ∷ ls) h (suc x) lt e =
    let rest = (and_parts (is_port i c b l) (are_ports i c (suc b) ls) h).1 in
    let further : suc b + x ≡ b + suc x = omega arith in
    rw further at (ports_by_test i c (suc b) ls rest x (omega (arith, lt)) e)

abbrev pub is_own_instance : LeafModule → HeldInstance → LeafModule → Bool
is_own_instance m i c = nat_lt i.declaration (length m.declared) && are_ports i c 0 m.leaves

own_instance_by_test : (m : LeafModule) (i : HeldInstance) (c : LeafModule) → is_own_instance m i c ≡ true → IsOwnInstance m i c
own_instance_by_test m i c h =
    let both = and_parts (nat_lt i.declaration (length m.declared)) (are_ports i c 0 m.leaves) h in
    record {
      declared = ltb-true _ _ both.0;
      leaves = λ x lt e. let z : 0 + x ≡ x = omega arith in rw z at (ports_by_test i c 0 m.leaves both.1 x lt e);
    }

abbrev mutual
  pub is_named_item : LeafModule → Item → Bool
  is_named_item m (drive p b ps t) = true
  is_named_item m (when p c a b) = are_named_items m a && are_named_items m b
  is_named_item m (instance i d) = is_named_instance m i d

  pub are_named_items : LeafModule → Items → Bool
  are_named_items m done = true
  are_named_items m ((then) i is) = is_named_item m i && are_named_items m is

  pub is_named_instance : LeafModule → HeldInstance → Design → Bool
  is_named_instance m i (made_of c is) =
      is_own_instance m i c && (has_own_names c && (are_distinct nat_eq (all_instances_in is) && are_named_items c is))

mutual
  item_by_test : (m : LeafModule) (i : Item) → is_named_item m i ≡ true → IsNamedItem m i
  item_by_test m (drive p b ps t) h = tt
  item_by_test m (when p c a b) h = let both = and_parts (are_named_items m a) (are_named_items m b) h in (items_by_test m a both.0, items_by_test m b both.1)
  item_by_test m (instance i d) h = instance_by_test m i d h

  items_by_test : (m : LeafModule) (is : Items) → are_named_items m is ≡ true → AreNamedItems m is
  items_by_test m done h = tt
  items_by_test m ((then) i is) h = let both = and_parts (is_named_item m i) (are_named_items m is) h in (item_by_test m i both.0, items_by_test m is both.1)

  instance_by_test : (m : LeafModule) (i : HeldInstance) (d : Design) → is_named_instance m i d ≡ true → IsNamedInstance m i d
  instance_by_test m i (made_of c is) h =
      let first = and_parts (is_own_instance m i c) _ h in
      let next = and_parts (has_own_names c) _ first.1 in
      let last = and_parts (are_distinct nat_eq (all_instances_in is)) _ next.1 in
      (own_instance_by_test m i c first.0, own_by_test c next.0, distinct_by_test nat_eq same_number _ last.0, items_by_test c is last.1)

abbrev pub is_named : Design → Bool
is_named (made_of m is) = has_own_names m && (are_distinct nat_eq (all_instances_in is) && are_named_items m is)

pub named_by_test : (d : Design) → is_named d ≡ true → IsNamed d
named_by_test (made_of m is) h =
    let first = and_parts (has_own_names m) _ h in
    let last = and_parts (are_distinct nat_eq (all_instances_in is)) _ first.1 in
    (own_by_test m first.0, distinct_by_test nat_eq same_number _ last.0, items_by_test m is last.1)
