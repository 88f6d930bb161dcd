-- The paths of a design are distinct where the names of each module are its own.
use Rattle.std.proofs.Common.{◌≡◌, ℕ, zero, suc, ◌+◌, ◌<◌, List, [], ◌∷◌, ◌++◌, map, length, refl, sym, ap, ap₂, ◌∙◌, arith, subst, append_assoc, inl, inr, ⊎_elim}
use Rattle.std.specs.Prelude.{slice_index_or}
use Rattle.std.proofs.lemmas.List.{length-take, get_or-take, map-append, take-append-drop}
use Rattle.std.proofs.lemmas.Simd.{map-map}
use Rattle.fir_base.specs.Lists.{In, Distinct}
use Rattle.fir_base.proofs.Members.{in_either, in_map, in_map_from, in_left, in_right, map_same}
use Rattle.fir_base.proofs.Twins.{apart, distinct_joined, distinct_left, distinct_right}
use Rattle.fir_ast.specs.Statements.{PlacedName}
use Rattle.fir_meaning.specs.LeafPaths.{LeafPath, Step, named}
use Rattle.fir_meaning.specs.working.LeafBlocks.{HeldInstance}
use Rattle.fir_meaning.specs.working.LeafModules.{LeafDeclared, LeafModule, leaf_at, no_leaf}
use Rattle.fir_meaning.specs.working.Designs.{Item, drive, when, instance, Items, done, then, Design, made_of}
use Rattle.fir_meaning.specs.working.DesignPaths.{instance_name, instance_path, no_name}
use Rattle.fir_meaning.specs.working.Numberings.{Numbering, number, numbering}
use Rattle.fir_meaning.specs.working.FlatDesigns.{inner_leaves, count, count_all, array_count, array_count_all}
use Rattle.fir_meaning.specs.working.FlatLeaves.{placed_leaf, leaves_in, all_leaves_in, leaves_below}
use Rattle.fir_meaning.specs.working.Flattened.{flattened, port_leaves}
use Rattle.fir_leaf.specs.working.SoundDesigns.{IsHeld, IsWired, AreWired, IsInstance}
use Rattle.fir_leaf.specs.working.NamedDesigns.{declared_name, paths_of, IsBehind, IsPortOf, HasOwnNames, IsOwnInstance, instances_in, all_instances_in, IsNamedItem, AreNamedItems, IsNamedInstance}
use Rattle.fir_leaf.specs.working.DesignLaws.{NamesMakeSound}

-- the paths of the leaves of a design that are no ports, in its main module
abbrev mutual
  pub inner_paths : LeafModule → Item → List LeafPath
  inner_paths m (drive p b ps t) = []
  inner_paths m (when p c a b) = all_inner_paths m a ++ all_inner_paths m b
  inner_paths m (instance i d) = map (λ (q : LeafPath). named (instance_name m i) ∷ q) (paths_below d)

  pub all_inner_paths : LeafModule → Items → List LeafPath
  all_inner_paths m done = []
  all_inner_paths m ((then) i is) = inner_paths m i ++ all_inner_paths m is

  pub paths_below : Design → List LeafPath
  paths_below (made_of m is) = paths_of (inner_leaves m) ++ all_inner_paths m is

abbrev behind : LeafPath → List LeafPath → List LeafPath
behind path qs = map (λ (q : LeafPath). path ++ q) qs

-- they are so, behind the path of the instance
mutual
  item_paths : (path : LeafPath) (k : ℕ) (m : LeafModule) (n : Numbering) (free array : ℕ) (i : Item)
      → paths_of (leaves_in path k m n free array i) ≡ behind path (inner_paths m i)
  item_paths path k m n free array (drive p b ps t) = refl
  item_paths path k m n free array (when p c a b) =
      map-append _ (all_leaves_in path (k + 1) m n free array a) (all_leaves_in path (k + 1) m n (free + count_all a) (array + array_count_all a) b)
      ∙ ap₂ (λ xs ys. xs ++ ys) (items_paths path (k + 1) m n free array a) (items_paths path (k + 1) m n (free + count_all a) (array + array_count_all a) b)
      ∙ sym (map-append _ (all_inner_paths m a) (all_inner_paths m b))
  item_paths path k m n free array (instance i d) =
      design_paths (instance_path path m i) k (number n i.first) free array d
      ∙ map_same _ _ (paths_below d) (λ q h. append_assoc path (named (instance_name m i) ∷ []) q)
      ∙ sym (map-map (λ (q : LeafPath). path ++ q) (λ (q : LeafPath). named (instance_name m i) ∷ q) (paths_below d))

  items_paths : (path : LeafPath) (k : ℕ) (m : LeafModule) (n : Numbering) (free array : ℕ) (is : Items)
      → paths_of (all_leaves_in path k m n free array is) ≡ behind path (all_inner_paths m is)
  items_paths path k m n free array done = refl
  items_paths path k m n free array ((then) i is) =
      map-append _ (leaves_in path k m n free array i) (all_leaves_in path k m n (free + count i) (array + array_count i) is)
      ∙ ap₂ (λ xs ys. xs ++ ys) (item_paths path k m n free array i) (items_paths path k m n (free + count i) (array + array_count i) is)
      ∙ sym (map-append _ (inner_paths m i) (all_inner_paths m is))

  design_paths : (path : LeafPath) (k first free array : ℕ) (d : Design) → paths_of (leaves_below path k first free array d) ≡ behind path (paths_below d)
  design_paths path k first free array (made_of m is) =
      map-append _ (map (placed_leaf path k (numbering m first free) array) (inner_leaves m))
      (all_leaves_in path k m (numbering m first free) (free + length (inner_leaves m)) (array + length m.arrays) is)
      ∙ ap₂ (λ xs ys. xs ++ ys)
      (map-map (λ (l : LeafDeclared). l.path) (placed_leaf path k (numbering m first free) array) (inner_leaves m)
      ∙ sym (map-map (λ (q : LeafPath). path ++ q) (λ (l : LeafDeclared). l.path) (inner_leaves m)))
      (items_paths path k m (numbering m first free) (free + length (inner_leaves m)) (array + length m.arrays) is)
      ∙ sym (map-append _ (paths_of (inner_leaves m)) (all_inner_paths m is))

-- each begins with the name of an instance
pub record BeginsIn (m : LeafModule) (instances : List ℕ) (q : LeafPath) : Type 0 where
  pub declaration : ℕ
  pub among : In instances declaration
  pub within : declaration < length m.declared
  pub is : IsBehind (declared_name m declaration) q

more_left : (m : LeafModule) (xs ys : List ℕ) (q : LeafPath) → BeginsIn m xs q → BeginsIn m (xs ++ ys) q
more_left m xs ys q h = record { declaration = h.declaration; among = in_left xs ys h.declaration h.among; within = h.within; is = h.is }

more_right : (m : LeafModule) (xs ys : List ℕ) (q : LeafPath) → BeginsIn m ys q → BeginsIn m (xs ++ ys) q
more_right m xs ys q h = record { declaration = h.declaration; among = in_right xs ys h.declaration h.among; within = h.within; is = h.is }

mutual
  item_begins : (m : LeafModule) (i : Item) → IsNamedItem m i → (q : LeafPath) → In (inner_paths m i) q → BeginsIn m (instances_in i) q
  item_begins m (drive p b ps t) h q among = absurd among
  item_begins m (when p c a b) h q among =
      ⊎_elim
      (λ (l : In (all_inner_paths m a) q). more_left m (all_instances_in a) (all_instances_in b) q (items_begin m a h.0 q l))
      (λ (r : In (all_inner_paths m b) q). more_right m (all_instances_in a) (all_instances_in b) q (items_begin m b h.1 q r))
      (in_either (all_inner_paths m a) (all_inner_paths m b) q among)
  item_begins m (instance i d) h q among = instance_begins m i d h q among

  pub items_begin : (m : LeafModule) (is : Items) → AreNamedItems m is → (q : LeafPath) → In (all_inner_paths m is) q → BeginsIn m (all_instances_in is) q
  items_begin m done h q among = absurd among
  items_begin m ((then) i is) h q among =
      ⊎_elim
      (λ (l : In (inner_paths m i) q). more_left m (instances_in i) (all_instances_in is) q (item_begins m i h.0 q l))
      (λ (r : In (all_inner_paths m is) q). more_right m (instances_in i) (all_instances_in is) q (items_begin m is h.1 q r))
      (in_either (inner_paths m i) (all_inner_paths m is) q among)

  instance_begins : (m : LeafModule) (i : HeldInstance) (d : Design) → IsNamedInstance m i d → (q : LeafPath)
      → In (map (λ (r : LeafPath). named (instance_name m i) ∷ r) (paths_below d)) q → BeginsIn m (i.declaration ∷ []) q
  instance_begins m i (made_of c is) h q among =
      let from = in_map_from (λ (r : LeafPath). named (instance_name m i) ∷ r) (paths_below (made_of c is)) q among in
      record { declaration = i.declaration; among = inl refl; within = h.0.declared; is = record { rest = from.0; is = sym from.2 } }

-- the elements of a list by their numbers
pub in_at : {A : Type 0} (xs : List A) (a d : A) → In xs a → (x : ℕ) × (x < length xs) × (slice_index_or xs x d ≡ a)
in_at [] a d h = absurd h
in_at (y ∷ ys) a d (inl e) = (0, omega arith, e)
in_at (y ∷ ys) a d (inr h) = let r = in_at ys a d h in (suc r.0, omega (arith, r.1), r.2)

pub at_in : {A : Type 0} (xs : List A) (d : A) (x : ℕ) → x < length xs → In xs (slice_index_or xs x d)
at_in [] d x lt = absurd (omega (arith, lt))
at_in (y ∷ ys) d zero lt = inl refl
at_in (y ∷ ys) d (suc x) lt = inr (at_in ys d x (omega (arith, lt)))

-- what is said of each by a function that tells them apart
one_number : {A B : Type 0} (f : A → B) (xs : List A) (d : A) → Distinct (map f xs) → (j k : ℕ) → j < length xs → k < length xs
    → f (slice_index_or xs j d) ≡ f (slice_index_or xs k d) → j ≡ k
one_number f [] d h j k lt lu e = absurd (omega (arith, lt))
one_number f (x ∷ xs) d h zero zero lt lu e = refl
one_number f (x ∷ xs) d h zero (suc k) lt lu e =
    absurd (h.0 (subst (In (map f xs)) (sym e) (in_map f xs (slice_index_or xs k d) (at_in xs d k (omega (arith, lu))))))
one_number f (x ∷ xs) d h (suc j) zero lt lu e =
    absurd (h.0 (subst (In (map f xs)) e (in_map f xs (slice_index_or xs j d) (at_in xs d j (omega (arith, lt))))))
one_number f (x ∷ xs) d h (suc j) (suc k) lt lu e = ap suc (one_number f xs d h.1 j k (omega (arith, lt)) (omega (arith, lu)) e)

-- no two declarations of a module have one name
one_declaration : (m : LeafModule) → HasOwnNames m → (j k : ℕ) → j < length m.declared → k < length m.declared → declared_name m j ≡ declared_name m k → j ≡ k
one_declaration m own j k lt lu e = one_number (λ (n : PlacedName). n.name) m.declared no_name own.names j k lt lu e

distinct_behind : (s : Step) (qs : List LeafPath) → Distinct qs → Distinct (map (λ (q : LeafPath). s ∷ q) qs)
distinct_behind s [] h = tt
distinct_behind s (q ∷ qs) h = (
  λ among.
      let from = in_map_from (λ (r : LeafPath). s ∷ r) qs (s ∷ q) among in
      let e : from.0 ≡ q = cc in
      h.0 (subst (In qs) e from.1),
  distinct_behind s qs h.1,
)

-- paths that are distinct, and those of no leaf of the module
pub record IsApart (m : LeafModule) (qs : List LeafPath) : Type 0 where
  pub distinct : Distinct qs
  pub apart : (q : LeafPath) → In (paths_of m.leaves) q → In qs q → ⊥

apart_joined : (m : LeafModule) (xs ys : List ℕ) (ps qs : List LeafPath) → HasOwnNames m → Distinct (xs ++ ys)
    → ((q : LeafPath) → In ps q → BeginsIn m xs q) → ((q : LeafPath) → In qs q → BeginsIn m ys q) → IsApart m ps → IsApart m qs → IsApart m (ps ++ qs)
apart_joined m xs ys ps qs own once left right hp hq = record {
  distinct = distinct_joined ps qs hp.distinct hq.distinct both;
  apart = λ q among h. ⊎_elim (λ (l : In ps q). hp.apart q among l) (λ (r : In qs q). hq.apart q among r) (in_either ps qs q h);
}
  where
    both : (q : LeafPath) → In ps q → In qs q → ⊥
    both q l r =
        let a = left q l in
        let b = right q r in
        let firsts : named (declared_name m a.declaration) ∷ a.is.rest ≡ named (declared_name m b.declaration) ∷ b.is.rest = sym a.is.is ∙ b.is.is in
        let names : declared_name m a.declaration ≡ declared_name m b.declaration = cc in
        let e : b.declaration ≡ a.declaration = sym (one_declaration m own a.declaration b.declaration a.within b.within names) in
        apart xs ys once a.declaration a.among (subst (In ys) e b.among)

-- the leaves of the ports stand before the others
parted : (c : LeafModule) (qs : List LeafPath) → paths_of c.leaves ++ qs ≡ paths_of (port_leaves c) ++ (paths_of (inner_leaves c) ++ qs)
parted c qs =
    let whole : port_leaves c ++ inner_leaves c ≡ c.leaves = take-append-drop c.port_leaves c.leaves in
    let parts : paths_of c.leaves ≡ paths_of (port_leaves c) ++ paths_of (inner_leaves c) =
    ap paths_of (sym whole) ∙ map-append _ (port_leaves c) (inner_leaves c) in
    ap (λ ps. ps ++ qs) parts ∙ append_assoc (paths_of (port_leaves c)) (paths_of (inner_leaves c)) qs

split : (c : LeafModule) (qs : List LeafPath) → Distinct (paths_of c.leaves ++ qs) → Distinct (paths_of (port_leaves c) ++ (paths_of (inner_leaves c) ++ qs))
split c qs h = subst Distinct (parted c qs) h

-- a leaf of the module whose path begins with an instance's name is one of the instance's ports
port_at : (m : LeafModule) (k : ℕ) (i : HeldInstance) (c : LeafModule) → HasOwnNames m → IsHeld m k i c → IsOwnInstance m i c → (q : LeafPath) (x : ℕ)
    → x < length m.leaves → (leaf_at m.leaves x).path ≡ named (instance_name m i) ∷ q → In (paths_of (port_leaves c)) q
port_at m k i c own held h q x lt path =
    let begins = own.begins x lt in
    let firsts : named (declared_name m (leaf_at m.leaves x).declaration) ∷ begins.rest ≡ named (instance_name m i) ∷ q = sym begins.is ∙ path in
    let names : declared_name m (leaf_at m.leaves x).declaration ≡ declared_name m i.declaration = cc in
    let e : (leaf_at m.leaves x).declaration ≡ i.declaration =
    one_declaration m own (leaf_at m.leaves x).declaration i.declaration (own.declared x lt) h.declared names in
    port_in (h.leaves x lt e)
  where
    port_in : IsPortOf i c x → In (paths_of (port_leaves c)) q
    port_in port =
        let here : (leaf_at m.leaves (i.first + port.port)).path ≡ named (instance_name m i) ∷ q = ap (λ z. (leaf_at m.leaves z).path) (sym port.is) ∙ path in
        let both : named (instance_name m i) ∷ (leaf_at c.leaves port.port).path ≡ named (instance_name m i) ∷ q =
        sym (held.path port.port port.within) ∙ here in
        let is : (leaf_at c.leaves port.port).path ≡ q = cc in
        let long : length (port_leaves c) ≡ c.port_leaves = omega (arith, held.ports, length-take c.port_leaves c.leaves) in
        let same : leaf_at (port_leaves c) port.port ≡ leaf_at c.leaves port.port = get_or-take c.port_leaves c.leaves port.port no_leaf port.within in
        subst (In (paths_of (port_leaves c))) (ap (λ (l : LeafDeclared). l.path) same ∙ is)
        (in_map (λ (l : LeafDeclared). l.path) (port_leaves c) (leaf_at (port_leaves c) port.port)
        (at_in (port_leaves c) no_leaf port.port (omega (arith, long, port.within))))

port_among : (m : LeafModule) (k : ℕ) (i : HeldInstance) (c : LeafModule) → HasOwnNames m → IsHeld m k i c → IsOwnInstance m i c → (q : LeafPath)
    → In (paths_of m.leaves) (named (instance_name m i) ∷ q) → In (paths_of (port_leaves c)) q
port_among m k i c own held h q among =
    let from = in_map_from (λ (l : LeafDeclared). l.path) m.leaves (named (instance_name m i) ∷ q) among in
    let at = in_at m.leaves from.0 no_leaf from.1 in
    port_at m k i c own held h q at.0 at.1 (ap (λ (l : LeafDeclared). l.path) at.2 ∙ from.2)

mutual
  item_apart : (m : LeafModule) (k : ℕ) (i : Item) → HasOwnNames m → Distinct (instances_in i) → IsWired m k i → IsNamedItem m i → IsApart m (inner_paths m i)
  item_apart m k (drive p b ps t) own once w h = record { distinct = tt; apart = λ q among none. none }
  item_apart m k (when p c a b) own once w h =
      apart_joined m (all_instances_in a) (all_instances_in b) (all_inner_paths m a) (all_inner_paths m b) own once (items_begin m a h.0) (items_begin m b h.1)
      (items_apart m (k + 1) a own (distinct_left (all_instances_in a) (all_instances_in b) once) w.1 h.0)
      (items_apart m (k + 1) b own (distinct_right (all_instances_in a) (all_instances_in b) once) w.2 h.1)
  item_apart m k (instance i d) own once w h = instance_apart m k i d own w h

  items_apart : (m : LeafModule) (k : ℕ) (is : Items) → HasOwnNames m → Distinct (all_instances_in is) → AreWired m k is → AreNamedItems m is
      → IsApart m (all_inner_paths m is)
  items_apart m k done own once w h = record { distinct = tt; apart = λ q among none. none }
  items_apart m k ((then) i is) own once w h =
      apart_joined m (instances_in i) (all_instances_in is) (inner_paths m i) (all_inner_paths m is) own once (item_begins m i h.0) (items_begin m is h.1)
      (item_apart m k i own (distinct_left (instances_in i) (all_instances_in is) once) w.0 h.0)
      (items_apart m k is own (distinct_right (instances_in i) (all_instances_in is) once) w.1 h.1)

  instance_apart : (m : LeafModule) (k : ℕ) (i : HeldInstance) (d : Design) → HasOwnNames m → IsInstance m k i d → IsNamedInstance m i d
      → IsApart m (map (λ (q : LeafPath). named (instance_name m i) ∷ q) (paths_below d))
  instance_apart m k i (made_of c is) own w h =
      let inner : IsApart c (all_inner_paths c is) = items_apart c 0 is h.1 h.2 w.1 h.3 in
      let whole : Distinct (paths_of c.leaves ++ all_inner_paths c is) =
      distinct_joined (paths_of c.leaves) (all_inner_paths c is) h.1.paths inner.distinct inner.apart in
      let parts : Distinct (paths_of (port_leaves c) ++ paths_below (made_of c is)) = split c (all_inner_paths c is) whole in
      record {
        distinct =
            distinct_behind (named (instance_name m i)) (paths_below (made_of c is))
            (distinct_right (paths_of (port_leaves c)) (paths_below (made_of c is)) parts);
        apart = λ p among inside.
            let from = in_map_from (λ (r : LeafPath). named (instance_name m i) ∷ r) (paths_below (made_of c is)) p inside in
            let port = port_among m k i c own w.0 h.0 from.0 (subst (In (paths_of m.leaves)) (sym from.2) among) in
            apart (paths_of (port_leaves c)) (paths_below (made_of c is)) parts from.0 port from.1;
      }

same_list : (qs : List LeafPath) → map (λ (q : LeafPath). [] ++ q) qs ≡ qs
same_list [] = refl
same_list (q ∷ qs) = ap (λ rest. q ∷ rest) (same_list qs)

-- the paths of all leaves: those of the main module, and of its instances
pub flat_paths : (m : LeafModule) (is : Items) → paths_of (flattened (made_of m is)).leaves ≡ paths_of m.leaves ++ all_inner_paths m is
flat_paths m is =
    map-append _ (port_leaves m) (leaves_below [] 0 0 m.port_leaves 0 (made_of m is))
    ∙ ap (λ qs. paths_of (port_leaves m) ++ qs) (design_paths [] 0 0 m.port_leaves 0 (made_of m is) ∙ same_list (paths_below (made_of m is)))
    ∙ sym (parted m (all_inner_paths m is))

pub names_make_sound : NamesMakeSound
names_make_sound (made_of m is) w h =
    let inner : IsApart m (all_inner_paths m is) = items_apart m 0 is h.0 h.1 w.1 h.2 in
    let whole : Distinct (paths_of m.leaves ++ all_inner_paths m is) =
    distinct_joined (paths_of m.leaves) (all_inner_paths m is) h.0.paths inner.distinct inner.apart in
    record {
      wired = w;
      once = one_number (λ (l : LeafDeclared). l.path) (flattened (made_of m is)).leaves no_leaf (subst Distinct (sym (flat_paths m is)) whole);
    }
