-- The leaves of the modules of a design that are no ports stand one copy behind the other, each with its path behind that of its instance.
use Rattle.std.proofs.Common.{◌≡◌, ℕ, ◌+◌, List, [], ◌∷◌, ◌++◌, codes, take, flat_map, length, map, refl, sym, ap, ap₂, ◌∙◌, subst, arith, append_assoc, length-append}
use Rattle.std.proofs.lemmas.List.{length-map, map-append, take-append-drop}
use Rattle.std.proofs.lemmas.List.Concat.{flat_map-append}
use Rattle.std.proofs.lemmas.Simd.{map-map}
use Rattle.fir_base.specs.Lists.{In}
use Rattle.fir_base.proofs.Members.{in_right, map_same}
use Rattle.fir_copies.specs.working.Copies.{Copy, all_copies_in, copies_below, copies_in}
use Rattle.fir_elaborate.specs.declared.elaborated.ModuleCopy.{ModuleCopy}
use Rattle.fir_elaborate.specs.working.CopyPaths.{all_paths_in, paths_below, paths_in, prefix_text}
use Rattle.fir_elaborate.specs.working.Elaborations.{copy_seen}
use Rattle.fir_leaf.proofs.OncePaths.{in_at}
use Rattle.fir_leaf.specs.working.NamedDesigns.{AreNamedItems, HasOwnNames, IsBehind, IsNamedItem}
use Rattle.fir_meaning.specs.LeafPaths.{LeafPath, element, named, path_text, step_text}
use Rattle.fir_meaning.specs.ModuleScenes.{Scene}
use Rattle.fir_meaning.specs.working.DesignPaths.{instance_path}
use Rattle.fir_meaning.specs.working.Designs.{AreItemsIn, Design, IsDesignOf, IsItemIn, Item, Items, done, drive, instance, made_of, module_of, then, when}
use Rattle.fir_meaning.specs.working.Elaborated.{views}
use Rattle.fir_meaning.specs.working.FlatDesigns.{array_count, array_count_all, count, count_all, count_below, inner_leaves}
use Rattle.fir_meaning.specs.working.FlatLeaves.{all_leaves_in, leaves_below, leaves_in, placed_leaf}
use Rattle.fir_meaning.specs.working.LeafModules.{LeafDeclared, LeafModule, no_leaf}
use Rattle.fir_meaning.specs.working.Numberings.{Numbering, number, numbering}
use Rattle.fir_flatten.specs.working.DesignNets.{AreBehind, LeafSeen, leaves_of_copy, seen_behind}

-- a path behind another as it is printed
joined_text : (y steps dot x more : List ℕ) → y ++ (steps ++ ((dot ++ x) ++ more)) ≡ ((y ++ steps) ++ dot) ++ (x ++ more)
joined_text y steps dot x more = simp append_assoc refl

steps_joined : (steps : LeafPath) (x : List ℕ) (more : LeafPath)
    → flat_map step_text (steps ++ named x ∷ more) ≡ flat_map step_text steps ++ ((codes "." ++ x) ++ flat_map step_text more)
steps_joined steps x more = flat_map-append step_text steps (named x ∷ more)

text_then : (path : LeafPath) (x : List ℕ) (more : LeafPath) → path_text (path ++ named x ∷ more) ≡ prefix_text path ++ path_text (named x ∷ more)
text_then [] x more = refl
text_then (named y ∷ steps) x more =
    ap (λ xs. y ++ xs) (steps_joined steps x more) ∙ joined_text y (flat_map step_text steps) (codes ".") x (flat_map step_text more)
text_then (element i ∷ steps) x more =
    ap (λ xs. step_text (element i) ++ xs) (steps_joined steps x more)
    ∙ joined_text (step_text (element i)) (flat_map step_text steps) (codes ".") x (flat_map step_text more)

text_behind : (path : LeafPath) (name : List ℕ) (q : LeafPath) → IsBehind name q → path_text (path ++ q) ≡ prefix_text path ++ path_text q
text_behind path name q h =
    ap (λ z. path_text (path ++ z)) h.is ∙ text_then path name h.rest ∙ ap (λ z. prefix_text path ++ path_text z) (sym h.is)

-- the own leaves of a module, in place
placed_seen : (path : LeafPath) (k : ℕ) (n : Numbering) (array : ℕ) (m : LeafModule) → HasOwnNames m
    → map (seen_behind []) (map (placed_leaf path k n array) (inner_leaves m)) ≡ map (seen_behind (prefix_text path)) (inner_leaves m)
placed_seen path k n array m h =
    map-map (seen_behind []) (placed_leaf path k n array) (inner_leaves m)
    ∙ map_same (λ l. seen_behind [] (placed_leaf path k n array l)) (seen_behind (prefix_text path)) (inner_leaves m) each
  where
    each : (l : LeafDeclared) → In (inner_leaves m) l → seen_behind [] (placed_leaf path k n array l) ≡ seen_behind (prefix_text path) l
    each l among =
        let here = in_at m.leaves l no_leaf (subst (λ ls. In ls l) (take-append-drop m.port_leaves m.leaves) (in_right (take m.port_leaves m.leaves) (inner_leaves m) l among)) in
        let begins = subst (λ (z : LeafDeclared). (name : List ℕ) × IsBehind name z.path) here.2 (_, h.begins here.0 here.1) in
        ap (λ t. record { path = t; place = l.place; holds = l.holds }) (text_behind path begins.0 l.path begins.1)

module _ (scenes : List Scene) where
  -- behind one another, from a number up to another
  abbrev pub Behind : ℕ → ℕ → List Copy → Type 0
  Behind free high [] = free ≡ high
  Behind free high (k ∷ ks) = (k.own ≡ free) × Behind (free + length (inner_leaves (module_of (views scenes) k.module_number))) high ks

  behind_joined : (free middle high : ℕ) (ks ls : List Copy) → Behind free middle ks → Behind middle high ls → Behind free high (ks ++ ls)
  behind_joined free middle high [] ls h g = subst (λ z. Behind z high ls) (sym h) g
  behind_joined free middle high (k ∷ ks) ls h g =
      (h.0, behind_joined (free + length (inner_leaves (module_of (views scenes) k.module_number))) middle high ks ls h.1 g)

  mutual
    item_behind : (n : Numbering) (free array : ℕ) (x : Item) → IsItemIn (views scenes) x → Behind free (free + count x) (copies_in n free array x)
    item_behind n free array (drive p b ps t) h = omega arith
    item_behind n free array (when p t a b) h =
        let second = array + array_count_all a in
        let far : (free + count_all a) + count_all b ≡ free + (count_all a + count_all b) = omega arith in
        subst (λ high. Behind free high (all_copies_in n free array a ++ all_copies_in n (free + count_all a) second b)) far
        (behind_joined free (free + count_all a) ((free + count_all a) + count_all b) (all_copies_in n free array a)
        (all_copies_in n (free + count_all a) second b) (items_behind n free array a h.0) (items_behind n (free + count_all a) second b h.1))
    item_behind n free array (instance y d) h = design_behind y.module_number (number n y.first) free array d h

    items_behind : (n : Numbering) (free array : ℕ) (xs : Items) → AreItemsIn (views scenes) xs
        → Behind free (free + count_all xs) (all_copies_in n free array xs)
    items_behind n free array done h = omega arith
    items_behind n free array ((then) x xs) h =
        let next = array + array_count x in
        let far : (free + count x) + count_all xs ≡ free + (count x + count_all xs) = omega arith in
        subst (λ high. Behind free high (copies_in n free array x ++ all_copies_in n (free + count x) next xs)) far
        (behind_joined free (free + count x) ((free + count x) + count_all xs) (copies_in n free array x) (all_copies_in n (free + count x) next xs)
        (item_behind n free array x h.0) (items_behind n (free + count x) next xs h.1))

    pub design_behind : (x first free array : ℕ) (d : Design) → IsDesignOf (views scenes) (module_of (views scenes) x) d
        → Behind free (free + count_below d) (copies_below x first free array d)
    design_behind x first free array (made_of m is) h =
        let own = length (inner_leaves m) in
        let far : (free + own) + count_all is ≡ free + (own + count_all is) = omega arith in
        let ks = all_copies_in (numbering m first free) (free + own) (array + length m.arrays) is in
        let rest : Behind (free + own) (free + (own + count_all is)) ks =
        subst (λ high. Behind (free + own) high ks) far (items_behind (numbering m first free) (free + own) (array + length m.arrays) is h.2) in
        (refl, subst (λ (v : LeafModule). Behind (free + length (inner_leaves v)) (free + (own + count_all is)) ks) h.0 rest)

  pub are_behind : (free high : ℕ) (ks : List ModuleCopy) → Behind free high (map copy_seen ks) → AreBehind scenes free ks
  are_behind free high [] h = tt
  are_behind free high (k ∷ ks) h =
      (h.0, are_behind (free + length (inner_leaves (module_of (views scenes) k.module_number))) high ks h.1)

  -- the leaves of copies, each copy behind what stands before its paths
  abbrev pub leaves_by : List Copy → List (List ℕ) → List LeafSeen
  leaves_by [] [] = []
  leaves_by [] (p ∷ ps) = []
  leaves_by (k ∷ ks) [] = []
  leaves_by (k ∷ ks) (p ∷ ps) = map (seen_behind p) (inner_leaves (module_of (views scenes) k.module_number)) ++ leaves_by ks ps

  by_joined : (ks ls : List Copy) (ps qs : List (List ℕ)) → length ks ≡ length ps → leaves_by (ks ++ ls) (ps ++ qs) ≡ leaves_by ks ps ++ leaves_by ls qs
  by_joined [] ls [] qs e = refl
  by_joined [] ls (p ∷ ps) qs e = absurd (omega (arith, e))
  by_joined (k ∷ ks) ls [] qs e = absurd (omega (arith, e))
  by_joined (k ∷ ks) ls (p ∷ ps) qs e =
      let own = map (seen_behind p) (inner_leaves (module_of (views scenes) k.module_number)) in
      ap (λ xs. own ++ xs) (by_joined ks ls ps qs (omega (arith, e))) ∙ sym (append_assoc own (leaves_by ks ps) (leaves_by ls qs))

  pub by_copies : (ks : List ModuleCopy) → leaves_by (map copy_seen ks) (map (λ (k : ModuleCopy). k.prefix) ks) ≡ flat_map (leaves_of_copy scenes) ks
  by_copies [] = refl
  by_copies (k ∷ ks) = ap (λ xs. leaves_of_copy scenes k ++ xs) (by_copies ks)

  pub record AreLeaves (ks : List Copy) (paths : List LeafPath) (ls : List LeafDeclared) : Type 0 where
    pub count : length ks ≡ length paths
    pub leaves : map (seen_behind []) ls ≡ leaves_by ks (map prefix_text paths)

  no_leaves : AreLeaves [] [] []
  no_leaves = record { count = refl; leaves = refl }

  both_leaves : (ks ls : List Copy) (ps qs : List LeafPath) (us vs : List LeafDeclared) → AreLeaves ks ps us → AreLeaves ls qs vs
      → AreLeaves (ks ++ ls) (ps ++ qs) (us ++ vs)
  both_leaves ks ls ps qs us vs a b = record {
    count = omega (arith, length-append ks ls, length-append ps qs, a.count, b.count);
    leaves =
        map-append (seen_behind []) us vs ∙ ap₂ (λ xs ys. xs ++ ys) a.leaves b.leaves
        ∙ sym (ap (leaves_by (ks ++ ls)) (map-append prefix_text ps qs)
        ∙ by_joined ks ls (map prefix_text ps) (map prefix_text qs) (omega (arith, a.count, length-map ps prefix_text)));
  }

  -- no name is declared twice in any module
  abbrev pub NamedBelow : Design → Type 0
  NamedBelow (made_of m is) = HasOwnNames m × AreNamedItems m is

  mutual
    item_leaves : (path : LeafPath) (k : ℕ) (m : LeafModule) (n : Numbering) (free array : ℕ) (x : Item) → IsItemIn (views scenes) x → IsNamedItem m x
        → AreLeaves (copies_in n free array x) (paths_in path m x) (leaves_in path k m n free array x)
    item_leaves path k m n free array (drive p b ps t) h g = no_leaves
    item_leaves path k m n free array (when p t a b) h g =
        both_leaves (all_copies_in n free array a) (all_copies_in n (free + count_all a) (array + array_count_all a) b) (all_paths_in path m a)
        (all_paths_in path m b)
        (all_leaves_in path (k + 1) m n free array a) (all_leaves_in path (k + 1) m n (free + count_all a) (array + array_count_all a) b)
        (items_leaves path (k + 1) m n free array a h.0 g.0)
        (items_leaves path (k + 1) m n (free + count_all a) (array + array_count_all a) b h.1 g.1)
    item_leaves path k m n free array (instance y (made_of v is)) h g =
        design_leaves (instance_path path m y) k y.module_number (number n y.first) free array (made_of v is) h (g.1, g.3)

    items_leaves : (path : LeafPath) (k : ℕ) (m : LeafModule) (n : Numbering) (free array : ℕ) (xs : Items) → AreItemsIn (views scenes) xs
        → AreNamedItems m xs → AreLeaves (all_copies_in n free array xs) (all_paths_in path m xs) (all_leaves_in path k m n free array xs)
    items_leaves path k m n free array done h g = no_leaves
    items_leaves path k m n free array ((then) x xs) h g =
        both_leaves (copies_in n free array x) (all_copies_in n (free + count x) (array + array_count x) xs) (paths_in path m x) (all_paths_in path m xs)
        (leaves_in path k m n free array x) (all_leaves_in path k m n (free + count x) (array + array_count x) xs)
        (item_leaves path k m n free array x h.0 g.0)
        (items_leaves path k m n (free + count x) (array + array_count x) xs h.1 g.1)

    pub design_leaves : (path : LeafPath) (k x first free array : ℕ) (d : Design) → IsDesignOf (views scenes) (module_of (views scenes) x) d
        → NamedBelow d → AreLeaves (copies_below x first free array d) (paths_below path d) (leaves_below path k first free array d)
    design_leaves path k x first free array (made_of m is) h g =
        let n = numbering m first free in
        let own = map (placed_leaf path k n array) (inner_leaves m) in
        let from = free + length (inner_leaves m) in
        let others = all_leaves_in path k m n from (array + length m.arrays) is in
        let rest = items_leaves path k m n from (array + length m.arrays) is h.2 g.1 in
        record {
          count = omega (arith, rest.count);
          leaves =
              map-append (seen_behind []) own others
              ∙ ap₂ (λ xs ys. xs ++ ys)
              (placed_seen path k n array m g.0 ∙ ap (λ (v : LeafModule). map (seen_behind (prefix_text path)) (inner_leaves v)) h.0) rest.leaves;
        }
