-- The arrays of a module have distinct paths, each behind the name of a memory, and no memory has the name of an instance.
use Rattle.std.proofs.Common.{◌≡◌, List, [], ◌∷◌, ◌++◌, ℕ, map, flat_map, refl, sym, subst, inl, inr, ⊎_elim}
use Rattle.std.proofs.lemmas.List.{map-append}
use Rattle.fir_base.specs.Lists.{In, Distinct}
use Rattle.fir_base.proofs.Empty.{empty_right}
use Rattle.fir_base.proofs.Members.{in_either}
use Rattle.fir_ast.specs.declared.place.Place.{Place}
use Rattle.fir_ast.specs.Types.{DataType}
use Rattle.fir_ast.specs.Statements.{MemoryPart, PlacedName, data_type, Statement, wire, register, node, instance, memory, when, connect, partial_connect, invalid, skip, Block, done, then}
use Rattle.fir_ast.specs.Circuits.{CircuitTree}
use Rattle.fir_meaning.specs.LeafPaths.{LeafPath, named}
use Rattle.fir_meaning.specs.Mentions.{block_mentions, circuit_mentions, data_mentions, declares, expression_mentions, memory_mentions, mentions, module_names, names_declared, port_mentions, ports_mentions, ports_of, type_mentions}
use Rattle.fir_meaning.specs.MemoryTypes.{data_of_part, first_one}
use Rattle.fir_meaning.specs.working.NameGroups.{HasNames}
use Rattle.fir_meaning.specs.NameGroups.{faults_in, mention_faults}
use Rattle.fir_meaning.specs.SizedMemories.{sized_array}
use Rattle.fir_meaning.specs.TypeLeaves.{TypeLeaf}
use Rattle.fir_meaning.specs.Visibility.{Before, at_head, behind, behind_block, opened, reopened}
use Rattle.fir_meaning.proofs.DistinctLeaves.{paths_distinct}
use Rattle.fir_meaning.proofs.OnceDeclared.{clear_left, clear_right}
use Rattle.fir_meaning.proofs.OneLookUp.{clear_module, emptied}
use Rattle.fir_meaning.specs.FoundTypes.{leaves_of_data}
use Rattle.fir_meaning.specs.LeafTypes.{LeafType}
use Rattle.fir_meaning.specs.ModuleScenes.{Scene, behind_all_ports}
use Rattle.fir_meaning.specs.HeldTypes.{held_types}
use Rattle.fir_leaf.proofs.DeclaredLeaves.{IsOwn}
use Rattle.fir_meaning.specs.SourceDesigns.{InstanceOf, instances_of, instances_of_block}
use Rattle.fir_meaning.specs.SourceRoles.{SourceArray, arrays_of_data, source_arrays, source_arrays_in, source_arrays_in_block}
use Rattle.fir_design.proofs.ApartNames.{AreApart, BeginsAmong, apart_joined, none_apart, one_instance}
use Rattle.fir_design.proofs.InnerNames.{inner_names, inner_names_of}

abbrev pub instance_names : List InstanceOf → List (List ℕ)
instance_names is = map (λ (i : InstanceOf). i.named.name) is

abbrev pub paths_of_arrays : List SourceArray → List LeafPath
paths_of_arrays xs = map (λ (a : SourceArray). a.path) xs

abbrev mutual
  pub memory_names : Statement → List (List ℕ)
  memory_names (memory p n parts) = n.name ∷ []
  memory_names (when p c a b) = memory_names_of a ++ memory_names_of b
  memory_names _ = []

  pub memory_names_of : Block → List (List ℕ)
  memory_names_of done = []
  memory_names_of ((then) x b) = memory_names x ++ memory_names_of b

-- the type of a memory's words has no two fields of one name
data_clear : (before : List PlacedName) (parts : List MemoryPart) (t : DataType) → faults_in (memory_mentions before parts) ≡ []
    → In (flat_map data_of_part parts) t → faults_in (type_mentions t) ≡ []
data_clear before [] t clear i = absurd i
data_clear before (m ∷ ms) t clear i =
    let later = memory_mentions (before ++ ports_of m) ms in
    let ports = port_mentions before (ports_of m) in
    ⊎_elim
    (λ (l : In (data_of_part m) t). by m (clear_left (data_mentions m) ports (clear_left (data_mentions m ++ ports) later clear)) l)
    (λ (r : In (flat_map data_of_part ms) t).
    data_clear (before ++ ports_of m) ms t (clear_right (data_mentions m ++ ports) later clear) r)
    (in_either (data_of_part m) (flat_map data_of_part ms) t i)
  where
    by : (m : MemoryPart) → faults_in (data_mentions m) ≡ [] → In (data_of_part m) t → faults_in (type_mentions t) ≡ []
    by (data_type q b u) own (inl e) = subst (λ v. faults_in (type_mentions v) ≡ []) e own
    by (data_type q b u) own (inr n) = absurd n
    by m own n = absurd n

data_leaves_distinct : (ts : List DataType) → ((t : DataType) → In ts t → faults_in (type_mentions t) ≡ [])
    → Distinct (map (λ (l : TypeLeaf). l.path) (leaves_of_data (first_one ts)))
data_leaves_distinct [] h = tt
data_leaves_distinct (t ∷ ts) h = paths_distinct t (h t (inl refl))

paths_in_memory : (name : List ℕ) (parts : List MemoryPart) (ls : List TypeLeaf) (hs : List LeafType) (q : LeafPath)
    → In (paths_of_arrays (arrays_of_data name parts ls hs)) (named name ∷ q) → In (map (λ (l : TypeLeaf). l.path) ls) q
paths_in_memory name parts [] hs q m = absurd m
paths_in_memory name parts (l ∷ ls) [] q m = absurd m
paths_in_memory name parts (l ∷ ls) (h ∷ hs) q (inl e) = inl (cc)
paths_in_memory name parts (l ∷ ls) (h ∷ hs) q (inr m) = inr (paths_in_memory name parts ls hs q m)

data_distinct : (name : List ℕ) (parts : List MemoryPart) (ls : List TypeLeaf) (hs : List LeafType)
    → Distinct (map (λ (l : TypeLeaf). l.path) ls)
    → Distinct (paths_of_arrays (arrays_of_data name parts ls hs))
data_distinct name parts [] hs d = tt
data_distinct name parts (l ∷ ls) [] d = tt
data_distinct name parts (l ∷ ls) (h ∷ hs) d =
    (λ m. d.0 (paths_in_memory name parts ls hs l.path m), data_distinct name parts ls hs d.1)

data_begins : (name : List ℕ) (parts : List MemoryPart) (ls : List TypeLeaf) (hs : List LeafType) (q : LeafPath)
    → In (paths_of_arrays (arrays_of_data name parts ls hs)) q → BeginsAmong (name ∷ []) q
data_begins name parts [] hs q m = absurd m
data_begins name parts (l ∷ ls) [] q m = absurd m
data_begins name parts (l ∷ ls) (h ∷ hs) q (inl e) = record { name = name; among = inl refl; rest = l.path; is = sym e }
data_begins name parts (l ∷ ls) (h ∷ hs) q (inr m) = data_begins name parts ls hs q m

module _ (s : Scene) (modules : List PlacedName) where
  memory_apart : (before : Before) (p : Place) (n : PlacedName) (parts : List MemoryPart)
      → faults_in (mentions modules before (memory p n parts)) ≡ []
      → AreApart (n.name ∷ []) (n.name ∷ []) [] (paths_of_arrays (source_arrays_in s (memory p n parts)))
  memory_apart before p n parts clear =
      let ls = leaves_of_data (first_one (flat_map data_of_part parts)) in
      let hs = held_types s.widths (sized_array parts) in
      let own = empty_right (mention_faults (declares (names_declared before) n)) (faults_in (memory_mentions [] parts)) clear in
      record {
        memory_in = λ x m. m;
        instance_in = λ x m. absurd m;
        begins = data_begins n.name parts ls hs;
        apart = λ d x m i. i;
        instances_once = λ d. tt;
        paths_once = λ d.
            data_distinct n.name parts ls hs (data_leaves_distinct (flat_map data_of_part parts) (λ t i. data_clear [] parts t own i));
      }

  -- what is said of two parts in order is said of both
  parts_apart : (n1 n2 m1 m2 : List (List ℕ)) (is js : List InstanceOf) (xs ys : List SourceArray)
      → AreApart n1 m1 (instance_names is) (paths_of_arrays xs) → AreApart n2 m2 (instance_names js) (paths_of_arrays ys)
      → AreApart (n1 ++ n2) (m1 ++ m2) (instance_names (is ++ js)) (paths_of_arrays (xs ++ ys))
  parts_apart n1 n2 m1 m2 is js xs ys a b =
      rw (map-append (λ (i : InstanceOf). i.named.name) is js, map-append (λ (x : SourceArray). x.path) xs ys)
      (apart_joined n1 n2 m1 m2 (instance_names is) (instance_names js) (paths_of_arrays xs) (paths_of_arrays ys) a b)

  mutual
    statement_apart : (x : Statement) (before : Before) → faults_in (mentions modules before x) ≡ []
        → AreApart (inner_names x) (memory_names x) (instance_names (instances_of x)) (paths_of_arrays (source_arrays_in s x))
    statement_apart (memory p n parts) before clear = memory_apart before p n parts clear
    statement_apart (instance p n other) before clear = one_instance n.name
    statement_apart (when p c a b) before clear =
        let first = opened before in
        let second = reopened before (behind_block first a) in
        let condition = expression_mentions before.visible c in
        let ms = block_mentions modules first a in
        let ns = block_mentions modules second b in
        parts_apart (inner_names_of a) (inner_names_of b) (memory_names_of a) (memory_names_of b) (instances_of_block a) (instances_of_block b)
        (source_arrays_in_block s a) (source_arrays_in_block s b)
        (block_apart a first (clear_right condition ms (clear_left (condition ++ ms) ns clear)))
        (block_apart b second (clear_right (condition ++ ms) ns clear))
    statement_apart (wire p n begins t) before clear = none_apart
    statement_apart (register p n begins t c r) before clear = none_apart
    statement_apart (node p n e) before clear = none_apart
    statement_apart (connect p d e) before clear = none_apart
    statement_apart (partial_connect p d e) before clear = none_apart
    statement_apart (invalid p d) before clear = none_apart
    statement_apart (skip p) before clear = none_apart

    block_apart : (b : Block) (before : Before) → faults_in (block_mentions modules before b) ≡ []
        → AreApart (inner_names_of b) (memory_names_of b) (instance_names (instances_of_block b)) (paths_of_arrays (source_arrays_in_block s b))
    block_apart done before clear = none_apart
    block_apart ((then) x b) before clear =
        let next = behind before x in
        let ms = mentions modules before x in
        let ns = block_mentions modules next b in
        parts_apart (inner_names x) (inner_names_of b) (memory_names x) (memory_names_of b) (instances_of x) (instances_of_block b)
        (source_arrays_in s x) (source_arrays_in_block s b) (statement_apart x before (clear_left ms ns clear))
        (block_apart b next (clear_right ms ns clear))

-- of a module of a circuit without a fault of names
pub module_apart : (c : CircuitTree) (s : Scene) → HasNames c → IsOwn c.modules s.own
    → AreApart (inner_names_of s.own.inside.body) (memory_names_of s.own.inside.body) (instance_names (instances_of_block s.own.inside.body))
    (paths_of_arrays (source_arrays s))
module_apart c s names own =
    let m = s.own.inside in
    let modules = module_names c in
    let clear = clear_module modules [] c.modules m (emptied (faults_in (circuit_mentions c)) names.names) own.inside in
    block_apart s modules m.body (behind_all_ports m)
    (clear_right (ports_mentions at_head m.ports) (block_mentions modules (behind_all_ports m) m.body) clear)
