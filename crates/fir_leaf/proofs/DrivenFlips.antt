-- The roles of leaves follow the flow: of a passive type no leaf is flipped, and of a memory those are that its ports take in.
use Rattle.std.proofs.Common.{◌≡◌, ℕ, zero, suc, ◌+◌, ◌*◌, List, [], ◌∷◌, ◌++◌, map, slice_index_or, Bool, true, false, not, Some, replicate, refl, sym, ap, ◌∙◌, arith, append_assoc}
use Rattle.std.specs.Prelude.{flat_map, codes, slice_get}
use Rattle.std.proofs.lemmas.List.{map-append, append-nil, replicate-append-replicate}
use Rattle.std.proofs.lemmas.List.Concat.{flat_map-append}
use Rattle.std.proofs.lemmas.Option.{get_or_from_slice_get}
use Rattle.std.proofs.Math.Nat.{suc-mul}
use Rattle.fir_base.proofs.Elements.{beside}
use Rattle.fir_base.proofs.Tests.{both}
use Rattle.fir_ast.specs.declared.place.Place.{Place}
use Rattle.fir_ast.specs.declared.statements.ReadUnderWrite.{ReadUnderWrite}
use Rattle.fir_ast.specs.Types.{DataType, uint, bundle, vector, Fields, no_fields, field}
use Rattle.fir_ast.specs.Statements.{PlacedName, MemoryPart, reader, writer, readwriter}
use Rattle.fir_ast.specs.View.{fields_of}
use Rattle.fir_meaning.specs.LeafPaths.{Step, named, element}
use Rattle.fir_meaning.specs.TypeLeaves.{turned, TypeLeaf, under, element_leaves, type_leaves, field_leaves, leaf_count, field_count}
use Rattle.fir_meaning.specs.TypeKinds.{is_passive, are_passive}
use Rattle.fir_meaning.specs.MemoryTypes.{mask_type, mask_fields, reader_type, writer_type, readwriter_type, flipped_fields, port_fields_of}
use Rattle.fir_meaning.specs.working.LeafModules.{Need, Reading, Role, sink, source, reading, pipe}
use Rattle.fir_meaning.specs.MemoryPorts.{MemoryPortKind, reads, writes, reads_and_writes}
use Rattle.fir_meaning.specs.working.LeafMemories.{port_kinds_of, LeafMemory, enable, mode, port_size, read_role, read_roles, sinks, port_roles, roles_from}

abbrev pub flips : List TypeLeaf → List Bool
flips = map (λ (l : TypeLeaf). l.flip)

map_replicate : {A B : Type 0} → (f : A → B) (n : ℕ) (x : A) → map f (replicate n x) ≡ replicate n (f x)
map_replicate f zero x = refl
map_replicate f (suc n) x = ap (λ l. f x ∷ l) (map_replicate f n x)

flips_joined : (ls ks : List TypeLeaf) → flips (ls ++ ks) ≡ flips ls ++ flips ks
flips_joined ls ks = map-append (λ (l : TypeLeaf). l.flip) ls ks

flips_under : (f : Bool) (s : Step) (ls : List TypeLeaf) → flips (map (under f s) ls) ≡ map (turned f) (flips ls)
flips_under f s [] = refl
flips_under f s (l ∷ ls) = ap (λ bs. turned f l.flip ∷ bs) (flips_under f s ls)

-- orientations do not hang on paths
elements_alike : (i n : ℕ) (ls ks : List TypeLeaf) → flips ls ≡ flips ks → flips (element_leaves i n ls) ≡ flips (element_leaves i n ks)
elements_alike i zero ls ks e = refl
elements_alike i (suc n) ls ks e =
    rw (
      flips_joined (map (under false (element i)) ls) (element_leaves (i + 1) n ls),
      flips_joined (map (under false (element i)) ks) (element_leaves (i + 1) n ks),
      flips_under false (element i) ls,
      flips_under false (element i) ks,
      e,
      elements_alike (i + 1) n ls ks e,
    )
    refl

elements_straight : (i n c : ℕ) (ls : List TypeLeaf) → flips ls ≡ replicate c false → flips (element_leaves i n ls) ≡ replicate (n * c) false
elements_straight i zero c ls e = let none : 0 * c ≡ 0 = omega arith in rw none refl
elements_straight i (suc n) c ls e =
    rw (
      flips_joined (map (under false (element i)) ls) (element_leaves (i + 1) n ls),
      flips_under false (element i) ls,
      e,
      map_replicate (turned false) c false,
      elements_straight (i + 1) n c ls e,
    )
    (replicate-append-replicate c (n * c) false ∙ ap (λ k. replicate k false) (sym (suc-mul n c ∙ omega arith)))

-- no leaf of a passive type is flipped
mutual
  pub passive_flips : (t : DataType) → is_passive t ≡ true → flips (type_leaves t) ≡ replicate (leaf_count t) false
  passive_flips (bundle fs) h = passive_fields fs h
  passive_flips (vector t n) h = elements_straight 0 n (leaf_count t) (type_leaves t) (passive_flips t h)
  passive_flips t h = refl

  passive_fields : (fs : Fields) → are_passive fs ≡ true → flips (field_leaves fs) ≡ replicate (field_count fs) false
  passive_fields no_fields h = refl
  passive_fields (field p true x b t rest) h = absurd (cc)
  passive_fields (field p false x b t rest) h =
      let parts = both (is_passive t) (are_passive rest) h in
      rw (
        flips_joined (map (under false (named x)) (type_leaves t)) (field_leaves rest),
        flips_under false (named x) (type_leaves t),
        passive_flips t parts.0,
        map_replicate (turned false) (leaf_count t) false,
        passive_fields rest parts.1,
      )
      (replicate-append-replicate (leaf_count t) (field_count rest) false)

-- a mask is turned as what it masks
mutual
  mask_flips : (t : DataType) → flips (type_leaves (mask_type t)) ≡ flips (type_leaves t)
  mask_flips (bundle fs) = mask_field_flips fs
  mask_flips (vector t n) = elements_alike 0 n (type_leaves (mask_type t)) (type_leaves t) (mask_flips t)
  mask_flips t = refl

  mask_field_flips : (fs : Fields) → flips (field_leaves (mask_fields fs)) ≡ flips (field_leaves fs)
  mask_field_flips no_fields = refl
  mask_field_flips (field p f x b t rest) =
      rw (
        flips_joined (map (under f (named x)) (type_leaves (mask_type t))) (field_leaves (mask_fields rest)),
        flips_joined (map (under f (named x)) (type_leaves t)) (field_leaves rest),
        flips_under f (named x) (type_leaves (mask_type t)),
        flips_under f (named x) (type_leaves t),
        mask_flips t,
        mask_field_flips rest,
      )
      refl

-- the leaves of a port that statements drive, where its data has so many leaves
abbrev kind_flips : ℕ → MemoryPortKind → List Bool
kind_flips d reads = replicate 3 true ++ replicate d false
kind_flips d writes = replicate (3 + 2 * d) true
kind_flips d reads_and_writes = replicate 3 true ++ replicate d false ++ replicate (1 + 2 * d) true

-- a test of roles that sinks pass, and reads do not
module _ (f : Role → Bool) (on_sink : f sink ≡ true) (on_reading : (r : Reading) → f (reading r) ≡ false)
    (on_pipe : (r : Reading) (clock : ℕ) (u : ReadUnderWrite) → f (pipe r clock u) ≡ false) where
  sinks_pass : (n : ℕ) → map f (sinks n) ≡ replicate n true
  sinks_pass zero = refl
  sinks_pass (suc n) = rw (on_sink, sinks_pass n) refl

  read_fails : (m : LeafMemory) (needs : List Need) (b i : ℕ) → f (read_role m needs b i) ≡ false
  read_fails m needs b i = by m.read_latency refl
    where
      by : (l : ℕ) → m.read_latency ≡ l → f (read_role m needs b i) ≡ false
      by zero e = rw e (on_reading (record { array = m.first_array + i; address = b; needs = needs }))
      by (suc l) e = rw e (on_pipe (record { array = m.first_array + i; address = b; needs = needs }) (b + 2) m.under_write)

  reads_fail : (m : LeafMemory) (needs : List Need) (b i n : ℕ) → map f (read_roles m needs b i n) ≡ replicate n false
  reads_fail m needs b i zero = refl
  reads_fail m needs b i (suc n) = rw (read_fails m needs b i, reads_fail m needs b (suc i) n) refl

  port_passes : (m : LeafMemory) (b : ℕ) (k : MemoryPortKind) → map f (port_roles m b k) ≡ kind_flips m.data_leaves k
  port_passes m b reads = rw (on_sink, reads_fail m (enable b ∷ []) b 0 m.data_leaves) refl
  port_passes m b writes = sinks_pass (3 + 2 * m.data_leaves)
  port_passes m b reads_and_writes =
      let needs : List Need = enable b ∷ record { leaf = mode m.data_leaves b; high = false } ∷ [] in
      let back = sinks (1 + 2 * m.data_leaves) in
      rw (
        on_sink,
        map-append f (read_roles m needs b 0 m.data_leaves) back,
        reads_fail m needs b 0 m.data_leaves,
        sinks_pass (1 + 2 * m.data_leaves),
      )
      refl

  pub roles_pass : (m : LeafMemory) (b : ℕ) (ks : List MemoryPortKind) → map f (roles_from m b ks) ≡ flat_map (kind_flips m.data_leaves) ks
  roles_pass m b [] = refl
  roles_pass m b (k ∷ ks) =
      map-append f (port_roles m b k) (roles_from m (b + port_size m.data_leaves k) ks)
      ∙ rw (port_passes m b k, roles_pass m (b + port_size m.data_leaves k) ks) refl

-- the types of ports
module _ (p : Place) (t : DataType) (words : ℕ) (passive : is_passive t ≡ true) where
  data_flips : (f : Bool) (s : Step) (more : List TypeLeaf)
      → flips (map (under f s) (type_leaves t) ++ more) ≡ replicate (leaf_count t) (turned f false) ++ flips more
  data_flips f s more =
      rw (
        flips_joined (map (under f s) (type_leaves t)) more,
        flips_under f s (type_leaves t),
        passive_flips t passive,
        map_replicate (turned f) (leaf_count t) false,
      )
      refl

  mask_part : (f : Bool) (s : Step) (more : List TypeLeaf)
      → flips (map (under f s) (type_leaves (mask_type t)) ++ more) ≡ replicate (leaf_count t) (turned f false) ++ flips more
  mask_part f s more =
      rw (
        flips_joined (map (under f s) (type_leaves (mask_type t))) more,
        flips_under f s (type_leaves (mask_type t)),
        mask_flips t,
        passive_flips t passive,
        map_replicate (turned f) (leaf_count t) false,
      )
      refl

  twice : (n : ℕ) (x : Bool) → replicate n x ++ (replicate n x ++ []) ≡ replicate (2 * n) x
  twice n x = ap (λ l. replicate n x ++ l) (append-nil (replicate n x)) ∙ replicate-append-replicate n n x ∙ ap (λ k. replicate k x) (omega arith)

  -- all ports are flipped
  turned_all : (n : ℕ) (x : Bool) → map (turned true) (replicate n x) ≡ replicate n (not x)
  turned_all n x = map_replicate (turned true) n x

  reader_flips : (s : Step) → flips (map (under true s) (type_leaves (reader_type p t words))) ≡ kind_flips (leaf_count t) reads
  reader_flips s =
      flips_under true s (type_leaves (reader_type p t words))
      ∙ ap (λ bs. true ∷ true ∷ true ∷ map (turned true) bs) (data_flips true (named (codes "data")) [] ∙ append-nil (replicate (leaf_count t) true))
      ∙ ap (λ bs. true ∷ true ∷ true ∷ bs) (turned_all (leaf_count t) true)

  writer_flips : (s : Step) → flips (map (under true s) (type_leaves (writer_type p t words))) ≡ kind_flips (leaf_count t) writes
  writer_flips s =
      flips_under true s (type_leaves (writer_type p t words))
      ∙ ap (λ bs. true ∷ true ∷ true ∷ map (turned true) bs)
      (data_flips false (named (codes "data")) (map (under false (named (codes "mask"))) (type_leaves (mask_type t)) ++ [])
      ∙ ap (λ bs. replicate (leaf_count t) false ++ bs) (mask_part false (named (codes "mask")) []) ∙ twice (leaf_count t) false)
      ∙ ap (λ bs. true ∷ true ∷ true ∷ bs) (turned_all (2 * leaf_count t) false)
      ∙ ap (λ k. replicate k true) (let e : suc (suc (suc (2 * leaf_count t))) ≡ 3 + 2 * leaf_count t = omega arith in e)

  readwriter_flips : (s : Step) → flips (map (under true s) (type_leaves (readwriter_type p t words))) ≡ kind_flips (leaf_count t) reads_and_writes
  readwriter_flips s =
      let mask = map (under false (named (codes "wmask"))) (type_leaves (mask_type t)) ++ [] in
      let given = map (under false (named (codes "wdata"))) (type_leaves t) ++ mask in
      flips_under true s (type_leaves (readwriter_type p t words))
      ∙ ap (λ bs. true ∷ true ∷ true ∷ map (turned true) bs)
      (data_flips true (named (codes "rdata")) (map (under false (named (codes "wmode"))) (type_leaves (uint (Some 1))) ++ given)
      ∙ ap (λ bs. replicate (leaf_count t) true ++ false ∷ bs)
      (data_flips false (named (codes "wdata")) mask
      ∙ ap (λ bs. replicate (leaf_count t) false ++ bs) (mask_part false (named (codes "wmask")) []) ∙ twice (leaf_count t) false))
      ∙ ap (λ bs. true ∷ true ∷ true ∷ bs)
      (map-append (turned true) (replicate (leaf_count t) true) (false ∷ replicate (2 * leaf_count t) false)
      ∙ rw (turned_all (leaf_count t) true, turned_all (2 * leaf_count t) false) refl)
      ∙ ap (λ k. true ∷ true ∷ true ∷ (replicate (leaf_count t) false ++ replicate k true))
      (let e : suc (2 * leaf_count t) ≡ 1 + 2 * leaf_count t = omega arith in e)

  ports_flips : (u : DataType) (k : MemoryPortKind) → ((s : Step) → flips (map (under true s) (type_leaves u)) ≡ kind_flips (leaf_count t) k)
      → (ns : List PlacedName) (more : List (Fields → Fields))
      → flips (field_leaves (fields_of (flipped_fields u ns ++ more)))
      ≡ flat_map (kind_flips (leaf_count t)) (map (λ n. k) ns) ++ flips (field_leaves (fields_of more))
  ports_flips u k h [] more = refl
  ports_flips u k h (n ∷ ns) more =
      flips_joined (map (under true (named n.name)) (type_leaves u)) (field_leaves (fields_of (flipped_fields u ns ++ more)))
      ∙ rw (h (named n.name), ports_flips u k h ns more) (sym (append_assoc (kind_flips (leaf_count t) k) _ _))

  pub memory_flips : (parts : List MemoryPart)
      → flips (field_leaves (fields_of (flat_map (port_fields_of p t words) parts))) ≡ flat_map (kind_flips (leaf_count t)) (flat_map port_kinds_of parts)
  memory_flips [] = refl
  memory_flips (m ∷ ms) = by m ∙ rw (memory_flips ms) (sym (flat_map-append (kind_flips (leaf_count t)) (port_kinds_of m) (flat_map port_kinds_of ms)))
    where
      more : List (Fields → Fields)
      more = flat_map (port_fields_of p t words) ms

      by : (m : MemoryPart) → flips (field_leaves (fields_of (port_fields_of p t words m ++ more)))
          ≡ flat_map (kind_flips (leaf_count t)) (port_kinds_of m) ++ flips (field_leaves (fields_of more))
      by (reader q ns) = ports_flips (reader_type p t words) reads reader_flips ns more
      by (writer q ns) = ports_flips (writer_type p t words) writes writer_flips ns more
      by (readwriter q ns) = ports_flips (readwriter_type p t words) reads_and_writes readwriter_flips ns more
      by m = refl

-- the role beside a leaf
pub beside_flip : (f : Role → Bool) (roles : List Role) (ls : List TypeLeaf) → map f roles ≡ flips ls → (k : ℕ) (l : TypeLeaf) → slice_get ls k ≡ Some l
    → f (slice_index_or roles k source) ≡ l.flip
beside_flip f roles ls h k l e =
    let r = beside f (λ (l : TypeLeaf). l.flip) roles ls h k l e in
    ap f (get_or_from_slice_get roles k r.0 source r.1) ∙ r.2

-- of a list without flips
pub straight_leaf : (ls : List TypeLeaf) (n : ℕ) → flips ls ≡ replicate n false → (k : ℕ) (l : TypeLeaf) → slice_get ls k ≡ Some l → l.flip ≡ false
straight_leaf [] n h k l e = absurd (cc)
straight_leaf (x ∷ ls) zero h k l e = absurd (cc)
straight_leaf (x ∷ ls) (suc n) h zero l e = let is : x ≡ l = cc in ap (λ (y : TypeLeaf). y.flip) (sym is) ∙ cc
straight_leaf (x ∷ ls) (suc n) h (suc k) l e = let rest : flips ls ≡ replicate n false = cc in straight_leaf ls n rest k l e
