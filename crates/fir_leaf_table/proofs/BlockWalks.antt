-- The walk from place to place of a module, one statement behind the other.
use Rattle.std.proofs.Common.{◌≡◌, ℕ, List, [], ◌++◌, append-nil, map, refl, sym, ap, ◌∙◌, subst, append_assoc, Result}
use Rattle.std.proofs.lemmas.List.{map-append}
use Rattle.fir_ast.specs.Circuits.{CircuitTree}
use Rattle.fir_ast.specs.Statements.{Statement, Block, done, then}
use Rattle.fir_meaning.specs.Visibility.{Before, behind, behind_block}
use Rattle.fir_names.proofs.BehindStatements.{adds_block, adds_statement}
use Rattle.fir_types.specs.working.Walked.{Begins}
use Rattle.fir_types.proofs.KnownScopes.{begins_before}
use Rattle.fir_ground.specs.working.DeclarationDrivers.{DriverMeant, drivers_in, drivers_in_block, drivers_seen}
use Rattle.fir_leaf.specs.declared.node.Node.{Node}
use Rattle.fir_meaning.specs.ModuleScenes.{Scene}
use Rattle.fir_meaning.specs.working.LeafedModules.{arrays_in, arrays_in_block, leaves_in, leaves_in_block, memories_in, memories_in_block}
use Rattle.fir_meaning.specs.working.LeafModules.{LeafArray, LeafDeclared, MemoryDeclared}
use Rattle.fir_leaf_table.specs.declared.frame.Frame.{Frame}
use Rattle.fir_leaf_table.specs.declared.walk.Walk.{Walk}
use Rattle.fir_leaf_circuit.specs.working.Seen.{array_seen, leaves_seen, memory_seen, unnamed, unnamed_array}
use Rattle.fir_leaf_table.specs.working.Walks.{ComesBehind, Counts, EntersAt, PassesStatement}

-- where nothing comes
pub comes_none : (s : Scene) (before : Before) (nodes : List Node) (rest : List DriverMeant) (walk : Walk) → Counts s before walk
    → drivers_seen nodes walk.drivers.now ≡ rest → ComesBehind s before nodes rest [] [] [] walk walk
comes_none s before nodes rest walk counts drivers = record {
  counts = counts;
  no_node = refl;
  drivers = drivers;
  leaves = sym (append-nil (leaves_seen nodes walk.leaves.items));
  arrays = sym (append-nil (map array_seen walk.arrays.items));
  memories = sym (append-nil (map memory_seen walk.memories.items));
}

joined : {A B : Type 0} (f : A → B) (front mid back : List B) (xs ys : List A) → mid ≡ front ++ map f xs → back ≡ mid ++ map f ys
    → back ≡ front ++ map f (xs ++ ys)
joined f front mid back xs ys h k =
    k ∙ ap (λ l. l ++ map f ys) h ∙ append_assoc front (map f xs) (map f ys) ∙ ap (λ l. front ++ l) (sym (map-append f xs ys))

-- one behind the other
pub comes_then : (s : Scene) (middle after : Before) (nodes : List Node) (next rest : List DriverMeant) (xs ys : List LeafDeclared) (us vs : List LeafArray)
    (ms ns : List MemoryDeclared) (one two three : Walk)
    → ComesBehind s middle nodes next xs us ms one two → ComesBehind s after nodes rest ys vs ns two three
    → ComesBehind s after nodes rest (xs ++ ys) (us ++ vs) (ms ++ ns) one three
comes_then s middle after nodes next rest xs ys us vs ms ns one two three h k = record {
  counts = k.counts;
  no_node = k.no_node ∙ h.no_node;
  drivers = k.drivers;
  leaves =
      joined unnamed (leaves_seen nodes one.leaves.items) (leaves_seen nodes two.leaves.items) (leaves_seen nodes three.leaves.items) xs ys h.leaves k.leaves;
  arrays =
      joined unnamed_array (map array_seen one.arrays.items) (map array_seen two.arrays.items) (map array_seen three.arrays.items) us vs h.arrays k.arrays;
  memories = k.memories ∙ ap (λ l. l ++ ns) h.memories ∙ append_assoc (map memory_seen one.memories.items) ms ns;
}

-- the same is declared at both places
pub counts_as : (s : Scene) (one other : Before) (walk : Walk) → one.declared ≡ other.declared → Counts s one walk → Counts s other walk
counts_as s one other walk same h =
    let at : Before = record other { declared = one.declared } in
    let own : Counts s at walk = record { declared = h.declared; leaves = h.leaves; arrays = h.arrays } in
    subst (λ ds. Counts s (record other { declared = ds }) walk) same own

pub comes_as : (s : Scene) (one other : Before) (nodes : List Node) (rest : List DriverMeant) (xs : List LeafDeclared) (us : List LeafArray)
    (ms : List MemoryDeclared) (old new : Walk) → one.declared ≡ other.declared
    → ComesBehind s one nodes rest xs us ms old new → ComesBehind s other nodes rest xs us ms old new
comes_as s one other nodes rest xs us ms old new same h = record {
  counts = counts_as s one other new same h.counts;
  no_node = h.no_node;
  drivers = h.drivers;
  leaves = h.leaves;
  arrays = h.arrays;
  memories = h.memories;
}

-- in front of what comes next
pub enters_behind : (frame : Frame) (c : CircuitTree) (s : Scene) (before after place : Before) (nodes : List Node) (drivers next rest : List DriverMeant)
    (depth inside : ℕ) (xs : List LeafDeclared) (us : List LeafArray) (ms : List MemoryDeclared) (old new : Walk)
    → EntersAt frame c s before nodes drivers depth old → ComesBehind s after nodes next xs us ms old new
    → after.declared ≡ place.declared → inside ≡ place.depth → next ≡ rest → EntersAt frame c s place nodes rest inside new
enters_behind frame c s before after place nodes drivers next rest depth inside xs us ms old new e h same deep drivers_are = record {
  frames = e.frames;
  counts = counts_as s after place new same h.counts;
  deep = deep;
  no_node = h.no_node ∙ e.no_node;
  drivers = h.drivers ∙ drivers_are;
}

-- how far a walk has come in the statements of a block
pub record AtBlock (c : CircuitTree) (s : Scene) (before : Before) (nodes : List Node) (rest : List DriverMeant) (block left : Block) (depth : ℕ)
    (old walk : Walk) : Type 0 where
  pub now : Before
  pub leaves : List LeafDeclared
  pub arrays : List LeafArray
  pub memories : List MemoryDeclared
  pub comes : ComesBehind s now nodes (drivers_in_block c.modules now left ++ rest) leaves arrays memories old walk
  pub all : leaves_in_block s before block ≡ leaves ++ leaves_in_block s now left
  pub all_arrays : arrays_in_block s before block ≡ arrays ++ arrays_in_block s now left
  pub all_memories : memories_in_block s before block ≡ memories ++ memories_in_block s now left
  pub reached : behind_block now left ≡ behind_block before block
  pub deep : depth ≡ now.depth

module _ (frame : Frame) (c : CircuitTree) (s : Scene) (before : Before) (nodes : List Node) (rest : List DriverMeant) (block : Block) (depth : ℕ) (old : Walk)
    (enters : EntersAt frame c s before nodes (drivers_in_block c.modules before block ++ rest) depth old) where
  pub block_begun : AtBlock c s before nodes rest block block depth old old
  block_begun = record {
    now = before;
    leaves = [];
    arrays = [];
    memories = [];
    comes = comes_none s before nodes (drivers_in_block c.modules before block ++ rest) old enters.counts enters.drivers;
    all = refl;
    all_arrays = refl;
    all_memories = refl;
    reached = refl;
    deep = enters.deep;
  }

  pub block_passed : (walk : Walk) → AtBlock c s before nodes rest block done depth old walk
      → ComesBehind s (behind_block before block) nodes rest (leaves_in_block s before block) (arrays_in_block s before block)
      (memories_in_block s before block) old walk
  block_passed walk a = record {
    counts = counts_as s a.now (behind_block before block) walk (ap (λ (b : Before). b.declared) a.reached) a.comes.counts;
    no_node = a.comes.no_node;
    drivers = a.comes.drivers;
    leaves =
        a.comes.leaves ∙ ap (λ ls. leaves_seen nodes old.leaves.items ++ map unnamed ls) (sym (a.all ∙ append-nil a.leaves));
    arrays =
        a.comes.arrays ∙ ap (λ ls. map array_seen old.arrays.items ++ map unnamed_array ls) (sym (a.all_arrays ∙ append-nil a.arrays));
    memories =
        a.comes.memories ∙ ap (λ ls. map memory_seen old.memories.items ++ ls) (sym (a.all_memories ∙ append-nil a.memories));
  }

  module _ (walk : Walk) (x : Statement) (left : Block) (a : AtBlock c s before nodes rest block (then x left) depth old walk) where
    abbrev pub later : List DriverMeant
    later = drivers_in_block c.modules (behind a.now x) left ++ rest

    pub next_enters : EntersAt frame c s a.now nodes (drivers_in c.modules a.now x ++ later) depth walk
    next_enters =
        enters_behind frame c s before a.now a.now nodes (drivers_in_block c.modules before block ++ rest)
        (drivers_in_block c.modules a.now (then x left) ++ rest) (drivers_in c.modules a.now x ++ later) depth depth
        a.leaves a.arrays a.memories old walk enters a.comes refl a.deep
        (append_assoc (drivers_in c.modules a.now x) (drivers_in_block c.modules (behind a.now x) left) rest)

    pub next_begins : (whole : _) → Begins (behind_block before block).declared whole → Begins (behind a.now x).declared whole
    next_begins whole b =
        let more = adds_block (behind a.now x) left in
        let all : Begins (behind_block (behind a.now x) left).declared whole = subst (λ (y : Before). Begins y.declared whole) (sym a.reached) b in
        begins_before whole (behind a.now x).declared more.added (subst (λ ds. Begins ds whole) more.declared all)

    pub block_next : (new : Walk)
        → ComesBehind s (behind a.now x) nodes later (leaves_in s a.now x) (arrays_in s a.now x) (memories_in s a.now x) walk new
        → AtBlock c s before nodes rest block left depth old new
    block_next new k = record {
      now = behind a.now x;
      leaves = a.leaves ++ leaves_in s a.now x;
      arrays = a.arrays ++ arrays_in s a.now x;
      memories = a.memories ++ memories_in s a.now x;
      comes =
          comes_then s a.now (behind a.now x) nodes (drivers_in_block c.modules a.now (then x left) ++ rest) later a.leaves (leaves_in s a.now x)
          a.arrays (arrays_in s a.now x) a.memories (memories_in s a.now x) old walk new a.comes k;
      all = a.all ∙ sym (append_assoc a.leaves (leaves_in s a.now x) (leaves_in_block s (behind a.now x) left));
      all_arrays = a.all_arrays ∙ sym (append_assoc a.arrays (arrays_in s a.now x) (arrays_in_block s (behind a.now x) left));
      all_memories = a.all_memories ∙ sym (append_assoc a.memories (memories_in s a.now x) (memories_in_block s (behind a.now x) left));
      reached = a.reached;
      deep = a.deep ∙ sym (adds_statement a.now x).depth;
    }

-- the same statement
pub passes_by : {A E : Type 0} (frame : Frame) (depth : ℕ) (old new : Walk) (r : Result A E) (x y : Statement) → x ≡ y
    → PassesStatement frame y depth old new r → PassesStatement frame x depth old new r
passes_by frame depth old new r x y same h = subst (λ z. PassesStatement frame z depth old new r) (sym same) h
