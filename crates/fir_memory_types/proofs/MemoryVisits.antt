-- The memories of a module in the order of the text, each with what is declared before it: what its leaves, arrays and memories are, and in which order they stand.
use Rattle.std.proofs.Common.{◌≡◌, ℕ, suc, ◌+◌, ◌≤◌, List, [], ◌∷◌, ◌++◌, map, length, refl, arith, length-append}
use Rattle.fir_ast.specs.Statements.{PlacedName, Statement, memory, when, Block, done, then, MemoryPart}
use Rattle.fir_meaning.specs.Components.{Component, Declaration, Declarations}
use Rattle.fir_meaning.specs.Components as component
use Rattle.fir_meaning.specs.Costs.{sum_of}
use Rattle.fir_meaning.specs.Visibility.{Before, declaration_at, opened, reopened, behind, behind_block}
use Rattle.fir_meaning.specs.ModuleScenes.{Scene}
use Rattle.fir_meaning.specs.working.LeafMemories.{LeafMemory, array_count, arrays_of, memory_declared, memory_roles}
use Rattle.fir_meaning.specs.working.LeafModules.{LeafArray, LeafDeclared, MemoryDeclared, Role, computed, pipe, reading, sink, source}
use Rattle.fir_meaning.specs.working.LeafModules as role
use Rattle.fir_meaning.specs.working.LeafedModules.{memory_arrays, memory_before, own_leaves, role_in}

pub record MemoryVisit : Type 0 where
  pub before : Before
  pub named : PlacedName
  pub parts : List MemoryPart

abbrev pub visit : Before → PlacedName → List MemoryPart → MemoryVisit
visit before n parts = record { before = before; named = n; parts = parts }

abbrev mutual
  pub visits : Before → Statement → List MemoryVisit
  visits before (memory p n parts) = visit before n parts ∷ []
  visits before (when p c a b) = visits_in (opened before) a ++ visits_in (reopened before (behind_block (opened before) a)) b
  visits before _ = []

  pub visits_in : Before → Block → List MemoryVisit
  visits_in before done = []
  visits_in before ((then) x b) = visits before x ++ visits_in (behind before x) b

-- what a memory has in the view of a module
abbrev pub memory_of : Scene → MemoryVisit → LeafMemory
memory_of s v = memory_before s v.before v.named v.parts

abbrev pub visit_leaves : Scene → MemoryVisit → List LeafDeclared
visit_leaves s v = own_leaves s v.before v.named (component.memory v.parts) (role_in (memory_roles (memory_of s v)))

abbrev pub visit_arrays : Scene → MemoryVisit → List LeafArray
visit_arrays s v = memory_arrays s (memory_of s v) v.parts

abbrev pub visit_memory : Scene → MemoryVisit → MemoryDeclared
visit_memory s v = memory_declared (memory_of s v)

-- a leaf that no memory reads
abbrev pub IsPlain : Role → Type 0
IsPlain source = Unit {0}
IsPlain sink = Unit {0}
IsPlain (computed e) = Unit {0}
IsPlain (role.register x r) = Unit {0}
IsPlain (reading r) = ⊥
IsPlain (pipe r x under) = ⊥

-- how many arrays are declared
abbrev pub arrays_among : Declarations → ℕ
arrays_among ds = sum_of (map (λ (d : Declaration). arrays_of d.component) ds)

pub arrays_more : (ds : Declarations) (d : Declaration) → arrays_among (ds ++ d ∷ []) ≡ arrays_among ds + arrays_of d.component
arrays_more [] d = omega arith
arrays_more (x ∷ ds) d = omega (arith, arrays_more ds d)

-- memories in the order of their declarations, from a number of declarations and of arrays to others
abbrev pub Along : ℕ → ℕ → List MemoryVisit → ℕ → ℕ → Type 0
Along low n [] high m = (low ≤ high) × (n ≡ m)
Along low n (v ∷ vs) high m =
    (low ≤ length v.before.declared) × (n ≡ arrays_among v.before.declared)
    × Along (suc (length v.before.declared)) (n + array_count v.parts) vs high m

-- between declarations
abbrev pub Between : Declarations → List MemoryVisit → Declarations → Type 0
Between ds vs es = Along (length ds) (arrays_among ds) vs (length es) (arrays_among es)

lower : (low less n : ℕ) (vs : List MemoryVisit) (high m : ℕ) → less ≤ low → Along low n vs high m → Along less n vs high m
lower low less n [] high m le h = (omega (arith, le, h.0), h.1)
lower low less n (v ∷ vs) high m le h = (omega (arith, le, h.0), h.1, h.2)

pub along_joined : (low n : ℕ) (vs : List MemoryVisit) (mid k : ℕ) (ws : List MemoryVisit) (high m : ℕ) → Along low n vs mid k → Along mid k ws high m
    → Along low n (vs ++ ws) high m
along_joined low n [] mid k ws high m h g = rw h.1 (lower mid low k ws high m h.0 g)
along_joined low n (v ∷ vs) mid k ws high m h g =
    (h.0, h.1, along_joined (suc (length v.before.declared)) (n + array_count v.parts) vs mid k ws high m h.2 g)

pub nothing_between : (ds : Declarations) → Between ds [] ds
nothing_between ds = (omega arith, refl)

-- one declaration, of a memory or not
pub one_between : (ds : Declarations) (d : Declaration) → arrays_of d.component ≡ 0 → Between ds [] (ds ++ d ∷ [])
one_between ds d none = (omega (arith, length-append ds (d ∷ [])), omega (arith, arrays_more ds d, none))

pub memory_between : (before : Before) (n : PlacedName) (parts : List MemoryPart)
    → Between before.declared (visit before n parts ∷ []) (before.declared ++ declaration_at before n (component.memory parts) ∷ [])
memory_between before n parts =
    let d = declaration_at before n (component.memory parts) in
    (omega arith, refl, (omega (arith, length-append before.declared (d ∷ [])), omega (arith, arrays_more before.declared d)))
