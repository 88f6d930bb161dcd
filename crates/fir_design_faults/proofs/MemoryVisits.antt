-- The memories of the leaf view of a module are those of its text's statements.
use Rattle.std.proofs.Common.{◌≡◌, List, [], ◌∷◌, ◌++◌, Bool, true, false, refl, sym, ap, ◌∙◌, subst, inl, ⊎_elim}
use Rattle.fir_base.specs.Lists.{In}
use Rattle.fir_base.proofs.Members.{in_either, in_left, in_right}
use Rattle.fir_ast.specs.declared.place.Place.{Place}
use Rattle.fir_ast.specs.Circuits.{CircuitTree}
use Rattle.fir_ast.specs.Statements.{Block, MemoryPart, PlacedName, Statement, connect, done, instance, invalid, memory, node, partial_connect, register, skip, then, when, wire}
use Rattle.fir_meaning.specs.ModuleScenes.{Scene, behind_all_ports, scope_before}
use Rattle.fir_meaning.specs.SizedDeclarations.{numbered_modules}
use Rattle.fir_meaning.specs.TypeGroup.{type_faults}
use Rattle.fir_meaning.specs.Visibility.{Before, behind, behind_block, declarations, opened, reopened}
use Rattle.fir_meaning.specs.Visits.{Branch, Visit, branch, module_visits, visit, visits, visits_in}
use Rattle.fir_meaning.specs.working.LeafMemories.{memory_declared}
use Rattle.fir_meaning.specs.working.LeafModules.{MemoryDeclared}
use Rattle.fir_meaning.specs.working.LeafedModules.{arrays_in, arrays_in_block, leafed_module, leaves_in, leaves_in_block, memories_in, memories_in_block, memory_before}
use Rattle.fir_meaning.specs.working.NameGroups.{HasNames}
use Rattle.fir_meaning.specs.working.WellTyped.{AreLegal, IsLegal}
use Rattle.fir_leaf.proofs.DeclaredLeaves.{own_module}
use Rattle.fir_leaf.proofs.ScopesBegin.{begins_block, begins_through}
use Rattle.fir_design.proofs.CountedBlocks.{block_counted, statement_counted}
use Rattle.fir_design.proofs.FineScenes.{fine_scene}
use Rattle.fir_design.proofs.PlacedBlocks.{IsPlaced, body_placed, first_placed, memory_at, second_placed}
use Rattle.fir_design.proofs.SourceInstances.{grows_before}
use Rattle.fir_source_faults.specs.working.ReadsByPath.{scope_of_module}
use Rattle.fir_design_faults.proofs.MemoryMatches.{MemoryMatch, memory_match}

-- a visit of a memory that matches
pub record VisitOf (s : Scene) (vs : List Visit) (mem : MemoryDeclared) : Type 0 where
  pub visit : Visit
  pub among : In vs visit
  pub place : Place
  pub name : PlacedName
  pub parts : List MemoryPart
  pub is : visit.statement ≡ memory place name parts
  pub match : MemoryMatch s mem name parts

pub record Match (s : Scene) (ms : List MemoryDeclared) (vs : List Visit) : Type 0 where
  pub to : (mem : MemoryDeclared) → In ms mem → VisitOf s vs mem
  pub back : (v : Visit) (p : Place) (n : PlacedName) (parts : List MemoryPart) → In vs v → v.statement ≡ memory p n parts
      → (mem : MemoryDeclared) × In ms mem × MemoryMatch s mem n parts

module _ (s : Scene) where
  joined_match : (ms ns : List MemoryDeclared) (vs ws : List Visit) → Match s ms vs → Match s ns ws → Match s (ms ++ ns) (vs ++ ws)
  joined_match ms ns vs ws h k = record {
    to = λ mem i.
        ⊎_elim
        (λ (j : In ms mem).
        let o = h.to mem j in
        record { visit = o.visit; among = in_left vs ws o.visit o.among; place = o.place; name = o.name; parts = o.parts; is = o.is; match = o.match })
        (λ (j : In ns mem).
        let o = k.to mem j in
        record { visit = o.visit; among = in_right vs ws o.visit o.among; place = o.place; name = o.name; parts = o.parts; is = o.is; match = o.match })
        (in_either ms ns mem i);
    back = λ v p n parts i e.
        ⊎_elim (λ (j : In vs v). let o = h.back v p n parts j e in (o.0, in_left ms ns o.0 o.1, o.2))
        (λ (j : In ws v). let o = k.back v p n parts j e in (o.0, in_right ms ns o.0 o.1, o.2)) (in_either vs ws v i);
  }

  no_match : (v : Visit) → ((p : Place) (n : PlacedName) (parts : List MemoryPart) → v.statement ≡ memory p n parts → ⊥) → Match s [] (v ∷ [])
  no_match v h = record {
    to = λ mem i. absurd i;
    back = λ w p n parts i e.
        ⊎_elim (λ (same : v ≡ w). absurd (h p n parts (ap (λ (u : Visit). u.statement) same ∙ e))) (λ (b : ⊥). absurd b) i;
  }

  one_match : (v : Visit) (p : Place) (n : PlacedName) (parts : List MemoryPart) (mem : MemoryDeclared) → v.statement ≡ memory p n parts
      → MemoryMatch s mem n parts → Match s (mem ∷ []) (v ∷ [])
  one_match v p n parts mem is h = record {
    to = λ other i.
        ⊎_elim (λ (same : mem ≡ other).
        record { visit = v; among = inl refl; place = p; name = n; parts = parts; is = is; match = subst (λ z. MemoryMatch s z n parts) same h })
        (λ (b : ⊥). absurd b) i;
    back = λ w q x others i e.
        ⊎_elim (λ (same : v ≡ w).
        let both : memory p n parts ≡ memory q x others = sym is ∙ ap (λ (u : Visit). u.statement) same ∙ e in
        let named : n ≡ x = cc in
        let has : parts ≡ others = cc in
        (mem, inl refl, subst (λ z. MemoryMatch s mem z others) named (subst (λ z. MemoryMatch s mem n z) has h)))
        (λ (b : ⊥). absurd b) i;
  }

  empty_match : Match s [] []
  empty_match = record { to = λ mem i. absurd i; back = λ v p n parts i e. absurd i }

module _ (c : CircuitTree) (s : Scene) (names : HasNames c) (types : type_faults c ≡ []) (i : In (numbered_modules c) s.own) where
  abbrev none : s.own.start.scope ≡ []
  none = (own_module c s.own i).start

  mutual
    statement_match : (x : Statement) (before : Before) (way : List Bool) (under : List Branch)
        → IsPlaced s before.declared (behind before x).declared (leaves_in s before x) (arrays_in s before x)
        → IsLegal s.own.modules before x → Match s (memories_in s before x) (visits way before under x)
    statement_match (wire p n begins t) before way under placed h = no_match s (visit way before under (wire p n begins t)) (λ q m ps e. cc)
    statement_match (register p n begins t e r) before way under placed h =
        no_match s (visit way before under (register p n begins t e r)) (λ q m ps e. cc)
    statement_match (node p n e) before way under placed h = no_match s (visit way before under (node p n e)) (λ q m ps e. cc)
    statement_match (instance p n other) before way under placed h = no_match s (visit way before under (instance p n other)) (λ q m ps e. cc)
    statement_match (connect p d e) before way under placed h = no_match s (visit way before under (connect p d e)) (λ q m ps e. cc)
    statement_match (partial_connect p d e) before way under placed h = no_match s (visit way before under (partial_connect p d e)) (λ q m ps e. cc)
    statement_match (invalid p d) before way under placed h = no_match s (visit way before under (invalid p d)) (λ q m ps e. cc)
    statement_match (skip p) before way under placed h = no_match s (visit way before under (skip p)) (λ q m ps e. cc)
    statement_match (memory p n parts) before way under placed h =
        one_match s (visit way before under (memory p n parts)) p n parts (memory_declared (memory_before s before n parts)) refl
        (memory_match c s names types i before p n parts (memory_at s before p n parts h placed))
    statement_match (when p e a b) before way under placed h =
        let first = opened before in
        let inside = behind_block first a in
        let second = reopened before inside in
        let after = behind_block second b in
        let begins = begins_through (scope_before s inside) (scope_before s after) (scope_of_module s)
        (begins_block s.own.modules b second) placed.begins in
        let va = visits_in (way ++ false ∷ []) first (under ++ branch way before e true ∷ []) a in
        let vb = visits_in (way ++ true ∷ []) second (under ++ branch way before e false ∷ []) b in
        joined_match s [] (memories_in_block s first a ++ memories_in_block s second b) (visit way before under (when p e a b) ∷ []) (va ++ vb)
        (no_match s (visit way before under (when p e a b)) (λ q m ps e. cc))
        (joined_match s (memories_in_block s first a) (memories_in_block s second b) va vb
        (block_match a first (way ++ false ∷ []) (under ++ branch way before e true ∷ [])
        (first_placed s before.declared inside.declared after.declared (leaves_in_block s first a) (leaves_in_block s second b)
        (arrays_in_block s first a) (arrays_in_block s second b) (grows_before second b (declarations s.own.inside) placed.grows) begins placed) h.2)
        (block_match b second (way ++ true ∷ []) (under ++ branch way before e false ∷ [])
        (second_placed s before.declared inside.declared after.declared (leaves_in_block s first a) (leaves_in_block s second b)
        (arrays_in_block s first a) (arrays_in_block s second b) (block_counted s none a first) placed) h.3))

    block_match : (b : Block) (before : Before) (way : List Bool) (under : List Branch)
        → IsPlaced s before.declared (behind_block before b).declared (leaves_in_block s before b) (arrays_in_block s before b)
        → AreLegal s.own.modules before b → Match s (memories_in_block s before b) (visits_in way before under b)
    block_match done before way under placed h = empty_match s
    block_match ((then) x b) before way under placed h =
        let next = behind before x in
        let here = begins_through (scope_before s next) (scope_before s (behind_block next b)) (scope_of_module s)
        (begins_block s.own.modules b next) placed.begins in
        joined_match s (memories_in s before x) (memories_in_block s next b) (visits (way ++ false ∷ []) before under x) (visits_in (way ++ true ∷ []) next under b)
        (statement_match x before (way ++ false ∷ []) under
        (first_placed s before.declared next.declared (behind_block next b).declared (leaves_in s before x) (leaves_in_block s next b)
        (arrays_in s before x) (arrays_in_block s next b) (grows_before next b (declarations s.own.inside) placed.grows) here placed) h.0)
        (block_match b next (way ++ true ∷ []) under
        (second_placed s before.declared next.declared (behind_block next b).declared (leaves_in s before x) (leaves_in_block s next b)
        (arrays_in s before x) (arrays_in_block s next b) (statement_counted s none x before) placed) h.1)

  -- those of the module
  pub module_match : Match s (leafed_module s).memories (module_visits s.own.inside)
  module_match =
      block_match s.own.inside.body (behind_all_ports s.own.inside) [] [] (body_placed s none) (fine_scene c s names types i).legal
