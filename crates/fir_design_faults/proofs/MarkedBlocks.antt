-- The statements of a module over its leaves beside the drives of its text's statements, with the marks of what is live.
use Rattle.std.proofs.Common.{◌≡◌, ℕ, ◌+◌, ◌<◌, List, [], ◌∷◌, ◌++◌, Bool, true, false, drop, flat_map, if◌then◌else◌, length, Option, Some, None, refl, sym, ap, ◌∙◌, subst, append-nil}
use Rattle.std.specs.List.{list_any}
use Rattle.std.proofs.lemmas.Grind.{flat_map-append}
use Rattle.std.proofs.lemmas.List.{length-append}
use Rattle.fir_ast.specs.declared.fault.Outcome.{Outcome}
use Rattle.fir_ast.specs.Types.{uint}
use Rattle.fir_ast.specs.Expressions.{Expression}
use Rattle.fir_ast.specs.Statements.{Statement, wire, register, node, instance, memory, when, connect, partial_connect, invalid, skip, Block, done, then}
use Rattle.fir_ast.specs.Circuits.{ModuleTree}
use Rattle.fir_meaning.specs.ConnectPairs.{pairs, partial_pairs}
use Rattle.fir_meaning.specs.Equivalence.{is_connectable, is_partly_connectable}
use Rattle.fir_meaning.specs.working.LeafBlocks.{LeafBlock}
use Rattle.fir_meaning.specs.working.LeafBlocks as over
use Rattle.fir_meaning.specs.working.LeafPairs.{leaf_pairs, partial_leaf_pairs}
use Rattle.fir_meaning.specs.LeafPaths.{LeafPath}
use Rattle.fir_meaning.specs.working.Leafed.{first_term, terms}
use Rattle.fir_meaning.specs.working.LeafedBlocks.{instance_block, leafed, leafed_all, term_at}
use Rattle.fir_meaning.specs.ModuleScenes.{Scene}
use Rattle.fir_meaning.specs.working.LeafedModules.{driven_leaves, module_leaves}
use Rattle.fir_meaning.specs.ResetJoins.{numbered_module}
use Rattle.fir_meaning.specs.SourceChoices.{Choice, are_taken, may_drive}
use Rattle.fir_meaning.specs.SourceDrives.{Drive, drives}
use Rattle.fir_meaning.specs.SourceReads as tree
use Rattle.fir_meaning.specs.SourceUndriven.{holds_drive, told}
use Rattle.fir_meaning.specs.working.TermReads as by_number
use Rattle.fir_meaning.specs.working.Terms.{Term}
use Rattle.fir_meaning.specs.TypeGroup.{scope_at}
use Rattle.fir_meaning.specs.TypedScopes.{TypedScope}
use Rattle.fir_meaning.specs.Visibility.{Before, behind, behind_block, opened, reopened}
use Rattle.fir_meaning.specs.Visits.{Branch, Visit, branch, visit, visits, visits_in}
use Rattle.fir_meaning.specs.working.WellTyped.{AreLegal, HasType, IsLegal}
use Rattle.fir_leaf.specs.working.LeafLaws.{Begins}
use Rattle.fir_leaf.proofs.PairsByNumber.{pairs_numbered, partial_numbered}
use Rattle.fir_leaf.proofs.ScopesBegin.{begins_block, begins_through}
use Rattle.fir_design.proofs.FineScenes.{IsFineScene}
use Rattle.fir_source_faults.specs.working.ReadsByPath.{ReadsByPath, path_in, paths_in, scope_of_module}
use Rattle.fir_source_faults.proofs.DrivePieces.{told_by}
use Rattle.fir_design_faults.proofs.ClockMarks.{none_begin}
use Rattle.fir_design_faults.proofs.MarkedConnects.{connect_beside}
use Rattle.fir_design_faults.proofs.MarkedInvalids.{invalid_beside}
use Rattle.fir_design_faults.proofs.MarkedPieces.{Beside, Full, both_full, idle, retold}
use Rattle.fir_design_faults.proofs.MarkedWhens.{when_full}

first_is : (ts : List Term) → first_term ts ≡ term_at ts 0
first_is [] = refl
first_is (t ∷ ts) = refl

module _ (s : Scene) (fine : IsFineScene s) (depth x : ℕ) (reading : ReadsByPath s) (lt : x < length (module_leaves s)) where
  abbrev path : LeafPath
  path = path_in s x

  abbrev modules : List ModuleTree
  modules = s.own.modules

  -- the drives of statements, and what is told of them
  abbrev drives_of : List Visit → List Drive
  drives_of vs = flat_map (drives s) vs

  abbrev told_of : List Visit → Choice → List Outcome
  told_of vs h = flat_map (told s depth (path_in s x) h) vs

  abbrev pub Alike : List Bool → List Branch → ℕ → LeafBlock → List Visit → Type 0
  Alike way under k b vs =
      Full s depth x way under k b (flat_map (drives s) vs) (λ h. flat_map (told s depth (path_in s x) h) vs)

  -- a statement that is no when
  alike_alone : (way : List Bool) (under : List Branch) (k : ℕ) (b : LeafBlock) (v : Visit) (ds : List Drive)
      → ((h : Choice) → told_by s depth x under k ds h ≡ told s depth (path_in s x) h v) → drives s v ≡ ds
      → Beside s depth x under k way b ds → Alike way under k b (v ∷ [])
  alike_alone way under k b v ds same is beside =
      subst (λ (es : List Drive). Full s depth x way under k b es (λ h. told s depth (path_in s x) h v ++ [])) (sym (append-nil (drives s v) ∙ is))
      (retold s depth x way under k b ds (told_by s depth x under k ds) (λ h. told s depth (path_in s x) h v ++ [])
      (λ h. same h ∙ sym (append-nil (told s depth (path_in s x) h v))) beside)

  -- and one that drives nothing
  alike_idle : (way : List Bool) (under : List Branch) (k : ℕ) → Beside s depth x under k way over.done []
  alike_idle way under k = idle s depth x under k way over.done [] (λ f. refl) (λ f. refl) refl refl (none_begin way) tt refl

  instance_idle : (way : List Bool) (under : List Branch) (k : ℕ) (scope : TypedScope) (found : Option (ℕ × ModuleTree))
      → Beside s depth x under k way (instance_block scope found) []
  instance_idle way under k scope None = alike_idle way under k
  instance_idle way under k scope (Some child) = idle s depth x under k way (instance_block scope (Some child)) [] (λ f. refl) (λ f. refl) refl refl
      (none_begin way) tt refl

  nothing_told : (under : List Branch) (k : ℕ) (h : Choice) → told_by s depth x under k [] h ≡ []
  nothing_told under k h = by (are_taken h (drop depth under))
    where
      nothing : List Outcome
      nothing = []

      by : (taken : Bool) → (if taken then nothing else nothing) ≡ nothing
      by true = refl
      by false = refl

  relisted : (way : List Bool) (under : List Branch) (k : ℕ) (b : LeafBlock) (ds es : List Drive) (t u : Choice → List Outcome) → ds ≡ es
      → ((h : Choice) → t h ≡ u h) → Full s depth x way under k b ds t → Full s depth x way under k b es u
  relisted way under k b ds es t u is same piece =
      subst (λ (fs : List Drive). Full s depth x way under k b fs u) is (retold s depth x way under k b ds t u same piece)

  condition_reads : (scope : TypedScope) → Begins scope (scope_of_module s) → (c : Expression) (width : Option ℕ) → HasType scope c (uint width)
      → paths_in s (by_number.reads (first_term (terms scope c))) ≡ tree.reads scope c []
  condition_reads scope begins c width h =
      ap (λ t. paths_in s (by_number.reads t)) (first_is (terms scope c))
      ∙ reading.expression scope c (uint width) 0 (record { path = []; flip = false; ground_type = uint width }) begins h refl

  mutual
    statement_full : (z : Statement) (before : Before) (way : List Bool) (under : List Branch) (k : ℕ) → length under ≡ k
        → Begins (scope_at s.own.modules (behind before z)) (scope_of_module s) → IsLegal s.own.modules before z
        → Alike way under k (leafed s.own.modules (driven_leaves s) before z) (visits way before under z)
    statement_full (wire p n begins t) before way under k long b h =
        alike_alone way under k over.done (visit way before under (wire p n begins t)) [] (λ h. refl) refl (alike_idle way under k)
    statement_full (register p n begins t c r) before way under k long b h =
        alike_alone way under k over.done (visit way before under (register p n begins t c r)) [] (λ h. refl) refl (alike_idle way under k)
    statement_full (node p n e) before way under k long b h =
        alike_alone way under k over.done (visit way before under (node p n e)) [] (λ h. refl) refl (alike_idle way under k)
    statement_full (memory p n parts) before way under k long b h =
        alike_alone way under k over.done (visit way before under (memory p n parts)) [] (λ h. refl) refl (alike_idle way under k)
    statement_full (skip p) before way under k long b h =
        alike_alone way under k over.done (visit way before under (skip p)) [] (λ h. refl) refl (alike_idle way under k)
    statement_full (instance p n other) before way under k long b h =
        let found = numbered_module 0 s.own.modules other.name in
        let scope = scope_at s.own.modules before in
        alike_alone way under k (instance_block scope found) (visit way before under (instance p n other)) [] (λ h. refl) refl
        (instance_idle way under k scope found)
    statement_full (when p c a e) before way under k long b h =
        let inside = behind_block (opened before) a in
        let behind_a : Begins (scope_at modules inside) (scope_of_module s) =
        begins_through (scope_at modules inside) (scope_at modules (behind_block (reopened before inside) e)) (scope_of_module s)
        (begins_block modules e (reopened before inside)) b in
        let at_c : Begins (scope_at modules before) (scope_of_module s) =
        begins_through (scope_at modules before) (scope_at modules inside) (scope_of_module s) (begins_block modules a (opened before)) behind_a in
        let first = under ++ branch way before c true ∷ [] in
        let second = under ++ branch way before c false ∷ [] in
        let va = visits_in (way ++ false ∷ []) (opened before) first a in
        let vb = visits_in (way ++ true ∷ []) (reopened before inside) second e in
        let at_a = block_full a (opened before) (way ++ false ∷ []) first (k + 1) (length-append under (branch way before c true ∷ []) ∙ ap (λ n. n + 1) long)
        behind_a h.2 in
        let at_b = block_full e (reopened before inside) (way ++ true ∷ []) second (k + 1)
        (length-append under (branch way before c false ∷ []) ∙ ap (λ n. n + 1) long) b h.3 in
        let t = first_term (terms (scope_at modules before) c) in
        let v = visit way before under (when p c a e) in
        let whole = when_full s depth x way under k long before c t (condition_reads (scope_at modules before) at_c c h.0 h.1) p
        (leafed_all modules (driven_leaves s) (opened before) a) (leafed_all modules (driven_leaves s) (reopened before inside) e)
        (drives_of va) (drives_of vb) (told_of va) (told_of vb) (holds_drive s depth (path_in s x) v)
        (ap (list_any (may_drive depth (path_in s x))) (sym (flat_map-append (drives s) va vb))) at_a at_b in
        relisted way under k (leafed modules (driven_leaves s) before (when p c a e)) (drives_of va ++ drives_of vb) (drives_of (va ++ vb))
        (λ h. told s depth (path_in s x) h v ++ (told_of va h ++ told_of vb h)) (told_of (visits way before under (when p c a e)))
        (sym (flat_map-append (drives s) va vb))
        (λ h. ap (λ (os : List Outcome). told s depth (path_in s x) h v ++ os) (sym (flat_map-append (told s depth (path_in s x) h) va vb))) whole
    statement_full (connect p sink e) before way under k long b h =
        let v = visit way before under (connect p sink e) in
        alike_alone way under k (leafed modules (driven_leaves s) before (connect p sink e)) v (drives s v) (λ h. refl) refl
        (connect_beside s depth x reading lt under k before way (connect p sink e) b is_connectable leaf_pairs pairs pairs_numbered p sink e h)
    statement_full (partial_connect p sink e) before way under k long b h =
        let v = visit way before under (partial_connect p sink e) in
        alike_alone way under k (leafed modules (driven_leaves s) before (partial_connect p sink e)) v (drives s v) (λ h. refl) refl
        (connect_beside s depth x reading lt under k before way (partial_connect p sink e) b is_partly_connectable partial_leaf_pairs partial_pairs
        partial_numbered p sink e h)
    statement_full (invalid p sink) before way under k long b h =
        let v = visit way before under (invalid p sink) in
        alike_alone way under k (leafed modules (driven_leaves s) before (invalid p sink)) v (drives s v) (λ h. refl) refl
        (invalid_beside s fine depth x reading lt under k before way (invalid p sink) b p sink h.0 h.1)

    pub block_full : (z : Block) (before : Before) (way : List Bool) (under : List Branch) (k : ℕ) → length under ≡ k
        → Begins (scope_at s.own.modules (behind_block before z)) (scope_of_module s) → AreLegal s.own.modules before z
        → Full s depth x way under k (leafed_all s.own.modules (driven_leaves s) before z) (flat_map (drives s) (visits_in way before under z))
        (λ h. flat_map (told s depth (path_in s x) h) (visits_in way before under z))
    block_full done before way under k long b h =
        retold s depth x way under k over.done [] (told_by s depth x under k []) (λ h. []) (nothing_told under k) (alike_idle way under k)
    block_full ((then) z rest) before way under k long b h =
        let next = behind before z in
        let here : Begins (scope_at modules next) (scope_of_module s) =
        begins_through (scope_at modules next) (scope_at modules (behind_block next rest)) (scope_of_module s) (begins_block modules rest next) b in
        let one = statement_full z before (way ++ false ∷ []) under k long here h.0 in
        let two = block_full rest next (way ++ true ∷ []) under k long b h.1 in
        let vs = visits (way ++ false ∷ []) before under z in
        let ws = visits_in (way ++ true ∷ []) next under rest in
        let first = leafed modules (driven_leaves s) before z in
        let later = leafed_all modules (driven_leaves s) next rest in
        relisted way under k (over.joined first later) (drives_of vs ++ drives_of ws) (drives_of (vs ++ ws)) (λ h. told_of vs h ++ told_of ws h)
        (told_of (vs ++ ws)) (sym (flat_map-append (drives s) vs ws)) (λ h. sym (flat_map-append (told s depth (path_in s x) h) vs ws))
        (both_full s depth x way under k first later (drives_of vs) (drives_of ws) (told_of vs) (told_of ws) one two)
