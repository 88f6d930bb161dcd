-- In each module a clock leaf has by number the clock that it has by path.
use Rattle.std.proofs.Common.{◌≡◌, ℕ, zero, suc, ◌<◌, List, [], ◌∷◌, ◌++◌, map, length, slice_get, Some, refl, sym, ap, ◌∙◌, subst, arith}
use Rattle.std.specs.List.{AllByRecursion}
use Rattle.std.proofs.lemmas.Option.{get_or_from_slice_get, none-some, same_Some}
use Rattle.fir_base.specs.Lists.{In}
use Rattle.fir_base.proofs.Elements.{there, get_in, number_of}
use Rattle.fir_ast.specs.declared.place.Place.{Place}
use Rattle.fir_ast.specs.Expressions.{Expression, reference, literal, operation, mux, validif}
use Rattle.fir_meaning.specs.LeafPaths.{LeafPath}
use Rattle.fir_meaning.specs.ModuleScenes.{Scene}
use Rattle.fir_meaning.specs.SourceChoices.{IsLive}
use Rattle.fir_meaning.specs.SourceFacts.{source_depth}
use Rattle.fir_meaning.specs.SourceDrives.{Drive, module_drives, side}
use Rattle.fir_meaning.specs.SourceMemoryClocks.{leaves_read}
use Rattle.fir_meaning.specs.SourceMemoryClocks as tree
use Rattle.fir_meaning.specs.SourceMemoryClocks.{DriveNames, HasClock, RoleNames, TakesClockOf}
use Rattle.fir_meaning.specs.SourceRoles as sources
use Rattle.fir_meaning.specs.SourceRoles.{SourceLeaf, SourceRole, source_leaves}
use Rattle.fir_meaning.specs.TypedScopes.{TypedScope}
use Rattle.fir_meaning.specs.working.LeafCircuits.{LeafCircuit, role_of}
use Rattle.fir_meaning.specs.working.LeafModules as role
use Rattle.fir_meaning.specs.working.LeafModules.{LeafArray, LeafDeclared, Role, leaf_at, no_leaf}
use Rattle.fir_meaning.specs.working.LeafedModules.{leafed_module, module_leaves}
use Rattle.fir_meaning.specs.working.Terms.{Term, absent, no_picks, pick, read, zeros}
use Rattle.fir_meaning.specs.working.Terms as term
use Rattle.fir_leaf.specs.working.ClockFaults.{index_places, picking_places}
use Rattle.fir_leaf.specs.working.ClockRoots as numbered
use Rattle.fir_leaf.specs.working.ClockRoots.{GivesClock, HasRoot, IsClockLeaf, IsEnd, lives_of}
use Rattle.fir_leaf.specs.working.ModuleCircuits.{module_circuit}
use Rattle.fir_design.specs.working.SameRoles.{SameLeaves, SameRole}
use Rattle.fir_design.proofs.FineScenes.{IsFineScene}
use Rattle.fir_design.proofs.ListsInStep.{step_at, step_long}
use Rattle.fir_source_faults.specs.working.ReadsByPath.{ReadsByPath, path_in, paths_in}
use Rattle.fir_source_faults.proofs.NumberedRoles.{same_at}
use Rattle.fir_design_faults.proofs.ClockGifts.{GivesSame, HaveGifts, module_gifts}
use Rattle.fir_design_faults.proofs.ClockMarks.{Marked, leaves_given}
use Rattle.fir_design_faults.proofs.ClockRoles.{side_places}
use Rattle.fir_design_faults.proofs.MarkedModules.{drives_marked, drives_once, live_in, one_back, one_of}

side_leaves : (scope : TypedScope) (e : Expression) (q : LeafPath) → (side scope e q).leaves ≡ leaves_read scope e q
side_leaves scope (reference p n ps) q = refl
side_leaves scope (literal l) q = refl
side_leaves scope (operation p op es ks) q = refl
side_leaves scope (mux p c a b) q = refl
side_leaves scope (validif p c a) q = refl

paths_same : (leaves : List LeafDeclared) (arrays : List LeafArray) (ls : List LeafDeclared) (ts : List SourceLeaf) → SameLeaves leaves arrays ls ts
    → (k : ℕ) (t : SourceLeaf) → slice_get ts k ≡ Some t → (leaf_at ls k).path ≡ t.path
paths_same leaves arrays [] [] h k t e = absurd (none-some t e)
paths_same leaves arrays [] (u ∷ us) h k t e = absurd h
paths_same leaves arrays (l ∷ ls) [] h k t e = absurd h
paths_same leaves arrays (l ∷ ls) (u ∷ us) h zero t e = h.0.0 ∙ ap (λ (x : SourceLeaf). x.path) (same_Some u t e)
paths_same leaves arrays (l ∷ ls) (u ∷ us) h (suc k) t e = paths_same leaves arrays ls us h.1 k t e

some_place : (ps : List Place) (p : Place) → ps ++ p ∷ [] ≡ [] → ⊥
some_place [] p e = cc
some_place (q ∷ ps) p e = cc

module _ (s : Scene) (fine : IsFineScene s) (reading : ReadsByPath s)
    (roles : SameLeaves (leafed_module s).leaves (leafed_module s).arrays (leafed_module s).leaves (source_leaves s)) where
  abbrev pub c : LeafCircuit
  c = module_circuit (leafed_module s)

  abbrev leaves : List LeafDeclared
  leaves = module_leaves s

  abbrev arrays : List LeafArray
  arrays = (leafed_module s).arrays

  -- a leaf of the number in the tree
  pub record AtNumber (x : ℕ) (t : SourceLeaf) : Type 0 where
    pub get : slice_get (source_leaves s) x ≡ Some t
    pub below : x < length (module_leaves s)
    pub path : path_in s x ≡ t.path
    pub holds : (leaf_at (module_leaves s) x).holds ≡ t.holds
    pub role : SameRole (module_leaves s) (leafed_module s).arrays (leaf_at (module_leaves s) x).role t.role
    pub gives : GivesSame s (leaf_at (module_leaves s) x).role t.role
    pub instances : (leaf_at (module_leaves s) x).instances ≡ 0

  pub at_get : (x : ℕ) (t : SourceLeaf) → slice_get (source_leaves s) x ≡ Some t → AtNumber x t
  at_get x t e =
      let same = same_at leaves arrays leaves (source_leaves s) roles x t e in
      let own = step_at (HaveGifts s) leaves (source_leaves s) (module_gifts s reading fine) x t e in
      let here : leaf_at leaves x ≡ own.0 = get_or_from_slice_get leaves x own.0 no_leaf own.1 in
      record {
        get = e;
        below = same.below;
        path = paths_same leaves arrays leaves (source_leaves s) roles x t e;
        holds = same.holds;
        role = same.role;
        gives = subst (λ (l : LeafDeclared). GivesSame s l.role t.role) (sym here) own.2.gives;
        instances = ap (λ (l : LeafDeclared). l.instances) here ∙ own.2.instances;
      }

  pub at_number : (x : ℕ) → x < length (module_leaves s) → (t : SourceLeaf) × AtNumber x t
  at_number x lt =
      let t = there (source_leaves s) x (omega (arith, lt, step_long (HaveGifts s) leaves (source_leaves s) (module_gifts s reading fine))) in
      (t.0, at_get x t.0 t.1)

  pub number_at : (t : SourceLeaf) → In (source_leaves s) t → (x : ℕ) × AtNumber x t
  number_at t i = let x = number_of (source_leaves s) t i in (x.0, at_get x.0 t x.1)

  abbrev LiveFor : ℕ → Drive → Type 0
  LiveFor x = IsLive (source_depth s (path_in s x)) (path_in s x) (module_drives s)

  -- a term that names one leaf without an index
  read_plain : (t : Term) (q : LeafPath) → paths_in s (leaves_given t) ≡ q ∷ [] → picking_places t ≡ []
      → (y : ℕ) × (t ≡ read y no_picks) × (path_in s y ≡ q)
  read_plain (read b no_picks) q e h = (b, refl, (let same : path_in s b ∷ [] ≡ q ∷ [] = e in cc))
  read_plain (read b (pick ps p i n each)) q e h = absurd (some_place (index_places ps) p h)
  read_plain zeros q e h = absurd (cc)
  read_plain (absent t ps) q e h = absurd (cc)
  read_plain (term.literal l) q e h = absurd (cc)
  read_plain (term.operation op ts ks) q e h = absurd (cc)
  read_plain (term.mux a b d) q e h = absurd (cc)
  read_plain (term.validif a b) q e h = absurd (cc)

  -- one step
  drive_by_path : (x y : ℕ) → x < length (module_leaves s) → numbered.HasOneLive c x (read y no_picks) → DriveNames s (path_in s x) (path_in s y)
  drive_by_path x y lt h =
      let to = one_of s (LiveFor x) (module_drives s) h.live (subst (Marked s (LiveFor x) (λ d. LiveFor x d → ⊥) (module_drives s)) h.only (drives_marked s fine reading x lt)) in
      record {
        drive = to.0;
        live = to.1;
        only = λ other live. to.3 other (live_in s fine reading x lt other live) live;
        is = sym to.2.given.leaves ∙ ap (λ t. paths_in s (leaves_given t)) h.gives;
        plain = sym to.2.given.places ∙ ap picking_places h.gives;
      }

  drive_by_number : (x : ℕ) (q : LeafPath) → x < length (module_leaves s) → DriveNames s (path_in s x) q
      → (y : ℕ) × numbered.HasOneLive c x (read y no_picks) × (path_in s y ≡ q)
  drive_by_number x q lt h =
      let to = one_back s (LiveFor x) (module_drives s) (lives_of c x) h.drive (drives_once s fine reading x lt) (drives_marked s fine reading x lt)
      (live_in s fine reading x lt h.drive h.live) h.live (λ e i live. h.only e live) in
      let plain = read_plain to.0.given q (to.2.given.leaves ∙ h.is) (to.2.given.places ∙ h.plain) in
      (plain.0, record { live = to.0; only = to.1; gives = plain.1 }, plain.2)

  names_by_path : (x y : ℕ) → x < length (module_leaves s) → (r : Role) (u : SourceRole) → SameRole leaves arrays r u → GivesSame s r u
      → GivesClock c x r (read y no_picks) → RoleNames s (path_in s x) u (path_in s y)
  names_by_path x y lt role.sink sources.sink h g k = drive_by_path x y lt k
  names_by_path x y lt (role.computed t) (sources.computed scope e q) h g k = (
    sym (side_leaves scope e q) ∙ sym g.leaves ∙ ap (λ u. paths_in s (leaves_given u)) k,
    sym (side_places scope e q) ∙ sym g.places ∙ ap picking_places k,
  )
  names_by_path x y lt role.source sources.source h g k = absurd k
  names_by_path x y lt (role.register t r) (sources.register scope e reset q) h g k = absurd k
  names_by_path x y lt (role.reading r) (sources.reading q) h g k = absurd k
  names_by_path x y lt (role.pipe r z under) (sources.pipe q j kept) h g k = absurd k
  names_by_path x y lt _ _ h g k = absurd h

  names_by_number : (x : ℕ) (q : LeafPath) → x < length (module_leaves s) → (r : Role) (u : SourceRole) → SameRole leaves arrays r u → GivesSame s r u
      → RoleNames s (path_in s x) u q → (y : ℕ) × GivesClock c x r (read y no_picks) × (path_in s y ≡ q)
  names_by_number x q lt role.sink sources.sink h g k = drive_by_number x q lt k
  names_by_number x q lt (role.computed t) (sources.computed scope e p) h g k =
      let plain = read_plain t q (g.leaves ∙ side_leaves scope e p ∙ k.0) (g.places ∙ side_places scope e p ∙ k.1) in
      (plain.0, plain.1, plain.2)
  names_by_number x q lt role.source sources.source h g k = absurd k
  names_by_number x q lt (role.register t r) (sources.register scope e reset p) h g k = absurd k
  names_by_number x q lt (role.reading r) (sources.reading p) h g k = absurd k
  names_by_number x q lt (role.pipe r z under) (sources.pipe p j kept) h g k = absurd k
  names_by_number x q lt _ _ h g k = absurd h

  step_by_path : (x y : ℕ) → IsClockLeaf c x → GivesClock c x (role_of c x) (read y no_picks) → TakesClockOf s (path_in s x) (path_in s y)
  step_by_path x y k h =
      let t = at_number x k.within in (
        t.0,
        get_in (source_leaves s) x t.0 t.1.get,
        sym t.1.path,
        sym t.1.holds ∙ k.is_clock,
        names_by_path x y k.within (role_of c x) t.0.role t.1.role t.1.gives h,
      )

  -- a clock leaf by its path is the one of its number
  same_number : (x : ℕ) → x < length (module_leaves s) → (l : SourceLeaf) → In (source_leaves s) l → l.path ≡ path_in s x → AtNumber x l
  same_number x lt l i e =
      let n = number_at l i in
      subst (λ z. AtNumber z l) (reading.once n.0 x n.1.below lt (n.1.path ∙ e)) n.1

  step_by_number : (x : ℕ) (q : LeafPath) → x < length (module_leaves s) → TakesClockOf s (path_in s x) q
      → (y : ℕ) × GivesClock c x (role_of c x) (read y no_picks) × (path_in s y ≡ q)
  step_by_number x q lt h =
      let at = same_number x lt h.0 h.1 h.2 in
      names_by_number x q lt (role_of c x) h.0.role at.role at.gives h.4

  -- chains
  chain_by_path : (x : ℕ) (ys : List ℕ) (final : ℕ) → IsClockLeaf c x → numbered.IsChain c x ys final
      → tree.IsClockChain s (path_in s x) (map (path_in s) ys) (path_in s final) × IsClockLeaf c final
  chain_by_path x [] final k h = (ap (path_in s) h, subst (IsClockLeaf c) h k)
  chain_by_path x (y ∷ ys) final k h =
      let more = chain_by_path y ys final h.1 h.2 in ((step_by_path x y k h.0, more.0), more.1)

  end_is : (final root : ℕ) (r : Role) → IsEnd c final r (Some root) → (r ≡ role.source) × (root ≡ final)
  end_is final root role.source h = (refl, same_Some root final h)
  end_is final root role.sink h = absurd (none-some root (sym h.1))
  end_is final root (role.computed t) h = absurd (none-some root (sym h.1))
  end_is final root (role.register t r) h = absurd (none-some root (sym h.1))
  end_is final root (role.reading r) h = absurd (none-some root (sym h.1))
  end_is final root (role.pipe r z under) h = absurd (none-some root (sym h.1))

  source_by_path : (r : Role) (u : SourceRole) → SameRole leaves arrays r u → r ≡ role.source → u ≡ sources.source
  source_by_path role.source sources.source h e = refl
  source_by_path role.sink sources.sink h e = absurd (cc)
  source_by_path (role.computed t) (sources.computed scope k q) h e = absurd (cc)
  source_by_path (role.register t r) (sources.register scope k reset q) h e = absurd (cc)
  source_by_path (role.reading r) (sources.reading q) h e = absurd (cc)
  source_by_path (role.pipe r y under) (sources.pipe q j kept) h e = absurd (cc)
  source_by_path _ _ h e = absurd h

  source_by_number : (r : Role) (u : SourceRole) → SameRole leaves arrays r u → u ≡ sources.source → r ≡ role.source
  source_by_number role.source sources.source h e = refl
  source_by_number role.sink sources.sink h e = absurd (cc)
  source_by_number (role.computed t) (sources.computed scope k q) h e = absurd (cc)
  source_by_number (role.register t r) (sources.register scope k reset q) h e = absurd (cc)
  source_by_number (role.reading r) (sources.reading q) h e = absurd (cc)
  source_by_number (role.pipe r y under) (sources.pipe q j kept) h e = absurd (cc)
  source_by_number _ _ h e = absurd h

  pub has_by_path : (x root : ℕ) → IsClockLeaf c x → HasRoot c x (Some root) → HasClock s (path_in s x) (path_in s root)
  has_by_path x root k h =
      let ends = end_is h.final root (role_of c h.final) h.ends in
      let chain = chain_by_path x h.walk h.final k h.chain in
      let t = at_number h.final chain.1.within in
      subst (λ z. HasClock s (path_in s x) (path_in s z)) (sym ends.1)
      (record {
        through = map (path_in s) h.walk;
        chain = chain.0;
        leaf = t.0;
        among = get_in (source_leaves s) h.final t.0 t.1.get;
        is = sym t.1.path;
        is_clock = sym t.1.holds ∙ chain.1.is_clock;
        is_source = source_by_path (role_of c h.final) t.0.role t.1.role ends.0;
      })

  pub root_within : (x root : ℕ) → IsClockLeaf c x → HasRoot c x (Some root) → root < length (module_leaves s)
  root_within x root k h =
      let ends = end_is h.final root (role_of c h.final) h.ends in
      subst (λ z. z < length (module_leaves s)) (sym ends.1) (chain_by_path x h.walk h.final k h.chain).1.within

  -- what leads to a clock leaf is one
  clock_here : (qs : List LeafPath) (y z : ℕ) → y < length (module_leaves s) → IsClockLeaf c z → tree.IsClockChain s (path_in s y) qs (path_in s z) → IsClockLeaf c y
  clock_here [] y z lt k h = subst (IsClockLeaf c) (sym (reading.once y z lt k.within h)) k
  clock_here (q ∷ qs) y z lt k h =
      let l = h.0 in
      let at = same_number y lt l.0 l.1 l.2 in
      record { within = lt; is_clock = at.holds ∙ l.3 }

  within_of : (x y : ℕ) (r : Role) (u : SourceRole) → x < length (module_leaves s) → SameRole leaves arrays r u → GivesSame s r u
      → GivesClock c x r (read y no_picks) → y < length (module_leaves s)
  within_of x y role.sink sources.sink lt h g k =
      let to = one_of s (LiveFor x) (module_drives s) k.live (subst (Marked s (LiveFor x) (λ d. LiveFor x d → ⊥) (module_drives s)) k.only (drives_marked s fine reading x lt)) in
      (subst (λ t. AllByRecursion (λ z. z < length (module_leaves s)) (leaves_given t)) k.gives to.2.given.within).0
  within_of x y (role.computed t) (sources.computed scope e q) lt h g k =
      (subst (λ u. AllByRecursion (λ z. z < length (module_leaves s)) (leaves_given u)) k g.within).0
  within_of x y role.source sources.source lt h g k = absurd k
  within_of x y (role.register t r) (sources.register scope e reset q) lt h g k = absurd k
  within_of x y (role.reading r) (sources.reading q) lt h g k = absurd k
  within_of x y (role.pipe r z under) (sources.pipe q j kept) lt h g k = absurd k
  within_of x y _ _ lt h g k = absurd h

  chain_by_number : (qs : List LeafPath) (x z : ℕ) → x < length (module_leaves s) → IsClockLeaf c z → tree.IsClockChain s (path_in s x) qs (path_in s z)
      → (ys : List ℕ) × numbered.IsChain c x ys z
  chain_by_number [] x z lt k h = ([], reading.once x z lt k.within h)
  chain_by_number (q ∷ qs) x z lt k h =
      let step = step_by_number x q lt h.0 in
      let t = at_number x lt in
      let less = within_of x step.0 (role_of c x) t.0.role lt t.1.role t.1.gives step.1 in
      let rest = subst (λ p. tree.IsClockChain s p qs (path_in s z)) (sym step.2) h.1 in
      let more = chain_by_number qs step.0 z less k rest in
      (step.0 ∷ more.0, (step.1, clock_here qs step.0 z less k rest, more.1))

  pub has_by_number : (x : ℕ) (q : LeafPath) → x < length (module_leaves s) → HasClock s (path_in s x) q
      → (root : ℕ) × (path_in s root ≡ q) × HasRoot c x (Some root)
  has_by_number x q lt h =
      let z = number_at h.leaf h.among in
      let path : path_in s z.0 ≡ q = z.1.path ∙ h.is in
      let k : IsClockLeaf c z.0 = record { within = z.1.below; is_clock = z.1.holds ∙ h.is_clock } in
      let chain = chain_by_number h.through x z.0 lt k (subst (tree.IsClockChain s (path_in s x) h.through) (sym path) h.chain) in
      let is_source = source_by_number (role_of c z.0) h.leaf.role z.1.role h.is_source in (
        z.0,
        path,
        record {
          walk = chain.0;
          final = z.0;
          chain = chain.1;
          ends = subst (λ r. IsEnd c z.0 r (Some z.0)) (sym is_source) refl;
        },
      )
