-- The ports of a memory of a module are on different clocks by number exactly where they are by path.
use Rattle.std.proofs.Common.{◌≡◌, ◌↔◌, ℕ, List, [], ◌∷◌, ◌++◌, map, refl, sym, ap, ap₂, ◌∙◌, subst, inl, inr}
use Rattle.std.specs.List.{AllByRecursion}
use Rattle.std.proofs.lemmas.List.{map-append}
use Rattle.std.proofs.lemmas.Option.{same_Some}
use Rattle.fir_base.specs.Lists.{In}
use Rattle.fir_base.proofs.Members.{in_left, in_map, in_map_from, in_right}
use Rattle.fir_ast.specs.Circuits.{CircuitTree}
use Rattle.fir_ast.specs.Faults.{Fault}
use Rattle.fir_ast.specs.Statements.{PlacedName}
use Rattle.fir_meaning.specs.LeafPaths.{LeafPath, named, path_text}
use Rattle.fir_meaning.specs.ModuleScenes.{Scene}
use Rattle.fir_meaning.specs.SizedDeclarations.{numbered_modules}
use Rattle.fir_meaning.specs.SourceMemoryClocks.{HasClock, ShowsMemoryClocks, memory_clocks_fault}
use Rattle.fir_meaning.specs.SourceRoles.{source_leaves}
use Rattle.fir_meaning.specs.TypeGroup.{type_faults}
use Rattle.fir_meaning.specs.working.LeafedModules.{leafed_module}
use Rattle.fir_meaning.specs.working.NameGroups.{HasNames}
use Rattle.fir_leaf.specs.working.ClockRoots.{IsClockLeaf}
use Rattle.fir_leaf.specs.working.MemoryClockFaults as numbered
use Rattle.fir_leaf.specs.working.ModuleCircuits.{module_circuit}
use Rattle.fir_design.specs.working.SameRoles.{SameLeaves}
use Rattle.fir_design.proofs.FineScenes.{IsFineScene, fine_scene}
use Rattle.fir_source_faults.specs.working.ReadsByPath.{ReadsByPath, path_in}
use Rattle.fir_design_faults.proofs.ClockChains.{has_by_number, has_by_path, root_within}
use Rattle.fir_design_faults.proofs.MemoryVisits.{module_match}

all_in : {A : Type 0} (P : A → Type 0) (xs : List A) (x : A) → AllByRecursion P xs → In xs x → P x
all_in P [] x h i = absurd i
all_in P (y ∷ xs) x h (inl e) = subst P e h.0
all_in P (y ∷ xs) x h (inr i) = all_in P xs x h.1 i

-- a mapped list that falls apart
record Parted (f : ℕ → LeafPath) (xs : List ℕ) (before : List LeafPath) (one : LeafPath) (after : List LeafPath) : Type 0 where
  first : List ℕ
  here : ℕ
  rest : List ℕ
  are : xs ≡ first ++ here ∷ rest
  before_is : map f first ≡ before
  here_is : f here ≡ one
  after_is : map f rest ≡ after

parted : (f : ℕ → LeafPath) (xs : List ℕ) (before : List LeafPath) (one : LeafPath) (after : List LeafPath) → map f xs ≡ before ++ one ∷ after
    → Parted f xs before one after
parted f [] [] one after e = absurd (cc)
parted f [] (b ∷ before) one after e = absurd (cc)
parted f (x ∷ xs) [] one after e = record { first = []; here = x; rest = xs; are = refl; before_is = refl; here_is = cc; after_is = cc }
parted f (x ∷ xs) (b ∷ before) one after e =
    let more : map f xs ≡ before ++ one ∷ after = cc in
    let head : f x ≡ b = cc in
    let p = parted f xs before one after more in
    record {
      first = x ∷ p.first;
      here = p.here;
      rest = p.rest;
      are = ap (λ ys. x ∷ ys) p.are;
      before_is = ap₂ (λ y ys. y ∷ ys) head p.before_is;
      here_is = p.here_is;
      after_is = p.after_is;
    }

module _ (c : CircuitTree) (s : Scene) (names : HasNames c) (types : type_faults c ≡ []) (i : In (numbered_modules c) s.own) (reading : ReadsByPath s)
    (roles : SameLeaves (leafed_module s).leaves (leafed_module s).arrays (leafed_module s).leaves (source_leaves s)) where
  fine : IsFineScene s
  fine = fine_scene c s names types i

  abbrev path : ℕ → LeafPath
  path = path_in s

  abbrev IsLeaf : ℕ → Type 0
  IsLeaf = IsClockLeaf (module_circuit (leafed_module s))

  shown_by_path : (at : LeafPath) (f : Fault) → numbered.ShowsMemoryClocks (leafed_module s) at f → ShowsMemoryClocks (record { at = at; scene = s }) f
  shown_by_path at f h =
      let o = (module_match c s names types i).to h.memory h.declared in
      let named_is : o.name ≡ h.name = same_Some o.name h.name (sym o.match.declared ∙ h.is_name) in
      let front = h.before ++ h.one ∷ h.between in
      let all = subst (AllByRecursion IsLeaf) h.ports o.match.are in
      let leaf : (x : ℕ) → In (h.before ++ h.one ∷ h.between ++ h.other ∷ h.after) x → IsLeaf x =
      λ x j. all_in IsLeaf (h.before ++ h.one ∷ h.between ++ h.other ∷ h.after) x all j in
      let one = leaf h.one (in_left front (h.other ∷ h.after) h.one (in_right h.before (h.one ∷ h.between) h.one (inl refl))) in
      let other = leaf h.other (in_right front (h.other ∷ h.after) h.other (inl refl)) in
      record {
        visit = o.visit;
        among = o.among;
        place = o.place;
        name = o.name;
        parts = o.parts;
        is_memory = o.is;
        before = map (path_in s) h.before;
        one = path_in s h.one;
        between = map (path_in s) h.between;
        other = path_in s h.other;
        after = map (path_in s) h.after;
        ports =
            sym o.match.clocks ∙ ap (map (path_in s)) h.ports ∙ map-append (path_in s) front (h.other ∷ h.after)
            ∙ ap (λ ys. ys ++ map (path_in s) (h.other ∷ h.after)) (map-append (path_in s) h.before (h.one ∷ h.between));
        clock = path_in s h.clock;
        other_clock = path_in s h.other_clock;
        none_before = λ x root j k.
            let y = in_map_from (path_in s) h.before x j in
            let own = leaf y.0 (in_left front (h.other ∷ h.after) y.0 (in_left h.before (h.one ∷ h.between) y.0 y.1)) in
            let r = has_by_number s fine reading roles y.0 root own.within (subst (λ z. HasClock s z root) (sym y.2) k) in
            h.none_before y.0 r.0 y.1 r.2;
        one_has = has_by_path s fine reading roles h.one h.clock one h.one_has;
        same_between = λ x root j k.
            let y = in_map_from (path_in s) h.between x j in
            let own = leaf y.0 (in_left front (h.other ∷ h.after) y.0 (in_right h.before (h.one ∷ h.between) y.0 (inr y.1))) in
            let r = has_by_number s fine reading roles y.0 root own.within (subst (λ z. HasClock s z root) (sym y.2) k) in
            sym r.1 ∙ ap (path_in s) (h.same_between y.0 r.0 y.1 r.2);
        other_has = has_by_path s fine reading roles h.other h.other_clock other h.other_has;
        differ = λ e.
            h.differ
            (reading.once h.clock h.other_clock (root_within s fine reading roles h.one h.clock one h.one_has)
            (root_within s fine reading roles h.other h.other_clock other h.other_has) e);
        is =
            h.is
            ∙ ap (λ (n : PlacedName).
            memory_clocks_fault n.place (path_text (at ++ named n.name ∷ [])) (path_text (at ++ path_in s h.clock)) (path_text (at ++ path_in s h.other_clock)))
            (sym named_is);
      }

  shown_by_number : (at : LeafPath) (f : Fault) → ShowsMemoryClocks (record { at = at; scene = s }) f → numbered.ShowsMemoryClocks (leafed_module s) at f
  shown_by_number at f h =
      let o = (module_match c s names types i).back h.visit h.place h.name h.parts h.among h.is_memory in
      let two = parted (path_in s) o.0.port_clocks (h.before ++ h.one ∷ h.between) h.other h.after (o.2.clocks ∙ h.ports) in
      let one = parted (path_in s) two.first h.before h.one h.between two.before_is in
      let ports = two.are ∙ ap (λ ys. ys ++ two.here ∷ two.rest) one.are in
      let front = one.first ++ one.here ∷ one.rest in
      let all = subst (AllByRecursion IsLeaf) ports o.2.are in
      let leaf : (x : ℕ) → In (one.first ++ one.here ∷ one.rest ++ two.here ∷ two.rest) x → IsLeaf x =
      λ x j. all_in IsLeaf (one.first ++ one.here ∷ one.rest ++ two.here ∷ two.rest) x all j in
      let at_one = leaf one.here (in_left front (two.here ∷ two.rest) one.here (in_right one.first (one.here ∷ one.rest) one.here (inl refl))) in
      let at_two = leaf two.here (in_right front (two.here ∷ two.rest) two.here (inl refl)) in
      let r = has_by_number s fine reading roles one.here h.clock at_one.within (subst (λ z. HasClock s z h.clock) (sym one.here_is) h.one_has) in
      let q = has_by_number s fine reading roles two.here h.other_clock at_two.within (subst (λ z. HasClock s z h.other_clock) (sym two.here_is) h.other_has) in
      record {
        memory = o.0;
        declared = o.1;
        name = h.name;
        is_name = o.2.declared;
        before = one.first;
        one = one.here;
        between = one.rest;
        other = two.here;
        after = two.rest;
        ports = ports;
        clock = r.0;
        other_clock = q.0;
        none_before = λ x root j k.
            let own = leaf x (in_left front (two.here ∷ two.rest) x (in_left one.first (one.here ∷ one.rest) x j)) in
            h.none_before (path_in s x) (path_in s root) (subst (λ ys. In ys (path_in s x)) one.before_is (in_map (path_in s) one.first x j))
            (has_by_path s fine reading roles x root own k);
        one_has = r.2;
        same_between = λ x root j k.
            let own = leaf x (in_left front (two.here ∷ two.rest) x (in_right one.first (one.here ∷ one.rest) x (inr j))) in
            let same = h.same_between (path_in s x) (path_in s root) (subst (λ ys. In ys (path_in s x)) one.after_is (in_map (path_in s) one.rest x j))
            (has_by_path s fine reading roles x root own k) in
            reading.once root r.0 (root_within s fine reading roles x root own k) (root_within s fine reading roles one.here r.0 at_one r.2)
            (same ∙ sym r.1);
        other_has = q.2;
        differ = λ e. h.differ (sym r.1 ∙ ap (path_in s) e ∙ q.1);
        is =
            h.is
            ∙ ap₂ (λ (a b : LeafPath).
            memory_clocks_fault h.name.place (path_text (at ++ named h.name.name ∷ [])) (path_text (at ++ a)) (path_text (at ++ b))) (sym r.1) (sym q.1);
      }

  pub memory_faults_same : (at : LeafPath) (f : Fault)
      → numbered.ShowsMemoryClocks (leafed_module s) at f ↔ ShowsMemoryClocks (record { at = at; scene = s }) f
  memory_faults_same at f = (shown_by_path at f, shown_by_number at f)
