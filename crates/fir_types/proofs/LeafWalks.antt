-- The walk over what is declared gives each declaration the number of its first leaf.
use Rattle.std.proofs.Common.{◌≡◌, ℕ, zero, suc, ◌+◌, ◌<◌, ◌≤◌, List, [], ◌∷◌, ◌++◌, map, length, Bool, true, false, if◌then◌else◌, Option, Some, None, Vec, Global, refl, sym, ap, subst, inl, inr, ◌∙◌, drop, get_or, append_assoc, add-one, arith}
use Rattle.std.specs.Prelude.{slice_get, option_map, unwrap_or}
use Rattle.std.specs.Str.{bytes_eq}
use Rattle.std.proofs.lemmas.List.{append-nil, drop_all, drop_more}
use Rattle.std.proofs.lemmas.Option.{get_or_from_slice_get, none-some, same_Some, slice_get-map, slice_get_past, slice_get_read, slice_get_within}
use Rattle.fir_base.specs.Lists.{In}
use Rattle.fir_base.proofs.Elements.{beside, get_in}
use Rattle.fir_ast.specs.Types.{DataType, uint}
use Rattle.fir_ast.specs.Statements.{PlacedName}
use Rattle.fir_ast.specs.Circuits.{ModuleTree, CircuitTree}
use Rattle.fir_meaning.specs.Components.{Component, Declaration, Declarations, port, wire, register, node, instance, memory}
use Rattle.fir_meaning.specs.Mentions.{module_names}
use Rattle.fir_meaning.specs.working.NameGroups.{HasNames}
use Rattle.fir_meaning.specs.Visibility.{declarations}
use Rattle.fir_meaning.specs.TypedScopes.{TypedScope}
use Rattle.fir_meaning.specs.ComponentTypes.{instance_bundle, typed_scope}
use Rattle.fir_meaning.specs.SharedLeaves.{shared_count}
use Rattle.fir_meaning.specs.SizedDeclarations.{port_numbers, all_port_numbers}
use Rattle.fir_names.specs.declared.declaration.Component.{Component as ComponentOfCode}
use Rattle.fir_names.specs.declared.declaration.Declaration.{Declaration as Entry}
use Rattle.fir_names.specs.declared.names.Names.{Names}
use Rattle.fir_names.specs.working.ModuleOrder.{find_number}
use Rattle.fir_names.specs.working.Numbered.{component_of, names_of}
use Rattle.fir_names.specs.working.Tabulated.{entries_from, entry_at, entry_of, Tabulates}
use Rattle.fir_names.proofs.ModulesThere.{instance_number}
use Rattle.fir_type_table.specs.declared.kind.TypeId.{TypeId}
use Rattle.fir_type_table.specs.working.Saturated.{saturated}
use Rattle.fir_type_table.specs.working.Tables.{type_at}
use Rattle.fir_types.specs.declared.found.Found.{Found}
use Rattle.fir_types.specs.declared.leaf_numbers.NextLeaf.{NextLeaf as NextOfCode}
use Rattle.fir_types.specs.working.FirstLeaves.{HasStarts, IsWalked, component_at, first_by, leaves_walked, next_by, next_of, next_walked, port_counts, saturated_next, start_behind, starts_from, taken}
use Rattle.fir_types.specs.working.LeafNumbers.{NextLeaf, first_leaf, first_leaves, first_leaves_from, first_leaves_of, first_named, leaf_behind, leaves_behind, numbers_taken, ports_from}
use Rattle.fir_types.specs.working.Notes.{LeafRange}
use Rattle.fir_types.specs.working.Seen.{seen}
use Rattle.fir_types.specs.working.TypedModules.{declared_types, found_types, leaf_declared}
use Rattle.fir_types.specs.working.Walked.{HoldsBundles, IsOfModule}
use Rattle.fir_types.proofs.InstanceWalks.{length_of_map}
use Rattle.fir_types.proofs.KnownScopes.{Heads, heads_of}

-- sums that stand still
sum_saturated : (a b : ℕ) → saturated (saturated a + saturated b) ≡ saturated (a + b)
sum_saturated a b = omega arith

-- the bundle of a module tells how many leaves its ports have
ports_counted : (ts : List DataType) (id : ℕ) (m : ModuleTree) (k : ℕ) → slice_get ts id ≡ Some (instance_bundle m)
    → saturated (saturated k + saturated (shared_count (type_at ts id))) ≡ saturated (k + port_numbers m)
ports_counted ts id m k held =
    ap (λ o. saturated (saturated k + saturated (shared_count (unwrap_or o (uint None))))) held ∙ sum_saturated k (port_numbers m)

start_there : (ts : List DataType) (ids : List TypeId) (ms : List ModuleTree) (name : List ℕ) (s k : ℕ) → HoldsBundles ts ids ms
    → find_number (names_of ms) name ≡ Some k → slice_get (starts_from (saturated s) (port_counts ts ids)) k ≡ Some (saturated (ports_from s ms name))
start_there ts [] [] name s k h e = absurd (none-some k e)
start_there ts (id ∷ ids) (m ∷ ms) name s k h e =
    at (bytes_eq m.named.name name) e (λ j is.
    ap (λ c. slice_get (starts_from c (port_counts ts ids)) j) (ports_counted ts id.number m s h.0) ∙ start_there ts ids ms name (s + port_numbers m) j h.1 is)
  where
    rest : ℕ → List ℕ
    rest c = starts_from c (port_counts ts ids)

    next : ℕ
    next = saturated (saturated s + saturated (shared_count (type_at ts id.number)))

    behind : (o : Option ℕ) → option_map (λ j. j + 1) o ≡ Some k
        → ((j : ℕ) → o ≡ Some j → slice_get (rest next) j ≡ Some (saturated (ports_from (s + port_numbers m) ms name)))
        → slice_get (saturated s ∷ rest next) k ≡ Some (saturated (ports_from (s + port_numbers m) ms name))
    behind None e later = absurd (none-some k e)
    behind (Some j) e later =
        let is : k ≡ suc j = sym (same_Some (j + 1) k e) ∙ add-one j in ap (slice_get (saturated s ∷ rest next)) is ∙ later j refl

    at : (b : Bool) → (if b then Some 0 else option_map (λ j. j + 1) (find_number (names_of ms) name)) ≡ Some k
        → ((j : ℕ) → find_number (names_of ms) name ≡ Some j → slice_get (rest next) j ≡ Some (saturated (ports_from (s + port_numbers m) ms name)))
        → slice_get (saturated s ∷ rest next) k ≡ Some (saturated (if b then s else ports_from (s + port_numbers m) ms name))
    at true e later = ap (slice_get (saturated s ∷ rest next)) (sym (same_Some 0 k e))
    at false e later = behind (find_number (names_of ms) name) e later
start_there ts [] (m ∷ ms) name s k h e = absurd h
start_there ts (id ∷ ids) [] name s k h e = absurd h

ports_behind : (ts : List DataType) (ids : List TypeId) (ms : List ModuleTree) (s : ℕ) → HoldsBundles ts ids ms
    → start_behind (saturated s) (port_counts ts ids) ≡ saturated (s + all_port_numbers ms)
ports_behind ts [] [] s h = ap saturated (let e : s ≡ s + 0 = omega arith in e)
ports_behind ts (id ∷ ids) (m ∷ ms) s h =
    ap (λ c. start_behind c (port_counts ts ids)) (ports_counted ts id.number m s h.0) ∙ ports_behind ts ids ms (s + port_numbers m) h.1
    ∙ ap saturated (let e : s + port_numbers m + all_port_numbers ms ≡ s + (port_numbers m + all_port_numbers ms) = omega arith in e)
ports_behind ts [] (m ∷ ms) s h = absurd h
ports_behind ts (id ∷ ids) [] s h = absurd h

-- so far in the bundles
pub record StartsSoFar (counts left : List ℕ) (starts : List ℕ) (next : ℕ) : Type 0 where
  pub are : starts ++ starts_from next left ≡ starts_from 0 counts
  pub behind : start_behind next left ≡ start_behind 0 counts

pub starts_first : (ts : List DataType) (bundles : List TypeId) (starts : List ℕ) → starts ≡ [] → StartsSoFar (port_counts ts bundles) (port_counts ts bundles) starts 0
starts_first ts bundles starts none = rw none record { are = refl; behind = refl }

pub starts_next : (ts : List DataType) (bundles : List TypeId) (i : ℕ) (default : TypeId) (starts after : List ℕ) (next behind : ℕ) → i < length bundles
    → StartsSoFar (port_counts ts bundles) (port_counts ts (drop i bundles)) starts next → after ≡ starts ++ next ∷ []
    → behind ≡ saturated (next + saturated (shared_count (type_at ts (get_or bundles i default).number)))
    → StartsSoFar (port_counts ts bundles) (port_counts ts (drop (i + 1) bundles)) after behind
starts_next ts bundles i default starts after next behind within so_far pushed is =
    let count = saturated (shared_count (type_at ts (get_or bundles i default).number)) in
    let rest = port_counts ts (drop (i + 1) bundles) in
    let before = subst (λ l. StartsSoFar (port_counts ts bundles) l starts next) (ap (port_counts ts) (drop_more bundles i default within)) so_far in
    rw (pushed, is) record {
      are = append_assoc starts (next ∷ []) (starts_from (saturated (next + count)) rest) ∙ before.are;
      behind = before.behind;
    }

pub starts_all : (ts : List DataType) (bundles : List TypeId) (i : ℕ) (starts : List ℕ) (next : ℕ) → length bundles ≤ i
    → StartsSoFar (port_counts ts bundles) (port_counts ts (drop i bundles)) starts next → HasStarts ts bundles starts next
starts_all ts bundles i starts next past so_far =
    let all = subst (λ l. StartsSoFar (port_counts ts bundles) (port_counts ts l) starts next) (drop_all i bundles past) so_far in
    record { are = sym (append-nil starts) ∙ all.are; behind = all.behind }

-- so far in the declarations of a module
pub record LeavesSoFar (at : ℕ → Option ComponentOfCode) (ts : List DataType) (starts : List ℕ) (whole : List (Option Found)) (old : NextOfCode) (i : ℕ)
    (left : List (Option Found)) (next : NextOfCode) (leaves : List ℕ) : Type 0 where
  pub are : leaves ++ leaves_walked at ts starts next i left ≡ leaves_walked at ts starts old 0 whole
  pub behind : next_walked at ts starts next i left ≡ next_walked at ts starts old 0 whole

module _ (at : ℕ → Option ComponentOfCode) (ts : List DataType) (starts : List ℕ) (whole : List (Option Found)) (old : NextOfCode) where
  pub leaves_begin : (leaves : List ℕ) → leaves ≡ [] → LeavesSoFar at ts starts whole old 0 whole old leaves
  leaves_begin leaves none = rw none record { are = refl; behind = refl }

  pub leaves_next : (i : ℕ) (default : Option Found) (next behind : NextOfCode) (first : ℕ) (leaves after : List ℕ) → i < length whole
      → LeavesSoFar at ts starts whole old i (drop i whole) next leaves → after ≡ leaves ++ first ∷ [] → first ≡ first_by starts next (at i)
      → behind ≡ next_by next (at i) (taken at ts starts (get_or whole i default)) → LeavesSoFar at ts starts whole old (i + 1) (drop (i + 1) whole) behind after
  leaves_next i default next behind first leaves after within so_far pushed first_is behind_is =
      let f = get_or whole i default in
      let before = subst (λ l. LeavesSoFar at ts starts whole old i l next leaves) (drop_more whole i default within) so_far in
      rw (pushed, first_is, behind_is) record {
        are =
            append_assoc leaves (first_by starts next (at i) ∷ []) (leaves_walked at ts starts (next_by next (at i) (taken at ts starts f)) (i + 1) (drop (i + 1) whole))
            ∙ before.are;
        behind = before.behind;
      }

  pub leaves_end : (i : ℕ) (next : NextOfCode) (leaves : List ℕ) → length whole ≤ i → LeavesSoFar at ts starts whole old i (drop i whole) next leaves
      → IsWalked at ts starts whole old next leaves
  leaves_end i next leaves past so_far =
      let all = subst (λ l. LeavesSoFar at ts starts whole old i l next leaves) (drop_all i whole past) so_far in
      record { are = sym (append-nil leaves) ∙ all.are; behind = all.behind }

-- the code has the components of declarations behind so many, and the modules of those that are instances are there
record Reads (at : ℕ → Option ComponentOfCode) (modules : List ModuleTree) (p : ℕ) (ds : Declarations) : Type 0 where
  each : (j : ℕ) (d : Declaration) → slice_get ds j ≡ Some d → at (p + j) ≡ Some (component_of (names_of modules) d.component)
  there : (d : Declaration) (name : List ℕ) → In ds d → d.component ≡ instance name → (k : ℕ) × (find_number (names_of modules) name ≡ Some k)

entry_behind : (ns : List PlacedName) (ds : Declarations) (i j : ℕ) (d : Declaration) → slice_get ds j ≡ Some d
    → slice_get (entries_from ns i ds) j ≡ Some (entry_of ns (i + j) d)
entry_behind ns [] i j d e = absurd (none-some d e)
entry_behind ns (x ∷ ds) i zero d e = ap (λ y. Some (entry_of ns i y)) (same_Some x d e) ∙ ap (λ k. Some (entry_of ns k d)) (let z : i ≡ i + 0 = omega arith in z)
entry_behind ns (x ∷ ds) i (suc j) d e = entry_behind ns ds (suc i) j d e ∙ ap (λ k. Some (entry_of ns k d)) (let z : suc i + j ≡ i + suc j = omega arith in z)

reads_module : (modules : List ModuleTree) (names : Names) (whole : Declarations) → IsOfModule modules names whole → Reads (component_at names) modules 0 whole
reads_module modules names whole of = record {
  each = λ j d e.
      let entry = entry_behind (names_of modules) whole 0 j d e in
      let found : entry_at names j ≡ Some (entry_of (names_of modules) (0 + j) d) = ap (λ es. slice_get es j) of.tabulated.in_order ∙ entry in
      ap (λ k. component_at names k) (let z : 0 + j ≡ j = omega arith in z) ∙ ap (λ (o : Option Entry). option_map (λ e. e.component) o) found;
  there = of.there;
}

module _ (ts : List DataType) (bundles : List TypeId) (modules : List ModuleTree) (holds : HoldsBundles ts bundles modules) (at : ℕ → Option ComponentOfCode) where
  abbrev starts : List ℕ
  starts = starts_from 0 (port_counts ts bundles)

  first_is : (n : NextLeaf) (c : Component) → ((name : List ℕ) → c ≡ instance name → (k : ℕ) × (find_number (names_of modules) name ≡ Some k))
      → first_by starts (saturated_next n) (Some (component_of (names_of modules) c)) ≡ saturated (first_leaf modules n c)
  first_is n (port d t) there = refl
  first_is n (wire t) there = refl
  first_is n (register t) there = refl
  first_is n (node e) there = refl
  first_is n (memory parts) there = refl
  first_is n (instance name) there =
      let number = there name refl in
      ap (λ o. unwrap_or (slice_get starts (unwrap_or o 0)) 0) number.1
      ∙ ap (λ o. unwrap_or o 0) (start_there ts bundles modules name 0 number.0 holds number.1)

  next_is : (n : NextLeaf) (c : Component) (t : Option DataType)
      → next_by (saturated_next n) (Some (component_of (names_of modules) c)) (saturated (numbers_taken t)) ≡ saturated_next (leaf_behind n c t)
  next_is n (port d s) t = ap (λ k. next_of k (saturated n.body)) (sum_saturated n.port (numbers_taken t))
  next_is n (wire s) t = ap (next_of (saturated n.port)) (sum_saturated n.body (numbers_taken t))
  next_is n (register s) t = ap (next_of (saturated n.port)) (sum_saturated n.body (numbers_taken t))
  next_is n (node e) t = ap (next_of (saturated n.port)) (sum_saturated n.body (numbers_taken t))
  next_is n (memory parts) t = ap (next_of (saturated n.port)) (sum_saturated n.body (numbers_taken t))
  next_is n (instance name) t = refl

  walked : (ds : Declarations) (ks : TypedScope) (fs : List (Option Found)) (p : ℕ) (n : NextLeaf) → Heads ds ks → Reads at modules p ds
      → map (seen ts) fs ≡ map (λ k. k.data_type) ks
      → (leaves_walked at ts starts (saturated_next n) p fs ≡ map saturated (first_leaves_of modules n ds ks))
      × (next_walked at ts starts (saturated_next n) p fs ≡ saturated_next (leaves_behind n ds ks))
  walked [] [] [] p n h reads same = (refl, refl)
  walked [] [] (f ∷ fs) p n h reads same = absurd (cc)
  walked (d ∷ ds) (k ∷ ks) [] p n h reads same = absurd (cc)
  walked (d ∷ ds) (k ∷ ks) (f ∷ fs) p n h reads same =
      let typed : seen ts f ≡ k.data_type = cc in
      let types : map (seen ts) fs ≡ map (λ k. k.data_type) ks = cc in
      let here : at p ≡ Some (component_of (names_of modules) d.component) =
      ap at (let z : p ≡ p + 0 = omega arith in z) ∙ reads.each 0 d refl in
      let first = ap (first_by starts (saturated_next n)) here ∙ first_is n d.component (λ name is. reads.there d name (inl refl) is) in
      let next : next_by (saturated_next n) (at p) (taken at ts starts f) ≡ saturated_next (leaf_behind n d.component k.data_type) =
      ap (λ c. next_by (saturated_next n) c (taken at ts starts f)) here
      ∙ ap (λ t. next_by (saturated_next n) (Some (component_of (names_of modules) d.component)) (saturated (numbers_taken t))) typed
      ∙ next_is n d.component k.data_type in
      let later : Reads at modules (p + 1) ds =
      record {
        each = λ j e is. ap at (let z : p + 1 + j ≡ p + suc j = omega arith in z) ∙ reads.each (suc j) e is;
        there = λ e name among is. reads.there e name (inr among) is;
      } in
      let rest = walked ds ks fs (p + 1) (leaf_behind n d.component k.data_type) h.2 later types in (
        ap (λ x. x ∷ leaves_walked at ts starts (next_by (saturated_next n) (at p) (taken at ts starts f)) (p + 1) fs) first
            ∙ ap (λ x. saturated (first_leaf modules n d.component) ∷ leaves_walked at ts starts x (p + 1) fs) next
            ∙ ap (λ xs. saturated (first_leaf modules n d.component) ∷ xs) rest.0,
        ap (λ x. next_walked at ts starts x (p + 1) fs) next ∙ rest.1,
      )
  walked [] (k ∷ ks) fs p n h reads same = absurd h
  walked (d ∷ ds) [] fs p n h reads same = absurd h

-- so far in the modules of a circuit
pub record CircuitSoFar (c : CircuitTree) (i : ℕ) (next : NextOfCode) (leaves : List (Vec ℕ Global)) : Type 0 where
  pub exact : NextLeaf
  pub is : next ≡ saturated_next exact
  pub done : List (List ℕ)
  pub same : first_leaves c ≡ done ++ first_leaves_from c.modules exact (drop i c.modules)
  pub are : map (λ v. v.items) leaves ≡ map (map saturated) done

module _ (c : CircuitTree) (ts : List DataType) (bundles : List TypeId) (declared : List (Vec (Option Found) Global)) (holds : HoldsBundles ts bundles c.modules)
    (types : found_types ts declared ≡ declared_types c) where
  pub module_beside : (i : ℕ) (v : Vec (Option Found) Global) → i < length declared → v ≡ get_or declared i v
      → (m : ModuleTree) × (slice_get c.modules i ≡ Some m) × (map (λ k. k.data_type) (typed_scope c.modules (declarations m)) ≡ map (seen ts) v.items)
  module_beside i v within at =
      beside (λ m. map (λ k. k.data_type) (typed_scope c.modules (declarations m))) (λ v. map (seen ts) v.items) c.modules declared (sym types) i v
      (slice_get_read declared (length declared) i v refl within at)

  pub circuit_first : (starts : List ℕ) (body : ℕ) (leaves : List (Vec ℕ Global)) → HasStarts ts bundles starts body → leaves ≡ [] → CircuitSoFar c 0 (next_of 0 body) leaves
  circuit_first starts body leaves has none = record {
    exact = record { port = 0; body = all_port_numbers c.modules };
    is = ap (next_of 0) (has.behind ∙ ports_behind ts bundles c.modules 0 holds ∙ ap saturated (let z : 0 + all_port_numbers c.modules ≡ all_port_numbers c.modules = omega arith in z));
    done = [];
    same = refl;
    are = ap (map (λ v. v.items)) none;
  }

  names_are : HasNames c → (names : Names) (m : ModuleTree) (i : ℕ) → slice_get c.modules i ≡ Some m → Tabulates (module_names c) names (declarations m)
      → IsOfModule c.modules names (declarations m)
  names_are clear names m i there tabulated = record {
    tabulated = tabulated;
    there = λ d name among is. instance_number c clear.names m d name (get_in c.modules i m there) among is;
  }

  pub circuit_next : HasNames c → (names : Names) (starts : List ℕ) (body i : ℕ) (v : Vec (Option Found) Global) (next behind : NextOfCode) (own : Vec ℕ Global)
      (leaves after : List (Vec ℕ Global))
      → HasStarts ts bundles starts body → i < length declared → v ≡ get_or declared i v
      → ((m : ModuleTree) → slice_get c.modules i ≡ Some m → Tabulates (module_names c) names (declarations m))
      → CircuitSoFar c i next leaves → IsWalked (component_at names) ts starts v.items next behind own.items → after ≡ leaves ++ own ∷ []
      → CircuitSoFar c (i + 1) behind after
  circuit_next clear names starts body i v next behind own leaves after has within at tabulates so_far walk pushed =
      let there = module_beside i v within at in
      let m = there.0 in
      let ds = declarations m in
      let ks = typed_scope c.modules ds in
      let n = so_far.exact in
      let of = names_are clear names m i there.1 (tabulates m there.1) in
      let meant =
      walked ts bundles c.modules holds (component_at names) ds ks v.items 0 n (heads_of c.modules ds) (reads_module c.modules names ds of) (sym there.2) in
      let left : drop i c.modules ≡ m ∷ drop (i + 1) c.modules = left_is c.modules i m there.1 in
      record {
        exact = leaves_behind n ds ks;
        is =
            walk.behind ∙ ap (λ s. next_walked (component_at names) ts s next 0 v.items) has.are
            ∙ ap (λ x. next_walked (component_at names) ts (starts_from 0 (port_counts ts bundles)) x 0 v.items) so_far.is ∙ meant.1;
        done = so_far.done ++ first_leaves_of c.modules n ds ks ∷ [];
        same =
            so_far.same ∙ ap (λ ms. so_far.done ++ first_leaves_from c.modules n ms) left
            ∙ sym (append_assoc so_far.done (first_leaves_of c.modules n ds ks ∷ []) (first_leaves_from c.modules (leaves_behind n ds ks) (drop (i + 1) c.modules)));
        are =
            ap (map (λ v. v.items)) pushed ∙ pushed_map (λ v. v.items) (map saturated) leaves own so_far.done (first_leaves_of c.modules n ds ks) so_far.are
            (walk.are ∙ ap (λ s. leaves_walked (component_at names) ts s next 0 v.items) has.are
            ∙ ap (λ x. leaves_walked (component_at names) ts (starts_from 0 (port_counts ts bundles)) x 0 v.items) so_far.is ∙ meant.0);
      }
    where
      left_is : (ms : List ModuleTree) (i : ℕ) (m : ModuleTree) → slice_get ms i ≡ Some m → drop i ms ≡ m ∷ drop (i + 1) ms
      left_is ms i m e = drop_more ms i m (slice_get_within ms i m e) ∙ ap (λ y. y ∷ drop (i + 1) ms) (get_or_from_slice_get ms i m m e)

      pushed_map : {A B C : Type 0} (f : A → C) (g : B → C) (xs : List A) (x : A) (ys : List B) (y : B) → map f xs ≡ map g ys → f x ≡ g y
          → map f (xs ++ x ∷ []) ≡ map g (ys ++ y ∷ [])
      pushed_map f g [] x [] y h k = ap (λ z. z ∷ []) k
      pushed_map f g (w ∷ xs) x (z ∷ ys) y h k =
          let head : f w ≡ g z = cc in
          let tail : map f xs ≡ map g ys = cc in
          ap (λ u. u ∷ map f (xs ++ x ∷ [])) head ∙ ap (λ us. g z ∷ us) (pushed_map f g xs x ys y tail k)
      pushed_map f g [] x (z ∷ ys) y h k = absurd (cc)
      pushed_map f g (w ∷ xs) x [] y h k = absurd (cc)

  pub circuit_all : (i : ℕ) (next : NextOfCode) (leaves : List (Vec ℕ Global)) → length declared ≤ i → CircuitSoFar c i next leaves
      → map (λ v. v.items) leaves ≡ map (map saturated) (first_leaves c)
  circuit_all i next leaves past so_far =
      let none : drop i c.modules ≡ [] = drop_all i c.modules (long past) in
      so_far.are ∙ ap (map (map saturated)) (sym (so_far.same ∙ ap (λ ms. so_far.done ++ first_leaves_from c.modules so_far.exact ms) none ∙ append-nil so_far.done))
    where
      long : length declared ≤ i → length c.modules ≤ i
      long past = subst (λ n. n ≤ i) (sym (length_of_map (λ v. map (seen ts) v.items) declared) ∙ ap length types ∙ length_of_map (λ m. map (λ k. k.data_type) (typed_scope c.modules (declarations m))) c.modules) past

-- the number of a declaration, where the code has it
pub read_at : {A : Type 0} (xs ys : List A) (i : ℕ) (x : A) → xs ≡ ys → i < length xs → x ≡ get_or xs i x → slice_get ys i ≡ Some x
read_at xs ys i x same within is = sym (ap (λ zs. slice_get zs i) same) ∙ slice_get_read xs (length xs) i x refl within is

number_back : (o : Option ℕ) (first : ℕ) → option_map saturated o ≡ Some first → (k : ℕ) × (o ≡ Some k) × (first ≡ saturated k)
number_back None first e = absurd (none-some first e)
number_back (Some k) first e = (k, refl, sym (same_Some (saturated k) first e))

none_back : (o : Option ℕ) → option_map saturated o ≡ None → o ≡ None
none_back None e = refl
none_back (Some k) e = absurd (none-some (saturated k) (sym e))

module _ (c : CircuitTree) (lists : List (Vec ℕ Global)) (leaves : map (λ v. v.items) lists ≡ map (map saturated) (first_leaves c)) (number : ℕ) (v : Vec ℕ Global)
    (module_is : slice_get lists number ≡ Some v) (position : ℕ) where
  own_leaves : (l : List ℕ) × (slice_get (first_leaves c) number ≡ Some l) × (map saturated l ≡ v.items)
  own_leaves = beside (map saturated) (λ w. w.items) (first_leaves c) lists (sym leaves) number v module_is

  declared_is : leaf_declared c number position ≡ slice_get own_leaves.0 position
  declared_is = ap (λ o. slice_get (unwrap_or o []) position) own_leaves.1

  saturated_is : option_map saturated (slice_get own_leaves.0 position) ≡ slice_get v.items position
  saturated_is = sym (slice_get-map saturated own_leaves.0 position) ∙ ap (λ xs. slice_get xs position) own_leaves.2

  pub leaf_there : (first : ℕ) → slice_get v.items position ≡ Some first → (k : ℕ) × (leaf_declared c number position ≡ Some k) × (first ≡ saturated k)
  leaf_there first is =
      let back = number_back (slice_get own_leaves.0 position) first (saturated_is ∙ is) in
      (back.0, declared_is ∙ back.1, back.2)

  pub leaf_past : length v.items ≤ position → leaf_declared c number position ≡ None
  leaf_past past = declared_is ∙ none_back (slice_get own_leaves.0 position) (saturated_is ∙ slice_get_past v.items position past)

-- and of a reference
pub named_number : (c : CircuitTree) (number position offset first k : ℕ) (meant : LeafRange) → leaf_declared c number position ≡ Some k → first ≡ saturated k
    → position ≡ meant.declaration → offset ≡ saturated meant.shared_offset → saturated (first + offset) ≡ saturated (first_named c number meant)
named_number c number position offset first k meant there is declaration shared =
    ap (λ n. saturated (n + offset)) is ∙ ap (λ n. saturated (saturated k + n)) shared ∙ sum_saturated k meant.shared_offset
    ∙ ap (λ o. saturated (unwrap_or o 0 + meant.shared_offset)) (sym there)
    ∙ ap (λ p. saturated (unwrap_or (leaf_declared c number p) 0 + meant.shared_offset)) declaration
