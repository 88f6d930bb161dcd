-- The walk over an instance: the code's bundle of its module is the type of the instance.
use Rattle.std.proofs.Common.{◌≡◌, ℕ, suc, ◌+◌, List, [], ◌∷◌, ◌++◌, map, length, Bool, true, false, if◌then◌else◌, Option, Some, None, refl, sym, ap, inl, inr, ◌∙◌, append_assoc, add-one, arith}
use Rattle.std.specs.Prelude.{slice_get, option_map, unwrap_or}
use Rattle.std.specs.Str.{bytes_eq}
use Rattle.std.proofs.lemmas.Option.{slice_get-map, none-some, same_Some}
use Rattle.fir_base.specs.Lists.{In}
use Rattle.fir_ast.specs.Types.{DataType, uint}
use Rattle.fir_ast.specs.Statements.{PlacedName}
use Rattle.fir_ast.specs.Circuits.{ModuleTree}
use Rattle.fir_meaning.specs.Components.{Declaration, Declarations, instance}
use Rattle.fir_meaning.specs.Visibility.{Before, declaration_at, with_declaration}
use Rattle.fir_meaning.specs.TypedScopes.{TypedScope}
use Rattle.fir_meaning.specs.ComponentTypes.{find_module, instance_bundle, instance_type}
use Rattle.fir_meaning.specs.TypeGroup.{scope_at}
use Rattle.fir_names.specs.declared.declaration.Declaration.{Declaration as Entry}
use Rattle.fir_names.specs.declared.names.Names.{Names}
use Rattle.fir_names.specs.working.ModuleOrder.{find_number}
use Rattle.fir_names.specs.working.Numbered.{names_of}
use Rattle.fir_names.specs.working.Tabulated.{Tabulates, entries_from, entry_at, entry_of}
use Rattle.fir_type_table.specs.declared.kind.TypeId.{TypeId}
use Rattle.fir_type_table.specs.working.Tables.{types_of}
use Rattle.fir_types.specs.declared.found.Found.{Found}
use Rattle.fir_types.specs.declared.found.Found.TheVariants as found
use Rattle.fir_types.specs.declared.scope.Scope.{Scope}
use Rattle.fir_types.specs.working.Seen.{seen}
use Rattle.fir_types.specs.working.Statements.{found_bundle}
use Rattle.fir_types.specs.working.Walked.{HoldsBundles, Begins, IsOfModule, Walks}
use Rattle.fir_types.proofs.KnownScopes.{Heads, heads_of}

-- a list of which the map is that of another is as long
pub length_of_map : {A B : Type 0} (f : A → B) (xs : List A) → length (map f xs) ≡ length xs
length_of_map f [] = refl
length_of_map f (x ∷ xs) = ap suc (length_of_map f xs)

heads_long : (ds : Declarations) (ks : TypedScope) → Heads ds ks → length ks ≡ length ds
heads_long [] [] h = refl
heads_long (d ∷ ds) (k ∷ ks) h = ap suc (heads_long ds ks h.2)
heads_long [] (k ∷ ks) h = absurd h
heads_long (d ∷ ds) [] h = absurd h

declared_long : (modules : List ModuleTree) (bundles : List TypeId) (scope : Scope) (before : Before) → Walks modules bundles scope before
    → length scope.declared.items ≡ length before.declared
declared_long modules bundles scope before walks =
    sym (length_of_map (seen (types_of scope.table)) scope.declared.items) ∙ ap length walks.types
    ∙ length_of_map (λ k. k.data_type) (scope_at modules before) ∙ heads_long before.declared (scope_at modules before) (heads_of modules before.declared)

-- the entry behind so many
entry_there : (ns : List PlacedName) (i : ℕ) (ds rest : Declarations) (d : Declaration)
    → slice_get (entries_from ns i (ds ++ d ∷ rest)) (length ds) ≡ Some (entry_of ns (i + length ds) d)
entry_there ns i [] rest d = ap (λ k. Some (entry_of ns k d)) (let e : i ≡ i + 0 = omega arith in e)
entry_there ns i (e ∷ ds) rest d =
    entry_there ns (suc i) ds rest d ∙ ap (λ k. Some (entry_of ns k d)) (later (length ds))
  where
    later : (k : ℕ) → suc i + k ≡ i + suc k
    later k = omega arith

at_position : (ns : List PlacedName) (names : Names) (ds rest : Declarations) (d : Declaration) → Tabulates ns names (ds ++ d ∷ rest)
    → entry_at names (length ds) ≡ Some (entry_of ns (length ds) d)
at_position ns names ds rest d t =
    ap (λ es. slice_get es (length ds)) t.in_order ∙ entry_there ns 0 ds rest d ∙ ap (λ k. Some (entry_of ns k d)) (zero_more (length ds))
  where
    zero_more : (k : ℕ) → 0 + k ≡ k
    zero_more k = omega arith

-- the bundle of the module of a number
abbrev numbered : List TypeId → ℕ → Option Found
numbered ids k = option_map (λ id. found.Type id false) (slice_get ids k)

bundle_there : (ts : List DataType) (ids : List TypeId) (ms : List ModuleTree) (name : List ℕ) (k : ℕ) → HoldsBundles ts ids ms
    → find_number (names_of ms) name ≡ Some k → seen ts (numbered ids k) ≡ option_map instance_bundle (find_module ms name)
bundle_there ts [] [] name k h e = absurd (none-some k e)
bundle_there ts (id ∷ ids) (m ∷ ms) name k h e = at (bytes_eq m.named.name name) e (λ j is. bundle_there ts ids ms name j h.1 is)
  where
    behind : (o : Option ℕ) → option_map (λ j. j + 1) o ≡ Some k
        → ((j : ℕ) → o ≡ Some j → seen ts (numbered ids j) ≡ option_map instance_bundle (find_module ms name))
        → seen ts (numbered (id ∷ ids) k) ≡ option_map instance_bundle (find_module ms name)
    behind None e rest = absurd (none-some k e)
    behind (Some j) e rest =
        let next : k ≡ suc j = sym (same_Some (j + 1) k e) ∙ add-one j in ap (λ n. seen ts (numbered (id ∷ ids) n)) next ∙ rest j refl

    at : (b : Bool) → (if b then Some 0 else option_map (λ j. j + 1) (find_number (names_of ms) name)) ≡ Some k
        → ((j : ℕ) → find_number (names_of ms) name ≡ Some j → seen ts (numbered ids j) ≡ option_map instance_bundle (find_module ms name))
        → seen ts (numbered (id ∷ ids) k) ≡ option_map instance_bundle (if b then Some m else find_module ms name)
    at true e rest = ap (λ n. seen ts (numbered (id ∷ ids) n)) (sym (same_Some 0 k e)) ∙ ap (λ o. Some (unwrap_or o (uint None))) h.0
    at false e rest = behind (find_number (names_of ms) name) e rest
bundle_there ts [] (m ∷ ms) name k h e = absurd h
bundle_there ts (id ∷ ids) [] name k h e = absurd h

in_middle : (ds rest : Declarations) (d : Declaration) → In (ds ++ d ∷ rest) d
in_middle [] rest d = inl refl
in_middle (e ∷ ds) rest d = inr (in_middle ds rest d)

pub instance_seen : (modules : List ModuleTree) (names : Names) (whole : Declarations) (bundles : List TypeId) (scope : Scope) (before : Before) (n : PlacedName) (name : List ℕ)
    → IsOfModule modules names whole → Begins (with_declaration before n (instance name)).declared whole → Walks modules bundles scope before
    → seen (types_of scope.table) (found_bundle bundles (entry_at names (length scope.declared.items))) ≡ instance_type modules name
instance_seen modules names whole bundles scope before n name of begins walks =
    let ds = before.declared in
    let d = declaration_at before n (instance name) in
    let split : whole ≡ ds ++ d ∷ begins.0 = begins.1 ∙ append_assoc ds (d ∷ []) begins.0 in
    let there = of.there d name (rw split (in_middle ds begins.0 d)) refl in
    let entry = at_position (names_of modules) names ds begins.0 d (rw split at of.tabulated) in
    ap (λ k. seen (types_of scope.table) (found_bundle bundles (entry_at names k))) (declared_long modules bundles scope before walks)
    ∙ ap (λ o. seen (types_of scope.table) (found_bundle bundles o)) entry
    ∙ ap (λ k. seen (types_of scope.table) (numbered bundles (unwrap_or k 0))) there.1
    ∙ bundle_there (types_of scope.table) bundles modules name there.0 walks.holds there.1
