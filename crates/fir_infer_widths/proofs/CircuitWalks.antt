-- The walk over the modules of a circuit.
use Rattle.std.proofs.Common.{◌≡◌, ℕ, zero, suc, ◌+◌, ◌≤◌, List, [], ◌∷◌, ◌++◌, flat_map, length, Option, Some, None, true, false, refl, sym, ap, subst, ◌∙◌, append_assoc, take, get_or, arith, ⊎_elim}
use Rattle.std.specs.Prelude.{slice_get, option_map}
use Rattle.std.specs.Str.{bytes_eq}
use Rattle.std.proofs.lemmas.List.{append-nil, take_all, take_more}
use Rattle.std.proofs.lemmas.List.Concat.{flat_map-append}
use Rattle.std.proofs.lemmas.Option.{none-some, same_Some, slice_get_within}
use Rattle.fir_base.proofs.Elements.{get_in, there}
use Rattle.fir_base.proofs.Tests.{chosen}
use Rattle.fir_ast.specs.Circuits.{CircuitTree, ModuleTree}
use Rattle.fir_ast.specs.Types.{DataType}
use Rattle.fir_meaning.specs.ComponentTypes.{find_module}
use Rattle.fir_meaning.specs.working.NameGroups.{HasNames}
use Rattle.fir_meaning.specs.Visibility.{at_head, behind_ports, declarations}
use Rattle.fir_meaning.specs.SizedDeclarations.{NumberedModule, first_numbers, numbered_modules}
use Rattle.fir_meaning.specs.working.WellTyped.{AreLegal, IsWellTyped}
use Rattle.fir_names.specs.working.ModuleOrder.{find_number}
use Rattle.fir_names.specs.working.Numbered.{names_of}
use Rattle.fir_names.proofs.ModulesThere.{instance_number}
use Rattle.fir_type_table.specs.working.Tables.{types_of}
use Rattle.fir_types.specs.declared.findings.Findings.{Findings}
use Rattle.fir_types.specs.working.ModuleNotes.{module_notes}
use Rattle.fir_types.specs.working.TypedModules.{IsTyped}
use Rattle.fir_types.proofs.InstanceWalks.{length_of_map}
use Rattle.fir_infer_widths.specs.declared.ground.Ground.{Ground}
use Rattle.fir_infer_widths.specs.declared.walk.Walk.{Walk}
use Rattle.fir_infer_widths.specs.working.Circuits.{IsWalked, WalkedSoFar, rules_in_module}
use Rattle.fir_width.specs.working.DeclaredWidths.{leaf_widths}
use Rattle.fir_infer_widths.specs.working.Numbered.{Keeps, is_written}
use Rattle.fir_infer_widths.specs.working.SpotFaults.{AreSpots}
use Rattle.fir_infer_widths.specs.working.Spots.{spots_in_module}
use Rattle.fir_infer_widths.specs.working.Walks.{Comes, EntersAt, InstancesAreThere}
use Rattle.fir_infer_widths.proofs.Coming.{spots_joined, spots_more}
use Rattle.fir_width.proofs.FoundModules.{found_of, numbered_long, numbered_module}
use Rattle.fir_infer_widths.proofs.LeafScenes.{stands_in_module}

-- a module that has a number is found
module_found : (ms : List ModuleTree) (name : List ℕ) (k : ℕ) → find_number (names_of ms) name ≡ Some k → (m : ModuleTree) × (find_module ms name ≡ Some m)
module_found [] name k h = absurd (none-some k h)
module_found (x ∷ ms) name k h =
    ⊎_elim
    (λ (c : (bytes_eq x.named.name name ≡ true) × (Some 0 ≡ Some k)). (x, rw c.0 refl))
    (λ (c : (bytes_eq x.named.name name ≡ false) × (option_map (λ j. j + 1) (find_number (names_of ms) name) ≡ Some k)).
    let less = shifted (find_number (names_of ms) name) c.1 in
    let there = module_found ms name less.0 less.1 in
    (there.0, rw c.0 there.1))
    (chosen (bytes_eq x.named.name name) (Some 0) (option_map (λ j. j + 1) (find_number (names_of ms) name)) (Some k) h)
  where
    shifted : (found : Option ℕ) → option_map (λ j. j + 1) found ≡ Some k → (j : ℕ) × (found ≡ Some j)
    shifted None h = absurd (none-some k h)
    shifted (Some j) h = (j, refl)

pub instances_there : (c : CircuitTree) (m : ModuleTree) (k : ℕ) → HasNames c → slice_get c.modules k ≡ Some m → InstancesAreThere c.modules (declarations m)
instances_there c m k clear at = λ d name among is.
    let number = instance_number c clear.names m d name (get_in c.modules k m at) among is in module_found c.modules name number.0 number.1

module _ (c : CircuitTree) (found : Findings) (names : HasNames c) (typed : IsTyped c found) (k : ℕ) (m : ModuleTree) (at : slice_get c.modules k ≡ Some m) where
  pub own : (n : NumberedModule) × (slice_get (numbered_modules c) k ≡ Some n) × (n.modules ≡ c.modules) × (n.inside ≡ m)
  own = numbered_module c k m at

  -- in front of the module
  pub module_enters : (ground : Ground) (walk : Walk) → (w : WalkedSoFar c (types_of found.table) k walk) → ground.table.now ≡ found.table
      → ground.declared.now ≡ (found_of c found typed k m at).declared.items → ground.first_leaves.now ≡ (found_of c found typed k m at).leaves.items
      → ground.is_main ≡ bytes_eq m.named.name c.named.name → (next : Walk) → next.arena ≡ walk.arena → next.notes.now ≡ (found_of c found typed k m at).notes.items → next.declared ≡ 0
      → EntersAt c ground own.0 at_head (leaf_widths c ++ w.more) (flat_map rules_in_module (take k (numbered_modules c))) (module_notes own.0.modules own.0.inside ++ []) next
  module_enters ground walk w table declared leaves main next arena notes none =
      let f = found_of c found typed k m at in
      let meant = leaf_widths c ++ w.more in
      let within : length meant ≤ 18446744073709551615 =
      (let long = length_of_map is_written meant in let same = ap length w.keeps.marks in let short = walk.arena.written.ok.0 in omega (arith, long, same, short)) in
      record {
        stand = rw leaves (stands_in_module c names typed.clear meant w.more refl within k own.0 f.leaves.items own.1 f.first);
        types = rw (table, declared, own.2, own.3) f.types;
        there = rw (own.2, own.3) (instances_there c m k names at);
        main = rw own.3 main;
        keeps = rw arena w.keeps;
        ahead = rw (table, notes, own.2, own.3, append-nil (module_notes c.modules m)) f.noted;
        declared = none;
      }

  pub module_legal : IsWellTyped c → AreLegal own.0.modules (behind_ports at_head own.0.inside.ports) own.0.inside.body
  module_legal well = rw (own.2, own.3) (well m (get_in c.modules k m at))

  -- one module more
  one_more : take (k + 1) (numbered_modules c) ≡ take k (numbered_modules c) ++ own.0 ∷ []
  one_more =
      let within = slice_get_within (numbered_modules c) k own.0 own.1 in
      take_more (numbered_modules c) k own.0 within ∙ ap (λ n. take k (numbered_modules c) ++ n ∷ []) (got (numbered_modules c) k own.0 own.1)
    where
      got : (ns : List NumberedModule) (i : ℕ) (n : NumberedModule) → slice_get ns i ≡ Some n → get_or ns i n ≡ n
      got [] i n is = absurd (none-some n is)
      got (x ∷ ns) zero n is = same_Some x n is
      got (x ∷ ns) (suc i) n is = got ns i n is

  pub module_walked : (ground : Ground) (walk next new : Walk) → (w : WalkedSoFar c (types_of found.table) k walk) → ground.table.now ≡ found.table → next.spots ≡ walk.spots
      → Comes c ground (leaf_widths c ++ w.more) (flat_map rules_in_module (take k (numbered_modules c))) (rules_in_module own.0) [] (spots_in_module own.0) next new
      → WalkedSoFar c (types_of found.table) (k + 1) new
  module_walked ground walk next new w table same h =
      let ts = types_of found.table in
      let all = append_assoc (leaf_widths c) w.more h.more in
      let ruled : flat_map rules_in_module (take (k + 1) (numbered_modules c)) ≡ flat_map rules_in_module (take k (numbered_modules c)) ++ rules_in_module own.0 =
      ap (flat_map rules_in_module) one_more ∙ flat_map-append rules_in_module (take k (numbered_modules c)) (own.0 ∷ [])
      ∙ ap (λ rs. flat_map rules_in_module (take k (numbered_modules c)) ++ rs) (append-nil (rules_in_module own.0)) in
      let spotted : flat_map spots_in_module (take (k + 1) (numbered_modules c)) ≡ flat_map spots_in_module (take k (numbered_modules c)) ++ spots_in_module own.0 =
      ap (flat_map spots_in_module) one_more ∙ flat_map-append spots_in_module (take k (numbered_modules c)) (own.0 ∷ [])
      ∙ ap (λ ss. flat_map spots_in_module (take k (numbered_modules c)) ++ ss) (append-nil (spots_in_module own.0)) in
      let here : AreSpots c ts ((leaf_widths c ++ w.more) ++ h.more) h.spotted.more (spots_in_module own.0) =
      subst (λ t. AreSpots c (types_of t) ((leaf_widths c ++ w.more) ++ h.more) h.spotted.more (spots_in_module own.0)) table h.spotted.are in
      let are : AreSpots c ts ((leaf_widths c ++ w.more) ++ h.more) (walk.spots.items ++ h.spotted.more) (flat_map spots_in_module (take k (numbered_modules c)) ++ spots_in_module own.0) =
      spots_joined c ts ((leaf_widths c ++ w.more) ++ h.more) walk.spots.items h.spotted.more (flat_map spots_in_module (take k (numbered_modules c))) (spots_in_module own.0)
      (spots_more c ts (leaf_widths c ++ w.more) h.more walk.spots.items (flat_map spots_in_module (take k (numbered_modules c))) w.are) here in
      record {
        more = w.more ++ h.more;
        keeps = rw (ruled, sym all) h.keeps;
        are = rw (spotted, sym all, h.spotted.grown, same) are;
      }

-- the whole circuit
pub circuit_begun : (c : CircuitTree) (ts : List DataType) (walk : Walk) → Keeps (leaf_widths c) [] walk.arena → walk.spots.items ≡ [] → WalkedSoFar c ts 0 walk
circuit_begun c ts walk keeps none = record { more = []; keeps = rw (append-nil (leaf_widths c)) keeps; are = rw none tt }

pub circuit_walked : (c : CircuitTree) (ts : List DataType) (k : ℕ) (walk : Walk) → length c.modules ≤ k → WalkedSoFar c ts k walk
    → IsWalked c ts (record { arena = walk.arena; spots = walk.spots })
circuit_walked c ts k walk past w =
    let all : take k (numbered_modules c) ≡ numbered_modules c =
    take_all k (numbered_modules c) (let long = numbered_long c.modules (first_numbers c.modules) c.modules in omega (arith, long, past)) in
    record { more = w.more; keeps = rw (← ap (flat_map rules_in_module) all) w.keeps; are = rw (← ap (flat_map spots_in_module) all) w.are }
