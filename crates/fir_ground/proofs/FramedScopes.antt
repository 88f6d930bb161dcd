-- What is declared before a place of a module stands at the head of all that it declares, with its leaves.
use Rattle.std.proofs.Common.{◌≡◌, ℕ, zero, suc, ◌+◌, ◌<◌, List, [], ◌∷◌, ◌++◌, length, get_or, Bool, true, false, Option, Some, None, refl, sym, ap, ◌∙◌, subst, arith, inl, append_assoc, append-nil}
use Rattle.std.specs.Prelude.{if◌then◌else◌, slice_get, option_map, unwrap_or}
use Rattle.std.specs.Str.{bytes_eq}
use Rattle.fir_base.specs.Lists.{In}
use Rattle.fir_base.proofs.Members.{in_right}
use Rattle.fir_ast.specs.Statements.{PlacedName}
use Rattle.fir_ast.specs.Circuits.{ModuleTree}
use Rattle.fir_meaning.specs.Components.{Declaration, Declarations, instance}
use Rattle.fir_meaning.specs.ComponentTypes.{known_as, typed_behind, typed_scope}
use Rattle.fir_meaning.specs.Costs.{leaves_where}
use Rattle.fir_meaning.specs.ResetJoins.{numbered_module}
use Rattle.fir_meaning.specs.TypedScopes.{Known, TypedScope, known}
use Rattle.fir_meaning.specs.TypeGroup.{scope_at}
use Rattle.fir_meaning.specs.Visibility.{Before, declaration_at}
use Rattle.fir_names.specs.declared.declaration.Component.TheVariants as code
use Rattle.fir_names.specs.declared.declaration.Declaration.{Declaration as Entry}
use Rattle.fir_names.specs.working.ModuleOrder.{find_number}
use Rattle.fir_names.specs.working.Numbered.{names_of}
use Rattle.fir_names.specs.working.Tabulated.{entry_at, entry_of}
use Rattle.fir_names.proofs.TablesByNumber.{entry_read}
use Rattle.fir_types.specs.working.Notes.{position_of}
use Rattle.fir_types.specs.working.Walked.{Begins}
use Rattle.fir_meaning.specs.working.Targets.{leaves_ahead, leaves_so_far}
use Rattle.fir_ground.specs.declared.frame.Frame.{Frame}
use Rattle.fir_ground.specs.working.Grounds.{Stands}
use Rattle.fir_ground.specs.working.Statements.{Frames, IsInstanceAt, firsts_from}

-- what is known behind such names
abbrev known_behind : List ModuleTree → TypedScope → Declarations → TypedScope
known_behind modules ks [] = []
known_behind modules ks (d ∷ ds) = known_as modules ks d ∷ known_behind modules (ks ++ known_as modules ks d ∷ []) ds

behind_known : (modules : List ModuleTree) (ks : TypedScope) (ds : Declarations) → typed_behind modules ks ds ≡ ks ++ known_behind modules ks ds
behind_known modules ks [] = sym (append-nil ks)
behind_known modules ks (d ∷ ds) =
    behind_known modules (ks ++ known_as modules ks d ∷ []) ds
    ∙ append_assoc ks (known_as modules ks d ∷ []) (known_behind modules (ks ++ known_as modules ks d ∷ []) ds)

behind_joined : (modules : List ModuleTree) (ks : TypedScope) (xs ys : Declarations)
    → typed_behind modules ks (xs ++ ys) ≡ typed_behind modules (typed_behind modules ks xs) ys
behind_joined modules ks [] ys = refl
behind_joined modules ks (x ∷ xs) ys = behind_joined modules (ks ++ known_as modules ks x ∷ []) xs ys

pub scope_joined : (modules : List ModuleTree) (xs ys : Declarations)
    → typed_scope modules (xs ++ ys) ≡ typed_scope modules xs ++ known_behind modules (typed_scope modules xs) ys
scope_joined modules xs ys = behind_joined modules [] xs ys ∙ behind_known modules (typed_scope modules xs) ys

known_long : (modules : List ModuleTree) (ks : TypedScope) (ds : Declarations) → length (known_behind modules ks ds) ≡ length ds
known_long modules ks [] = refl
known_long modules ks (d ∷ ds) = ap suc (known_long modules (ks ++ known_as modules ks d ∷ []) ds)

pub scope_long : (modules : List ModuleTree) (ds : Declarations) → length (typed_scope modules ds) ≡ length ds
scope_long modules ds = ap length (behind_known modules [] ds) ∙ known_long modules [] ds

sums_joined : (xs ys : TypedScope) → leaves_so_far (xs ++ ys) ≡ leaves_so_far xs + leaves_so_far ys
sums_joined [] ys = omega arith
sums_joined (x ∷ xs) ys = let h = sums_joined xs ys in omega arith

first_at : (n : ℕ) (typed more : TypedScope) (name : List ℕ) (k : Known) → known typed name ≡ Some k
    → slice_get (firsts_from n (typed ++ more)) (position_of typed name) ≡ Some (n + leaves_ahead typed name)
first_at n [] more name k e = absurd (cc)
first_at n (x ∷ xs) more name k e = either (bytes_eq x.name name) (first_at (n + leaves_where x.data_type) xs more name k) e
  where
    either : (b : Bool)
        → (known xs name ≡ Some k
        → slice_get (firsts_from (n + leaves_where x.data_type) (xs ++ more)) (position_of xs name) ≡ Some
        ((n + leaves_where x.data_type) + leaves_ahead xs name))
        → (if b then Some x else known xs name) ≡ Some k
        → slice_get (n ∷ firsts_from (n + leaves_where x.data_type) (xs ++ more)) (if b then zero else suc (position_of xs name))
        ≡ Some (n + (if b then 0 else leaves_where x.data_type + leaves_ahead xs name))
    either true later e = let same : n ≡ n + 0 = omega arith in ap Some same
    either false later e =
        let same : (n + leaves_where x.data_type) + leaves_ahead xs name ≡ n + (leaves_where x.data_type + leaves_ahead xs name) = omega arith in later e
        ∙ ap Some same

first_behind : (n : ℕ) (typed : TypedScope) (k : Known) (more : TypedScope)
    → slice_get (firsts_from n (typed ++ k ∷ more)) (length typed) ≡ Some (n + leaves_so_far typed)
first_behind n [] k more = let same : n ≡ n + 0 = omega arith in ap Some same
first_behind n (x ∷ xs) k more =
    let same : (n + leaves_where x.data_type) + leaves_so_far xs ≡ n + (leaves_where x.data_type + leaves_so_far xs) = omega arith in
    first_behind (n + leaves_where x.data_type) xs k more ∙ ap Some same

-- names that are known at a place stand in the module
pub frames_stand : (frame : Frame) (modules : List ModuleTree) (whole : Declarations) (place : Before) → Frames frame modules whole
    → Begins place.declared whole
    → Stands frame.ground (scope_at modules place)
frames_stand frame modules whole place frames begins =
    let typed = scope_at modules place in
    let more = known_behind modules typed begins.0 in
    let all : typed_scope modules whole ≡ typed ++ more = ap (typed_scope modules) begins.1 ∙ scope_joined modules place.declared begins.0 in
    record {
      firsts = λ name k is.
          ap (λ l. slice_get l (position_of typed name)) (frames.firsts ∙ ap (firsts_from 0) all) ∙ first_at 0 typed more name k is
          ∙ ap Some (let same : 0 + leaves_ahead typed name ≡ leaves_ahead typed name = omega arith in same);
      small = omega (arith, frames.small, ap leaves_so_far all, sums_joined typed more);
    }

-- a module of a name, with its number
abbrev NumberedFrom : ℕ → List ModuleTree → List ℕ → ℕ → Type 0
NumberedFrom i modules name k = (child : ModuleTree) × (numbered_module i modules name ≡ Some (i + k, child))

same_number : (n k : ℕ) → Some n ≡ Some k → n ≡ k
same_number n k e = ap (λ o. unwrap_or o 0) e

numbered_from : (i : ℕ) (modules : List ModuleTree) (name : List ℕ) (k : ℕ) → find_number (names_of modules) name ≡ Some k → NumberedFrom i modules name k
numbered_from i [] name k e = absurd (cc)
numbered_from i (m ∷ ms) name k e = either (bytes_eq m.named.name name) (find_number (names_of ms) name) (λ j h. numbered_from (suc i) ms name j h) e
  where
    either : (b : Bool) (o : Option ℕ) → ((j : ℕ) → o ≡ Some j → NumberedFrom (suc i) ms name j) → (if b then Some 0 else option_map (λ j. j + 1) o) ≡ Some k
        → (child : ModuleTree) × ((if b then Some (i, m) else numbered_module (suc i) ms name) ≡ Some (i + k, child))
    either true o later e =
        let zeros : 0 ≡ k = same_number 0 k e in
        let here : i ≡ i + k = omega arith in
        (m, ap (λ (n : ℕ). Some (n, m)) here)
    either false None later e = absurd (cc)
    either false (Some j) later e =
        let next : j + 1 ≡ k = same_number (j + 1) k e in
        let there : suc i + j ≡ i + k = omega arith in
        let one = later j refl in
        (one.0, one.1 ∙ ap (λ (n : ℕ). Some (n, one.0)) there)

-- what is known of an instance
pub record InstanceFacts (frame : Frame) (modules : List ModuleTree) (before : Before) (name : List ℕ) (position : ℕ) : Type 0 where
  pub number : ℕ
  pub child : ModuleTree
  pub entry : Entry
  pub found : entry_at frame.names.now position ≡ Some entry
  pub component : entry.component ≡ code.Instance number
  pub numbered : numbered_module 0 modules name ≡ Some (number, child)
  pub first : slice_get frame.ground.firsts.now position ≡ Some (leaves_so_far (scope_at modules before))
  pub counted : position ≡ length (scope_at modules before)

item_behind : {A : Type 0} → (xs : List A) (y : A) (ys : List A) → slice_get (xs ++ y ∷ ys) (length xs) ≡ Some y
item_behind [] y ys = refl
item_behind (x ∷ xs) y ys = item_behind xs y ys

pub instance_facts : (frame : Frame) (modules : List ModuleTree) (whole : Declarations) (before : Before) (n : PlacedName) (name : List ℕ) (position : ℕ)
    → IsInstanceAt frame modules whole before n name position → InstanceFacts frame modules before name position
instance_facts frame modules whole before n name position h =
    let d : Declaration = declaration_at before n (instance name) in
    let typed = scope_at modules before in
    let rest = h.begins.0 in
    let whole_is : whole ≡ before.declared ++ d ∷ rest = h.begins.1 ∙ append_assoc before.declared (d ∷ []) rest in
    let among : In whole d = subst (λ ds. In ds d) (sym whole_is) (in_right before.declared (d ∷ rest) d (inl refl)) in
    let there = h.frames.names.there d name among refl in
    let number = there.0 in
    let numbered = numbered_from 0 modules name number there.1 in
    let at : slice_get whole position ≡ Some d =
    ap (slice_get whole) h.counted ∙ ap (λ ds. slice_get ds (length before.declared)) whole_is ∙ item_behind before.declared d rest in
    let all : typed_scope modules whole ≡ typed ++ known_behind modules typed (d ∷ rest) = ap (typed_scope modules) whole_is
    ∙ scope_joined modules before.declared (d ∷ rest) in
    let long : position ≡ length typed = h.counted ∙ sym (scope_long modules before.declared) in
    let zeros : 0 + number ≡ number = omega arith in
    let none : 0 + leaves_so_far typed ≡ leaves_so_far typed = omega arith in
    record {
      number = number;
      child = numbered.0;
      entry = entry_of (names_of modules) position d;
      found = entry_read (names_of modules) frame.names.now whole h.frames.names.tabulated position d at;
      component = ap (λ o. code.Instance (unwrap_or o 0)) there.1;
      numbered = numbered.1 ∙ ap (λ (k : ℕ). Some (k, numbered.0)) zeros;
      first = ap (slice_get frame.ground.firsts.now) long ∙ ap (λ l. slice_get l (length typed)) (h.frames.firsts ∙ ap (firsts_from 0) all)
          ∙ first_behind 0 typed (known_as modules typed d) (known_behind modules (typed ++ known_as modules typed d ∷ []) rest) ∙ ap Some none;
      counted = long;
    }

pub get_within : (xs : List ℕ) (k x : ℕ) → slice_get xs k ≡ Some x → k < length xs
get_within [] k x e = absurd (cc)
get_within (y ∷ xs) zero x e = omega arith
get_within (y ∷ xs) (suc k) x e = let h = get_within xs k x e in omega arith

pub get_is : (xs : List ℕ) (k x d : ℕ) → slice_get xs k ≡ Some x → get_or xs k d ≡ x
get_is [] k x d e = absurd (cc)
get_is (y ∷ xs) zero x d e = same_number y x e
get_is (y ∷ xs) (suc k) x d e = get_is xs k x d e
