-- The numbers of a module's instances, read off its table, and those of all modules.
use Rattle.std.proofs.Common.{◌≡◌, ℕ, ◌+◌, ◌<◌, ◌≤◌, List, [], ◌∷◌, ◌++◌, length, map, drop, get_or, slice_get, Some, None, Option, option_to_list, Vec, Global, refl, sym, ap, ◌∙◌, append_assoc, append-nil, arith}
use Rattle.std.proofs.lemmas.List.{drop_more, drop_all, map-append}
use Rattle.std.proofs.lemmas.Option.{get_or_from_slice_get, slice_get_read, slice_get_within}
use Rattle.fir_base.proofs.Elements.{there}
use Rattle.fir_ast.specs.Statements.{PlacedName}
use Rattle.fir_ast.specs.Circuits.{ModuleTree}
use Rattle.fir_meaning.specs.Components.{Component, Declaration, Declarations}
use Rattle.fir_meaning.specs.Components as component
use Rattle.fir_meaning.specs.Visibility.{declarations}
use Rattle.fir_names.specs.declared.names.Names.{Names}
use Rattle.fir_names.specs.working.Judged.{TabulatesEach}
use Rattle.fir_names.specs.working.Numbered.{component_of, instance_number, instance_numbers, module_number, number_read}
use Rattle.fir_names.specs.working.Ordered.{instances_each}
use Rattle.fir_names.specs.working.Tabulated.{Tabulates, entry_at, entry_count}
use Rattle.fir_names.proofs.TablesByNumber.{entry_read, in_order_long, module_there, tables_long}

one_number : (modules : List PlacedName) (c : Component) → instance_number modules c ≡ option_to_list (module_number (component_of modules c))
one_number modules (component.port d t) = refl
one_number modules (component.wire t) = refl
one_number modules (component.register t) = refl
one_number modules (component.node e) = refl
one_number modules (component.instance name) = refl
one_number modules (component.memory parts) = refl

-- what is left of a list begins with the next
left_is : {A : Type 0} → (xs : List A) (k : ℕ) (x : A) → k < length xs → slice_get xs k ≡ Some x → drop k xs ≡ x ∷ drop (k + 1) xs
left_is xs k x within is = drop_more xs k x within ∙ ap (λ y. y ∷ drop (k + 1) xs) (get_or_from_slice_get xs k x x is)

-- the numbers so far, and those that are left, are all
pub record Numbers (modules : List PlacedName) (t : Names) (k : ℕ) (numbers : List ℕ) : Type 0 where
  pub with : (ds : Declarations) → Tabulates modules t ds → numbers ++ instance_numbers modules (drop k ds) ≡ instance_numbers modules ds

module _ (modules : List PlacedName) (t : Names) (k : ℕ) (numbers : List ℕ) where
  next_number : (ds : Declarations) → Tabulates modules t ds → k < entry_count t → (o : Option ℕ)
      → o ≡ number_read (entry_at t k) → instance_numbers modules (drop k ds) ≡ option_to_list o ++ instance_numbers modules (drop (k + 1) ds)
  next_number ds h within o is =
      let low : k < length ds = omega (arith, within, in_order_long modules t ds h) in
      let d = there ds k low in
      let number : o ≡ module_number (component_of modules d.0.component) = is ∙ ap number_read (entry_read modules t ds h k d.0 d.1) in
      ap (instance_numbers modules) (left_is ds k d.0 low d.1)
      ∙ ap (λ l. l ++ instance_numbers modules (drop (k + 1) ds)) (one_number modules d.0.component ∙ ap option_to_list (sym number))

  pub numbers_more : Numbers modules t k numbers → k < entry_count t → (n : ℕ) → Some n ≡ number_read (entry_at t k)
      → Numbers modules t (k + 1) (numbers ++ n ∷ [])
  numbers_more h within n is = record {
    with = λ ds tab.
        append_assoc numbers (n ∷ []) (instance_numbers modules (drop (k + 1) ds))
        ∙ ap (λ l. numbers ++ l) (sym (next_number ds tab within (Some n) is)) ∙ h.with ds tab;
  }

  pub numbers_same : Numbers modules t k numbers → k < entry_count t → None ≡ number_read (entry_at t k)
      → Numbers modules t (k + 1) numbers
  numbers_same h within is = record {
    with = λ ds tab. ap (λ l. numbers ++ l) (sym (next_number ds tab within None is)) ∙ h.with ds tab;
  }

  pub numbers_all : Numbers modules t k numbers → entry_count t ≤ k → (ds : Declarations) → Tabulates modules t ds → numbers ≡ instance_numbers modules ds
  numbers_all h end ds tab =
      let past : length ds ≤ k = omega (arith, end, in_order_long modules t ds tab) in
      sym (append-nil numbers) ∙ ap (λ l. numbers ++ instance_numbers modules l) (sym (drop_all k ds past)) ∙ h.with ds tab

pub numbers_none : (modules : List PlacedName) (t : Names) → Numbers modules t 0 []
numbers_none modules t = record { with = λ ds tab. refl }

abbrev items_each : List (Vec ℕ Global) → List (List ℕ)
items_each = map (λ v. v.items)

-- the modules so far, and those that are left, are all
pub record Modules (names : List PlacedName) (ts : List Names) (k : ℕ) (vs : List (Vec ℕ Global)) : Type 0 where
  pub with : (ms : List ModuleTree) → TabulatesEach names ts ms
      → map (λ v. v.items) vs ++ instances_each names (drop k ms) ≡ instances_each names ms

pub modules_none : (names : List PlacedName) (ts : List Names) → Modules names ts 0 []
modules_none names ts = record { with = λ ms tab. refl }

module _ (names : List PlacedName) (ts : List Names) (k : ℕ) (vs : List (Vec ℕ Global)) (h : Modules names ts k vs) where
  pub modules_more : (t : Names) → k < length ts → t ≡ get_or ts k t → (v : Vec ℕ Global)
      → ((ds : Declarations) → Tabulates names t ds → v.items ≡ instance_numbers names ds) → Modules names ts (k + 1) (vs ++ v ∷ [])
  modules_more t within is v numbers = record {
    with = λ ms tab.
        let m = module_there names ts ms tab k t (slice_get_read ts (length ts) k t refl within is) in
        let rest = instances_each names (drop (k + 1) ms) in
        let left = left_is ms k m.0 (slice_get_within ms k m.0 m.1) m.1 in
        ap (λ l. l ++ rest) (map-append (λ (w : Vec ℕ Global). w.items) vs (v ∷ []))
        ∙ append_assoc (items_each vs) (v.items ∷ []) rest
        ∙ ap (λ (n : List ℕ). items_each vs ++ n ∷ rest) (numbers (declarations m.0) m.2)
        ∙ ap (λ l. items_each vs ++ instances_each names l) (sym left)
        ∙ h.with ms tab;
  }

  pub modules_all : length ts ≤ k → (ms : List ModuleTree) → TabulatesEach names ts ms → map (λ v. v.items) vs ≡ instances_each names ms
  modules_all end ms tab =
      let past : length ms ≤ k = omega (arith, end, tables_long names ts ms tab) in
      sym (append-nil (items_each vs)) ∙ ap (λ l. items_each vs ++ instances_each names l) (sym (drop_all k ms past)) ∙ h.with ms tab
