-- Each leaf of the view of a module is one of what the module declares, told by the number of its declaration and by how many leaves of that stand before it.
use Rattle.std.proofs.Common.{◌≡◌, ◌==◌, ℕ, ◌<◌, zero, suc, ◌+◌, ◌-◌, List, [], ◌∷◌, count_by, fold, length, map, take, Some, refl, ap, sym, ◌∙◌, arith}
use Rattle.std.specs.Prelude.{slice_get}
use Rattle.std.proofs.lemmas.List.{take-map}
use Rattle.std.proofs.lemmas.Option.{none-some, same_Some, slice_get_within}
use Rattle.fir_base.proofs.Elements.{get_in}
use Rattle.fir_ast.specs.Circuits.{CircuitTree, ModuleTree}
use Rattle.fir_meaning.specs.ComponentTypes.{typed_scope}
use Rattle.fir_meaning.specs.FoundTypes.{leaves_of_data}
use Rattle.fir_meaning.specs.working.LeafModules.{LeafDeclared}
use Rattle.fir_meaning.specs.LeafPaths.{named}
use Rattle.fir_meaning.specs.ModuleScenes.{Scene}
use Rattle.fir_meaning.specs.working.LeafedModules.{module_leaves}
use Rattle.fir_meaning.specs.SizedDeclarations.{Numbering, NumberedModule, behind_module, first_numbers, modules_from, numbered_modules}
use Rattle.fir_meaning.specs.TypedScopes.{TypedScope}
use Rattle.fir_meaning.specs.Visibility.{declarations}
use Rattle.fir_leaf.specs.working.TableLaws.{LeavesAreDeclared}
use Rattle.fir_leaf.proofs.LeafPlaces.{get_mapped}
use Rattle.fir_leaf_text.specs.working.DeclaredLeaves.{IsDeclaredLeaf}
use Rattle.fir_leaf_text.specs.working.TypePaths.{paths_of}
use Rattle.fir_leaf_text.proofs.NumberedLeaves.{leaves_numbered, number_of}
use Rattle.fir_leaf_text.proofs.PlacedLeaves.{one_where, placed, same_before}

-- a numbered module is that of its number
inside_from : (modules : List ModuleTree) (numbers : Numbering) (ms : List ModuleTree) (k : ℕ) (m : NumberedModule)
    → slice_get (modules_from modules numbers ms) k ≡ Some m → slice_get ms k ≡ Some m.inside
inside_from modules numbers [] k m at = absurd (none-some m at)
inside_from modules numbers (x ∷ ms) zero m at =
    ap (λ (n : NumberedModule). Some n.inside) (same_Some (record { modules = modules; inside = x; start = numbers }) m at)
inside_from modules numbers (x ∷ ms) (suc k) m at = inside_from modules (behind_module modules numbers x) ms k m at

pub inside_there : (c : CircuitTree) (module_number : ℕ) (m : NumberedModule) → slice_get (numbered_modules c) module_number ≡ Some m
    → slice_get c.modules module_number ≡ Some m.inside
inside_there c module_number m own = inside_from c.modules (first_numbers c.modules) c.modules module_number m own

pub module_there : (c : CircuitTree) (module_number : ℕ) (m : NumberedModule) → slice_get (numbered_modules c) module_number ≡ Some m
    → module_number < length c.modules
module_there c module_number m own =
    slice_get_within c.modules module_number m.inside (inside_there c module_number m own)

module _ (law : LeavesAreDeclared) (c : CircuitTree) (module_number : ℕ) (s : Scene) (own : slice_get (numbered_modules c) module_number ≡ Some s.own) where
  abbrev known : TypedScope
  known = typed_scope c.modules (declarations s.own.inside)

  pub is_declared_leaf : (leaf : ℕ) (l : LeafDeclared) → slice_get (module_leaves s) leaf ≡ Some l
      → IsDeclaredLeaf c module_number l.declaration (same_before (map number_of (module_leaves s)) l.declaration leaf) l.path
  is_declared_leaf leaf l at =
      let ls = module_leaves s in
      let among = get_in (numbered_modules c) module_number s.own own in
      let numbers = leaves_numbered c s among in
      let numbered = ap (λ ns. slice_get ns leaf) (sym numbers) ∙ get_mapped number_of ls leaf l at in
      let p = (placed known 0 l.declaration leaf numbered).1 in
      let path = ap (λ ps. slice_get ps leaf) (sym (law c s among)) ∙ get_mapped (λ (x : LeafDeclared). x.path) ls leaf l at in
      let first : l.declaration - 0 ≡ l.declaration = omega arith in
      record {
        inside = s.own.inside;
        known = p.known;
        steps = p.steps;
        is_module = inside_there c module_number s.own own;
        is_known = ap (slice_get known) (sym first) ∙ p.is_known;
        among = ap (λ ns. slice_get (paths_of (leaves_of_data p.known.data_type)) (same_before ns l.declaration leaf)) numbers ∙ p.among;
        begins = same_Some l.path (named p.known.name ∷ p.steps) (sym path ∙ p.is_path);
      }

-- the same count of what has the numbers
fold_mapped : {A : Type 0} (f : A → ℕ) (d n : ℕ) (xs : List A)
    → fold (λ k x. k + one_where (f x == d)) n xs ≡ fold (λ k x. k + one_where (x == d)) n (map f xs)
fold_mapped f d n [] = refl
fold_mapped f d n (x ∷ xs) = fold_mapped f d (n + one_where (f x == d)) xs

pub counted_by_number : {A : Type 0} (f : A → ℕ) (d leaf : ℕ) (xs : List A) → count_by (λ x. f x == d) (take leaf xs) ≡ same_before (map f xs) d leaf
counted_by_number f d leaf xs = fold_mapped f d 0 (take leaf xs) ∙ ap (count_by (λ n. n == d)) (sym (take-map f leaf xs))
