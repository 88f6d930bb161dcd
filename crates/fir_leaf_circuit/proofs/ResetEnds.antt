-- The end of a Reset at a path of a module.
use Rattle.std.proofs.Common.{◌≡◌, ℕ, ◌∷◌, Option, Some, None, refl, sym, ap}
use Rattle.std.specs.Prelude.{slice_get}
use Rattle.fir_base.specs.Lists.{In}
use Rattle.fir_ast.specs.declared.place.Place.{Place}
use Rattle.fir_ast.specs.Types.{DataType, reset}
use Rattle.fir_ast.specs.Circuits.{CircuitTree, ModuleTree}
use Rattle.fir_meaning.specs.Components.{Declaration, find}
use Rattle.fir_meaning.specs.ComponentTypes.{typed_scope}
use Rattle.fir_meaning.specs.LeafPaths.{LeafPath, named}
use Rattle.fir_meaning.specs.ResetItems.{End, declared_at, leaf_item}
use Rattle.fir_meaning.specs.ResetWalks.{IsAsynchronous, IsLeafOf, IsReset, goes_on, meets}
use Rattle.fir_meaning.specs.TypeLeaves.{TypeLeaf, type_leaves}
use Rattle.fir_meaning.specs.TypedScopes.{Known}
use Rattle.fir_meaning.specs.Visibility.{declarations}

pub record ResetEnd (c : CircuitTree) (number : ℕ) (path : LeafPath) : Type 0 where
  pub end : End
  pub leaf : IsLeafOf c end
  pub item : end.item ≡ leaf_item number path
  pub resets : IsReset end

placed_again : (p : Place) (o : Option Declaration) → declared_at p o ≡ declared_at (declared_at p o) o
placed_again p None = refl
placed_again p (Some d) = refl

-- that of a leaf of what is known
pub reset_end : (c : CircuitTree) (number : ℕ) (inside : ModuleTree) → slice_get c.modules number ≡ Some inside → (k : Known)
    → In (typed_scope c.modules (declarations inside)) k → (t : DataType) → k.data_type ≡ Some t → (l : TypeLeaf) → In (type_leaves t) l
    → l.ground_type ≡ reset
    → (path : LeafPath) → path ≡ named k.name ∷ l.path → ResetEnd c number path
reset_end c number inside is_module k declared t has_type l among resets path is =
    let nowhere : Place = record { line = 0; col = 0 } in
    let place = declared_at nowhere (find (declarations inside) k.name) in
    record {
      end = record { item = leaf_item number path; ground_type = reset; place = place };
      leaf = record {
        number = number;
        inside = inside;
        is_module = is_module;
        declared = k;
        is_declared = declared;
        data_type = t;
        has_type = has_type;
        leaf = l;
        is_leaf = among;
        item = ap (leaf_item number) is;
        ground_type = sym resets;
        place = placed_again nowhere (find (declarations inside) k.name);
      };
      item = refl;
      resets = refl;
    }

-- only a Reset is asynchronous
pub only_resets : (c : CircuitTree) (e : End) → IsAsynchronous c e → IsReset e
only_resets c e (meets f g r j a) = r
only_resets c e (goes_on f g r j a) = r
