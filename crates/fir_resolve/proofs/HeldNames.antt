-- What a namespace holds with one name more.
use Rattle.std.proofs.Common.{◌≡◌, ℕ, List, [], ◌∷◌, ◌++◌, true, cond, refl, sym, ap, ◌∙◌}
use Rattle.std.specs.Prelude.{Option, Some, None, option_map}
use Rattle.std.specs.Option.{option_or}
use Rattle.std.specs.BTreeMap.{get}
use Rattle.std.specs.BTreeMap as tree
use Rattle.std.specs.Cmp.Lexicographic.{slice_cmp}
use Rattle.std.specs.Ordering.{nat_cmp}
use Rattle.std.specs.Str.{bytes_eq}
use Rattle.std.proofs.lemmas.Map.Text.{is_eq-slice_cmp}
use Rattle.fir_base.proofs.SameNames.{name_is}
use Rattle.fir_ast.specs.declared.place.Place.{Place}
use Rattle.fir_ast.specs.Statements.{PlacedName}
use Rattle.fir_meaning.specs.Components.{find_name}
use Rattle.fir_meaning.specs.Mentions.{placed_name}
use Rattle.fir_resolve.specs.declared.namespace.Namespace.{Namespace}
use Rattle.fir_resolve.specs.working.Namespaces.{Holds}
use Rattle.fir_names.proofs.LookUps.{found_last, map_last, or_cond}

pub find_name_last : (ns : List PlacedName) (n : PlacedName) (name : List ℕ)
    → find_name (ns ++ n ∷ []) name ≡ option_or (find_name ns name) (cond (bytes_eq n.name name) (Some n) None)
find_name_last [] n name = refl
find_name_last (x ∷ ns) n name =
    ap (cond (bytes_eq x.name name) (Some x)) (find_name_last ns n name)
    ∙ or_cond (bytes_eq x.name name) x (find_name ns name) (cond (bytes_eq n.name name) (Some n) None)

pub holds_more : (old new : Namespace) (before : List PlacedName) (p : Place) (name : List ℕ)
    → tree.Updates (slice_cmp nat_cmp) old.first new.first name (Some p) → None ≡ get (slice_cmp nat_cmp) old.first name → Holds old before
    → Holds new (before ++ placed_name p name ∷ [])
holds_more old new before p name u none held = record {
  each = λ n.
      let under : Option Place = get (slice_cmp nat_cmp) old.first n in
      let place_of : PlacedName → Place = λ m. m.place in
      let missing : bytes_eq name n ≡ true → None ≡ under = λ e. none ∙ ap (get (slice_cmp nat_cmp) old.first) (name_is name n e) in
      u.0 n ∙ ap (λ b. cond b (Some p) under) (is_eq-slice_cmp name n)
      ∙ found_last (bytes_eq name n) p under (option_map place_of (find_name before n)) missing (held.each n)
      ∙ sym (map_last place_of (bytes_eq name n) (placed_name p name) (find_name before n))
      ∙ ap (option_map place_of) (sym (find_name_last before (placed_name p name) n));
}
