-- A Reset that was pushed as an end, and put into the table of numbers.
use Rattle.std.proofs.Common.{◌≡◌, ℕ, List, Some, length, subst}
use Rattle.std.specs.BTreeMap.{BTreeMap, Updates}
use Rattle.std.specs.Cmp.Lexicographic.{slice_cmp}
use Rattle.std.specs.Ordering.{nat_cmp}
use Rattle.fir_ast.specs.declared.place.Place.{Place}
use Rattle.fir_meaning.specs.LeafPaths.{LeafPath}
use Rattle.fir_infer_resets.specs.declared.graph.Kind.TheVariants.{Reset}
use Rattle.fir_infer_resets.specs.declared.item.End.{End}
use Rattle.fir_infer_resets.specs.declared.joined.Joined.{Joined}
use Rattle.fir_meaning.specs.ResetItems.{leaf_item}
use Rattle.fir_infer_resets.specs.working.PathKeys.{path_key}
use Rattle.fir_infer_resets.specs.working.Holding.{item_of}
use Rattle.fir_infer_resets.specs.working.Adding.{AddsEnd, AddsReset}

pub adds_reset : (old middle : Joined) (numbers : BTreeMap (List ℕ) ℕ) (own : End) (number : ℕ) (leaf : LeafPath) (place : Place) (key : List ℕ) (n : ℕ)
    → AddsEnd old middle own → item_of own.item ≡ leaf_item number leaf → own.kind ≡ Reset → own.place ≡ place
    → key ≡ path_key number leaf → n ≡ length old.ends.items → Updates (slice_cmp nat_cmp) middle.numbers numbers key (Some n)
    → AddsReset old (record middle { numbers = numbers }) number leaf place
adds_reset old middle numbers own number leaf place key n a item kind at is count u = record {
  own = own;
  item = item;
  kind = kind;
  at = at;
  ends = a.ends;
  kinds = a.kinds;
  list = a.list;
  empty = a.empty;
  graph = a.graph;
  numbers =
      subst (λ t. Updates (slice_cmp nat_cmp) t numbers (path_key number leaf) (Some (length old.ends.items))) a.numbers
      (subst (λ k. Updates (slice_cmp nat_cmp) middle.numbers numbers k (Some (length old.ends.items))) is
      (subst (λ m. Updates (slice_cmp nat_cmp) middle.numbers numbers key (Some m)) count u));
}
