-- The arrays of a design's instances, one instance behind the other.
use Rattle.std.proofs.Common.{◌≡◌, ℕ, ◌+◌, List, [], ◌++◌, nat_eq, refl, sym, ap, ap₂, ◌∙◌, arith, append-nil}
use Rattle.std.specs.Prelude.{if◌then◌else◌}
use Rattle.fir_meaning.specs.working.Designs.{Design, Item, Items, done, drive, instance, then, when}
use Rattle.fir_meaning.specs.working.FlatDesigns.{array_count, array_count_all, array_count_below}
use Rattle.fir_meaning.specs.working.LeafBlocks.{HeldInstance}
use Rattle.fir_meaning.specs.working.StateWalks.{all_array_order_in, array_order_below, array_order_in}
use Rattle.fir_design.proofs.DesignInstances.{given, given_joined, instance_in, instances_in, sizes, sizes_joined}

mutual
  counted_one : (i : Item) (gives : HeldInstance → ℕ → Design → List ℕ) → array_count i ≡ sizes array_count_below gives (instance_in i)
  counted_one (drive p b ps t) gives = refl
  counted_one (when p c a b) gives =
      omega (arith, arrays_counted a gives, arrays_counted b gives, sizes_joined array_count_below gives (instances_in a) (instances_in b))
  counted_one (instance i d) gives = omega arith

  pub arrays_counted : (is : Items) (gives : HeldInstance → ℕ → Design → List ℕ) → array_count_all is ≡ sizes array_count_below gives
      (instances_in is)
  arrays_counted done gives = refl
  arrays_counted ((then) i is) gives =
      omega (arith, counted_one i gives, arrays_counted is gives, sizes_joined array_count_below gives (instance_in i) (instances_in is))

abbrev pub arrays_of : HeldInstance → ℕ → Design → List ℕ
arrays_of i array d = array_order_below array d

module _ (k : ℕ) where
  mutual
    arrays_one : (i : Item) (array : ℕ) → array_order_in array k i ≡ given array_count_below arrays_of array k (instance_in i)
    arrays_one (drive p b ps t) array = refl
    arrays_one (when p c a b) array =
        ap₂ (λ xs ys. xs ++ ys) (arrays_given a array) (arrays_given b (array + array_count_all a))
        ∙ sym (given_joined array_count_below arrays_of array k (array + array_count_all a) (instances_in a) (instances_in b)
        (ap (λ z. array + z) (sym (arrays_counted a arrays_of))))
    arrays_one (instance i d) array = sym (append-nil (if nat_eq i.declaration k then array_order_below array d else []))

    pub arrays_given : (is : Items) (array : ℕ) → all_array_order_in array k is ≡ given array_count_below arrays_of array k (instances_in is)
    arrays_given done array = refl
    arrays_given ((then) i is) array =
        ap₂ (λ xs ys. xs ++ ys) (arrays_one i array) (arrays_given is (array + array_count i))
        ∙ sym (given_joined array_count_below arrays_of array k (array + array_count i) (instance_in i) (instances_in is)
        (ap (λ z. array + z) (sym (counted_one i arrays_of))))
