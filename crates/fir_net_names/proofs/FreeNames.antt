-- What the set of taken names says of the names that are free of a list.
use Rattle.std.proofs.Common.{◌≡◌, ℕ, List, ◌++◌, Bool, true, false, ◌&&◌, sym, ap, ◌∙◌, arith}
use Rattle.std.specs.Prelude.{not, codes}
use Rattle.std.specs.BTreeSet.{BTreeSet}
use Rattle.ver_words.specs.Reserved.{is_reserved}
use Rattle.fir_net_names.specs.declared.numbered.Numbered.{Numbered}
use Rattle.fir_net_names.specs.Names.{is_free, suffixed, inner_name, IsFirstFree, IsNameFor, IsInner}
use Rattle.fir_net_names.specs.working.NameSets.{Holds, IsFirstUntaken, has}
use Rattle.fir_net_names.proofs.Unreserved.{suffixed_unreserved, inner_unreserved}

-- free is what is not reserved and not in the set
free_by_set : (set : BTreeSet (List ℕ)) (names : List (List ℕ)) (n : List ℕ) → Holds set names → is_free names n ≡ (not (is_reserved n) && not (has set n))
free_by_set set names n h = ap (λ b. not (is_reserved n) && not b) (sym (h.each n))

unreserved_free : (set : BTreeSet (List ℕ)) (names : List (List ℕ)) (n : List ℕ) (b : Bool) → Holds set names → is_reserved n ≡ false → has set n ≡ b → is_free names n ≡ not b
unreserved_free set names n b h r s = free_by_set set names n h ∙ ap (λ x. not x && not (has set n)) r ∙ ap not s

-- a base that is free names its leaf itself
pub base_for : (set : BTreeSet (List ℕ)) (names : List (List ℕ)) (base name : List ℕ) → (not (is_reserved base) && not (has set base)) ≡ true → name ≡ base → Holds set names → IsNameFor names base name
base_for set names base name free is h = let e : is_free names base ≡ true = free_by_set set names base h ∙ free in rw e is

-- else the first that the set lacks
pub suffix_for : (set : BTreeSet (List ℕ)) (names : List (List ℕ)) (base : List ℕ) (found : Numbered) → (not (is_reserved base) && not (has set base)) ≡ false → IsFirstUntaken set (base ++ codes "_") 0 found → Holds set names → IsNameFor names base found.name
suffix_for set names base found taken first h =
    let e : is_free names base ≡ false = free_by_set set names base h ∙ taken in
    let is : found.name ≡ suffixed base found.number = first.is in
    let one : IsFirstFree names base found.name = record {
      number = found.number;
      is = is;
      free = unreserved_free set names found.name false h (ap is_reserved is ∙ suffixed_unreserved base found.number) first.free;
      before = λ k low. unreserved_free set names (suffixed base k) true h (suffixed_unreserved base k) (first.before k (omega arith) low);
    } in
    rw e one

-- the first inner name that the set lacks
pub inner_for : (set : BTreeSet (List ℕ)) (names : List (List ℕ)) (from : ℕ) (found : Numbered) → IsFirstUntaken set (codes "_n") from found → Holds set names → IsInner names from found.number
inner_for set names from found first h = record {
  low = first.low;
  free = unreserved_free set names (inner_name found.number) false h (inner_unreserved found.number) (ap (has set) (sym first.is) ∙ first.free);
  before = λ k low high. unreserved_free set names (inner_name k) true h (inner_unreserved k) (first.before k low high);
}
