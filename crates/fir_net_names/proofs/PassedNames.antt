-- The numbers from which the names of bases are searched: those below are passed.
use Rattle.std.proofs.Common.{◌≡◌, ℕ, ◌+◌, ◌^◌, ◌<◌, ◌≤◌, List, ◌++◌, Bool, true, false, cond, length, refl, sym, ap, ◌∙◌, ⊎_elim, subst, arith}
use Rattle.std.specs.Prelude.{Some, None, Result, Ok, Err, OnOk, OnErr, codes, decimal}
use Rattle.std.specs.BTreeMap.{BTreeMap, get, is_at}
use Rattle.std.specs.BTreeMap as tree
use Rattle.std.specs.BTreeSet.{BTreeSet}
use Rattle.std.specs.BTreeSet as sorted
use Rattle.std.specs.List.{list_any}
use Rattle.std.specs.Map.{lookup}
use Rattle.std.specs.Cmp.Lexicographic.{slice_cmp}
use Rattle.std.specs.Ordering.{nat_cmp}
use Rattle.std.specs.Str.{bytes_eq}
use Rattle.std.proofs.lemmas.Bool.{cases_lt}
use Rattle.std.proofs.lemmas.Map.Text.{is_eq-slice_cmp}
use Rattle.fir_base.proofs.SameNames.{name_is}
use Rattle.fir_net_names.specs.declared.numbered.Numbered.{Numbered}
use Rattle.fir_net_names.specs.Names.{suffixed}
use Rattle.fir_net_names.specs.working.NameSets.{ArePassed, IsPassed, IsFirstUntaken, has}
use Rattle.fir_net_names.proofs.Untaken.{as_many}

-- no base has a number
pub none_passed : (set : BTreeSet (List ℕ)) (numbers : BTreeMap (List ℕ) ℕ) → tree.IsEmpty numbers → ArePassed set numbers
none_passed set numbers empty = record {
  each = λ base number at. absurd (let none : get (slice_cmp nat_cmp) numbers base ≡ None = ap (lookup (is_at (slice_cmp nat_cmp base))) empty in cc);
}

true_both : (b : Bool) → cond b true true ≡ true
true_both true = refl
true_both false = refl

passed_longer : (old new : BTreeSet (List ℕ)) (name : List ℕ) (numbers : BTreeMap (List ℕ) ℕ) → ArePassed old numbers → sorted.Updates (slice_cmp nat_cmp) old new name true → ArePassed new numbers
passed_longer old new name numbers p u = record {
  each = λ base number at k low.
      u.0 (suffixed base k)
      ∙ ap (cond (is_at (slice_cmp nat_cmp name) (suffixed base k)) true) (p.each base number at k low)
      ∙ true_both (is_at (slice_cmp nat_cmp name) (suffixed base k));
}

passed_same : (old new : BTreeSet (List ℕ)) (numbers : BTreeMap (List ℕ) ℕ) → ArePassed old numbers → sorted.IsUnchanged old new → ArePassed new numbers
passed_same old new numbers p same = record {
  each = λ base number at k low. ap (list_any (is_at (slice_cmp nat_cmp (suffixed base k)))) same ∙ p.each base number at k low;
}

-- what is passed stays passed, whether a name is added or there is no memory for it
pub still_passed : {T E : Type 0} (r : Result T E) (old new : BTreeSet (List ℕ)) (name : List ℕ) (numbers : BTreeMap (List ℕ) ℕ) → OnOk r (sorted.Updates (slice_cmp nat_cmp) old new name true) → OnErr r (sorted.IsUnchanged old new) → ArePassed old numbers → ArePassed new numbers
still_passed (Ok x) old new name numbers u same p = passed_longer old new name numbers p u
still_passed (Err e) old new name numbers u same p = passed_same old new numbers p same

passed_more : (set : BTreeSet (List ℕ)) (old new : BTreeMap (List ℕ) ℕ) (base : List ℕ) (number : ℕ) → IsPassed set base number → ArePassed set old → tree.Updates (slice_cmp nat_cmp) old new base (Some number) → ArePassed set new
passed_more set old new base number here p u = record {
  each = λ other n at. choose other n (bytes_eq base other) refl (sym (u.0 other ∙ ap (λ b. cond b (Some number) (get (slice_cmp nat_cmp) old other)) (is_eq-slice_cmp base other)) ∙ at);
}
  where
    choose : (other : List ℕ) (n : ℕ) (b : Bool) → bytes_eq base other ≡ b → cond b (Some number) (get (slice_cmp nat_cmp) old other) ≡ Some n → IsPassed set other n
    choose other n true e at = let same : number ≡ n = cc in subst (λ m. IsPassed set other m) same (subst (λ q. IsPassed set q number) (name_is base other e) here)
    choose other n false e at = p.each other n at

-- one base gets another number, or there is no memory for it
pub passed_set : {T E : Type 0} (r : Result T E) (set : BTreeSet (List ℕ)) (old new : BTreeMap (List ℕ) ℕ) (base : List ℕ) (number : ℕ) → IsPassed set base number → OnOk r (tree.Updates (slice_cmp nat_cmp) old new base (Some number)) → OnErr r (tree.IsUnchanged old new) → ArePassed set old → ArePassed set new
passed_set (Ok x) set old new base number here u same p = passed_more set old new base number here p u
passed_set (Err e) set old new base number here u same p = record {
  each = λ other n at. p.each other n (sym (ap (lookup (is_at (slice_cmp nat_cmp other))) same) ∙ at);
}

-- the first name from a number on below which all are taken is the first of all
pub first_of_all : (set : BTreeSet (List ℕ)) (base front : List ℕ) (from : ℕ) (found : Numbered) → front ≡ base ++ codes "_" → from < 2 ^ 64 → IsPassed set base from → IsFirstUntaken set front from found → IsFirstUntaken set (base ++ codes "_") 0 found
first_of_all set base front from found begins small passed first =
    let before : (k : ℕ) → 0 ≤ k → k < found.number → has set (suffixed base k) ≡ true = λ k low high.
    ⊎_elim
    (λ (h : k < from). passed k h)
    (λ (h : from ≤ k). subst (λ f. has set (f ++ decimal k) ≡ true) begins (first.before k h high))
    (cases_lt k from) in
    let wide : found.number < from + 2 ^ 63 = first.high in
    let many : found.number ≤ length set.keys = as_many set (base ++ codes "_") 0 found.number (omega arith) (λ k low high. before k low (omega arith)) in
    let few : length set.keys < 2 ^ 63 = first.few in
    record {
      low = omega arith;
      high = omega arith;
      few = few;
      is = first.is ∙ ap (λ f. f ++ decimal found.number) begins;
      free = first.free;
      before = before;
    }
