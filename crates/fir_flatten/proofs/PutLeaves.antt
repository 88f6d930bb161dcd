-- What the loops over a design's modules have put so far.
use Rattle.std.proofs.Common.{◌≡◌, ℕ, zero, suc, ◌+◌, ◌-◌, ◌<◌, ◌≤◌, List, [], ◌∷◌, ◌++◌, Some, None, length, get_or, take, refl, sym, ap, ◌∙◌, arith, append_assoc, append-nil}
use Rattle.std.specs.Prelude.{flat_map, slice_get}
use Rattle.std.specs.List.{range_with_len}
use Rattle.std.proofs.lemmas.List.{length-set, take_more}
use Rattle.std.proofs.lemmas.List.Concat.{flat_map-append}
use Rattle.fir_elaborate.specs.declared.elaborated.ModuleCopy.{ModuleCopy}
use Rattle.fir_whens.specs.declared.net_role.NetRole.{NetRole}
use Rattle.fir_whens.specs.declared.net_role.NetRole.TheVariants as role
use Rattle.fir_flatten.specs.declared.design_net.DesignLeaf.{DesignLeaf}
use Rattle.fir_flatten.specs.declared.design_net.ModulePart.{ModulePart}
use Rattle.fir_flatten.specs.declared.offsets.Offsets.{Offsets}
use Rattle.fir_flatten.specs.working.MovedNets.{leaf_moved, role_moved}
use Rattle.fir_flatten.specs.working.PutModules.{copy_leaves, given, given_from, listed, main_part, part_leaf, part_leaves, part_of}

-- the main module's part
pub main_is : (parts : List ModulePart) (copies : List ModuleCopy) (k : ModuleCopy) → slice_get copies 0 ≡ Some k → main_part parts copies ≡ part_of parts k
main_is parts [] k e = cc
main_is parts (j ∷ ks) k e = let same : j ≡ k = cc in ap (part_of parts) same

pub main_none : (parts : List ModulePart) (copies : List ModuleCopy) → slice_get copies 0 ≡ None → main_part parts copies ≡ None
main_none parts [] e = refl
main_none parts (j ∷ ks) e = cc

pub range_more : (from n : ℕ) → range_with_len from (suc n) ≡ range_with_len from n ++ (from + n) ∷ []
range_more from zero = ap (λ x. x ∷ []) (omega arith)
range_more from (suc n) =
    let last : (from + 1) + n ≡ from + suc n = omega arith in
    ap (λ (xs : List ℕ). from ∷ xs) (range_more (from + 1) n) ∙ ap (λ x. from ∷ (range_with_len (from + 1) n ++ x ∷ [])) last

-- one leaf more
pub leaves_none : (prefix : List ℕ) (p : ModulePart) (from to : ℕ) → to ≤ from → part_leaves prefix p from to ≡ []
unfolding part_leaves
leaves_none prefix p from to le =
    let none : to - from ≡ 0 = omega arith in
    ap (λ n. flat_map (λ x. listed (part_leaf prefix p x)) (range_with_len from n)) none

pub leaves_more : (prefix : List ℕ) (p : ModulePart) (from x : ℕ) → from ≤ x
    → part_leaves prefix p from (x + 1) ≡ part_leaves prefix p from x ++ listed (part_leaf prefix p x)
unfolding part_leaves
leaves_more prefix p from x le =
    let one : (x + 1) - from ≡ suc (x - from) = omega arith in
    let last : from + (x - from) ≡ x = omega arith in
    let f : ℕ → List DesignLeaf = λ y. listed (part_leaf prefix p y) in
    ap (λ n. flat_map f (range_with_len from n)) one ∙ ap (flat_map f) (range_more from (x - from))
    ∙ flat_map-append f (range_with_len from (x - from)) ((from + (x - from)) ∷ [])
    ∙ ap (λ (ls : List DesignLeaf). flat_map f (range_with_len from (x - from)) ++ ls) (append-nil (f (from + (x - from))) ∙ ap f last)

pub leaves_step : (prefix : List ℕ) (p : ModulePart) (from x : ℕ) (start now next : List DesignLeaf) → from ≤ x → now ≡ start ++ part_leaves prefix p from x
    → next ≡ now ++ listed (part_leaf prefix p x) → next ≡ start ++ part_leaves prefix p from (x + 1)
leaves_step prefix p from x start now next le e f =
    f ∙ ap (λ (ls : List DesignLeaf). ls ++ listed (part_leaf prefix p x)) e
    ∙ append_assoc start (part_leaves prefix p from x) (listed (part_leaf prefix p x))
    ∙ ap (λ (ls : List DesignLeaf). start ++ ls) (sym (leaves_more prefix p from x le))

-- one copy more
pub copies_step : (parts : List ModulePart) (copies : List ModuleCopy) (x : ℕ) (k : ModuleCopy) (start now next : List DesignLeaf) → x < length copies
    → k ≡ get_or copies x k → now ≡ start ++ flat_map (copy_leaves parts) (take x copies) → next ≡ now ++ copy_leaves parts k
    → next ≡ start ++ flat_map (copy_leaves parts) (take (x + 1) copies)
copies_step parts copies x k start now next lt is e f =
    let F = copy_leaves parts in
    let more : take (x + 1) copies ≡ take x copies ++ k ∷ [] = take_more copies x k lt ∙ ap (λ j. take x copies ++ j ∷ []) (sym is) in
    f ∙ ap (λ (ls : List DesignLeaf). ls ++ F k) e ∙ append_assoc start (flat_map F (take x copies)) (F k)
    ∙ ap (λ (ls : List DesignLeaf). start ++ ls)
    (ap (λ (ls : List DesignLeaf). flat_map F (take x copies) ++ ls) (sym (append-nil (F k))) ∙ sym (flat_map-append F (take x copies) (k ∷ []))
    ∙ ap (flat_map F) (sym more))

pub leaves_same : (prefix : List ℕ) (p : ModulePart) (from x to : ℕ) → x - from ≡ to - from → part_leaves prefix p from x ≡ part_leaves prefix p from to
unfolding part_leaves
leaves_same prefix p from x to e = ap (λ n. flat_map (λ y. listed (part_leaf prefix p y)) (range_with_len from n)) e

length_one : (roles : List NetRole) (x : ℕ) (r : NetRole) → length (given roles x r) ≡ length roles
length_one roles x role.Source = refl
length_one roles x (role.Driven b) = length-set roles x (role.Driven b)
length_one roles x (role.Computed b) = length-set roles x (role.Computed b)
length_one roles x (role.Register clock reset next) = length-set roles x (role.Register clock reset next)
length_one roles x (role.Reading r) = length-set roles x (role.Reading r)
length_one roles x (role.Pipe r clock under) = length-set roles x (role.Pipe r clock under)

pub length_given : (at : Offsets) (x : ℕ) (rs roles : List NetRole) → length (given_from at x rs roles) ≡ length roles
length_given at x [] roles = refl
length_given at x (r ∷ rs) roles =
    length_given at (suc x) rs (given roles (leaf_moved at x) (role_moved at r)) ∙ length_one roles (leaf_moved at x) (role_moved at r)
