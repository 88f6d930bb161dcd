-- The orientation of the first leaf under a step, in joined lists, and in the elements of a vector; and of the first pair.
use Rattle.std.proofs.Common.{◌≡◌, ℕ, zero, suc, ◌+◌, ◌<◌, List, [], ◌∷◌, ◌++◌, Bool, true, false, not, map, get_or, length, refl, sym, ap, ◌∙◌}
use Rattle.std.specs.Prelude.{Option, Some, None, option_map}
use Rattle.std.specs.Option.{option_or}
use Rattle.std.specs.Bool.{beq}
use Rattle.fir_ast.specs.Types.{DataType}
use Rattle.fir_meaning.specs.LeafPaths.{Step, named}
use Rattle.fir_meaning.specs.TypeLeaves.{TypeLeaf, turned, under, element_leaves, field_leaves}
use Rattle.fir_meaning.specs.MemoryTypes.{first_one}
use Rattle.fir_meaning.specs.ConnectPairs.{Pair, partial_pairs}
use Rattle.fir_meaning.specs.Reaching.{field_of_type}
use Rattle.fir_meaning.specs.TypeKinds.{FieldFound}
use Rattle.fir_type_table.specs.declared.entry.Member.{Member}
use Rattle.fir_type_table.specs.working.First.{flip_of_first}
use Rattle.fir_type_table.specs.working.Lefts.{left_field_leaves, left_leaves, left_leaves_under}
use Rattle.fir_type_table.proofs.MemberLists.{members_from, members_next}
use Rattle.fir_type_table.proofs.WantedFields.{left_member_leaves, left_under_is, member_leaves}

pub flip_joined : (xs ys : List TypeLeaf) → flip_of_first (xs ++ ys) ≡ option_or (flip_of_first xs) (flip_of_first ys)
flip_joined [] ys = refl
flip_joined (x ∷ xs) ys = refl

pub flip_under : (flip : Bool) (s : Step) (ls : List TypeLeaf) → flip_of_first (map (under flip s) ls) ≡ option_map (turned flip) (flip_of_first ls)
flip_under flip s [] = refl
flip_under flip s (l ∷ ls) = refl

none_in_elements : (i n : ℕ) → flip_of_first (element_leaves i n []) ≡ None
none_in_elements i zero = refl
none_in_elements i (suc n) = none_in_elements (i + 1) n

-- all elements have the same leaves
pub flip_in_first : (n : ℕ) (ls : List TypeLeaf) → (n ≡ 0 → ⊥) → flip_of_first (element_leaves 0 n ls) ≡ flip_of_first ls
flip_in_first zero ls some = absurd (some refl)
flip_in_first (suc n) [] some = none_in_elements 1 n
flip_in_first (suc n) (l ∷ ls) some = refl

pub next_flip : (ts : List DataType) (ms : List Member) (i : ℕ) (m : Member) (w : Option Bool)
    → w ≡ flip_of_first (field_leaves (members_from ts ms i)) → i < length ms → m ≡ get_or ms i m
    → w ≡ option_or (flip_of_first (member_leaves ts m)) (flip_of_first (field_leaves (members_from ts ms (i + 1))))
next_flip ts ms i m w so_far within at =
    so_far ∙ ap (λ fs. flip_of_first (field_leaves fs)) (members_next ts ms i m within at)
    ∙ flip_joined (member_leaves ts m) (field_leaves (members_from ts ms (i + 1)))

pub next_left_flip : (ts : List DataType) (u : DataType) (ms : List Member) (i : ℕ) (m : Member) (w : Option Bool)
    → w ≡ flip_of_first (left_field_leaves (members_from ts ms i) u) → i < length ms → m ≡ get_or ms i m
    → w ≡ option_or (flip_of_first (left_member_leaves ts u m)) (flip_of_first (left_field_leaves (members_from ts ms (i + 1)) u))
next_left_flip ts u ms i m w so_far within at =
    so_far ∙ ap (λ fs. flip_of_first (left_field_leaves fs u)) (members_next ts ms i m within at)
    ∙ flip_joined (left_member_leaves ts u m) (left_field_leaves (members_from ts ms (i + 1)) u)

abbrev flip_of_first_pair : List Pair → Option Bool
flip_of_first_pair ps = option_map (λ p. p.left.flip) (first_one ps)

pub flip_of_lefts : (ps : List Pair) → flip_of_first_pair ps ≡ flip_of_first (map (λ (p : Pair). p.left) ps)
flip_of_lefts [] = refl
flip_of_lefts (p ∷ ps) = refl

-- found in the first of two parts, and not
pub flip_here : (w o q : Option Bool) (flip : Bool) → Some flip ≡ o → w ≡ option_or o q → Some flip ≡ w
flip_here w o q flip found joined = sym (joined ∙ ap (λ x. option_or x q) (sym found))

pub flip_passed : (w o q : Option Bool) → None ≡ o → w ≡ option_or o q → w ≡ q
flip_passed w o q none joined = joined ∙ ap (λ x. option_or x q) (sym none)

pub unequal_turns : (x flip : Bool) → not (beq x flip) ≡ turned flip x
unequal_turns true true = refl
unequal_turns true false = refl
unequal_turns false true = refl
unequal_turns false false = refl

-- of a field that the right side has too
pub left_flip_under : (flip : Bool) (x : List ℕ) (s t : DataType) (g : FieldFound) (o : Option Bool) → Some g ≡ field_of_type x t
    → o ≡ flip_of_first_pair (partial_pairs s g.data_type) → option_map (turned flip) o ≡ flip_of_first (left_leaves_under flip x s t)
left_flip_under flip x s t g o found same =
    ap (option_map (turned flip)) (same ∙ flip_of_lefts (partial_pairs s g.data_type)) ∙ sym (flip_under flip (named x) (left_leaves s g.data_type))
    ∙ ap flip_of_first (sym (left_under_is flip x s t g found))
