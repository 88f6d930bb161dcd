-- The first wanted leaf among the fields of a bundle, field by field.
use Rattle.std.proofs.Common.{◌≡◌, ℕ, ◌+◌, ◌<◌, List, Bool, true, false, map, get_or, length, [], sym, ap, ◌∙◌}
use Rattle.std.specs.Prelude.{Option, Some}
use Rattle.std.specs.Option.{option_or}
use Rattle.fir_ast.specs.Types.{DataType}
use Rattle.fir_meaning.specs.TypeKinds.{FieldFound}
use Rattle.fir_meaning.specs.Equivalence.{met}
use Rattle.fir_meaning.specs.Reaching.{field_of_type}
use Rattle.fir_meaning.specs.LeafPaths.{LeafPath, named}
use Rattle.fir_meaning.specs.TypeLeaves.{TypeLeaf, type_leaves, field_leaves, under}
use Rattle.fir_type_table.specs.declared.entry.Member.{Member}
use Rattle.fir_type_table.specs.working.Tables.{type_at}
use Rattle.fir_type_table.specs.working.Wanted.{first_wanted}
use Rattle.fir_type_table.specs.working.Lefts.{left_leaves, left_leaves_under, left_field_leaves}
use Rattle.fir_type_table.proofs.MemberLists.{members_from, members_next}
use Rattle.fir_type_table.proofs.WantedPaths.{behind, wanted_joined, wanted_straight, wanted_flipped}

abbrev pub member_leaves : List DataType → Member → List TypeLeaf
member_leaves ts m = map (under m.flip (named m.name)) (type_leaves (type_at ts m.ty.number))

abbrev pub left_member_leaves : List DataType → DataType → Member → List TypeLeaf
left_member_leaves ts u m = left_leaves_under m.flip m.name (type_at ts m.ty.number) u

pub next_wanted : (straight flipped : Bool) (ts : List DataType) (ms : List Member) (i : ℕ) (m : Member) (w : Option LeafPath)
    → w ≡ first_wanted straight flipped (field_leaves (members_from ts ms i)) → i < length ms → m ≡ get_or ms i m
    → w ≡ option_or (first_wanted straight flipped (member_leaves ts m)) (first_wanted straight flipped (field_leaves (members_from ts ms (i + 1))))
next_wanted straight flipped ts ms i m w so_far within at =
    so_far ∙ ap (λ fs. first_wanted straight flipped (field_leaves fs)) (members_next ts ms i m within at)
    ∙ wanted_joined straight flipped (member_leaves ts m) (field_leaves (members_from ts ms (i + 1)))

pub next_left_wanted : (straight flipped : Bool) (ts : List DataType) (u : DataType) (ms : List Member) (i : ℕ) (m : Member) (w : Option LeafPath)
    → w ≡ first_wanted straight flipped (left_field_leaves (members_from ts ms i) u) → i < length ms → m ≡ get_or ms i m
    → w ≡ option_or (first_wanted straight flipped (left_member_leaves ts u m)) (first_wanted straight flipped (left_field_leaves (members_from ts ms (i + 1)) u))
next_left_wanted straight flipped ts u ms i m w so_far within at =
    so_far ∙ ap (λ fs. first_wanted straight flipped (left_field_leaves fs u)) (members_next ts ms i m within at)
    ∙ wanted_joined straight flipped (left_member_leaves ts u m) (left_field_leaves (members_from ts ms (i + 1)) u)

-- in one field, which is flipped or not
pub in_flipped : (straight flipped flip : Bool) (x : List ℕ) (ls : List TypeLeaf) → flip ≡ true
    → first_wanted straight flipped (map (under flip (named x)) ls) ≡ behind (named x) (first_wanted flipped straight ls)
in_flipped straight flipped flip x ls e =
    ap (λ b. first_wanted straight flipped (map (under b (named x)) ls)) e ∙ wanted_flipped straight flipped (named x) ls

pub in_straight : (straight flipped flip : Bool) (x : List ℕ) (ls : List TypeLeaf) → flip ≡ false
    → first_wanted straight flipped (map (under flip (named x)) ls) ≡ behind (named x) (first_wanted straight flipped ls)
in_straight straight flipped flip x ls e =
    ap (λ b. first_wanted straight flipped (map (under b (named x)) ls)) e ∙ wanted_straight straight flipped (named x) ls

-- of a field that the right side has too
pub left_under_is : (flip : Bool) (x : List ℕ) (s t : DataType) (g : FieldFound) → Some g ≡ field_of_type x t
    → left_leaves_under flip x s t ≡ map (under flip (named x)) (left_leaves s g.data_type)
left_under_is flip x s t g found = ap (met [] (λ h. map (under flip (named x)) (left_leaves s h.data_type))) (sym found)
