-- Fields that meet by their names.
use Rattle.std.proofs.Common.{◌≡◌, ℕ, ◌+◌, ◌^◌, ◌<◌, ◌≤◌, List, [], ◌++◌, map, length, get_or, Bool, true, Some, None, refl, sym, ap, ◌∙◌, subst, append_assoc, arith}
use Rattle.std.proofs.lemmas.List.{append-nil, map-append}
use Rattle.fir_ast.specs.Types.{DataType, bundle, Fields}
use Rattle.fir_meaning.specs.TypeLeaves.{turned, leaf_count, field_count}
use Rattle.fir_meaning.specs.TypeKinds.{FieldFound, field_named}
use Rattle.fir_meaning.specs.Reaching.{field_of_type}
use Rattle.fir_meaning.specs.Equivalence.{met}
use Rattle.fir_meaning.specs.working.LeafPairs.{LeafPair, past, turned_pair, partial_leaf_pairs, partial_field_leaf_pairs}
use Rattle.fir_type_table.specs.declared.entry.Member.{Member}
use Rattle.fir_type_table.specs.declared.kind.TypeId.{TypeId}
use Rattle.fir_type_table.specs.working.Saturated.{saturated}
use Rattle.fir_meaning.specs.working.FieldSizes.{leaves_before, leaves_before_field}
use Rattle.fir_type_table.specs.working.Tables.{type_at, member_of, member_fields}
use Rattle.fir_type_table.proofs.MemberLists.{members_from, members_next, members_end}
use Rattle.fir_leaf_pairs.specs.declared.pairs.LeafPair.{LeafPair as PairOfCode}
use Rattle.fir_leaf_pairs.specs.declared.pairs.Part.{Part}
use Rattle.fir_leaf_pairs.specs.working.Pairing.{Meets, Paired, placed, part_type, PairsParts, PairsNamed, PairsNamedFields, named_pairs}
use Rattle.fir_leaf_pairs.proofs.PairNumbers.{field_before}
use Rattle.fir_leaf_pairs.proofs.PairPlaces.{placed_turned, placed_past, paired_none, paired_then, paired_as}

-- the right side has no such field
pub named_none : (ts : List DataType) (flip : Bool) (m : Member) (l : ℕ) (right : Part) (old : List PairOfCode)
    → field_of_type m.name (part_type ts right) ≡ None
    → PairsNamed ts flip m l right old old
named_none ts flip m l right old none = λ gs is meets.
    let e : field_named m.name gs ≡ None = ap (field_of_type m.name) (sym is) ∙ none in
    let t : DataType = type_at ts m.ty.number in
    let no_pairs : named_pairs m.flip m.name t gs ≡ [] =
    ap (met [] (λ g. map (turned_pair m.flip) (map (past 0 (leaves_before_field m.name gs)) (partial_leaf_pairs t g.data_type)))) e in
    paired_as old old [] (map (placed flip l right.first) (named_pairs m.flip m.name t gs)) (ap (map (placed flip l right.first)) (sym no_pairs))
    (paired_none old)

-- it has one of this type, behind so many leaves
pub named_one : (ts : List DataType) (flip turn : Bool) (m : Member) (l first offset : ℕ) (right : Part) (id : TypeId) (g : FieldFound)
    (old new : List PairOfCode)
    → g.data_type ≡ type_at ts id.number → field_of_type m.name (part_type ts right) ≡ Some g → offset ≡ saturated (leaves_before m.name (part_type ts right))
    → first ≡ saturated (right.first + offset) → turn ≡ turned flip m.flip
    → PairsParts ts true turn (record { ty = m.ty; first = l }) (record { ty = id; first = first }) old new → PairsNamed ts flip m l right old new
named_one ts flip turn m l first offset right id g old new is_type found at is_first is_turn pairs = λ gs is meets.
    let t : DataType = type_at ts m.ty.number in
    let u : DataType = type_at ts id.number in
    let r : ℕ = right.first in
    let before : ℕ = leaves_before_field m.name gs in
    let named : field_named m.name gs ≡ Some g = ap (field_of_type m.name) (sym is) ∙ found in
    let behind : offset ≡ saturated before = at ∙ ap (λ x. saturated (leaves_before m.name x)) is in
    let fits : before + leaf_count u ≤ field_count gs = subst (λ x. before + leaf_count x ≤ field_count gs) is_type (field_before m.name gs g named) in
    let room : r + field_count gs < 2 ^ 64 = meets.right in
    let exact : first ≡ r + before = omega arith in
    let here : Meets true l first t u = record { joins = tt; left = meets.left; right = omega arith } in
    let ps : List LeafPair = partial_leaf_pairs t u in
    let zero : l + 0 ≡ l = omega arith in
    let own : map (placed flip l r) (named_pairs m.flip m.name t gs) ≡ map (placed turn l first) ps =
    ap (λ o. map (placed flip l r) (met [] (λ g. map (turned_pair m.flip) (map (past 0 before) (partial_leaf_pairs t g.data_type))) o)) named
    ∙ ap (λ x. map (placed flip l r) (map (turned_pair m.flip) (map (past 0 before) (partial_leaf_pairs t x)))) is_type
    ∙ placed_turned flip m.flip l r (map (past 0 before) ps) ∙ placed_past (turned flip m.flip) l r 0 before ps
    ∙ ap (λ x. map (placed (turned flip m.flip) x (r + before)) ps) zero
    ∙ ap (λ x. map (placed (turned flip m.flip) l x) ps) (sym exact) ∙ ap (λ w. map (placed w l first) ps) (sym is_turn) in
    paired_as old new (map (placed turn l first) ps) (map (placed flip l r) (named_pairs m.flip m.name t gs)) (sym own) (pairs here)

-- what has come, and what is left
pub record NamesLeft (ts : List DataType) (flip : Bool) (l r : ℕ) (fs : List Member) (gs : Fields) (i first : ℕ) (old new : List PairOfCode) : Type 0 where
  pub done : List LeafPair
  pub paired : Paired old new done
  pub meets : Meets true first r (bundle (members_from ts fs i)) (bundle gs)
  pub all : done ++ map (placed flip first r) (partial_field_leaf_pairs (members_from ts fs i) gs) ≡ map (placed flip l r)
      (partial_field_leaf_pairs (member_fields ts fs) gs)

abbrev pub NamesSoFar : List DataType → Bool → ℕ → Part → List Member → ℕ → ℕ → List PairOfCode → List PairOfCode → Type 0
NamesSoFar ts flip l right fs i first old new =
    (gs : Fields) → part_type ts right ≡ bundle gs → Meets true l right.first (bundle (member_fields ts fs)) (bundle gs)
    → NamesLeft ts flip l right.first fs gs i first old new

pub names_none : (ts : List DataType) (flip : Bool) (l : ℕ) (right : Part) (fs : List Member) (old : List PairOfCode)
    → NamesSoFar ts flip l right fs 0 l old old
names_none ts flip l right fs old = λ gs is meets. record { done = []; paired = paired_none old; meets = meets; all = refl }

pub names_more : (ts : List DataType) (flip : Bool) (l : ℕ) (right : Part) (fs : List Member) (i first next : ℕ) (m : Member) (old mid new : List PairOfCode)
    → NamesSoFar ts flip l right fs i first old mid → i < length fs → m ≡ get_or fs i m → PairsNamed ts flip m first right mid new
    → next ≡ saturated (first + saturated (leaf_count (type_at ts m.ty.number))) → NamesSoFar ts flip l right fs (i + 1) next old new
names_more ts flip l right fs i first next m old mid new so_far less m_is pairs next_is = λ gs is start.
    let now = so_far gs is start in
    let rest : Fields = members_from ts fs (i + 1) in
    let t : DataType = type_at ts m.ty.number in
    let r : ℕ = right.first in
    let left_is = members_next ts fs i m less m_is in
    let meets : Meets true first r (bundle (member_of ts m rest)) (bundle gs) = subst (λ x. Meets true first r (bundle x) (bundle gs)) left_is now.meets in
    let room : first + (leaf_count t + field_count rest) < 2 ^ 64 = meets.left in
    let here : Meets true first r t (bundle gs) = record { joins = tt; left = omega arith; right = meets.right } in
    let own : List LeafPair = map (placed flip first r) (named_pairs m.flip m.name t gs) in
    let exact : next ≡ first + leaf_count t = omega arith in
    let zero : r + 0 ≡ r = omega arith in
    let both : map (placed flip first r) (partial_field_leaf_pairs (members_from ts fs i) gs)
    ≡ own ++ map (placed flip (first + leaf_count t) r) (partial_field_leaf_pairs rest gs) =
    ap (λ x. map (placed flip first r) (partial_field_leaf_pairs x gs)) left_is
    ∙ map-append (placed flip first r) (named_pairs m.flip m.name t gs) (map (past (leaf_count t) 0) (partial_field_leaf_pairs rest gs))
    ∙ ap (λ ps. own ++ ps) (placed_past flip first r (leaf_count t) 0 (partial_field_leaf_pairs rest gs))
    ∙ ap (λ y. own ++ map (placed flip (first + leaf_count t) y) (partial_field_leaf_pairs rest gs)) zero in
    let room_behind : next + field_count rest < 2 ^ 64 = omega arith in
    record {
      done = now.done ++ own;
      paired = paired_then old mid new now.done own now.paired (pairs gs is here);
      meets = record { joins = tt; left = room_behind; right = meets.right };
      all =
          ap (λ x. (now.done ++ own) ++ map (placed flip x r) (partial_field_leaf_pairs rest gs)) exact
          ∙ append_assoc now.done own (map (placed flip (first + leaf_count t) r) (partial_field_leaf_pairs rest gs))
          ∙ ap (λ ps. now.done ++ ps) (sym both) ∙ now.all;
    }

pub names_all : (ts : List DataType) (flip : Bool) (l : ℕ) (right : Part) (fs : List Member) (i first : ℕ) (old new : List PairOfCode)
    → length fs ≤ i → NamesSoFar ts flip l right fs i first old new → PairsNamedFields ts flip l right fs old new
names_all ts flip l right fs i first old new end so_far = λ gs is start.
    let now = so_far gs is start in
    let r : ℕ = right.first in
    let whole : now.done ≡ map (placed flip l r) (partial_field_leaf_pairs (member_fields ts fs) gs) =
    sym (append-nil now.done) ∙ ap (λ x. now.done ++ map (placed flip first r) (partial_field_leaf_pairs x gs)) (sym (members_end ts fs i end)) ∙ now.all in
    paired_as old new now.done (map (placed flip l r) (partial_field_leaf_pairs (member_fields ts fs) gs)) whole now.paired
